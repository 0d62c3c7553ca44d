-- Coefficients of a product with what stands from a place on.
use Rattle.std.proofs.Common.{◌≡◌, ℕ, zero, suc, ◌+◌, ◌-◌, ◌*◌, ◌<◌, ◌≤◌, List, [], ◌∷◌, length, drop, slice_index, refl, sym, ◌∙◌, ap, arith, inl, inr}
use Rattle.std.proofs.lemmas.Bool.{cases_eq}
use Rattle.prime_field.specs.Sum.{sum_to}
use Rattle.prime_field.proofs.Sums.{sum-same}
use Rattle.univariate.specs.Coefficients.{multiple, raised, product_of}
use Rattle.univariate.proofs.Coefficients.{at-beyond, at-sum, at-multiple, at-raised, at-raised_low}

-- a coefficient of a product, one coefficient of the left factor taken out
at-product_cons : (a : ℕ) (p q : List ℕ) (j : ℕ) → slice_index (product_of (a ∷ p) q) j ≡ a * slice_index q j + slice_index (0 ∷ product_of p q) j
at-product_cons a p q j = at-sum (multiple a q) (0 ∷ product_of p q) j ∙ ap (λ t. t + slice_index (0 ∷ product_of p q) j) (at-multiple a q j)

-- below the place nothing
product-raised_low : (p : List ℕ) (s : ℕ) (q : List ℕ) (j : ℕ) → j < s → slice_index (product_of p (raised s q)) j ≡ 0
product-raised_low [] s q j low = refl
product-raised_low (a ∷ p) s q zero low =
    at-product_cons a p (raised s q) 0 ∙ ap (λ t. a * t + 0) (at-raised_low s q 0 low) ∙ omega arith
product-raised_low (a ∷ p) s q (suc j) low =
    at-product_cons a p (raised s q) (suc j) ∙ ap (λ t. a * t + slice_index (product_of p (raised s q)) j) (at-raised_low s q (suc j) low) ∙
    omega (arith, product-raised_low p s q j (omega arith))

-- from it on the product with the list itself
product-raised : (p : List ℕ) (s : ℕ) (q : List ℕ) (i j : ℕ) → j ≡ s + i → slice_index (product_of p (raised s q)) j ≡ slice_index (product_of p q) i
product-raised [] s q i j place = refl
product-raised (a ∷ p) s q i zero place =
    at-product_cons a p (raised s q) 0 ∙ ap (λ t. a * t + 0) (at-raised s q 0 i place) ∙
    ap (λ t. a * slice_index q i + t) (first i (omega (arith, place))) ∙ sym (at-product_cons a p q i)
  where
    first : (i : ℕ) → i ≡ 0 → 0 ≡ slice_index (0 ∷ product_of p q) i
    first zero none = refl
    first (suc i) none = absurd (omega arith)
product-raised (a ∷ p) s q zero (suc j) place =
    at-product_cons a p (raised s q) (suc j) ∙ ap (λ t. a * t + slice_index (product_of p (raised s q)) j) (at-raised s q (suc j) 0 place) ∙
    ap (λ t. a * slice_index q 0 + t) (product-raised_low p s q j (omega arith)) ∙ sym (at-product_cons a p q 0)
product-raised (a ∷ p) s q (suc i) (suc j) place =
    at-product_cons a p (raised s q) (suc j) ∙ ap (λ t. a * t + slice_index (product_of p (raised s q)) j) (at-raised s q (suc j) (suc i) place) ∙
    ap (λ t. a * slice_index q (suc i) + t) (product-raised p s q i j (omega arith)) ∙ sym (at-product_cons a p q (suc i))

-- below the sum of the place and the left factor's least exponent nothing
pub product-low : (p : List ℕ) (e s : ℕ) (q : List ℕ) (j : ℕ) → ((k : ℕ) → k < e → slice_index p k ≡ 0) → j < s + e → slice_index (product_of p (raised s q)) j ≡ 0
product-low [] e s q j zeros low = refl
product-low (a ∷ p) zero s q j zeros low = product-raised_low (a ∷ p) s q j (omega arith)
product-low (a ∷ p) (suc e) s q zero zeros low =
    at-product_cons a p (raised s q) 0 ∙ ap (λ t. t * slice_index (raised s q) 0 + 0) (zeros 0 (omega arith)) ∙ omega arith
product-low (a ∷ p) (suc e) s q (suc j) zeros low =
    at-product_cons a p (raised s q) (suc j) ∙ ap (λ t. t * slice_index (raised s q) (suc j) + slice_index (product_of p (raised s q)) j) (zeros 0 (omega arith)) ∙
    omega (arith, product-low p e s q j (λ k below. zeros (suc k) (omega arith)) (omega arith))

-- from the least exponent on: its coefficient times an entry, and what the coefficients above it give
product-at : (p : List ℕ) (e : ℕ) (q : List ℕ) (i j : ℕ) → ((k : ℕ) → k < e → slice_index p k ≡ 0) → j ≡ e + i →
    slice_index (product_of p q) j ≡ slice_index p e * slice_index q i + slice_index (0 ∷ product_of (drop (suc e) p) q) i
product-at [] e q zero j zeros place = omega arith
product-at [] e q (suc i) j zeros place = omega arith
product-at (a ∷ p) zero q i j zeros place = ap (slice_index (product_of (a ∷ p) q)) (omega (arith, place)) ∙ at-product_cons a p q i
product-at (a ∷ p) (suc e) q i zero zeros place = absurd (omega arith)
product-at (a ∷ p) (suc e) q i (suc j) zeros place =
    at-product_cons a p q (suc j) ∙ ap (λ t. t * slice_index q (suc j) + slice_index (product_of p q) j) (zeros 0 (omega arith)) ∙
    omega (arith, product-at p e q i j (λ k below. zeros (suc k) (omega arith)) (omega arith))

-- the same where the right factor stands from a place on
pub product-raised_at : (p : List ℕ) (e s : ℕ) (q : List ℕ) (i j : ℕ) → ((k : ℕ) → k < e → slice_index p k ≡ 0) → j ≡ s + e + i →
    slice_index (product_of p (raised s q)) j ≡ slice_index p e * slice_index q i + slice_index (0 ∷ product_of (drop (suc e) p) q) i
product-raised_at p e s q i j zeros place =
    product-raised p s q (e + i) j (omega arith) ∙ product-at p e q i (e + i) zeros refl

-- a coefficient of a product depends on no later entry of the right factor
product-prefix : (p q r : List ℕ) (j : ℕ) → ((k : ℕ) → k ≤ j → slice_index q k ≡ slice_index r k) → slice_index (product_of p q) j ≡ slice_index (product_of p r) j
product-prefix [] q r j same = refl
product-prefix (a ∷ p) q r zero same =
    at-product_cons a p q 0 ∙ ap (λ t. a * t + 0) (same 0 (omega arith)) ∙ sym (at-product_cons a p r 0)
product-prefix (a ∷ p) q r (suc j) same =
    at-product_cons a p q (suc j) ∙ ap (λ t. a * t + slice_index (product_of p q) j) (same (suc j) (omega arith)) ∙
    ap (λ t. a * slice_index r (suc j) + t) (product-prefix p q r j (λ k low. same k (omega arith))) ∙ sym (at-product_cons a p r (suc j))

pub shifted-prefix : (p q r : List ℕ) (i : ℕ) → ((k : ℕ) → k < i → slice_index q k ≡ slice_index r k) → slice_index (0 ∷ product_of p q) i ≡ slice_index (0 ∷ product_of p r) i
shifted-prefix p q r zero same = refl
shifted-prefix p q r (suc i) same = product-prefix p q r i (λ k low. same k (omega arith))

-- the first summand of a sum
sum-front : (n : ℕ) (f : ℕ → ℕ) → sum_to (suc n) f ≡ f 0 + sum_to n (λ k. f (suc k))
sum-front zero f = omega arith
sum-front (suc n) f = omega (arith, sum-front n f)

-- a sum ends where its summands do
pub sum-short : (n i : ℕ) (f : ℕ → ℕ) → n ≤ i → ((k : ℕ) → n ≤ k → f k ≡ 0) → sum_to i f ≡ sum_to n f
sum-short n zero f low zeros = let none : 0 ≡ n = omega arith in ap (λ k. sum_to k f) none
sum-short n (suc i) f low zeros =
    elim (cases_eq n (suc i)) [
      | inl same ↦ ap (λ k. sum_to k f) (sym same)
      | inr other ↦ omega (arith, sum-short n i f (omega arith) zeros, zeros i (omega arith))
    ]

-- a coefficient of a product as a sum
pub at-product : (p q : List ℕ) (j : ℕ) → slice_index (product_of p q) j ≡ sum_to (suc j) (λ h. slice_index p h * slice_index q (j - h))
at-product [] q j = sym (sum-short 0 (suc j) (λ h. slice_index [] h * slice_index q (j - h)) (omega arith) (λ k from. omega arith))
at-product (a ∷ p) q zero = at-product_cons a p q 0 ∙ omega arith
at-product (a ∷ p) q (suc j) =
    let f : ℕ → ℕ = λ h. slice_index (a ∷ p) h * slice_index q (suc j - h) in
    let whole : suc j ≡ suc j - 0 = omega arith in
    at-product_cons a p q (suc j) ∙
    ap (λ t. a * slice_index q (suc j) + t)
    (at-product p q j ∙ sum-same (suc j) (λ h. slice_index p h * slice_index q (j - h)) (λ h. slice_index p h * slice_index q (suc j - suc h))
    (λ h low. ap (λ k. slice_index p h * slice_index q k) (omega arith))) ∙
    ap (λ k. a * slice_index q k + sum_to (suc j) (λ h. slice_index p h * slice_index q (suc j - suc h))) whole ∙
    sym (sum-front (suc j) f)

-- what the first terms give at the next place, as a sum that ends with either list
pub earlier-sum : (p q : List ℕ) (l n : ℕ) → n ≤ l → (n < l → length p ≤ n) → sum_to n (λ h. slice_index p h * slice_index q (l - 1 - h)) ≡ slice_index (0 ∷ product_of p q) l
earlier-sum p q zero n low ends = let none : n ≡ 0 = omega arith in ap (λ k. sum_to k (λ h. slice_index p h * slice_index q (0 - 1 - h))) none
earlier-sum p q (suc l) n low ends =
    sum-same n (λ h. slice_index p h * slice_index q (suc l - 1 - h)) (λ h. slice_index p h * slice_index q (l - h))
    (λ h below. ap (λ k. slice_index p h * slice_index q k) (omega arith)) ∙
    elim (cases_eq n (suc l)) [
      | inl same ↦ ap (λ k. sum_to k (λ h. slice_index p h * slice_index q (l - h))) same
      | inr other ↦ sym (sum-short n (suc l) (λ h. slice_index p h * slice_index q (l - h)) low
          (λ k from. ap (λ t. t * slice_index q (l - k)) (at-beyond p k (omega (arith, ends (omega arith)))) ∙ omega arith))
    ] ∙
    sym (at-product p q l)
