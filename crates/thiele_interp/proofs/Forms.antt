-- The pairs of Thiele's continued fraction: their degrees, where they agree with the samples, and that each agreeing pair is
-- a multiple of the last. The inverse difference of level i at point j is r i j.
use Rattle.std.proofs.Common.{◌≡◌, ℕ, zero, suc, ◌+◌, ◌-◌, ◌*◌, ◌%◌, ◌<◌, ◌≤◌, List, [], ◌∷◌, slice_index, refl, sym, ◌∙◌, ap, arith, inl, inr}
use Rattle.std.proofs.Math.Nat.{zero-mod, mod-eq_of_lt, add-mul-mod_self_right, eq_of_mul-eq-mul_left}
use Rattle.std.proofs.lemmas.Bool.{cases_eq, cases_lt}
use Rattle.prime_field.specs.Residue.{IsUnit}
use Rattle.prime_field.proofs.Residues.{add-cong, mul-cong, cancel}
use Rattle.univariate.specs.Univariate.{univariate_value, AllVanish, AreApart}
use Rattle.univariate.specs.Coefficients.{sum_of, multiple, product_of, IsBelow, Alike}
use Rattle.univariate.proofs.Coefficients.{at-sum, at-multiple, value-sum, value-multiple, value-product, difference_of_same}
use Rattle.univariate.proofs.Degrees.{below-more, below-sum, below-multiple, below-cancel, product-vanish, vanish-below}
use Rattle.univariate.proofs.Division.{divide}
use Rattle.thiele_interp.specs.Pairs.{AgreesAt, IsAgreeing, IsMultiple}
use Rattle.thiele_interp.specs.Thiele.{thiele_part}
use Rattle.thiele_interp.proofs.Stopped.{across, below-factors, left_agrees, alike_by_nothing, alike_without, quotient_low}

-- sums that are the same at each large x have the same constant
heads : (b a c : ℕ) (p q : ℕ → ℕ) → ((x : ℕ) → b ≤ x → a + x * p x ≡ c + x * q x) → (a ≡ c) × ((x : ℕ) → suc b ≤ x → p x ≡ q x)
heads b a c p q same =
    let first : a ≡ c =
    let x = suc (a + c + b) in
    sym (mod-eq_of_lt (omega arith)) ∙
    sym (add-mul-mod_self_right a (p x) x) ∙
    ap (λ s. s % x) (omega (arith, same x (omega arith))) ∙
    add-mul-mod_self_right c (q x) x ∙
    mod-eq_of_lt (omega arith) in (
      first,
      λ x large. eq_of_mul-eq-mul_left x (omega arith) (p x) (q x) (omega (arith, same x (omega arith), first)),
    )

-- polynomials with the same value at each large x have the same coefficients
determined : (b : ℕ) (p q : List ℕ) → ((x : ℕ) → b ≤ x → univariate_value p x ≡ univariate_value q x) → (i : ℕ) → slice_index p i ≡ slice_index q i
determined b [] [] same i = refl
determined b [] (c ∷ q) same i =
    let both = heads b 0 c (λ x. 0) (univariate_value q) (λ x large. omega (arith, same x large)) in
    entry both.0 (determined (suc b) [] q both.1) i
  where
    entry : 0 ≡ c → ((j : ℕ) → 0 ≡ slice_index q j) → (j : ℕ) → 0 ≡ slice_index (c ∷ q) j
    entry first rest zero = first
    entry first rest (suc j) = rest j
determined b (a ∷ p) [] same i =
    let both = heads b a 0 (univariate_value p) (λ x. 0) (λ x large. omega (arith, same x large)) in
    entry both.0 (determined (suc b) p [] both.1) i
  where
    entry : a ≡ 0 → ((j : ℕ) → slice_index p j ≡ 0) → (j : ℕ) → slice_index (a ∷ p) j ≡ 0
    entry first rest zero = first
    entry first rest (suc j) = rest j
determined b (a ∷ p) (c ∷ q) same i =
    let both = heads b a c (univariate_value p) (univariate_value q) same in
    entry both.0 (determined (suc b) p q both.1) i
  where
    entry : a ≡ c → ((j : ℕ) → slice_index p j ≡ slice_index q j) → (j : ℕ) → slice_index (a ∷ p) j ≡ slice_index (c ∷ q) j
    entry first rest zero = first
    entry first rest (suc j) = rest j

-- the value of a further polynomial
value-part : (m : ℕ) (t c : ℕ → ℕ) (first second : List ℕ) (k x : ℕ) → univariate_value (thiele_part m t c first second (suc (suc k))) x ≡
    (x + (m - t k)) * univariate_value (thiele_part m t c first second k) x + c (suc k) * univariate_value (thiele_part m t c first second (suc k)) x
value-part m t c first second k x =
    let before = thiele_part m t c first second k in
    let last = thiele_part m t c first second (suc k) in
    value-sum (product_of ((m - t k) ∷ 1 ∷ []) before) (multiple (c (suc k)) last) x ∙
    omega (arith, value-product ((m - t k) ∷ 1 ∷ []) before x, value-multiple (c (suc k)) last x)

-- a linear factor
linear-below : (m c : ℕ) → IsBelow m 2 (c ∷ 1 ∷ [])
linear-below m c zero from = absurd (omega arith)
linear-below m c (suc zero) from = absurd (omega arith)
linear-below m c (suc (suc i)) from = zero-mod m

-- the degree rises by one at two steps
pub part-below : (m : ℕ) (t c : ℕ → ℕ) (first second : List ℕ) → IsBelow m 1 first → IsBelow m 1 second →
    (k h : ℕ) → k ≤ suc (h + h) → IsBelow m (suc h) (thiele_part m t c first second k)
part-below m t c first second first_below second_below zero h low = below-more m 1 (suc h) first (omega arith) first_below
part-below m t c first second first_below second_below (suc zero) h low = below-more m 1 (suc h) second (omega arith) second_below
part-below m t c first second first_below second_below (suc (suc k)) zero low = absurd (omega arith)
part-below m t c first second first_below second_below (suc (suc k)) (suc h) low =
    let before = thiele_part m t c first second k in
    let last = thiele_part m t c first second (suc k) in
    below-sum m (suc (suc h)) (product_of ((m - t k) ∷ 1 ∷ []) before) (multiple (c (suc k)) last)
    (below-factors m 2 (suc h) (suc (suc h)) ((m - t k) ∷ 1 ∷ []) before (omega arith) (linear-below m (m - t k))
    (part-below m t c first second first_below second_below k h (omega arith)))
    (below-multiple m (suc (suc h)) (c (suc k)) last (part-below m t c first second first_below second_below (suc k) (suc h) (omega arith)))

-- a constant
pub constant-below : (m c : ℕ) → IsBelow m 1 (c ∷ [])
constant-below m c zero from = absurd (omega arith)
constant-below m c (suc i) from = zero-mod m

-- nothing
pub nothing-below : (m : ℕ) → IsBelow m 1 []
nothing-below m i from = zero-mod m

-- the equations of the first e levels
pub record AreInverseDifferences (m n : ℕ) (t v : ℕ → ℕ) (r : ℕ → ℕ → ℕ) (e : ℕ) : Type 0 where
  pub first : (j : ℕ) → r 0 j ≡ v j
  pub low : (i j : ℕ) → r i j ≤ m
  pub equations : (i j : ℕ) → i < e → i < j → j < n → (r (suc i) j * (r i j + (m - r i i))) % m ≡ (t j + (m - t i)) % m

-- the numerators and denominators, with the coefficients r i i
abbrev num_part : ℕ → (ℕ → ℕ) → (ℕ → ℕ → ℕ) → ℕ → List ℕ
num_part m t r k = thiele_part m t (λ i. r i i) (1 ∷ []) (r 0 0 ∷ []) k

abbrev den_part : ℕ → (ℕ → ℕ) → (ℕ → ℕ → ℕ) → ℕ → List ℕ
den_part m t r k = thiele_part m t (λ i. r i i) [] (1 ∷ []) k

-- an equation put in
put_in : (m s u a l next x y : ℕ) → a ≤ m → (s * (u + (m - a))) % m ≡ next % m → (s * (l * x + a * y) + next * y) % m ≡ (s * (u * y + l * x)) % m
put_in m s u a l next x y low equation =
    let w = m - a in
    let whole : a + w ≡ m = omega arith in
    add-cong m (s * (l * x + a * y)) (s * (l * x + a * y)) (next * y) (s * (u + w) * y) refl (mul-cong m next (s * (u + w)) y y (sym equation) refl) ∙
    ap (λ z. z % m) (omega arith ∙ ap (λ z. s * (u * y + l * x) + s * y * z) whole) ∙
    add-mul-mod_self_right (s * (u * y + l * x)) (s * y) m

-- at each later point the last two pairs agree, with the next inverse difference and the linear factor as weights
later : (m n : ℕ) (t v : ℕ → ℕ) (r : ℕ → ℕ → ℕ) (e : ℕ) → AreInverseDifferences m n t v r e → (i j : ℕ) → i < e → i < j → j < n →
    (r (suc i) j * univariate_value (num_part m t r (suc i)) (t j) + (t j + (m - t i)) * univariate_value (num_part m t r i) (t j)) % m ≡
    (v j * (r (suc i) j * univariate_value (den_part m t r (suc i)) (t j) + (t j + (m - t i)) * univariate_value (den_part m t r i) (t j))) % m
later m n t v r e given zero j low before within =
    let s = r 1 j in
    let next = t j + (m - t 0) in
    ap (λ z. z % m) (omega arith) ∙
    put_in m s (r 0 j) (r 0 0) 0 next 0 1 (given.low 0 0) (given.equations 0 j low before within) ∙
    ap (λ z. z % m) (omega (arith, ap (λ z. s * z) (given.first j)))
later m n t v r e given (suc i) j low before within =
    let s = r (suc (suc i)) j in
    let u = r (suc i) j in
    let a = r (suc i) (suc i) in
    let l = t j + (m - t i) in
    let next = t j + (m - t (suc i)) in
    let num = univariate_value (num_part m t r i) (t j) in
    let num' = univariate_value (num_part m t r (suc i)) (t j) in
    let den = univariate_value (den_part m t r i) (t j) in
    let den' = univariate_value (den_part m t r (suc i)) (t j) in
    let equation = given.equations (suc i) j low before within in
    ap (λ z. (s * z + next * num') % m) (value-part m t (λ k. r k k) (1 ∷ []) (r 0 0 ∷ []) i (t j)) ∙
    put_in m s u a l next num num' (given.low (suc i) (suc i)) equation ∙
    mul-cong m s s (u * num' + l * num) (v j * (u * den' + l * den)) refl (later m n t v r e given i j (omega arith) (omega arith) within) ∙
    ap (λ z. z % m) (omega arith) ∙
    mul-cong m (v j) (v j) (s * (u * den' + l * den)) (s * (l * den + a * den') + next * den') refl
    (sym (put_in m s u a l next den den' (given.low (suc i) (suc i)) equation)) ∙
    ap (λ z. (v j * (s * z + next * den')) % m) (sym (value-part m t (λ k. r k k) [] (1 ∷ []) i (t j)))

-- the pair agrees at one point
abbrev AgreesHere : ℕ → (ℕ → ℕ) → (ℕ → ℕ) → (ℕ → ℕ → ℕ) → ℕ → ℕ → Type 0
AgreesHere m t v r k j = univariate_value (num_part m t r k) (t j) % m ≡ (v j * univariate_value (den_part m t r k) (t j)) % m

-- so it does where the inverse difference is the one at the own point
at_own : (m n : ℕ) (t v : ℕ → ℕ) (r : ℕ → ℕ → ℕ) (e : ℕ) → AreInverseDifferences m n t v r e → (k j : ℕ) → k < e → k < j → j < n → r (suc k) j ≡ r (suc k) (suc k) →
    AgreesHere m t v r (suc (suc k)) j
at_own m n t v r e given k j low before within same =
    let l = t j + (m - t k) in
    let num = univariate_value (num_part m t r k) (t j) in
    let num' = univariate_value (num_part m t r (suc k)) (t j) in
    let den = univariate_value (den_part m t r k) (t j) in
    let den' = univariate_value (den_part m t r (suc k)) (t j) in
    ap (λ z. z % m)
    (value-part m t (λ i. r i i) (1 ∷ []) (r 0 0 ∷ []) k (t j) ∙ omega arith ∙ ap (λ z. z * num' + l * num) (sym same)) ∙
    later m n t v r e given k j low before within ∙
    ap (λ z. z % m)
    (ap (λ z. v j * (z * den' + l * den)) same ∙ ap (λ z. v j * z) (omega arith ∙ sym (value-part m t (λ i. r i i) [] (1 ∷ []) k (t j))))

-- and where the last agrees and the one before does, or has the factor 0
at_both : (m v l a num num' den den' : ℕ) → (l * num) % m ≡ (v * (l * den)) % m → num' % m ≡ (v * den') % m → (l * num + a * num') % m ≡ (v * (l * den + a * den')) % m
at_both m v l a num num' den den' before last =
    add-cong m (l * num) (v * (l * den)) (a * num') (a * (v * den')) before (mul-cong m a a num' (v * den') refl last) ∙
    ap (λ z. z % m) (omega arith)

-- place k agrees at the first k points
agrees_place : (m n : ℕ) (t v : ℕ → ℕ) (r : ℕ → ℕ → ℕ) (e : ℕ) → ((j : ℕ) → t j ≤ m) → AreInverseDifferences m n t v r e → (k j : ℕ) → k ≤ suc e → j < k → j < n → AgreesHere m t v r k j
agrees_place m n t v r e points given zero j low before within = absurd (omega arith)
agrees_place m n t v r e points given (suc zero) j low before within =
    let own : j ≡ 0 = omega arith in
    rw own (ap (λ z. z % m) (omega (arith, given.first 0)))
agrees_place m n t v r e points given (suc (suc k)) j low before within =
    let l = t j + (m - t k) in
    let num = univariate_value (num_part m t r k) (t j) in
    let num' = univariate_value (num_part m t r (suc k)) (t j) in
    let den = univariate_value (den_part m t r k) (t j) in
    let den' = univariate_value (den_part m t r (suc k)) (t j) in
    elim (cases_eq j (suc k)) [
      | inl own ↦ at_own m n t v r e given k j (omega arith) (omega arith) within (ap (r (suc k)) own)
      | inr other ↦
          ap (λ z. z % m) (value-part m t (λ i. r i i) (1 ∷ []) (r 0 0 ∷ []) k (t j)) ∙
          at_both m (v j) l (r (suc k) (suc k)) num num' den den'
          (elim (cases_eq j k) [
            | inl here ↦
                let whole : l ≡ m = omega (arith, ap t here, points k) in
                ap (λ z. (z * num) % m) whole ∙ ap (λ z. z % m) (omega arith) ∙ add-mul-mod_self_right 0 num m ∙
                sym (add-mul-mod_self_right 0 (v j * den) m) ∙
                ap (λ z. z % m) (omega arith) ∙ ap (λ z. (v j * (z * den)) % m) (sym whole)
            | inr earlier ↦
                mul-cong m l l num (v j * den) refl (agrees_place m n t v r e points given k j (omega arith) (omega arith) within) ∙
                ap (λ z. z % m) (omega arith)
          ])
          (agrees_place m n t v r e points given (suc k) j (omega arith) (omega arith) within) ∙
          ap (λ z. (v j * z) % m) (sym (value-part m t (λ i. r i i) [] (1 ∷ []) k (t j)))
    ]

-- where the form closes, its pair agrees at all points
pub closing-agrees : (m n : ℕ) (t v : ℕ → ℕ) (r : ℕ → ℕ → ℕ) (e : ℕ) → ((j : ℕ) → t j ≤ m) → AreInverseDifferences m n t v r e →
    ((j : ℕ) → e < j → j < n → r e j ≡ r e e) → AgreesAt m n t v (num_part m t r (suc e)) (den_part m t r (suc e))
closing-agrees m n t v r zero points given closed j within =
    elim (cases_eq j 0) [
      | inl own ↦ rw own (ap (λ z. z % m) (omega (arith, given.first 0)))
      | inr other ↦
          let same : r 0 0 ≡ v j = sym (closed j (omega arith) within) ∙ given.first j in
          ap (λ z. z % m) (omega (arith, same))
    ]
closing-agrees m n t v r (suc k) points given closed j within =
    elim (cases_lt (suc k) j) [
      | inl past ↦ at_own m n t v r (suc k) given k j (omega arith) (omega arith) within (closed j past within)
      | inr before ↦ agrees_place m n t v r (suc k) points given (suc (suc k)) j (omega arith) (omega arith) within
    ]

-- a factor times a further polynomial
factor-part : (m : ℕ) (t c : ℕ → ℕ) (first second p : List ℕ) (k i : ℕ) → slice_index (product_of p (thiele_part m t c first second (suc (suc k)))) i ≡
    slice_index (product_of ((m - t k) ∷ 1 ∷ []) (product_of p (thiele_part m t c first second k))) i +
    c (suc k) * slice_index (product_of p (thiele_part m t c first second (suc k))) i
factor-part m t c first second p k i =
    let linear = (m - t k) ∷ 1 ∷ [] in
    let before = thiele_part m t c first second k in
    let last = thiele_part m t c first second (suc k) in
    let next = thiele_part m t c first second (suc (suc k)) in
    determined 0 (product_of p next) (sum_of (product_of linear (product_of p before)) (multiple (c (suc k)) (product_of p last)))
    (λ x large.
    let y = univariate_value p x in
    value-product p next x ∙
    ap (λ z. y * z) (value-part m t c first second k x) ∙
    sym (value-sum (product_of linear (product_of p before)) (multiple (c (suc k)) (product_of p last)) x ∙
    ap (λ z. univariate_value (product_of linear (product_of p before)) x + z) (value-multiple (c (suc k)) (product_of p last) x ∙ ap (λ z. c (suc k) * z) (value-product p last x)) ∙
    ap (λ z. z + c (suc k) * (y * univariate_value last x)) (value-product linear (product_of p before) x ∙ ap (λ z. univariate_value linear x * z) (value-product p before x)) ∙
    omega arith))
    i ∙
    at-sum (product_of linear (product_of p before)) (multiple (c (suc k)) (product_of p last)) i ∙
    ap (λ z. slice_index (product_of linear (product_of p before)) i + z) (at-multiple (c (suc k)) (product_of p last) i)

-- a linear factor may be taken away from both sides
cancel_root : (m k c : ℕ) (p q : List ℕ) → suc k ≡ m → 1 < m → Alike m (product_of (c ∷ 1 ∷ []) p) (product_of (c ∷ 1 ∷ []) q) → Alike m p q
cancel_root m k c p q predecessor large same =
    let linear = c ∷ 1 ∷ [] in
    let difference = sum_of p (multiple k q) in
    let turned : (i : ℕ) → slice_index (product_of difference linear) i ≡ slice_index (product_of linear p) i + k * slice_index (product_of linear q) i = λ i.
    determined 0 (product_of difference linear) (sum_of (product_of linear p) (multiple k (product_of linear q)))
    (λ x from.
    let y = univariate_value linear x in
    value-product difference linear x ∙
    ap (λ z. z * y) (value-sum p (multiple k q) x ∙ ap (λ z. univariate_value p x + z) (value-multiple k q x)) ∙
    sym (value-sum (product_of linear p) (multiple k (product_of linear q)) x ∙
    ap (λ z. univariate_value (product_of linear p) x + z) (value-multiple k (product_of linear q) x ∙ ap (λ z. k * z) (value-product linear q x)) ∙
    ap (λ z. z + k * (y * univariate_value q x)) (value-product linear p x) ∙
    omega arith))
    i ∙
    at-sum (product_of linear p) (multiple k (product_of linear q)) i ∙
    ap (λ z. slice_index (product_of linear p) i + z) (at-multiple k (product_of linear q) i) in
    alike_by_nothing m k p q predecessor
    (vanish-below m difference
    (below-cancel m 0 1 difference linear (linear-below m c) (1, large, mod-eq_of_lt large)
    (λ i from. ap (λ z. z % m) (turned i) ∙ difference_of_same m k (slice_index (product_of linear p) i) (slice_index (product_of linear q) i) predecessor (same i))))

-- from two places to the one before
back : (m l : ℕ) (t c : ℕ → ℕ) (first second first' second' p q : List ℕ) (k : ℕ) → suc l ≡ m → 1 < m →
    Alike m (product_of p (thiele_part m t c first second (suc (suc k)))) (product_of q (thiele_part m t c first' second' (suc (suc k)))) →
    Alike m (product_of p (thiele_part m t c first second (suc k))) (product_of q (thiele_part m t c first' second' (suc k))) →
    Alike m (product_of p (thiele_part m t c first second k)) (product_of q (thiele_part m t c first' second' k))
back m l t c first second first' second' p q k predecessor large next last =
    let linear = (m - t k) ∷ 1 ∷ [] in
    let x = product_of p (thiele_part m t c first second (suc k)) in
    let y = product_of q (thiele_part m t c first' second' (suc k)) in
    let before = product_of p (thiele_part m t c first second k) in
    let before' = product_of q (thiele_part m t c first' second' k) in
    cancel_root m l (m - t k) before before' predecessor large
    (λ i.
    cancel m (slice_index (product_of linear before) i) (slice_index (product_of linear before') i) (c (suc k) * slice_index x i)
    (ap (λ z. z % m) (sym (factor-part m t c first second p k i)) ∙
    next i ∙
    ap (λ z. z % m) (factor-part m t c first' second' q k i) ∙
    add-cong m (slice_index (product_of linear before') i) (slice_index (product_of linear before') i) (c (suc k) * slice_index y i) (c (suc k) * slice_index x i) refl
    (mul-cong m (c (suc k)) (c (suc k)) (slice_index y i) (slice_index x i) refl (sym (last i)))))

-- down to the first two places
down : (m l : ℕ) (t c : ℕ → ℕ) (first second first' second' p q : List ℕ) (k : ℕ) → suc l ≡ m → 1 < m →
    Alike m (product_of p (thiele_part m t c first second (suc k))) (product_of q (thiele_part m t c first' second' (suc k))) →
    Alike m (product_of p (thiele_part m t c first second k)) (product_of q (thiele_part m t c first' second' k)) →
    Alike m (product_of p second) (product_of q second') × Alike m (product_of p first) (product_of q first')
down m l t c first second first' second' p q zero predecessor large last before = (last, before)
down m l t c first second first' second' p q (suc k) predecessor large last before =
    down m l t c first second first' second' p q k predecessor large before
    (back m l t c first second first' second' p q k predecessor large last before)

-- products with 1 and with nothing
times-one : (p : List ℕ) (i : ℕ) → slice_index (product_of p (1 ∷ [])) i ≡ slice_index p i
times-one p = determined 0 (product_of p (1 ∷ [])) p (λ x from. omega (arith, value-product p (1 ∷ []) x))

times-nothing : (p : List ℕ) (i : ℕ) → slice_index (product_of p []) i ≡ 0
times-nothing p = determined 0 (product_of p []) [] (λ x from. omega (arith, value-product p [] x))

-- a pair that is across to two places vanishes
nothing-left : (m l : ℕ) (t : ℕ → ℕ) (r : ℕ → ℕ → ℕ) (p q : List ℕ) (k : ℕ) → suc l ≡ m → 1 < m →
    Alike m (product_of p (num_part m t r (suc k))) (product_of q (den_part m t r (suc k))) →
    Alike m (product_of p (num_part m t r k)) (product_of q (den_part m t r k)) → AllVanish m q × AllVanish m p
nothing-left m l t r p q k predecessor large last before =
    let ends = down m l t (λ i. r i i) (1 ∷ []) (r 0 0 ∷ []) [] (1 ∷ []) p q k predecessor large last before in
    let none : AllVanish m p = λ i. ap (λ z. z % m) (sym (times-one p i)) ∙ ends.1 i ∙ ap (λ z. z % m) (times-nothing q i) ∙ zero-mod m in (
      λ i. ap (λ z. z % m) (sym (times-one q i)) ∙ sym (ends.0 i) ∙ product-vanish m p (r 0 0 ∷ []) none i,
      none,
    )

-- half of a number, rounded up
halves : (e : ℕ) → (h : ℕ) × (e ≤ h + h) × (h + h ≤ suc e)
halves zero = (0, omega arith, omega arith)
halves (suc zero) = (1, omega arith, omega arith)
halves (suc (suc e)) = let found = halves e in (suc found.0, omega (arith, found.1), omega (arith, found.2))

-- the leading coefficient stands below the bound
pub degree-low : (m d h : ℕ) (p : List ℕ) → IsUnit m (slice_index p d) → IsBelow m (suc h) p → d ≤ h
degree-low m d h p unit below =
    elim (cases_lt h d) [
      | inl high ↦
          absurd (omega (
            arith,
            sym (mul-cong m (slice_index p d) 0 unit.0 unit.0 (below d (omega arith) ∙ sym (zero-mod m)) refl ∙ ap (λ z. z % m) (omega arith) ∙ zero-mod m) ∙ unit.2,
          ))
      | inr low ↦ low
    ]

-- each agreeing pair is a multiple of the pair at which the form closes
pub closing-multiple : (m k n : ℕ) (t v : ℕ → ℕ) (r : ℕ → ℕ → ℕ) (a b e d : ℕ) (num den : List ℕ) → suc k ≡ m → 1 < m → ((j : ℕ) → t j ≤ m) → AreApart m n t → e < n → a + b < n →
    AreInverseDifferences m n t v r e → ((j : ℕ) → e < j → j < n → r e j ≡ r e e) →
    IsBelow m (suc a) (num_part m t r (suc e)) → IsBelow m (suc d) (den_part m t r (suc e)) → IsUnit m (slice_index (den_part m t r (suc e)) d) → d ≤ b →
    IsAgreeing m n t v a b num den → IsMultiple m (num_part m t r (suc e)) (den_part m t r (suc e)) num den
closing-multiple m k n t v r a b e d num den predecessor large points apart within few given closed rest_low factor_below factor_unit fits agreeing =
    let rest = num_part m t r (suc e) in
    let factor = den_part m t r (suc e) in
    let half = halves e in
    let h = half.0 in
    let enough : e ≤ h + h = half.1 in
    let few_more : h + h ≤ suc e = half.2 in
    let c = λ (i : ℕ). r i i in
    let agrees = closing-agrees m n t v r e points given closed in
    let rest_below : IsBelow m (suc h) rest = part-below m t c (1 ∷ []) (r 0 0 ∷ []) (constant-below m 1) (constant-below m (r 0 0)) (suc e) h (omega arith) in
    let low : d ≤ h = degree-low m d h factor factor_unit (part-below m t c [] (1 ∷ []) (nothing-below m) (constant-below m 1) (suc e) h (omega arith)) in
    let divided = divide m k d factor predecessor factor_below factor_unit den in
    let q = divided.0 in
    let small : IsBelow m d divided.1 = divided.2.small in
    let left = sum_of num (multiple k (product_of q rest)) in
    let left_agree : AgreesAt m n t v left divided.1 = left_agrees m k n t v rest factor num den q divided.1 predecessor agrees agreeing.agrees divided.2.whole in
    let q_low : IsBelow m (suc b - d) q = quotient_low m d b factor den q divided.1 factor_below factor_unit fits agreeing.den_degree divided.2 in
    let left_low : IsBelow m (suc (a + b - d)) left =
    below-sum m (suc (a + b - d)) num (multiple k (product_of q rest)) (below-more m (suc a) (suc (a + b - d)) num (omega arith) agreeing.num_degree)
    (below-multiple m (suc (a + b - d)) k (product_of q rest) (below-factors m (suc b - d) (suc a) (suc (a + b - d)) q rest (omega arith) q_low rest_low)) in
    let last : Alike m (product_of divided.1 rest) (product_of left factor) =
    across m k n t v rest factor left divided.1 predecessor apart agrees left_agree
    (below-factors m d (suc a) n divided.1 rest (omega arith) small rest_low)
    (below-factors m (suc (a + b - d)) (suc d) n left factor (omega arith) left_low factor_below) in
    let left_below : IsBelow m h left =
    below-cancel m h d left factor factor_below factor_unit
    (λ i from. sym (last i) ∙ below-factors m d (suc h) (h + d) divided.1 rest (omega arith) small rest_below i from) in
    let before : Alike m (product_of divided.1 (num_part m t r e)) (product_of left (den_part m t r e)) =
    across m k e t v (num_part m t r e) (den_part m t r e) left divided.1 predecessor
    (λ i j earlier inside. apart i j earlier (omega arith))
    (λ j inside. agrees_place m n t v r e points given e j (omega arith) inside (omega arith))
    (λ j inside. left_agree j (omega arith))
    (below-factors m d (suc (e - h)) e divided.1 (num_part m t r e) (omega arith) small
    (part-below m t c (1 ∷ []) (r 0 0 ∷ []) (constant-below m 1) (constant-below m (r 0 0)) e (e - h) (omega arith)))
    (below-factors m h (suc (e - h)) e left (den_part m t r e) (omega arith) left_below
    (part-below m t c [] (1 ∷ []) (nothing-below m) (constant-below m 1) e (e - h) (omega arith))) in
    let nothing : AllVanish m left × AllVanish m divided.1 = nothing-left m k t r divided.1 left e predecessor large last before in (
      q,
      alike_by_nothing m k num (product_of q rest) predecessor nothing.0,
      alike_without m den divided.1 (product_of q factor) divided.2.whole nothing.1,
    )
