-- A polynomial by the powers of its first variable; and polynomials with the same values at all points, over the plain numbers, have the same coefficients.
use Rattle.std.proofs.Common.{◌≡◌, ℕ, zero, suc, ◌+◌, ◌*◌, ◌%◌, ◌^◌, ◌<◌, ◌≤◌, ◌==◌, true, false, if◌then◌else◌, ◌&&◌, List, [], ◌∷◌, length, refl, sym, ◌∙◌, ap, arith}
use Rattle.std.proofs.Math.Nat.{pow-suc, pow-zero, eq_of_mul-eq-mul_left, add-mul-mod_self_right, mod-eq_of_lt}
use Rattle.std.proofs.Math.Dec.{eqb-zero-suc, eqb-suc-zero, eqb-suc-suc}
use Rattle.poly_maps.specs.Mono.{mono_value, is_same}
use Rattle.poly_maps.specs.Polynomial.{coefficient, value_at, degree_in, Supported}
use Rattle.univariate.specs.Univariate.{univariate_value}

-- the first n values of a function, as coefficients
abbrev pub upto : ℕ → (ℕ → ℕ) → List ℕ
upto zero f = []
upto (suc n) f = f 0 ∷ upto n (λ k. f (suc k))

pub value-upto_same : (n : ℕ) (f g : ℕ → ℕ) (x : ℕ) → ((k : ℕ) → f k ≡ g k) → univariate_value (upto n f) x ≡ univariate_value (upto n g) x
value-upto_same zero f g x same = refl
value-upto_same (suc n) f g x same = omega (arith, same 0, ap (λ v. x * v) (value-upto_same n (λ k. f (suc k)) (λ k. g (suc k)) x (λ k. same (suc k))))

pub value-upto_zero : (n x : ℕ) → univariate_value (upto n (λ k. 0)) x ≡ 0
value-upto_zero zero x = refl
value-upto_zero (suc n) x = omega (arith, ap (λ v. x * v) (value-upto_zero n x))

-- one more term at the power j
pub value-upto_more : (n j c : ℕ) (f : ℕ → ℕ) (x : ℕ) → j < n → univariate_value (upto n (λ k. (if j == k then c else 0) + f k)) x ≡ c * x ^ j + univariate_value (upto n f) x
value-upto_more zero j c f x low = absurd (omega arith)
value-upto_more (suc n) zero c f x low =
    let rest : univariate_value (upto n (λ k. (if 0 == suc k then c else 0) + f (suc k))) x ≡ univariate_value (upto n (λ k. f (suc k))) x =
    value-upto_same n (λ k. (if 0 == suc k then c else 0) + f (suc k)) (λ k. f (suc k)) x (λ k. ap (λ b. (if b then c else 0) + f (suc k)) (eqb-zero-suc k) ∙ omega arith) in
    omega (arith, ap (λ v. x * v) rest, ap (λ p. c * p) (pow-zero x))
value-upto_more (suc n) (suc j) c f x low =
    let rest : univariate_value (upto n (λ k. (if suc j == suc k then c else 0) + f (suc k))) x ≡ univariate_value (upto n (λ k. (if j == k then c else 0) + f (suc k))) x =
    value-upto_same n (λ k. (if suc j == suc k then c else 0) + f (suc k)) (λ k. (if j == k then c else 0) + f (suc k)) x (λ k. ap (λ b. (if b then c else 0) + f (suc k)) (eqb-suc-suc j k)) in
    let first : (if suc j == 0 then c else 0) ≡ 0 = ap (λ b. if b then c else 0) (eqb-suc-zero j) in
    omega (arith, ap (λ v. x * v) (rest ∙ value-upto_more n j c (λ k. f (suc k)) x (omega arith)), ap (λ p. c * p) (pow-suc x j))

-- monomials of n variables
abbrev pub HasPlaces : ℕ → List ℕ → Type 0
HasPlaces n e = length e ≡ n

-- the polynomial at the power k of the first variable, in the further ones
abbrev pub part : ℕ → List (List ℕ × ℕ) → List (List ℕ × ℕ)
part k [] = []
part k (([], c) ∷ p) = part k p
part k ((j ∷ e, c) ∷ p) = if j == k then (e, c) ∷ part k p else part k p

pub coefficient-part : (k : ℕ) (e : List ℕ) (p : List (List ℕ × ℕ)) → coefficient e (part k p) ≡ coefficient (k ∷ e) p
coefficient-part k e [] = refl
coefficient-part k e (([], c) ∷ p) = omega (arith, coefficient-part k e p)
coefficient-part k e ((j ∷ f, c) ∷ p) =
    elim (j == k) as (λ b. coefficient e (if b then (f, c) ∷ part k p else part k p) ≡ (if b && is_same f e then c else 0) + coefficient (k ∷ e) p) [
      | true ↦ omega (arith, coefficient-part k e p)
      | false ↦ omega (arith, coefficient-part k e p)
    ]

pub part-places : (n k : ℕ) (p : List (List ℕ × ℕ)) → Supported (HasPlaces (suc n)) p → Supported (HasPlaces n) (part k p)
part-places n k [] places = tt
part-places n k (([], c) ∷ p) places = part-places n k p places.1
part-places n k ((j ∷ e, c) ∷ p) places =
    elim (j == k) as (λ b. Supported (HasPlaces n) (if b then (e, c) ∷ part k p else part k p)) [
      | true ↦ (omega (arith, places.0), part-places n k p places.1)
      | false ↦ part-places n k p places.1
    ]

-- the value of one part more
value-part_more : (j k c : ℕ) (e : List ℕ) (p : List (List ℕ × ℕ)) (x : List ℕ) → value_at (part k ((j ∷ e, c) ∷ p)) x ≡ (if j == k then c * mono_value e x else 0) + value_at (part k p) x
value-part_more j k c e p x =
    elim (j == k) as (λ b. value_at (if b then (e, c) ∷ part k p else part k p) x ≡ (if b then c * mono_value e x else 0) + value_at (part k p) x) [
      | true ↦ refl
      | false ↦ omega arith
    ]

-- the value, by the parts' values
pub value-parts : (n places : ℕ) (p : List (List ℕ × ℕ)) (a : ℕ) (x : List ℕ) → Supported (HasPlaces (suc places)) p → degree_in 0 p < n → value_at p (a ∷ x) ≡ univariate_value (upto n (λ k. value_at (part k p) x)) a
value-parts n places [] a x supported low = sym (value-upto_zero n a)
value-parts n places (([], c) ∷ p) a x supported low = absurd (omega (arith, supported.0))
value-parts n places ((j ∷ e, c) ∷ p) a x supported low =
    omega (
      arith,
      value-parts n places p a x supported.1 (omega arith),
      value-upto_same n (λ k. value_at (part k ((j ∷ e, c) ∷ p)) x) (λ k. (if j == k then c * mono_value e x else 0) + value_at (part k p) x) a (λ k. value-part_more j k c e p x),
      value-upto_more n j (c * mono_value e x) (λ k. value_at (part k p) x) a (omega arith),
    )

-- two numbers below x, each with a multiple of x added: where the sums are equal, so are the numbers and the multiples
digits_same : (x a b v w : ℕ) → a < x → b < x → a + x * v ≡ b + x * w → (a ≡ b) × (v ≡ w)
digits_same x a b v w a_low b_low same =
    let first : a ≡ b =
    sym (mod-eq_of_lt a_low) ∙ sym (add-mul-mod_self_right a v x) ∙
    ap (λ t. t % x) turned ∙
    add-mul-mod_self_right b w x ∙ mod-eq_of_lt b_low in
    (first, eq_of_mul-eq-mul_left x (omega arith) v w (omega arith))
  where
    turned : a + v * x ≡ b + w * x
    turned = omega arith

-- the values from some number on tell the coefficients
same_coefficients : (n from : ℕ) (f g : ℕ → ℕ) → ((x : ℕ) → from ≤ x → univariate_value (upto n f) x ≡ univariate_value (upto n g) x) → (k : ℕ) → k < n → f k ≡ g k
same_coefficients zero from f g same k low = absurd (omega arith)
same_coefficients (suc n) from f g same zero low =
    let x = 1 + from + f 0 + g 0 in
    (digits_same x (f 0) (g 0) (univariate_value (upto n (λ k. f (suc k))) x) (univariate_value (upto n (λ k. g (suc k))) x) (omega arith) (omega arith) (same x (omega arith))).0
same_coefficients (suc n) from f g same (suc k) low =
    same_coefficients n (1 + from + f 0 + g 0) (λ k. f (suc k)) (λ k. g (suc k))
    (λ x high. (digits_same x (f 0) (g 0) (univariate_value (upto n (λ k. f (suc k))) x) (univariate_value (upto n (λ k. g (suc k))) x) (omega arith) (omega arith) (same x (omega arith))).1)
    k (omega arith)

-- a monomial with other places has no coefficient
coefficient-empty : (p : List (List ℕ × ℕ)) (n : ℕ) → Supported (HasPlaces (suc n)) p → coefficient [] p ≡ 0
coefficient-empty [] n places = refl
coefficient-empty (([], c) ∷ p) n places = absurd (omega (arith, places.0))
coefficient-empty ((j ∷ e, c) ∷ p) n places = omega (arith, coefficient-empty p n places.1)

coefficient-longer : (p : List (List ℕ × ℕ)) (k : ℕ) (e : List ℕ) → Supported (HasPlaces 0) p → coefficient (k ∷ e) p ≡ 0
coefficient-longer [] k e places = refl
coefficient-longer (([], c) ∷ p) k e places = omega (arith, coefficient-longer p k e places.1)
coefficient-longer ((j ∷ f, c) ∷ p) k e places = absurd (omega (arith, places.0))

value-constant : (p : List (List ℕ × ℕ)) → Supported (HasPlaces 0) p → value_at p [] ≡ coefficient [] p
value-constant [] places = refl
value-constant (([], c) ∷ p) places = omega (arith, value-constant p places.1)
value-constant ((j ∷ f, c) ∷ p) places = absurd (omega (arith, places.0))

-- polynomials in n variables with the same value at each point have the same coefficients
pub same_values : (n : ℕ) (p q : List (List ℕ × ℕ)) → Supported (HasPlaces n) p → Supported (HasPlaces n) q → ((x : List ℕ) → length x ≡ n → value_at p x ≡ value_at q x) → (e : List ℕ) → coefficient e p ≡ coefficient e q
same_values zero p q left right same [] = sym (value-constant p left) ∙ same [] refl ∙ value-constant q right
same_values zero p q left right same (k ∷ e) = coefficient-longer p k e left ∙ sym (coefficient-longer q k e right)
same_values (suc n) p q left right same [] = coefficient-empty p n left ∙ sym (coefficient-empty q n right)
same_values (suc n) p q left right same (k ∷ e) =
    let most = suc (k + degree_in 0 p + degree_in 0 q) in
    sym (coefficient-part k e p) ∙
    same_values n (part k p) (part k q) (part-places n k p left) (part-places n k q right)
    (λ x length_is.
    same_coefficients most 0 (λ j. value_at (part j p) x) (λ j. value_at (part j q) x)
    (λ a high.
    sym (value-parts most n p a x left (omega arith)) ∙
    same (a ∷ x) (ap suc length_is) ∙
    value-parts most n q a x right (omega arith))
    k (omega arith)) e ∙
    coefficient-part k e q
