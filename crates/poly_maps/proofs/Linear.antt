-- Sums over the terms of a polynomial: a number for each monomial, times the coefficient there. Values, coefficients and the coefficients of a moved
-- polynomial are such sums, so that polynomials with congruent coefficients have congruent values, and so on.
use Rattle.std.proofs.Common.{◌≡◌, ℕ, zero, suc, ◌+◌, ◌*◌, ◌%◌, ◌≤◌, Bool, true, false, if◌then◌else◌, List, [], ◌∷◌, ◌++◌, length, refl, sym, ◌∙◌, ap, arith}
use Rattle.prime_field.proofs.Residues.{add-cong, mul-cong}
use Rattle.poly_maps.specs.Mono.{mono_value, is_same}
use Rattle.poly_maps.specs.Polynomial.{coefficient, value_at, times}
use Rattle.poly_maps.proofs.MonoLemmas.{is_same-true, is_same-itself}

-- the sum of the coefficients, each times f of its monomial
abbrev pub sum_over : (List ℕ → ℕ) → List (List ℕ × ℕ) → ℕ
sum_over f [] = 0
sum_over f (t ∷ p) = t.1 * f t.0 + sum_over f p

pub sum_over-append : (f : List ℕ → ℕ) (p q : List (List ℕ × ℕ)) → sum_over f (p ++ q) ≡ sum_over f p + sum_over f q
sum_over-append f [] q = omega arith
sum_over-append f (t ∷ p) q = omega (arith, sum_over-append f p q)

pub sum_over-times : (f : List ℕ → ℕ) (a : ℕ) (p : List (List ℕ × ℕ)) → sum_over f (times a p) ≡ a * sum_over f p
sum_over-times f a [] = omega arith
sum_over-times f a (t ∷ p) = omega (arith, sum_over-times f a p)

pub sum_over-same : (f g : List ℕ → ℕ) (p : List (List ℕ × ℕ)) → ((e : List ℕ) → f e ≡ g e) → sum_over f p ≡ sum_over g p
sum_over-same f g [] same = refl
sum_over-same f g (t ∷ p) same = omega (arith, ap (λ x. t.1 * x) (same t.0), sum_over-same f g p same)

-- a value is a sum over the terms
pub value-sum : (p : List (List ℕ × ℕ)) (x : List ℕ) → value_at p x ≡ sum_over (λ e. mono_value e x) p
value-sum [] x = refl
value-sum (t ∷ p) x = ap (λ v. t.1 * mono_value t.0 x + v) (value-sum p x)

-- so is a coefficient
pub coefficient-sum : (e : List ℕ) (p : List (List ℕ × ℕ)) → coefficient e p ≡ sum_over (λ f. if is_same f e then 1 else 0) p
coefficient-sum e [] = refl
coefficient-sum e (t ∷ p) =
    elim (is_same t.0 e) as (λ b. (if b then t.1 else 0) + coefficient e p ≡ t.1 * (if b then 1 else 0) + sum_over (λ f. if is_same f e then 1 else 0) p) [
      | true ↦ omega (arith, coefficient-sum e p)
      | false ↦ omega (arith, coefficient-sum e p)
    ]

-- the coefficients of two polynomials are congruent modulo m
abbrev pub AreAlike : ℕ → List (List ℕ × ℕ) → List (List ℕ × ℕ) → Type 0
AreAlike m p q = (e : List ℕ) → coefficient e p % m ≡ coefficient e q % m

-- the terms at other monomials than e
without : List ℕ → List (List ℕ × ℕ) → List (List ℕ × ℕ)
without e [] = []
without e (t ∷ p) = if is_same t.0 e then without e p else t ∷ without e p

sum-without : (f : List ℕ → ℕ) (e : List ℕ) (p : List (List ℕ × ℕ)) → sum_over f p ≡ coefficient e p * f e + sum_over f (without e p)
unfolding without
sum-without f e [] = omega arith
sum-without f e (t ∷ p) = by (is_same t.0 e) (is_same-true t.0 e) (sum-without f e p)
  where
    by : (b : Bool) → (b ≡ true → t.0 ≡ e) → sum_over f p ≡ coefficient e p * f e + sum_over f (without e p) →
        t.1 * f t.0 + sum_over f p ≡ ((if b then t.1 else 0) + coefficient e p) * f e + sum_over f (if b then without e p else t ∷ without e p)
    by true is rest = omega (arith, ap (λ g. t.1 * f g) (is refl), rest)
    by false is rest = omega (arith, rest)

coefficient-without_same : (e : List ℕ) (p : List (List ℕ × ℕ)) → coefficient e (without e p) ≡ 0
unfolding without
coefficient-without_same e [] = refl
coefficient-without_same e (t ∷ p) = by (is_same t.0 e) refl (coefficient-without_same e p)
  where
    by : (b : Bool) → is_same t.0 e ≡ b → coefficient e (without e p) ≡ 0 → coefficient e (if b then without e p else t ∷ without e p) ≡ 0
    by true is rest = rest
    by false is rest = ap (λ b. (if b then t.1 else 0) + coefficient e (without e p)) is ∙ omega (arith, rest)

coefficient-without_other : (e g : List ℕ) (p : List (List ℕ × ℕ)) → is_same e g ≡ false → coefficient g (without e p) ≡ coefficient g p
unfolding without
coefficient-without_other e g [] other = refl
coefficient-without_other e g (t ∷ p) other = by (is_same t.0 e) (is_same-true t.0 e) (coefficient-without_other e g p other)
  where
    by : (b : Bool) → (b ≡ true → t.0 ≡ e) → coefficient g (without e p) ≡ coefficient g p → coefficient g (if b then without e p else t ∷ without e p) ≡ coefficient g (t ∷ p)
    by true is rest =
        let gone : is_same t.0 g ≡ false = ap (λ s. is_same s g) (is refl) ∙ other in
        rest ∙ sym (ap (λ b. (if b then t.1 else 0) + coefficient g p) gone ∙ omega arith)
    by false is rest = ap (λ c. (if is_same t.0 g then t.1 else 0) + c) rest

alike-without : (m : ℕ) (e : List ℕ) (p q : List (List ℕ × ℕ)) → AreAlike m p q → AreAlike m (without e p) (without e q)
alike-without m e p q alike g = by (is_same e g) refl
  where
    by : (b : Bool) → is_same e g ≡ b → coefficient g (without e p) % m ≡ coefficient g (without e q) % m
    by true is =
        let here : e ≡ g = is_same-true e g is in
        ap (λ f. coefficient f (without e p) % m) (sym here) ∙
        ap (λ c. c % m) (coefficient-without_same e p ∙ sym (coefficient-without_same e q)) ∙
        ap (λ f. coefficient f (without e q) % m) here
    by false is =
        ap (λ c. c % m) (coefficient-without_other e g p is) ∙ alike g ∙ ap (λ c. c % m) (sym (coefficient-without_other e g q is))

length-without : (e : List ℕ) (p : List (List ℕ × ℕ)) → length (without e p) ≤ length p
unfolding without
length-without e [] = omega arith
length-without e (t ∷ p) = by (is_same t.0 e) (length-without e p)
  where
    by : (b : Bool) → length (without e p) ≤ length p → length (if b then without e p else t ∷ without e p) ≤ suc (length p)
    by true rest = omega (arith, rest)
    by false rest = omega (arith, rest)

length-without_head : (t : List ℕ × ℕ) (p : List (List ℕ × ℕ)) → length (without t.0 (t ∷ p)) ≤ length p
unfolding without
length-without_head t p =
    let gone : (if is_same t.0 t.0 then without t.0 p else t ∷ without t.0 p) ≡ without t.0 p =
    ap (λ b. if b then without t.0 p else t ∷ without t.0 p) (is_same-itself t.0) in
    omega (arith, ap length gone, length-without t.0 p)

-- taken apart at one monomial
apart_at : (m : ℕ) (f : List ℕ → ℕ) (e : List ℕ) (p q : List (List ℕ × ℕ)) → AreAlike m p q → sum_over f (without e p) % m ≡ sum_over f (without e q) % m → sum_over f p % m ≡ sum_over f q % m
apart_at m f e p q alike rest =
    ap (λ s. s % m) (sum-without f e p) ∙
    add-cong m (coefficient e p * f e) (coefficient e q * f e) (sum_over f (without e p)) (sum_over f (without e q))
    (mul-cong m (coefficient e p) (coefficient e q) (f e) (f e) (alike e) refl) rest ∙
    ap (λ s. s % m) (sym (sum-without f e q))

alike_sums : (m n : ℕ) (f : List ℕ → ℕ) (p q : List (List ℕ × ℕ)) → length p + length q ≤ n → AreAlike m p q → sum_over f p % m ≡ sum_over f q % m
alike_sums m n f [] [] short alike = refl
alike_sums m zero f (t ∷ p) q short alike = absurd (omega arith)
alike_sums m zero f [] (t ∷ q) short alike = absurd (omega arith)
alike_sums m (suc n) f (t ∷ p) q short alike =
    apart_at m f t.0 (t ∷ p) q alike
    (alike_sums m n f (without t.0 (t ∷ p)) (without t.0 q) (omega (arith, length-without_head t p, length-without t.0 q, short)) (alike-without m t.0 (t ∷ p) q alike))
alike_sums m (suc n) f [] (t ∷ q) short alike =
    apart_at m f t.0 [] (t ∷ q) alike
    (alike_sums m n f (without t.0 []) (without t.0 (t ∷ q)) (omega (arith, length-without t.0 [], length-without_head t q, short)) (alike-without m t.0 [] (t ∷ q) alike))

-- congruent coefficients, congruent sums
pub sum-alike : (m : ℕ) (f : List ℕ → ℕ) (p q : List (List ℕ × ℕ)) → AreAlike m p q → sum_over f p % m ≡ sum_over f q % m
sum-alike m f p q alike = alike_sums m (length p + length q) f p q (omega arith) alike

-- congruent coefficients, congruent values
pub value-alike : (m : ℕ) (p q : List (List ℕ × ℕ)) (x : List ℕ) → AreAlike m p q → value_at p x % m ≡ value_at q x % m
value-alike m p q x alike =
    ap (λ v. v % m) (value-sum p x) ∙ sum-alike m (λ e. mono_value e x) p q alike ∙ ap (λ v. v % m) (sym (value-sum q x))
