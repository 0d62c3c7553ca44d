-- A polynomial along a ray: the coefficients in t of its value at s + t*g.
use Rattle.std.proofs.Common.{◌≡◌, ℕ, zero, suc, ◌+◌, ◌*◌, ◌%◌, ◌^◌, ◌<◌, ◌≤◌, ◌==◌, true, false, if◌then◌else◌, List, [], ◌∷◌, ◌++◌, ◌≢◌, length, get_or, take, inl, inr, refl, sym, ◌∙◌, ap, arith, subst}
use Rattle.std.proofs.Math.Nat.{pow-suc, pow-zero, mod-mod, zero-mod}
use Rattle.std.proofs.lemmas.Nat.{mul-pow, pow-add}
use Rattle.std.proofs.Math.ListN.{set}
use Rattle.std.proofs.lemmas.Bool.{cases_eq, eq-eqb, ne_eqb}
use Rattle.std.proofs.lemmas.List.{take_more, get_or-set_same, get_or-set_other}
use Rattle.prime_field.proofs.Residues.{add-cong, mul-cong}
use Rattle.poly_maps.specs.Mono.{degree, mono_value}
use Rattle.poly_maps.specs.Polynomial.{value_at, total_degree}
use Rattle.poly_maps.specs.Moved.{point_sum, scaled, moved, graded}
use Rattle.univariate.specs.Univariate.{univariate_value, IsTrimmed}
use Rattle.poly_maps.proofs.Gathered.{degree-at}
use Rattle.poly_maps.proofs.Terms.{value_at-append}
use Rattle.poly_maps.proofs.Linear.{sum_over, AreAlike, sum-alike}
use Rattle.poly_maps.proofs.Parts.{upto, value-upto_same, value-upto_zero, value-upto_more}
use Rattle.poly_maps.proofs.Moves.{value-moved}
use Rattle.poly_maps.proofs.PinnedLists.{length-trimmed}
use Rattle.poly_maps.proofs.ProductDegrees.{total_degree-moved}

-- a power of 0, t times over
zero_power : (t k : ℕ) → 0 ^ k ≡ t ^ k * 0 ^ k
zero_power t zero = sym (omega (arith, ap (λ v. v * 0 ^ 0) (pow-zero t), pow-zero 0))
zero_power t (suc k) =
    let none : 0 ^ suc k ≡ 0 = pow-suc 0 k ∙ omega arith in
    none ∙ sym (ap (λ v. t ^ suc k * v) none ∙ omega arith)

-- a monomial at a scaled point
mono_value-scaled : (t : ℕ) (e g : List ℕ) → mono_value e (scaled t g) ≡ t ^ degree e * mono_value e g
mono_value-scaled t [] g = omega (arith, pow-zero t)
mono_value-scaled t (k ∷ e) [] =
    let rest : mono_value e [] ≡ t ^ degree e * mono_value e [] = mono_value-scaled t e [] in
    let both : t ^ (k + degree e) ≡ t ^ k * t ^ degree e = pow-add t k (degree e) in
    omega (arith, ap (λ v. v * mono_value e []) (zero_power t k), ap (λ v. t ^ k * 0 ^ k * v) rest, ap (λ v. v * (0 ^ k * mono_value e [])) both)
mono_value-scaled t (k ∷ e) (a ∷ g) =
    let rest : mono_value e (scaled t g) ≡ t ^ degree e * mono_value e g = mono_value-scaled t e g in
    let both : t ^ (k + degree e) ≡ t ^ k * t ^ degree e = pow-add t k (degree e) in
    omega (arith, ap (λ v. v * mono_value e (scaled t g)) (mul-pow t a k), ap (λ v. t ^ k * a ^ k * v) rest, ap (λ v. v * (a ^ k * mono_value e g)) both)

-- the value of the terms of degree k, one term more
value-graded_more : (k : ℕ) (u : List ℕ × ℕ) (p : List (List ℕ × ℕ)) (g : List ℕ) → value_at (graded k (u ∷ p)) g ≡ (if degree u.0 == k then u.1 * mono_value u.0 g else 0) + value_at (graded k p) g
value-graded_more k u p g =
    elim (degree u.0 == k) as (λ b. value_at (if b then u ∷ graded k p else graded k p) g ≡ (if b then u.1 * mono_value u.0 g else 0) + value_at (graded k p) g) [
      | true ↦ refl
      | false ↦ omega arith
    ]

-- the value at a scaled point, by the values of the terms of each degree
pub value-scaled : (n t : ℕ) (p : List (List ℕ × ℕ)) (g : List ℕ) → total_degree p < n → value_at p (scaled t g) ≡ univariate_value (upto n (λ k. value_at (graded k p) g)) t
value-scaled n t [] g low = sym (value-upto_zero n t)
value-scaled n t (u ∷ p) g low =
    let c = u.1 * mono_value u.0 g in
    omega (
      arith,
      ap (λ v. u.1 * v) (mono_value-scaled t u.0 g),
      value-scaled n t p g (omega arith),
      value-upto_same n (λ k. value_at (graded k (u ∷ p)) g) (λ k. (if degree u.0 == k then c else 0) + value_at (graded k p) g) t (λ k. value-graded_more k u p g),
      value-upto_more n (degree u.0) c (λ k. value_at (graded k p) g) t (omega arith),
    )

-- the value along a ray
pub value-ray : (n t : ℕ) (p : List (List ℕ × ℕ)) (s g : List ℕ) → total_degree (moved s p) < n → value_at p (point_sum s (scaled t g)) ≡ univariate_value (upto n (λ k. value_at (graded k (moved s p)) g)) t
value-ray n t p s g low = sym (value-moved s p (scaled t g)) ∙ value-scaled n t (moved s p) g low

-- the value of the terms of degree k, as a sum over the terms
value-graded : (k : ℕ) (p : List (List ℕ × ℕ)) (g : List ℕ) → value_at (graded k p) g ≡ sum_over (λ e. if degree e == k then mono_value e g else 0) p
value-graded k [] g = refl
value-graded k (u ∷ p) g =
    value-graded_more k u p g ∙
    elim (degree u.0 == k) as (λ b. (if b then u.1 * mono_value u.0 g else 0) + value_at (graded k p) g ≡ u.1 * (if b then mono_value u.0 g else 0) + sum_over (λ e. if degree e == k then mono_value e g else 0) p) [
      | true ↦ omega (arith, value-graded k p g)
      | false ↦ omega (arith, value-graded k p g)
    ]

-- congruent polynomials have congruent values of their terms of degree k
pub graded-alike : (m k : ℕ) (p q : List (List ℕ × ℕ)) (g : List ℕ) → AreAlike m p q → value_at (graded k p) g % m ≡ value_at (graded k q) g % m
graded-alike m k p q g alike =
    ap (λ v. v % m) (value-graded k p g) ∙
    sum-alike m (λ e. if degree e == k then mono_value e g else 0) p q alike ∙
    ap (λ v. v % m) (sym (value-graded k q g))

-- a list is the list of its entries, with zeros behind
value-listed : (n : ℕ) (r : List ℕ) (t : ℕ) → length r ≤ n → univariate_value (upto n (λ k. get_or r k 0)) t ≡ univariate_value r t
value-listed n [] t short = value-upto_zero n t
value-listed zero (a ∷ r) t short = absurd (omega arith)
value-listed (suc n) (a ∷ r) t short = ap (λ v. a + t * v) (value-listed n r t (omega arith))

value-upto_congruent : (m n : ℕ) (f g : ℕ → ℕ) (t : ℕ) → ((k : ℕ) → f k % m ≡ g k % m) → univariate_value (upto n f) t % m ≡ univariate_value (upto n g) t % m
value-upto_congruent m zero f g t same = refl
value-upto_congruent m (suc n) f g t same =
    let rest = value-upto_congruent m n (λ k. f (suc k)) (λ k. g (suc k)) t (λ k. same (suc k)) in
    add-cong m (f 0) (g 0) (t * univariate_value (upto n (λ k. f (suc k))) t) (t * univariate_value (upto n (λ k. g (suc k))) t) (same 0)
    (mul-cong m t t (univariate_value (upto n (λ k. f (suc k))) t) (univariate_value (upto n (λ k. g (suc k))) t) refl rest)

-- coefficients that are those of the ray, modulo m, give the values along it
pub ray_values : (m : ℕ) (p : List (List ℕ × ℕ)) (s g r : List ℕ) → ((k : ℕ) → get_or r k 0 ≡ value_at (graded k (moved s p)) g % m) → (t : ℕ) → univariate_value r t % m ≡ value_at p (point_sum s (scaled t g)) % m
ray_values m p s g r coefficients t =
    let n = length r + suc (total_degree (moved s p)) in
    ap (λ v. v % m) (sym (value-listed n r t (omega arith))) ∙
    value-upto_congruent m n (λ k. get_or r k 0) (λ k. value_at (graded k (moved s p)) g) t
    (λ k. ap (λ v. v % m) (coefficients k) ∙ mod-mod (value_at (graded k (moved s p)) g) m) ∙
    ap (λ v. v % m) (sym (value-ray n t p s g (omega arith)))

-- no term has a degree above the greatest
value-graded_high : (k : ℕ) (p : List (List ℕ × ℕ)) (g : List ℕ) → total_degree p < k → value_at (graded k p) g ≡ 0
value-graded_high k [] g high = refl
value-graded_high k (u ∷ p) g high =
    let apart : degree u.0 ≢ k = λ same. omega (arith, same, high) in
    let none : (if degree u.0 == k then u.1 * mono_value u.0 g else 0) ≡ 0 = ap (λ b. if b then u.1 * mono_value u.0 g else 0) (ne_eqb (degree u.0) k apart) in
    omega (arith, value-graded_more k u p g, none, value-graded_high k p g (omega arith))

-- so there are no more coefficients along a ray than the total degree and one
pub length-ray : (m : ℕ) (p : List (List ℕ × ℕ)) (s g r : List ℕ) → IsTrimmed r → ((k : ℕ) → get_or r k 0 ≡ value_at (graded k (moved s p)) g % m) → length r ≤ total_degree p + 1
length-ray m p s g r trimmed coefficients =
    length-trimmed r (total_degree p + 1) trimmed (λ k high.
    coefficients k ∙ ap (λ v. v % m) (value-graded_high k (moved s p) g (omega (arith, total_degree-moved s p))) ∙ zero-mod m)

-- ---- the terms, one after the other

graded-append : (k : ℕ) (p q : List (List ℕ × ℕ)) → graded k (p ++ q) ≡ graded k p ++ graded k q
graded-append k [] q = refl
graded-append k (t ∷ p) q =
    elim (degree t.0 == k) as (λ b. (if b then t ∷ graded k (p ++ q) else graded k (p ++ q)) ≡ (if b then t ∷ graded k p else graded k p) ++ graded k q) [
      | true ↦ ap (λ r. t ∷ r) (graded-append k p q)
      | false ↦ graded-append k p q
    ]

graded-take_more : (k i : ℕ) (p : List (List ℕ × ℕ)) (t : List ℕ × ℕ) (g : List ℕ) → i < length p → t ≡ get_or p i t →
    value_at (graded k (take (i + 1) p)) g ≡ value_at (graded k (take i p)) g + (if degree t.0 == k then t.1 * mono_value t.0 g else 0)
graded-take_more k i p t g low is =
    ap (λ q. value_at (graded k q) g) (take_more p i t low ∙ ap (λ u. take i p ++ u ∷ []) (sym is)) ∙
    ap (λ q. value_at q g) (graded-append k (take i p) (t ∷ [])) ∙
    value_at-append (graded k (take i p)) (graded k (t ∷ [])) g ∙
    ap (λ v. value_at (graded k (take i p)) g + v) (value-graded_more k t [] g ∙ omega arith)

-- a sum at the place of one term's degree
pub graded-set : (m i : ℕ) (p : List (List ℕ × ℕ)) (t : List ℕ × ℕ) (g values : List ℕ) (sum value : ℕ) → i < length p → t ≡ get_or p i t → degree t.0 < length values →
    value ≡ mono_value t.0 g % m → sum ≡ (get_or values (degree t.0) 0 + (t.1 * value) % m) % m →
    ((k : ℕ) → get_or values k 0 ≡ value_at (graded k (take i p)) g % m) → (k : ℕ) → get_or (set values (degree t.0) sum) k 0 ≡ value_at (graded k (take (i + 1) p)) g % m
graded-set m i p t g values sum value low is room value_is sum_is before k =
    elim (cases_eq k (degree t.0)) [
      | inl here ↦
          let more : (if degree t.0 == k then t.1 * mono_value t.0 g else 0) ≡ t.1 * mono_value t.0 g =
          ap (λ b. if b then t.1 * mono_value t.0 g else 0) (eq-eqb (degree t.0) k (sym here)) in
          ap (λ j. get_or (set values (degree t.0) sum) j 0) here ∙
          get_or-set_same values (degree t.0) sum 0 room ∙ sum_is ∙
          add-cong m (get_or values (degree t.0) 0) (value_at (graded k (take i p)) g) ((t.1 * value) % m) (t.1 * mono_value t.0 g)
          (ap (λ j. get_or values j 0 % m) (sym here) ∙ ap (λ v. v % m) (before k) ∙ mod-mod (value_at (graded k (take i p)) g) m)
          (mod-mod (t.1 * value) m ∙ mul-cong m t.1 t.1 value (mono_value t.0 g) refl (ap (λ v. v % m) value_is ∙ mod-mod (mono_value t.0 g) m)) ∙
          ap (λ v. (value_at (graded k (take i p)) g + v) % m) (sym more) ∙
          ap (λ v. v % m) (sym (graded-take_more k i p t g low is))
      | inr other ↦
          let apart : degree t.0 ≢ k = λ same. other (sym same) in
          let none : (if degree t.0 == k then t.1 * mono_value t.0 g else 0) ≡ 0 = ap (λ b. if b then t.1 * mono_value t.0 g else 0) (ne_eqb (degree t.0) k apart) in
          get_or-set_other values (degree t.0) k sum 0 other ∙ before k ∙
          ap (λ v. v % m) (omega (arith, none, graded-take_more k i p t g low is))
    ]

-- ---- zeros at the end

pub get_or-take_zero : (xs : List ℕ) (n k : ℕ) → length xs ≤ n + 1 → get_or xs n 0 ≡ 0 → get_or (take n xs) k 0 ≡ get_or xs k 0
get_or-take_zero [] zero k long last = refl
get_or-take_zero [] (suc n) k long last = refl
get_or-take_zero (x ∷ []) zero zero long last = sym last
get_or-take_zero (x ∷ []) zero (suc k) long last = refl
get_or-take_zero (x ∷ y ∷ xs) zero k long last = absurd (omega arith)
get_or-take_zero (x ∷ xs) (suc n) zero long last = refl
get_or-take_zero (x ∷ xs) (suc n) (suc k) long last = get_or-take_zero xs n k (omega arith) last

-- the place for a term's degree
pub degree-fits : (p : List (List ℕ × ℕ)) (i : ℕ) (t : List ℕ × ℕ) (highest : ℕ) → i < length p → t ≡ get_or p i t → total_degree p ≤ highest → degree t.0 < highest + 1
degree-fits p i t highest low is bound =
    let within : degree t.0 ≤ total_degree p = subst (λ (u : List ℕ × ℕ). degree u.0 ≤ total_degree p) (sym is) (degree-at p i t low) in
    omega arith
