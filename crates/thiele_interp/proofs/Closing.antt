-- Where Thiele's form closes: the level is the only one, and its pair, where it fits, is the least.
use Rattle.std.proofs.Common.{◌≡◌, ℕ, zero, suc, ◌+◌, ◌-◌, ◌*◌, ◌%◌, ◌<◌, ◌≤◌, List, [], ◌∷◌, slice_index, Option, Some, None, IfSome, IfNone, refl, sym, ◌∙◌, ap, subst, arith, inl, inr, mul-one}
use Rattle.std.proofs.Math.Nat.{zero-mod, mod-mod, mod-lt, add-mul-mod_self_right}
use Rattle.std.proofs.lemmas.Bool.{cases_lt}
use Rattle.prime_field.specs.Residue.{IsUnit, inverse}
use Rattle.prime_field.proofs.Residues.{mul-cong}
use Rattle.prime_field.proofs.Units.{inverse_is, unit-cong}
use Rattle.univariate.specs.Univariate.{AreApart}
use Rattle.univariate.specs.Coefficients.{sum_of, multiple, product_of, IsBelow, Alike}
use Rattle.univariate.proofs.Coefficients.{value-alike, alike-multiple}
use Rattle.univariate.proofs.Degrees.{below-alike}
use Rattle.thiele_interp.specs.Pairs.{IsLeastPair}
use Rattle.thiele_interp.specs.Thiele.{or_zero, quotient, inverse_difference, coefficient_at, thiele_part, thiele_num, thiele_den, ClosesAt, FitsPoints, AnswersAt, IsScaled}
use Rattle.thiele_interp.proofs.Ends.{least-of_multiples}
use Rattle.thiele_interp.proofs.Forms.{AreInverseDifferences, closing-agrees, closing-multiple, degree-low}

-- 1 is a residue where there is a unit
one-mod : (m x b : ℕ) → (x * b) % m ≡ 1 → 1 % m ≡ 1
one-mod m x b unit = ap (λ z. z % m) (sym unit) ∙ mod-mod (x * b) m ∙ unit

-- the quotient by a number of which an inverse is known
pub quotient-is : (m a x b : ℕ) → b < m → (x * b) % m ≡ 1 → quotient m a x ≡ (a * b) % m
quotient-is m a x b low unit = ap (λ o. (a * or_zero o) % m) (inverse_is m x b low unit)

-- a quotient by a unit times this unit
quotient-times : (m a x : ℕ) → IsUnit m x → (quotient m a x * x) % m ≡ a % m
quotient-times m a x unit =
    let b = unit.0 in
    mul-cong m (quotient m a x) (a * b) x x (ap (λ z. z % m) (quotient-is m a x b unit.1 unit.2) ∙ mod-mod (a * b) m) refl ∙
    ap (λ z. z % m) (omega arith) ∙
    mul-cong m a a (x * b) 1 refl (unit.2 ∙ sym (one-mod m x b unit.2)) ∙
    ap (λ z. z % m) (mul-one a)

-- inverse differences are residues
pub differences-low : (m : ℕ) (t v : ℕ → ℕ) → 0 < m → ((j : ℕ) → v j < m) → (i j : ℕ) → inverse_difference m t v i j < m
differences-low m t v some low zero j = low j
differences-low m t v some low (suc i) j =
    mod-lt ((t j + (m - t i)) * or_zero (inverse m (inverse_difference m t v i j + (m - inverse_difference m t v i i)))) some

-- the equations that they keep
differences-given : (m n : ℕ) (t v : ℕ → ℕ) (e : ℕ) → ((j : ℕ) → v j < m) → ClosesAt m n t v e → AreInverseDifferences m n t v (inverse_difference m t v) e
differences-given m n t v e low closes = record {
  first = λ j. refl;
  low = λ i j. omega (arith, differences-low m t v (omega (arith, low 0)) low i j);
  equations = λ i j before later within.
      quotient-times m (t j + (m - t i)) (inverse_difference m t v i j + (m - inverse_difference m t v i i)) (closes.units i j before later within);
}

-- what is no unit
zero-no_unit : (m x : ℕ) → x ≤ m → IsUnit m (x + (m - x)) → ⊥
zero-no_unit m x low unit =
    let whole : x + (m - x) ≡ m = omega arith in
    absurd (omega (
      arith,
      sym unit.2 ∙ ap (λ z. (z * unit.0) % m) whole ∙ ap (λ z. z % m) (omega arith) ∙ add-mul-mod_self_right 0 unit.0 m ∙ zero-mod m,
    ))

-- no later level closes where one does
pub closes-first : (m n : ℕ) (t v : ℕ → ℕ) (e f : ℕ) → ((j : ℕ) → v j < m) → e < f → f < n →
    ((j : ℕ) → e < j → j < n → inverse_difference m t v e j ≡ inverse_difference m t v e e) →
    ((j : ℕ) → e < j → j < n → IsUnit m (inverse_difference m t v e j + (m - inverse_difference m t v e e))) → ⊥
closes-first m n t v e f low before within closed units =
    let own = inverse_difference m t v e e in
    zero-no_unit m own (omega (arith, differences-low m t v (omega (arith, low 0)) low e e))
    (unit-cong m (inverse_difference m t v e f + (m - own)) (own + (m - own)) (ap (λ z. (z + (m - own)) % m) (closed f before within)) (units f before within))

-- the level is the only one
pub closes-once : (m n : ℕ) (t v : ℕ → ℕ) (e f : ℕ) → ((j : ℕ) → v j < m) → ClosesAt m n t v e → ClosesAt m n t v f → e ≡ f
closes-once m n t v e f low first second =
    elim (cases_lt e f) [
      | inl before ↦ absurd (closes-first m n t v e f low before second.within first.closed (λ j from within. second.units e j before from within))
      | inr from ↦
          elim (cases_lt f e) [
            | inl after ↦ absurd (closes-first m n t v f e low after first.within second.closed (λ j past within. first.units f j after past within))
            | inr until ↦ omega arith
          ]
    ]

-- the same polynomials from the same coefficients
pub part-same : (m : ℕ) (t c c' : ℕ → ℕ) (first second second' : List ℕ) (k : ℕ) → second ≡ second' → ((i : ℕ) → i < k → c i ≡ c' i) →
    thiele_part m t c first second k ≡ thiele_part m t c' first second' k
part-same m t c c' first second second' zero same coefficients = refl
part-same m t c c' first second second' (suc zero) same coefficients = same
part-same m t c c' first second second' (suc (suc k)) same coefficients =
    let linear = (m - t k) ∷ 1 ∷ [] in
    ap (λ p. sum_of (product_of linear p) (multiple (c (suc k)) (thiele_part m t c first second (suc k))))
    (part-same m t c c' first second second' k same (λ i low. coefficients i (omega arith))) ∙
    ap (λ p. sum_of (product_of linear (thiele_part m t c' first second' k)) (multiple (c (suc k)) p))
    (part-same m t c c' first second second' (suc k) same (λ i low. coefficients i (omega arith))) ∙
    ap (λ x. sum_of (product_of linear (thiele_part m t c' first second' k)) (multiple x (thiele_part m t c' first second' (suc k))))
    (coefficients (suc k) (omega arith))

pub num-same : (m : ℕ) (t c c' : ℕ → ℕ) (e : ℕ) → ((i : ℕ) → i ≤ e → c i ≡ c' i) → thiele_num m t c e ≡ thiele_num m t c' e
num-same m t c c' e coefficients =
    part-same m t c c' (1 ∷ []) (c 0 ∷ []) (c' 0 ∷ []) (suc e) (ap (λ z. z ∷ []) (coefficients 0 (omega arith))) (λ i low. coefficients i (omega arith))

pub den-same : (m : ℕ) (t c c' : ℕ → ℕ) (e : ℕ) → ((i : ℕ) → i ≤ e → c i ≡ c' i) → thiele_den m t c e ≡ thiele_den m t c' e
den-same m t c c' e coefficients = part-same m t c c' [] (1 ∷ []) (1 ∷ []) (suc e) refl (λ i low. coefficients i (omega arith))

-- pairs that are alike fit together
pub fits-alike : (m n : ℕ) (t : ℕ → ℕ) (a b : ℕ) (num den num' den' : List ℕ) → Alike m num' num → Alike m den' den → FitsPoints m n t a b num den → FitsPoints m n t a b num' den'
fits-alike m n t a b num den num' den' num_alike den_alike fits = record {
  num_degree = below-alike m (suc a) num' num num_alike fits.num_degree;
  den_degree = below-alike m (suc b) den' den den_alike fits.den_degree;
  nowhere_zero = λ i within none. fits.nowhere_zero i within (sym (value-alike m den' den (t i) den_alike) ∙ none);
}

-- the pair at which the form closes, scaled, is the least where it fits
pub closing-least : (m k n : ℕ) (t v : ℕ → ℕ) (a b e : ℕ) (num den made_num made_den : List ℕ) → suc k ≡ m → 1 < m → ((j : ℕ) → t j < m) → ((j : ℕ) → v j < m) → AreApart m n t → a + b < n →
    AnswersAt m n t v a b e → Alike m num (thiele_num m t (coefficient_at m t v) e) → Alike m den (thiele_den m t (coefficient_at m t v) e) → IsScaled m num den made_num made_den →
    IsLeastPair m n t v a b made_num made_den
closing-least m k n t v a b e num den made_num made_den predecessor large points low apart few answers num_alike den_alike scaled =
    let rest = thiele_num m t (coefficient_at m t v) e in
    let factor = thiele_den m t (coefficient_at m t v) e in
    let r = inverse_difference m t v in
    let d = scaled.degree in
    let s = scaled.factor in
    let closes = answers.closes in
    let given = differences-given m n t v e low closes in
    let points_low : (j : ℕ) → t j ≤ m = λ j. omega (arith, points j) in
    let factor_below : IsBelow m (suc d) factor = below-alike m (suc d) factor den (λ i. sym (den_alike i)) scaled.below in
    let unit : (slice_index factor d * s) % m ≡ 1 = mul-cong m (slice_index factor d) (slice_index den d) s s (sym (den_alike d)) refl ∙ scaled.unit in
    let within : d ≤ b = degree-low m d b factor (s, scaled.residue, unit) answers.fits.den_degree in
    least-of_multiples m n t v a b d s rest factor made_num made_den large answers.fits.num_degree factor_below
    (closing-agrees m n t v r e points_low given closes.closed) within unit
    (λ i. scaled.num_scaled i ∙ alike-multiple m s s num rest refl num_alike i)
    (λ i. scaled.den_scaled i ∙ alike-multiple m s s den factor refl den_alike i)
    (λ other_num other_den agreeing.
    closing-multiple m k n t v r a b e d other_num other_den predecessor large points_low apart closes.within few given closes.closed
    answers.fits.num_degree factor_below (s, scaled.residue, unit) within agreeing)

-- what holds of an answer, from what else does
pub some-both : {X : Type 0} (o : Option X) (P Q R : X → Type 0) → ((x : X) → P x → Q x → R x) → IfSome o P → IfSome o Q → IfSome o R
some-both None P Q R follows first second = second
some-both (Some x) P Q R follows first second = follows x first second

pub none-follows : {X : Type 0} (o : Option X) (P Q : Type 0) → (P → Q) → IfNone o P → IfNone o Q
none-follows None P Q follows fact = follows fact
none-follows (Some x) P Q follows fact = fact

-- numerator and denominator as they were written, from the coefficients in the words
pub written-num : (m : ℕ) (t v : ℕ → ℕ) (e : ℕ) (coefficients num : List ℕ) → ((i : ℕ) → i ≤ e → slice_index coefficients i ≡ coefficient_at m t v i) →
    Alike m num (thiele_num m t (slice_index coefficients) e) → Alike m num (thiele_num m t (coefficient_at m t v) e)
written-num m t v e coefficients num are alike =
    subst (λ (p : List ℕ). Alike m num p) (num-same m t (slice_index coefficients) (coefficient_at m t v) e are) alike

pub written-den : (m : ℕ) (t v : ℕ → ℕ) (e : ℕ) (coefficients den : List ℕ) → ((i : ℕ) → i ≤ e → slice_index coefficients i ≡ coefficient_at m t v i) →
    Alike m den (thiele_den m t (slice_index coefficients) e) → Alike m den (thiele_den m t (coefficient_at m t v) e)
written-den m t v e coefficients den are alike =
    subst (λ (p : List ℕ). Alike m den p) (den-same m t (slice_index coefficients) (coefficient_at m t v) e are) alike

-- the answer of a level at which the form closes
pub answered : (m n : ℕ) (t v : ℕ → ℕ) (a b e : ℕ) (num den : List ℕ) → ClosesAt m n t v e → Alike m num (thiele_num m t (coefficient_at m t v) e) →
    Alike m den (thiele_den m t (coefficient_at m t v) e) → FitsPoints m n t a b num den → AnswersAt m n t v a b e
answered m n t v a b e num den closes num_alike den_alike fits = record {
  closes = closes;
  fits = fits-alike m n t a b num den (thiele_num m t (coefficient_at m t v) e) (thiele_den m t (coefficient_at m t v) e) (λ i. sym (num_alike i)) (λ i. sym (den_alike i)) fits;
}

-- where its pair doesn't fit, no level answers
pub unanswered : (m n : ℕ) (t v : ℕ → ℕ) (a b e : ℕ) (num den : List ℕ) → ((j : ℕ) → v j < m) → ClosesAt m n t v e → Alike m num (thiele_num m t (coefficient_at m t v) e) →
    Alike m den (thiele_den m t (coefficient_at m t v) e) → (FitsPoints m n t a b num den → ⊥) → (f : ℕ) → AnswersAt m n t v a b f → ⊥
unanswered m n t v a b e num den low closes num_alike den_alike unfit f answers =
    let same : f ≡ e = closes-once m n t v f e low answers.closes closes in
    unfit (fits-alike m n t a b (thiele_num m t (coefficient_at m t v) e) (thiele_den m t (coefficient_at m t v) e) num den num_alike den_alike
    (subst (λ (g : ℕ). FitsPoints m n t a b (thiele_num m t (coefficient_at m t v) g) (thiele_den m t (coefficient_at m t v) g)) same answers.fits))
