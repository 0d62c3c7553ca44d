-- Division with remainder by a polynomial whose leading coefficient is a unit.
use Rattle.std.proofs.Common.{◌≡◌, ℕ, zero, suc, ◌+◌, ◌*◌, ◌%◌, List, [], ◌∷◌, slice_index, refl, sym, ◌∙◌, ap, arith, inl, inr}
use Rattle.std.proofs.Math.Nat.{zero-mod, mod-mod}
use Rattle.std.proofs.lemmas.Bool.{cases_eq}
use Rattle.prime_field.specs.Residue.{IsUnit}
use Rattle.prime_field.proofs.Residues.{add-cong, mul-cong}
use Rattle.univariate.specs.Coefficients.{sum_of, multiple, product_of, IsBelow, Alike}
use Rattle.univariate.proofs.Coefficients.{at-sum, at-multiple, difference_of_same}
use Rattle.univariate.proofs.Degrees.{below-multiple, below-sum}

-- p is q times c and a remainder r of degree below d
pub record IsDivided (m d : ℕ) (c p q r : List ℕ) : Type 0 where
  pub whole : Alike m p (sum_of r (product_of q c))
  pub small : IsBelow m d r

-- what is left of t once s times c is taken away, k being m - 1
left_over : ℕ → ℕ → List ℕ → List ℕ → List ℕ
left_over k s c t = sum_of t (multiple (k * s) c)

-- an entry of it, with s times c added again
refilled : (m k s : ℕ) (c t : List ℕ) → suc k ≡ m → (i : ℕ) → (slice_index (left_over k s c t) i + s * slice_index c i) % m ≡ slice_index t i % m
unfolding left_over
refilled m k s c t predecessor i =
    let ci = slice_index c i in
    let ti = slice_index t i in
    ap (λ x. (x + s * ci) % m) (at-sum t (multiple (k * s) c) i ∙ ap (λ x. ti + x) (at-multiple (k * s) c i)) ∙
    ap (λ x. x % m) (omega arith) ∙
    add-cong m ti ti (s * ci + k * (s * ci)) 0 refl (difference_of_same m k (s * ci) (s * ci) predecessor refl ∙ sym (zero-mod m)) ∙
    ap (λ x. x % m) (omega arith)

-- the coefficient of t at d is taken away where s times that of c is it
leaves_less : (m k d s : ℕ) (c t : List ℕ) → suc k ≡ m → IsBelow m (suc d) c → IsBelow m (suc d) t → (s * slice_index c d) % m ≡ slice_index t d % m → IsBelow m d (left_over k s c t)
unfolding left_over
leaves_less m k d s c t predecessor c_below t_below same i from =
    elim (cases_eq i d) [
      | inl last ↦
          ap (λ j. slice_index (sum_of t (multiple (k * s) c)) j % m) last ∙
          ap (λ x. x % m) (at-sum t (multiple (k * s) c) d ∙ ap (λ x. slice_index t d + x) (at-multiple (k * s) c d)) ∙
          ap (λ x. x % m) (omega arith) ∙
          difference_of_same m k (slice_index t d) (s * slice_index c d) predecessor (sym same)
      | inr other ↦
          below-sum m (suc d) t (multiple (k * s) c) t_below (below-multiple m (suc d) (k * s) c c_below) i (omega arith)
    ]

-- a coefficient put before a remainder
below-cons : (m d a : ℕ) (r : List ℕ) → IsBelow m d r → IsBelow m (suc d) (a ∷ r)
below-cons m d a r below zero from = absurd (omega arith)
below-cons m d a r below (suc k) from = below k (omega arith)

-- the entries of a sum of which the tail is divided
whole_more : (m a s : ℕ) (c p q r t : List ℕ) → Alike m p (sum_of r (product_of q c)) → ((i : ℕ) → (slice_index t i + s * slice_index c i) % m ≡ slice_index (a ∷ r) i % m) → Alike m (a ∷ p) (sum_of t (product_of (s ∷ q) c))
whole_more m a s c p q r t whole refill i =
    sym (ap (λ x. x % m) (at-sum t (product_of (s ∷ q) c) i ∙
    ap (λ x. slice_index t i + x) (at-sum (multiple s c) (0 ∷ product_of q c) i ∙ ap (λ x. x + slice_index (0 ∷ product_of q c) i) (at-multiple s c i))) ∙
    ap (λ x. x % m) (omega arith) ∙
    add-cong m (slice_index t i + s * slice_index c i) (slice_index (a ∷ r) i) (slice_index (0 ∷ product_of q c) i) (slice_index (0 ∷ product_of q c) i) (refill i) refl ∙
    joined i)
  where
    joined : (i : ℕ) → (slice_index (a ∷ r) i + slice_index (0 ∷ product_of q c) i) % m ≡ slice_index (a ∷ p) i % m
    joined zero = ap (λ x. x % m) (omega arith)
    joined (suc i) = ap (λ x. x % m) (sym (at-sum r (product_of q c) i)) ∙ sym (whole i)

-- the quotient of t's coefficient by c's, which is a unit
factor_of : (m t c : ℕ) → IsUnit m c → (s : ℕ) × ((s * c) % m ≡ t % m)
factor_of m t c unit = (
  t * unit.0,
  ap (λ x. x % m) (omega arith) ∙
      mul-cong m t t (c * unit.0) 1 refl (unit.2 ∙ sym (one m (c * unit.0) unit.2)) ∙
      ap (λ x. x % m) (omega arith),
)
  where
    one : (m x : ℕ) → x % m ≡ 1 → 1 % m ≡ 1
    one m x leaves = ap (λ t. t % m) (sym leaves) ∙ mod-mod x m ∙ leaves

-- each polynomial is divided
pub divide : (m k d : ℕ) (c : List ℕ) → suc k ≡ m → IsBelow m (suc d) c → IsUnit m (slice_index c d) → (p : List ℕ) → (q : List ℕ) × (r : List ℕ) × IsDivided m d c p q r
divide m k d c predecessor below unit [] = ([], [], record { whole = λ i. refl; small = λ i from. zero-mod m })
divide m k d c predecessor below unit (a ∷ p) =
    let rest = divide m k d c predecessor below unit p in
    let t = a ∷ rest.1 in
    let s = factor_of m (slice_index t d) (slice_index c d) unit in (
      s.0 ∷ rest.0,
      left_over k s.0 c t,
      record {
        whole = whole_more m a s.0 c p rest.0 rest.1 (left_over k s.0 c t) rest.2.whole (refilled m k s.0 c t predecessor);
        small = leaves_less m k d s.0 c t predecessor below (below-cons m d a rest.1 rest.2.small) s.1;
      },
    )
