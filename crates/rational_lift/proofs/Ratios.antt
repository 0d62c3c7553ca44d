-- Fractions within the bounds that leave the same residues at both moduli are the same.
use Rattle.std.proofs.Common.{◌≡◌, ◌≢◌, ℕ, zero, suc, ◌+◌, ◌-◌, ◌*◌, ◌%◌, ◌<◌, ◌≤◌, ◌⊎◌, inl, inr, ℤ, pos, negsuc, unsigned_abs, refl, sym, ◌∙◌, ap, subst, arith}
use Rattle.std.proofs.lemmas.Bool.{cases_lt, cases_eq}
use Rattle.std.proofs.Math.Nat.{dvd-mul_right, eq-one_of_dvd-one, mul-le-mul, eq_of_mul-eq-mul_left, zero-mod}
use Rattle.std.specs.Int.{IsGcd, ◌∣◌}
use Rattle.prime_field.specs.Modulus.{value_of}
use Rattle.prime_field.specs.Residue.{IsUnit}
use Rattle.prime_field.specs.declared.Modulus.{Modulus}
use Rattle.prime_field.proofs.Moduli.{value_of-large}
use Rattle.prime_field.proofs.Residues.{add-cong, mul-cong, cancel}
use Rattle.poly_maps.specs.Fraction.{IsLowest}
use Rattle.poly_maps.specs.Reduced.{residue}
use Rattle.poly_maps.specs.declared.fraction.Frac.{Frac}
use Rattle.rational_lift.specs.Joined.{both}
use Rattle.rational_lift.specs.Lifting.{IsInside}
use Rattle.rational_lift.specs.Recovery.{IsTied}
use Rattle.rational_lift.specs.declared.coeff.Coeff.{Coeff}
use Rattle.rational_lift.proofs.Joining.{joined_once}
use Rattle.rational_lift.proofs.Ties.{residue-tied}

-- a and c are multiples of x and y, and so are b and d
record IsScaled (a b c d : ℕ) : Type 0 where
  x : ℕ
  y : ℕ
  k : ℕ
  l : ℕ
  a_is : a ≡ k * x
  c_is : c ≡ k * y
  b_is : b ≡ l * x
  d_is : d ≡ l * y

cancel_left : (n a b : ℕ) → 0 < n → n * a ≡ n * b → a ≡ b
cancel_left n a b some same = eq_of_mul-eq-mul_left n some a b (omega (arith, same))

-- two equal ratios a/c and b/d are multiples of one
scaled : (fuel a b c d : ℕ) → c + d ≤ fuel → 0 < c → 0 < d → a * d ≡ b * c → IsScaled a b c d
scaled zero a b c d enough c_some d_some cross = absurd (omega arith)
scaled (suc fuel) a b c d enough c_some d_some cross = by (cases_eq c d) (cases_lt c d) (scaled fuel)
  where
    by : (c ≡ d) ⊎ (c ≢ d) → (c < d) ⊎ (d ≤ c) → ((a b c d : ℕ) → c + d ≤ fuel → 0 < c → 0 < d → a * d ≡ b * c → IsScaled a b c d) → IsScaled a b c d
    by (inl equal) _ again =
        let top : a ≡ b = cancel_left c a b c_some (omega (arith, cross, ap (λ t. a * t) equal)) in
        record { x = a; y = c; k = 1; l = 1; a_is = omega arith; c_is = omega arith; b_is = omega (arith, top); d_is = omega (arith, equal) }
    by (inr other) (inl less) again =
        let more : a ≤ b = elim (cases_lt b a) [
          | inl wrong ↦ absurd (omega (arith, cross, mul-le-mul {n₁ = suc b} {m₁ = c} {n₂ = a} {m₂ = d} wrong (omega (arith, less))))
          | inr fine ↦ fine
        ] in
        let rest_b : ℕ = b - a in
        let rest_d : ℕ = d - c in
        let b_is : b ≡ a + rest_b = omega arith in
        let d_is : d ≡ c + rest_d = omega arith in
        let found = again a rest_b c rest_d (omega arith) c_some (omega arith) (omega (arith, cross, ap (λ t. a * t) d_is, ap (λ t. t * c) b_is)) in
        record {
          x = found.x;
          y = found.y;
          k = found.k;
          l = found.k + found.l;
          a_is = found.a_is;
          c_is = found.c_is;
          b_is = omega (arith, b_is, found.a_is, found.b_is);
          d_is = omega (arith, d_is, found.c_is, found.d_is);
        }
    by (inr other) (inr least) again =
        let less : d < c = omega (arith, other) in
        let more : b ≤ a = elim (cases_lt a b) [
          | inl wrong ↦ absurd (omega (arith, cross, mul-le-mul {n₁ = suc a} {m₁ = d} {n₂ = b} {m₂ = c} wrong (omega (arith, less))))
          | inr fine ↦ fine
        ] in
        let rest_a : ℕ = a - b in
        let rest_c : ℕ = c - d in
        let a_is : a ≡ b + rest_a = omega arith in
        let c_is : c ≡ d + rest_c = omega arith in
        let found = again rest_a b rest_c d (omega arith) (omega arith) d_some (omega (arith, cross, ap (λ t. b * t) c_is, ap (λ t. t * d) a_is)) in
        record {
          x = found.x;
          y = found.y;
          k = found.k + found.l;
          l = found.l;
          a_is = omega (arith, a_is, found.a_is, found.b_is);
          c_is = omega (arith, c_is, found.c_is, found.d_is);
          b_is = found.b_is;
          d_is = found.d_is;
        }

one-common : (a c k x y : ℕ) → IsGcd a c 1 → a ≡ k * x → c ≡ k * y → k ≡ 1
one-common a c k x y lowest first second =
    eq-one_of_dvd-one (lowest.2 k (subst (λ n. k ∣ n) (sym first) (dvd-mul_right k x)) (subst (λ n. k ∣ n) (sym second) (dvd-mul_right k y)))

-- equal ratios in lowest terms are the same
pub ratio_once : (a b c d : ℕ) → IsGcd a c 1 → IsGcd b d 1 → 0 < c → 0 < d → a * d ≡ b * c → (a ≡ b) × (c ≡ d)
ratio_once a b c d first second c_some d_some cross =
    let found = scaled (c + d) a b c d (omega arith) c_some d_some cross in
    let k_one : found.k ≡ 1 = one-common a c found.k found.x found.y first found.a_is found.c_is in
    let l_one : found.l ≡ 1 = one-common b d found.l found.x found.y second found.b_is found.d_is in (
      found.a_is ∙ ap (λ t. t * found.x) (k_one ∙ sym l_one) ∙ sym found.b_is,
      found.c_is ∙ ap (λ t. t * found.y) (k_one ∙ sym l_one) ∙ sym found.d_is,
    )

-- ---- with signs, and residues in place of equations

-- r leaves both fractions modulo m
abbrev Ties : (m : ℕ) → (y z : ℤ) → (c d : ℕ) → Type 0
Ties m y z c d = (r : ℕ) × IsTied m r y c × IsTied m r z d

same_sign : (m a b c d : ℕ) → Ties m (pos a) (pos b) c d → (a * d) % m ≡ (b * c) % m
same_sign m a b c d ties =
    let r : ℕ = ties.0 in
    mul-cong m a (r * c) d d (sym ties.1) refl ∙ ap (λ t. t % m) (omega arith) ∙ mul-cong m (r * d) b c c ties.2 refl

same_minus : (m a b c d : ℕ) → Ties m (negsuc a) (negsuc b) c d → ((a + 1) * d) % m ≡ ((b + 1) * c) % m
same_minus m a b c d ties =
    let r : ℕ = ties.0 in
    cancel m ((a + 1) * d) ((b + 1) * c) (r * c * d)
    (ap (λ t. t % m) (omega arith) ∙ mul-cong m (r * c + (a + 1)) 0 d d ties.1 refl ∙ ap (λ t. t % m) (omega arith) ∙
    sym (mul-cong m (r * d + (b + 1)) 0 c c ties.2 refl) ∙ ap (λ t. t % m) (omega arith))

other_sign : (m a b c d : ℕ) → Ties m (pos a) (negsuc b) c d → (a * d + (b + 1) * c) % m ≡ 0
other_sign m a b c d ties =
    let r : ℕ = ties.0 in
    add-cong m (a * d) (r * c * d) ((b + 1) * c) ((b + 1) * c) (mul-cong m a (r * c) d d (sym ties.1) refl) refl ∙
    ap (λ t. t % m) (omega arith) ∙ mul-cong m (r * d + (b + 1)) 0 c c ties.2 refl ∙ ap (λ t. t % m) (omega arith) ∙ zero-mod m

below_both : (n d a b : ℕ) → a ≤ n → b ≤ d → 2 * (n * d) < both → 2 * (a * b) < both
below_both n d a b a_low b_low narrow = omega (arith, mul-le-mul {n₁ = a} {m₁ = b} {n₂ = n} {m₂ = d} a_low b_low)

record IsBounded (n d a c : ℕ) : Type 0 where
  num : a ≤ n
  den : c ≤ d
  some : 0 < c
  lowest : IsGcd a c 1

parts_once : (n d a b c e : ℕ) → 2 * (n * d) < both → IsBounded n d a c → IsBounded n d b e → ((m : Modulus) → (a * e) % value_of m ≡ (b * c) % value_of m) → (a ≡ b) × (c ≡ e)
parts_once n d a b c e narrow first second same =
    let left : 2 * (a * e) < both = below_both n d a e first.num second.den narrow in
    let right : 2 * (b * c) < both = below_both n d b c second.num first.den narrow in
    ratio_once a b c e first.lowest second.lowest first.some second.some (joined_once (a * e) (b * c) (omega (arith, left)) (omega (arith, right)) same)

-- no fraction leaves what one with the other sign leaves
signs_apart : (n d a b c e : ℕ) → 2 * (n * d) < both → IsBounded n d a c → IsBounded n d (b + 1) e → ((m : Modulus) → (a * e + (b + 1) * c) % value_of m ≡ 0) → ⊥
signs_apart n d a b c e narrow first second gone =
    let left : 2 * (a * e) < both = below_both n d a e first.num second.den narrow in
    let right : 2 * ((b + 1) * c) < both = below_both n d (b + 1) c second.num first.den narrow in
    let none : a * e + (b + 1) * c ≡ 0 = joined_once (a * e + (b + 1) * c) 0 (omega (arith, left, right)) (omega arith) (λ m. gone m ∙ sym (zero-mod (value_of m))) in
    omega (arith, none, mul-le-mul {n₁ = 1} {m₁ = 1} {n₂ = b + 1} {m₂ = c} (omega arith) first.some)

-- a fraction within the bounds whose denominator is a unit at both moduli
pub record IsLiftable (c : Coeff) (f : Frac) : Type 0 where
  pub lowest : IsLowest f
  pub inside : IsInside c f
  pub units : (m : Modulus) → IsUnit (value_of m) f.den

pub fraction_once : (c : Coeff) (f g : Frac) → 2 * (c.num * c.den) < both → IsLiftable c f → IsLiftable c g → ((m : Modulus) → residue (value_of m) f ≡ residue (value_of m) g) → f ≡ g
fraction_once c f g narrow first second same = by f.num g.num refl refl
  where
    ties : (m : Modulus) → Ties (value_of m) f.num g.num f.den g.den
    ties m =
        let some : 0 < value_of m = omega (arith, value_of-large m) in
        (residue (value_of m) f, residue-tied (value_of m) (residue (value_of m) f) f some (first.units m) refl, residue-tied (value_of m) (residue (value_of m) f) g some (second.units m) (sym (same m)))

    bounded : (h : Frac) (z : ℤ) (a : ℕ) → h.num ≡ z → unsigned_abs z ≡ a → IsLiftable c h → IsBounded c.num c.den a h.den
    bounded h z a is size liftable =
        let whole : unsigned_abs h.num ≡ a = ap unsigned_abs is ∙ size in
        record {
          num = omega (arith, liftable.inside.num, whole);
          den = liftable.inside.den;
          some = liftable.lowest.positive;
          lowest = subst (λ n. IsGcd n h.den 1) whole liftable.lowest.lowest;
        }

    tied : (y z : ℤ) → f.num ≡ y → g.num ≡ z → (m : Modulus) → Ties (value_of m) y z f.den g.den
    tied y z first_is second_is m = (
      (ties m).0,
      subst (λ t. IsTied (value_of m) (ties m).0 t f.den) first_is (ties m).1,
      subst (λ t. IsTied (value_of m) (ties m).0 t g.den) second_is (ties m).2,
    )

    by : (y z : ℤ) → f.num ≡ y → g.num ≡ z → f ≡ g
    by (pos a) (pos b) first_is second_is =
        let once = parts_once c.num c.den a b f.den g.den narrow (bounded f (pos a) a first_is refl first) (bounded g (pos b) b second_is refl second) (λ m. same_sign (value_of m) a b f.den g.den (tied (pos a) (pos b) first_is second_is m)) in
        let num : f.num ≡ g.num = first_is ∙ ap pos once.0 ∙ sym second_is in
        λ i. record { num = num i; den = once.1 i }
    by (negsuc a) (negsuc b) first_is second_is =
        let once = parts_once c.num c.den (a + 1) (b + 1) f.den g.den narrow (bounded f (negsuc a) (a + 1) first_is (omega arith) first) (bounded g (negsuc b) (b + 1) second_is (omega arith) second) (λ m. same_minus (value_of m) a b f.den g.den (tied (negsuc a) (negsuc b) first_is second_is m)) in
        let num : f.num ≡ g.num = let equal : a ≡ b = omega (arith, once.0) in first_is ∙ ap negsuc equal ∙ sym second_is in
        λ i. record { num = num i; den = once.1 i }
    by (pos a) (negsuc b) first_is second_is =
        absurd (signs_apart c.num c.den a b f.den g.den narrow (bounded f (pos a) a first_is refl first) (bounded g (negsuc b) (b + 1) second_is (omega arith) second) (λ m. other_sign (value_of m) a b f.den g.den (tied (pos a) (negsuc b) first_is second_is m)))
    by (negsuc a) (pos b) first_is second_is =
        absurd (signs_apart c.num c.den b a g.den f.den narrow (bounded g (pos b) b second_is refl second) (bounded f (negsuc a) (a + 1) first_is (omega arith) first) (λ m. let t = tied (negsuc a) (pos b) first_is second_is m in other_sign (value_of m) b a g.den f.den (t.0, t.2, t.1)))
