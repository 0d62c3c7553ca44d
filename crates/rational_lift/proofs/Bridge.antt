-- Residues modulo the product of the moduli, and residues at both.
use Rattle.std.proofs.Common.{◌≡◌, ℕ, ◌+◌, ◌-◌, ◌*◌, ◌%◌, ◌<◌, ℤ, pos, negsuc, refl, sym, ◌∙◌, ap, arith}
use Rattle.std.proofs.Math.Nat.{mod-eq_of_lt, mod-mod}
use Rattle.std.proofs.lemmas.Nat.{mod_below, mul-mod_second}
use Rattle.prime_field.specs.Modulus.{value_of}
use Rattle.prime_field.specs.Residue.{IsUnit}
use Rattle.prime_field.specs.declared.Modulus.{Modulus}
use Rattle.prime_field.specs.declared.Modulus.TheVariants.{First, Second}
use Rattle.prime_field.proofs.Moduli.{value_of-large}
use Rattle.prime_field.proofs.Residues.{add-cong, mul-cong, by_multiples, multiples}
use Rattle.poly_maps.specs.Reduced.{residue}
use Rattle.poly_maps.specs.declared.fraction.Frac.{Frac}
use Rattle.rational_lift.specs.Joined.{both, IsJoint, at_each}
use Rattle.rational_lift.specs.Lifting.{Recovers}
use Rattle.rational_lift.specs.Recovery.{IsRecovery, IsTied}
use Rattle.rational_lift.specs.declared.coeff.Coeff.{Coeff}
use Rattle.rational_lift.proofs.Joining.{joined_once, IsJoint-joined}
use Rattle.rational_lift.proofs.Ratios.{IsLiftable}
use Rattle.rational_lift.proofs.Ties.{residue-tied, tied-residue}

-- congruent modulo the product, congruent at each modulus
pub at_modulus : (m : Modulus) (x y : ℕ) → x % both ≡ y % both → x % value_of m ≡ y % value_of m
at_modulus First x y same =
    let found = multiples both x y same in
    by_multiples (value_of First) x y (found.0 * value_of Second) (found.1 * value_of Second) (omega (arith, found.2))
at_modulus Second x y same =
    let found = multiples both x y same in
    by_multiples (value_of Second) x y (found.0 * value_of First) (found.1 * value_of First) (omega (arith, found.2))

-- and the other way round
pub at_both : (x y : ℕ) → ((m : Modulus) → x % value_of m ≡ y % value_of m) → x % both ≡ y % both
at_both x y same =
    joined_once (x % both) (y % both) (mod_below x both (omega arith)) (mod_below y both (omega arith))
    (λ m. at_modulus m (x % both) x (mod-mod x both) ∙ same m ∙ sym (at_modulus m (y % both) y (mod-mod y both)))

unit_at : (m : Modulus) (a : ℕ) → IsUnit both a → IsUnit (value_of m) a
unit_at m a unit =
    let more = value_of-large m in (
      unit.0 % value_of m,
      mod_below unit.0 (value_of m) (omega (arith, more)),
      mul-mod_second a unit.0 (value_of m) ∙ at_modulus m (a * unit.0) 1 (unit.2 ∙ refl) ∙ mod-eq_of_lt more,
    )

unit_both : (a : ℕ) → ((m : Modulus) → IsUnit (value_of m) a) → IsUnit both a
unit_both a units =
    let first : ℕ = (units First).0 in
    let second : ℕ = (units Second).0 in
    let factor : ℕ = ((second + (value_of Second - first)) % value_of Second * 8784163844623595984) % value_of Second in
    let joint = IsJoint-joined first second factor (units First).1 (units Second).1 refl in
    let inverse : ℕ = first + value_of First * factor in (
      inverse,
      joint.low,
      at_both (a * inverse) 1 (product inverse joint) ∙ refl,
    )
  where
    product : (b : ℕ) → IsJoint (at_each (units First).0 (units Second).0) b → (m : Modulus) → (a * b) % value_of m ≡ 1 % value_of m
    product b joint First = sym (mul-mod_second a b (value_of First)) ∙ ap (λ t. (a * t) % value_of First) (joint.leaves First) ∙ (units First).2 ∙ sym (mod-eq_of_lt (value_of-large First))
    product b joint Second = sym (mul-mod_second a b (value_of Second)) ∙ ap (λ t. (a * t) % value_of Second) (joint.leaves Second) ∙ (units Second).2 ∙ sym (mod-eq_of_lt (value_of-large Second))

-- the residue and the joint number may stand for each other
swapped : (m : Modulus) (left : Modulus → ℕ) (joint t : ℕ) → IsJoint left joint → (joint * t) % value_of m ≡ (left m * t) % value_of m
swapped m left joint t is = mul-cong (value_of m) joint (left m) t t (sym (mod-mod joint (value_of m)) ∙ ap (λ s. s % value_of m) (is.leaves m)) refl

tied_at : (m : Modulus) (left : Modulus → ℕ) (joint t : ℕ) (z : ℤ) → IsJoint left joint → IsTied both joint z t → IsTied (value_of m) (left m) z t
tied_at m left joint t (pos n) is tied = sym (swapped m left joint t is) ∙ at_modulus m (joint * t) n tied
tied_at m left joint t (negsuc n) is tied =
    add-cong (value_of m) (left m * t) (joint * t) (n + 1) (n + 1) (sym (swapped m left joint t is)) refl ∙ at_modulus m (joint * t + (n + 1)) 0 tied

tied_both : (left : Modulus → ℕ) (joint t : ℕ) (z : ℤ) → IsJoint left joint → ((m : Modulus) → IsTied (value_of m) (left m) z t) → IsTied both joint z t
tied_both left joint t (pos n) is tied = at_both (joint * t) n (λ m. swapped m left joint t is ∙ tied m)
tied_both left joint t (negsuc n) is tied =
    at_both (joint * t + (n + 1)) 0 (λ m. add-cong (value_of m) (joint * t) (left m * t) (n + 1) (n + 1) (swapped m left joint t is) refl ∙ tied m)

-- a fraction with the joint number as residue leaves both
pub recovery-liftable : (c : Coeff) (joint : ℕ) (f : Frac) → IsRecovery both joint c.num c.den f → IsLiftable c f
recovery-liftable c joint f recovery = record {
  lowest = recovery.lowest;
  inside = record { num = recovery.num; den = recovery.den };
  units = λ m. unit_at m f.den recovery.unit;
}

pub recovery-left : (c : Coeff) (left : Modulus → ℕ) (joint : ℕ) (f : Frac) → IsJoint left joint → IsRecovery both joint c.num c.den f → ((m : Modulus) → left m < value_of m) → (m : Modulus) → residue (value_of m) f ≡ left m
recovery-left c left joint f is recovery low m =
    tied-residue (value_of m) (left m) f (omega (arith, value_of-large m)) (low m) (unit_at m f.den recovery.unit)
    (tied_at m left joint f.den f.num is (residue-tied both joint f (omega arith) recovery.unit recovery.residue))

-- and the other way round
pub recovers-recovery : (c : Coeff) (left : Modulus → ℕ) (joint : ℕ) → IsJoint left joint → (found : Recovers c left) → IsRecovery both joint c.num c.den found.fraction
recovers-recovery c left joint is found =
    let f : Frac = found.fraction in
    let unit = unit_both f.den found.units in
    record {
      lowest = found.lowest;
      num = found.inside.num;
      den = found.inside.den;
      unit = unit;
      residue = tied-residue both joint f (omega arith) is.low unit (tied_both left joint f.den f.num is (λ m.
          residue-tied (value_of m) (left m) f (omega (arith, value_of-large m)) (found.units m) (found.residues m)));
    }

-- the joint number of two residues, where these are the ones given
pub joint_of : (left : Modulus → ℕ) (first second joint : ℕ) → first ≡ left First → second ≡ left Second → IsJoint (at_each first second) joint → IsJoint left joint
joint_of left first second joint one two is = record { low = is.low; leaves = leaves }
  where
    leaves : (m : Modulus) → joint % value_of m ≡ left m
    leaves First = is.leaves First ∙ one
    leaves Second = is.leaves Second ∙ two
