-- Two pairs are lifted to one thing alone.
use Rattle.std.proofs.Common.{◌≡◌, ℕ, ◌*◌, ◌%◌, ◌<◌, ◌≤◌, ◌⊎◌, inl, inr, Bool, true, false, if◌then◌else◌, Option, Some, None, List, [], ◌∷◌, pos, unsigned_abs, refl, sym, ◌∙◌, ap, arith}
use Rattle.std.proofs.Math.Nat.{dvd-zero, dvd_refl}
use Rattle.std.specs.declared.cmp.Ordering.{Ordering}
use Rattle.std.specs.declared.cmp.Ordering.TheVariants.{Less, Equal, Greater}
use Rattle.prime_field.specs.Modulus.{value_of}
use Rattle.prime_field.specs.Residue.{IsUnit}
use Rattle.prime_field.specs.declared.Modulus.{Modulus}
use Rattle.prime_field.specs.declared.Modulus.TheVariants.{First, Second}
use Rattle.prime_field.proofs.Moduli.{value_of-large}
use Rattle.poly_maps.specs.Mono.{mono_cmp, is_same}
use Rattle.poly_maps.specs.Polynomial.{coefficient, leading, Descends}
use Rattle.poly_maps.specs.Fraction.{IsFraction, AreFractions, LeadsWithOne, fraction_at}
use Rattle.poly_maps.specs.Quotient.{RationalPair}
use Rattle.poly_maps.specs.Reduced.{residue, residues, residue_pair, HaveUnits}
use Rattle.poly_maps.specs.declared.fraction.Frac.{Frac}
use Rattle.poly_maps.specs.declared.pair.Pair.{Pair}
use Rattle.poly_maps.proofs.MonoLemmas.{mono_tied, mono_flip}
use Rattle.poly_maps.proofs.Fractions.{same_fractions}
use Rattle.poly_maps.proofs.Reductions.{left_by, coefficient-residues}
use Rattle.rational_lift.specs.Joined.{both}
use Rattle.rational_lift.specs.Lifting.{IsInside, AreInside, at_part, Lift, Lifted, Unlike, NoRational, IsLifted, IsUnlike, Recovers, IsRecovered, IsNoRational, Before, LiftsTo}
use Rattle.rational_lift.specs.declared.coeff.Coeff.{Coeff}
use Rattle.rational_lift.specs.declared.coeff.Part.{Part}
use Rattle.rational_lift.specs.declared.coeff.Part.TheVariants.{Numerator, Denominator}
use Rattle.rational_lift.proofs.Joining.{joined_once}
use Rattle.rational_lift.proofs.Ratios.{IsLiftable, fraction_once}
use Rattle.rational_lift.proofs.Ties.{tied-residue}

-- ---- zero and one

abbrev pub nought : Frac
nought = record { num = pos 0; den = 1 }

pub unit-one : (m : Modulus) → IsUnit (value_of m) 1
unit-one First = (1, omega arith, refl)
unit-one Second = (1, omega arith, refl)

pub nought-liftable : (c : Coeff) → 1 ≤ c.den → IsLiftable c nought
nought-liftable c some = record {
  lowest = record { positive = omega arith; lowest = (dvd-zero 1, dvd_refl 1, λ d first second. second) };
  inside = record { num = omega arith; den = some };
  units = unit-one;
}

pub nought-residue : (m : Modulus) → residue (value_of m) nought ≡ 0
nought-residue m = tied-residue (value_of m) 0 nought (omega (arith, value_of-large m)) (omega (arith, value_of-large m)) (unit-one m) (ap (λ t. t % value_of m) (omega arith))

pub one-residue : (m : Modulus) (f : Frac) → f.num ≡ pos 1 → f.den ≡ 1 → residue (value_of m) f ≡ 1
one-residue m f num den =
    let one : Frac = record { num = pos 1; den = 1 } in
    let is : f ≡ record { num = pos 1; den = 1 } = λ i. record { num = num i; den = den i } in
    ap (residue (value_of m)) is ∙ tied-residue (value_of m) 1 (record { num = pos 1; den = 1 }) (omega (arith, value_of-large m)) (value_of-large m) (unit-one m) (ap (λ t. t % value_of m) (omega arith))

-- ---- the fractions at monomials

-- there is none, or one within the bounds that isn't zero and whose denominator is a unit at both moduli
abbrev pub IsGood : Coeff → Option Frac → Type 0
IsGood c None = Unit {0}
IsGood c (Some f) = IsFraction f × IsLiftable c f

liftable : (c : Coeff) (f : Frac) → IsFraction f → IsInside c f → ((m : Modulus) → IsUnit (value_of m) f.den) → IsLiftable c f
liftable c f fraction inside units = record { lowest = record { positive = fraction.positive; lowest = fraction.lowest }; inside = inside; units = units }

pub good-at : (c : Coeff) (e : List ℕ) (p : List (List ℕ × Frac)) → AreFractions p → AreInside c p → ((m : Modulus) → HaveUnits (value_of m) p) → IsGood c (fraction_at e p)
good-at c e [] fractions inside units = tt
good-at c e (t ∷ p) fractions inside units = by (is_same t.0 e) (good-at c e p fractions.1 inside.1 (λ m. (units m).1))
  where
    by : (b : Bool) → IsGood c (fraction_at e p) → IsGood c (if b then Some t.1 else fraction_at e p)
    by true rest = (fractions.0, liftable c t.1 fractions.0 inside.0 (λ m. (units m).0))
    by false rest = rest

good_once : (c : Coeff) (o p : Option Frac) → 2 * (c.num * c.den) < both → 1 ≤ c.den → IsGood c o → IsGood c p → ((m : Modulus) → left_by (value_of m) o ≡ left_by (value_of m) p) → o ≡ p
good_once c None None narrow some first second same = refl
good_once c (Some f) (Some g) narrow some first second same = ap Some (fraction_once c f g narrow first.1 second.1 same)
good_once c (Some f) None narrow some first second same =
    absurd (first.0.some (ap (λ h. unsigned_abs h.num) (fraction_once c f nought narrow first.1 (nought-liftable c some) (λ m. same m ∙ sym (nought-residue m)))))
good_once c None (Some g) narrow some first second same =
    absurd (second.0.some (ap (λ h. unsigned_abs h.num) (fraction_once c g nought narrow second.1 (nought-liftable c some) (λ m. sym (same m) ∙ sym (nought-residue m)))))

-- polynomials that leave the same at both moduli
part_once : (c : Coeff) (p q : List (List ℕ × Frac)) → 2 * (c.num * c.den) < both → 1 ≤ c.den → Descends p → Descends q → ((e : List ℕ) → IsGood c (fraction_at e p)) → ((e : List ℕ) → IsGood c (fraction_at e q)) →
    ((m : Modulus) → residues (value_of m) p ≡ residues (value_of m) q) → p ≡ q
part_once c p q narrow some first second good good' same =
    same_fractions p q first second (λ e. good_once c (fraction_at e p) (fraction_at e q) narrow some (good e) (good' e) (λ m.
    sym (coefficient-residues (value_of m) e p first) ∙ ap (coefficient e) (same m) ∙ coefficient-residues (value_of m) e q second))

good_num : (c : Coeff) (pairs : Modulus → Pair) (F : RationalPair) → IsLifted c pairs F → (e : List ℕ) → IsGood c (fraction_at e F.num)
good_num c pairs F lifted e = good-at c e F.num lifted.map.num.fractions lifted.inside.num (λ m. (lifted.units m).num)

good_den : (c : Coeff) (pairs : Modulus → Pair) (F : RationalPair) → IsLifted c pairs F → (e : List ℕ) → IsGood c (fraction_at e F.den)
good_den c pairs F lifted e = good-at c e F.den lifted.map.den.fractions lifted.inside.den (λ m. (lifted.units m).den)

-- a denominator leads with 1, so 1 is within the bounds
leads_some : (c : Coeff) (p : List (List ℕ × Frac)) → LeadsWithOne p → AreInside c p → 1 ≤ c.den
leads_some c [] leads inside = absurd leads
leads_some c (t ∷ p) leads inside = omega (arith, leads.1, inside.0.den)

some_den : (c : Coeff) (pairs : Modulus → Pair) (F : RationalPair) → IsLifted c pairs F → 1 ≤ c.den
some_den c pairs F lifted = leads_some c F.den lifted.map.leads lifted.inside.den

lifted_once : (c : Coeff) (pairs : Modulus → Pair) (F G : RationalPair) → 2 * (c.num * c.den) < both → IsLifted c pairs F → IsLifted c pairs G → F ≡ G
lifted_once c pairs F G narrow first second =
    let some = some_den c pairs F first in
    let same : (m : Modulus) → residue_pair (value_of m) F ≡ residue_pair (value_of m) G = λ m. first.residues m ∙ sym (second.residues m) in
    let num : F.num ≡ G.num = part_once c F.num G.num narrow some first.map.num.descends second.map.num.descends (good_num c pairs F first) (good_num c pairs G second) (λ m. ap (λ f. f.num) (same m)) in
    let den : F.den ≡ G.den = part_once c F.den G.den narrow some first.map.den.descends second.map.den.descends (good_den c pairs F first) (good_den c pairs G second) (λ m. ap (λ f. f.den) (same m)) in
    λ i. record { num = num i; den = den i }

-- ---- each monomial of what is lifted has a fraction

pub recovered_by : (c : Coeff) (left : Modulus → ℕ) (o : Option Frac) → 1 ≤ c.den → IsGood c o → ((m : Modulus) → left_by (value_of m) o ≡ left m) → Recovers c left
recovered_by c left None some good same = record {
  fraction = nought;
  lowest = (nought-liftable c some).lowest;
  inside = (nought-liftable c some).inside;
  units = unit-one;
  residues = λ m. nought-residue m ∙ same m;
}
recovered_by c left (Some f) some good same = record {
  fraction = f;
  lowest = good.1.lowest;
  inside = good.1.inside;
  units = good.1.units;
  residues = same;
}

lifted_recovers : (c : Coeff) (pairs : Modulus → Pair) (F : RationalPair) → IsLifted c pairs F → (part : Part) (e : List ℕ) → IsRecovered c pairs part e
lifted_recovers c pairs F lifted Numerator e =
    recovered_by c (λ m. at_part Numerator e (pairs m)) (fraction_at e F.num) (some_den c pairs F lifted) (good_num c pairs F lifted e)
    (λ m. sym (coefficient-residues (value_of m) e F.num lifted.map.num.descends) ∙ ap (λ f. coefficient e f.num) (lifted.residues m))
lifted_recovers c pairs F lifted Denominator e =
    recovered_by c (λ m. at_part Denominator e (pairs m)) (fraction_at e F.den) (some_den c pairs F lifted) (good_den c pairs F lifted e)
    (λ m. sym (coefficient-residues (value_of m) e F.den lifted.map.den.descends) ∙ ap (λ f. coefficient e f.den) (lifted.residues m))

-- what a denominator leaves leads with the same monomial at both moduli
leading_left : (m : Modulus) (p : List (List ℕ × Frac)) → LeadsWithOne p → leading (residues (value_of m) p) ≡ leading p
leading_left m [] leads = absurd leads
leading_left m (t ∷ p) leads = rw (one-residue m t.1 leads.0 leads.1) refl

lifted_alike : (c : Coeff) (pairs : Modulus → Pair) (F : RationalPair) → IsLifted c pairs F → leading (pairs First).den ≡ leading (pairs Second).den
lifted_alike c pairs F lifted =
    ap (λ f. leading f.den) (sym (lifted.residues First)) ∙ leading_left First F.den lifted.map.leads ∙ sym (leading_left Second F.den lifted.map.leads) ∙ ap (λ f. leading f.den) (lifted.residues Second)

not_unlike : (pairs : Modulus → Pair) (first second : List ℕ) → leading (pairs First).den ≡ leading (pairs Second).den → IsUnlike pairs first second → ⊥
not_unlike pairs first second alike unlike =
    let same : Some first ≡ Some second = sym unlike.first_lead ∙ alike ∙ unlike.second_lead in
    let equal : first ≡ second = cc in
    unlike.unlike equal

-- ---- one monomial without a fraction

one_part : (c : Coeff) (pairs : Modulus → Pair) (part : Part) (e f : List ℕ) (j k : ℕ) → Before part e part f ⊎ ((e ≡ f) ⊎ Before part f part e) → IsNoRational c pairs part e j → IsNoRational c pairs part f k → NoRational part e j ≡ NoRational part f k
one_part c pairs part e f j k (inl before) first second = absurd (first.none (second.first part e before))
one_part c pairs part e f j k (inr (inr before)) first second = absurd (second.none (first.first part f before))
one_part c pairs part e f j k (inr (inl mono)) first second =
    let number : j ≡ k = joined_once j k first.joins.low second.joins.low (λ m. first.joins.leaves m ∙ ap (λ g. at_part part g (pairs m)) mono ∙ sym (second.joins.leaves m)) in
    λ i. NoRational part (mono i) (number i)

ordered : (part : Part) (e f : List ℕ) → Before part e part f ⊎ ((e ≡ f) ⊎ Before part f part e)
ordered part e f = by part (mono_cmp e f) refl
  where
    by : (part : Part) (o : Ordering) → mono_cmp e f ≡ o → Before part e part f ⊎ ((e ≡ f) ⊎ Before part f part e)
    by Numerator Less is = inr (inr is)
    by Numerator Equal is = inr (inl (mono_tied e f is))
    by Numerator Greater is = inl (mono_flip e f is)
    by Denominator Less is = inr (inr is)
    by Denominator Equal is = inr (inl (mono_tied e f is))
    by Denominator Greater is = inl (mono_flip e f is)

no_rational_once : (c : Coeff) (pairs : Modulus → Pair) (part part' : Part) (e f : List ℕ) (j k : ℕ) → IsNoRational c pairs part e j → IsNoRational c pairs part' f k → NoRational part e j ≡ NoRational part' f k
no_rational_once c pairs Numerator Numerator e f j k first second = one_part c pairs Numerator e f j k (ordered Numerator e f) first second
no_rational_once c pairs Denominator Denominator e f j k first second = one_part c pairs Denominator e f j k (ordered Denominator e f) first second
no_rational_once c pairs Numerator Denominator e f j k first second = absurd (first.none (second.first Numerator e tt))
no_rational_once c pairs Denominator Numerator e f j k first second = absurd (second.none (first.first Numerator f tt))

-- ---- one lift

pub one_lift : (c : Coeff) (pairs : Modulus → Pair) (a b : Lift) → 2 * (c.num * c.den) < both → LiftsTo c pairs a → LiftsTo c pairs b → a ≡ b
one_lift c pairs (Lifted F) (Lifted G) narrow first second = ap Lifted (lifted_once c pairs F G narrow first second)
one_lift c pairs (Lifted F) (Unlike d e) narrow first second = absurd (not_unlike pairs d e (lifted_alike c pairs F first) second)
one_lift c pairs (Lifted F) (NoRational part e j) narrow first second = absurd (second.none (lifted_recovers c pairs F first part e))
one_lift c pairs (Unlike d e) (Lifted F) narrow first second = absurd (not_unlike pairs d e (lifted_alike c pairs F second) first)
one_lift c pairs (Unlike d e) (Unlike f g) narrow first second =
    let one : Some d ≡ Some f = sym first.first_lead ∙ second.first_lead in
    let two : Some e ≡ Some g = sym first.second_lead ∙ second.second_lead in
    let left : d ≡ f = cc in
    let right : e ≡ g = cc in
    λ i. Unlike (left i) (right i)
one_lift c pairs (Unlike d e) (NoRational part f j) narrow first second = absurd (not_unlike pairs d e second.alike first)
one_lift c pairs (NoRational part e j) (Lifted F) narrow first second = absurd (first.none (lifted_recovers c pairs F second part e))
one_lift c pairs (NoRational part e j) (Unlike d f) narrow first second = absurd (not_unlike pairs d f first.alike second)
one_lift c pairs (NoRational part e j) (NoRational part' f k) narrow first second = no_rational_once c pairs part part' e f j k first second
