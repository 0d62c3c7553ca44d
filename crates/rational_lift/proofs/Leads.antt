-- A polynomial whose reductions lead with 1 at the same monomial leads with 1.
use Rattle.std.proofs.Common.{◌≡◌, Bool, true, false, not, ℕ, ◌*◌, ◌<◌, ◌≤◌, Some, None, IsSome, List, [], ◌∷◌, pos, unsigned_abs, refl, sym, ◌∙◌, ap, subst, arith}
use Rattle.std.specs.declared.cmp.Ordering.{Ordering}
use Rattle.std.specs.declared.cmp.Ordering.TheVariants.{Less, Equal, Greater}
use Rattle.std.proofs.Math.Nat.{one-dvd, dvd_refl}
use Rattle.prime_field.specs.Modulus.{value_of}
use Rattle.prime_field.specs.declared.Modulus.{Modulus}
use Rattle.prime_field.specs.declared.Modulus.TheVariants.{First, Second}
use Rattle.poly_maps.specs.Mono.{mono_cmp, is_same}
use Rattle.poly_maps.specs.Polynomial.{coefficient, leading, IsNormal}
use Rattle.poly_maps.specs.Fraction.{LeadsWithOne, fraction_at}
use Rattle.poly_maps.specs.Quotient.{RationalPair, IsQuotientMap}
use Rattle.poly_maps.specs.declared.pair.Pair.{Pair}
use Rattle.poly_maps.specs.Reduced.{residue, residues, residue_pair}
use Rattle.poly_maps.specs.declared.fraction.Frac.{Frac}
use Rattle.poly_maps.proofs.MonoLemmas.{mono_tied, mono_flip, is_same-true}
use Rattle.poly_maps.proofs.Terms.{coefficient-less, AreLess-trans}
use Rattle.poly_maps.proofs.Pinned.{first-coefficient}
use Rattle.poly_maps.proofs.Fractions.{fraction_at-less, first-fraction}
use Rattle.poly_maps.proofs.Reductions.{left_by, coefficient-residues}
use Rattle.poly_maps.proofs.Terms.{AreLess-trans}
use Rattle.rational_lift.specs.Joined.{both}
use Rattle.rational_lift.specs.Lifting.{Recovers, IsRecovered, IsLifted, Before, at_part}
use Rattle.rational_lift.specs.Parts.{by_modulus, at_both, IsPartLifted, IsMonic, TellsPart, TellsFault}
use Rattle.rational_lift.specs.declared.error.LiftError.{LiftError}
use Rattle.rational_lift.specs.declared.error.LiftError.TheVariants.{Unlike, NoRational, NoMemory}
use Rattle.rational_lift.specs.declared.coeff.Part.{Part}
use Rattle.rational_lift.specs.declared.coeff.Part.TheVariants.{Numerator, Denominator}
use Rattle.rational_lift.specs.declared.coeff.Coeff.{Coeff}
use Rattle.rational_lift.proofs.Lifts.{nought, nought-liftable, nought-residue, unit-one, one-residue, good-at, recovered_by}
use Rattle.rational_lift.proofs.Ratios.{IsLiftable, fraction_once}

pub monic-some : (p : List (List ℕ × ℕ)) → IsMonic p → IsSome (leading p)
monic-some [] monic = absurd monic
monic-some (t ∷ p) monic = refl

abbrev whole_one : Frac
whole_one = record { num = pos 1; den = 1 }

one-liftable : (c : Coeff) → 1 ≤ c.num → 1 ≤ c.den → IsLiftable c whole_one
one-liftable c some_num some_den = record {
  lowest = record { positive = omega arith; lowest = (one-dvd 1, dvd_refl 1, λ d first second. second) };
  inside = record { num = some_num; den = some_den };
  units = unit-one;
}

leading-coefficient : (e : List ℕ) (p : List (List ℕ × ℕ)) → IsNormal p → IsMonic p → leading p ≡ Some e → coefficient e p ≡ 1
leading-coefficient e [] normal monic is = absurd monic
leading-coefficient e (t ∷ p) normal monic is =
    let wrapped : Some t.0 ≡ Some e = is in
    let first : t.0 ≡ e = cc in
    ap (λ g. coefficient g (t ∷ p)) (sym first) ∙ first-coefficient t p normal.1 ∙ monic

above-leading : (e f : List ℕ) (p : List (List ℕ × ℕ)) → IsNormal p → leading p ≡ Some e → mono_cmp e f ≡ Less → coefficient f p ≡ 0
above-leading e f [] normal is above = refl
above-leading e f (t ∷ p) normal is above =
    let wrapped : Some t.0 ≡ Some e = is in
    let first : t.0 ≡ e = cc in
    let below : mono_cmp t.0 f ≡ Less = ap (λ g. mono_cmp g f) first ∙ above in
    coefficient-less (t ∷ p) f (below, AreLess-trans p t.0 f normal.1 below)

pub leads_with_one : (c : Coeff) (first second : List (List ℕ × ℕ)) (p : List (List ℕ × Frac)) (e : List ℕ) → 1 ≤ c.num → 1 ≤ c.den → 2 * (c.num * c.den) < both →
    IsNormal first → IsNormal second → IsMonic first → IsMonic second → leading first ≡ Some e → leading second ≡ Some e → IsPartLifted c first second p → LeadsWithOne p
leads_with_one c first second [] e some_num some_den narrow one two monic_one monic_two lead_one lead_two lifted =
    subst IsMonic (sym (lifted.residues First)) monic_one
leads_with_one c first second (t ∷ p) e some_num some_den narrow one two monic_one monic_two lead_one lead_two lifted = by (mono_cmp t.0 e) refl
  where
    liftable : IsLiftable c t.1
    liftable =
        let good = lifted.rational.fractions.0 in
        record { lowest = record { positive = good.positive; lowest = good.lowest }; inside = lifted.inside.0; units = λ m. (lifted.units m).0 }

    left : (g : List ℕ) (m : Modulus) → left_by (value_of m) (fraction_at g (t ∷ p)) ≡ coefficient g (by_modulus first second m)
    left g m = sym (coefficient-residues (value_of m) g (t ∷ p) lifted.rational.descends) ∙ ap (coefficient g) (lifted.residues m)

    here : (m : Modulus) → residue (value_of m) t.1 ≡ coefficient t.0 (by_modulus first second m)
    here m = sym (ap (left_by (value_of m)) (first-fraction t p)) ∙ left t.0 m

    leads : (m : Modulus) → coefficient e (by_modulus first second m) ≡ 1
    leads First = leading-coefficient e first one monic_one lead_one
    leads Second = leading-coefficient e second two monic_two lead_two

    above : mono_cmp e t.0 ≡ Less → (m : Modulus) → coefficient t.0 (by_modulus first second m) ≡ 0
    above less First = above-leading e t.0 first one lead_one less
    above less Second = above-leading e t.0 second two lead_two less

    by : (o : Ordering) → mono_cmp t.0 e ≡ o → LeadsWithOne (t ∷ p)
    by Less is =
        let none : fraction_at e (t ∷ p) ≡ None = fraction_at-less (t ∷ p) e (is, AreLess-trans p t.0 e lifted.rational.descends.0 is) in
        absurd (omega (arith, leads First, left e First, ap (left_by (value_of First)) none))
    by Greater is =
        absurd (lifted.rational.fractions.0.some (ap (λ f. unsigned_abs f.num)
        (fraction_once c t.1 nought narrow liftable (nought-liftable c some_den) (λ m. here m ∙ above (mono_flip t.0 e is) m ∙ sym (nought-residue m)))))
    by Equal is =
        let mono : t.0 ≡ e = mono_tied t.0 e is in
        let same : t.1 ≡ whole_one = fraction_once c t.1 whole_one narrow liftable (one-liftable c some_num some_den) (λ m. here m ∙ ap (λ g. coefficient g (by_modulus first second m)) mono ∙ leads m ∙ sym (one-residue m whole_one refl refl)) in
        (ap (λ f. f.num) same, ap (λ f. f.den) same)

-- ---- both parts

part_apart : Denominator ≡ Numerator → ⊥
part_apart same = cc

agreeing : (p q : Pair) (num : List (List ℕ × Frac)) (den : List (List ℕ × Frac)) → ((m : Modulus) → residues (value_of m) num ≡ by_modulus p.num q.num m) → ((m : Modulus) → residues (value_of m) den ≡ by_modulus p.den q.den m) →
    (m : Modulus) → residue_pair (value_of m) (record { num = num; den = den }) ≡ by_modulus p q m
agreeing p q num den first second First = λ i. record { num = first First i; den = second First i }
agreeing p q num den first second Second = λ i. record { num = first Second i; den = second Second i }

pub both_lifted : (c : Coeff) (p q : Pair) (F : RationalPair) → IsQuotientMap F → IsPartLifted c p.num q.num F.num → IsPartLifted c p.den q.den F.den → IsLifted c (by_modulus p q) F
both_lifted c p q F map num den = record {
  map = map;
  inside = record { num = num.inside; den = den.inside };
  units = λ m. record { num = num.units m; den = den.units m };
  residues = agreeing p q F.num F.den num.residues den.residues;
}

-- the coefficients of a part of both pairs
same_num : (p q : Pair) (e : List ℕ) (m : Modulus) → at_both p.num q.num e m ≡ at_part Numerator e (by_modulus p q m)
same_num p q e First = refl
same_num p q e Second = refl

same_den : (p q : Pair) (e : List ℕ) (m : Modulus) → at_both p.den q.den e m ≡ at_part Denominator e (by_modulus p q m)
same_den p q e First = refl
same_den p q e Second = refl

recovers_as : (c : Coeff) (left right : Modulus → ℕ) → ((m : Modulus) → left m ≡ right m) → Recovers c left → Recovers c right
recovers_as c left right same found = record { fraction = found.fraction; lowest = found.lowest; inside = found.inside; units = found.units; residues = λ m. found.residues m ∙ same m }

pub num_tells : (c : Coeff) (p q : Pair) (error : LiftError) → leading p.den ≡ leading q.den → TellsPart c Numerator p.num q.num error → TellsFault c (by_modulus p q) error
num_tells c p q (Unlike d e) alike wrong = absurd wrong
num_tells c p q NoMemory alike tells = tt
num_tells c p q (NoRational Denominator e joint) alike tells = absurd (part_apart tells.0)
num_tells c p q (NoRational Numerator e joint) alike tells = record {
  alike = alike;
  joins = record { low = tells.1.joins.low; leaves = λ m. tells.1.joins.leaves m ∙ same_num p q e m };
  none = λ found. tells.1.none (recovers_as c _ _ (λ m. sym (same_num p q e m)) found);
  first = earlier;
}
  where
    earlier : (part : Part) (f : List ℕ) → Before part f Numerator e → IsRecovered c (by_modulus p q) part f
    earlier Numerator f before = recovers_as c _ _ (same_num p q f) (tells.1.earlier f before)
    earlier Denominator f before = absurd before

pub den_tells : (c : Coeff) (p q : Pair) (num : List (List ℕ × Frac)) (error : LiftError) → leading p.den ≡ leading q.den → 1 ≤ c.den → IsPartLifted c p.num q.num num → TellsPart c Denominator p.den q.den error → TellsFault c (by_modulus p q) error
den_tells c p q num (Unlike d e) alike some lifted wrong = absurd wrong
den_tells c p q num NoMemory alike some lifted tells = tt
den_tells c p q num (NoRational Numerator e joint) alike some lifted tells = absurd (part_apart (sym tells.0))
den_tells c p q num (NoRational Denominator e joint) alike some lifted tells = record {
  alike = alike;
  joins = record { low = tells.1.joins.low; leaves = λ m. tells.1.joins.leaves m ∙ same_den p q e m };
  none = λ found. tells.1.none (recovers_as c _ _ (λ m. sym (same_den p q e m)) found);
  first = earlier;
}
  where
    earlier : (part : Part) (f : List ℕ) → Before part f Denominator e → IsRecovered c (by_modulus p q) part f
    earlier Denominator f before = recovers_as c _ _ (same_den p q f) (tells.1.earlier f before)
    earlier Numerator f before =
        recovered_by c _ (fraction_at f num) some (good-at c f num lifted.rational.fractions lifted.inside lifted.units)
        (λ m. sym (coefficient-residues (value_of m) f num lifted.rational.descends) ∙ ap (coefficient f) (lifted.residues m) ∙ same_num p q f m)

-- monomials that the test doesn't tell apart are the same
pub not_apart : (d e : List ℕ) (b : Bool) → b ≡ not (is_same d e) → b ≡ false → d ≡ e
not_apart d e b is none = is_same-true d e (untrue (is_same d e) (sym is ∙ none))
  where
    untrue : (b : Bool) → not b ≡ false → b ≡ true
    untrue true is = refl
    untrue false is = let wrong : true ≡ false = is in cc
