-- What is found is a quotient, and a quotient that reduces well is found.
use Rattle.std.proofs.Common.{◌≡◌, ◌≢◌, ℕ, zero, suc, ◌*◌, ◌%◌, ◌<◌, ◌≤◌, All, Some, List, [], ◌∷◌, inl, inr, unsigned_abs, refl, sym, ◌∙◌, ap, subst, arith, mul-one, mul_assoc}
use Rattle.std.proofs.Math.Nat.{mod-mod, mod-lt, mod-eq_of_lt}
use Rattle.std.proofs.lemmas.Bool.{cases_eq}
use Rattle.std.proofs.lemmas.List.Elements.{All-head, All-tail}
use Rattle.prime_field.specs.Modulus.{value_of}
use Rattle.prime_field.specs.Residue.{IsUnit, IsPrime, inverse}
use Rattle.prime_field.specs.declared.Modulus.{Modulus}
use Rattle.prime_field.specs.declared.Modulus.TheVariants.{First, Second}
use Rattle.prime_field.proofs.Residues.{mul-cong}
use Rattle.prime_field.proofs.Units.{units_of_prime, inverse_is}
use Rattle.poly_maps.specs.Bound.{WithinBound}
use Rattle.poly_maps.specs.Fraction.{AreFractions, LeadsWithOne}
use Rattle.poly_maps.specs.Pair.{Agrees}
use Rattle.poly_maps.specs.Polynomial.{value_at, Supported}
use Rattle.poly_maps.specs.Quotient.{RationalPair}
use Rattle.poly_maps.specs.Reduced.{or_zero, own_values, residue, residues, residue_pair, with_term, HasWithin, HaveUnits}
use Rattle.poly_maps.specs.declared.bound.Bounds.{Bounds}
use Rattle.poly_maps.specs.declared.fraction.Frac.{Frac}
use Rattle.poly_maps.specs.declared.pair.Pair.{Pair}
use Rattle.multivar_recon.specs.Least.{IsLeastPair}
use Rattle.rational_lift.specs.Joined.{both}
use Rattle.rational_lift.specs.Lifting.{AreInside, IsLifted, Lifted}
use Rattle.rational_lift.specs.declared.coeff.Coeff.{Coeff}
use Rattle.rational_lift.proofs.Lifts.{nought, nought-liftable, nought-residue}
use Rattle.rational_lift.proofs.Ratios.{IsLiftable, fraction_once}
use Rattle.output_result.specs.Outputs.{Output, IsQuotient, ReducesWellAt}
use Rattle.output_result.specs.Results.{IsLift}

-- ---- degrees of what is lifted

with_first : (L : List ℕ → Type 0) (e : List ℕ) (n : ℕ) (p : List (List ℕ × ℕ)) → n ≢ 0 → Supported L (with_term e n p) → L e
with_first L e zero p some all = absurd (some refl)
with_first L e (suc n) p some all = all.0

with_rest : (L : List ℕ → Type 0) (e : List ℕ) (n : ℕ) (p : List (List ℕ × ℕ)) → Supported L (with_term e n p) → Supported L p
with_rest L e zero p all = all
with_rest L e (suc n) p all = all.1

-- a fraction other than zero leaves zero at one modulus at most; so its monomial is one of a pair
pub lifted_supported : (c : Coeff) (L : List ℕ → Type 0) (p : List (List ℕ × Frac)) → 2 * (c.num * c.den) < both → 1 ≤ c.den → AreFractions p → AreInside c p →
    ((m : Modulus) → HaveUnits (value_of m) p) → ((m : Modulus) → Supported L (residues (value_of m) p)) → Supported L p
lifted_supported c L [] narrow some fractions inside units all = tt
lifted_supported c L (t ∷ p) narrow some fractions inside units all = (
  here,
  lifted_supported c L p narrow some fractions.1 inside.1 (λ m. (units m).1) (λ m. with_rest L t.0 (residue (value_of m) t.1) (residues (value_of m) p) (all m)),
)
  where
    liftable : IsLiftable c t.1
    liftable = record {
      lowest = record { positive = fractions.0.positive; lowest = fractions.0.lowest };
      inside = inside.0;
      units = λ m. (units m).0;
    }

    at : (m : Modulus) → residue (value_of m) t.1 ≢ 0 → L t.0
    at m there = with_first L t.0 (residue (value_of m) t.1) (residues (value_of m) p) there (all m)

    gone : residue (value_of First) t.1 ≡ 0 → residue (value_of Second) t.1 ≡ 0 → (m : Modulus) → residue (value_of m) t.1 ≡ residue (value_of m) nought
    gone first second First = first ∙ sym (nought-residue First)
    gone first second Second = second ∙ sym (nought-residue Second)

    here : L t.0
    here = elim (cases_eq (residue (value_of First) t.1) 0) [
      | inl first ↦ elim (cases_eq (residue (value_of Second) t.1) 0) [
        | inl second ↦ absurd (fractions.0.some (ap (λ f. unsigned_abs f.num) (fraction_once c t.1 nought narrow liftable (nought-liftable c some) (gone first second))))
        | inr there ↦ at Second there
      ]
      | inr there ↦ at First there
    ]

pub leads_some : (c : Coeff) (p : List (List ℕ × Frac)) → LeadsWithOne p → AreInside c p → 1 ≤ c.den
leads_some c [] leads inside = absurd leads
leads_some c (t ∷ p) leads inside = omega (arith, leads.1, inside.0.den)

pub lift_within : (c : Coeff) (o : Output) (F : RationalPair) → 2 * (c.num * c.den) < both → (lift : IsLift c o (Lifted F)) → HasWithin o.bounds F
lift_within c o F narrow lift =
    let is : IsLifted c lift.pairs F = lift.lifts in
    let some : 1 ≤ c.den = leads_some c F.den is.map.leads is.inside.den in
    record {
      num = lifted_supported c (WithinBound o.bounds.num) F.num narrow some is.map.num.fractions is.inside.num (λ m. (is.units m).num)
          (λ m. subst (λ (f : Pair). Supported (WithinBound o.bounds.num) f.num) (sym (is.residues m)) (lift.least m).agreeing.within.num);
      den = lifted_supported c (WithinBound o.bounds.den) F.den narrow some is.map.den.fractions is.inside.den (λ m. (is.units m).den)
          (λ m. subst (λ (f : Pair). Supported (WithinBound o.bounds.den) f.den) (sym (is.residues m)) (lift.least m).agreeing.within.den);
    }

pub found_quotient : (c : Coeff) (o : Output) (F : RationalPair) → 2 * (c.num * c.den) < both → IsLift c o (Lifted F) → IsQuotient c o F
found_quotient c o F narrow lift =
    let is : IsLifted c lift.pairs F = lift.lifts in
    record {
      map = is.map;
      within = lift_within c o F narrow lift;
      inside = is.inside;
      agrees = λ m. subst (λ (f : Pair). Agrees (value_of m) (o.samples m).points (o.samples m).values f) (sym (is.residues m)) (lift.least m).agreeing.agrees;
    }

-- ---- values that are congruent

abbrev pub AreSame : ℕ → List ℕ → List ℕ → Type 0
AreSame m [] [] = Unit {0}
AreSame m [] (v ∷ vs) = ⊥
AreSame m (u ∷ us) [] = ⊥
AreSame m (u ∷ us) (v ∷ vs) = (u % m ≡ v % m) × AreSame m us vs

same_back : (m : ℕ) (us vs : List ℕ) → AreSame m us vs → AreSame m vs us
same_back m [] [] same = tt
same_back m [] (v ∷ vs) same = absurd same
same_back m (u ∷ us) [] same = absurd same
same_back m (u ∷ us) (v ∷ vs) same = (sym same.0, same_back m us vs same.1)

agrees_moved : (m : ℕ) (xs : List (List ℕ)) (us vs : List ℕ) (f : Pair) → AreSame m us vs → Agrees m xs us f → Agrees m xs vs f
agrees_moved m [] [] [] f same agrees = tt
agrees_moved m [] [] (v ∷ vs) f same agrees = absurd same
agrees_moved m [] (u ∷ us) vs f same agrees = absurd agrees
agrees_moved m (x ∷ xs) [] vs f same agrees = absurd agrees
agrees_moved m (x ∷ xs) (u ∷ us) [] f same agrees = absurd same
agrees_moved m (x ∷ xs) (u ∷ us) (v ∷ vs) f same agrees =
    (mul-cong m v u (value_at f.den x) (value_at f.den x) (sym same.0) refl ∙ agrees.0, agrees_moved m xs us vs f same.1 agrees.1)

-- congruent values have the same least pairs
least_moved : (m : ℕ) (b : Bounds) (xs : List (List ℕ)) (us vs : List ℕ) (f : Pair) → AreSame m us vs → IsLeastPair m b xs us f → IsLeastPair m b xs vs f
least_moved m b xs us vs f same least = record {
  agreeing = record { pair = least.agreeing.pair; within = least.agreeing.within; agrees = agrees_moved m xs us vs f same least.agreeing.agrees };
  monic = least.monic;
  least = λ lead leads g within agrees from. least.least lead leads g within (agrees_moved m xs vs us g (same_back m us vs same) agrees) from;
}

-- v*d = n, and d has an inverse: v is n times it
divided : (m v n d : ℕ) → IsPrime m → d % m ≢ 0 → (v * d) % m ≡ n % m → (n * or_zero (inverse m (d % m))) % m ≡ v % m
divided m v n d prime some same =
    let large : 1 < m = prime.0 in
    let unit : IsUnit m (d % m) = units_of_prime m (d % m) prime (mod-lt d (omega arith)) some in
    let b : ℕ = unit.0 in
    let found : inverse m (d % m) ≡ Some b = inverse_is m (d % m) b unit.1 unit.2 in
    let one : (d * b) % m ≡ 1 % m = mul-cong m d (d % m) b b (sym (mod-mod d m)) refl ∙ unit.2 ∙ sym (mod-eq_of_lt large) in
    let moved : (n * b) % m ≡ (v * (d * b)) % m = mul-cong m n (v * d) b b (sym same) refl ∙ ap (λ t. t % m) (mul_assoc v d b) in
    ap (λ i. (n * or_zero i) % m) found ∙ moved ∙ mul-cong m v v (d * b) 1 refl one ∙ ap (λ t. t % m) (mul-one v)

own_same : (m : ℕ) (F : RationalPair) (xs : List (List ℕ)) (vs : List ℕ) → IsPrime m → All (λ x. value_at (residue_pair m F).den x % m ≢ 0) xs →
    Agrees m xs vs (residue_pair m F) → AreSame m (own_values m F xs) vs
own_same m F [] [] prime some agrees = tt
own_same m F [] (v ∷ vs) prime some agrees = absurd agrees
own_same m F (x ∷ xs) [] prime some agrees = absurd agrees
own_same m F (x ∷ xs) (v ∷ vs) prime some agrees = (
  mod-mod (value_at (residues m F.num) x * or_zero (inverse m (value_at (residues m F.den) x % m))) m ∙
      divided m v (value_at (residues m F.num) x) (value_at (residues m F.den) x) prime
      (All-head (λ x. value_at (residue_pair m F).den x % m ≢ 0) x xs some) agrees.0,
  own_same m F xs vs prime (All-tail (λ x. value_at (residue_pair m F).den x % m ≢ 0) x xs some) agrees.1,
)

pub quotient_lifts : (c : Coeff) (o : Output) (F : RationalPair) → ((m : Modulus) → IsPrime (value_of m)) → IsQuotient c o F → ReducesWellAt o F → IsLift c o (Lifted F)
quotient_lifts c o F prime is well = record {
  pairs = λ m. residue_pair (value_of m) F;
  least = λ m. least_moved (value_of m) o.bounds (o.samples m).points (own_values (value_of m) F (o.samples m).points) (o.samples m).values (residue_pair (value_of m) F)
      (own_same (value_of m) F (o.samples m).points (o.samples m).values (prime m) (well m).nowhere_zero (is.agrees m)) (well m).least;
  lifts = record { map = is.map; inside = is.inside; units = λ m. (well m).units; residues = λ m. refl };
}
