-- An output has one result at most.
use Rattle.std.proofs.Common.{◌≡◌, ℕ, ◌*◌, ◌<◌, List, [], ◌∷◌, refl, sym, ap, subst, arith}
use Rattle.prime_field.specs.Modulus.{value_of}
use Rattle.prime_field.specs.declared.Modulus.{Modulus}
use Rattle.prime_field.specs.declared.Modulus.TheVariants.{First, Second}
use Rattle.prime_field.proofs.Moduli.{value_of-large}
use Rattle.poly_maps.specs.Bound.{WithinBound}
use Rattle.poly_maps.specs.Forcing.{IsForcing}
use Rattle.poly_maps.specs.Mono.{HasEight}
use Rattle.poly_maps.specs.Pair.{CrossEqual}
use Rattle.poly_maps.specs.Polynomial.{Supported}
use Rattle.poly_maps.specs.Quotient.{RationalPair}
use Rattle.poly_maps.specs.Reduced.{residue_pair}
use Rattle.poly_maps.specs.declared.bound.Bound.{Bound}
use Rattle.poly_maps.specs.declared.bound.Bounds.{Bounds}
use Rattle.poly_maps.specs.declared.pair.Pair.{Pair}
use Rattle.poly_maps.proofs.Within.{IsBelow-places, IsBelow-from_places}
use Rattle.ray_grid.specs.Covering.{Covers}
use Rattle.multivar_recon.proofs.Unique.{agreeing_within, agreeing_cross, one_least}
use Rattle.rational_lift.specs.Joined.{both}
use Rattle.rational_lift.specs.Lifting.{Lift, Lifted, LiftsTo}
use Rattle.rational_lift.specs.declared.coeff.Coeff.{Coeff}
use Rattle.rational_lift.proofs.Lifts.{one_lift}
use Rattle.output_result.specs.Outputs.{Output, AgreesAt, IsPinned}
use Rattle.output_result.specs.Results.{Result, NoPair, Lifts, IsFirstNone, IsLift, OutputResult}

-- what is within the numerator's bound is within a grid that covers the bounds
within_grid : (grid : Bound) (b : Bounds) (e : List ℕ) → Covers grid b → HasEight e → WithinBound b.num e → WithinBound grid e
within_grid grid b e covers eight within = (
  omega (arith, within.0, covers.total),
  IsBelow-from_places e grid.each (omega (arith, eight, covers.places)) (λ k low. omega (arith, (IsBelow-places e b.num.each within.1).1 k, covers.each k)),
)

all_within_grid : (grid : Bound) (b : Bounds) (p : List (List ℕ × ℕ)) → Covers grid b → Supported HasEight p → Supported (WithinBound b.num) p → Supported (WithinBound grid) p
all_within_grid grid b [] covers eight within = tt
all_within_grid grid b (t ∷ p) covers eight within = (within_grid grid b t.0 covers eight.0 within.0, all_within_grid grid b p covers eight.1 within.1)

forcing_num : (m : ℕ) (grid : Bound) (b : Bounds) (xs : List (List ℕ)) → Covers grid b → IsForcing m grid xs → IsForcing m b.num xs
forcing_num m grid b xs covers forcing p eight within zeros = forcing p eight (all_within_grid grid b p covers eight within) zeros

-- where a modulus has no pair, nothing is lifted
none_lifted : (c : Coeff) (o : Output) (m : Modulus) (lift : Lift) → IsFirstNone o m → IsLift c o lift → ⊥
none_lifted c o First lift none is = none (is.pairs First) (is.least First).agreeing
none_lifted c o Second lift none is = none.1 (is.pairs Second) (is.least Second).agreeing

one_none : (o : Output) (m n : Modulus) → IsFirstNone o m → IsFirstNone o n → m ≡ n
one_none o First First first second = refl
one_none o First Second first second = absurd (first second.0.0 second.0.1)
one_none o Second First first second = absurd (second first.0.0 first.0.1)
one_none o Second Second first second = refl

one_lifted : (c : Coeff) (grid : Bound) (o : Output) (a b : Lift) → 2 * (c.num * c.den) < both → IsPinned grid o → IsLift c o a → IsLift c o b → a ≡ b
one_lifted c grid o a b narrow pinned first second = one_lift c second.pairs a b narrow (subst (λ (pairs : Modulus → Pair). LiftsTo c pairs a) same first.lifts) second.lifts
  where
    at : (m : Modulus) → first.pairs m ≡ second.pairs m
    at m =
        one_least (value_of m) o.bounds (o.samples m).points (o.samples m).values (value_of-large m) (first.pairs m) (second.pairs m)
        (forcing_num (value_of m) grid o.bounds (o.samples m).points pinned.covers (pinned.forcing m)) (first.least m) (second.least m)

    same : first.pairs ≡ second.pairs
    same = λ i m. at m i

pub one_result : (c : Coeff) (grid : Bound) (o : Output) (a b : Result) → 2 * (c.num * c.den) < both → IsPinned grid o → OutputResult c o a → OutputResult c o b → a ≡ b
one_result c grid o (NoPair m) (NoPair n) narrow pinned first second = ap NoPair (one_none o m n first second)
one_result c grid o (NoPair m) (Lifts b) narrow pinned first second = absurd (none_lifted c o m b first second)
one_result c grid o (Lifts a) (NoPair n) narrow pinned first second = absurd (none_lifted c o n a second first)
one_result c grid o (Lifts a) (Lifts b) narrow pinned first second = ap Lifts (one_lifted c grid o a b narrow pinned first second)

pub found_cross : (c : Coeff) (grid : Bound) (o : Output) (F : RationalPair) → IsPinned grid o → IsLift c o (Lifted F) → (m : Modulus) (g : Pair) → AgreesAt o m g → CrossEqual (value_of m) g (residue_pair (value_of m) F)
found_cross c grid o F pinned lift m g agrees =
    let xs = (o.samples m).points in
    let vs = (o.samples m).values in
    let least = (lift.least m).agreeing in
    subst (λ (f : Pair). CrossEqual (value_of m) g f) (sym (lift.lifts.residues m))
    (agreeing_cross (value_of m) o.bounds xs vs (value_of-large m) grid g (lift.pairs m) pinned.covers (pinned.forcing m)
    (agreeing_within (value_of m) o.bounds xs vs g agrees) (agreeing_within (value_of m) o.bounds xs vs (lift.pairs m) least) agrees.agrees least.agrees)
