use Rattle.std.proofs.Common.{◌≡◌, ◌≢◌, ℕ, suc, ◌+◌, ◌-◌, ◌*◌, ◌%◌, ◌<◌, ◌≤◌, List, length, get_or, slice_index, take, drop, refl, sym, ◌∙◌, ap, subst, arith}
use Rattle.std.proofs.lemmas.List.{length-take, length-drop, get_or-take, get_or-drop}
use Rattle.prime_field.specs.Modulus.{value_of}
use Rattle.prime_field.specs.Residue.{IsUnit}
use Rattle.prime_field.proofs.Moduli.{value_of-large}
use Rattle.univariate.specs.Univariate.{AreApart}
use Rattle.univariate.proofs.Small.{near-apart}
use Rattle.thiele_interp.specs.Pairs.{IsLeastPair}
use Rattle.multivar_recon.specs.Frame.{AreSteps}
use Rattle.multivar_recon.proofs.Tables.{least_same, scaled_is, part_scaled, part_residues, no_start, none_holds, joined_low, den_first}
use Rattle.multivar_recon.proofs.ray_tables.scaled_pair.Goals as goal

steps_next : (n : ℕ) (points : List ℕ) → AreSteps 1 n points → (i : ℕ) → i < n → slice_index points i ≡ suc i
steps_next n points are i low = are.each i low ∙ omega arith

pub least_pair_over-requires-clause-apart : goal.least_pair_over-requires-clause-apart
least_pair_over-requires-clause-apart c =
    let points = c.args.points.now in
    near-apart c.args.m (length points) (slice_index points) (λ i j before low. (
      omega (arith, c.requires.points.each i (omega arith), c.requires.points.each j low, before),
      omega (arith, c.requires.points.each i (omega arith), c.requires.points.each j low, c.requires.small, low),
    ))

pub returns-in_err-num-clause-none : goal.returns-in_err-num-clause-none
returns-in_err-num-clause-none c =
    let points = c.args.points.now in
    none_holds c.from_residual.result _ (λ prime has. c.in_err-num.ensures.none prime has.num has.den
    (least_same (value_of c.args.m) (length points) suc (slice_index c.args.samples.now) (slice_index points) (slice_index c.args.samples.now) c.args.a c.args.b has.num has.den
    (λ i low. sym (steps_next (length points) points c.requires.points i low)) (λ i low. refl) has.least).agreeing)

pub inv-requires : goal.inv-requires
inv-requires c =
    let work = c.least_pair_over.new.work in
    let reduced = c.in_ok-num.ensures.reduced in
    subst (λ (x : ℕ). x < value_of c.args.m) (den_first c.in_ok-num.num c.in_ok-num.den work reduced.den_some) (reduced.den_residues 0)

pub returns-in_err-inverse-clause-none : goal.returns-in_err-inverse-clause-none
returns-in_err-inverse-clause-none c =
    let points = c.args.points.now in
    let m = value_of c.args.m in
    let work = c.least_pair_over.new.work in
    let num = take c.in_ok-num.num work in
    let den = take c.in_ok-num.den (drop c.in_ok-num.num work) in
    none_holds c.from_residual-in_err-inverse.result _ (λ prime has.
    no_start m (length points) (slice_index c.args.samples.now) c.args.a c.args.b num den
    (least_same m (length points) (slice_index points) (slice_index c.args.samples.now) suc (slice_index c.args.samples.now) c.args.a c.args.b num den
    (steps_next (length points) points c.requires.points) (λ i low. refl) c.in_ok-num.ensures.least)
    (λ unit. c.in_err-inverse.ensures.none (subst (λ (x : ℕ). IsUnit m x) (den_first c.in_ok-num.num c.in_ok-num.den work c.in_ok-num.ensures.reduced.den_some) unit)) has)

pub scale_front-requires-clause-residues : goal.scale_front-requires-clause-residues
scale_front-requires-clause-residues c =
    joined_low (value_of c.args.m) c.in_ok-num.num c.in_ok-num.den c.least_pair_over.new.work (omega (arith, value_of-large c.args.m))
    c.in_ok-num.ensures.reduced.num_residues c.in_ok-num.ensures.reduced.den_residues

pub returns-clause-scaled : goal.returns-clause-scaled
returns-clause-scaled c =
    let points = c.args.points.now in
    let m = value_of c.args.m in
    let n = c.in_ok-num.num in
    let d = c.in_ok-num.den in
    let old = c.least_pair_over.new.work in
    let new = c.scale_front.new.work in
    let long : length new ≡ length old = omega arith in
    let fits : n + d ≤ length old = omega (arith, c.in_ok-num.ensures.room) in
    scaled_is m (length points) (slice_index c.args.samples.now) c.args.a c.args.b c.in_ok-inverse.inverse (take n old) (take d (drop n old)) (take n new) (take d (drop n new))
    (value_of-large c.args.m) c.in_ok-inverse.ensures.residue
    (ap (λ x. (x * c.in_ok-inverse.inverse) % m) (den_first n d old c.in_ok-num.ensures.reduced.den_some) ∙ c.in_ok-inverse.ensures.inverse)
    (least_same m (length points) (slice_index points) (slice_index c.args.samples.now) suc (slice_index c.args.samples.now) c.args.a c.args.b (take n old) (take d (drop n old))
    (steps_next (length points) points c.requires.points) (λ i low. refl) c.in_ok-num.ensures.least)
    c.in_ok-num.ensures.reduced
    (omega (arith, length-take n old, length-take n new, long)) (omega (arith, length-take d (drop n old), length-take d (drop n new), length-drop n old, length-drop n new, long))
    (part_scaled m c.in_ok-inverse.inverse 0 n (n + d) old new (omega arith) fits long c.scale_front.ensures.multiple)
    (part_scaled m c.in_ok-inverse.inverse n d (n + d) old new (omega arith) fits long c.scale_front.ensures.multiple)
    (part_residues m 0 n (n + d) new (omega (arith, value_of-large c.args.m)) (omega arith) c.scale_front.ensures.residues)
    (part_residues m n d (n + d) new (omega (arith, value_of-large c.args.m)) (omega arith) c.scale_front.ensures.residues)
