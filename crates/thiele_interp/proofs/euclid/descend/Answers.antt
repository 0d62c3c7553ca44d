use Rattle.std.proofs.Common.{◌≡◌, ℕ, suc, ◌+◌, ◌-◌, ◌<◌, ◌≤◌, length, take, slice_index, sym, subst, arith, get_or-take}
use Rattle.std.proofs.lemmas.List.{length-take-le}
use Rattle.prime_field.specs.Modulus.{value_of}
use Rattle.prime_field.specs.Residue.{IsUnit}
use Rattle.univariate.specs.Coefficients.{IsBelow}
use Rattle.univariate.proofs.Counting.{take-alike}
use Rattle.univariate.proofs.Places.{residues-take, HasLength-within, HasLength-below}
use Rattle.thiele_interp.proofs.Turns.{HasLength-bounds, agrees-alike, remainders-next}
use Rattle.thiele_interp.proofs.euclid.descend.Goals as goal

pub divide-requires-clause-factor_residues : goal.divide-requires-clause-factor_residues
divide-requires-clause-factor_residues c =
    residues-take (value_of c.args.m) (c.args.count + 1 - c.loop-length.degree) c.loop-length.factor c.loop-length.invariant.remainders.factor_residues

pub divide-requires-clause-above_unit : goal.divide-requires-clause-above_unit
divide-requires-clause-above_unit c =
    let so_far = c.loop-length.invariant in
    let within : c.loop-length.length ≤ length c.loop-length.rest = HasLength-within c.loop-length.length c.loop-length.rest so_far.trimmed in
    let low : c.loop-length.length ≤ c.loop-length.degree =
    HasLength-below (value_of c.args.m) c.loop-length.degree c.loop-length.length c.loop-length.rest so_far.remainders.rest_residues so_far.remainders.rest_below so_far.trimmed in
    let place : c.loop-length.degree ≡ length (take c.loop-length.length c.loop-length.rest) - 1 + (c.loop-length.degree + 1 - c.loop-length.length) =
    omega (arith, length-take-le c.loop-length.length c.loop-length.rest within) in
    subst (λ (k : ℕ). IsUnit (value_of c.args.m) (slice_index c.loop-length.above k)) place so_far.remainders.above_unit

pub divide-requires-clause-factor_unit : goal.divide-requires-clause-factor_unit
divide-requires-clause-factor_unit c =
    let so_far = c.loop-length.invariant in
    let d = c.args.count - c.loop-length.degree in
    let degrees = so_far.remainders.degrees in
    let terms = c.args.count + 1 - c.loop-length.degree in
    let within : terms ≤ length c.loop-length.factor = omega arith in
    let inside : d < terms = omega arith in
    let last : d ≡ length (take terms c.loop-length.factor) - 1 = omega (arith, length-take-le terms c.loop-length.factor within) in
    subst (λ (k : ℕ). IsUnit (value_of c.args.m) (slice_index (take terms c.loop-length.factor) k)) last
    (subst (λ (x : ℕ). IsUnit (value_of c.args.m) x) (sym (get_or-take terms c.loop-length.factor d 0 inside)) so_far.remainders.factor_unit)

pub loop-length-preserved : goal.loop-length-preserved
loop-length-preserved c =
    let m = value_of c.args.m in
    let n = c.args.count in
    let l = c.loop-length.length in
    let e = c.loop-length.degree in
    let rest = c.loop-length.rest in
    let factor = c.loop-length.factor in
    let terms = n + 1 - e in
    let so_far = c.loop-length.invariant in
    let degrees = so_far.remainders.degrees in
    let within : l ≤ length rest = HasLength-within l rest so_far.trimmed in
    let low : l ≤ e = HasLength-below m e l rest so_far.remainders.rest_residues so_far.remainders.rest_below so_far.trimmed in
    let fits : terms ≤ length factor = omega arith in
    let rest_length : length (take l rest) ≡ l = length-take-le l rest within in
    let factor_length : length (take terms factor) ≡ terms = length-take-le terms factor fits in
    let bound : length (take terms factor) + (e + 1 - l) ≡ suc (n - (l - 1)) = omega arith in
    let place : length (take terms factor) - 1 + (e + 1 - l) ≡ n - (l - 1) = omega arith in
    let rest_alike = take-alike m l rest (HasLength-bounds m l rest so_far.trimmed) in
    let factor_alike = take-alike m terms factor (λ k from. so_far.remainders.factor_below k (omega arith)) in
    record {
      high = omega arith;
      trimmed = c.trimmed_length-length-in-loop-length.ensures;
      remainders = rw (c.swap_with_slice.ensures.after, c.swap_with_slice.ensures.other_after, c.swap_with_slice-in-loop-length.ensures.after, c.swap_with_slice-in-loop-length.ensures.other_after)
          (remainders-next m n e (n - e) l c.in_ok-inverse.inverse c.loop-length.above rest c.loop-length.earlier factor c.divide.new.above c.divide.new.earlier
          so_far.remainders so_far.trimmed (omega arith) low c.in_ok-inverse.ensures.residue c.in_ok-inverse.ensures.inverse
          c.divide.ensures.above_residues c.divide.ensures.earlier_residues
          (subst (λ (k : ℕ). IsBelow m (k - 1) c.divide.new.above) rest_length c.divide.ensures.above_below)
          (subst (λ (k : ℕ). IsBelow m k c.divide.new.earlier) bound c.divide.ensures.earlier_below)
          (subst (λ (k : ℕ). IsUnit m (slice_index c.divide.new.earlier k)) place c.divide.ensures.earlier_unit));
      agree = λ k t v first.
          rw (c.swap_with_slice.ensures.after, c.swap_with_slice.ensures.other_after, c.swap_with_slice-in-loop-length.ensures.after, c.swap_with_slice-in-loop-length.ensures.other_after)
          (let both = so_far.agree k t v first in (
            both.1,
            c.divide.ensures.agree k t v (agrees-alike m k t v rest factor (take l rest) (take terms factor) rest_alike factor_alike both.1) both.0,
          ));
    }
