use Rattle.std.proofs.Common.{◌≡◌, ◌≢◌, suc, ◌<◌, ◌+◌, ◌-◌, length, slice_index, arith, inl, inr, get_or-set_other, get_or-set_same}
use Rattle.std.proofs.lemmas.Bool.{cases_eq}
use Rattle.prime_field.specs.Modulus.{value_of}
use Rattle.univariate.proofs.Places.{residues-set}
use Rattle.thiele_interp.proofs.Rising.{quotient-written}
use Rattle.thiele_interp.proofs.levels.write_quotients.Goals as goal

pub loop-i-preserved : goal.loop-i-preserved
loop-i-preserved c =
    let m = value_of c.args.m in
    let k = c.args.k in
    let i = c.loop-i.i in
    let place = k + 1 + i in
    let points = c.args.points.now in
    let so_far = c.loop-i.invariant in
    let within : place < length c.loop-i.differences = omega arith in
    record {
      residues = residues-set m c.loop-i.differences place c.mul.result so_far.residues c.mul.ensures.residue;
      earlier = λ j low. let other : j ≢ place = omega arith in rw get_or-set_other (so_far.earlier j low);
      done = λ j below.
          elim (cases_eq j i) [
            | inl same ↦
                let next : suc k + i ≡ place = omega arith in
                rw (same, next, get_or-set_same)
                (quotient-written m c.sub.result (slice_index points place + (m - slice_index points k)) (slice_index c.args.inverses.now i) c.mul.result
                c.sub.ensures.difference c.mul.ensures.product)
            | inr before ↦
                let other : suc k + j ≢ place = omega arith in
                rw get_or-set_other (so_far.done j (omega arith))
          ];
    }
