use Rattle.std.proofs.Common.{◌≢◌, ◌<◌, ◌+◌, ◌*◌, ◌%◌, length, slice_index, refl, sym, ◌∙◌, ap, arith, inl, inr, get_or-set_other, get_or-set_same}
use Rattle.std.proofs.lemmas.Bool.{cases_eq}
use Rattle.prime_field.specs.Modulus.{value_of}
use Rattle.univariate.proofs.Coefficients.{at-raised, at-raised_low}
use Rattle.univariate.proofs.Places.{alike-added, residues-set, reduced_sum}
use Rattle.univariate.proofs.lists.add_multiple.Goals as goal

pub loop-k-init : goal.loop-k-init
loop-k-init c = record {
  residues = c.requires.target_residues;
  done = λ i low.
      let none = at-raised_low c.args.shift c.args.source.now i (omega arith) in
      ap (λ t. t % value_of c.args.m) (omega arith ∙ ap (λ t. slice_index c.args.target.now i + c.args.factor * t) (sym none));
  rest = λ i from. refl;
}

pub loop-k-preserved : goal.loop-k-preserved
loop-k-preserved c =
    let m = value_of c.args.m in
    let place = c.args.shift + c.loop-k.k in
    let within : place < length c.loop-k.target = omega arith in
    record {
      residues = residues-set m c.loop-k.target place c.fused.result c.loop-k.invariant.residues c.fused.ensures.residue;
      done = λ i low.
          elim (cases_eq i place) [
            | inl same ↦
                rw (same, get_or-set_same)
                (reduced_sum m c.fused.result (slice_index c.loop-k.target place) c.args.factor (slice_index c.args.source.now c.loop-k.k) c.fused.ensures.sum ∙
                ap (λ t. (t + c.args.factor * slice_index c.args.source.now c.loop-k.k) % m) (c.loop-k.invariant.rest place (omega arith)) ∙
                ap (λ t. (slice_index c.args.target.now place + c.args.factor * t) % m) (sym (at-raised c.args.shift c.args.source.now place c.loop-k.k refl)))
            | inr other ↦ rw get_or-set_other (c.loop-k.invariant.done i (omega arith))
          ];
      rest = λ i from. let other : i ≢ place = omega arith in rw get_or-set_other (c.loop-k.invariant.rest i (omega arith));
    }

pub returns-clause-sum : goal.returns-clause-sum
returns-clause-sum c =
    alike-added _ c.args.factor c.args.shift (c.args.shift + c.loop-k.k) c.args.target.now c.args.source.now c.loop-k.target (omega arith) c.loop-k.invariant.done c.loop-k.invariant.rest
