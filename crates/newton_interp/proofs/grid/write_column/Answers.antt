use Rattle.std.proofs.Common.{◌+◌, ◌*◌, ◌<◌, length, slice_index, refl, ◌∙◌, arith, inl, inr}
use Rattle.std.proofs.lemmas.Bool.{cases_eq}
use Rattle.univariate.proofs.Places.{residues-set}
use Rattle.newton_interp.proofs.Columns.{at-set, at-other, stride-apart}
use Rattle.newton_interp.proofs.grid.write_column.Goals as goal

pub loop-i-preserved : goal.loop-i-preserved
loop-i-preserved c =
    let i = c.loop-i.i in
    let start = c.args.start in
    let stride = c.args.stride in
    let now = c.loop-i.buffer in
    let column = c.args.column.now in
    let place = start + i * stride in
    let within : place < length now = omega (arith, c.requires.within i (omega arith)) in
    record {
      column = λ h low.
          elim (cases_eq h i) [
            | inl same ↦ rw same (at-set now place (slice_index column i) place refl within)
            | inr other ↦
                at-other now place (slice_index column i) (start + h * stride) (stride-apart start stride h i c.requires.stride other) ∙
                c.loop-i.invariant.column h (omega arith)
          ];
      others = λ k apart.
          at-other now place (slice_index column i) k (apart i (omega arith)) ∙
          c.loop-i.invariant.others k (λ h low. apart h (omega arith));
      low = λ m column_low old_low. residues-set m now place (slice_index column i) (c.loop-i.invariant.low m column_low old_low) (column_low i);
    }
