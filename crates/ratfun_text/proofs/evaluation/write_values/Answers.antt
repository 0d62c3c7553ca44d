use Rattle.std.proofs.Common.{sym, ◌∙◌, ap, arith}
use Rattle.ratfun_text.specs.Value.{value}
use Rattle.ratfun_text.proofs.Lists.{values_more, residues_more}
use Rattle.ratfun_text.proofs.evaluation.write_values.Goals as goal

pub loop-place-preserved : goal.loop-place-preserved
loop-place-preserved g c = let m = g.F.Field.modulus in record {
  values = values_more (value m c.args.args.now) c.args.exprs.now c.loop-place.out c.loop-place.place c.in-Some.value c.index-exprs-place.result c.loop-place-test.true (omega arith) c.loop-place.invariant.values
      (ap (value m c.args.args.now) (sym c.index-exprs-place.is) ∙ sym c.in-Some.ensures.value);
  residues = residues_more m c.loop-place.out c.loop-place.place c.in-Some.value (omega arith) c.loop-place.invariant.residues c.in-Some.ensures.residue;
  kept = c.in-Some.ensures.kept;
}
