-- The places so far hold the values of the expressions so far.
use Rattle.std.proofs.Common.{◌≡◌, ◌<◌, All, Some, map, take}
use Rattle.ratfun_text.specs.Powers.{IsPower}
use Rattle.ratfun_text.specs.Value.{value}
use Rattle.ratfun_text.proofs.evaluation.write_values.Given as goal

abbrev pub invariant-loop-place : goal.invariant-loop-place
invariant-loop-place g l = let m = g.F.Field.modulus in record {
  values : map (value m l.args) (take l.place l.exprs) ≡ map Some (take l.place l.out);
  residues : All (λ x. x < m) (take l.place l.out);
  kept : All (IsPower m l.args) l.kept;
}
