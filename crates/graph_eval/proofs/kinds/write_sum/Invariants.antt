-- The places hold the sums over the first part and the parts so far.
use Rattle.std.proofs.Common.{◌≡◌, ◌+◌, ◌<◌, All, map, take}
use Rattle.prime_field.specs.Modulus.{value_of}
use Rattle.basic_nodes.specs.Plain.{summed}
use Rattle.graph_eval.specs.Reading.{placed}
use Rattle.graph_eval.proofs.kinds.write_sum.Given as goal

abbrev pub invariant-loop-part : goal.invariant-loop-part
invariant-loop-part l = record {
  sum : l.out ≡ summed (value_of l.m) (map (placed l.words l.places) (take (l.part-index + 1) l.parts));
  residues : All (λ x. x < value_of l.m) l.out;
}
