-- The places hold the products over the first part and the parts so far.
use Rattle.std.proofs.Common.{◌≡◌, ◌+◌, ◌<◌, All, map, take}
use Rattle.prime_field.specs.Modulus.{value_of}
use Rattle.basic_nodes.specs.Plain.{multiplied}
use Rattle.graph_eval.specs.Reading.{placed}
use Rattle.graph_eval.proofs.kinds.write_product.Given as goal

abbrev pub invariant-loop-part : goal.invariant-loop-part
invariant-loop-part l = record {
  product : l.out ≡ multiplied (value_of l.m) (map (placed l.words l.places) (take (l.part-index + 1) l.parts));
  residues : All (λ x. x < value_of l.m) l.out;
}
