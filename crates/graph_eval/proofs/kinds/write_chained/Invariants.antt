-- The lists of the parts so far are written.
use Rattle.std.proofs.Common.{◌≡◌, length, map, take}
use Rattle.basic_nodes.specs.Plain.{chained}
use Rattle.graph_eval.specs.Reading.{placed}
use Rattle.graph_eval.proofs.kinds.write_chained.Given as goal

abbrev pub invariant-loop-part : goal.invariant-loop-part
invariant-loop-part l = record {
  at : l.at ≡ length (chained (map (placed l.words l.places) (take l.part-index l.parts)));
  written : take l.at l.out ≡ chained (map (placed l.words l.places) (take l.part-index l.parts));
}
