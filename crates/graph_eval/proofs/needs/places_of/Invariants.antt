-- The places of the lists so far.
use Rattle.std.proofs.Common.{◌≡◌, ◌+◌, ◌*◌, ◌≤◌, sum, take}
use Rattle.graph_eval.specs.Reading.{places_of}
use Rattle.graph_eval.proofs.needs.places_of.Given as goal

abbrev pub invariant-loop-own : goal.invariant-loop-own
invariant-loop-own l = record {
  places : l.places ≡ places_of l.inputs (take l.own-index l.lengths);
  end : l.end ≡ l.inputs + sum (take l.own-index l.lengths);
  bound : l.end ≤ l.inputs + l.own-index * 4294967295;
}
