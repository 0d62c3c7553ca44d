-- The expansions so far stand behind the lists.
use Rattle.std.proofs.Common.{◌≡◌, drop}
use Rattle.prime_field.specs.Modulus.{value_of}
use Rattle.graph_eval.specs.Expanded.{AreExpansionsAdded}
use Rattle.graph_eval.proofs.expansion.push_expansions.Given as goal

abbrev pub invariant-loop-k : goal.invariant-loop-k
invariant-loop-k l = record {
  size : l.stack.size ≡ l.initial.stack.size;
  kept : l.stack.kept ≡ l.initial.stack.kept;
  added : AreExpansionsAdded (value_of l.m) l.window (drop l.base l.initial.stack.words) l.width l.k l.initial.stack.words l.stack.words;
}
