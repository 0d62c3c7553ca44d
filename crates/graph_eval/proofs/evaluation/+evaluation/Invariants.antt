-- The lists of the nodes so far stand above the inputs, and what a graph gives on the lists so far, or at the points so far, behind the words.
use Rattle.std.proofs.Common.{◌≡◌, ◌+◌, ◌*◌, length, map, take, drop}
use Rattle.prime_field.specs.Modulus.{value_of}
use Rattle.basic_nodes.specs.Plain.{chained}
use Rattle.graph_eval.specs.Expanded.{expansion_inputs}
use Rattle.graph_eval.specs.GraphValue.{meanings}
use Rattle.graph_eval.specs.Learned.{sets_of}
use Rattle.graph_eval.specs.Memos.{AreKept}
use Rattle.graph_eval.specs.Reading.{placed}
use Rattle.graph_eval.specs.Stacked.{AreCalled}
use Rattle.graph_eval.proofs.Standing.{ListsStand}
use Rattle.graph_eval.proofs.evaluation.+evaluation.Given as goal

abbrev pub decreases-evaluate : goal.decreases-evaluate
decreases-evaluate l = l.number * 8 + 4

abbrev pub decreases-push_node : goal.decreases-push_node
decreases-push_node l = l.number * 8 + 3

abbrev pub decreases-push_call : goal.decreases-push_call
decreases-push_call l = l.number * 8 + 2

abbrev pub decreases-write_call : goal.decreases-write_call
decreases-write_call l = l.called * 8 + 5

abbrev pub decreases-write_map : goal.decreases-write_map
decreases-write_map l = l.called * 8 + 6

abbrev pub decreases-write_at : goal.decreases-write_at
decreases-write_at l = l.called * 8 + 5

abbrev pub decreases-write_expanded : goal.decreases-write_expanded
decreases-write_expanded l = l.called * 8 + 6

abbrev pub decreases-write_memo : goal.decreases-write_memo
decreases-write_memo l = l.frame.graph * 8 + 6

abbrev pub decreases-write_again : goal.decreases-write_again
decreases-write_again l = l.called * 8 + 7

abbrev pub invariant-evaluate-loop-place : goal.invariant-evaluate-loop-place
invariant-evaluate-loop-place l = record {
  size : l.stack.size ≡ l.initial.stack.size;
  kept : length l.stack.kept ≡ length l.initial.stack.kept;
  memos : AreKept l.graphs (sets_of l.learned) l.frames l.moduli l.stack.kept;
  stands : ListsStand (value_of l.m) (meanings (value_of l.m) l.graphs (sets_of l.learned) l.number) l.graph l.entry (take l.base l.initial.stack.words) (drop l.base l.initial.stack.words) l.stack.words l.place;
}

abbrev pub invariant-write_map-loop-k : goal.invariant-write_map-loop-k
invariant-write_map-loop-k l = record {
  size : l.stack.size ≡ l.initial.stack.size;
  kept : length l.stack.kept ≡ length l.initial.stack.kept;
  memos : AreKept l.graphs (sets_of l.learned) l.frames l.moduli l.stack.kept;
  called : AreCalled (value_of l.m) l.graphs l.learned l.called (map (placed (drop l.base l.initial.stack.words) l.places) l.parts) l.k l.initial.stack.words l.stack.words;
}

abbrev pub invariant-write_expanded-loop-number : goal.invariant-write_expanded-loop-number
invariant-write_expanded-loop-number l = record {
  size : l.stack.size ≡ l.initial.stack.size;
  kept : length l.stack.kept ≡ length l.initial.stack.kept;
  memos : AreKept l.graphs (sets_of l.learned) l.frames l.moduli l.stack.kept;
  called : AreCalled (value_of l.m) l.graphs l.learned l.called (expansion_inputs l.window (chained (map (placed (drop l.base l.initial.stack.words) l.places) l.parts))) l.number l.initial.stack.words l.stack.words;
}
