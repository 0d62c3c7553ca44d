-- The words of the graphs so far.
use Rattle.std.proofs.Common.{◌≡◌, ℕ, ◌+◌, ◌*◌, ◌≤◌}
use Rattle.std.specs.Prelude.{slice_index}
use Rattle.graph_eval.specs.Needs.{words_below}
use Rattle.graph_eval.proofs.needs.words_of_each.Given as goal

abbrev pub invariant-loop-number : goal.invariant-loop-number
invariant-loop-number l = record {
  each : (k : ℕ) → slice_index l.words k ≡ words_below l.graphs l.learned l.number k;
  bound : (k : ℕ) → slice_index l.words k ≤ l.number * 18154826761665 + 16801800;
}
