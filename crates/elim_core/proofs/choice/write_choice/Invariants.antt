use Rattle.std.proofs.Common.{◌≡◌, ℕ, ◌+◌, ◌<◌, get_or}
use Rattle.elim_core.specs.Rows.{chosen_value}
use Rattle.elim_core.proofs.choice.write_choice.Given as goal

abbrev pub invariant-loop-k : goal.invariant-loop-k
invariant-loop-k l = (i : ℕ) → i < l.k → get_or l.values i 0 ≡ chosen_value l.chosen (i + 1)
