-- The builder holds what the front of the text stands for, and nothing is wrong with it.
use Rattle.std.proofs.Common.{◌-◌, ◌≤◌, length, take, drop}
use Rattle.ratfun_text.specs.Parts.{parts_of}
use Rattle.ratfun_text.proofs.Parsed.{Kept}
use Rattle.ratfun_text.proofs.parse.parse_expr.Given as goal

abbrev pub invariant-loop-at : goal.invariant-loop-at
invariant-loop-at l = (l.at ≤ length l.text) × Kept l.names (take l.at l.text) (drop l.at l.text) (parts_of l.builder)

abbrev pub decreases-loop-at : goal.decreases-loop-at
decreases-loop-at l = length l.text - l.at
