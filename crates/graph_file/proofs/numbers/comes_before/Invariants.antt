use Rattle.std.proofs.Common.{◌≡◌, drop}
use Rattle.graph_file.specs.Digits.{comes_before}
use Rattle.graph_file.proofs.numbers.comes_before.Given as goal

-- the digits before the place are the same
abbrev pub invariant-loop-place : goal.invariant-loop-place
invariant-loop-place l = comes_before l.first l.second ≡ comes_before (drop l.place l.first) (drop l.place l.second)
