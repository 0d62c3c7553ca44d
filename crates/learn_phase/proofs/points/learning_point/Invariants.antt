-- The entries so far are those of the point.
use Rattle.std.proofs.Common.{◌≡◌, length, take}
use Rattle.learn_phase.specs.Points.{learning_point}
use Rattle.learn_phase.proofs.points.learning_point.Given as goal

abbrev pub invariant-loop-place : goal.invariant-loop-place
invariant-loop-place l = record { long : length l.entries ≡ 8; so_far : take l.place l.entries ≡ learning_point l.place l.q }
