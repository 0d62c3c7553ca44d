-- With the lines of the graphs that are left, all lines would be there.
use Rattle.std.proofs.Common.{◌≡◌, ◌++◌, drop}
use Rattle.flow_program.specs.Lessons.{lessons}
use Rattle.flow_program.proofs.lessons.lessons.Given as goal

abbrev pub invariant-loop-place : goal.invariant-loop-place
invariant-loop-place l = l.text.items ++ lessons (drop l.place l.job.graphs) (drop l.place l.learned) ≡ lessons l.job.graphs l.learned
