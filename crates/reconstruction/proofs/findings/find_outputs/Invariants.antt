-- What is found of the outputs so far.
use Rattle.std.proofs.Common.{◌≡◌, ℕ, List, length}
use Rattle.graph_file.specs.Says.{form}
use Rattle.reconstruction.specs.Found.{AreFound}
use Rattle.reconstruction.proofs.findings.find_outputs.Given as goal

abbrev pub invariant-loop-k : goal.invariant-loop-k
invariant-loop-k l = (names : List (List ℕ)) → length names ≡ l.grid.variables → AreFound (form l.job) l.first l.second names l.tolds.items l.k
