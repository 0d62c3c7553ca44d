-- The tables of the graphs so far.
use Rattle.graph_eval.proofs.Tables.{TablesSoFar}
use Rattle.graph_eval.proofs.needs.tables_of.Given as goal

abbrev pub invariant-loop-number : goal.invariant-loop-number
invariant-loop-number l = TablesSoFar l.graphs l.learned l.tables l.number
