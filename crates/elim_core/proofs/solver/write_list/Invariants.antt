use Rattle.std.proofs.Common.{get_or}
use Rattle.prime_field.specs.Modulus.{value_of}
use Rattle.elim_core.specs.Layout.{entry}
use Rattle.elim_core.proofs.CutBacks.{CutSoFar}
use Rattle.elim_core.proofs.SolvedLists.{SolvedSoFar}
use Rattle.elim_core.proofs.solver.write_list.Given as goal

abbrev pub invariant-loop-i : goal.invariant-loop-i
invariant-loop-i l = record {
  cut : CutSoFar (value_of l.modulus) l.unknowns l.fn.rows l.fn.ends l.rows l.ends l.row l.layers l.set l.i;
  solved : SolvedSoFar (value_of l.modulus) l.unknowns (entry l.unknowns l.fn.rows l.fn.ends) l.set l.want (λ k. get_or l.initial.values k 0) l.out l.i;
}
