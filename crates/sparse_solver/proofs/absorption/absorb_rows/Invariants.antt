-- The rows taken so far are kept.
use Rattle.std.proofs.Common.{take}
use Rattle.prime_field.specs.Modulus.{value_of}
use Rattle.elim_core.specs.Solved.{IsKept}
use Rattle.elim_core.specs.Sparse.{rows_with}
use Rattle.sparse_solver.proofs.Systems.{picked}
use Rattle.sparse_solver.proofs.absorption.absorb_rows.Given as goal

abbrev pub invariant-loop-number : goal.invariant-loop-number
invariant-loop-number l = IsKept l.elimination l.words (value_of l.fn.m) l.unknowns (picked (rows_with l.unknowns l.rows l.values) (take l.number-index l.order))
