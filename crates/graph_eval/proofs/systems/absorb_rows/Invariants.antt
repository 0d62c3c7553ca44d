-- The rows so far are kept.
use Rattle.prime_field.specs.Modulus.{value_of}
use Rattle.elim_core.specs.Solved.{IsKept}
use Rattle.graph_eval.specs.Systems.{rows_in}
use Rattle.graph_eval.proofs.systems.absorb_rows.Given as goal

abbrev pub invariant-loop-place : goal.invariant-loop-place
invariant-loop-place l = IsKept l.elimination l.words (value_of l.fn.m) l.unknowns (rows_in l.place l.unknowns l.list)
