use Rattle.prime_field.specs.Modulus.{value_of}
use Rattle.elim_core.proofs.CutBacks.{LayeredSoFar}
use Rattle.elim_core.proofs.choice.choose.Given as goal

abbrev pub invariant-loop-i : goal.invariant-loop-i
invariant-loop-i l =
    LayeredSoFar (value_of l.modulus) l.unknowns l.fn.rows l.fn.ends l.rows l.ends l.row l.layers l.set l.i
