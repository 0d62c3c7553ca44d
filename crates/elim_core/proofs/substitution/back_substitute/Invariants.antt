use Rattle.prime_field.specs.Modulus.{value_of}
use Rattle.elim_core.proofs.Values.{SubstitutedFrom}
use Rattle.elim_core.proofs.substitution.back_substitute.Given as goal

abbrev pub invariant-loop-place : goal.invariant-loop-place
invariant-loop-place l = SubstitutedFrom (value_of l.modulus) l.unknowns l.rows l.ends l.initial.values l.values l.place
