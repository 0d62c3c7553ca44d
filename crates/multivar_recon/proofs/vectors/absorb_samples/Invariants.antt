use Rattle.std.proofs.Common.{drop, take}
use Rattle.prime_field.specs.Modulus.{value_of}
use Rattle.multivar_recon.specs.Vectors.{IsSampled}
use Rattle.multivar_recon.proofs.vectors.absorb_samples.Given as goal

abbrev pub invariant-loop-i : goal.invariant-loop-i
invariant-loop-i l =
    IsSampled (value_of l.m) (take l.count l.plan) (drop l.count l.plan) l.points l.values l.i l.elim l.words
