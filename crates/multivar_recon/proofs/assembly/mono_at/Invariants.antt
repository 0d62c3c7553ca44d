use Rattle.std.proofs.Common.{drop}
use Rattle.newton_interp.proofs.Monomials.{AreSplit}
use Rattle.multivar_recon.proofs.assembly.mono_at.Given as goal

abbrev pub invariant-loop-k : goal.invariant-loop-k
invariant-loop-k l = AreSplit (drop l.k l.axes) l.place l.exponents l.rest
