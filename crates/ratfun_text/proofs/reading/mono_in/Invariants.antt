-- The powers that are left put in the other exponents.
use Rattle.std.proofs.Common.{◌≡◌, drop}
use Rattle.ratfun_text.specs.Reading.{with_powers, zeros}
use Rattle.ratfun_text.proofs.reading.mono_in.Given as goal

abbrev pub invariant-loop-place : goal.invariant-loop-place
invariant-loop-place l = with_powers l.place (drop l.place l.names) l.rest l.exponents ≡ with_powers 0 l.names l.powers (zeros 8)
