-- The terms so far are there.
use Rattle.std.proofs.Common.{◌≡◌, take}
use Rattle.ratfun_text.proofs.reading.polynomial_of.Given as goal

abbrev pub invariant-loop-i : goal.invariant-loop-i
invariant-loop-i l = l.polynomial ≡ take l.i l.terms
