-- What is left to be put behind the text makes of it what it will be.
use Rattle.std.proofs.Common.{◌≡◌, ◌++◌, drop}
use Rattle.ratfun_text.specs.Printed.{chained, powers}
use Rattle.ratfun_text.proofs.print.push_powers.Given as goal

abbrev pub invariant-loop-i : goal.invariant-loop-i
invariant-loop-i l = l.text.items ++ chained l.first (powers (drop l.i l.names) (drop l.i l.exponents)) ≡ l.initial.text.items ++ chained l.initial.first (powers l.names l.exponents)
