-- What is left to be put behind the text makes of it what it will be, and is in the names.
use Rattle.std.proofs.Common.{◌≡◌, ◌++◌, drop}
use Rattle.poly_maps.specs.Polynomial.{Supported}
use Rattle.ratfun_text.specs.Printed.{IsIn, later_text}
use Rattle.ratfun_text.proofs.print.push_later.Given as goal

abbrev pub invariant-loop-term : goal.invariant-loop-term
invariant-loop-term l = (l.text.items ++ later_text l.names (drop l.term-index l.terms) ≡ l.initial.text.items ++ later_text l.names l.terms) × Supported (IsIn l.names) (drop l.term-index l.terms)
