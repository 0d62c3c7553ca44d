-- The terms that are there are in the names; and where the text is that of terms, some of those are there and the others left.
use Rattle.std.proofs.Common.{◌≡◌, ℕ, List, length}
use Rattle.poly_maps.specs.Polynomial.{Supported}
use Rattle.poly_maps.specs.declared.fraction.Frac.{Frac}
use Rattle.ratfun_text.specs.Printed.{IsIn}
use Rattle.ratfun_text.specs.Reading.{AreTermsIn, later_behind}
use Rattle.ratfun_text.proofs.ReadBack.{Left}
use Rattle.ratfun_text.proofs.reading.push_terms.Given as goal

abbrev pub invariant-loop-rest : goal.invariant-loop-rest
invariant-loop-rest l = (Supported (IsIn l.names) l.terms.items) × ((p : List (List ℕ × Frac)) → AreTermsIn l.names p → l.text ≡ later_behind l.names p → Left l.names l.initial.terms.items p l.terms.items l.rest)

abbrev pub decreases-loop-rest : goal.decreases-loop-rest
decreases-loop-rest l = length l.rest
