use Rattle.std.proofs.Common.{◌≡◌, slice_index}
use Rattle.newton_interp.specs.GridPoints.{terms_below}
use Rattle.newton_interp.proofs.grid_terms.terms_of.Given as goal

abbrev pub invariant-loop-place : goal.invariant-loop-place
invariant-loop-place l = l.terms.items ≡ terms_below l.axes (slice_index l.coefficients) l.place
