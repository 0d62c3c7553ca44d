use Rattle.std.proofs.Common.{◌≡◌, ℕ, get_or, vec_len}
use Rattle.poly_maps.proofs.ray.trim.Given as goal

abbrev pub invariant-loop-coefficients : goal.invariant-loop-coefficients
invariant-loop-coefficients l = (k : ℕ) → get_or l.coefficients.items k 0 ≡ get_or l.initial.coefficients.items k 0

abbrev pub decreases-loop-coefficients : goal.decreases-loop-coefficients
decreases-loop-coefficients l = vec_len l.coefficients
