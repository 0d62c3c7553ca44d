use Rattle.std.proofs.Common.{◌≢◌, ℕ, ◌%◌, ◌<◌, slice_index}
use Rattle.prime_field.specs.Modulus.{value_of}
use Rattle.univariate.specs.Univariate.{univariate_value}
use Rattle.thiele_interp.proofs.thiele.is_nowhere_zero.Given as goal

abbrev pub invariant-loop-point : goal.invariant-loop-point
invariant-loop-point l = (i : ℕ) → i < l.point-index → univariate_value l.coefficients (slice_index l.points i) % value_of l.m ≢ 0
