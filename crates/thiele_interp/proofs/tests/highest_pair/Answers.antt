use Rattle.std.proofs.Common.{length, slice_index, arith}
use Rattle.univariate.proofs.Small.{near-apart}
use Rattle.prime_field.specs.Modulus.{value_of}
use Rattle.prime_field.proofs.Moduli.{value_of-large}
use Rattle.newton_interp.proofs.Points.{replicate-low}
use Rattle.thiele_interp.proofs.tests.highest_pair.Goals as goal

pub write_samples-requires-clause-values : goal.write_samples-requires-clause-values
write_samples-requires-clause-values c k = replicate-low (value_of c.args.m) 131 0 k (omega (arith, value_of-large c.args.m))

pub least_pair-requires-clause-apart : goal.least_pair-requires-clause-apart
least_pair-requires-clause-apart c =
    near-apart c.args.m (length c.count_up.new.points) (slice_index c.count_up.new.points)
    (λ i j before low.
    let first = c.count_up.ensures i (omega arith) in
    let second = c.count_up.ensures j (omega arith) in
    (omega (arith, first, second), omega (arith, first, second)))
