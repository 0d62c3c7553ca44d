use Rattle.std.proofs.Common.{length, slice_index}
use Rattle.prime_field.specs.Modulus.{value_of}
use Rattle.thiele_interp.specs.Pairs.{IsLeastPair, IsReducedPair}
use Rattle.thiele_interp.proofs.Ends.{at_front}
use Rattle.thiele_interp.proofs.least.least_by_remainders.Goals as goal

pub returns-clause-reduced : goal.returns-clause-reduced
returns-clause-reduced c =
    at_front (λ num den. IsReducedPair (value_of c.args.m) num den) c.pair_of-found.result c.pair_of-found.new.rest _ c.pair_of-found.ensures.room c.pair_of-found.ensures.reduced

pub returns-clause-least : goal.returns-clause-least
returns-clause-least c =
    at_front (λ num den. IsLeastPair (value_of c.args.m) (length c.args.points.now) (slice_index c.args.points.now) (slice_index c.args.values.now) c.args.a c.args.b num den)
    c.pair_of-found.result c.pair_of-found.new.rest _ c.pair_of-found.ensures.room c.pair_of-found.ensures.least
