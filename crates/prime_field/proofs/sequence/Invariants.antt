use Rattle.std.proofs.Common.{◌≡◌}
use Rattle.prime_field.specs.Sequence.{word}
use Rattle.prime_field.proofs.sequence.Given as goal

abbrev pub invariant-loop : goal.invariant-loop
invariant-loop l = l.current ≡ word l.counter
