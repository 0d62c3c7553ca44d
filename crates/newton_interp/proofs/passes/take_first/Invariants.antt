use Rattle.std.proofs.Common.{◌≡◌, ℕ, ◌+◌, ◌-◌, ◌%◌, ◌<◌, slice_index}
use Rattle.prime_field.specs.Modulus.{value_of}
use Rattle.newton_interp.proofs.passes.take_first.Given as goal

abbrev pub invariant-loop-j : goal.invariant-loop-j
invariant-loop-j l = (i : ℕ) → i < l.j → slice_index l.out i ≡
    (slice_index l.entries i + (value_of l.m - slice_index l.entries 0)) % value_of l.m
