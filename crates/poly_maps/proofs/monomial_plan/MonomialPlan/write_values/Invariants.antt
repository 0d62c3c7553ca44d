use Rattle.std.proofs.Common.{◌≡◌, ℕ, ◌<◌, ◌%◌, [], slice_index, slice_index_or}
use Rattle.prime_field.specs.Modulus.{value_of}
use Rattle.poly_maps.specs.Mono.{mono_value}
use Rattle.poly_maps.proofs.monomial_plan.MonomialPlan.write_values.Given as goal

abbrev pub invariant-loop-k : goal.invariant-loop-k
invariant-loop-k l =
    (j : ℕ) → j < l.k → slice_index l.out j ≡ mono_value (slice_index_or l.self j []) l.entries % value_of l.m
