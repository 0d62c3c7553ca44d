use Rattle.std.proofs.Common.{◌≡◌, ℕ, arith}
use Rattle.laurent_node.proofs.tests.a_common_factor_is_no_pole.Goals as goal

not_zero : ◌≡◌ {A = ℕ} 1 0 → ⊥
not_zero same = omega arith

pub expand-requires-clause-some : goal.expand-requires-clause-some
expand-requires-clause-some g c zeros = not_zero (zeros 1)
