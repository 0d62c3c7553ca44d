use Rattle.std.proofs.Common.{◌≡◌, ℕ, arith}
use Rattle.laurent_node.proofs.tests.a_simple_pole.Goals as goal

not_zero : ◌≡◌ {A = ℕ} 1 0 → ⊥
not_zero same = omega arith

pub expand-requires-clause-some : goal.expand-requires-clause-some
expand-requires-clause-some g c zeros = not_zero (zeros 1)

pub expand-requires-2-clause-some : goal.expand-requires-2-clause-some
expand-requires-2-clause-some g c zeros = not_zero (zeros 1)
