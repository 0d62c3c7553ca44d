use Rattle.std.proofs.Common.{ℕ, ◌<◌, All, Contains, length}
use Rattle.sparse_solver.proofs.order.first_order.Given as goal

abbrev pub invariant-loop-number : goal.invariant-loop-number
invariant-loop-number l = All (λ k. k < length l.rows) l.order.items × ((k : ℕ) → k < l.number → Contains l.order.items k)
