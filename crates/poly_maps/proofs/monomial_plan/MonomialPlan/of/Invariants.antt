use Rattle.std.proofs.Common.{◌≡◌, ℕ, [], Some, length, take, slice_get, slice_index_or}
use Rattle.poly_maps.specs.declared.monomial_plan.Step.{Step}
use Rattle.poly_maps.specs.Steps.{IsStep}
use Rattle.poly_maps.proofs.monomial_plan.MonomialPlan.of.Given as goal

abbrev pub invariant-loop-k : goal.invariant-loop-k
invariant-loop-k l = record {
  many : length l.steps.items ≡ l.k;
  each : (j : ℕ) (step : Step) → slice_get l.steps.items j ≡ Some step → IsStep (take j l.mono-items) (slice_index_or l.mono-items j []) step;
}
