-- The values of monomials, each made from that of an earlier one.
use Rattle.std.specs.Prelude.{◌≡◌, ℕ, zero, suc, ◌<◌, List, [], ◌∷◌, length, take, slice_get, slice_index_or, Some}
use Rattle.poly_maps.specs.declared.monomial_plan.Step.{Step}
use Rattle.poly_maps.specs.declared.monomial_plan.Step.TheVariants as step

-- the monomial with one more factor of the variable `i`, counted from 0
abbrev pub raised : List ℕ → ℕ → List ℕ
raised [] i = []
raised (k ∷ e) zero = suc k ∷ e
raised (k ∷ e) (suc i) = k ∷ raised e i

-- the monomial is one of the earlier ones with one more factor of a variable
pub record IsRaised (earlier : List (List ℕ)) (mono : List ℕ) (place variable : ℕ) : Type 0 where
  pub there : place < length earlier
  pub eight : variable < 8
  pub within : variable < length (slice_index_or earlier place [])
  pub is : raised (slice_index_or earlier place []) variable ≡ mono

-- a step to the value of a monomial: from its exponents, or from the value of an earlier one
abbrev pub IsStep : List (List ℕ) → List ℕ → Step → Type 0
IsStep earlier mono step.Powers = Unit {0}
IsStep earlier mono (step.Times place variable) = IsRaised earlier mono place variable

-- a step to the value of each monomial, over those before it
pub record AreSteps (monos : List (List ℕ)) (steps : List Step) : Type 0 where
  pub many : length steps ≡ length monos
  pub each : (k : ℕ) (step : Step) → slice_get steps k ≡ Some step → IsStep (take k monos) (slice_index_or monos k []) step
