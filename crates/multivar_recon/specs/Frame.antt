-- The axes of the directions of rays.
use Rattle.std.specs.Prelude.{◌≡◌, ℕ, suc, ◌+◌, ◌<◌, List, [], ◌∷◌, length, slice_index}
use Rattle.newton_interp.specs.declared.grid.Axis.{Axis}

-- the numbers from the first on, `count` of them
pub record AreSteps (first count : ℕ) (steps : List ℕ) : Type 0 where
  pub many : length steps ≡ count
  pub each : (k : ℕ) → k < count → slice_index steps k ≡ first + k

-- an axis for each slope, with variables from `variable` on: its points go from the slope up by the degree
abbrev pub AreDirectionAxes : ℕ → List ℕ → List ℕ → List Axis → Type 0
AreDirectionAxes variable [] [] [] = Unit {0}
AreDirectionAxes variable (slope ∷ slopes) (degree ∷ each) (axis ∷ axes) =
    (axis.variable ≡ variable) × AreSteps slope (degree + 1) axis.values.items × AreDirectionAxes (suc variable) slopes each axes
AreDirectionAxes variable slopes each axes = ⊥
