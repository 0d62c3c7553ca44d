-- What the answers of trying attempts stand for.
use Rattle.std.specs.Prelude.{◌≡◌, ℕ, ◌<◌, All, List, length, Option, Some, None}
use Rattle.graph_file.specs.declared.graph.Graph.{Graph}
use Rattle.graph_eval.specs.Evaluated.{IsNeededNode}
use Rattle.good_attempt.specs.declared.gap.Gap.{Gap}
use Rattle.good_attempt.specs.declared.tried.Attempts.{Attempts}
use Rattle.good_attempt.specs.declared.tried.Attempts.TheVariants as answer
use Rattle.good_attempt.specs.Attempts.{Sampling, Good, Exhausted, Taken}

-- what was found, as a sampling
abbrev pub sampling_of : Attempts → Sampling
sampling_of (answer.Good taken) = Good taken
sampling_of (answer.Exhausted gaps) = Exhausted gaps.items

-- the graph has so many inputs
abbrev pub HasVariables : Option Graph → ℕ → Type 0
HasVariables None variables = ⊥
HasVariables (Some graph) variables = variables ≡ length graph.inputs

-- the lists have so many entries each, all residues
abbrev pub HasResidues : ℕ → ℕ → List (List ℕ) → Type 0
HasResidues m outputs rows = All (λ row. (length row ≡ outputs) × All (λ x. x < m) row) rows

-- the gap is at one of so many points, and tells a needed node of the graph
abbrev pub FitsGap : Option Graph → ℕ → Gap → Type 0
FitsGap None points gap = ⊥
FitsGap (Some graph) points gap = (gap.point < points) × IsNeededNode graph gap.node

-- whatever the modulus: a good attempt is one of the eight and has a list of `outputs` residues at each of its points; or
-- there are eight gaps, each at a needed node
abbrev pub FitsSampling : ℕ → Option Graph → ℕ → ℕ → Sampling → Type 0
FitsSampling m graph points outputs (Good taken) = (taken.attempt < 8) × (length taken.rows ≡ points) × HasResidues m outputs taken.rows
FitsSampling m graph points outputs (Exhausted gaps) = (length gaps ≡ 8) × All (FitsGap graph points) gaps
