-- What a graph has at one point after another: a row a point.
use Rattle.std.specs.Prelude.{◌≡◌, ℕ, ◌<◌, All, List, [], ◌∷◌, length, Option, Some, None, ⊤}
use Rattle.graph_file.specs.declared.graph.Graph.{Graph}
use Rattle.graph_eval.specs.Evaluated.{IsNeededNode}
use Rattle.graph_eval.specs.GraphValue.{Meaning, Outcome, Value, SingularAt}

-- there are as many outcomes as points, each what a meaning has at its point
abbrev pub AreOutcomes : Meaning → List (List ℕ) → List Outcome → Type 0
AreOutcomes meaning [] [] = ⊤
AreOutcomes meaning [] (outcome ∷ outcomes) = ⊥
AreOutcomes meaning (point ∷ points) [] = ⊥
AreOutcomes meaning (point ∷ points) (outcome ∷ outcomes) = meaning point outcome × AreOutcomes meaning points outcomes

-- whatever the modulus: a row of values has this many, all residues, and one without them tells a needed node
abbrev pub FitsRow : ℕ → Option Graph → ℕ → Outcome → Type 0
FitsRow m None outputs row = ⊥
FitsRow m (Some graph) outputs (Value values) = (length values ≡ outputs) × All (λ x. x < m) values
FitsRow m (Some graph) outputs (SingularAt node cause) = IsNeededNode graph node
