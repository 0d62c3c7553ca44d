-- The lists of values in rows, and the first row that has none.
use Rattle.std.specs.Prelude.{◌≡◌, ℕ, All, List, [], ◌∷◌, take, slice_get, Some, ⊤}
use Rattle.graph_eval.specs.GraphValue.{Outcome, Value, SingularAt}
use Rattle.good_attempt.specs.declared.gap.Gap.{Gap}

-- the row has values
abbrev pub IsDefined : Outcome → Type 0
IsDefined (Value values) = ⊤
IsDefined (SingularAt node cause) = ⊥

-- the values of a row, none where it has none
abbrev pub values_of : Outcome → List ℕ
values_of (Value values) = values
values_of (SingularAt node cause) = []

-- the gap tells the first row without values
pub record IsGapIn (rows : List Outcome) (gap : Gap) : Type 0 where
  pub before : All IsDefined (take gap.point rows)
  pub here : slice_get rows gap.point ≡ Some (SingularAt gap.node gap.cause)
