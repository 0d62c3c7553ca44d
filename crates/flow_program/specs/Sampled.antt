-- The lines of the points of a file that is sampled.
use Rattle.std.specs.Prelude.{◌≡◌, ℕ, List, [], ◌++◌, map, slice_get, Option, Some, None, codes}
use Rattle.std.specs.List.{flat_map, join_with_byte}
use Rattle.std.specs.Fmt.{decimal}
use Rattle.graph_file.specs.declared.graph.Graph.{Graph}
use Rattle.graph_eval.specs.GraphValue.{Outcome, Value, SingularAt, GraphValue, main_number}
use Rattle.parallel_sampler.specs.Rows.{AreOutcomes}
use Rattle.flow_program.specs.Refusals.{node_names, singular_node}

-- the line of one point: the residues with a space between each two, or what is singular
abbrev pub outcome_line : List (List ℕ) → Outcome → List ℕ
outcome_line names (Value values) = join_with_byte 32 (map decimal values) ++ codes "\n"
outcome_line names (SingularAt n cause) = codes "singular " ++ singular_node names n cause ++ codes "\n"

-- the names of the nodes of a graph, where there is one
abbrev pub names_at : Option Graph → List (List ℕ)
names_at None = []
names_at (Some graph) = node_names graph

-- the lines of the outcomes at a file's points
abbrev pub sampled : List Graph → List Outcome → List ℕ
sampled graphs outcomes = flat_map (outcome_line (names_at (slice_get graphs (main_number graphs)))) outcomes

-- the text is made of the lines of the outcomes of the main graph at these points, where these sets were learned
pub record SamplesTo (m : ℕ) (graphs : List Graph) (sets : List (List (List ℕ))) (points : List (List ℕ)) (text : List ℕ) : Type 0 where
  pub outcomes : List Outcome
  pub are_outcomes : AreOutcomes (GraphValue m graphs sets (main_number graphs)) points outcomes
  pub lines : text ≡ sampled graphs outcomes

-- behind the text stands the line of this row, by the names of a graph's nodes
pub record AddsRow (names : List (List ℕ)) (rows : List Outcome) (i : ℕ) (old new : List ℕ) : Type 0 where
  pub row : Outcome
  pub is_row : slice_get rows i ≡ Some row
  pub joined : new ≡ old ++ outcome_line names row
