-- The lines of a sampling, one row after another.
use Rattle.std.proofs.Common.{◌≡◌, ℕ, ◌+◌, ◌<◌, ◌≤◌, All, List, [], ◌∷◌, ◌++◌, length, take, get_or, Option, Some, sym, ◌∙◌, ap, subst}
use Rattle.std.specs.Prelude.{slice_get}
use Rattle.std.specs.List.{flat_map}
use Rattle.std.proofs.lemmas.List.{flat_map_more, take_all, take_more}
use Rattle.std.proofs.lemmas.Option.{get_or_from_slice_get, slice_get-get_or, slice_get_within}
use Rattle.graph_file.specs.declared.graph.Graph.{Graph}
use Rattle.graph_file.specs.Sound.{IsJob}
use Rattle.graph_eval.specs.declared.outcome.Cause.{Cause}
use Rattle.graph_eval.specs.Evaluated.{HasInputs}
use Rattle.graph_eval.specs.GraphValue.{Outcome, Value, SingularAt, GraphValue, main_number}
use Rattle.graph_eval.proofs.Fitting.{point_inputs}
use Rattle.parallel_sampler.specs.Rows.{AreOutcomes}
use Rattle.flow_program.specs.Sampled.{AddsRow, SamplesTo, names_at, outcome_line}
use Rattle.flow_program.specs.Refusals.{node_names}

-- a row has values or none
pub not_both : (rows : List Outcome) (i : ℕ) (values : List ℕ) (node : ℕ) (cause : Cause) → slice_get rows i ≡ Some (Value values) → slice_get rows i ≡ Some (SingularAt node cause) → ⊥
not_both rows i values node cause has none = let both : Some (Value values) ≡ Some (SingularAt node cause) = sym has ∙ none in cc

-- each point of a job has an entry for each variable of the main graph
pub points_inputs : (graphs : List Graph) (all points : List (List ℕ)) → IsJob graphs points → all ≡ points → All (HasInputs (slice_get graphs (main_number graphs))) all
points_inputs graphs all points sound same k d below =
    point_inputs graphs points k (get_or all k d) sound (subst (λ (ps : List (List ℕ)). slice_get ps k ≡ Some (get_or all k d)) same (slice_get-get_or all k d below))

-- the next row has the next line
pub lines_more : (names : List (List ℕ)) (rows : List Outcome) (i : ℕ) (base text more : List ℕ) → text ≡ base ++ flat_map (outcome_line names) (take i rows) → AddsRow names rows i text more → more ≡ base ++ flat_map (outcome_line names) (take (i + 1) rows)
lines_more names rows i base text more so_far adds =
    let line = outcome_line names in
    let below : i < length rows = slice_get_within rows i adds.row adds.is_row in
    let longer : take (i + 1) rows ≡ take i rows ++ adds.row ∷ [] = take_more rows i adds.row below ∙ ap (λ r. take i rows ++ r ∷ []) (get_or_from_slice_get rows i adds.row adds.row adds.is_row) in
    adds.joined ∙ ap (λ t. t ++ line adds.row) so_far ∙ flat_map_more line base (take i rows) adds.row ∙ ap (λ rs. base ++ flat_map line rs) (sym longer)

pub lines_end : (names : List (List ℕ)) (rows : List Outcome) (i : ℕ) (base text : List ℕ) → text ≡ base ++ flat_map (outcome_line names) (take i rows) → length rows ≤ i → text ≡ base ++ flat_map (outcome_line names) rows
lines_end names rows i base text so_far end = so_far ∙ ap (λ rs. base ++ flat_map (outcome_line names) rs) (take_all i rows end)

-- the lines of all rows are the sampling, by the names of the main graph's nodes
pub lines_whole : (m : ℕ) (graphs : List Graph) (sets : List (List (List ℕ))) (graph : Graph) (all points : List (List ℕ)) (rows : List Outcome) (none text : List ℕ) → slice_get graphs (main_number graphs) ≡ Some graph → all ≡ points
    → AreOutcomes (GraphValue m graphs sets (main_number graphs)) all rows → none ≡ [] → text ≡ none ++ flat_map (outcome_line (node_names graph)) rows → SamplesTo m graphs sets points text
lines_whole m graphs sets graph all points rows none text is_main same are empty is = record {
  outcomes = rows;
  are_outcomes = subst (λ (ps : List (List ℕ)). AreOutcomes (GraphValue m graphs sets (main_number graphs)) ps rows) same are;
  lines = is ∙ ap (λ (bs : List ℕ). bs ++ flat_map (outcome_line (node_names graph)) rows) empty ∙ ap (λ (g : Option Graph). flat_map (outcome_line (names_at g)) rows) (sym is_main);
}
