-- Rows that are read one after another.
use Rattle.std.proofs.Common.{◌≡◌, ℕ, ◌+◌, ◌<◌, ◌≤◌, All, List, [], ◌∷◌, ◌++◌, length, map, take, get_or, Option, Some, None, sym, ◌∙◌, ap, subst, arith}
use Rattle.std.specs.Prelude.{slice_get}
use Rattle.std.proofs.lemmas.List.{length-map, take_all, take_more}
use Rattle.std.proofs.lemmas.List.Elements.{All-more}
use Rattle.std.proofs.lemmas.Option.{get_or_from_slice_get, slice_get-map, slice_get_within}
use Rattle.std.specs.Option.{option_map}
use Rattle.graph_eval.specs.declared.outcome.Cause.{Cause}
use Rattle.graph_eval.specs.GraphValue.{Outcome, Value, SingularAt}
use Rattle.graph_file.specs.declared.graph.Graph.{Graph}
use Rattle.graph_eval.specs.Evaluated.{HasInputs}
use Rattle.good_attempt.specs.Attempts.{column}
use Rattle.good_attempt.specs.Kept.{IsDefined, values_of}
use Rattle.good_attempt.specs.Tried.{HasVariables}

-- where all rows have values, none is without them
pub not_singular : (rows : List Outcome) (i node : ℕ) (cause : Cause) → All IsDefined rows → slice_get rows i ≡ Some (SingularAt node cause) → ⊥
not_singular rows i node cause defined at =
    let told = SingularAt node cause in
    subst IsDefined (get_or_from_slice_get rows i told told at) (defined i told (slice_get_within rows i told at))

pub values_at : (samples : List Outcome) (rows : List (List ℕ)) (i : ℕ) (values : List ℕ) → map values_of samples ≡ rows → slice_get samples i ≡ Some (Value values) → slice_get rows i ≡ Some values
values_at samples rows i values same at = subst (λ (rs : List (List ℕ)). slice_get rs i ≡ Some values) same (slice_get-map values_of samples i ∙ ap (option_map values_of) at)

pub place_within : (rows : List (List ℕ)) (i k : ℕ) (values : List ℕ) → All (λ row. k < length row) rows → slice_get rows i ≡ Some values → k < length values
place_within rows i k values all at = subst (λ (row : List ℕ). k < length row) (get_or_from_slice_get rows i values values at) (all i values (slice_get_within rows i values at))

-- the next entry of the column
pub column_more : (k : ℕ) (rows : List (List ℕ)) (i : ℕ) (values so_far more : List ℕ) (x : ℕ) → so_far ≡ take i (column k rows) → slice_get rows i ≡ Some values → x ≡ get_or values k 0 → more ≡ so_far ++ x ∷ [] → more ≡ take (i + 1) (column k rows)
column_more k rows i values so_far more x before at is pushed =
    let own = λ (row : List ℕ). get_or row k 0 in
    let there : slice_get (column k rows) i ≡ Some (get_or values k 0) = slice_get-map own rows i ∙ ap (option_map own) at in
    let entry : x ≡ get_or (column k rows) i 0 = is ∙ sym (get_or_from_slice_get (column k rows) i (get_or values k 0) 0 there) in
    pushed ∙ ap (λ xs. xs ++ x ∷ []) before ∙ ap (λ y. take i (column k rows) ++ y ∷ []) entry ∙ sym (take_more (column k rows) i 0 (slice_get_within (column k rows) i (get_or values k 0) there))

pub column_whole : (k : ℕ) (rows : List (List ℕ)) (i : ℕ) (values : List ℕ) → values ≡ take i (column k rows) → length rows ≤ i → values ≡ column k rows
column_whole k rows i values is end = is ∙ take_all i (column k rows) (omega (arith, length-map rows (λ (row : List ℕ). get_or row k 0)))

-- one row more has values
pub defined_more : (rows : List Outcome) (i : ℕ) (values : List ℕ) → All IsDefined (take i rows) → slice_get rows i ≡ Some (Value values) → All IsDefined (take (i + 1) rows)
defined_more rows i values so_far at =
    All-more IsDefined rows i (Value values) (slice_get_within rows i (Value values) at) so_far (subst IsDefined (sym (get_or_from_slice_get rows i (Value values) (Value values) at)) tt)

pub all_defined : (rows : List Outcome) (i : ℕ) → All IsDefined (take i rows) → length rows ≤ i → All IsDefined rows
all_defined rows i so_far end = subst (All IsDefined) (take_all i rows end) so_far

-- points with an entry for each variable of a grid have one for each input of a graph with as many
pub have_inputs : (graph : Option Graph) (variables : ℕ) (points : List (List ℕ)) → HasVariables graph variables → All (λ x. length x ≡ variables) points → All (HasInputs graph) points
have_inputs None variables points has entries k d below = absurd has
have_inputs (Some graph) variables points has entries k d below = entries k d below ∙ has
