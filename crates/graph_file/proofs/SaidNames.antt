-- The variables of the graph that a file says have names as variables may have, and the grid that it says covers its bounds.
use Rattle.std.proofs.Common.{◌≡◌, ◌≢◌, ℕ, ◌-◌, ◌≤◌, List, [], ◌∷◌, length, Option, Some, None, refl, sym, ap, subst, arith, inl, inr}
use Rattle.std.specs.Prelude.{◌⊎◌, slice_get, unwrap_or}
use Rattle.poly_maps.specs.declared.bound.Bounds.{Bounds}
use Rattle.ray_grid.specs.Covering.{Covers}
use Rattle.ratfun_text.specs.Printed as printed
use Rattle.ray_grid.specs.Grid.{bound_of}
use Rattle.graph_file.specs.declared.graph.Graph.{Graph}
use Rattle.graph_file.specs.declared.job.Need.{Need}
use Rattle.graph_file.specs.declared.line.Line.{Line}
use Rattle.graph_file.specs.declared.line.Line.TheVariants as line
use Rattle.graph_file.specs.Bounded.{AreGiven, HasBounds, inputs_of, main_variables}
use Rattle.graph_file.specs.Bounding.{bounds_among, bounds_given, grid_with, no_bounds, widest}
use Rattle.graph_file.specs.Facts.{variables_in}
use Rattle.graph_file.specs.File.{IsGoodFile, said}
use Rattle.graph_file.specs.Lines.{lines}
use Rattle.graph_file.specs.Read.{AreGoodLines}
use Rattle.graph_file.specs.Reader.{AreVariables}
use Rattle.graph_file.specs.Says.{FileForm, Says, bounds_at, grid_of}
use Rattle.graph_file.proofs.BoundLemmas.{at-covered}
use Rattle.graph_file.proofs.Passes.{passes, variables-passed}
use Rattle.graph_file.proofs.GraphLemmas.{HasMain}
use Rattle.graph_file.proofs.SaidBounds.{bounds-of-said, good-file-lines, main-said}

-- good lines have no variables, or sound ones
variables-said : (all : List Line) → AreGoodLines all → (variables_in all ≡ []) ⊎ AreVariables (variables_in all)
variables-said [] good = inl refl
variables-said (line.Flow version ∷ before) good = variables-said before good.1.2
variables-said (line.Graph name ∷ before) good = inl refl
variables-said (line.Input names ∷ before) good = inr (variables-passed before names (passes before (line.Input names) good.1.1.0) good.1.0.0 good.1.0.1)
variables-said (line.Node name statement ∷ before) good = variables-said before good.1.2
variables-said (line.Row columns ∷ before) good = variables-said before good.1.2
variables-said (line.Output list ∷ before) good = variables-said before good.1.2
variables-said (line.Point entries ∷ before) good = variables-said before good.1.2
variables-said (line.Bounds outputs num den ∷ before) good = variables-said before good.1.2
variables-said (line.Coeff num den ∷ before) good = variables-said before good.1.2

-- where there are some they are as names of a text's variables
named : (names : List (List ℕ)) → 1 ≤ length names → (names ≡ []) ⊎ AreVariables names → printed.AreVariables names
named names some (inl none) = absurd (omega (arith, some, ap length none))
named names some (inr are) = record { some = are.some; few = are.few; named = are.are_names.named; distinct = are.are_names.distinct }

pub names-of-said : (need : Need) (bytes : List ℕ) (f : FileForm) → IsGoodFile need bytes → Says need bytes f → (graph : Graph) × (slice_get f.graphs (length f.graphs - 1) ≡ Some graph) × printed.AreVariables graph.inputs
names-of-said need bytes f good says =
    let main : HasMain (said (lines bytes)) f.graphs = main-said need bytes f good says in
    let has : HasBounds f.graphs f.all f.special f.coeff need = bounds-of-said need bytes f good says in
    let inputs : main.graph.inputs ≡ variables_in (said (lines bytes)) = main.says.inputs in
    let some : 1 ≤ main_variables f.graphs = has.given.grid.some in
    let count : main_variables f.graphs ≡ length main.graph.inputs = ap inputs_of main.there in
    let are : (main.graph.inputs ≡ []) ⊎ AreVariables main.graph.inputs = subst (λ (names : List (List ℕ)). (names ≡ []) ⊎ AreVariables names) (sym inputs) (variables-said (said (lines bytes)) (good-file-lines need bytes good)) in
    (main.graph, main.there, named main.graph.inputs (omega (arith, some, count)) are)

covered : (variables : ℕ) (f : FileForm) (all : Option Bounds) (output : ℕ) → f.all ≡ all → AreGiven variables f.all f.special → f.all ≢ None →
    Covers (bound_of (grid_with variables (widest (bounds_given f.all f.special)))) (bounds_among f.special (unwrap_or f.all no_bounds) output)
covered variables f None output is given some = absurd (some is)
covered variables f (Some every) output is given some =
    subst (λ (e : Bounds). Covers (bound_of (grid_with variables (widest (bounds_given f.all f.special)))) (bounds_among f.special e output)) (sym (ap (λ (a : Option Bounds). unwrap_or a no_bounds) is))
    (at-covered variables f.all f.special every output given is)

pub covers-of-said : (need : Need) (bytes : List ℕ) (f : FileForm) (output : ℕ) → IsGoodFile need bytes → Says need bytes f → f.all ≢ None → Covers (bound_of (grid_of f)) (bounds_at f output)
covers-of-said need bytes f output good says some = covered (main_variables f.graphs) f f.all output refl (bounds-of-said need bytes f good says).given some
