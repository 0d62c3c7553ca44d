-- Nothing is wrong with the file of the example, and this is what it says.
use Rattle.std.proofs.Common.{◌≡◌, ℕ, zero, suc, ◌<◌, List, [], ◌∷◌, Some, None, refl, sym, ◌∙◌, subst, true, false, arith}
use Rattle.std.specs.Prelude.{codes, slice_get, take}
use Rattle.std.proofs.lemmas.Option.{same_Some}
use Rattle.graph_file.specs.declared.graph.Graph.{Graph}
use Rattle.graph_file.specs.declared.graph.Source.TheVariants as source
use Rattle.graph_file.specs.declared.job.Need.TheVariants.{Functions as ForFunctions}
use Rattle.graph_file.specs.declared.line.Degrees.{Degrees}
use Rattle.graph_file.specs.Bounding.{bounds_said, coeff_or}
use Rattle.graph_file.specs.Faults.{IsGoodLine}
use Rattle.graph_file.specs.File.{IsGoodAt, IsGoodFile, is_idle_at, said}
use Rattle.graph_file.specs.Line.{both_degrees, line_of}
use Rattle.graph_file.specs.Lines.{lines}
use Rattle.graph_file.specs.Says.{FileForm, Says, SaysGraph, lines_through}
use Rattle.flow_program.specs.Example.{example_file}

-- the six lines of the file, of which the last is empty
abbrev all : List (List ℕ)
all = lines example_file

-- a degree, and none in single variables
abbrev total : ℕ → Degrees
total n = record { total = n; each = [] }

-- a line that isn't passed over is this one
good_at : (place : ℕ) (this : List ℕ) → slice_get all place ≡ Some this → IsGoodLine (said (take place all)) (line_of this) → IsGoodAt all place
good_at place this is good other there counts = subst (λ l. IsGoodLine (said (take place all)) (line_of l)) (same_Some this other (sym is ∙ there)) good

-- what stands behind the last line feed is passed over
idle : IsGoodAt all 5
idle other there counts = absurd (clash (subst (λ l. is_idle_at 5 l ≡ false) (sym (same_Some [] other there)) counts))
  where
    clash : true ≡ false → ⊥
    clash e = cc

good_each : (place : ℕ) → place < 6 → IsGoodAt all place
unfolding both_degrees
good_each zero low = good_at 0 (codes "flow 1") refl (refl, λ k text there. cc)
good_each (suc zero) low = good_at 1 (codes "graph main") refl (refl, λ k text there. cc)
good_each (suc (suc zero)) low = good_at 2 (codes "input x") refl (refl, λ k text there. cc)
good_each (suc (suc (suc zero))) low = good_at 3 (codes "output input") refl (refl, λ k text there. cc)
good_each (suc (suc (suc (suc zero)))) low = good_at 4 (codes "bounds all num 1 den 0") refl (refl, λ k text there. cc)
good_each (suc (suc (suc (suc (suc zero))))) low = idle
good_each (suc (suc (suc (suc (suc (suc n)))))) low = absurd (omega (arith, low))

pub good : IsGoodFile ForFunctions example_file
unfolding both_degrees
good = record { good = good_each; complete = refl }

-- the graph is its variable
abbrev pub example_graph : Graph
example_graph = record { name = codes "main"; inputs = codes "x" ∷ []; nodes = []; output = source.Input }

abbrev pub example_form : FileForm
example_form = record { graphs = example_graph ∷ []; points = []; all = Some (bounds_said 1 (total 1) (total 0)); special = []; coeff = coeff_or None }

graph_is : SaysGraph (lines_through 0 (said all)) example_graph
unfolding both_degrees
graph_is = record { named = refl; inputs = refl; names = refl; kinds = refl; output_is = refl; marks = λ k node there. cc }

says_graph : (k : ℕ) (graph : Graph) → slice_get (example_graph ∷ []) k ≡ Some graph → SaysGraph (lines_through k (said all)) graph
says_graph zero graph at = subst (SaysGraph (lines_through 0 (said all))) (same_Some example_graph graph at) graph_is
says_graph (suc k) graph at = cc

pub says : Says ForFunctions example_file example_form
unfolding both_degrees
says = record { counted = refl; says_graph = says_graph; points_are = refl; all_is = refl; special_are = refl; coeff_is = refl }
