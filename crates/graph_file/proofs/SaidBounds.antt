-- What a file says of bounds is sound.
use Rattle.std.proofs.Common.{◌≡◌, ◌∙◌, ℕ, true, List, length, Option, sym, subst, arith}
use Rattle.std.proofs.lemmas.List.{take_all}
use Rattle.poly_maps.specs.declared.bound.Bounds.{Bounds}
use Rattle.rational_lift.specs.declared.coeff.Coeff.{Coeff}
use Rattle.graph_file.specs.declared.job.Need.{Need}
use Rattle.graph_file.specs.declared.job.Special.{Special}
use Rattle.graph_file.specs.declared.line.Line.{Line}
use Rattle.graph_file.specs.Bounded.{HasBounds}
use Rattle.graph_file.specs.Bounding.{all_in, coeff_in, coeff_or, special_in}
use Rattle.graph_file.specs.File.{IsGoodFile, said}
use Rattle.graph_file.specs.Lines.{lines}
use Rattle.graph_file.specs.Read.{AreGoodLines}
use Rattle.graph_file.specs.Says.{FileForm, Says}
use Rattle.graph_file.specs.Facts.{has_output}
use Rattle.graph_file.specs.Reader.{is_ended, last_of}
use Rattle.graph_file.proofs.BoundLemmas.{output_stands, said-bounds}
use Rattle.graph_file.proofs.GraphLemmas.{HasMain, main-graph, some-graph}
use Rattle.graph_file.proofs.Passes.{ended_of}
use Rattle.graph_file.proofs.SoundLemmas.{input_with_output, named_with_input}
use Rattle.graph_file.proofs.FileLemmas.{good-lines}

pub good-file-lines : (need : Need) (bytes : List ℕ) → IsGoodFile need bytes → AreGoodLines (said (lines bytes))
good-file-lines need bytes good =
    subst (λ (l : List (List ℕ)). AreGoodLines (said l)) (take_all (length (lines bytes)) (lines bytes) (omega arith)) (good-lines (lines bytes) (length (lines bytes)) (omega arith) good.good)

-- a good file has a main graph
pub main-said : (need : Need) (bytes : List ℕ) (f : FileForm) → IsGoodFile need bytes → Says need bytes f → HasMain (said (lines bytes)) f.graphs
main-said need bytes f good says =
    let all : List Line = said (lines bytes) in
    let stood : has_output all ≡ true = output_stands need all good.complete in
    let ended : is_ended (last_of all) ≡ true = sym (ended_of all) ∙ stood in
    main-graph all f.graphs (some-graph all (good-file-lines need bytes good) (named_with_input (last_of all) (input_with_output (last_of all) ended))) says.counted says.says_graph

pub bounds-of-said : (need : Need) (bytes : List ℕ) (f : FileForm) → IsGoodFile need bytes → Says need bytes f → HasBounds f.graphs f.all f.special f.coeff need
bounds-of-said need bytes f good says =
    let all : List Line = said (lines bytes) in
    let main : HasMain all f.graphs = main-said need bytes f good says in
    let has : HasBounds f.graphs (all_in all) (special_in all) (coeff_or (coeff_in all)) need = said-bounds need all f.graphs main.graph (good-file-lines need bytes good) good.complete main.there main.says.inputs in
    subst (λ (a : Option Bounds). HasBounds f.graphs a f.special f.coeff need) (sym says.all_is)
    (subst (λ (s : List Special). HasBounds f.graphs (all_in all) s f.coeff need) (sym says.special_are)
    (subst (λ (c : Coeff). HasBounds f.graphs (all_in all) (special_in all) c need) (sym says.coeff_is) has))
