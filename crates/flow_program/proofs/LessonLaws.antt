-- The lines of graphs that were learned, one graph after another.
use Rattle.std.proofs.Common.{◌≡◌, ℕ, zero, suc, ◌+◌, List, [], ◌∷◌, ◌++◌, drop, Some, sym, ◌∙◌, ap, append_assoc, add-one}
use Rattle.std.specs.Prelude.{slice_get}
use Rattle.graph_file.specs.declared.graph.Graph.{Graph}
use Rattle.graph_eval.specs.declared.learned.GraphLearned.{GraphLearned}
use Rattle.flow_program.specs.Lessons.{graph_lines, lessons}

lessons_at : (graphs : List Graph) (learned : List GraphLearned) (k : ℕ) (graph : Graph) (entry : GraphLearned) → slice_get graphs k ≡ Some graph → slice_get learned k ≡ Some entry
    → lessons (drop k graphs) (drop k learned) ≡ graph_lines graph entry ++ lessons (drop (suc k) graphs) (drop (suc k) learned)
lessons_at [] learned k graph entry at here = cc
lessons_at (g ∷ graphs) [] k graph entry at here = cc
lessons_at (g ∷ graphs) (e ∷ learned) zero graph entry at here =
    let same : g ≡ graph = cc in
    let one : e ≡ entry = cc in
    ap (λ x. graph_lines x e ++ lessons graphs learned) same ∙ ap (λ x. graph_lines graph x ++ lessons graphs learned) one
lessons_at (g ∷ graphs) (e ∷ learned) (suc k) graph entry at here = lessons_at graphs learned k graph entry at here

-- behind the text stand the lines of the graphs that are left, and the next are written
pub lessons-more : (graphs : List Graph) (learned : List GraphLearned) (k : ℕ) (graph : Graph) (entry : GraphLearned) (text more all : List ℕ) → slice_get graphs k ≡ Some graph → slice_get learned k ≡ Some entry
    → text ++ lessons (drop k graphs) (drop k learned) ≡ all → more ≡ text ++ graph_lines graph entry → more ++ lessons (drop (k + 1) graphs) (drop (k + 1) learned) ≡ all
lessons-more graphs learned k graph entry text more all at here so_far joined =
    ap (λ n. more ++ lessons (drop n graphs) (drop n learned)) (add-one k)
    ∙ ap (λ t. t ++ lessons (drop (suc k) graphs) (drop (suc k) learned)) joined
    ∙ append_assoc text (graph_lines graph entry) (lessons (drop (suc k) graphs) (drop (suc k) learned))
    ∙ ap (λ t. text ++ t) (sym (lessons_at graphs learned k graph entry at here)) ∙ so_far
