-- Where memos keep their words, one behind the other.
use Rattle.std.proofs.Common.{◌≡◌, ℕ, zero, suc, ◌+◌, ◌≤◌, ◌⊎◌, List, [], ◌∷◌, ◌++◌, length, drop, Some, None, inl, inr, refl, sym, ◌∙◌, ap, subst, add-one, arith}
use Rattle.std.specs.Prelude.{slice_get}
use Rattle.std.proofs.lemmas.Option.{get_or_from_slice_get, slice_get_within}
use Rattle.std.proofs.Math.Seq.{drop-cons}
use Rattle.graph_file.specs.declared.graph.Graph.{Graph}
use Rattle.graph_file.specs.declared.graph.Node.{Node}
use Rattle.graph_eval.specs.declared.learned.GraphLearned.{GraphLearned}
use Rattle.graph_eval.specs.declared.memos.MemoFrame.{MemoFrame}
use Rattle.graph_eval.specs.Memos.{AreFrames, FitsFrame, frame_end}
use Rattle.graph_eval.specs.Needs.{graphs_kept, node_kept, nodes_kept}

-- what stands in a list to which one entry was added
pushed_at : {X : Type 0} (xs : List X) (added x : X) (k : ℕ) → slice_get (xs ++ added ∷ []) k ≡ Some x → (slice_get xs k ≡ Some x) ⊎ ((k ≡ length xs) × (x ≡ added))
pushed_at [] added x zero at = let same : x ≡ added = cc in inr (refl, same)
pushed_at [] added x (suc k) at = absurd (let never : None ≡ Some x = at in cc)
pushed_at (y ∷ xs) added x zero at = inl at
pushed_at (y ∷ xs) added x (suc k) at = elim (pushed_at xs added x k at) [
  | inl there ↦ inl there
  | inr last ↦ inr (ap suc last.0, last.1)
]

pub frames_none : (graphs : List Graph) (learned : List GraphLearned) → AreFrames graphs learned [] 0
frames_none graphs learned = record {
  stand = record { within = λ i frame is. cc; apart = λ i j first second before is. cc };
  fit = record { each = λ i frame is. cc };
}

-- more words
pub frames_longer : (graphs : List Graph) (learned : List GraphLearned) (frames : List MemoFrame) (count more : ℕ) → count ≤ more → AreFrames graphs learned frames count → AreFrames graphs learned frames more
frames_longer graphs learned frames count more longer are = record {
  stand = record { within = λ i frame is. let end = are.stand.within i frame is in omega arith; apart = are.stand.apart };
  fit = are.fit;
}

-- one memo more
pub frames_more : (graphs : List Graph) (learned : List GraphLearned) (frames more : List MemoFrame) (count end : ℕ) (frame : MemoFrame) → AreFrames graphs learned frames count → frame.at ≡ count → end ≡ frame_end frame → FitsFrame graphs learned frame → more ≡ frames ++ frame ∷ [] → AreFrames graphs learned more end
frames_more graphs learned frames more count end frame are at_is end_is fits joined =
    subst (λ (fs : List MemoFrame). AreFrames graphs learned fs end) (sym joined) (record {
      stand = record {
        within = λ i other is. elim (pushed_at frames frame other i is) [
          | inl there ↦ let low = are.stand.within i other there in omega arith
          | inr last ↦ let same = ap frame_end last.1 in omega (arith, same)
        ];
        apart = λ i j first second before is other_is. elim (pushed_at frames frame second j other_is) [
          | inl there ↦ elim (pushed_at frames frame first i is) [
            | inl here ↦ are.stand.apart i j first second before here there
            | inr last ↦ absurd (omega (arith, last.0, before, slice_get_within frames j second there))
          ]
          | inr behind ↦ elim (pushed_at frames frame first i is) [
            | inl here ↦ let low = are.stand.within i first here in let same = ap (λ (f : MemoFrame). f.at) behind.1 in omega arith
            | inr last ↦ absurd (omega (arith, last.0, behind.0, before))
          ]
        ];
      };
      fit = record {
        each = λ i other is. elim (pushed_at frames frame other i is) [
          | inl there ↦ are.fit.each i other there
          | inr last ↦ subst (FitsFrame graphs learned) (sym last.1) fits
        ];
      };
    })

-- a node's words and those of the nodes behind it
pub nodes_drop : (graphs : List Graph) (learned : List GraphLearned) (nodes : List Node) (k : ℕ) (node : Node) → slice_get nodes k ≡ Some node → nodes_kept graphs learned (drop k nodes) ≡ node_kept graphs learned node + nodes_kept graphs learned (drop (k + 1) nodes)
nodes_drop graphs learned nodes k node is =
    ap (nodes_kept graphs learned) (drop-cons nodes k node (slice_get_within nodes k node is)) ∙ ap (λ n. node_kept graphs learned n + nodes_kept graphs learned (drop (suc k) nodes)) (get_or_from_slice_get nodes k node node is)
    ∙ ap (λ n. node_kept graphs learned node + nodes_kept graphs learned (drop n nodes)) (sym (add-one k))

pub nodes_past : (graphs : List Graph) (learned : List GraphLearned) (nodes : List Node) (k : ℕ) → length nodes ≤ k → nodes_kept graphs learned (drop k nodes) ≡ 0
nodes_past graphs learned [] zero past = refl
nodes_past graphs learned [] (suc k) past = refl
nodes_past graphs learned (first ∷ nodes) zero past = absurd (omega arith)
nodes_past graphs learned (first ∷ nodes) (suc k) past = nodes_past graphs learned nodes k (omega arith)

-- the same of graphs
pub graphs_drop : (all : List Graph) (learned : List GraphLearned) (graphs : List Graph) (k : ℕ) (graph : Graph) → slice_get graphs k ≡ Some graph → graphs_kept all learned (drop k graphs) ≡ nodes_kept all learned graph.nodes + graphs_kept all learned (drop (k + 1) graphs)
graphs_drop all learned graphs k graph is =
    ap (graphs_kept all learned) (drop-cons graphs k graph (slice_get_within graphs k graph is)) ∙ ap (λ (g : Graph). nodes_kept all learned g.nodes + graphs_kept all learned (drop (suc k) graphs)) (get_or_from_slice_get graphs k graph graph is)
    ∙ ap (λ n. nodes_kept all learned graph.nodes + graphs_kept all learned (drop n graphs)) (sym (add-one k))

pub graphs_past : (all : List Graph) (learned : List GraphLearned) (graphs : List Graph) (k : ℕ) → length graphs ≤ k → graphs_kept all learned (drop k graphs) ≡ 0
graphs_past all learned [] zero past = refl
graphs_past all learned [] (suc k) past = refl
graphs_past all learned (first ∷ graphs) zero past = absurd (omega arith)
graphs_past all learned (first ∷ graphs) (suc k) past = graphs_past all learned graphs k (omega arith)
