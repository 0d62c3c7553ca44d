-- What was learned of a file's graphs, one graph after the other.
use Rattle.std.proofs.Common.{◌≡◌, ℕ, zero, suc, ◌+◌, ◌<◌, List, [], ◌∷◌, ◌++◌, length, take, Option, Some, None, refl, sym, ◌∙◌, ap, subst, length-append, arith, inl, inr}
use Rattle.std.specs.Prelude.{slice_get}
use Rattle.std.proofs.lemmas.Bool.{cases_eq}
use Rattle.std.proofs.lemmas.Option.{slice_get_within}
use Rattle.std.proofs.lemmas.List.{take-append-le}
use Rattle.std.proofs.Math.Seq.{take-append_seam}
use Rattle.graph_file.specs.declared.graph.Graph.{Graph}
use Rattle.graph_file.specs.Sound.{IsJob}
use Rattle.graph_eval.specs.Evaluated.{HasInputs}
use Rattle.graph_eval.specs.GraphValue.{main_number}
use Rattle.graph_eval.specs.declared.learned.GraphLearned.{GraphLearned}
use Rattle.graph_eval.specs.Learned.{FitsFirst, FitsGraph, sizes_of}
use Rattle.graph_eval.proofs.Places.{stands}

-- nothing is learned yet
pub FitsFirst-none : (graphs : List Graph) → FitsFirst graphs [] 0
FitsFirst-none graphs = record { many = refl; each = λ k graph entry at here. absurd (omega (arith, slice_get_within [] k entry here)) }

-- what stands in a list stands there too when more is added at its end, and what is added stands at the end
before_end : {X : Type 0} (xs : List X) (added x : X) (k : ℕ) → k < length xs → slice_get (xs ++ added ∷ []) k ≡ Some x → slice_get xs k ≡ Some x
before_end [] added x k below at = absurd (omega arith)
before_end (y ∷ xs) added x zero below at = at
before_end (y ∷ xs) added x (suc k) below at = before_end xs added x k (omega arith) at

at_end : {X : Type 0} (xs : List X) (added x : X) → slice_get (xs ++ added ∷ []) (length xs) ≡ Some x → added ≡ x
at_end [] added x at = cc
at_end (y ∷ xs) added x at = at_end xs added x at

-- what was learned of the next graph joins the rest
pub FitsFirst-more : (graphs : List Graph) (learned more : List GraphLearned) (count : ℕ) (graph : Graph) (added : GraphLearned) → FitsFirst graphs learned count → slice_get graphs count ≡ Some graph → FitsGraph (sizes_of graphs learned) graph added
    → more ≡ learned ++ added ∷ [] → FitsFirst graphs more (count + 1)
FitsFirst-more graphs learned more count graph added fits is new joined = record {
  many = ap length joined ∙ length-append learned (added ∷ []) ∙ ap (λ n. n + 1) fits.many;
  each = λ k other entry at here.
      let there : slice_get (learned ++ added ∷ []) k ≡ Some entry = ap (λ (ls : List GraphLearned). slice_get ls k) (sym joined) ∙ here in
      elim (cases_eq k (length learned)) [
        | inl e ↦
            let entry_is : added ≡ entry = at_end learned added entry (ap (slice_get (learned ++ added ∷ [])) (sym e) ∙ there) in
            let both : Some graph ≡ Some other = sym is ∙ ap (slice_get graphs) (sym (e ∙ fits.many)) ∙ at in
            let graph_is : graph ≡ other = cc in
            let before : take k more ≡ learned = ap (take k) joined ∙ ap (λ n. take n (learned ++ added ∷ [])) e ∙ take-append_seam learned (added ∷ []) in
            subst (λ (ls : List GraphLearned). FitsGraph (sizes_of graphs ls) other entry) (sym before)
            (subst (λ (g : Graph). FitsGraph (sizes_of graphs learned) g entry) graph_is (subst (FitsGraph (sizes_of graphs learned) graph) entry_is new))
        | inr ne ↦
            let within : k < length (learned ++ added ∷ []) = slice_get_within (learned ++ added ∷ []) k entry there in
            let below : k < length learned = omega (arith, length-append learned (added ∷ [])) in
            let before : take k more ≡ take k learned = ap (take k) joined ∙ take-append-le k learned (added ∷ []) (omega arith) in
            subst (λ (ls : List GraphLearned). FitsGraph (sizes_of graphs ls) other entry) (sym before) (fits.each k other entry at (before_end learned added entry k below there))
      ];
}

-- each point of a job has an entry for each variable of the main graph
pub point_inputs : (graphs : List Graph) (points : List (List ℕ)) (k : ℕ) (point : List ℕ) → IsJob graphs points → slice_get points k ≡ Some point → HasInputs (slice_get graphs (main_number graphs)) point
point_inputs graphs points k point sound at = at_main (slice_get graphs (main_number graphs)) refl
  where
    at_main : (main : Option Graph) → slice_get graphs (main_number graphs) ≡ main → HasInputs main point
    at_main None none = let there = stands graphs (main_number graphs) (omega (arith, sound.main)) in let both : Some there.0 ≡ None = sym there.1 ∙ none in cc
    at_main (Some graph) is = sound.entries k point graph at is

-- what was learned of so many graphs was learned of as many as there are entries
pub fits_known : {count : ℕ} (graphs : List Graph) (learned : List GraphLearned) (shown : List Graph) (known : List GraphLearned) → shown ≡ graphs → known ≡ learned → FitsFirst graphs learned count → FitsFirst shown known (length known)
fits_known graphs learned shown known shown_is known_is fits =
    subst (λ (gs : List Graph). FitsFirst gs known (length known)) (sym shown_is)
    (subst (λ (ls : List GraphLearned). FitsFirst graphs ls (length ls)) (sym known_is) (record { many = refl; each = fits.each }))
