-- The tables of a file's graphs, one after the other.
use Rattle.std.proofs.Common.{◌≡◌, ℕ, ◌+◌, ◌<◌, List, [], ◌∷◌, ◌++◌, length, Some, refl, sym, ◌∙◌, ap, length-append, arith, inl, inr}
use Rattle.std.specs.Prelude.{slice_get, slice_index_or}
use Rattle.std.proofs.lemmas.Bool.{cases_eq}
use Rattle.std.proofs.lemmas.Option.{slice_get_within}
use Rattle.std.proofs.Math.Seq.{get_or-append_seam}
use Rattle.std.proofs.Math.ListN.{get_or-append}
use Rattle.graph_file.specs.declared.graph.Graph.{Graph}
use Rattle.graph_eval.specs.declared.learned.GraphLearned.{GraphLearned}
use Rattle.graph_eval.specs.Needs.{AreTables}
use Rattle.graph_eval.specs.Reading.{places_of}

-- the first so many graphs have their tables
pub record TablesSoFar (graphs : List Graph) (learned : List GraphLearned) (tables : List (List ℕ)) (count : ℕ) : Type 0 where
  pub many : length tables ≡ count
  pub each : (k : ℕ) (graph : Graph) (entry : GraphLearned) → k < count → slice_get graphs k ≡ Some graph → slice_get learned k ≡ Some entry → slice_index_or tables k [] ≡ places_of (length graph.inputs) entry.lengths

pub tables_none : (graphs : List Graph) (learned : List GraphLearned) → TablesSoFar graphs learned [] 0
tables_none graphs learned = record { many = refl; each = λ k graph entry below. absurd (omega arith) }

-- one table more
pub tables_more : (graphs : List Graph) (learned : List GraphLearned) (tables more : List (List ℕ)) (count : ℕ) (graph : Graph) (entry : GraphLearned) (table : List ℕ) → TablesSoFar graphs learned tables count → slice_get graphs count ≡ Some graph → slice_get learned count ≡ Some entry
    → table ≡ places_of (length graph.inputs) entry.lengths → more ≡ tables ++ table ∷ [] → TablesSoFar graphs learned more (count + 1)
tables_more graphs learned tables more count graph entry table so_far is entry_is table_is joined = record {
  many = ap length joined ∙ length-append tables (table ∷ []) ∙ ap (λ n. n + 1) so_far.many;
  each = λ k other theirs below at here. elim (cases_eq k count) [
    | inl e ↦
        let both : Some graph ≡ Some other = sym is ∙ ap (slice_get graphs) (sym e) ∙ at in
        let same : graph ≡ other = cc in
        let entries : Some entry ≡ Some theirs = sym entry_is ∙ ap (slice_get learned) (sym e) ∙ here in
        let entry_same : entry ≡ theirs = cc in
        ap (λ ts. slice_index_or ts k []) joined ∙ ap (λ n. slice_index_or (tables ++ table ∷ []) n []) (e ∙ sym so_far.many) ∙ get_or-append_seam tables table [] []
        ∙ table_is ∙ ap (λ (g : Graph). places_of (length g.inputs) entry.lengths) same ∙ ap (λ (l : GraphLearned). places_of (length other.inputs) l.lengths) entry_same
    | inr ne ↦
        ap (λ ts. slice_index_or ts k []) joined ∙ get_or-append tables (table ∷ []) [] k (omega (arith, so_far.many)) ∙ so_far.each k other theirs (omega arith) at here
  ];
}

pub tables_all : (graphs : List Graph) (learned : List GraphLearned) (tables : List (List ℕ)) (count : ℕ) → TablesSoFar graphs learned tables count → count ≡ length learned → AreTables graphs learned tables
tables_all graphs learned tables count so_far all = record { many = so_far.many ∙ all; each = λ k graph entry at here. so_far.each k graph entry (omega (arith, slice_get_within learned k entry here)) at here }
