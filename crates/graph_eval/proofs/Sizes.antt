-- The sizes of the first graphs of a file.
use Rattle.std.proofs.Common.{◌≡◌, ℕ, zero, suc, ◌+◌, List, [], ◌∷◌, ◌++◌, take, Some, ◌∙◌, ap, add-one, arith}
use Rattle.std.specs.Prelude.{slice_get}
use Rattle.std.proofs.lemmas.Option.{slice_get_within}
use Rattle.graph_file.specs.declared.graph.Graph.{Graph}
use Rattle.graph_eval.specs.declared.learned.GraphLearned.{GraphLearned}
use Rattle.graph_eval.specs.Learned.{size_of, sizes_of}

more : (graphs : List Graph) (learned : List GraphLearned) (count : ℕ) (graph : Graph) (entry : GraphLearned) → slice_get graphs count ≡ Some graph → slice_get learned count ≡ Some entry → sizes_of graphs (take (suc count) learned) ≡ sizes_of graphs (take count learned) ++ size_of graph entry ∷ []
more graphs [] count graph entry is entry_is = absurd (omega (arith, slice_get_within [] count entry entry_is))
more [] (first ∷ learned) count graph entry is entry_is = absurd (omega (arith, slice_get_within [] count graph is))
more (front ∷ graphs) (first ∷ learned) zero graph entry is entry_is =
    let same : front ≡ graph = cc in
    let entries : first ≡ entry = cc in
    ap (λ g. size_of g first ∷ []) same ∙ ap (λ e. size_of graph e ∷ []) entries
more (front ∷ graphs) (first ∷ learned) (suc count) graph entry is entry_is = ap (λ sizes. size_of front first ∷ sizes) (more graphs learned count graph entry is entry_is)

-- one graph more
pub sizes-more : (graphs : List Graph) (learned : List GraphLearned) (count : ℕ) (graph : Graph) (entry : GraphLearned) → slice_get graphs count ≡ Some graph → slice_get learned count ≡ Some entry → sizes_of graphs (take (count + 1) learned) ≡ sizes_of graphs (take count learned) ++ size_of graph entry ∷ []
sizes-more graphs learned count graph entry is entry_is = ap (λ n. sizes_of graphs (take n learned)) (add-one count) ∙ more graphs learned count graph entry is entry_is
