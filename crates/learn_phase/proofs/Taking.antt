-- The graphs of a file, learned one after the other.
use Rattle.std.proofs.Common.{◌≡◌, ℕ, ◌+◌, ◌<◌, List, [], ◌∷◌, ◌++◌, length, take, Some, Err, sym, ◌∙◌, ap, subst, length-append, arith, inl}
use Rattle.std.specs.Prelude.{slice_get}
use Rattle.std.proofs.lemmas.List.{take-append-le}
use Rattle.std.proofs.lemmas.Option.{slice_get_within}
use Rattle.std.proofs.Math.Seq.{take-length}
use Rattle.graph_file.specs.declared.graph.Graph.{Graph}
use Rattle.graph_file.specs.declared.job.Need.{Need}
use Rattle.graph_file.specs.Says.{FileForm}
use Rattle.graph_eval.specs.declared.learned.GraphLearned.{GraphLearned}
use Rattle.learn_phase.specs.declared.error.LearnError.{LearnError}
use Rattle.learn_phase.specs.declared.error.LearnError.TheVariants as error
use Rattle.learn_phase.specs.Answers.{FitsAnswer, FitsJob, Tells, TellsGraph}
use Rattle.learn_phase.specs.LearnedSets.{AllSingular, Broken, FirstLearn, GivesBehind, LearnsGraph, Place, Taught}
use Rattle.learn_phase.proofs.Places.{EachAt, with_last}

-- the graph with this number, behind these
abbrev pub behind : List Graph → List GraphLearned → ℕ → Place
behind graphs learned number = record { graphs = graphs; learned = learned; number = number }

-- what was learned of the graph with this number, over the first of these entries
abbrev LearnedOver : List Graph → List GraphLearned → ℕ → GraphLearned → Type 0
LearnedOver graphs all k entry = (graph : Graph) → slice_get graphs k ≡ Some graph → LearnsGraph (behind graphs (take k all) k) graph (Taught entry)

-- the next graph is learned
pub FirstLearn-more : (graphs : List Graph) (learned more : List GraphLearned) (count : ℕ) (graph : Graph) (added : GraphLearned) → FirstLearn graphs learned count → slice_get graphs count ≡ Some graph → LearnsGraph (behind graphs learned count) graph (Taught added)
    → more ≡ learned ++ added ∷ [] → FirstLearn graphs more (count + 1)
unfolding EachAt
FirstLearn-more graphs learned more count graph added first is new joined =
    let all = learned ++ added ∷ [] in
    let earlier : EachAt (LearnedOver graphs all) learned = λ k entry at this here.
    let below : k < length learned = slice_get_within learned k entry at in
    subst (λ (ls : List GraphLearned). LearnsGraph (behind graphs ls k) this (Taught entry)) (sym (take-append-le k learned (added ∷ []) (omega arith))) (first.each k this entry here at) in
    let last : LearnedOver graphs all (length learned) added = λ this here.
    let both : Some graph ≡ Some this = sym is ∙ ap (slice_get graphs) (sym first.many) ∙ here in
    let same : graph ≡ this = cc in
    let before : learned ≡ take (length learned) all = sym (take-append-le (length learned) learned (added ∷ []) (omega arith) ∙ take-length learned) in
    subst (λ (g : Graph). LearnsGraph (behind graphs (take (length learned) all) (length learned)) g (Taught added)) same
    (subst (λ (ls : List GraphLearned). LearnsGraph (behind graphs ls (length learned)) graph (Taught added)) before
    (subst (λ (n : ℕ). LearnsGraph (behind graphs learned n) graph (Taught added)) (sym first.many) new)) in
    let each : EachAt (LearnedOver graphs all) all = with_last (LearnedOver graphs all) learned added earlier last in
    subst (λ (ls : List GraphLearned). FirstLearn graphs ls (count + 1)) (sym joined) (record {
      many = length-append learned (added ∷ []) ∙ ap (λ n. n + 1) first.many;
      each = λ k this entry here at. each k entry at this here;
    })

-- a graph that can't be learned stops the learning
pub stopped : (need : Need) (form : FileForm) (learned : List GraphLearned) (number : ℕ) (graph : Graph) (why : LearnError) → FirstLearn form.graphs learned number → slice_get form.graphs number ≡ Some graph
    → TellsGraph (behind form.graphs learned number) graph (Err why) → Tells need form (Err why)
stopped need form learned number graph (error.NoLearningPoint told singular) first is tells =
    subst (λ (n : ℕ). GivesBehind form.graphs n (AllSingular singular)) (sym tells.0) (record { learned = learned; before = first; graph = graph; is_graph = is; gives = tells.1 })
stopped need form learned number graph (error.Length told node) first is tells =
    inl (subst (λ (n : ℕ). GivesBehind form.graphs n (Broken node)) (sym tells.0) (record { learned = learned; before = first; graph = graph; is_graph = is; gives = tells.1 }))
stopped need form learned number graph error.NoMemory first is tells = tt

pub stopped_fits : (need : Need) (form : FileForm) (learned : List GraphLearned) (number : ℕ) (graph : Graph) (why : LearnError) → slice_get form.graphs number ≡ Some graph
    → FitsAnswer (behind form.graphs learned number) graph (Err why) → FitsJob need form (Err why)
stopped_fits need form learned number graph (error.NoLearningPoint told singular) is fits = (graph, ap (slice_get form.graphs) fits.0 ∙ is, fits.1)
stopped_fits need form learned number graph (error.Length told node) is fits = (graph, ap (slice_get form.graphs) fits ∙ is)
stopped_fits need form learned number graph error.NoMemory is fits = tt
