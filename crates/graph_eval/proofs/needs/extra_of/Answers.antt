-- The graph that is called is an earlier one.
use Rattle.std.proofs.Common.{◌≡◌, ◌+◌, Some, inl, inr, refl, sym, ◌∙◌, ap}
use Rattle.std.specs.Prelude.{slice_get, slice_index, slice_index_or}
use Rattle.graph_file.specs.Sound.{called_graph}
use Rattle.graph_eval.specs.declared.learned.GraphLearned.{GraphLearned}
use Rattle.graph_eval.specs.Needs.{expansion_words, extra_of, output_at}
use Rattle.graph_eval.proofs.Places.{read_at}
use Rattle.graph_eval.proofs.needs.extra_of.Goals as goal

pub bounds-words-graph-in-Call : goal.bounds-words-graph-in-Call
bounds-words-graph-in-Call c = elim c.in-Call.is [
  | inl call ↦ c.requires.there c.in-Call.graph (ap called_graph call.1)
  | inr other ↦ elim other [
    | inl memo ↦ c.requires.there c.in-Call.graph (ap called_graph memo.1)
    | inr mapped ↦ c.requires.there c.in-Call.graph (ap called_graph mapped.1)
  ]
]

pub bounds-words-graph : goal.bounds-words-graph
bounds-words-graph c = c.requires.there c.in-Laurent.graph (ap called_graph c.in-Laurent.is)

pub bounds-learned-graph-in-Laurent : goal.bounds-learned-graph-in-Laurent
bounds-learned-graph-in-Laurent c = c.requires.known c.in-Laurent.graph (ap called_graph c.in-Laurent.is)

pub returns-in-Laurent : goal.returns-in-Laurent
returns-in-Laurent c =
    let learned = c.args.learned.now in
    let graph = c.in-Laurent.graph in
    let points = c.in-Laurent.num + c.in-Laurent.den + 3 in
    let entry = slice_index_or learned graph c.index-learned-graph.result in
    let entry_is : slice_get learned graph ≡ Some entry =
    read_at learned learned graph c.index-learned-graph.result refl (c.requires.known graph (ap called_graph c.in-Laurent.is)) c.index-learned-graph.is ∙ ap (λ (e : GraphLearned). Some e) c.index-learned-graph.is in
    ap (λ n. slice_index c.args.words.now graph + n) (c.expansion_words.ensures.words ∙ ap (λ o. expansion_words points (output_at o)) (sym entry_is))
    ∙ sym (ap (extra_of (slice_index c.args.words.now) learned) c.in-Laurent.is)

pub bounds-learned-graph : goal.bounds-learned-graph
bounds-learned-graph c = c.requires.known c.in-Laurent.graph (ap called_graph c.in-Laurent.is)
