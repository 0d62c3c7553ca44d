-- The main graph is the last of which something was learned.
use Rattle.std.proofs.Common.{◌-◌, List, length, sym, ◌∙◌, ap, subst, arith}
use Rattle.graph_file.specs.declared.graph.Graph.{Graph}
use Rattle.graph_eval.specs.declared.learned.GraphLearned.{GraphLearned}
use Rattle.graph_eval.specs.GraphValue.{main_number}
use Rattle.graph_eval.specs.Learned.{AreGraphs, CallEarlier}
use Rattle.graph_eval.specs.Needs.{words_below}
use Rattle.graph_eval.proofs.Fitting.{fits_known}
use Rattle.graph_eval.proofs.Wanted.{words_earlier}
use Rattle.graph_eval.proofs.needs.main_words.Goals as goal

pub words_of_each-words-requires-clause-sound : goal.words_of_each-words-requires-clause-sound
words_of_each-words-requires-clause-sound c = subst AreGraphs (sym c.as_slice-graphs.ensures) (record { graph = c.args.job.now.sound.graph })

pub words_of_each-words-requires-clause-earlier : goal.words_of_each-words-requires-clause-earlier
words_of_each-words-requires-clause-earlier c = subst CallEarlier (sym c.as_slice-graphs.ensures) (record { graph = c.args.job.now.sound.calls })

pub words_of_each-words-requires-clause-few : goal.words_of_each-words-requires-clause-few
words_of_each-words-requires-clause-few c = omega (arith, ap length c.all.ensures, c.requires.many, c.args.job.now.sound.bounded)

pub words_of_each-words-requires-clause-within : goal.words_of_each-words-requires-clause-within
words_of_each-words-requires-clause-within c = omega (arith, ap length c.all.ensures, c.requires.many, ap length c.as_slice-graphs.ensures)

pub words_of_each-words-requires-clause-fits : goal.words_of_each-words-requires-clause-fits
words_of_each-words-requires-clause-fits c = fits_known c.args.job.now.graphs c.args.learned.now c.as_slice-graphs.result.now c.all.result.now c.as_slice-graphs.ensures c.all.ensures c.requires

pub returns-clause-words : goal.returns-clause-words
returns-clause-words c =
    let graphs = c.args.job.now.graphs in
    let learned = c.args.learned.now in
    let number = c.as_slice-graphs.result.now in
    let told = c.words_of_each-words.ensures.words (length number - 1) in
    told
    ∙ ap (λ (gs : List Graph). words_below gs c.all.result.now (length c.all.result.now) (length gs - 1)) c.as_slice-graphs.ensures
    ∙ ap (λ (ls : List GraphLearned). words_below graphs ls (length ls) (main_number graphs)) c.all.ensures
    ∙ words_earlier graphs learned (length learned) (main_number graphs) (omega (arith, c.requires.many, c.args.job.now.sound.main))
