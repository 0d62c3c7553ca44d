-- One graph's words more.
use Rattle.std.proofs.Common.{◌≡◌, ◌+◌, ◌*◌, length, take, refl, ◌∙◌, ap, arith}
use Rattle.graph_eval.specs.Learned.{sizes_of}
use Rattle.graph_eval.specs.Needs.{words_below}
use Rattle.graph_eval.proofs.Places.{read_at}
use Rattle.graph_eval.proofs.Wanted.{index_none, outputs_low, set_bound, words_more}
use Rattle.graph_eval.proofs.needs.words_of_each.Goals as goal

pub loop-number-init : goal.loop-number-init
loop-number-init c = record { each = λ k. index_none 64 k; bound = λ k. omega (arith, index_none 64 k) }

pub graph_words-requires-clause-sound : goal.graph_words-requires-clause-sound
graph_words-requires-clause-sound c =
    let number = c.loop-number.number in
    let graph = c.index-graphs-number.result in
    c.requires.sound.graph number graph (read_at c.args.graphs.now c.args.graphs.now number graph refl (omega (arith, c.loop-number-test.true, c.requires.within)) c.index-graphs-number.is)

pub graph_words-requires-clause-there : goal.graph_words-requires-clause-there
graph_words-requires-clause-there c =
    let number = c.loop-number.number in
    let graph = c.index-graphs-number.result in
    let is = read_at c.args.graphs.now c.args.graphs.now number graph refl (omega (arith, c.loop-number-test.true, c.requires.within)) c.index-graphs-number.is in
    λ k node called at some. let below = c.requires.earlier.graph number graph is k node called at some in omega (arith, below, c.loop-number-test.true, c.requires.few)

pub graph_words-requires-clause-known : goal.graph_words-requires-clause-known
graph_words-requires-clause-known c =
    let number = c.loop-number.number in
    let graph = c.index-graphs-number.result in
    let is = read_at c.args.graphs.now c.args.graphs.now number graph refl (omega (arith, c.loop-number-test.true, c.requires.within)) c.index-graphs-number.is in
    λ k node called at some. let below = c.requires.earlier.graph number graph is k node called at some in omega (arith, below, c.loop-number-test.true)

pub graph_words-requires-clause-outputs : goal.graph_words-requires-clause-outputs
graph_words-requires-clause-outputs c = outputs_low c.args.graphs.now c.args.learned.now c.requires.sound c.requires.fits c.requires.within

pub graph_words-requires-clause-fits : goal.graph_words-requires-clause-fits
graph_words-requires-clause-fits c =
    let number = c.loop-number.number in
    let graph = c.index-graphs-number.result in
    let is = read_at c.args.graphs.now c.args.graphs.now number graph refl (omega (arith, c.loop-number-test.true, c.requires.within)) c.index-graphs-number.is in
    let entry_is = read_at c.args.learned.now c.args.learned.now number c.index-learned-number.result refl c.loop-number-test.true c.index-learned-number.is in
    (sizes_of c.args.graphs.now (take number c.args.learned.now), c.requires.fits.each number graph c.index-learned-number.result is entry_is)

pub graph_words-requires-clause-bound : goal.graph_words-requires-clause-bound
graph_words-requires-clause-bound c = λ k. omega (arith, c.loop-number.invariant.bound k, c.loop-number-test.true, c.requires.few)

pub loop-number-preserved : goal.loop-number-preserved
loop-number-preserved c =
    let number = c.loop-number.number in
    let graph = c.index-graphs-number.result in
    let entry = c.index-learned-number.result in
    let is = read_at c.args.graphs.now c.args.graphs.now number graph refl (omega (arith, c.loop-number-test.true, c.requires.within)) c.index-graphs-number.is in
    let entry_is = read_at c.args.learned.now c.args.learned.now number entry refl c.loop-number-test.true c.index-learned-number.is in
    let words = c.loop-number.words in
    let own = c.graph_words.ensures.bound (number * 18154826761665 + 16801800) (omega arith) c.loop-number.invariant.bound in
    record {
      each = words_more c.args.graphs.now c.args.learned.now words number c.graph_words.result graph entry is entry_is (omega (arith, c.loop-number-test.true, c.requires.few)) c.loop-number.invariant.each c.graph_words.ensures.words;
      bound = λ k. set_bound words number c.graph_words.result ((number + 1) * 18154826761665 + 16801800) (omega (arith, own)) (λ j. omega (arith, c.loop-number.invariant.bound j)) k;
    }

pub returns-clause-words : goal.returns-clause-words
returns-clause-words c = λ k. c.loop-number.invariant.each k ∙ ap (λ n. words_below c.args.graphs.now c.args.learned.now n k) (let all : c.loop-number.number ≡ length c.args.learned.now = omega (arith, c.loop-number-test.false, c.loop-number.auto.number-end) in all)

pub returns-clause-bound : goal.returns-clause-bound
returns-clause-bound c = λ k. omega (arith, c.loop-number.invariant.bound k, c.loop-number.auto.number-end, c.requires.few)
