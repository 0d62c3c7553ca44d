-- Lists are small, and no node wants more than the most that systems and earlier graphs want.
use Rattle.std.proofs.Common.{arith}
use Rattle.std.specs.Prelude.{slice_index}
use Rattle.graph_eval.proofs.Wanted.{greatest_extra_bound}
use Rattle.graph_eval.proofs.needs.graph_words.Goals as goal

pub overflow_add-result-2 : goal.overflow_add-result-2
overflow_add-result-2 c =
    let most = greatest_extra_bound (slice_index c.args.words.now) c.args.learned.now 1152921504606846976 (omega arith) c.requires.bound c.requires.outputs c.args.graph.now c.requires.sound in
    omega (arith, c.len.ensures, c.requires.sound.few, c.total_of-own.ensures.bound, c.greatest_extra.ensures, most)

pub returns-clause-bound : goal.returns-clause-bound
returns-clause-bound c = λ limit large each.
    let most = greatest_extra_bound (slice_index c.args.words.now) c.args.learned.now limit large each c.requires.outputs c.args.graph.now c.requires.sound in
    omega (arith, c.len.ensures, c.requires.sound.few, c.total_of-own.ensures.bound, c.greatest_extra.ensures, most)
