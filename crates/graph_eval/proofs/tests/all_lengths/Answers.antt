-- The next graph's lengths join the rest.
use Rattle.graph_eval.proofs.Fitting.{FitsFirst-more}
use Rattle.graph_eval.proofs.tests.all_lengths.Goals as goal

pub loop-number-preserved : goal.loop-number-preserved
loop-number-preserved c =
    let graphs = c.args.job.now.graphs in
    let measured = rw c.in-Learned.is at c.in_ok-entry.ensures in
    FitsFirst-more graphs c.loop-number.learned c.add.new.self c.loop-number.number measured.0 c.in-Learned.entry c.loop-number.invariant measured.1 measured.2.1 c.in_ok-add.ensures.ok
