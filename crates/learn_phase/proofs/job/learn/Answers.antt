-- The graphs are learned one after the other, and the first that can't be learned is told.
use Rattle.std.proofs.Common.{arith}
use Rattle.std.proofs.lemmas.Result.{err_from_is_err_and}
use Rattle.graph_eval.proofs.Fitting.{FitsFirst-more}
use Rattle.graph_eval.proofs.Places.{stands}
use Rattle.graph_file.specs.Says.{form}
use Rattle.learn_phase.proofs.Taking.{FirstLearn-more, stopped, stopped_fits}
use Rattle.learn_phase.proofs.job.learn.Goals as goal

pub returns-in_err-entry-clause-told : goal.returns-in_err-entry-clause-told
returns-in_err-entry-clause-told c = λ prime.
    let job = c.args.job.now in
    let number = c.loop-graph.graph in
    let this = stands job.graphs number (omega (arith, c.loop-graph-test.true, c.len-count.ensures)) in
    let told = err_from_is_err_and c.from_residual.result c.from_residual.ensures.1 in
    rw (told.1, told.2) (stopped job.need (form job) c.loop-graph.learned number this.0 c.in_err-entry.field-0.0 (c.loop-graph.invariant.first prime) this.1 (c.in_err-entry.ensures.told this.0 this.1 prime))

pub returns-in_err-entry-clause-fits : goal.returns-in_err-entry-clause-fits
returns-in_err-entry-clause-fits c =
    let job = c.args.job.now in
    let number = c.loop-graph.graph in
    let this = stands job.graphs number (omega (arith, c.loop-graph-test.true, c.len-count.ensures)) in
    let told = err_from_is_err_and c.from_residual.result c.from_residual.ensures.1 in
    rw (told.1, told.2) (stopped_fits job.need (form job) c.loop-graph.learned number this.0 c.in_err-entry.field-0.0 this.1 (c.in_err-entry.ensures.fits this.0 this.1))

pub loop-graph-preserved : goal.loop-graph-preserved
loop-graph-preserved c =
    let graphs = c.args.job.now.graphs in
    let number = c.loop-graph.graph in
    let this = stands graphs number (omega (arith, c.loop-graph-test.true, c.len-count.ensures)) in
    record {
      fits = FitsFirst-more graphs c.loop-graph.learned c.add.new.self number this.0 c.in_ok-entry.entry c.loop-graph.invariant.fits this.1 (c.in_ok-entry.ensures.fits this.0 this.1) c.in_ok-add.ensures.ok;
      first = λ prime. FirstLearn-more graphs c.loop-graph.learned c.add.new.self number this.0 c.in_ok-entry.entry (c.loop-graph.invariant.first prime) this.1 (c.in_ok-entry.ensures.told this.0 this.1 prime) c.in_ok-add.ensures.ok;
    }

pub returns-then-not-meets_need-clause-fits : goal.returns-then-not-meets_need-clause-fits
returns-then-not-meets_need-clause-fits c = let l = c.len-count.ensures in stands c.args.job.now.graphs _ (omega (arith, c.len-count.ensures, c.args.job.now.sound.main))
