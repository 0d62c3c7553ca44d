use Rattle.std.proofs.Common.{ap}
use Rattle.graph_file.specs.declared.asked.Asked.{Asked}
use Rattle.graph_file.proofs.JobLemmas.{complete-ended, job-bounds, job-sound, says-job}
use Rattle.graph_file.proofs.read.finish.Goals as goal

pub finish_graph-requires-clause-whole : goal.finish_graph-requires-clause-whole
finish_graph-requires-clause-whole c = λ named. complete-ended c.args.need c.requires.all c.args.reader c.requires.read c.requires.complete

pub invariant_of-result : goal.invariant_of-result
invariant_of-result c =
    let are = c.in_ok-finish_graph.ensures.graphs c.requires.all c.requires.read in
    record {
      sound = job-sound c.args.reader c.args.need c.requires.all c.finish_graph.new.self.graphs c.requires.read c.requires.good c.requires.complete are c.finish_graph.new.self.asked.points (ap (λ (a : Asked). a.points) c.in_ok-finish_graph.ensures.asked);
      bounded = job-bounds c.args.reader c.args.need c.requires.all c.finish_graph.new.self.graphs c.requires.read c.requires.good c.requires.complete are c.finish_graph.new.self.asked c.coeff_or.result c.in_ok-finish_graph.ensures.asked c.coeff_or.ensures;
    }

pub returns-clause-said : goal.returns-clause-said
returns-clause-said c = λ bytes read. says-job c.args.reader c.finish_graph.new.self.graphs c.finish_graph.new.self.asked c.coeff_or.result c.args.need bytes c.in_ok-finish_graph.ensures.asked c.coeff_or.ensures read (c.in_ok-finish_graph.ensures.graphs _ read)
