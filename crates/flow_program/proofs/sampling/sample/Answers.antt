-- The lines of the rows are those of the points.
use Rattle.prime_field.specs.Modulus.{value_of}
use Rattle.graph_eval.specs.Learned.{sets_of}
use Rattle.flow_program.proofs.SamplingLaws.{lines_whole, points_inputs}
use Rattle.flow_program.proofs.sampling.sample.Goals as goal

pub sample-requires-clause-entries : goal.sample-requires-clause-entries
sample-requires-clause-entries g c = λ lives outlive. points_inputs c.args.job.now.graphs c.as_slice-points.result.now c.args.job.now.points c.args.job.now.sound c.as_slice-points.ensures

pub returns : goal.returns
returns g c = λ prime.
    let job = c.args.job.now in
    lines_whole (value_of c.args.modulus) job.graphs (sets_of c.args.learned.now) c.main_graph-graph.result.now c.as_slice-points.result.now job.points c.in_ok-rows.rows c.new-text.result.items c.push_rows.new.text.items
    c.main_graph-graph.ensures c.as_slice-points.ensures (c.in_ok-rows.ensures.rows prime) c.new-text.ensures.items c.in_ok-push_rows.ensures
