-- The next row has the next line.
use Rattle.std.proofs.Common.{arith}
use Rattle.flow_program.specs.Refusals.{node_names}
use Rattle.flow_program.proofs.SamplingLaws.{lines_end, lines_more}
use Rattle.flow_program.proofs.sampling.push_rows.Goals as goal

pub loop-i-preserved : goal.loop-i-preserved
loop-i-preserved c =
    lines_more (node_names c.args.graph.now) c.args.rows.now c.loop-i.i c.args.text.now.items c.loop-i.text.items c.push_row.new.text.items c.loop-i.invariant c.in_ok-push_row.ensures

pub returns : goal.returns
returns c =
    lines_end (node_names c.args.graph.now) c.args.rows.now c.loop-i.i c.args.text.now.items c.loop-i.text.items c.loop-i.invariant (omega (arith, c.loop-i-test.false, c.loop-i.auto.i-end, c.len-i-end.ensures))
