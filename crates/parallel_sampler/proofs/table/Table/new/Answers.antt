-- One empty row more in each turn.
use Rattle.std.proofs.Common.{◌≡◌, refl, arith}
use Rattle.parallel_sampler.proofs.Filling.{empty_more, empty_view, no_rows}
use Rattle.parallel_sampler.proofs.table.Table.new.Goals as goal

pub loop-init : goal.loop-init
loop-init c = no_rows c.args.outputs c.in_ok-rows.rows.items c.in_ok-rows.ensures.items

pub loop-preserved : goal.loop-preserved
loop-preserved c = empty_more c.loop.counter c.args.outputs c.loop.rows.items c.push.new.self.items _ c.loop.invariant refl c.in_ok-words.ensures.len c.in_ok-push.ensures.items

pub invariant_of-result : goal.invariant_of-result
invariant_of-result c = c.loop.invariant.room

pub returns : goal.returns
returns c =
    let all : c.loop.counter ≡ c.args.points = omega (arith, c.loop-test.false, c.loop.auto.counter-end) in
    empty_view c.loop.counter c.args.points c.args.outputs c.loop.rows.items c.loop.invariant all
