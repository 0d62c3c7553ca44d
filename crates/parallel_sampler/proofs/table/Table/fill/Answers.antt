-- One row more of the block is filled.
use Rattle.std.proofs.Common.{◌≡◌, ◌+◌, ◌*◌, ◌<◌, ◌≤◌, length, refl, ◌∙◌, ap, subst, arith}
use Rattle.std.specs.Prelude.{min}
use Rattle.prime_field.specs.Modulus.{value_of}
use Rattle.parallel_sampler.specs.Filled.{Filling, FillsRows}
use Rattle.parallel_sampler.proofs.Filling.{fills_next, fills_none}
use Rattle.parallel_sampler.proofs.table.Table.fill.Goals as goal

pub loop-i-init : goal.loop-i-init
loop-i-init c = (c.requires.made, refl, fills_none (value_of c.args.m) c.args.job.now.graphs c.args.learned.now c.args.points.now (c.args.block * 32) c.args.self.now.rows)

pub put-requires-clause-row : goal.put-requires-clause-row
put-requires-clause-row c = omega (arith, c.loop-i.invariant.2.long, c.requires.rows, c.loop-i-test.true, c.min-end.ensures)

pub put-requires-clause-room : goal.put-requires-clause-room
put-requires-clause-room c = c.loop-i.invariant.1 ∙ c.requires.room

pub put-requires-clause-made : goal.put-requires-clause-made
put-requires-clause-made c = c.loop-i.invariant.0

pub loop-i-preserved : goal.loop-i-preserved
loop-i-preserved c =
    let row = c.put.ensures.row in
    let within : c.loop-i.i < length c.args.points.now = omega (arith, c.loop-i-test.true, c.min-end.ensures) in
    let room : c.loop-i.i < length c.loop-i.self.rows = omega (arith, within, c.loop-i.invariant.2.long, c.requires.rows) in (
      c.put.ensures.made,
      ap (λ (f : Filling). f.room) row.put ∙ c.loop-i.invariant.1,
      fills_next (value_of c.args.m) c.args.job.now.graphs c.args.learned.now c.args.points.now (c.args.block * 32) c.loop-i.i c.args.self.now.rows c.loop-i.self.rows c.put.new.self.rows c.index-points-i.result row.outcome
          c.loop-i.invariant.2 c.loop-i.auto.i within room c.index-points-i.is row.is (ap (λ (f : Filling). f.rows) row.put),
    )

pub returns-clause-made : goal.returns-clause-made
returns-clause-made c = c.loop-i.invariant.0

pub returns-clause-room : goal.returns-clause-room
returns-clause-room c = c.loop-i.invariant.1

pub returns-clause-rows : goal.returns-clause-rows
returns-clause-rows c =
    let low : c.args.block * 32 ≤ c.min-end.result = omega (arith, c.requires.block, c.min-end.ensures) in
    let all : c.loop-i.i ≡ min (c.args.block * 32 + 32) (length c.args.points.now) = omega (arith, c.min-end.ensures, c.loop-i-test.false, c.loop-i.auto.i-end low) in
    subst (λ high. FillsRows (value_of c.args.m) c.args.job.now.graphs c.args.learned.now c.args.points.now (c.args.block * 32) high c.args.self.now.rows c.loop-i.self.rows) all c.loop-i.invariant.2
