use Rattle.std.proofs.Common.{◌<◌, ◌≤◌, ◌+◌, ℕ, sym, ◌∙◌, subst, arith, get_or}
use Rattle.sparse_solver.specs.Packed.{IsOutside}
use Rattle.sparse_solver.specs.Steps.{part_of}
use Rattle.sparse_solver.proofs.Turns.{read_at}
use Rattle.sparse_solver.proofs.replay.add_steps.Goals as goal

pub loop-place-preserved : goal.loop-place-preserved
loop-place-preserved g c =
    let steps = c.args.steps.now in
    let placed = c.requires.shaped.placed c.args.turn c.requires.turn in
    let first = read_at steps.firsts.items c.args.turn c.index-place.result.now (omega (arith, c.requires.shaped.roomy.firsts_room, c.requires.turn)) c.index-place.ensures in
    let last = read_at steps.firsts.items (c.args.turn + 1) c.index-place-end.result.now (omega (arith, c.requires.shaped.roomy.firsts_room, c.requires.turn)) c.index-place-end.ensures in
    let from : get_or steps.firsts.items c.args.turn 0 ≤ c.loop-place.place = omega (arith, first, placed.order, last, c.loop-place.auto.place) in
    let to : c.loop-place.place < get_or steps.firsts.items (c.args.turn + 1) 0 = omega (arith, last) in
    let earlier = read_at steps.earlier.items c.loop-place.place c.index-earlier.result.now (omega (arith, to, placed.steps_end)) c.index-earlier.ensures in
    let low : c.index-earlier.result.now < c.args.turn = omega (arith, earlier, placed.before c.loop-place.place from to) in
    record {
      room = omega arith;
      residues = c.add_step.ensures.row_residues;
      same = λ w vanish. c.add_step.ensures.same w (vanish c.index-earlier.result.now low) ∙ c.loop-place.invariant.same w vanish;
      others = λ k outside.
          c.add_step.ensures.others k
          (subst (λ (e : ℕ). IsOutside (part_of steps e steps.columns.items) k) (sym earlier)
          ((c.requires.turns.each c.args.turn c.requires.turn).step_closed c.loop-place.place from to k outside)) ∙
          c.loop-place.invariant.others k outside;
    }
