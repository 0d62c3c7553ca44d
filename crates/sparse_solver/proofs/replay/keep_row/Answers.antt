use Rattle.std.proofs.Common.{rules, ◌≡◌, ◌<◌, ℕ, List, subst, arith, get_or, length}
use Rattle.std.specs.Prelude.{Some, slice_get}
use Rattle.sparse_solver.proofs.Turns.{kept_more, moved_none, read_at, zero_again}
use Rattle.sparse_solver.proofs.replay.keep_row.Goals as goal

pub returns-clause-zeros : goal.returns-clause-zeros
returns-clause-zeros g c =
    zero_again c.args.steps.now c.args.turn c.args.row.now c.add_row.new.row c.add_steps.new.row c.take_row.new.row c.requires.zeros
    (λ k outside. c.add_row.ensures.others k (λ now at.
    (c.requires.turns.each c.args.turn c.requires.turn).row_closed now (subst (λ (n : ℕ). slice_get c.args.rows.now n ≡ Some now) (read_at c.args.steps.now.numbers.items c.args.turn c.index.result.now (omega (arith, c.requires.shaped.roomy.numbers_room, c.requires.turn)) c.index.ensures) at) k outside))
    c.add_steps.ensures.others
    (subst (λ (head : List ℕ). (i : ℕ) → i < length head → get_or c.add_steps.new.row (get_or head i 0) 0 ≡ 0) c.head_columns.ensures.part
    (search rules))
    c.take_row.ensures.cleared c.take_row.ensures.others

pub returns-clause-vanishes : goal.returns-clause-vanishes
returns-clause-vanishes g c w vanish kept =
    kept_more g.F.Field.modulus c.args.steps.now c.args.kept.now c.take_row.new.kept c.args.turn w c.take_row.ensures.before
    (moved_none g.F.Field.modulus c.args.row.now c.add_row.new.row c.add_steps.new.row c.take_row.new.row _ w c.requires.zeros (returns-clause-zeros g c)
    (c.add_row.ensures.added w vanish) (c.add_steps.ensures.same w kept) (c.take_row.ensures.moved w))
    kept
