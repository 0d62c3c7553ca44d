-- Each row has the output, and its value there is the next of the column.
use Rattle.std.proofs.Common.{◌<◌, length, get_or, refl, ap, arith, rules}
use Rattle.good_attempt.specs.Attempts.{Taken}
use Rattle.good_attempt.proofs.Columns.{column_more, place_within, values_at}
use Rattle.good_attempt.proofs.good.GoodAttempt.column.Goals as goal

pub offset_bounds-row-k : goal.offset_bounds-row-k
offset_bounds-row-k c =
    let rows = c.args.self.now.rows in
    let at = values_at c.self.inside.samples rows c.loop-i.i c.in-Some.row.now (ap (λ (t : Taken). t.rows) c.self.view_is) c.in-Some.ensures.some in
    let inside : c.args.k < length c.in-Some.row.now = place_within rows c.loop-i.i c.args.k c.in-Some.row.now c.requires at in
    search rules

pub bounds-row-k : goal.bounds-row-k
bounds-row-k c =
    let rows = c.args.self.now.rows in
    let at = values_at c.self.inside.samples rows c.loop-i.i c.in-Some.row.now (ap (λ (t : Taken). t.rows) c.self.view_is) c.in-Some.ensures.some in
    place_within rows c.loop-i.i c.args.k c.in-Some.row.now c.requires at

pub loop-i-preserved : goal.loop-i-preserved
loop-i-preserved c =
    let rows = c.args.self.now.rows in
    let at = values_at c.self.inside.samples rows c.loop-i.i c.in-Some.row.now (ap (λ (t : Taken). t.rows) c.self.view_is) c.in-Some.ensures.some in
    column_more c.args.k rows c.loop-i.i c.in-Some.row.now c.loop-i.values.items c.push.new.self.items (get_or c.in-Some.row.now c.args.k 0) c.loop-i.invariant at refl c.in_ok-push.ensures.items
