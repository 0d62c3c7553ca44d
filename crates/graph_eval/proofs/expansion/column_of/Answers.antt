-- The whole column.
use Rattle.std.proofs.Common.{◌≡◌, ℕ, List, ◌+◌, ◌-◌, ◌*◌, ◌^◌, ◌<◌, ◌≤◌, ◌++◌, All, Result, Ok, Err, length, take, drop, slice_index, get_or, refl, sym, ◌∙◌, ap, subst, arith, rules, length-take, length-drop, length-append}
use Rattle.graph_eval.specs.Expanded.{strided}
use Rattle.graph_eval.proofs.Columns.{strided_is}
use Rattle.graph_eval.proofs.expansion.column_of.Goals as goal

pub returns : goal.returns
returns c =
    let many : length c.loop-row.column ≡ 131 = c.loop-row.invariant.many in
    strided_is c.args.words.now c.args.width c.args.k c.args.count c.loop-row.column (omega (arith, many, c.requires.few)) (λ i below. c.loop-row.invariant.each i (omega (arith, c.loop-row-test.false)))
