-- All points.
use Rattle.std.proofs.Common.{◌≡◌, ℕ, List, ◌+◌, ◌-◌, ◌*◌, ◌^◌, ◌<◌, ◌≤◌, ◌++◌, All, Result, Ok, Err, length, take, drop, slice_index, get_or, refl, sym, ◌∙◌, ap, subst, arith, rules, length-take, length-drop, length-append}
use Rattle.graph_eval.specs.Expanded.{run_from}
use Rattle.graph_eval.proofs.Columns.{run_is}
use Rattle.graph_eval.proofs.expansion.all_points.Goals as goal

pub returns : goal.returns
returns c =
    let many : length c.loop-number.points ≡ 131 = c.loop-number.invariant.many in
    run_is (2 ^ 40 + 1) c.loop-number.points (λ i below. c.loop-number.invariant.each i (omega (arith, c.loop-number-test.false, many))) ∙ ap (run_from (2 ^ 40 + 1)) many
