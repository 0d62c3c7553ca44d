-- Each factor adds the row.
use Rattle.std.proofs.Common.{ℕ, ◌+◌, ◌-◌, List, [], ◌∷◌, ◌++◌, arith}
use Rattle.std.specs.List.{flat_map, range_with_len}
use Rattle.flow_program.specs.Demo.{ended_lines, row_line}
use Rattle.flow_program.proofs.DemoLaws.{all_done, step_on}
use Rattle.flow_program.proofs.demo.push_rows.Goals as goal

pub loop-factor-preserved : goal.loop-factor-preserved
loop-factor-preserved c =
    let text : ℕ → List ℕ = λ factor. ended_lines (row_line c.args.place ∷ []) in
    step_on text c.loop-factor._factor 65 c.loop-factor.text.items c.push_row.new.text.items (c.args.text.now.items ++ flat_map text (range_with_len 1 64))
    (omega (arith, c.loop-factor-test.true)) c.in_ok-push_row.ensures c.loop-factor.invariant

pub returns : goal.returns
returns c =
    let text : ℕ → List ℕ = λ factor. ended_lines (row_line c.args.place ∷ []) in
    all_done text c.loop-factor._factor 65 c.loop-factor.text.items (c.args.text.now.items ++ flat_map text (range_with_len 1 64)) (omega (arith, c.loop-factor-test.false)) c.loop-factor.invariant
