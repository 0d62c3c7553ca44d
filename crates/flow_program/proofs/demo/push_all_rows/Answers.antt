-- Each step adds its rows.
use Rattle.std.proofs.Common.{ℕ, ◌+◌, ◌-◌, List, [], ◌∷◌, ◌++◌, arith}
use Rattle.std.specs.List.{flat_map, range_with_len}
use Rattle.flow_program.specs.Demo.{ended_lines, row_line}
use Rattle.flow_program.proofs.DemoLaws.{all_done, step_on}
use Rattle.flow_program.proofs.demo.push_all_rows.Goals as goal

pub loop-place-preserved : goal.loop-place-preserved
loop-place-preserved c =
    let text : ℕ → List ℕ = λ place. flat_map (λ factor. ended_lines (row_line (place + 1) ∷ [])) (range_with_len 1 64) in
    step_on text c.loop-place.place c.args.n c.loop-place.text.items c.push_rows.new.text.items (c.args.text.now.items ++ flat_map text (range_with_len 0 c.args.n))
    (omega (arith, c.loop-place-test.true)) c.in_ok-push_rows.ensures c.loop-place.invariant

pub returns : goal.returns
returns c =
    let text : ℕ → List ℕ = λ place. flat_map (λ factor. ended_lines (row_line (place + 1) ∷ [])) (range_with_len 1 64) in
    all_done text c.loop-place.place c.args.n c.loop-place.text.items (c.args.text.now.items ++ flat_map text (range_with_len 0 c.args.n)) (omega (arith, c.loop-place-test.false)) c.loop-place.invariant
