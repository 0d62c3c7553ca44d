-- With the rows of the steps that are left, all rows would be there.
use Rattle.std.proofs.Common.{◌≡◌, ◌+◌, ◌-◌, ◌++◌, ◌∷◌, []}
use Rattle.std.specs.List.{flat_map, range_with_len}
use Rattle.flow_program.specs.Demo.{ended_lines, row_line}
use Rattle.flow_program.proofs.demo.push_all_rows.Given as goal

abbrev pub invariant-loop-place : goal.invariant-loop-place
invariant-loop-place l =
    l.text.items ++ flat_map (λ place. flat_map (λ factor. ended_lines (row_line (place + 1) ∷ [])) (range_with_len 1 64)) (range_with_len l.place (l.n - l.place))
    ≡ l.initial.text.items ++ flat_map (λ place. flat_map (λ factor. ended_lines (row_line (place + 1) ∷ [])) (range_with_len 1 64)) (range_with_len 0 l.n)
