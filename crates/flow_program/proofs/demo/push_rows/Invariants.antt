-- With the rows of the factors that are left, all rows would be there.
use Rattle.std.proofs.Common.{◌≡◌, ◌-◌, ◌++◌, ◌∷◌, []}
use Rattle.std.specs.List.{flat_map, range_with_len}
use Rattle.flow_program.specs.Demo.{ended_lines, row_line}
use Rattle.flow_program.proofs.demo.push_rows.Given as goal

abbrev pub invariant-loop-factor : goal.invariant-loop-factor
invariant-loop-factor l = l.text.items ++ flat_map (λ factor. ended_lines (row_line l.fn.place ∷ [])) (range_with_len l._factor (65 - l._factor)) ≡ l.initial.text.items ++ flat_map (λ factor. ended_lines (row_line l.fn.place ∷ [])) (range_with_len 1 64)
