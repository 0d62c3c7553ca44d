-- With the entries of the factors that are left, all entries would be there.
use Rattle.std.proofs.Common.{◌≡◌, ◌-◌, ◌++◌}
use Rattle.std.specs.List.{flat_map, range_with_len}
use Rattle.flow_program.specs.Demo.{entries, separated}
use Rattle.flow_program.proofs.demo.push_entries.Given as goal

abbrev pub invariant-loop-factor : goal.invariant-loop-factor
invariant-loop-factor l = l.text.items ++ flat_map (λ factor. separated (entries l.k factor)) (range_with_len l.factor (65 - l.factor)) ≡ l.initial.text.items ++ flat_map (λ factor. separated (entries l.k factor)) (range_with_len 1 64)
