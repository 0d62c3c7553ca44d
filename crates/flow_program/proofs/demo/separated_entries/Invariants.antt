-- With the entries of the steps that are left, all entries would be there.
use Rattle.std.proofs.Common.{◌≡◌, ◌-◌, ◌++◌}
use Rattle.std.specs.List.{flat_map, range_with_len}
use Rattle.flow_program.specs.Demo.{entries, separated}
use Rattle.flow_program.proofs.demo.separated_entries.Given as goal

abbrev pub invariant-loop-place : goal.invariant-loop-place
invariant-loop-place l =
    l.text.items ++ flat_map (λ place. flat_map (λ factor. separated (entries (l.n - place) factor)) (range_with_len 1 64)) (range_with_len l.place (l.n - l.place))
    ≡ flat_map (λ place. flat_map (λ factor. separated (entries (l.n - place) factor)) (range_with_len 1 64)) (range_with_len 0 l.n)
