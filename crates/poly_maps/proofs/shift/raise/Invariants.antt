use Rattle.std.proofs.Common.{◌≤◌, ◌+◌, ◌-◌, vec_len}
use Rattle.prime_field.specs.Modulus.{value_of}
use Rattle.poly_maps.specs.Expansion.{IsPowerRow}
use Rattle.poly_maps.proofs.shift.raise.Given as goal

abbrev pub invariant-loop-m : goal.invariant-loop-m
invariant-loop-m l = IsPowerRow (value_of l.m) l.a l.row.items × (vec_len l.row ≤ l.k + 1)

abbrev pub decreases-loop-m : goal.decreases-loop-m
decreases-loop-m l = l.k + 1 - vec_len l.row
