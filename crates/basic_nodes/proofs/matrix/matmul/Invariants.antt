use Rattle.std.proofs.Common.{◌≡◌, ◌*◌, take}
use Rattle.std.specs.List.{flat_map, range_with_len}
use Rattle.prime_field.specs.Modulus.{value_of}
use Rattle.basic_nodes.specs.Plain.{product_row}
use Rattle.basic_nodes.proofs.matrix.matmul.Given as goal

abbrev pub invariant-loop-i : goal.invariant-loop-i
invariant-loop-i l =
    take (l.i * l.cols) l.out ≡ flat_map (product_row (value_of l.m) l.mid l.cols l.a l.b) (range_with_len 0 l.i)
