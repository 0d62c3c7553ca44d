use Rattle.std.proofs.Common.{◌≡◌, ◌++◌, take}
use Rattle.prime_field.specs.Modulus.{value_of}
use Rattle.poly_maps.specs.Polynomial.{term_times, reduced}
use Rattle.poly_maps.proofs.term_list.push_products.Given as goal

abbrev pub invariant-loop-other : goal.invariant-loop-other
invariant-loop-other l =
    l.products.items ≡ l.initial.products.items ++ reduced (value_of l.m) (term_times l.term (take l.other-index l.others))
