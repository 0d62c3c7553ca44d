use Rattle.std.proofs.Common.{◌≡◌, take}
use Rattle.prime_field.specs.Modulus.{value_of}
use Rattle.poly_maps.specs.Polynomial.{product_of, reduced}
use Rattle.poly_maps.proofs.poly.Poly.product.Given as goal

abbrev pub invariant-loop-term : goal.invariant-loop-term
invariant-loop-term l = l.products.items ≡ reduced (value_of l.m) (product_of (take l.term-index l.term-items) l.other-inside.terms.items)
