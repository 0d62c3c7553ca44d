use Rattle.std.proofs.Common.{◌<◌, sym, subst}
use Rattle.prime_field.specs.Modulus.{value_of}
use Rattle.poly_maps.proofs.Terms.{residue-at}
use Rattle.poly_maps.proofs.Gathered.{products_more}
use Rattle.poly_maps.proofs.term_list.push_products.Goals as goal

pub mul-requires-clause-right : goal.mul-requires-clause-right
mul-requires-clause-right c =
    subst (λ t. t.1 < value_of c.args.m) (sym c.other-item.is) (residue-at _ c.args.others.now c.loop-other.other-index c.other-item.result c.requires.right c.loop-other-test.true)

pub loop-other-preserved : goal.loop-other-preserved
loop-other-preserved c =
    rw (c.in_ok-push.ensures.items, c.times.ensures, c.mul.ensures.product) (products_more (value_of c.args.m) c.args.term.now c.other-item.result c.args.others.now c.args.products.now.items c.loop-other.products.items c.loop-other.other-index c.loop-other-test.true c.other-item.is c.loop-other.invariant)
