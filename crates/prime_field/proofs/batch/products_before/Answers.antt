use Rattle.std.proofs.Common.{◌*◌, ◌%◌, ◌≢◌, ◌<◌, slice_index, length, ap, ◌∙◌, add-one, arith, below_more, get_or-set_other, get_or-set_same}
use Rattle.std.proofs.lemmas.Nat.{mul-mod_first}
use Rattle.prime_field.specs.Modulus.{value_of}
use Rattle.prime_field.specs.Product.{product_to}
use Rattle.prime_field.proofs.batch.products_before.Goals as goal

pub loop-i-preserved : goal.loop-i-preserved
loop-i-preserved c =
    let i = c.loop-i.i in
    let m = value_of c.args.modulus in
    let f = slice_index c.args.xs.now in
    record {
      residue = c.mul-product.ensures.residue;
      so_far = rw add-one
          (c.mul-product.ensures.product ∙ ap (λ t. (t * f i) % m) c.loop-i.invariant.so_far ∙ mul-mod_first (product_to i f) (f i) m);
      before = below_more _ _
          (λ k h. let other : k ≢ i = omega arith in rw get_or-set_other (c.loop-i.invariant.before k h))
          (let within : i < length c.loop-i.products = omega arith in rw get_or-set_same c.loop-i.invariant.so_far);
    }
