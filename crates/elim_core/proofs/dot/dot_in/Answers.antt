use Rattle.std.proofs.Common.{◌∙◌, arith}
use Rattle.elim_core.specs.Multiples.{product_at}
use Rattle.elim_core.proofs.Products.{sum-more}
use Rattle.elim_core.proofs.dot.dot_in.Goals as goal

pub loop-place-preserved-then-words-place-lt4 : goal.loop-place-preserved-then-words-place-lt4
loop-place-preserved-then-words-place-lt4 g c = (
  c.with_products-sum.ensures.sum ∙
      sum-more g.F.Field.modulus c.loop-place.place 1 c.loop-place.sum (product_at c.args.words.now c.args.values.now) c.loop-place.invariant.0,
  c.with_products-sum.ensures.residue,
  omega arith,
)

pub loop-place-preserved : goal.loop-place-preserved
loop-place-preserved g c =
    let call = c.with_products-sum-else-words-place-lt4 in (
      call.ensures.sum ∙
          sum-more g.F.Field.modulus c.loop-place.place 4 c.loop-place.sum (product_at c.args.words.now c.args.values.now) c.loop-place.invariant.0,
      call.ensures.residue,
      omega arith,
    )
