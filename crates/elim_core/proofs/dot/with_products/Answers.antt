use Rattle.std.proofs.Common.{◌+◌, suc, get_or, arith}
use Rattle.elim_core.proofs.Products.{products-low, four-fit}
use Rattle.elim_core.proofs.dot.with_products.Goals as goal

pub overflow_add-sum : goal.overflow_add-sum
overflow_add-sum g c =
    omega (
      arith,
      c.loop-t.invariant,
      four-fit g.F.Field.modulus g.met.F.Field.narrow,
      products-low g.F.Field.modulus (suc c.loop-t.t) c.args.start (λ i. get_or c.args.words.now (c.args.place + i) 0) (λ i. get_or c.args.values.now (c.args.place + i) 0)
          (omega arith) c.requires.start (λ i low. c.requires.words (c.args.place + i) (omega arith)) (λ i low. c.requires.values (c.args.place + i) (omega arith)),
    )

pub fold-requires : goal.fold-requires
fold-requires g c =
    omega (
      arith,
      c.loop-t.invariant,
      products-low g.F.Field.modulus c.loop-t.t c.args.start (λ i. get_or c.args.words.now (c.args.place + i) 0) (λ i. get_or c.args.values.now (c.args.place + i) 0)
          (omega arith) c.requires.start (λ i low. c.requires.words (c.args.place + i) (omega arith)) (λ i low. c.requires.values (c.args.place + i) (omega arith)),
    )
