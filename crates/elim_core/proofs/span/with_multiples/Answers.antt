use Rattle.std.proofs.Common.{◌+◌, ◌*◌, suc, get_or, ap, arith}
use Rattle.elim_core.specs.Multiples.{entry_in}
use Rattle.elim_core.proofs.Products.{products-low, four-fit}
use Rattle.elim_core.proofs.span.with_multiples.Goals as goal

pub overflow_add-sum : goal.overflow_add-sum
overflow_add-sum g c =
    omega (
      arith,
      c.loop-index.invariant,
      four-fit g.F.Field.modulus g.met.F.Field.narrow,
      ap (λ x. get_or c.args.factors.now c.loop-index.index 0 * x) (c.requires.stored c.loop-index.index (omega arith)),
      products-low g.F.Field.modulus (suc c.loop-index.index) c.args.value (λ t. get_or c.args.factors.now t 0) (λ t. entry_in c.args.slots (c.args.slot + t) c.args.place)
          (omega arith) c.requires.value (λ t low. c.requires.factors t (omega arith))
          (λ t low. c.requires.slots.laid_out.residues (c.args.slot + t) c.args.place (omega arith) (omega arith)),
    )

pub fold-requires : goal.fold-requires
fold-requires g c =
    omega (
      arith,
      c.loop-index.invariant,
      products-low g.F.Field.modulus c.loop-index.index c.args.value (λ t. get_or c.args.factors.now t 0) (λ t. entry_in c.args.slots (c.args.slot + t) c.args.place)
          (omega arith) c.requires.value (λ t low. c.requires.factors t (omega arith))
          (λ t low. c.requires.slots.laid_out.residues (c.args.slot + t) c.args.place (omega arith) (omega arith)),
    )
