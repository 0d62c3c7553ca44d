use Rattle.std.proofs.Common.{◌+◌, ◌*◌, suc, get_or, ap, arith}
use Rattle.elim_core.specs.Multiples.{entry_in}
use Rattle.elim_core.proofs.Products.{products-low, four-fit}
use Rattle.elim_core.proofs.Taken.{multiples-next, right-stored, slot_before}
use Rattle.elim_core.proofs.group.with_right_sides.Goals as goal

pub overflow_add-sum : goal.overflow_add-sum
overflow_add-sum g c =
    omega (
      arith,
      c.loop-index.invariant,
      four-fit g.F.Field.modulus g.met.F.Field.narrow,
      ap (λ x. get_or c.args.factors.now c.loop-index.index 0 * x)
          (right-stored c.args.slots (c.args.slot + c.loop-index.index) (c.requires.used c.loop-index.index (omega arith)) (omega arith)),
      products-low g.F.Field.modulus (suc c.loop-index.index) c.args.right (λ t. get_or c.args.factors.now t 0) (λ t. entry_in c.args.slots (c.args.slot + t) c.args.slots.unknowns)
          (omega arith) c.requires.right (λ t low. c.requires.factors t (omega arith))
          (λ t low. c.requires.slots.laid_out.residues (c.args.slot + t) c.args.slots.unknowns (omega arith) (omega arith)),
    )

pub fold-requires : goal.fold-requires
fold-requires g c =
    omega (
      arith,
      c.loop-index.invariant,
      products-low g.F.Field.modulus c.loop-index.index c.args.right (λ t. get_or c.args.factors.now t 0) (λ t. entry_in c.args.slots (c.args.slot + t) c.args.slots.unknowns)
          (omega arith) c.requires.right (λ t low. c.requires.factors t (omega arith))
          (λ t low. c.requires.slots.laid_out.residues (c.args.slot + t) c.args.slots.unknowns (omega arith) (omega arith)),
    )

pub bounds-slots-slot : goal.bounds-slots-slot
bounds-slots-slot g c =
    let at = c.args.slot + c.loop-index.index in
    omega (arith, c.requires.slots.laid_out.rows_room, slot_before at c.args.slots.unknowns c.args.slots.unknowns at (omega arith) (omega arith))

pub loop-index-preserved : goal.loop-index-preserved
loop-index-preserved g c =
    omega (
      arith,
      c.loop-index.invariant,
      ap (λ x. get_or c.args.factors.now c.loop-index.index 0 * x)
          (right-stored c.args.slots (c.args.slot + c.loop-index.index) (c.requires.used c.loop-index.index (omega arith)) (omega arith)),
      multiples-next c.args.slots c.args.slot c.args.factors.now c.loop-index.index c.args.slots.unknowns,
    )
