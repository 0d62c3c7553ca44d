use Rattle.std.proofs.Common.{◌≡◌, ℕ, ◌+◌, subst, arith}
use Rattle.elim_core.specs.Multiples.{multiples, IsAdded}
use Rattle.elim_core.proofs.Entries.{entry-within}
use Rattle.elim_core.proofs.Added.{added-both, added-on, added-right, added-same}
use Rattle.elim_core.proofs.Taken.{multiples-next}
use Rattle.elim_core.proofs.group.add_group.Goals as goal

pub add_rows-requires : goal.add_rows-requires
add_rows-requires g c = (
  omega arith,
  (
    c.requires.slots,
    (
      c.requires.few,
      (
        omega arith,
        (
          c.requires.factors,
          (
            c.requires.row,
            (
              c.requires.from,
              (
                c.requires.shared,
                λ t k t_low above low.
                    entry-within c.args.slots.unknowns c.args.slots.rows.now c.args.slots.ends.now (c.args.slot + t) k (c.requires.used t t_low) (omega arith)
                    (omega (arith, c.requires.share t t_low (omega arith))) (omega arith),
              ),
            ),
          ),
        ),
      ),
    ),
  ),
)

pub loop-index-preserved : goal.loop-index-preserved
loop-index-preserved g c = (
  c.add_row.ensures.row,
  added-same _ _ _ _ _ _ _ (added-both _ _ _ _ _ _ _ _ c.loop-index.invariant.1 c.add_row.ensures.added)
      (multiples-next c.args.slots c.args.slot c.args.factors.now c.loop-index.index),
)

pub returns-clause-added : goal.returns-clause-added
returns-clause-added g c =
    let all : c.loop-index.index ≡ g.row.N = omega arith in
    let sums : ℕ → ℕ = multiples c.args.slots c.args.slot c.args.factors.now g.row.N in
    let rests : IsAdded g.F.Field.modulus c.add_rows.new.row c.loop-index.row c.args.shared c.args.slots.unknowns sums =
    subst (λ (n : ℕ). IsAdded g.F.Field.modulus c.add_rows.new.row c.loop-index.row c.args.shared c.args.slots.unknowns (multiples c.args.slots c.args.slot c.args.factors.now n))
    all c.loop-index.invariant.1 in
    added-right g.F.Field.modulus c.args.slots.unknowns c.args.row.now c.loop-index.row c.args.from c.with_right_sides.result sums
    (added-on g.F.Field.modulus c.args.row.now c.add_rows.new.row c.loop-index.row c.args.from c.args.shared c.args.slots.unknowns sums
    c.add_rows.ensures.added rests c.requires.from c.requires.shared)
    c.loop-index.invariant.0.room (omega arith) c.with_right_sides.ensures.sum
