use Rattle.std.proofs.Common.{◌≡◌, ℕ, ◌+◌, ◌<◌, [], ◌∷◌, get_or, subst, arith}
use Rattle.elim_core.specs.Multiples.{IsStored}
use Rattle.elim_core.proofs.Entries.{entry-within}
use Rattle.elim_core.proofs.Added.{added-none, added-longer, added-same}
use Rattle.elim_core.proofs.Taken.{one_multiple, row-beyond}
use Rattle.elim_core.proofs.span.add_row.Goals as goal

pub add_rows-requires : goal.add_rows-requires
add_rows-requires g c = (
  omega arith,
  (
    c.requires.slots,
    (
      omega arith,
      (
        omega arith,
        (
          λ t t_low.
              let first : 0 ≡ t = omega arith in
              subst (λ (i : ℕ). get_or (c.args.factor ∷ []) i 0 < g.F.Field.modulus) first c.requires.factor,
          (
            c.requires.row,
            (
              omega arith,
              (
                omega arith,
                λ t k t_low above low.
                    let same : c.args.slot ≡ c.args.slot + t = omega arith in
                    subst (λ (j : ℕ). IsStored c.args.slots j k) same
                    (entry-within c.args.slots.unknowns c.args.slots.rows.now c.args.slots.ends.now c.args.slot k c.requires.used (omega arith) (omega arith) (omega arith)),
              ),
            ),
          ),
        ),
      ),
    ),
  ),
)

pub returns-then-from-end-clause-added : goal.returns-then-from-end-clause-added
returns-then-from-end-clause-added g c =
    added-longer _ _ _ _ _ _ _ _ c.requires.row (omega arith)
    (added-same _ _ _ _ _ _ _ c.add_rows.ensures.added (one_multiple c.args.slots c.args.slot c.args.factor)) (omega arith)
    (λ k above past low. row-beyond _ c.args.slots c.args.slot c.args.factor k c.requires.slots (omega arith) (omega arith) (omega arith))

pub returns-else-from-end-clause-added : goal.returns-else-from-end-clause-added
returns-else-from-end-clause-added g c =
    added-longer _ _ _ _ _ _ _ _ c.requires.row (omega arith) (added-none _ _ _ c.earlier-end.result _ (omega arith)) (omega arith)
    (λ k above past low. row-beyond _ c.args.slots c.args.slot c.args.factor k c.requires.slots (omega arith) (omega arith) (omega arith))
