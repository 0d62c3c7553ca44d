use Rattle.std.proofs.Common.{◌≡◌, ◌+◌, ◌-◌, ◌*◌, length, get_or, ◌∙◌, ap, sym, arith}
use Rattle.prime_field.specs.Modulus.{value_of}
use Rattle.elim_core.specs.Rows.{told_in}
use Rattle.elim_core.proofs.Columns.{Column-more, told_in-later}
use Rattle.elim_core.proofs.solver.write_column.Goals as goal

pub loop-t-preserved : goal.loop-t-preserved
loop-t-preserved c =
    let gap : c.args.column + 1 + (c.first_given-first.result - (c.args.column + 1)) ≡ c.first_given-first.result = omega arith in
    Column-more _ _ _ _ _ _ _ _ _ _ c.loop-t.invariant c.requires.room c.requires.column c.loop-t-test.true
    (c.told_by_later-told.ensures.told ∙
    ap (told_in (value_of c.args.modulus) (λ k. get_or c.args.values.now k 0) c.args.set.now c.loop-t.out (c.loop-t.t * (length c.args.set.now + 1))) (sym gap) ∙
    told_in-later (value_of c.args.modulus) (λ k. get_or c.args.values.now k 0) c.args.set.now c.loop-t.out (c.loop-t.t * (length c.args.set.now + 1)) (c.args.column + 1)
    (c.first_given-first.result - (c.args.column + 1)) (omega arith) (λ k above low. c.first_given-first.ensures.zeros k above (omega arith)))
    c.sub.ensures.difference
