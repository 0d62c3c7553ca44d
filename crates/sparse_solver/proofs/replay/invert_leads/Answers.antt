use Rattle.std.proofs.Common.{◌*◌, ◌%◌, sym, ◌∙◌, ap, get_or, arith}
use Rattle.prime_field.specs.Inverses.{AreInverses}
use Rattle.prime_field.specs.Modulus.{value_of}
use Rattle.elim_core.proofs.Choices.{on_true, true_of}
use Rattle.sparse_solver.proofs.replay.invert_leads.Goals as goal

pub returns-clause-units : goal.returns-clause-units
returns-clause-units c = on_true c.inv_all.result _ (λ yes t low.
    let m = value_of c.args.m in
    let is = true_of c.inv_all.result (AreInverses m c.copy_leads.new.leads c.inv_all.new.xs) c.inv_all.ensures.inverted yes in
    let inverse = get_or c.inv_all.new.xs t 0 in
    ap (λ x. (x * inverse) % m) (sym (c.copy_leads.ensures.copied t low)) ∙
    is.products t (omega (arith, low, c.copy_leads.ensures.room, c.requires.room)))
