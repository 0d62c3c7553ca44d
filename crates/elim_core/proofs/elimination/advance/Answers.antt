use Rattle.std.proofs.Common.{◌+◌, ◌∙◌, arith}
use Rattle.elim_core.specs.Multiples.{multiples, IsAdded}
use Rattle.elim_core.proofs.Added.{added-on}
use Rattle.elim_core.proofs.Taken.{group-span, multiples-met}
use Rattle.elim_core.proofs.elimination.advance.Goals as goal

pub returns-clause-span : goal.returns-clause-span
returns-clause-span g c =
    let group = c.begin_group-group.result in
    let added : IsAdded g.F.Field.modulus c.args.row.now c.finish_group.new.row c.args.lead.place (c.args.slots.unknowns + 1)
    (multiples c.args.slots c.args.lead.place group.factors group.count) =
    added-on _ _ _ _ _ _ _ _ c.begin_group-group.ensures.added c.finish_group.ensures.added (omega arith) (omega arith) in
    group-span g.F.Field.modulus c.args.slots group c.args.row.now c.finish_group.new.row c.args.lead.place c.end_of_run-to.result c.args.lead.end
    c.requires.slots c.begin_group-group.ensures.group c.end_of_run-to.ensures.end c.requires.place c.requires.row c.requires.span c.begin_group-group.ensures.end
    added (c.finish_group.ensures.added.before c.args.lead.place (omega arith) ∙ c.begin_group-group.ensures.cleared)

pub returns-clause-met : goal.returns-clause-met
returns-clause-met g c =
    let group = c.begin_group-group.result in
    multiples-met g.F.Field.modulus c.args.slots c.args.lead.place group.factors c.args.row.now c.finish_group.new.row group.count
    c.requires.row (omega (arith, c.begin_group-group.ensures.group.within))
    (added-on _ _ _ _ _ _ _ _ c.begin_group-group.ensures.added c.finish_group.ensures.added (omega arith) (omega arith))
