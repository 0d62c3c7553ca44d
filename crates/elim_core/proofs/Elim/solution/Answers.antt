use Rattle.std.proofs.Common.{[], get_or, refl, ap, ◌∙◌, arith}
use Rattle.prime_field.specs.Modulus.{value_of}
use Rattle.elim_core.specs.Layout.{entry}
use Rattle.elim_core.specs.Rows.{AllMet}
use Rattle.elim_core.proofs.Lists.{met_kept, moved}
use Rattle.elim_core.proofs.Solvers.{independent_empty, solvable_opened}
use Rattle.elim_core.proofs.Elim.solution.Goals as goal

pub returns-clause-solves : goal.returns-clause-solves
returns-clause-solves c =
    let e = c.args.self.now in
    met_kept e c.args.words.now (solvable_opened _ _ c.requires.solvable) c.back_substitute.new.values c.back_substitute.ensures.room c.back_substitute.ensures.residues
    (moved (λ a b r. AllMet (value_of e.modulus) e.unknowns (entry e.unknowns a b) (λ k. get_or c.back_substitute.new.values k 0))
    _ _ [] _ _ [] c.rows_in-rows.ensures c.ends_in-ends.ensures refl c.back_substitute.ensures.met)

pub returns-clause-chosen : goal.returns-clause-chosen
returns-clause-chosen c k low independent =
    c.back_substitute.ensures.free k low
    (ap (λ xs. get_or xs k 0) c.ends_in-ends.ensures ∙ independent_empty _ _ (solvable_opened _ _ c.requires.solvable) c.requires.belongs.laid_out k low independent)
    ∙ c.write_choice.ensures.chosen k (omega arith)
