-- What the vectors tell is told of the system.
use Rattle.std.proofs.Common.{◌≡◌, ◌*◌, ◌%◌, ◌<◌, ℕ, length, get_or, ◌∙◌, subst}
use Rattle.elim_core.proofs.Choices.{on_true, true_of}
use Rattle.sparse_solver.specs.Steps.{kept_in}
use Rattle.sparse_solver.specs.Told.{HasColumns}
use Rattle.sparse_solver.proofs.Told.{list_residues, list_told}
use Rattle.sparse_solver.proofs.replay.replay_by.Goals as goal

pub returns-clause-solved : goal.returns-clause-solved
returns-clause-solved g c = on_true c.solve_vectors.result _ (λ yes.
    let m = g.F.Field.modulus in
    let columns = true_of c.solve_vectors.result (HasColumns m c.args.unknowns c.args.steps.now c.args.rows.now c.args.starts.now c.args.values.now c.args.set.now c.args.want.now (length c.args.set.now) c.solve_vectors.new.out) c.solve_vectors.ensures.told yes in
    list_told m c.args.unknowns c.args.rows.now c.args.starts.now c.args.values.now c.args.steps.now c.args.set.now c.args.want.now c.keep_all.new.kept c.invert_leads.new.inverses c.solve_vectors.new.out
    g.met.F.Field.large c.requires.sparse c.requires.starts c.requires.entries (λ i low. c.requires.residues i 0 low) c.requires.steps c.requires.ascending c.requires.set c.requires.want
    (c.solve_vectors.ensures.room ∙ c.requires.room) c.if-not-keep_all.ensures.vanish (subst (λ (n : ℕ). (t : ℕ) → t < kept_in c.args.steps.now → (get_or c.keep_all.new.kept (get_or c.args.steps.now.leads.items t 0) 0 * get_or c.invert_leads.new.inverses t 0) % n ≡ 1) c.requires.modulus c.if-not-invert_leads.ensures.units) columns)

pub returns-clause-residues : goal.returns-clause-residues
returns-clause-residues g c = on_true c.solve_vectors.result _ (λ yes.
    let m = g.F.Field.modulus in
    let columns = true_of c.solve_vectors.result (HasColumns m c.args.unknowns c.args.steps.now c.args.rows.now c.args.starts.now c.args.values.now c.args.set.now c.args.want.now (length c.args.set.now) c.solve_vectors.new.out) c.solve_vectors.ensures.told yes in
    list_residues m c.args.unknowns c.args.rows.now c.args.starts.now c.args.values.now c.args.steps.now c.args.set.now c.args.want.now c.keep_all.new.kept c.invert_leads.new.inverses c.solve_vectors.new.out
    g.met.F.Field.large c.requires.sparse c.requires.starts c.requires.entries (λ i low. c.requires.residues i 0 low) c.requires.steps c.requires.ascending c.requires.set c.requires.want
    (c.solve_vectors.ensures.room ∙ c.requires.room) c.if-not-keep_all.ensures.vanish (subst (λ (n : ℕ). (t : ℕ) → t < kept_in c.args.steps.now → (get_or c.keep_all.new.kept (get_or c.args.steps.now.leads.items t 0) 0 * get_or c.invert_leads.new.inverses t 0) % n ≡ 1) c.requires.modulus c.if-not-invert_leads.ensures.units) columns)
