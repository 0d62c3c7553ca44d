-- What is solved over the kept rows is solved over all rows.
use Rattle.std.proofs.Common.{◌≡◌, ℕ, ◌+◌, ◌*◌, List, length, sym, ◌∙◌, ap, subst, arith}
use Rattle.prime_field.specs.Modulus.{value_of}
use Rattle.prime_field.proofs.Moduli.{value_of-large}
use Rattle.elim_core.specs.Solver.{AreUnknowns}
use Rattle.sparse_solver.specs.Plan.{Plan, set_of}
use Rattle.sparse_solver.proofs.Plans.{kept_plan, residues_plan, solved_plan, undefined_plan, untold_plan}
use Rattle.sparse_solver.proofs.plan.SparsePlan.solve_anew.Goals as goal

pub returns-in-Some-clause-solved : goal.returns-in-Some-clause-solved
returns-in-Some-clause-solved c =
    let set_is : c.learned_set-set.result.now ≡ set_of c.args.self.now = c.learned_set-set.ensures ∙ ap set_of c.self.view_is in
    let numbers : AreUnknowns c.args.self.now.unknowns c.learned_set-set.result.now =
    subst (λ (set : List ℕ). AreUnknowns c.args.self.now.unknowns set) (sym set_is) (subst (λ (plan : Plan). AreUnknowns plan.unknowns (set_of plan)) c.self.view_is c.self.invariant.numbers) in
    let room : length c.solve_over.new.out ≡ length c.args.want.now * (length c.learned_set-set.result.now + 1) =
    omega (arith, c.requires.room, ap (λ set. length c.args.want.now * (length set + 1)) set_is, c.solve_over.auto.out) in
    solved_plan c.args.self.now c.in-Some.elimination c.absorb_rows.new.words (value_of c.args.m) c.args.values.now
    (kept_plan c.args.self.now _ c.self.view_is (value_of c.args.m) c.args.values.now _ c.as_slice-rows.ensures c.in-Some.elimination c.absorb_rows.new.words c.in-Some.ensures.kept)
    _ set_is numbers c.solve_over.result c.args.want.now c.solve_over.new.out c.requires.want room c.solve_over.ensures.solved

pub returns-in-Some-clause-undefined : goal.returns-in-Some-clause-undefined
returns-in-Some-clause-undefined c =
    let set_is : c.learned_set-set.result.now ≡ set_of c.args.self.now = c.learned_set-set.ensures ∙ ap set_of c.self.view_is in
    let numbers : AreUnknowns c.args.self.now.unknowns c.learned_set-set.result.now =
    subst (λ (set : List ℕ). AreUnknowns c.args.self.now.unknowns set) (sym set_is) (subst (λ (plan : Plan). AreUnknowns plan.unknowns (set_of plan)) c.self.view_is c.self.invariant.numbers) in
    undefined_plan c.args.self.now c.in-Some.elimination c.absorb_rows.new.words (value_of c.args.m) c.args.values.now
    (kept_plan c.args.self.now _ c.self.view_is (value_of c.args.m) c.args.values.now _ c.as_slice-rows.ensures c.in-Some.elimination c.absorb_rows.new.words c.in-Some.ensures.kept)
    _ set_is numbers c.solve_over.result c.solve_over.ensures.undefined

pub returns-in-Some-clause-residues : goal.returns-in-Some-clause-residues
returns-in-Some-clause-residues c =
    let set_is : c.learned_set-set.result.now ≡ set_of c.args.self.now = c.learned_set-set.ensures ∙ ap set_of c.self.view_is in
    let numbers : AreUnknowns c.args.self.now.unknowns c.learned_set-set.result.now =
    subst (λ (set : List ℕ). AreUnknowns c.args.self.now.unknowns set) (sym set_is) (subst (λ (plan : Plan). AreUnknowns plan.unknowns (set_of plan)) c.self.view_is c.self.invariant.numbers) in
    let room : length c.solve_over.new.out ≡ length c.args.want.now * (length c.learned_set-set.result.now + 1) =
    omega (arith, c.requires.room, ap (λ set. length c.args.want.now * (length set + 1)) set_is, c.solve_over.auto.out) in
    residues_plan c.args.self.now c.in-Some.elimination c.absorb_rows.new.words (value_of c.args.m) c.args.values.now
    (kept_plan c.args.self.now _ c.self.view_is (value_of c.args.m) c.args.values.now _ c.as_slice-rows.ensures c.in-Some.elimination c.absorb_rows.new.words c.in-Some.ensures.kept)
    _ set_is numbers c.solve_over.result c.args.want.now c.solve_over.new.out c.requires.want room c.solve_over.ensures.solved

pub returns-in-None-clause-undefined : goal.returns-in-None-clause-undefined
returns-in-None-clause-undefined c =
    untold_plan c.args.self.now _ c.self.view_is (value_of c.args.m) c.args.values.now _ c.as_slice-rows.ensures (value_of-large c.args.m) c.in-None.ensures.unsolvable (set_of c.args.self.now)
