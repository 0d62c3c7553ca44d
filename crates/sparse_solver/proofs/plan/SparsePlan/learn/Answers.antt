-- The independent unknowns of what was kept are those of all rows.
use Rattle.std.proofs.Common.{rules}
use Rattle.prime_field.specs.Modulus.{value_of}
use Rattle.elim_core.specs.Solved.{IsKept}
use Rattle.elim_core.specs.Sparse.{rows_with}
use Rattle.sparse_solver.proofs.Plans.{kept_plan, own_plan}
use Rattle.sparse_solver.proofs.plan.SparsePlan.learn.Goals as goal

pub returns-clause-own : goal.returns-clause-own
returns-clause-own c =
    let e = c.in-Some.elimination in
    let kept : IsKept c.in-Some.elimination c.learn_rows.new.words (value_of c.args.m) c.self.inside.unknowns (rows_with c.self.inside.unknowns c.as_slice.result.now c.args.values.now) = search rules in
    own_plan c.args.self.now e c.learn_rows.new.words (value_of c.args.m) c.args.values.now _
    (kept_plan c.args.self.now _ c.self.view_is (value_of c.args.m) c.args.values.now _ c.as_slice.ensures e c.learn_rows.new.words kept)
    c.in_ok-set.ensures
