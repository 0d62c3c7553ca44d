-- The independent unknowns of the kept rows are those of all rows.
use Rattle.std.proofs.Common.{List, ℕ, sym, ◌∙◌, subst, arith}
use Rattle.prime_field.specs.Modulus.{value_of}
use Rattle.prime_field.specs.Residue.{IsPrime}
use Rattle.elim_core.specs.Solver.{IsAscending}
use Rattle.elim_core.specs.Solved.{IsOwnSet}
use Rattle.graph_eval.specs.Systems.{rows_in}
use Rattle.elim_core.proofs.KeptRows.{front_taken, own_kept}
use Rattle.graph_eval.proofs.systems.own_set.Goals as goal

pub returns-clause-own : goal.returns-clause-own
returns-clause-own c =
    let taken = c.from_vec.ensures ∙ c.truncate.ensures.items ∙ front_taken _ _ c.independents-count.new.out _ (omega (arith, c.independents-count.ensures.count, c.in-Some.ensures.kept.same_unknowns, c.independents-count.auto.out, c.as_mut_slice.ensures.len, c.in_ok-set.ensures.len)) (omega (arith, c.independents-count.ensures.count, c.in-Some.ensures.kept.same_unknowns, c.independents-count.auto.out, c.as_mut_slice.ensures.len, c.in_ok-set.ensures.len)) in
    subst (λ (set : List ℕ). IsPrime (value_of c.args.m) → IsOwnSet (value_of c.args.m) c.args.unknowns (rows_in c.args.rows c.args.unknowns c.args.list.now) set) (sym taken)
    (λ prime. own_kept _ _ (value_of c.args.m) c.args.unknowns (rows_in c.args.rows c.args.unknowns c.args.list.now) c.in-Some.ensures.kept _ c.independents-count.ensures.numbers c.independents-count.ensures.ascending c.independents-count.ensures.listed)

pub returns-clause-ascending : goal.returns-clause-ascending
returns-clause-ascending c =
    let taken = c.from_vec.ensures ∙ c.truncate.ensures.items ∙ front_taken _ _ c.independents-count.new.out _ (omega (arith, c.independents-count.ensures.count, c.in-Some.ensures.kept.same_unknowns, c.independents-count.auto.out, c.as_mut_slice.ensures.len, c.in_ok-set.ensures.len)) (omega (arith, c.independents-count.ensures.count, c.in-Some.ensures.kept.same_unknowns, c.independents-count.auto.out, c.as_mut_slice.ensures.len, c.in_ok-set.ensures.len)) in
    subst IsAscending (sym taken) c.independents-count.ensures.ascending
