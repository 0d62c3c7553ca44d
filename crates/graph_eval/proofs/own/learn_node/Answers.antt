-- A sparse system learned its plan, or has no solution.
use Rattle.std.proofs.Common.{◌≡◌, ℕ, List, true, false, length, Some, subst}
use Rattle.prime_field.specs.Modulus.{value_of}
use Rattle.prime_field.specs.Residue.{IsPrime}
use Rattle.prime_field.proofs.Moduli.{value_of-large}
use Rattle.elim_core.specs.Kept.{HasSolution}
use Rattle.elim_core.specs.Sparse.{entries_of, rows_with}
use Rattle.elim_core.specs.declared.SparseRow.{SparseRow}
use Rattle.graph_eval.specs.Learned.{plan_over}
use Rattle.graph_eval.proofs.OwnLaws.{sparse_plan}
use Rattle.graph_eval.proofs.own.learn_node.Goals as goal

pub returns-in_ok-sparse_learned-in-Sparse-clause-plan : goal.returns-in_ok-sparse_learned-in-Sparse-clause-plan
returns-in_ok-sparse_learned-in-Sparse-clause-plan c =
    let m = value_of c.args.m in
    let own = c.in_ok-sparse_learned-in-Sparse.field-0 in
    let unknowns = c.in-Sparse.unknowns in
    sparse_plan m c.args.words.now c.args.places.now c.args.node.now own c.in-Sparse.from unknowns c.in-Sparse.want c.in-Sparse.rows (value_of-large c.args.m) c.if-not-node.false c.in-Sparse.is
    (subst (λ (rows : List SparseRow). own.planned ≡ true → own.plan ≡ Some (plan_over unknowns rows own.set)) c.as_slice-rows.ensures c.in_ok-sparse_learned-in-Sparse.ensures.planned)
    (subst (λ (list : List ℕ). own.planned ≡ false → length list ≡ entries_of c.in-Sparse.rows → IsPrime m → HasSolution m unknowns (rows_with unknowns c.in-Sparse.rows list) → ⊥) c.placed-list-in-Sparse.ensures
    (subst (λ (rows : List SparseRow). own.planned ≡ false → length c.placed-list-in-Sparse.result.now ≡ entries_of rows → IsPrime m → HasSolution m unknowns (rows_with unknowns rows c.placed-list-in-Sparse.result.now) → ⊥) c.as_slice-rows.ensures c.in_ok-sparse_learned-in-Sparse.ensures.unsolvable))
