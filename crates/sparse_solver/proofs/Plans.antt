-- What is told of the fields of a plan is told of the plan.
use Rattle.std.proofs.Common.{◌≡◌, ℕ, ◌+◌, ◌*◌, ◌<◌, Bool, List, All, length, sym, subst}
use Rattle.std.specs.Bool.{OnFalse, OnTrue}
use Rattle.prime_field.specs.Residue.{IsPrime}
use Rattle.elim_core.specs.Kept.{HasSolution, kept_rows, modulus_of, unknowns_of}
use Rattle.elim_core.specs.Solved.{IsKept, IsOwnSet, IsSolved}
use Rattle.elim_core.specs.Solver.{AreUnknowns, HasSolverValue, IsSolverList}
use Rattle.elim_core.specs.Sparse.{rows_with}
use Rattle.elim_core.specs.declared.Elim.{Elim}
use Rattle.elim_core.specs.declared.SparseRow.{SparseRow}
use Rattle.elim_core.proofs.KeptRows.{own_kept, residues_kept, solved_kept, undefined_kept}
use Rattle.elim_core.proofs.SameSolutions.{value_solvable}
use Rattle.sparse_solver.specs.Plan.{Plan, set_of}

-- what is told over the fields, of which the plan is made
module _ (plan inner : Plan) (same : inner ≡ plan) (m : ℕ) (values : List ℕ) (rows : List SparseRow) (rows_are : rows ≡ inner.rows) where
  pub kept_plan : (e : Elim) (words : List ℕ) → IsKept e words m inner.unknowns (rows_with inner.unknowns rows values) → IsKept e words m plan.unknowns (rows_with plan.unknowns plan.rows values)
  kept_plan e words kept =
      subst (λ (p : Plan). IsKept e words m p.unknowns (rows_with p.unknowns p.rows values)) same
      (subst (λ (list : List SparseRow). IsKept e words m inner.unknowns (rows_with inner.unknowns list values)) rows_are kept)

  pub unsolvable_plan : (IsPrime m → HasSolution m inner.unknowns (rows_with inner.unknowns rows values) → ⊥) → IsPrime m → HasSolution m plan.unknowns (rows_with plan.unknowns plan.rows values) → ⊥
  unsolvable_plan none prime has =
      none prime
      (subst (λ (list : List SparseRow). HasSolution m inner.unknowns (rows_with inner.unknowns list values)) (sym rows_are)
      (subst (λ (p : Plan). HasSolution m p.unknowns (rows_with p.unknowns p.rows values)) (sym same) has))

  pub untold_plan : 1 < m → (IsPrime m → HasSolution m inner.unknowns (rows_with inner.unknowns rows values) → ⊥) → (set : List ℕ) → IsPrime m → HasSolverValue m plan.unknowns (rows_with plan.unknowns plan.rows values) set → ⊥
  untold_plan large none set prime has = unsolvable_plan none prime (value_solvable m plan.unknowns (rows_with plan.unknowns plan.rows values) set large has)

module _ (plan : Plan) (e : Elim) (words : List ℕ) (m : ℕ) (values : List ℕ) (kept : IsKept e words m plan.unknowns (rows_with plan.unknowns plan.rows values)) (set : List ℕ) (set_is : set ≡ set_of plan) (set_low : AreUnknowns plan.unknowns set) (answer : Bool) where
  module _ (want out : List ℕ) (want_low : AreUnknowns plan.unknowns want) (room : length out ≡ length want * (length set + 1)) (solved : OnTrue answer (IsSolverList (modulus_of e) (unknowns_of e) (kept_rows e words) set want out)) where
    pub solved_plan : OnTrue answer (IsSolved m plan.unknowns (rows_with plan.unknowns plan.rows values) (set_of plan) want out)
    solved_plan =
        subst (λ (s : List ℕ). OnTrue answer (IsSolved m plan.unknowns (rows_with plan.unknowns plan.rows values) s want out)) set_is
        (solved_kept e words m plan.unknowns (rows_with plan.unknowns plan.rows values) kept set want out answer set_low want_low room solved)

    pub residues_plan : OnTrue answer (All (λ x. x < m) out)
    residues_plan = residues_kept e words m plan.unknowns (rows_with plan.unknowns plan.rows values) kept set want out answer set_low want_low room solved

  pub undefined_plan : OnFalse answer (IsPrime (modulus_of e) → HasSolverValue (modulus_of e) (unknowns_of e) (kept_rows e words) set → ⊥) → OnFalse answer (IsPrime m → HasSolverValue m plan.unknowns (rows_with plan.unknowns plan.rows values) (set_of plan) → ⊥)
  undefined_plan undefined =
      subst (λ (s : List ℕ). OnFalse answer (IsPrime m → HasSolverValue m plan.unknowns (rows_with plan.unknowns plan.rows values) s → ⊥)) set_is
      (undefined_kept e words m plan.unknowns (rows_with plan.unknowns plan.rows values) kept set answer undefined)

-- the independent unknowns of what was kept are those of the plan's system
pub own_plan : (plan : Plan) (e : Elim) (words : List ℕ) (m : ℕ) (values set : List ℕ) → IsKept e words m plan.unknowns (rows_with plan.unknowns plan.rows values) → IsOwnSet (modulus_of e) (unknowns_of e) (kept_rows e words) set → IsOwnSet m plan.unknowns (rows_with plan.unknowns plan.rows values) set
own_plan plan e words m values set kept own = own_kept e words m plan.unknowns (rows_with plan.unknowns plan.rows values) kept set own.numbers own.ascending own.independent
