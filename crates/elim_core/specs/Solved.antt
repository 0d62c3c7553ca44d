-- What is told of a system: its values over a set, its own set, and an elimination that keeps it.
use Rattle.std.specs.Prelude.{◌≡◌, ℕ, ◌+◌, ◌*◌, ◌↔◌, List, length}
use Rattle.elim_core.specs.Kept.{Belongs, HasSolution, kept_rows, modulus_of, unknowns_of}
use Rattle.elim_core.specs.Solution.{IsSolution}
use Rattle.elim_core.specs.Solver.{AreUnknowns, IsAscending, IsSolverList, ListsIndependent}
use Rattle.elim_core.specs.declared.Elim.{Elim}

-- these values tell the wanted unknowns of the system by those of the set: for each of them, in the order of `want`, its
-- numbers for the unknowns of the set and then its constant
pub record IsSolved (m unknowns : ℕ) (rows : List (List ℕ)) (set want values : List ℕ) : Type 0 where
  pub told_by : AreUnknowns unknowns set
  pub wanted : AreUnknowns unknowns want
  pub room : length values ≡ length want * (length set + 1)
  pub solved : IsSolverList m unknowns rows set want values

-- the set holds the independent unknowns of the system, ascending
pub record IsOwnSet (m unknowns : ℕ) (rows : List (List ℕ)) (set : List ℕ) : Type 0 where
  pub ascending : IsAscending set
  pub numbers : AreUnknowns unknowns set
  pub independent : ListsIndependent m unknowns rows set

-- the words belong to the elimination, whose solutions are those of the rows, and there is one
pub record IsKept (kept : Elim) (words : List ℕ) (m unknowns : ℕ) (rows : List (List ℕ)) : Type 0 where
  pub belongs : Belongs kept words
  pub same_modulus : modulus_of kept ≡ m
  pub same_unknowns : unknowns_of kept ≡ unknowns
  pub solvable : HasSolution m unknowns (kept_rows kept words)
  pub solutions : (zs : List ℕ) → (IsSolution m unknowns (kept_rows kept words) zs ↔ IsSolution m unknowns rows zs)
