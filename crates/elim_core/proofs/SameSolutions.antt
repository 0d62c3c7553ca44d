-- Rows with the same solutions, and what one row more leaves.
use Rattle.std.proofs.Common.{◌≡◌, ℕ, ◌+◌, ◌<◌, ◌↔◌, ◌∷◌, ◌++◌, List, [], All, length, get_or, arith}
use Rattle.std.proofs.lemmas.List.Elements.{All-head, All-tail, All-cons, All-nil, All-push}
use Rattle.elim_core.specs.Kept.{HasSolution}
use Rattle.elim_core.specs.Solution.{IsSolution, Satisfies, IsIndependent}
use Rattle.elim_core.specs.Solver.{HasSolverValue, IsSolverList, IsSolverValue, ListsIndependent, has_number}
use Rattle.elim_core.proofs.Lists.{listed}
use Rattle.elim_core.proofs.Solvers.{list_tells}
use Rattle.elim_core.proofs.Told.{told, told_solves}

-- what solves rows and one row more
all_before : {X : Type 0} (P : X → Type 0) (xs : List X) (x : X) → All P (xs ++ x ∷ []) → All P xs × P x
all_before P [] x all = (All-nil P, All-head P x [] all)
all_before P (y ∷ xs) x all =
    let later = all_before P xs x (All-tail P y (xs ++ x ∷ []) all) in
    (All-cons P y xs (All-head P y (xs ++ x ∷ []) all) later.0, later.1)

pub solution_before : (m u : ℕ) (rows : List (List ℕ)) (row zs : List ℕ) → IsSolution m u (rows ++ row ∷ []) zs → IsSolution m u rows zs × Satisfies m row zs
solution_before m u rows row zs s =
    let both = all_before (λ r. Satisfies m r zs) rows row s.each in
    (record { width = s.width; residues = s.residues; each = both.0 }, both.1)

pub solution_more : (m u : ℕ) (rows : List (List ℕ)) (row zs : List ℕ) → IsSolution m u rows zs → Satisfies m row zs → IsSolution m u (rows ++ row ∷ []) zs
solution_more m u rows row zs s satisfies = record { width = s.width; residues = s.residues; each = All-push (λ r. Satisfies m r zs) rows row s.each satisfies }

-- each list of residues solves no rows
pub solution_none : (m u : ℕ) (zs : List ℕ) → length zs ≡ u → ((k : ℕ) → k < u → get_or zs k 0 < m) → IsSolution m u [] zs
solution_none m u zs width low = record { width = width; residues = low; each = All-nil (λ r. Satisfies m r zs) }

-- what is said of the solutions of rows holds of rows with the same solutions
module _ (m u : ℕ) (rows others : List (List ℕ)) (same : (zs : List ℕ) → (IsSolution m u rows zs ↔ IsSolution m u others zs)) where
  pub value_along : (set : List ℕ) (c : ℕ → ℕ → ℕ) (d : ℕ → ℕ) → IsSolverValue m u rows set c d → IsSolverValue m u others set c d
  value_along set c d is = record {
    residues = is.residues;
    constants = is.constants;
    outside = is.outside;
    own = is.own;
    own_others = is.own_others;
    own_constant = is.own_constant;
    exact = λ zs width low. (
      λ solves. (is.exact zs width low).0 ((same zs).1 solves),
      λ told_so. (same zs).0 ((is.exact zs width low).1 told_so),
    );
  }

  pub has_value_along : (set : List ℕ) → HasSolverValue m u rows set → HasSolverValue m u others set
  has_value_along set has = record { multiples = has.multiples; constant = has.constant; tells = value_along set has.multiples has.constant has.tells }

  pub list_along : (set want out : List ℕ) → IsSolverList m u rows set want out → IsSolverList m u others set want out
  list_along set want out is = record { c = is.c; d = is.d; tells = value_along set is.c is.d is.tells; multiples = is.multiples; constants = is.constants }

  pub independent_along : (k : ℕ) → IsIndependent m u rows k → IsIndependent m u others k
  independent_along k is = record {
    one = is.one;
    other = is.other;
    one_solves = (same is.one).0 is.one_solves;
    other_solves = (same is.other).0 is.other_solves;
    agree = is.agree;
    differ = is.differ;
  }

  pub solvable_along : HasSolution m u rows → HasSolution m u others
  solvable_along has = record { zs = has.zs; solves = (same has.zs).0 has.solves }

pub set_along : (m u : ℕ) (rows others : List (List ℕ)) (set : List ℕ) → ((zs : List ℕ) → (IsSolution m u rows zs ↔ IsSolution m u others zs)) → ListsIndependent m u rows set → ListsIndependent m u others set
set_along m u rows others set same lists k low = (
  λ has. independent_along m u rows others same k ((lists k low).0 has),
  λ is. (lists k low).1 (independent_along m u others rows (λ zs. ((same zs).1, (same zs).0)) k is),
)

-- a system with values over some set has a solution
pub value_solvable : (m u : ℕ) (rows : List (List ℕ)) (set : List ℕ) → 1 < m → HasSolverValue m u rows set → HasSolution m u rows
value_solvable m u rows set large has =
    let t = list_tells m u rows set has.multiples has.constant has.tells in
    record {
      zs = listed u (told m u (λ z. IsSolution m u rows (listed u z)) (λ k. has_number set (k + 1)) has.multiples has.constant large t (λ k. 0));
      solves = told_solves m u (λ z. IsSolution m u rows (listed u z)) (λ k. has_number set (k + 1)) has.multiples has.constant large t (λ k. 0) (λ k low. omega arith);
    }
