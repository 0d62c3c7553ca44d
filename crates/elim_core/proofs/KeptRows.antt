-- An elimination that absorbs rows one after the other keeps them, and what it tells is told of them.
use Rattle.std.proofs.Common.{◌≡◌, ◌≢◌, ℕ, ◌+◌, ◌*◌, ◌<◌, ◌≤◌, ◌↔◌, Bool, List, [], ◌∷◌, ◌++◌, All, length, take, sym, ◌∙◌, subst, replicate, arith}
use Rattle.std.specs.Bool.{OnFalse, OnTrue}
use Rattle.std.proofs.lemmas.List.{length-replicate, get_or-replicate, take-append-le, take-take}
use Rattle.prime_field.specs.Residue.{IsPrime}
use Rattle.elim_core.specs.Kept.{Belongs, HasSolution, IsAbsorbed, IsFree, kept_rows, modulus_of, unknowns_of}
use Rattle.elim_core.specs.Solution.{IsSolution, Satisfies}
use Rattle.elim_core.specs.Solved.{IsKept, IsOwnSet, IsSolved}
use Rattle.elim_core.specs.Solver.{AreUnknowns, HasSolverValue, IsAscending, IsSolverList, ListsIndependent}
use Rattle.elim_core.specs.declared.Elim.{Elim}
use Rattle.elim_core.specs.declared.Rank.{Rank}
use Rattle.elim_core.specs.declared.Rank.TheVariants.{Same, Contradiction}
use Rattle.elim_core.proofs.Choices.{on_true, on_false, true_of, false_of}
use Rattle.elim_core.proofs.OwnSets.{solved_residues}
use Rattle.elim_core.proofs.SameSolutions.{has_value_along, list_along, set_along, solution_before, solution_more, solution_none}

-- what absorbing a row says of the solutions, over the modulus and the unknowns of a system
pub record Absorbs (m u : ℕ) (old rows : List (List ℕ)) (row : List ℕ) (rank : Rank) : Type 0 where
  pub solutions : IsPrime m → (zs : List ℕ) → (IsSolution m u rows zs ↔ (IsSolution m u old zs × Satisfies m row zs))
  pub kept : rank ≢ Contradiction → (zs : List ℕ) → (IsSolution m u rows zs ↔ (IsSolution m u old zs × Satisfies m row zs))
  pub contradiction : rank ≡ Contradiction → (zs : List ℕ) → IsSolution m u rows zs → ⊥
  pub solvable : rank ≢ Contradiction → HasSolution m u rows
  pub same : rank ≡ Same → (zs : List ℕ) → IsSolution m u old zs → Satisfies m row zs

pub absorbs : (m u : ℕ) (old now : Elim) (old_words words row : List ℕ) (rank : Rank) → modulus_of old ≡ m → unknowns_of old ≡ u → IsAbsorbed old old_words now words row rank → Absorbs m u (kept_rows old old_words) (kept_rows now words) row rank
absorbs m u old now old_words words row rank m_is u_is is =
    subst (λ (k : ℕ). Absorbs k u (kept_rows old old_words) (kept_rows now words) row rank) m_is
    (subst (λ (k : ℕ). Absorbs (modulus_of old) k (kept_rows old old_words) (kept_rows now words) row rank) u_is
    (record { solutions = is.solutions; kept = is.kept; contradiction = is.contradiction; solvable = is.solvable; same = is.same }))

-- what was written to the front of a list
pub front_taken : (count len : ℕ) (out rest : List ℕ) → count ≤ length out → count ≤ len → take count (take len (out ++ rest)) ≡ take count out
front_taken count len out rest within below = take-take count len (out ++ rest) below ∙ take-append-le count out rest within

-- no row is kept yet
pub kept_start : (e : Elim) (words : List ℕ) (m u : ℕ) → 1 < m → Belongs e words → (unknowns_of e ≡ u) × (modulus_of e ≡ m) → IsFree m u (kept_rows e words) → IsKept e words m u []
kept_start e words m u large belongs kind free = record {
  belongs = belongs;
  same_modulus = kind.1;
  same_unknowns = kind.0;
  solvable = record { zs = replicate u 0; solves = free (replicate u 0) (length-replicate u 0) (λ k low. omega (arith, get_or-replicate {A = ℕ} u k 0 0 low)) };
  solutions = λ zs. (λ s. solution_none m u zs s.width s.residues, λ s. free zs s.width s.residues);
}

-- the kept rows are others with the same solutions
pub kept_along : (e : Elim) (words : List ℕ) (m u : ℕ) (rows others : List (List ℕ)) → ((zs : List ℕ) → (IsSolution m u rows zs ↔ IsSolution m u others zs)) → IsKept e words m u rows → IsKept e words m u others
kept_along e words m u rows others same kept = record {
  belongs = kept.belongs;
  same_modulus = kept.same_modulus;
  same_unknowns = kept.same_unknowns;
  solvable = kept.solvable;
  solutions = λ zs. (λ s. (same zs).0 ((kept.solutions zs).0 s), λ s. (kept.solutions zs).1 ((same zs).1 s));
}

-- rows that are kept have a solution
pub rows_solvable : (e : Elim) (words : List ℕ) (m u : ℕ) (rows : List (List ℕ)) → IsKept e words m u rows → HasSolution m u rows
rows_solvable e words m u rows kept = record { zs = kept.solvable.zs; solves = (kept.solutions kept.solvable.zs).0 kept.solvable.solves }

module _ (old now : Elim) (old_words words : List ℕ) (m u : ℕ) (rows : List (List ℕ)) (row : List ℕ) (rank : Rank) (kept : IsKept old old_words m u rows) (is : IsAbsorbed old old_words now words row rank) where
  step : Absorbs m u (kept_rows old old_words) (kept_rows now words) row rank
  step = absorbs m u old now old_words words row rank kept.same_modulus kept.same_unknowns is

  -- one row more is kept
  pub kept_more : Belongs now words → (unknowns_of now ≡ unknowns_of old) × (modulus_of now ≡ modulus_of old) → rank ≢ Contradiction → IsKept now words m u (rows ++ row ∷ [])
  kept_more belongs kind some = record {
    belongs = belongs;
    same_modulus = kind.1 ∙ kept.same_modulus;
    same_unknowns = kind.0 ∙ kept.same_unknowns;
    solvable = step.solvable some;
    solutions = λ zs. (
      λ s. let both = (step.kept some zs).0 s in solution_more m u rows row zs ((kept.solutions zs).0 both.0) both.1,
      λ s. let both = solution_before m u rows row zs s in (step.kept some zs).1 ((kept.solutions zs).1 both.0, both.1),
    );
  }

  -- where a row leaves no solution, none of the rows before it satisfies it
  pub none_left : rank ≡ Contradiction → IsPrime m → (zs : List ℕ) → IsSolution m u rows zs → Satisfies m row zs → ⊥
  none_left none prime zs solves satisfies = step.contradiction none zs ((step.solutions prime zs).1 ((kept.solutions zs).1 solves, satisfies))

-- what is solved over the kept rows is solved over all rows
module _ (e : Elim) (words : List ℕ) (m u : ℕ) (rows : List (List ℕ)) (kept : IsKept e words m u rows) where
  pub solved_kept : (set want out : List ℕ) (answer : Bool) → AreUnknowns u set → AreUnknowns u want → length out ≡ length want * (length set + 1) → OnTrue answer (IsSolverList (modulus_of e) (unknowns_of e) (kept_rows e words) set want out) → OnTrue answer (IsSolved m u rows set want out)
  solved_kept set want out answer set_low want_low room solved = on_true answer (IsSolved m u rows set want out) (λ yes_is. record {
    told_by = set_low;
    wanted = want_low;
    room = room;
    solved = list_along m u (kept_rows e words) rows kept.solutions set want out (list_kept set want out (true_of answer (IsSolverList (modulus_of e) (unknowns_of e) (kept_rows e words) set want out) solved yes_is));
  })
    where
      list_kept : (set want out : List ℕ) → IsSolverList (modulus_of e) (unknowns_of e) (kept_rows e words) set want out → IsSolverList m u (kept_rows e words) set want out
      list_kept set want out is = subst (λ (k : ℕ). IsSolverList k u (kept_rows e words) set want out) kept.same_modulus (subst (λ (k : ℕ). IsSolverList (modulus_of e) k (kept_rows e words) set want out) kept.same_unknowns is)

  pub undefined_kept : (set : List ℕ) (answer : Bool) → OnFalse answer (IsPrime (modulus_of e) → HasSolverValue (modulus_of e) (unknowns_of e) (kept_rows e words) set → ⊥) → OnFalse answer (IsPrime m → HasSolverValue m u rows set → ⊥)
  undefined_kept set answer undefined = on_false answer (IsPrime m → HasSolverValue m u rows set → ⊥) (λ no_is prime has.
      let none = false_of answer (IsPrime (modulus_of e) → HasSolverValue (modulus_of e) (unknowns_of e) (kept_rows e words) set → ⊥) undefined no_is in
      let here : IsPrime m → HasSolverValue m u (kept_rows e words) set → ⊥ =
      subst (λ (k : ℕ). IsPrime k → HasSolverValue k u (kept_rows e words) set → ⊥) kept.same_modulus (subst (λ (k : ℕ). IsPrime (modulus_of e) → HasSolverValue (modulus_of e) k (kept_rows e words) set → ⊥) kept.same_unknowns none) in
      here prime (has_value_along m u rows (kept_rows e words) (λ zs. ((kept.solutions zs).1, (kept.solutions zs).0)) set has))

  pub residues_kept : (set want out : List ℕ) (answer : Bool) → AreUnknowns u set → AreUnknowns u want → length out ≡ length want * (length set + 1) → OnTrue answer (IsSolverList (modulus_of e) (unknowns_of e) (kept_rows e words) set want out) → OnTrue answer (All (λ x. x < m) out)
  residues_kept set want out answer set_low want_low room solved = on_true answer (All (λ x. x < m) out) (λ yes_is.
      let is = true_of answer (IsSolverList (modulus_of e) (unknowns_of e) (kept_rows e words) set want out) solved yes_is in
      solved_residues m u (kept_rows e words) set want out set_low want_low room
      (subst (λ (k : ℕ). IsSolverList k u (kept_rows e words) set want out) kept.same_modulus (subst (λ (k : ℕ). IsSolverList (modulus_of e) k (kept_rows e words) set want out) kept.same_unknowns is)))

  -- the independent unknowns of the kept rows are those of all rows
  pub own_kept : (set : List ℕ) → AreUnknowns (unknowns_of e) set → IsAscending set → ListsIndependent (modulus_of e) (unknowns_of e) (kept_rows e words) set → IsOwnSet m u rows set
  own_kept set numbers ascending lists = record {
    ascending = ascending;
    numbers = subst (λ (k : ℕ). AreUnknowns k set) kept.same_unknowns numbers;
    independent = set_along m u (kept_rows e words) rows set kept.solutions
        (subst (λ (k : ℕ). ListsIndependent k u (kept_rows e words) set) kept.same_modulus (subst (λ (k : ℕ). ListsIndependent (modulus_of e) k (kept_rows e words) set) kept.same_unknowns lists));
  }

  -- what solves the kept rows solves all rows
  pub solution_kept : (zs : List ℕ) → IsSolution (modulus_of e) (unknowns_of e) (kept_rows e words) zs → IsSolution m u rows zs
  solution_kept zs s =
      (kept.solutions zs).0 (subst (λ (k : ℕ). IsSolution k u (kept_rows e words) zs) kept.same_modulus (subst (λ (k : ℕ). IsSolution (modulus_of e) k (kept_rows e words) zs) kept.same_unknowns s))

  -- where all is asked of the kept rows that a system with a solution needs
  pub solvable_kept : HasSolution (modulus_of e) (unknowns_of e) (kept_rows e words)
  solvable_kept = subst (λ (k : ℕ). HasSolution k (unknowns_of e) (kept_rows e words)) (sym kept.same_modulus) (subst (λ (k : ℕ). HasSolution m k (kept_rows e words)) (sym kept.same_unknowns) kept.solvable)
