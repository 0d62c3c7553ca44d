-- The values of a solver: unknowns as sums of multiples of others that may be chosen freely.
use Rattle.std.specs.Prelude.{◌≡◌, ◌≢◌, ℕ, zero, suc, ◌+◌, ◌-◌, ◌*◌, ◌%◌, ◌<◌, ◌↔◌, Bool, true, false, ◌==◌, ◌||◌, List, [], ◌∷◌, length, slice_index}
use Rattle.prime_field.specs.Sum.{sum_to}
use Rattle.elim_core.specs.Solution.{IsSolution, IsIndependent}

-- whether the number k stands in the list
abbrev pub has_number : List ℕ → ℕ → Bool
has_number [] k = false
has_number (x ∷ xs) k = (x == k) || has_number xs k

-- the numbers of the list ascend
abbrev pub IsAscending : List ℕ → Type 0
IsAscending xs = (i j : ℕ) → i < j → j < length xs → slice_index xs i < slice_index xs j

-- each number of the list is that of an unknown; unknowns are numbered from 1
abbrev pub AreUnknowns : ℕ → List ℕ → Type 0
AreUnknowns u xs = (i : ℕ) → i < length xs → (0 < slice_index xs i) × (slice_index xs i < u + 1)

-- with c and d each unknown is told by those of `set`: the solutions are the lists z of residues with
-- z_j = (the sum of c_jk z_k over the unknowns k of `set`) + d_j for each j, whatever the choice on `set`.
-- Places count from 0, so the unknown at place k has number k + 1; c is 0 outside `set`, and within it
-- each unknown is told by itself
pub record IsSolverValue (m u : ℕ) (rows : List (List ℕ)) (set : List ℕ) (c : ℕ → ℕ → ℕ) (d : ℕ → ℕ) : Type 0 where
  pub residues : (j k : ℕ) → j < u → k < u → c j k < m
  pub constants : (j : ℕ) → j < u → d j < m
  pub outside : (j k : ℕ) → j < u → k < u → has_number set (k + 1) ≡ false → c j k ≡ 0
  pub own : (j : ℕ) → j < u → has_number set (j + 1) ≡ true → c j j ≡ 1
  pub own_others : (j k : ℕ) → j < u → k < u → has_number set (j + 1) ≡ true → j ≢ k → c j k ≡ 0
  pub own_constant : (j : ℕ) → j < u → has_number set (j + 1) ≡ true → d j ≡ 0
  pub exact : (zs : List ℕ) → length zs ≡ u → ((k : ℕ) → k < u → slice_index zs k < m) →
      (IsSolution m u rows zs ↔
      ((j : ℕ) → j < u → slice_index zs j ≡ (sum_to u (λ k. c j k * slice_index zs k) + d j) % m))

-- the number for the unknown k of the set in what tells the unknown at place j, or the constant where k is 0
abbrev pub number_at : (ℕ → ℕ → ℕ) → (ℕ → ℕ) → ℕ → ℕ → ℕ
number_at c d j zero = d j
number_at c d j (suc k) = c j k

-- there is a solver value over the set
pub record HasSolverValue (m u : ℕ) (rows : List (List ℕ)) (set : List ℕ) : Type 0 where
  pub multiples : ℕ → ℕ → ℕ
  pub constant : ℕ → ℕ
  pub tells : IsSolverValue m u rows set multiples constant

-- the numbers of the list are those of the independent unknowns
abbrev pub ListsIndependent : (m u : ℕ) → List (List ℕ) → List ℕ → Type 0
ListsIndependent m u rows set = (k : ℕ) → k < u → ((has_number set (k + 1) ≡ true) ↔ IsIndependent m u rows k)

-- the number for the unknown k, or the constant where k is 0, in what tells the unknown j by those of the set
pub record IsCoefficient (m u : ℕ) (rows : List (List ℕ)) (set : List ℕ) (j k number : ℕ) : Type 0 where
  pub c : ℕ → ℕ → ℕ
  pub d : ℕ → ℕ
  pub tells : IsSolverValue m u rows set c d
  pub is : number ≡ number_at c d (j - 1) k

-- the list has, for each wanted unknown, the numbers for the unknowns of the set and then the constant
pub record IsSolverList (m u : ℕ) (rows : List (List ℕ)) (set want out : List ℕ) : Type 0 where
  pub c : ℕ → ℕ → ℕ
  pub d : ℕ → ℕ
  pub tells : IsSolverValue m u rows set c d
  pub multiples : (t i : ℕ) → t < length want → i < length set →
      slice_index out (t * (length set + 1) + i) ≡ c (slice_index want t - 1) (slice_index set i - 1)
  pub constants : (t : ℕ) → t < length want →
      slice_index out (t * (length set + 1) + length set) ≡ d (slice_index want t - 1)
