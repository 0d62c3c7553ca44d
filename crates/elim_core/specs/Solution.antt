-- Systems of linear equations modulo m, and what solves them.
use Rattle.std.specs.Prelude.{◌≡◌, ◌≢◌, ℕ, ◌*◌, ◌%◌, ◌<◌, List, All, length, slice_index}
use Rattle.prime_field.specs.Sum.{sum_to}

-- the row a_1, .., a_U, b holds at z_1, .., z_U: a_1 z_1 + .. + a_U z_U leaves b
abbrev pub Satisfies : ℕ → List ℕ → List ℕ → Type 0
Satisfies m row zs =
    sum_to (length zs) (λ k. slice_index row k * slice_index zs k) % m ≡ slice_index row (length zs)

-- zs gives each of the u unknowns a residue, and each row holds at it
pub record IsSolution (m u : ℕ) (rows : List (List ℕ)) (zs : List ℕ) : Type 0 where
  pub width : length zs ≡ u
  pub residues : (k : ℕ) → k < u → slice_index zs k < m
  pub each : All (λ row. Satisfies m row zs) rows

-- two solutions of the rows agree on all unknowns after the one at place j, and differ there
pub record IsIndependent (m u : ℕ) (rows : List (List ℕ)) (j : ℕ) : Type 0 where
  pub one : List ℕ
  pub other : List ℕ
  pub one_solves : IsSolution m u rows one
  pub other_solves : IsSolution m u rows other
  pub agree : (k : ℕ) → j < k → k < u → slice_index one k ≡ slice_index other k
  pub differ : slice_index one j ≢ slice_index other j
