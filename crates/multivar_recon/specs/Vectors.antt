-- Pairs as lists of residues: the coefficients of the numerator's monomials es, and then those of the denominator's
-- monomials fs.
use Rattle.std.specs.Prelude.{◌≡◌, ◌≢◌, ℕ, suc, ◌+◌, ◌-◌, ◌*◌, ◌%◌, ◌<◌, ◌≤◌, ◌↔◌, List, [], ◌∷◌, length, slice_index, slice_index_or}
use Rattle.poly_maps.specs.Mono.{mono_value}
use Rattle.poly_maps.specs.Polynomial.{value_at}
use Rattle.elim_core.specs.Kept.{Belongs, HasSolution, kept_rows, modulus_of, unknowns_of}
use Rattle.elim_core.specs.Solution.{IsSolution, IsIndependent}
use Rattle.elim_core.specs.declared.Elim.{Elim}

-- the terms with the monomials es and the numbers z 0, z 1 and so on
abbrev pub with_numbers : List (List ℕ) → (ℕ → ℕ) → List (List ℕ × ℕ)
with_numbers [] z = []
with_numbers (e ∷ es) z = (e, z 0) ∷ with_numbers es (λ k. z (suc k))

-- the numerator and the denominator that have these coefficients
abbrev pub num_of : List (List ℕ) → List ℕ → List (List ℕ × ℕ)
num_of es zs = with_numbers es (slice_index zs)

abbrev pub den_of : List (List ℕ) → List (List ℕ) → List ℕ → List (List ℕ × ℕ)
den_of es fs zs = with_numbers fs (λ k. slice_index zs (length es + k))

-- at the point x, v times the denominator's value is the numerator's
abbrev pub AgreesAt : ℕ → List (List ℕ) → List (List ℕ) → List ℕ → ℕ → List ℕ → Type 0
AgreesAt m es fs x v zs = (v * value_at (den_of es fs zs) x) % m ≡ value_at (num_of es zs) x % m

-- the row of an equation that says so: values of es, values of fs times -v, and 0 on the right side
pub record IsSampleRow (m : ℕ) (es fs : List (List ℕ)) (x : List ℕ) (v : ℕ) (row : List ℕ) : Type 0 where
  pub room : length row ≡ length es + length fs + 1
  pub num : (k : ℕ) → k < length es → slice_index row k ≡ mono_value (slice_index_or es k []) x % m
  pub den : (k : ℕ) → k < length fs →
      slice_index row (length es + k) ≡ ((mono_value (slice_index_or fs k []) x % m) * ((m - v) % m)) % m
  pub right : slice_index row (length es + length fs) ≡ 0
  pub residues : (k : ℕ) → k < length row → slice_index row k < m

-- residues, one for each monomial, that agree with the first n samples
pub record AgreesTo (m : ℕ) (es fs : List (List ℕ)) (xs : List (List ℕ)) (vs : List ℕ) (n : ℕ) (zs : List ℕ) : Type 0 where
  pub width : length zs ≡ length es + length fs
  pub residues : (k : ℕ) → k < length es + length fs → slice_index zs k < m
  pub each : (i : ℕ) → i < n → AgreesAt m es fs (slice_index_or xs i []) (slice_index vs i) zs

-- of the first u entries the one at place k is the last that isn't 0
pub record EndsAt (zs : List ℕ) (u k : ℕ) : Type 0 where
  pub within : k < u
  pub some : slice_index zs k ≢ 0
  pub later : (j : ℕ) → k < j → j < u → slice_index zs j ≡ 0

-- the list agrees with all samples and ends with 1 among the denominator's coefficients, and none that agrees ends earlier
pub record IsLeastVector (m : ℕ) (es fs : List (List ℕ)) (xs : List (List ℕ)) (vs : List ℕ) (zs : List ℕ) : Type 0 where
  pub agrees : AgreesTo m es fs xs vs (length xs) zs
  pub place : ℕ
  pub ends : EndsAt zs (length es + length fs) place
  pub one : slice_index zs place ≡ 1
  pub in_den : length es ≤ place
  pub least : (ys : List ℕ) (j : ℕ) → AgreesTo m es fs xs vs (length xs) ys → EndsAt ys (length es + length fs) j → place ≤ j

-- each list that agrees and isn't 0 ends among the denominator's coefficients
abbrev pub IsForced : ℕ → List (List ℕ) → List (List ℕ) → List (List ℕ) → List ℕ → Type 0
IsForced m es fs xs vs = (ys : List ℕ) (j : ℕ) → AgreesTo m es fs xs vs (length xs) ys → EndsAt ys (length es + length fs) j → length es ≤ j

-- no list but zeros agrees
abbrev pub NoneAgrees : ℕ → List (List ℕ) → List (List ℕ) → List (List ℕ) → List ℕ → Type 0
NoneAgrees m es fs xs vs = (ys : List ℕ) (j : ℕ) → AgreesTo m es fs xs vs (length xs) ys → EndsAt ys (length es + length fs) j → ⊥

-- the words are lent to the elimination, and its solutions are the lists that agree with the first n samples
pub record IsSampled (m : ℕ) (es fs : List (List ℕ)) (xs : List (List ℕ)) (vs : List ℕ) (n : ℕ) (kept : Elim) (words : List ℕ) : Type 0 where
  pub belongs : Belongs kept words
  pub same_modulus : modulus_of kept ≡ m
  pub same_unknowns : unknowns_of kept ≡ length es + length fs
  pub solvable : HasSolution m (length es + length fs) (kept_rows kept words)
  pub solutions : (zs : List ℕ) → (IsSolution m (length es + length fs) (kept_rows kept words) zs ↔ AgreesTo m es fs xs vs n zs)

-- no unknown is independent
abbrev pub IsSettled : ℕ → ℕ → List (List ℕ) → Type 0
IsSettled m u rows = (k : ℕ) → k < u → IsIndependent m u rows k → ⊥
