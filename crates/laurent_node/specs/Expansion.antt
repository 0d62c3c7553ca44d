-- The first coefficients of the expansion of a quotient at 0. Orders may be negative; they are counted from -64, and the
-- place of an order is its distance from there.
use Rattle.std.specs.Prelude.{◌≡◌, ◌≢◌, ℕ, ℤ, pos, negsuc, ◌+◌, ◌-◌, ◌%◌, ◌<◌, List, length, slice_index, nat_lt, if◌then◌else◌}
use Rattle.univariate.specs.Coefficients.{product_of, raised, AreResidues}

-- the place of an order
abbrev pub place : ℤ → ℕ
place (pos k) = 64 + k
place (negsuc k) = 63 - k

-- the numerator's coefficient at a place: 0 at negative orders
abbrev pub numerator_at : List ℕ → ℕ → ℕ
numerator_at num j = if nat_lt j 64 then 0 else slice_index num (j - 64)

-- e is the least exponent at which the polynomial has a coefficient that isn't 0
abbrev pub IsLeastExponent : ℕ → List ℕ → Type 0
IsLeastExponent e p = (slice_index p e ≢ 0) × ((k : ℕ) → k < e → slice_index p k ≡ 0)

-- modulo m the denominator times the numbers c, which stand from the place lo on, is the numerator, at each place up to
-- e past the last of them
pub record IsExpansion (m : ℕ) (num den : List ℕ) (e lo : ℕ) (c : List ℕ) : Type 0 where
  pub residues : AreResidues m c
  pub equations : (j : ℕ) → j < lo + length c + e → numerator_at num j % m ≡ slice_index (product_of den (raised lo c)) j % m
