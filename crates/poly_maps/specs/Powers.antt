-- Tables of powers.
use Rattle.std.specs.Prelude.{◌≡◌, ℕ, ◌%◌, ◌^◌, ◌<◌, ◌≤◌, List, [], length, slice_index, slice_index_or}

-- the table's entries up to place `top` are the powers of the base modulo m
pub record ArePowers (m base top : ℕ) (table : List ℕ) : Type 0 where
  pub room : length table ≡ 65
  pub powers : (k : ℕ) → k ≤ top → slice_index table k ≡ (base ^ k) % m

-- eight tables, one for each base
pub record AreTables (m : ℕ) (bases : List ℕ) (top : ℕ) (tables : List (List ℕ)) : Type 0 where
  pub eight : length tables ≡ 8
  pub top_low : top < 65
  pub residues : (i : ℕ) → i < 8 → slice_index bases i < m
  pub each : (i : ℕ) → i < 8 → ArePowers m (slice_index bases i) top (slice_index_or tables i [])
