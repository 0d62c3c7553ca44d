-- What keeps the entries of points on rays below the moduli.
use Rattle.std.specs.Prelude.{◌≡◌, ℕ, ◌^◌, ◌<◌, ◌≤◌, List, length, slice_index}

-- a start and a first direction with 1 to 8 entries each, below 2^60 and 2^32, and as many steps at most 128
pub record AreSmall (start first each : List ℕ) : Type 0 where
  pub some : 1 ≤ length start
  pub few : length start ≤ 8
  pub first_count : length first ≡ length start
  pub each_count : length each ≡ length start
  pub start_low : (k : ℕ) → slice_index start k < 2 ^ 60
  pub first_low : (k : ℕ) → slice_index first k < 2 ^ 32
  pub each_low : (k : ℕ) → slice_index each k ≤ 128
