-- What loops over a span of a row keep.
use Rattle.std.proofs.Common.{◌≡◌, ℕ, ◌+◌, ◌*◌, ◌%◌, ◌<◌, ◌≤◌, ◌↔◌, List, length, get_or}
use Rattle.elim_core.specs.Rows.{Meets, AllMet}
use Rattle.elim_core.specs.Layout.{entry, IsRow, IsSpan}

-- up to `at` a multiple of the row was written
pub record WrittenSoFar (m : ℕ) (old now row : List ℕ) (start from factor at : ℕ) : Type 0 where
  pub room : length now ≡ length old
  pub inside : (k : ℕ) → from < k + 1 → k < at → get_or now (start + k) 0 ≡ (factor * get_or row k 0) % m
  pub before : (i : ℕ) → i < start + from → get_or now i 0 ≡ get_or old i 0
  pub after : (i : ℕ) → start + at < i + 1 → get_or now i 0 ≡ get_or old i 0

-- up to `at` there are zeros
pub record ClearedSoFar (old now : List ℕ) (from at : ℕ) : Type 0 where
  pub room : length now ≡ length old
  pub inside : (k : ℕ) → from < k + 1 → k < at → get_or now k 0 ≡ 0
  pub before : (k : ℕ) → k < from → get_or now k 0 ≡ get_or old k 0
  pub after : (k : ℕ) → at < k + 1 → get_or now k 0 ≡ get_or old k 0

-- the row reduced up to a place: what is left of it ends at `end`, and holds where it did among what solves the kept rows
pub record ReducedSoFar (m u : ℕ) (rows ends old now : List ℕ) (place end : ℕ) : Type 0 where
  pub residues : IsRow m u now
  pub end_low : end ≤ u
  pub span : IsSpan u now place end
  pub met : (z : ℕ → ℕ) → AllMet m u (entry u rows ends) z → (Meets m u (λ k. get_or now k 0) z ↔ Meets m u (λ k. get_or old k 0) z)
