-- Counts that stay at the greatest u64 once they are there.
use Rattle.std.specs.Prelude.{ℕ, ◌+◌, ◌-◌, ◌^◌, ◌≤◌, min, max}

-- the count after n more, which stops at the greatest u64
abbrev pub counted : ℕ → ℕ → ℕ
counted before n = max before (min (before + n) (2 ^ 64 - 1))

-- the count is greater than before, or stands at the greatest u64
abbrev pub Rose : ℕ → ℕ → Type 0
Rose before now = min (before + 1) (2 ^ 64 - 1) ≤ now
