-- Units, primes and inverses modulo m, over plain numbers.
use Rattle.std.specs.Prelude.{ℕ, zero, suc, ◌≡◌, ◌≢◌, ◌<◌, ◌≤◌, ◌*◌, ◌%◌, ◌==◌, if◌then◌else◌, Option, Some, None}
use Rattle.std.specs.Option.{option_or}

-- a is a unit modulo m: its product with some residue b leaves 1
abbrev pub IsUnit : ℕ → ℕ → Type 0
IsUnit m a = (b : ℕ) × (b < m) × ((a * b) % m ≡ 1)

-- m is prime: above 1, and no product of two numbers from 2 to m - 1
abbrev pub IsPrime : ℕ → Type 0
IsPrime m = (1 < m) × ((a b : ℕ) → 2 ≤ a → a < m → 2 ≤ b → b < m → a * b ≢ m)

-- the least of the numbers below `tried` whose product with a leaves 1
unfoldable pub inverse_below : ℕ → ℕ → ℕ → Option ℕ
inverse_below m a zero = None
inverse_below m a (suc tried) = option_or (inverse_below m a tried) (if (a * tried) % m == 1 then Some tried else None)

-- the inverse of a modulo m: the least b below m whose product with a leaves 1
unfoldable pub inverse : ℕ → ℕ → Option ℕ
inverse m a = inverse_below m a m
