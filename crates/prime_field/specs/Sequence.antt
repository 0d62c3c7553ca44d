-- The sequence of words that sample points are taken from.
use Rattle.std.specs.Prelude.{ℕ, zero, suc, ◌+◌, ◌*◌, ◌%◌, ◌^◌}

-- it begins with 1, and each further word is a multiple of the one before plus a constant, modulo 2^64
unfoldable pub word : ℕ → ℕ
word zero = 1
word (suc k) = (6364136223846793005 * word k + 1442695040888963407) % 2 ^ 64
