-- Products over the first few numbers.
use Rattle.std.specs.Prelude.{ℕ, zero, suc, ◌*◌}

-- f 0 * f 1 * .. * f (n - 1)
abbrev pub product_to : ℕ → (ℕ → ℕ) → ℕ
product_to zero f = 1
product_to (suc n) f = product_to n f * f n
