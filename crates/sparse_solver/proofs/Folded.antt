-- How large sums of few products of residues are.
use Rattle.std.proofs.Common.{ℕ, ◌+◌, ◌*◌, ◌^◌, ◌<◌, ◌≤◌, arith}
use Rattle.std.proofs.Math.Nat.{mul-le-mul, mul-le-mul_left, mul-le-mul_right}

-- a product of two residues is below the square of the modulus, by the modulus at least
pub product_low : (m a b : ℕ) → a < m → b < m → a * b + m ≤ m * m
product_low m a b a_low b_low =
    let first : (a + 1) * m ≤ m * m = mul-le-mul_right {m = a + 1} {n = m} m (omega arith) in
    let second : a * b ≤ a * m = mul-le-mul_left {m = b} {n = m} a (omega arith) in
    omega (arith, first, second)

-- a residue and as many as three products can be folded
pub few_low : (m n sum : ℕ) → 1 < m → n < 4 → sum < m + n * (m * m) → sum < 4 * (m * m)
few_low m n sum large n_low low =
    let products : n * (m * m) ≤ 3 * (m * m) = mul-le-mul_right {m = n} {n = 3} (m * m) (omega arith) in
    let one : 1 * m ≤ m * m = mul-le-mul_right {m = 1} {n = m} m (omega arith) in
    omega (arith, products, one)

-- and so can one more product
pub next_low : (m n sum a b : ℕ) → a < m → b < m → n < 4 → sum < m + n * (m * m) → sum + a * b < 4 * (m * m)
next_low m n sum a b a_low b_low n_low low =
    let products : n * (m * m) ≤ 3 * (m * m) = mul-le-mul_right {m = n} {n = 3} (m * m) (omega arith) in
    omega (arith, products, product_low m a b a_low b_low)

-- what can be folded has 128 bits at most
pub folded_fits : (m n : ℕ) → m < 2 ^ 63 → n < 4 * (m * m) → n < 2 ^ 128
folded_fits m n narrow low =
    let square : m * m ≤ 2 ^ 63 * 2 ^ 63 = mul-le-mul {n₁ = m} {m₁ = m} {n₂ = 2 ^ 63} {m₂ = 2 ^ 63} (omega arith) (omega arith) in
    omega (arith, square)
