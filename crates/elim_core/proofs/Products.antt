-- Sums of a few products of residues, which fit 128 bits.
use Rattle.std.proofs.Common.{◌≡◌, ℕ, zero, suc, ◌+◌, ◌-◌, ◌*◌, ◌%◌, ◌^◌, ◌<◌, ◌≤◌, sym, ◌∙◌, ap, subst, arith}
use Rattle.std.proofs.Math.Nat.{mod-add-mod}
use Rattle.std.proofs.lemmas.Nat.{mul-le}
use Rattle.prime_field.specs.Sum.{sum_to}

sum-bounded : (n b : ℕ) (f : ℕ → ℕ) → ((t : ℕ) → t < n → f t ≤ b) → sum_to n f ≤ n * b
sum-bounded zero b f low = omega arith
sum-bounded (suc n) b f low = omega (arith, sum-bounded n b f (λ t below. low t (omega arith)), low n (omega arith))

-- a residue and as many as four products of residues may be folded
pub products-low : (m n value : ℕ) (f g : ℕ → ℕ) → n ≤ 4 → value < m → ((t : ℕ) → t < n → f t < m) → ((t : ℕ) → t < n → g t < m) → value + sum_to n (λ t. f t * g t) < 4 * (m * m)
products-low m n value f g few value_low f_low g_low =
    let c = m - 1 in
    let m_is : m ≡ c + 1 = omega arith in
    let sum = sum-bounded n (c * c) (λ t. f t * g t) (λ t below. mul-le (f t) (g t) c c (omega (arith, f_low t below)) (omega (arith, g_low t below))) in
    let four : n * (c * c) ≤ 4 * (c * c) = mul-le n (c * c) 4 (c * c) few (omega arith) in
    subst (λ (x : ℕ). value + sum_to n (λ t. f t * g t) < 4 * (x * x)) (sym m_is) (omega (arith, sum, four))

-- four products of numbers of 63 bits fit 128 bits
pub four-fit : (m : ℕ) → m < 2 ^ 63 → 4 * (m * m) ≤ 2 ^ 128
four-fit m low = omega (arith, mul-le m m (2 ^ 63) (2 ^ 63) (omega arith) (omega arith))

-- a sum in two parts
pub sum-parts : (at n : ℕ) (f : ℕ → ℕ) → sum_to (at + n) f ≡ sum_to at f + sum_to n (λ t. f (at + t))
sum-parts at zero f =
    let none : at + zero ≡ at = omega arith in
    ap (λ t. sum_to t f) none ∙ omega arith
sum-parts at (suc n) f =
    let next : at + suc n ≡ suc (at + n) = omega arith in
    ap (λ t. sum_to t f) next ∙ omega (arith, sum-parts at n f)

-- the next few terms of a sum that was folded
pub sum-more : (m at n sum : ℕ) (f : ℕ → ℕ) → sum ≡ sum_to at f % m → (sum + sum_to n (λ t. f (at + t))) % m ≡ sum_to (at + n) f % m
sum-more m at n sum f so_far =
    ap (λ x. (x + sum_to n (λ t. f (at + t))) % m) so_far ∙ mod-add-mod (sum_to at f) m (sum_to n (λ t. f (at + t))) ∙
    ap (λ x. x % m) (sym (sum-parts at n f))
