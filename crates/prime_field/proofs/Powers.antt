-- Squaring in turn: what one turn of `pow` keeps.
use Rattle.std.proofs.Common.{◌≡◌, ◌≢◌, ℕ, ◌+◌, ◌*◌, ◌%◌, ◌^◌, ◌/◌, sym, ◌∙◌, ap, arith, add-one}
use Rattle.std.proofs.Math.Nat.{pow-suc}
use Rattle.std.proofs.lemmas.Nat.{mul-mod_first, mul-mod_second, pow-mod, mul-pow, pow-add}

-- a square may take the place of two factors
square_turn : (m p s h : ℕ) → (p * (s * s % m) ^ h) % m ≡ (p * s ^ (h + h)) % m
square_turn m p s h =
    sym (mul-mod_second p ((s * s % m) ^ h) m) ∙
    ap (λ t. (p * t) % m) (pow-mod (s * s) h m ∙ ap (λ t. t % m) (mul-pow s s h ∙ sym (pow-add s h h))) ∙
    mul-mod_second p (s ^ (h + h)) m

-- an even rest of the exponent: its half, at the square
pub even_turn : (m p s rest : ℕ) → rest % 2 ≢ 1 → (p * (s * s % m) ^ (rest / 2)) % m ≡ (p * s ^ rest) % m
even_turn m p s rest even =
    square_turn m p s (rest / 2) ∙ ap (λ t. (p * s ^ t) % m) (omega arith)

-- one factor goes into the power
one_more : (p s k rest : ℕ) → k + 1 ≡ rest → p * s * s ^ k ≡ p * s ^ rest
one_more p s k rest same =
    rw (← same, add-one, pow-suc) (omega arith)

-- an odd rest: the same, with one factor taken out before
pub odd_turn : (m p s rest : ℕ) → rest % 2 ≡ 1 → (p * s % m * (s * s % m) ^ (rest / 2)) % m ≡ (p * s ^ rest) % m
odd_turn m p s rest odd =
    let h = rest / 2 in
    square_turn m (p * s % m) s h ∙
    mul-mod_first (p * s) (s ^ (h + h)) m ∙
    ap (λ t. t % m) (one_more p s (h + h) rest (omega arith))
