-- Congruence modulo m, as the equation `a % m ≡ b % m` between plain numbers.
use Rattle.std.proofs.Common.{◌≡◌, ℕ, ◌+◌, ◌*◌, ◌/◌, ◌%◌, ◌<◌, refl, sym, ◌∙◌, ap, arith}
use Rattle.std.proofs.Math.Nat.{mod-add-mod, add-mod-mod, mod-mod, add-mul-mod_self_right}
use Rattle.std.proofs.lemmas.Nat.{mul-mod_first, mul-mod_second, div-add-mod'}

-- sums of congruent numbers are congruent
pub add-cong : (m a b c d : ℕ) → a % m ≡ b % m → c % m ≡ d % m → (a + c) % m ≡ (b + d) % m
add-cong m a b c d left right =
    sym (mod-add-mod a m c) ∙ ap (λ t. (t + c) % m) left ∙ mod-add-mod b m c ∙
    sym (add-mod-mod b c m) ∙ ap (λ t. (b + t) % m) right ∙ add-mod-mod b d m

-- products of congruent numbers are congruent
pub mul-cong : (m a b c d : ℕ) → a % m ≡ b % m → c % m ≡ d % m → (a * c) % m ≡ (b * d) % m
mul-cong m a b c d left right =
    sym (mul-mod_first a c m) ∙ ap (λ t. (t * c) % m) left ∙ mul-mod_first b c m ∙
    sym (mul-mod_second b c m) ∙ ap (λ t. (b * t) % m) right ∙ mul-mod_second b d m

-- numbers that are equal once multiples of m are added are congruent
pub by_multiples : (m x y p q : ℕ) → x + p * m ≡ y + q * m → x % m ≡ y % m
by_multiples m x y p q same =
    sym (add-mul-mod_self_right x p m) ∙ ap (λ t. t % m) same ∙ add-mul-mod_self_right y q m

-- congruent numbers are equal once the right multiples of m are added
pub multiples : (m x y : ℕ) → x % m ≡ y % m → (p : ℕ) × (q : ℕ) × (x + p * m ≡ y + q * m)
multiples m x y same =
    (y / m, x / m, omega (arith, div-add-mod' x m, div-add-mod' y m, same))

-- a summand that both sides have may be taken away
pub cancel : (m a b c : ℕ) → (a + c) % m ≡ (b + c) % m → a % m ≡ b % m
cancel m a b c same =
    let found = multiples m (a + c) (b + c) same in
    by_multiples m a b found.0 found.1 (omega (arith, found.2))

-- what proves a congruence between two sides of the same shape
pub ruleset congruences = (add-cong, mul-cong, mod-mod, refl)
