-- Products of units, and how the inverse of a product is taken apart.
use Rattle.std.proofs.Common.{◌≡◌, ℕ, zero, suc, ◌*◌, ◌%◌, ◌<◌, refl, ◌∙◌, ap, arith, List, All, slice_index}
use Rattle.std.proofs.Math.Nat.{mod-eq_of_lt}
use Rattle.std.proofs.lemmas.List.Elements.{All-from_get_or}
use Rattle.std.proofs.lemmas.Nat.{mul-mod_second}
use Rattle.prime_field.specs.Product.{product_to}
use Rattle.prime_field.specs.Inverses.{AreInverses}
use Rattle.prime_field.specs.Residue.{IsUnit}
use Rattle.prime_field.proofs.Residues.{mul-cong}
use Rattle.prime_field.proofs.Units.{unit-mul}

-- the product of units is a unit
pub unit-product : (m n : ℕ) (f : ℕ → ℕ) → 1 < m → ((k : ℕ) → k < n → IsUnit m (f k)) → IsUnit m (product_to n f)
unit-product m zero f large units = (1, large, mod-eq_of_lt large)
unit-product m (suc n) f large units =
    unit-mul m (product_to n f) (f n) (unit-product m n f large (λ k low. units k (omega arith))) (units n (omega arith))

-- the inverse of a product, times the product before the last factor, is the inverse of the last factor
pub last_inverse : (m before x inverse : ℕ) → (before * x * inverse) % m ≡ 1 → (x * (inverse * (before % m) % m)) % m ≡ 1
last_inverse m before x inverse all =
    mul-mod_second x (inverse * (before % m)) m ∙
    mul-cong m x x (inverse * (before % m)) (inverse * before) refl (mul-mod_second inverse before m) ∙
    ap (λ t. t % m) (omega arith) ∙
    all

-- times the last factor, it is the inverse of the product before
pub rest_inverse : (m before x inverse : ℕ) → (before * x * inverse) % m ≡ 1 → (before * (inverse * x % m)) % m ≡ 1
rest_inverse m before x inverse all =
    mul-mod_second before (inverse * x) m ∙ ap (λ t. t % m) (omega arith) ∙ all

-- what has inverses is a list of units
pub All-inverses : (m : ℕ) (xs inverses : List ℕ) → AreInverses m xs inverses → All (IsUnit m) xs
All-inverses m xs inverses given =
    All-from_get_or (IsUnit m) xs 0 (λ k low. (slice_index inverses k, given.residues k low, given.products k low))
