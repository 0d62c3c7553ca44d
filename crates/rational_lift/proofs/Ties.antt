-- Residues of fractions as products: what a fraction leaves, times its denominator, is its numerator.
use Rattle.std.proofs.Common.{◌≡◌, ℕ, ◌+◌, ◌-◌, ◌*◌, ◌%◌, ◌<◌, ℤ, pos, negsuc, refl, sym, ◌∙◌, ap, arith}
use Rattle.std.proofs.Math.Nat.{mod-eq_of_lt, mod-mod, mod_self, zero-mod}
use Rattle.std.proofs.lemmas.Nat.{mod_below}
use Rattle.prime_field.specs.Residue.{IsUnit, inverse}
use Rattle.prime_field.proofs.Residues.{add-cong, mul-cong, cancel}
use Rattle.prime_field.proofs.Units.{inverse_is}
use Rattle.poly_maps.specs.Reduced.{signed_residue, or_zero, residue}
use Rattle.poly_maps.specs.declared.fraction.Frac.{Frac}
use Rattle.rational_lift.specs.Recovery.{IsTied}

pub residue-low : (m : ℕ) (f : Frac) → 0 < m → residue m f < m
residue-low m f some = mod_below (signed_residue m f.num * or_zero (inverse m f.den)) m some

-- a number and its residue
negative-sum : (m n : ℕ) → 0 < m → (signed_residue m (negsuc n) + (n + 1)) % m ≡ 0 % m
negative-sum m n some =
    add-cong m ((m - (n + 1) % m) % m) (m - (n + 1) % m) (n + 1) ((n + 1) % m) (mod-mod (m - (n + 1) % m) m) (sym (mod-mod (n + 1) m)) ∙
    ap (λ t. t % m) (omega (arith, mod_below (n + 1) m some)) ∙ mod_self m ∙ sym (zero-mod m)

pub tied-signed : (m c t : ℕ) (z : ℤ) → 0 < m → IsTied m c z t → (c * t) % m ≡ signed_residue m z % m
tied-signed m c t (pos n) some tied = tied ∙ sym (mod-mod n m)
tied-signed m c t (negsuc n) some tied = cancel m (c * t) (signed_residue m (negsuc n)) (n + 1) (tied ∙ sym (negative-sum m n some))

pub signed-tied : (m c t : ℕ) (z : ℤ) → 0 < m → (c * t) % m ≡ signed_residue m z % m → IsTied m c z t
signed-tied m c t (pos n) some same = same ∙ mod-mod n m
signed-tied m c t (negsuc n) some same = add-cong m (c * t) (signed_residue m (negsuc n)) (n + 1) (n + 1) same refl ∙ negative-sum m n some

residue_is : (m : ℕ) (f : Frac) (unit : IsUnit m f.den) → residue m f ≡ (signed_residue m f.num * unit.0) % m
residue_is m f unit = ap (λ b. (signed_residue m f.num * or_zero b) % m) (inverse_is m f.den unit.0 unit.1 unit.2)

one-mod : (m a b : ℕ) → (a * b) % m ≡ 1 → 0 < m → (a * b) % m ≡ 1 % m
one-mod m a b product some = sym (mod-mod (a * b) m) ∙ ap (λ t. t % m) product

-- what the fraction leaves, times its denominator, is its numerator
pub residue-tied : (m c : ℕ) (f : Frac) → 0 < m → IsUnit m f.den → residue m f ≡ c → IsTied m c f.num f.den
residue-tied m c f some unit is =
    let s : ℕ = signed_residue m f.num in
    let b : ℕ = unit.0 in
    signed-tied m c f.den f.num some
    (ap (λ t. (t * f.den) % m) (sym is ∙ residue_is m f unit) ∙
    mul-cong m ((s * b) % m) (s * b) f.den f.den (mod-mod (s * b) m) refl ∙
    ap (λ t. t % m) (omega arith) ∙
    mul-cong m s s (f.den * b) 1 refl (one-mod m f.den b unit.2 some) ∙
    ap (λ t. t % m) (omega arith))

-- and the other way round
pub tied-residue : (m c : ℕ) (f : Frac) → 0 < m → c < m → IsUnit m f.den → IsTied m c f.num f.den → residue m f ≡ c
tied-residue m c f some low unit tied =
    let s : ℕ = signed_residue m f.num in
    let b : ℕ = unit.0 in
    residue_is m f unit ∙
    mul-cong m s (c * f.den) b b (sym (tied-signed m c f.den f.num some tied)) refl ∙
    ap (λ t. t % m) (omega arith) ∙
    mul-cong m c c (f.den * b) 1 refl (one-mod m f.den b unit.2 some) ∙
    ap (λ t. t % m) (omega arith) ∙
    mod-eq_of_lt low
