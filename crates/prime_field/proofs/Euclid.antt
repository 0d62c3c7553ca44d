-- Euclid's remainders with their factors: what the search for an inverse keeps, and what it has found at the end.
use Rattle.std.proofs.Common.{◌≡◌, ◌≢◌, ℕ, ◌+◌, ◌-◌, ◌*◌, ◌/◌, ◌%◌, ◌<◌, ◌≤◌, inl, inr, Bool, true, false, not, refl, sym, ◌∙◌, ap, subst, arith, mul-one}
use Rattle.std.proofs.lemmas.Bool.{cases_lt, cases_eq}
use Rattle.std.proofs.lemmas.Nat.{mul-mod_second}
use Rattle.std.proofs.Math.Nat.{mod-eq_of_lt, add-mul-mod_self_right, mod_self, zero-mod, mul-le-mul_left, mul-le-mul_right}
use Rattle.prime_field.specs.Residue.{IsUnit, IsPrime}
use Rattle.prime_field.proofs.Residues.{add-cong, mul-cong, cancel}

-- a times each factor leaves its remainder or what is opposite to it, in turn
abbrev pub HasSigns : (m a above rest earlier factor : ℕ) → Bool → Type 0
HasSigns m a above rest earlier factor false = ((a * factor) % m ≡ rest % m) × ((a * earlier + above) % m ≡ 0 % m)
HasSigns m a above rest earlier factor true = ((a * factor + rest) % m ≡ 0 % m) × ((a * earlier) % m ≡ above % m)

-- the last two remainders `above` and `rest` of m and a, and the factors that belong to them
pub record Kept (m a above rest earlier factor : ℕ) (is_negative : Bool) : Type 0 where
  pub ordered : rest < above
  pub large : 1 < above
  pub positive : 0 < factor
  pub whole : above * factor + rest * earlier ≡ m
  pub signs : HasSigns m a above rest earlier factor is_negative

-- m and a themselves, with the factors 0 and 1
pub Kept-start : (m a : ℕ) → 1 < m → a < m → Kept m a m a 0 1 false
Kept-start m a large low = record {
  ordered = low;
  large = large;
  positive = omega arith;
  whole = omega arith;
  signs = (ap (λ t. t % m) (mul-one a), ap (λ t. t % m) (omega arith) ∙ mod_self m ∙ sym (zero-mod m));
}

-- the numbers of one step, with the quotient q and the remainder r named
step_whole : (m above rest earlier factor q r : ℕ) → above ≡ q * rest + r → above * factor + rest * earlier ≡ m → rest * (earlier + q * factor) + r * factor ≡ m
step_whole m above rest earlier factor q r split whole = omega (arith, ap (λ t. t * factor) split, whole)

-- a step turns the sign
step_signs : (m a above rest earlier factor q r : ℕ) (s : Bool) → above ≡ q * rest + r → HasSigns m a above rest earlier factor s → HasSigns m a rest r factor (earlier + q * factor) (not s)
step_signs m a above rest earlier factor q r false split signs = (
  cancel m (a * (earlier + q * factor) + r) 0 (q * rest)
      (ap (λ t. t % m) (omega (arith, split)) ∙
      add-cong m (a * earlier + above) 0 (q * (a * factor)) (q * rest) signs.1 (mul-cong m q q (a * factor) rest refl signs.0)),
  signs.0,
)
step_signs m a above rest earlier factor q r true split signs = (
  cancel m (a * (earlier + q * factor)) r (q * rest)
      (ap (λ t. t % m) (omega arith) ∙
      add-cong m (a * earlier) above (q * (a * factor + rest)) (q * 0) signs.1 (mul-cong m q q (a * factor + rest) 0 refl signs.0) ∙
      ap (λ t. t % m) (omega (arith, split))),
  signs.0,
)

-- the greater number holds the lesser at least once
quotient_positive : (above rest : ℕ) → 0 < rest → rest < above → 1 ≤ above / rest
quotient_positive above rest some ordered =
    elim (cases_eq (above / rest) 0) [
      | inl none ↦ omega (arith, ap (λ t. rest * t) none)
      | inr more ↦ omega arith
    ]

-- one division: the lesser remainder takes the place of the greater one
pub Kept-next : (m a above rest earlier factor : ℕ) (s : Bool) → Kept m a above rest earlier factor s → 1 < rest → Kept m a rest (above - above / rest * rest) factor (earlier + above / rest * factor) (not s)
Kept-next m a above rest earlier factor s kept more =
    let q = above / rest in
    let r = above - above / rest * rest in
    let split : above ≡ q * rest + r = omega arith in
    let some : 1 ≤ q = quotient_positive above rest (omega arith) kept.ordered in
    record {
      ordered = omega arith;
      large = more;
      positive = omega (arith, kept.positive, mul-le-mul_right factor some);
      whole = step_whole m above rest earlier factor q r split kept.whole;
      signs = step_signs m a above rest earlier factor q r s split kept.signs;
    }

-- the same with the last remainder and the sign named
pub Kept-at : {m a above rest earlier factor : ℕ} {s : Bool} (r : ℕ) (t : Bool) → rest ≡ r → s ≡ t → Kept m a above rest earlier factor s → Kept m a above r earlier factor t
Kept-at {m} {a} {above} {rest} {earlier} {factor} {s} r t last sign kept =
    subst (λ (x : ℕ). Kept m a above x earlier factor t) last
    (subst (λ (x : Bool). Kept m a above rest earlier factor x) sign kept)

-- twice the factor is at most m
pub Kept-low : (m a above rest earlier factor : ℕ) (s : Bool) → Kept m a above rest earlier factor s → 2 * factor ≤ m
Kept-low m a above rest earlier factor s kept = omega (arith, kept.whole, mul-le-mul_right factor kept.large)

-- the inverse that is found when the remainder 1 is reached
abbrev pub inverse_found : Bool → ℕ → ℕ → ℕ
inverse_found false m factor = factor
inverse_found true m factor = (m - factor) % m

-- it is a residue
pub found-low : (m a above earlier factor : ℕ) (s : Bool) → Kept m a above 1 earlier factor s → inverse_found s m factor < m
found-low m a above earlier factor false kept = omega (arith, kept.positive, Kept-low m a above 1 earlier factor false kept)
found-low m a above earlier factor true kept = omega (arith, kept.positive, Kept-low m a above 1 earlier factor true kept)

-- and its product with a leaves 1
pub found-product : (m a above earlier factor : ℕ) (s : Bool) → Kept m a above 1 earlier factor s → (a * inverse_found s m factor) % m ≡ 1
found-product m a above earlier factor false kept =
    let low : 2 * factor ≤ m = Kept-low m a above 1 earlier factor false kept in
    let more : 0 < factor = kept.positive in
    let large : 1 < m = omega arith in
    kept.signs.0 ∙ mod-eq_of_lt large
found-product m a above earlier factor true kept =
    let low : 2 * factor ≤ m = Kept-low m a above 1 earlier factor true kept in
    let more : 0 < factor = kept.positive in
    let large : 1 < m = omega arith in
    let n = m - factor in
    let whole : n + factor ≡ m = omega arith in
    mul-mod_second a n m ∙
    cancel m (a * n) 1 (a * factor + 1)
    (ap (λ t. t % m) (omega (arith, ap (λ t. a * t) whole)) ∙
    add-mul-mod_self_right 1 a m ∙
    ap (λ t. t % m) (omega arith) ∙
    add-cong m 1 1 0 (a * factor + 1) refl (sym kept.signs.0)) ∙
    mod-eq_of_lt large

-- a remainder 0: a times the factor is a multiple of m
zero_product : (m a above earlier factor : ℕ) (s : Bool) → Kept m a above 0 earlier factor s → (a * factor) % m ≡ 0
zero_product m a above earlier factor false kept = kept.signs.0 ∙ zero-mod m
zero_product m a above earlier factor true kept = ap (λ t. t % m) (omega arith) ∙ kept.signs.0 ∙ zero-mod m

-- so a has no inverse
pub zero-no_unit : (m a above earlier factor : ℕ) (s : Bool) → Kept m a above 0 earlier factor s → IsUnit m a → ⊥
zero-no_unit m a above earlier factor s kept unit =
    let b = unit.0 in
    let low : 2 * factor ≤ m = Kept-low m a above 0 earlier factor s kept in
    let more : 0 < factor = kept.positive in
    let below : factor < m = omega arith in
    let one : 1 < m = omega arith in
    let same : factor % m ≡ 0 =
    ap (λ t. t % m) (omega arith) ∙
    mul-cong m 1 (a * b) factor factor (mod-eq_of_lt one ∙ sym unit.2) refl ∙
    ap (λ t. t % m) (omega arith) ∙
    mul-cong m (a * factor) 0 b b (zero_product m a above earlier factor s kept ∙ sym (zero-mod m)) refl ∙
    ap (λ t. t % m) (omega arith) ∙
    zero-mod m in
    omega (arith, sym (mod-eq_of_lt below) ∙ same)

-- and m is a product, unless a is 0
pub zero-no_prime : (m a above earlier factor : ℕ) (s : Bool) → Kept m a above 0 earlier factor s → a < m → a ≢ 0 → IsPrime m → ⊥
zero-no_prime m a above earlier factor s kept low some prime =
    let whole : above * factor ≡ m = omega (arith, kept.whole) in
    let large : 2 ≤ above = kept.large in
    let half : 2 * factor ≤ m = Kept-low m a above 0 earlier factor s kept in
    elim (cases_lt factor 2) [
      | inl small ↦
          let one : factor ≡ 1 = omega (arith, kept.positive) in
          some (sym (mod-eq_of_lt low) ∙ ap (λ t. t % m) (omega (arith, ap (λ t. a * t) one)) ∙ zero_product m a above earlier factor s kept)
      | inr more ↦
          prime.1 above factor large (omega (arith, mul-le-mul_left above more)) more (omega (arith, kept.positive)) whole
    ]
