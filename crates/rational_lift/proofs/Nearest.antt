-- No fraction within the bounds but the one that Euclid's remainders give.
use Rattle.std.proofs.Common.{◌≡◌, ℕ, suc, ◌+◌, ◌-◌, ◌*◌, ◌/◌, ◌%◌, ◌<◌, ◌≤◌, ◌⊎◌, inl, inr, Bool, true, false, not, refl, sym, ◌∙◌, ap, arith}
use Rattle.std.proofs.lemmas.Bool.{cases_lt, cases_eq}
use Rattle.std.proofs.lemmas.Nat.{div-add-mod'}
use Rattle.std.proofs.Math.Nat.{mod-eq_of_lt, mul-le-mul, eq_of_mul-eq-mul_left, zero-mod}
use Rattle.prime_field.proofs.Residues.{add-cong, mul-cong, cancel}
use Rattle.prime_field.proofs.Euclid.{HasSigns, Kept, Kept-start, Kept-next}

-- Euclid's last two remainders of m and c; the earlier one is above n
pub record Step (m c n above rest earlier factor : ℕ) (is_negative : Bool) : Type 0 where
  pub kept : Kept m c above rest earlier factor is_negative
  pub grows : earlier ≤ factor
  pub high : n < above

product_le : (a b c d : ℕ) → a ≤ c → b ≤ d → a * b ≤ c * d
product_le a b c d first second = mul-le-mul {n₁ = a} {m₁ = b} {n₂ = c} {m₂ = d} first second

pub Step-start : (m c n : ℕ) → 1 < m → c < m → n < m → Step m c n m c 0 1 false
Step-start m c n more low small = record { kept = Kept-start m c more low; grows = omega arith; high = small }

-- one division
pub Step-next : (m c n above rest earlier factor : ℕ) (s : Bool) → 1 ≤ n → Step m c n above rest earlier factor s → n < rest → Step m c n rest (above - above / rest * rest) factor (earlier + above / rest * factor) (not s)
Step-next m c n above rest earlier factor s some step more =
    let next = Kept-next m c above rest earlier factor s step.kept (omega arith) in
    record { kept = next; grows = grows; high = more }
  where
    quotient : (q : ℕ) → q ≡ above / rest → q ≡ 0 → above < rest
    quotient q is none = omega (arith, div-add-mod' above rest, ap (λ t. t * rest) (sym is ∙ none), below)
      where
        below : above % rest < rest
        below = omega arith

    grows : factor ≤ earlier + above / rest * factor
    grows = elim (cases_eq (above / rest) 0) [
      | inl none ↦ absurd (omega (arith, quotient (above / rest) refl none, step.kept.ordered))
      | inr some ↦ omega (arith, product_le 1 factor (above / rest) factor (omega arith) (omega arith))
    ]

-- a and b leave as c does, the one with the sign given: c * b is a, or a's opposite
abbrev pub Leaves : Bool → ℕ → ℕ → ℕ → ℕ → Type 0
Leaves false m c a b = (c * b) % m ≡ a % m
Leaves true m c a b = (c * b + a) % m ≡ 0 % m

-- ---- the same sign

abbrev Crosses : (m above rest earlier factor a b : ℕ) → Type 0
Crosses m above rest earlier factor a b = ((a * factor) % m ≡ (b * rest) % m) × ((b * above + a * earlier) % m ≡ 0)

crosses : (s : Bool) (m c above rest earlier factor a b : ℕ) → HasSigns m c above rest earlier factor s → Leaves s m c a b → Crosses m above rest earlier factor a b
crosses false m c above rest earlier factor a b signs leaves = (
  mul-cong m a (c * b) factor factor (sym leaves) refl ∙ ap (λ t. t % m) (omega arith) ∙ mul-cong m b b (c * factor) rest refl signs.0,
  add-cong m (b * above) (b * above) (a * earlier) (c * b * earlier) refl (mul-cong m a (c * b) earlier earlier (sym leaves) refl) ∙
      ap (λ t. t % m) (omega arith) ∙ mul-cong m b b (c * earlier + above) 0 refl signs.1 ∙ ap (λ t. t % m) (omega arith) ∙ zero-mod m,
)
crosses true m c above rest earlier factor a b signs leaves = (
  cancel m (a * factor) (b * rest) (c * b * factor) (
      ap (λ t. t % m) (omega arith) ∙ mul-cong m (c * b + a) 0 factor factor leaves refl ∙ ap (λ t. t % m) (omega arith) ∙
      sym (mul-cong m b b (c * factor + rest) 0 refl signs.0) ∙ ap (λ t. t % m) (omega arith)),
  add-cong m (b * above) (b * (c * earlier)) (a * earlier) (a * earlier) (mul-cong m b b above (c * earlier) refl (sym signs.1)) refl ∙
      ap (λ t. t % m) (omega arith) ∙ mul-cong m (c * b + a) 0 earlier earlier leaves refl ∙ ap (λ t. t % m) (omega arith) ∙ zero-mod m,
)

-- a and b are one multiple of the remainder and its factor
matched : (m n d above rest earlier factor a b : ℕ) → above * factor + rest * earlier ≡ m → 0 < factor → rest ≤ n → n < above → 2 * (n * d) < m → a ≤ n → b ≤ d →
    Crosses m above rest earlier factor a b → (k : ℕ) × (a ≡ k * rest) × (b ≡ k * factor)
matched m n d above rest earlier factor a b whole some low high narrow a_low b_low cross = (k, numerator, denominator)
  where
    k : ℕ
    k = (b * above + a * earlier) / m

    equal : a * factor ≡ b * rest
    equal =
        let right : b * rest < m = omega (arith, product_le b rest d n b_low low) in
        let left : a * factor < m = omega (arith, product_le (suc a) factor above factor (omega arith) (omega arith)) in
        sym (mod-eq_of_lt left) ∙ cross.0 ∙ mod-eq_of_lt right

    multiple : b * above + a * earlier ≡ k * m
    multiple = omega (arith, div-add-mod' (b * above + a * earlier) m, cross.1)

    denominator : b ≡ k * factor
    denominator = eq_of_mul-eq-mul_left m (omega arith) b (k * factor) (omega (arith, ap (λ t. b * t) (sym whole), ap (λ t. t * earlier) equal, ap (λ t. factor * t) multiple))

    numerator : a ≡ k * rest
    numerator = eq_of_mul-eq-mul_left m (omega arith) a (k * rest) (omega (arith, ap (λ t. a * t) (sym whole), ap (λ t. t * above) equal, ap (λ t. rest * t) multiple))

-- ---- opposite signs

abbrev Opposed : (m above rest earlier factor a b : ℕ) → Type 0
Opposed m above rest earlier factor a b = ((a * factor + b * rest) % m ≡ 0) × ((b * above) % m ≡ (a * earlier) % m)

opposed : (s : Bool) (m c above rest earlier factor a b : ℕ) → HasSigns m c above rest earlier factor s → Leaves (not s) m c a b → Opposed m above rest earlier factor a b
opposed false m c above rest earlier factor a b signs leaves = (
  add-cong m (a * factor) (a * factor) (b * rest) (b * (c * factor)) refl (mul-cong m b b rest (c * factor) refl (sym signs.0)) ∙
      ap (λ t. t % m) (omega arith) ∙ mul-cong m (c * b + a) 0 factor factor leaves refl ∙ ap (λ t. t % m) (omega arith) ∙ zero-mod m,
  cancel m (b * above) (a * earlier) (b * (c * earlier)) (
      ap (λ t. t % m) (omega arith) ∙ mul-cong m b b (c * earlier + above) 0 refl signs.1 ∙ ap (λ t. t % m) (omega arith) ∙
      sym (mul-cong m (c * b + a) 0 earlier earlier leaves refl) ∙ ap (λ t. t % m) (omega arith)),
)
opposed true m c above rest earlier factor a b signs leaves = (
  add-cong m (a * factor) (c * b * factor) (b * rest) (b * rest) (mul-cong m a (c * b) factor factor (sym leaves) refl) refl ∙
      ap (λ t. t % m) (omega arith) ∙ mul-cong m b b (c * factor + rest) 0 refl signs.0 ∙ ap (λ t. t % m) (omega arith) ∙ zero-mod m,
  mul-cong m b b above (c * earlier) refl (sym signs.1) ∙ ap (λ t. t % m) (omega arith) ∙ mul-cong m (c * b) a earlier earlier leaves refl,
)

-- there is no such fraction but 0
mismatched : (m n d above rest earlier factor a b : ℕ) → above * factor + rest * earlier ≡ m → 0 < factor → earlier ≤ factor → rest ≤ n → n < above → 2 * (n * d) < m → a ≤ n → b ≤ d → 0 < a →
    Opposed m above rest earlier factor a b → ⊥
mismatched m n d above rest earlier factor a b whole some grows low high narrow a_low b_low a_some cross =
    elim (cases_lt b (suc earlier)) [
      | inl few ↦
          omega (arith, sum, product_le b rest earlier rest (omega arith) (omega arith), product_le (suc a) factor above factor (omega arith) (omega arith))
      | inr many ↦
          omega (arith, equal, product_le (suc earlier) above b above many (omega arith), product_le a earlier above earlier (omega arith) (omega arith))
    ]
  where
    k : ℕ
    k = (a * factor + b * rest) / m

    multiple : a * factor + b * rest ≡ k * m
    multiple = omega (arith, div-add-mod' (a * factor + b * rest) m, cross.0)

    left : a * factor < m
    left = omega (arith, product_le (suc a) factor above factor (omega arith) (omega arith))

    right : 2 * (b * rest) < m
    right = omega (arith, product_le b rest d n b_low low)

    positive : 0 < a * factor
    positive = omega (arith, product_le 1 1 a factor a_some some)

    one : k ≡ 1
    one = elim (cases_lt k 2) [
      | inl small ↦
          elim (cases_eq k 0) [
            | inl none ↦ absurd (omega (arith, multiple, positive, ap (λ t. t * m) none))
            | inr other ↦ omega arith
          ]
      | inr large ↦ absurd (omega (arith, multiple, left, right, product_le 2 m k m large (omega arith)))
    ]

    sum : a * factor + b * rest ≡ m
    sum = omega (arith, multiple, ap (λ t. t * m) one)

    long : d < factor
    long = elim (cases_lt d factor) [
      | inl is ↦ is
      | inr short ↦ absurd (omega (arith, sum, right, product_le a factor n d a_low short))
    ]

    equal : b * above ≡ a * earlier
    equal =
        let first : b * above < m = omega (arith, whole, product_le (suc b) above factor above (omega (arith, long)) (omega arith)) in
        let second : a * earlier < m = omega (arith, left, product_le a earlier a factor (omega arith) grows) in
        sym (mod-eq_of_lt first) ∙ cross.1 ∙ mod-eq_of_lt second

-- ---- both

-- a fraction within the bounds that leaves c is a multiple of the remainder and its factor; its sign is theirs unless it is 0
pub nearest : (m c n d above rest earlier factor : ℕ) (s : Bool) → Step m c n above rest earlier factor s → rest ≤ n → 2 * (n * d) < m → (q : Bool) (a b : ℕ) → a ≤ n → b ≤ d → Leaves q m c a b →
    ((q ≡ s) ⊎ (a ≡ 0)) × ((k : ℕ) × (a ≡ k * rest) × (b ≡ k * factor))
nearest m c n d above rest earlier factor s step low narrow q a b a_low b_low leaves = by q s leaves step.kept.signs
  where
    same : (s : Bool) → Leaves s m c a b → HasSigns m c above rest earlier factor s → (k : ℕ) × (a ≡ k * rest) × (b ≡ k * factor)
    same s leaves signs = matched m n d above rest earlier factor a b step.kept.whole step.kept.positive low step.high narrow a_low b_low (crosses s m c above rest earlier factor a b signs leaves)

    other : (s : Bool) → Leaves (not s) m c a b → HasSigns m c above rest earlier factor s → a ≡ 0
    other s leaves signs = elim (cases_eq a 0) [
      | inl none ↦ none
      | inr some ↦ absurd (mismatched m n d above rest earlier factor a b step.kept.whole step.kept.positive step.grows low step.high narrow a_low b_low (omega arith) (opposed s m c above rest earlier factor a b signs leaves))
    ]

    -- a zero leaves with either sign
    turned : (q : Bool) → a ≡ 0 → Leaves (not q) m c a b → Leaves q m c a b
    turned false none leaves = ap (λ t. t % m) (omega (arith, none)) ∙ leaves ∙ ap (λ t. t % m) (sym none)
    turned true none leaves = ap (λ t. t % m) (omega (arith, none)) ∙ leaves ∙ ap (λ t. t % m) none

    by : (q s : Bool) → Leaves q m c a b → HasSigns m c above rest earlier factor s → ((q ≡ s) ⊎ (a ≡ 0)) × ((k : ℕ) × (a ≡ k * rest) × (b ≡ k * factor))
    by false false leaves signs = (inl refl, same false leaves signs)
    by true true leaves signs = (inl refl, same true leaves signs)
    by true false leaves signs = let none = other false leaves signs in (inr none, same false (turned false none leaves) signs)
    by false true leaves signs = let none = other true leaves signs in (inr none, same true (turned true none leaves) signs)
