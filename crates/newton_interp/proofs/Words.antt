-- What the passes over the words leave, and residues of sums and products.
use Rattle.std.proofs.Common.{◌≡◌, ℕ, zero, suc, ◌+◌, ◌*◌, ◌%◌, ◌<◌, ◌≤◌, List, [], ◌∷◌, length, slice_index, refl, sym, ◌∙◌, ap, arith, inl, inr, get_or-set_other, get_or-set_same}
use Rattle.std.proofs.lemmas.Bool.{cases_eq, cases_lt}
use Rattle.std.proofs.Math.Nat.{zero-mod, mod-mod}
use Rattle.std.proofs.Math.ListN.{set, replicate}
use Rattle.prime_field.proofs.Residues.{add-cong, mul-cong}
use Rattle.univariate.specs.Coefficients.{IsBelow, Alike}
use Rattle.univariate.proofs.Counting.{zero-times}
use Rattle.newton_interp.proofs.Points.{zeros-at}

-- what was reduced is the same
pub reduced : (m x y : ℕ) → x ≡ y % m → x % m ≡ y % m
reduced m x y is = ap (λ t. t % m) is ∙ mod-mod y m

-- a product and sums with factors that are the same modulo m
pub product-reduced : (m x a b a' b' : ℕ) → x ≡ (a * b) % m → a % m ≡ a' % m → b % m ≡ b' % m → x % m ≡ (a' * b') % m
product-reduced m x a b a' b' is left right = reduced m x (a * b) is ∙ mul-cong m a a' b b' left right

pub two-cong : (m x a a' b b' y y' z z' : ℕ) → a % m ≡ a' % m → b % m ≡ b' % m → y % m ≡ y' % m → z % m ≡ z' % m → (x + a * y + b * z) % m ≡ (x + a' * y' + b' * z') % m
two-cong m x a a' b b' y y' z z' left right first second =
    add-cong m (x + a * y) (x + a' * y') (b * z) (b' * z')
    (add-cong m x x (a * y) (a' * y') refl (mul-cong m a a' y y' left first))
    (mul-cong m b b' z z' right second)

pub three-cong : (m a a' b b' c c' x y z z' : ℕ) → a % m ≡ a' % m → b % m ≡ b' % m → c % m ≡ c' % m → z % m ≡ z' % m → (a * x + b * y + c * z) % m ≡ (a' * x + b' * y + c' * z') % m
three-cong m a a' b b' c c' x y z z' first second third last =
    add-cong m (a * x + b * y) (a' * x + b' * y) (c * z) (c' * z')
    (add-cong m (a * x) (a' * x) (b * y) (b' * y) (mul-cong m a a' x x first refl) (mul-cong m b b' y y second refl))
    (mul-cong m c c' z z' third last)

-- a place more in front
below-front : (m e : ℕ) (p : List ℕ) → IsBelow m e p → IsBelow m (suc e) (0 ∷ p)
below-front m e p below zero from = absurd (omega arith)
below-front m e p below (suc i) from = below i (omega arith)

-- summands that vanish
two-vanish : (m x a y b z : ℕ) → y % m ≡ 0 → z % m ≡ 0 → x % m ≡ (x + a * y + b * z) % m
two-vanish m x a y b z first second =
    sym (add-cong m (x + a * y) (x + 0) (b * z) 0
    (add-cong m x x (a * y) 0 refl (zero-times m a y first ∙ sym (zero-mod m)))
    (zero-times m b z second ∙ sym (zero-mod m)) ∙
    ap (λ t. t % m) (omega arith))

-- all places of a product with a quadratic, those past its degree too
pub quadratic-whole : (m d a b last : ℕ) (p made : List ℕ) → d + 2 < length made → IsBelow m (suc d) p → last ≡ slice_index (0 ∷ 0 ∷ p) (d + 2) →
    ((j : ℕ) → j < d + 2 → slice_index made j % m ≡ (slice_index (0 ∷ 0 ∷ p) j + a * slice_index (0 ∷ p) j + b * slice_index p j) % m) →
    ((j : ℕ) → d + 2 ≤ j → slice_index made j ≡ slice_index p j) →
    (i : ℕ) → slice_index (set made (d + 2) last) i % m ≡ (slice_index (0 ∷ 0 ∷ p) i + a * slice_index (0 ∷ p) i + b * slice_index p i) % m
quadratic-whole m d a b last p made room below is done rest i =
    let front : IsBelow m (suc (suc d)) (0 ∷ p) = below-front m (suc d) p below in
    elim (cases_eq i (d + 2)) [
      | inl same ↦
          rw (same, get_or-set_same)
          (ap (λ t. t % m) is ∙
          two-vanish m (slice_index (0 ∷ 0 ∷ p) (d + 2)) a (slice_index (0 ∷ p) (d + 2)) b (slice_index p (d + 2)) (front (d + 2) (omega arith)) (below (d + 2) (omega arith)))
      | inr other ↦
          rw get_or-set_other
          (elim (cases_lt i (d + 2)) [
            | inl low ↦ done i low
            | inr high ↦
                ap (λ t. t % m) (rest i high) ∙ below i (omega arith) ∙
                sym (below-front m (suc (suc d)) (0 ∷ p) front i (omega arith)) ∙
                two-vanish m (slice_index (0 ∷ 0 ∷ p) i) a (slice_index (0 ∷ p) i) b (slice_index p i) (front i (omega arith)) (below i (omega arith))
          ])
    ]

-- all places of the sum, those past its degree too
pub sum-whole : (m d own low high : ℕ) (p out made : List ℕ) → IsBelow m (suc d) p → IsBelow m d out →
    ((j : ℕ) → j < d + 2 → slice_index made j % m ≡ (own * slice_index out j + low * slice_index p j + high * slice_index (0 ∷ p) j) % m) →
    ((j : ℕ) → d + 2 ≤ j → slice_index made j ≡ slice_index out j) →
    (i : ℕ) → slice_index made i % m ≡ (own * slice_index out i + low * slice_index p i + high * slice_index (0 ∷ p) i) % m
sum-whole m d own low high p out made below out_below done rest i =
    elim (cases_lt i (d + 2)) [
      | inl within ↦ done i within
      | inr past ↦
          ap (λ t. t % m) (rest i past) ∙ out_below i (omega arith) ∙
          sym (zero-times m own (slice_index out i) (out_below i (omega arith))) ∙
          two-vanish m (own * slice_index out i) low (slice_index p i) high (slice_index (0 ∷ p) i) (below i (omega arith)) (below-front m (suc d) p below i (omega arith))
    ]

-- zeros of which the first places are written
pub first-written : (m n a b : ℕ) → 0 < n → a % m ≡ b % m → Alike m (set (replicate n 0) 0 a) (b ∷ [])
first-written m zero a b some same k = absurd (omega arith)
first-written m (suc n) a b some same zero = same
first-written m (suc n) a b some same (suc k) = ap (λ t. t % m) (zeros-at n k)

pub two-written : (m n a b c : ℕ) → 1 < n → a % m ≡ b % m → Alike m (set (set (replicate n 0) 0 a) 1 c) (b ∷ c ∷ [])
two-written m zero a b c some same k = absurd (omega arith)
two-written m (suc zero) a b c some same k = absurd (omega arith)
two-written m (suc (suc n)) a b c some same zero = same
two-written m (suc (suc n)) a b c some same (suc zero) = refl
two-written m (suc (suc n)) a b c some same (suc (suc k)) = ap (λ t. t % m) (zeros-at n k)

pub none-written : (m n : ℕ) → Alike m (replicate n 0) []
none-written m n k = ap (λ t. t % m) (zeros-at n k)
