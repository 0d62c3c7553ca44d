-- The entries and the values of sums, multiples, shifts and products of coefficient lists.
use Rattle.std.proofs.Common.{◌≡◌, ℕ, zero, suc, ◌+◌, ◌*◌, ◌%◌, ◌<◌, ◌≤◌, List, [], ◌∷◌, length, slice_index, refl, sym, ◌∙◌, ap, arith}
use Rattle.std.proofs.Math.Nat.{zero-mod, mod_self}
use Rattle.prime_field.proofs.Residues.{add-cong, mul-cong, cancel}
use Rattle.univariate.specs.Univariate.{univariate_value, AllVanish}
use Rattle.univariate.specs.Coefficients.{sum_of, multiple, raised, product_of, Alike}

-- past the end each coefficient is 0
pub at-beyond : (p : List ℕ) (k : ℕ) → length p ≤ k → slice_index p k ≡ 0
at-beyond [] k beyond = refl
at-beyond (a ∷ p) zero beyond = absurd (omega arith)
at-beyond (a ∷ p) (suc k) beyond = at-beyond p k (omega arith)

-- a coefficient of a sum
pub at-sum : (p q : List ℕ) (k : ℕ) → slice_index (sum_of p q) k ≡ slice_index p k + slice_index q k
at-sum [] q k = omega arith
at-sum (a ∷ p) [] zero = omega arith
at-sum (a ∷ p) [] (suc k) = omega arith
at-sum (a ∷ p) (b ∷ q) zero = refl
at-sum (a ∷ p) (b ∷ q) (suc k) = at-sum p q k

-- a coefficient of a multiple
pub at-multiple : (c : ℕ) (p : List ℕ) (k : ℕ) → slice_index (multiple c p) k ≡ c * slice_index p k
at-multiple c [] k = omega arith
at-multiple c (a ∷ p) zero = refl
at-multiple c (a ∷ p) (suc k) = at-multiple c p k

-- a coefficient of a raised polynomial, at or above the shift
pub at-raised : (j : ℕ) (p : List ℕ) (i k : ℕ) → i ≡ j + k → slice_index (raised j p) i ≡ slice_index p k
at-raised zero p i k place = ap (slice_index p) (omega (arith, place))
at-raised (suc j) p zero k place = absurd (omega arith)
at-raised (suc j) p (suc i) k place = at-raised j p i k (omega arith)

-- and below it
pub at-raised_low : (j : ℕ) (p : List ℕ) (i : ℕ) → i < j → slice_index (raised j p) i ≡ 0
at-raised_low zero p i low = absurd (omega arith)
at-raised_low (suc j) p zero low = refl
at-raised_low (suc j) p (suc i) low = at-raised_low j p i (omega arith)

-- the value of a sum is the sum of the values
pub value-sum : (p q : List ℕ) (x : ℕ) → univariate_value (sum_of p q) x ≡ univariate_value p x + univariate_value q x
value-sum [] q x = omega arith
value-sum (a ∷ p) [] x = omega arith
value-sum (a ∷ p) (b ∷ q) x = omega (arith, ap (λ t. x * t) (value-sum p q x))

-- the value of a multiple
pub value-multiple : (c : ℕ) (p : List ℕ) (x : ℕ) → univariate_value (multiple c p) x ≡ c * univariate_value p x
value-multiple c [] x = omega arith
value-multiple c (a ∷ p) x = omega (arith, ap (λ t. x * t) (value-multiple c p x))

-- the value of a raised polynomial: the power of x, as the value of that power of the variable, times the value
pub value-raised : (j : ℕ) (p : List ℕ) (x : ℕ) → univariate_value (raised j p) x ≡ univariate_value (raised j (1 ∷ [])) x * univariate_value p x
value-raised zero p x = omega arith
value-raised (suc j) p x = omega (arith, ap (λ t. x * t) (value-raised j p x))

-- the value of a product is the product of the values
pub value-product : (p q : List ℕ) (x : ℕ) → univariate_value (product_of p q) x ≡ univariate_value p x * univariate_value q x
value-product [] q x = omega arith
value-product (a ∷ p) q x =
    omega (arith, value-sum (multiple a q) (0 ∷ product_of p q) x, value-multiple a q x, ap (λ t. x * t) (value-product p q x))

-- the value of a polynomial whose coefficients leave 0
pub value-vanish : (m : ℕ) (p : List ℕ) (x : ℕ) → AllVanish m p → univariate_value p x % m ≡ 0
value-vanish m [] x vanish = zero-mod m
value-vanish m (a ∷ p) x vanish =
    add-cong m a 0 (x * univariate_value p x) (x * 0) (vanish 0 ∙ sym (zero-mod m))
    (mul-cong m x x (univariate_value p x) 0 refl (value-vanish m p x (λ k. vanish (suc k)) ∙ sym (zero-mod m))) ∙
    ap (λ t. t % m) (omega arith) ∙ zero-mod m

-- polynomials that are alike have congruent values
pub value-alike : (m : ℕ) (p q : List ℕ) (x : ℕ) → Alike m p q → univariate_value p x % m ≡ univariate_value q x % m
value-alike m [] q x alike = zero-mod m ∙ sym (value-vanish m q x (λ k. sym (alike k) ∙ zero-mod m))
value-alike m (a ∷ p) [] x alike = value-vanish m (a ∷ p) x (λ k. alike k ∙ zero-mod m) ∙ sym (zero-mod m)
value-alike m (a ∷ p) (b ∷ q) x alike =
    add-cong m a b (x * univariate_value p x) (x * univariate_value q x) (alike 0)
    (mul-cong m x x (univariate_value p x) (univariate_value q x) refl (value-alike m p q x (λ k. alike (suc k))))

-- equal entries make polynomials alike
pub alike_by_entries : (m : ℕ) (p q : List ℕ) → ((k : ℕ) → slice_index p k ≡ slice_index q k) → Alike m p q
alike_by_entries m p q same k = ap (λ t. t % m) (same k)

-- sums of polynomials that are alike
pub alike-sum : (m : ℕ) (p p' q q' : List ℕ) → Alike m p p' → Alike m q q' → Alike m (sum_of p q) (sum_of p' q')
alike-sum m p p' q q' left right k =
    ap (λ t. t % m) (at-sum p q k) ∙
    add-cong m (slice_index p k) (slice_index p' k) (slice_index q k) (slice_index q' k) (left k) (right k) ∙
    ap (λ t. t % m) (sym (at-sum p' q' k))

-- multiples of polynomials that are alike
pub alike-multiple : (m c c' : ℕ) (p p' : List ℕ) → c % m ≡ c' % m → Alike m p p' → Alike m (multiple c p) (multiple c' p')
alike-multiple m c c' p p' factor alike k =
    ap (λ t. t % m) (at-multiple c p k) ∙
    mul-cong m c c' (slice_index p k) (slice_index p' k) factor (alike k) ∙
    ap (λ t. t % m) (sym (at-multiple c' p' k))

-- a number and k times it, k being m - 1, leave 0 together
opposite : (m k b : ℕ) → suc k ≡ m → (b + k * b) % m ≡ 0
opposite m k b predecessor =
    ap (λ t. t % m) (omega (arith, ap (λ t. t * b) predecessor)) ∙
    mul-cong m m 0 b b (mod_self m ∙ sym (zero-mod m)) refl ∙ ap (λ t. t % m) (omega arith) ∙ zero-mod m

-- a sum that leaves 0 with k times the second summand, k being m - 1: the two are congruent
pub same_of_difference : (m k a b : ℕ) → suc k ≡ m → (a + k * b) % m ≡ 0 → a % m ≡ b % m
same_of_difference m k a b predecessor zeros = cancel m a b (k * b) (zeros ∙ sym (opposite m k b predecessor))

-- and congruent numbers make such a sum leave 0
pub difference_of_same : (m k a b : ℕ) → suc k ≡ m → a % m ≡ b % m → (a + k * b) % m ≡ 0
difference_of_same m k a b predecessor same = add-cong m a b (k * b) (k * b) same refl ∙ opposite m k b predecessor
