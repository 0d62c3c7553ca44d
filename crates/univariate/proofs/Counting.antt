-- A polynomial in one variable with more zeros than its degree is zero, where the differences of the zeros are units.
use Rattle.std.proofs.Common.{◌≡◌, ℕ, zero, suc, ◌+◌, ◌*◌, ◌%◌, ◌<◌, ◌≤◌, List, [], ◌∷◌, length, take, slice_index, length-take, refl, sym, ◌∙◌, ap, arith, add_comm}
use Rattle.std.proofs.Math.Nat.{zero-mod}
use Rattle.prime_field.proofs.Residues.{add-cong, mul-cong, cancel}
use Rattle.univariate.specs.Coefficients.{sum_of, multiple, IsBelow, Alike}
use Rattle.univariate.proofs.Coefficients.{at-sum, at-multiple, value-sum, value-multiple, value-alike, same_of_difference, difference_of_same}
use Rattle.univariate.specs.Univariate.{univariate_value, AllVanish, IsApart, AreApart}

-- a sum and one summand that leave 0: so does the other
pub zero-rest : (m a b : ℕ) → (a + b) % m ≡ 0 → b % m ≡ 0 → a % m ≡ 0
zero-rest m a b sum part =
    cancel m a 0 b (sum ∙ sym part ∙ ap (λ t. t % m) (omega arith)) ∙ zero-mod m

-- a multiple of what leaves 0
pub zero-times : (m a b : ℕ) → b % m ≡ 0 → (a * b) % m ≡ 0
zero-times m a b part =
    mul-cong m a a b 0 refl (part ∙ sym (zero-mod m)) ∙ ap (λ t. t % m) (omega arith) ∙ zero-mod m

-- a sum of two that leave 0
pub zero-sum : (m a b : ℕ) → a % m ≡ 0 → b % m ≡ 0 → (a + b) % m ≡ 0
zero-sum m a b left right =
    add-cong m a 0 b 0 (left ∙ sym (zero-mod m)) (right ∙ sym (zero-mod m)) ∙ zero-mod m

-- a factor that two numbers apart take to the same residue leaves 0
apart-zero : (m x y q : ℕ) → IsApart m x y → (x * q) % m ≡ (y * q) % m → q % m ≡ 0
apart-zero m x y q apart same =
    let b = apart.0 in
    let one : ((x * b + 1) * q) % m ≡ ((y * b) * q) % m = mul-cong m (x * b + 1) (y * b) q q (sym apart.1) refl in
    let far : ((y * q) * b) % m ≡ ((x * q) * b) % m = mul-cong m (y * q) (x * q) b b (sym same) refl in
    let from : q + x * q * b ≡ (x * b + 1) * q = omega arith in
    let turned : (y * b) * q ≡ (y * q) * b = omega arith in
    let to : (x * q) * b ≡ 0 + x * q * b = omega arith in
    cancel m q 0 (x * q * b) (ap (λ t. t % m) from ∙ one ∙ ap (λ t. t % m) turned ∙ far ∙ ap (λ t. t % m) to) ∙ zero-mod m

-- the quotient of (c ∷ p) by x - a, as long as p: the value at a of each tail
tails : List ℕ → ℕ → List ℕ
tails [] a = []
tails (d ∷ p) a = univariate_value (d ∷ p) a ∷ tails p a

length-tails : (p : List ℕ) (a : ℕ) → length (tails p a) ≡ length p
unfolding tails
length-tails [] a = refl
length-tails (d ∷ p) a = ap suc (length-tails p a)

divided : (c : ℕ) (p : List ℕ) (a x : ℕ) → univariate_value (c ∷ p) x + a * univariate_value (tails p a) x ≡ univariate_value (c ∷ p) a + x * univariate_value (tails p a) x
unfolding tails
divided c [] a x = omega arith
divided c (d ∷ p) a x = omega (arith, ap (λ t. x * t) (divided d p a x))

-- a quotient that vanishes was that of a polynomial whose value is 0
value_zero : (m : ℕ) (p : List ℕ) (a : ℕ) → AllVanish m (tails p a) → univariate_value p a % m ≡ 0
unfolding tails
value_zero m [] a quotient = zero-mod m
value_zero m (d ∷ p) a quotient = quotient 0

-- a quotient that vanishes was that of a polynomial that vanishes
zero_above : (m : ℕ) (p : List ℕ) (a : ℕ) → AllVanish m (tails p a) → AllVanish m p
unfolding tails
zero_above m [] a quotient k = zero-mod m
zero_above m (d ∷ p) a quotient zero =
    zero-rest m d (a * univariate_value p a) (quotient 0) (zero-times m a (univariate_value p a) (value_zero m p a (λ k. quotient (suc k))))
zero_above m (d ∷ p) a quotient (suc k) = zero_above m p a (λ k. quotient (suc k)) k

-- a constant and a polynomial below it
vanish-cons : (m c : ℕ) (p : List ℕ) → c % m ≡ 0 → AllVanish m p → AllVanish m (c ∷ p)
vanish-cons m c p first rest zero = first
vanish-cons m c p first rest (suc k) = rest k

-- equal sums, in which the first summands leave 0
without : (m v w a b : ℕ) → v % m ≡ 0 → w % m ≡ 0 → v + a ≡ w + b → a % m ≡ b % m
without m v w a b left right same =
    cancel m a b w
    (ap (λ t. t % m) (add_comm a w) ∙
    add-cong m w v a a (right ∙ sym left) refl ∙
    ap (λ t. t % m) (same ∙ add_comm w b))

-- at most n coefficients and n zeros: each coefficient is 0
pub vanishing : (m n : ℕ) (f : ℕ → ℕ) (p : List ℕ) → length p ≤ n → AreApart m n f → ((j : ℕ) → j < n → univariate_value p (f j) % m ≡ 0) → AllVanish m p
vanishing m n f [] short apart zeros = λ k. zero-mod m
vanishing m zero f (c ∷ p) short apart zeros = absurd (omega arith)
vanishing m (suc n) f (c ∷ p) short apart zeros =
    let a = f 0 in
    let quotient : AllVanish m (tails p a) =
    vanishing m n (λ j. f (suc j)) (tails p a) (omega (arith, length-tails p a, short))
    (λ i j before below. apart (suc i) (suc j) (omega arith) (omega arith))
    (λ j below.
    let x = f (suc j) in
    let t = univariate_value (tails p a) x in
    apart-zero m a x t (apart 0 (suc j) (omega arith) (omega arith))
    (without m (univariate_value (c ∷ p) x) (univariate_value (c ∷ p) a) (a * t) (x * t)
    (zeros (suc j) (omega arith)) (zeros 0 (omega arith)) (divided c p a x))) in
    vanish-cons m c p
    (zero-rest m c (a * univariate_value p a) (zeros 0 (omega arith)) (zero-times m a (univariate_value p a) (value_zero m p a quotient)))
    (zero_above m p a quotient)

-- the first n coefficients of a polynomial below n
pub take-alike : (m n : ℕ) (p : List ℕ) → IsBelow m n p → Alike m p (take n p)
take-alike m zero p below k = below k (omega arith) ∙ sym (zero-mod m)
take-alike m (suc n) [] below k = refl
take-alike m (suc n) (a ∷ p) below zero = refl
take-alike m (suc n) (a ∷ p) below (suc k) = take-alike m n p (λ i from. below (suc i) (omega arith)) k

-- degree below n and n zeros: each coefficient is 0
pub vanishing_below : (m n : ℕ) (f : ℕ → ℕ) (p : List ℕ) → IsBelow m n p → AreApart m n f → ((j : ℕ) → j < n → univariate_value p (f j) % m ≡ 0) → AllVanish m p
vanishing_below m n f p below apart zeros k =
    take-alike m n p below k ∙
    vanishing m n f (take n p) (omega (arith, length-take {A = ℕ})) apart
    (λ j low. sym (value-alike m p (take n p) (f j) (take-alike m n p below)) ∙ zeros j low) k

-- two polynomials of degree below n with the same values at n points are alike
pub alike_of_values : (m k n : ℕ) (f : ℕ → ℕ) (p q : List ℕ) → suc k ≡ m → IsBelow m n p → IsBelow m n q → AreApart m n f → ((j : ℕ) → j < n → univariate_value p (f j) % m ≡ univariate_value q (f j) % m) → Alike m p q
alike_of_values m k n f p q predecessor p_below q_below apart same i =
    let difference = sum_of p (multiple k q) in
    same_of_difference m k (slice_index p i) (slice_index q i) predecessor
    (ap (λ t. t % m) (ap (λ t. slice_index p i + t) (sym (at-multiple k q i)) ∙ sym (at-sum p (multiple k q) i)) ∙
    vanishing_below m n f difference
    (λ j from.
    ap (λ t. t % m) (at-sum p (multiple k q) j ∙ ap (λ t. slice_index p j + t) (at-multiple k q j)) ∙
    zero-sum m (slice_index p j) (k * slice_index q j) (p_below j from) (zero-times m k (slice_index q j) (q_below j from)))
    apart
    (λ j low.
    ap (λ t. t % m) (value-sum p (multiple k q) (f j) ∙ ap (λ t. univariate_value p (f j) + t) (value-multiple k q (f j))) ∙
    difference_of_same m k (univariate_value p (f j)) (univariate_value q (f j)) predecessor (same j low))
    i)
