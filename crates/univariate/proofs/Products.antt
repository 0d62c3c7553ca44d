-- Products with multiples, with what is alike, and with 1.
use Rattle.std.proofs.Common.{◌≡◌, ℕ, zero, suc, ◌+◌, ◌*◌, ◌%◌, List, [], ◌∷◌, slice_index, refl, sym, ◌∙◌, ap, arith, one-mul}
use Rattle.std.proofs.Math.Nat.{zero-mod}
use Rattle.prime_field.proofs.Residues.{add-cong, mul-cong}
use Rattle.univariate.specs.Coefficients.{multiple, product_of, IsBelow, Alike}
use Rattle.univariate.proofs.Coefficients.{at-sum, at-multiple}
use Rattle.univariate.proofs.Degrees.{product-vanish}

-- a multiple of the left factor
pub product-multiple_left : (c : ℕ) (p q : List ℕ) (k : ℕ) → slice_index (product_of (multiple c p) q) k ≡ c * slice_index (product_of p q) k
product-multiple_left c [] q k = omega arith
product-multiple_left c (a ∷ p) q zero =
    at-sum (multiple (c * a) q) (0 ∷ product_of (multiple c p) q) 0 ∙
    omega (arith, at-multiple (c * a) q 0, ap (λ t. c * t) (at-sum (multiple a q) (0 ∷ product_of p q) 0 ∙ ap (λ t. t + 0) (at-multiple a q 0)))
product-multiple_left c (a ∷ p) q (suc k) =
    at-sum (multiple (c * a) q) (0 ∷ product_of (multiple c p) q) (suc k) ∙
    omega (
      arith,
      at-multiple (c * a) q (suc k),
      product-multiple_left c p q k,
      ap (λ t. c * t) (at-sum (multiple a q) (0 ∷ product_of p q) (suc k) ∙ ap (λ t. t + slice_index (product_of p q) k) (at-multiple a q (suc k))),
    )

-- a multiple of the right factor
pub product-multiple_right : (c : ℕ) (p q : List ℕ) (k : ℕ) → slice_index (product_of p (multiple c q)) k ≡ c * slice_index (product_of p q) k
product-multiple_right c [] q k = omega arith
product-multiple_right c (a ∷ p) q zero =
    at-sum (multiple a (multiple c q)) (0 ∷ product_of p (multiple c q)) 0 ∙
    omega (
      arith,
      at-multiple a (multiple c q) 0,
      ap (λ t. a * t) (at-multiple c q 0),
      ap (λ t. c * t) (at-sum (multiple a q) (0 ∷ product_of p q) 0 ∙ ap (λ t. t + 0) (at-multiple a q 0)),
    )
product-multiple_right c (a ∷ p) q (suc k) =
    at-sum (multiple a (multiple c q)) (0 ∷ product_of p (multiple c q)) (suc k) ∙
    omega (
      arith,
      at-multiple a (multiple c q) (suc k),
      ap (λ t. a * t) (at-multiple c q (suc k)),
      product-multiple_right c p q k,
      ap (λ t. c * t) (at-sum (multiple a q) (0 ∷ product_of p q) (suc k) ∙ ap (λ t. t + slice_index (product_of p q) k) (at-multiple a q (suc k))),
    )

-- right factors that are alike
pub product-alike_right : (m : ℕ) (p q q' : List ℕ) → Alike m q q' → Alike m (product_of p q) (product_of p q')
product-alike_right m [] q q' alike k = refl
product-alike_right m (a ∷ p) q q' alike k =
    ap (λ t. t % m) (at-sum (multiple a q) (0 ∷ product_of p q) k) ∙
    add-cong m (slice_index (multiple a q) k) (slice_index (multiple a q') k) (slice_index (0 ∷ product_of p q) k) (slice_index (0 ∷ product_of p q') k)
    (ap (λ t. t % m) (at-multiple a q k) ∙ mul-cong m a a (slice_index q k) (slice_index q' k) refl (alike k) ∙ ap (λ t. t % m) (sym (at-multiple a q' k)))
    (shifted (product_of p q) (product_of p q') (product-alike_right m p q q' alike) k) ∙
    ap (λ t. t % m) (sym (at-sum (multiple a q') (0 ∷ product_of p q') k))
  where
    shifted : (r r' : List ℕ) → Alike m r r' → (i : ℕ) → slice_index (0 ∷ r) i % m ≡ slice_index (0 ∷ r') i % m
    shifted r r' same zero = refl
    shifted r r' same (suc i) = same i

-- a left factor that is the constant 1
pub product-one : (m : ℕ) (q p : List ℕ) → IsBelow m 1 q → slice_index q 0 % m ≡ 1 % m → Alike m (product_of q p) p
product-one m [] p below one k =
    ap (λ t. t % m) (omega arith) ∙ mul-cong m 0 1 (slice_index p k) (slice_index p k) one refl ∙ ap (λ t. t % m) (one-mul (slice_index p k))
product-one m (c ∷ q) p below one k =
    ap (λ t. t % m) (at-sum (multiple c p) (0 ∷ product_of q p) k ∙ ap (λ t. t + slice_index (0 ∷ product_of q p) k) (at-multiple c p k)) ∙
    add-cong m (c * slice_index p k) (slice_index p k) (slice_index (0 ∷ product_of q p) k) 0
    (mul-cong m c 1 (slice_index p k) (slice_index p k) one refl ∙ ap (λ t. t % m) (one-mul (slice_index p k)))
    (tail k ∙ sym (zero-mod m)) ∙
    ap (λ t. t % m) (omega arith)
  where
    tail : (i : ℕ) → slice_index (0 ∷ product_of q p) i % m ≡ 0
    tail zero = zero-mod m
    tail (suc i) = product-vanish m q p (λ j. below (suc j) (omega arith)) i
