-- Degrees: what is below a bound, and the coefficient of a product at the sum of the degrees.
use Rattle.std.proofs.Common.{◌≡◌, ℕ, zero, suc, ◌+◌, ◌-◌, ◌*◌, ◌%◌, ◌≤◌, List, [], ◌∷◌, length, slice_index, refl, sym, ◌∙◌, ap, arith, inl, inr}
use Rattle.std.proofs.Math.Nat.{zero-mod}
use Rattle.std.proofs.lemmas.Bool.{cases_eq}
use Rattle.prime_field.specs.Residue.{IsUnit}
use Rattle.prime_field.proofs.Residues.{add-cong, mul-cong}
use Rattle.prime_field.proofs.Units.{cancel_unit}
use Rattle.univariate.specs.Univariate.{AllVanish}
use Rattle.univariate.specs.Coefficients.{sum_of, multiple, product_of, raised, IsBelow, Alike}
use Rattle.univariate.proofs.Coefficients.{at-beyond, at-sum, at-multiple, at-raised}
use Rattle.univariate.proofs.Counting.{zero-times, zero-sum}

-- a polynomial is below its length
pub below-length : (m : ℕ) (p : List ℕ) → IsBelow m (length p) p
below-length m p k from = ap (λ t. t % m) (at-beyond p k from) ∙ zero-mod m

-- a greater bound
pub below-more : (m e f : ℕ) (p : List ℕ) → e ≤ f → IsBelow m e p → IsBelow m f p
below-more m e f p more below k from = below k (omega arith)

-- the bound of a polynomial is that of those alike
pub below-alike : (m e : ℕ) (p q : List ℕ) → Alike m p q → IsBelow m e q → IsBelow m e p
below-alike m e p q alike below k from = alike k ∙ below k from

-- the bound of a sum
pub below-sum : (m e : ℕ) (p q : List ℕ) → IsBelow m e p → IsBelow m e q → IsBelow m e (sum_of p q)
below-sum m e p q left right k from =
    ap (λ t. t % m) (at-sum p q k) ∙ zero-sum m (slice_index p k) (slice_index q k) (left k from) (right k from)

-- the bound of a multiple
pub below-multiple : (m e c : ℕ) (p : List ℕ) → IsBelow m e p → IsBelow m e (multiple c p)
below-multiple m e c p below k from =
    ap (λ t. t % m) (at-multiple c p k) ∙ zero-times m c (slice_index p k) (below k from)

-- a coefficient of a raised polynomial from place j + e on, e bounding the polynomial
pub below-raised : (m j e : ℕ) (p : List ℕ) → IsBelow m e p → IsBelow m (j + e) (raised j p)
below-raised m j e p below k from =
    ap (λ t. t % m) (at-raised j p k (k - j) (omega arith)) ∙ below (k - j) (omega arith)

-- a multiple by a factor that leaves 0
multiple-vanish : (m a : ℕ) (q : List ℕ) → a % m ≡ 0 → AllVanish m (multiple a q)
multiple-vanish m a q none k =
    ap (λ t. t % m) (at-multiple a q k) ∙
    mul-cong m a 0 (slice_index q k) (slice_index q k) (none ∙ sym (zero-mod m)) refl ∙
    ap (λ t. t % m) (omega arith) ∙ zero-mod m

-- a product with a polynomial that vanishes
pub product-vanish : (m : ℕ) (p q : List ℕ) → AllVanish m p → AllVanish m (product_of p q)
product-vanish m [] q vanish k = zero-mod m
product-vanish m (a ∷ p) q vanish zero =
    ap (λ t. t % m) (at-sum (multiple a q) (0 ∷ product_of p q) 0) ∙
    zero-sum m (slice_index (multiple a q) 0) 0 (multiple-vanish m a q (vanish 0) 0) (zero-mod m)
product-vanish m (a ∷ p) q vanish (suc k) =
    ap (λ t. t % m) (at-sum (multiple a q) (0 ∷ product_of p q) (suc k)) ∙
    zero-sum m (slice_index (multiple a q) (suc k)) (slice_index (product_of p q) k)
    (multiple-vanish m a q (vanish 0) (suc k))
    (product-vanish m p q (λ i. vanish (suc i)) k)

-- the degree of a product: from the sum of the bounds less 1 on there is nothing
pub below-product : (m e f : ℕ) (p q : List ℕ) → IsBelow m e p → IsBelow m f q → (k : ℕ) → e + f ≤ k + 1 → slice_index (product_of p q) k % m ≡ 0
below-product m e f [] q left right k from = zero-mod m
below-product m zero f (a ∷ p) q left right k from = product-vanish m (a ∷ p) q (λ i. left i (omega arith)) k
below-product m (suc e) f (a ∷ p) q left right zero from =
    ap (λ t. t % m) (at-sum (multiple a q) (0 ∷ product_of p q) 0) ∙
    zero-sum m (slice_index (multiple a q) 0) 0 (below-multiple m f a q right 0 (omega arith)) (zero-mod m)
below-product m (suc e) f (a ∷ p) q left right (suc k) from =
    ap (λ t. t % m) (at-sum (multiple a q) (0 ∷ product_of p q) (suc k)) ∙
    zero-sum m (slice_index (multiple a q) (suc k)) (slice_index (product_of p q) k)
    (below-multiple m f a q right (suc k) (omega arith))
    (below-product m e f p q (λ i low. left (suc i) (omega arith)) right k (omega arith))

-- the coefficient of a product at the sum of the degrees
pub top-product : (m e f : ℕ) (p q : List ℕ) → IsBelow m (suc e) p → IsBelow m (suc f) q → (k : ℕ) → k ≡ e + f → slice_index (product_of p q) k % m ≡ (slice_index p e * slice_index q f) % m
top-product m e f [] q left right k place = ap (λ t. t % m) (omega arith)
top-product m zero f (a ∷ p) q left right k place =
    ap (λ t. t % m) (at-sum (multiple a q) (0 ∷ product_of p q) k) ∙
    add-cong m (slice_index (multiple a q) k) (a * slice_index q f) (slice_index (0 ∷ product_of p q) k) 0
    (ap (λ t. t % m) (at-multiple a q k ∙ ap (λ i. a * slice_index q i) (omega (arith, place))))
    (tail k ∙ sym (zero-mod m)) ∙
    ap (λ t. t % m) (omega arith)
  where
    tail : (i : ℕ) → slice_index (0 ∷ product_of p q) i % m ≡ 0
    tail zero = zero-mod m
    tail (suc i) = product-vanish m p q (λ j. left (suc j) (omega arith)) i
top-product m (suc e) f (a ∷ p) q left right zero place = absurd (omega arith)
top-product m (suc e) f (a ∷ p) q left right (suc k) place =
    ap (λ t. t % m) (at-sum (multiple a q) (0 ∷ product_of p q) (suc k)) ∙
    add-cong m (slice_index (multiple a q) (suc k)) 0 (slice_index (product_of p q) k) (slice_index p e * slice_index q f)
    (below-multiple m (suc f) a q right (suc k) (omega arith) ∙ sym (zero-mod m))
    (top-product m e f p q (λ i low. left (suc i) (omega arith)) right k (omega arith)) ∙
    ap (λ t. t % m) (omega arith)

-- one degree less: the last coefficient is 0 where the product's is, the other factor's being a unit
lower : (m l d : ℕ) (p u : List ℕ) → IsBelow m (suc d) u → IsUnit m (slice_index u d) → IsBelow m (suc l) p → slice_index (product_of p u) (l + d) % m ≡ 0 → IsBelow m l p
lower m l d p u below unit before zeros k from =
    elim (cases_eq k l) [
      | inl last ↦
          ap (λ i. slice_index p i % m) last ∙
          cancel_unit m (slice_index p l) 0 (slice_index u d) unit
          (sym (top-product m l d p u before below (l + d) refl) ∙ zeros ∙ sym (zero-mod m) ∙ ap (λ t. t % m) (omega arith)) ∙
          zero-mod m
      | inr other ↦ before k (omega arith)
    ]

descend : (m d n l : ℕ) (p u : List ℕ) → IsBelow m (suc d) u → IsUnit m (slice_index u d) → IsBelow m (l + d) (product_of p u) → IsBelow m (n + l) p → IsBelow m l p
descend m d zero l p u below unit product before = λ k from. before k (omega arith)
descend m d (suc n) l p u below unit product before =
    descend m d n l p u below unit product
    (lower m (n + l) d p u below unit (λ k from. before k (omega arith)) (product (n + l + d) (omega arith)))

-- the degree of a factor, from that of the product and that of the other factor, whose leading coefficient is a unit
pub below-cancel : (m l d : ℕ) (p u : List ℕ) → IsBelow m (suc d) u → IsUnit m (slice_index u d) → IsBelow m (l + d) (product_of p u) → IsBelow m l p
below-cancel m l d p u below unit product =
    descend m d (length p) l p u below unit product (below-more m (length p) (length p + l) p (omega arith) (below-length m p))

-- below 0 all coefficients leave 0
pub vanish-below : (m : ℕ) (p : List ℕ) → IsBelow m 0 p → AllVanish m p
vanish-below m p below k = below k (omega arith)
