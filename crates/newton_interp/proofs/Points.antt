-- Products of differences, and what one more point changes in Newton's form.
use Rattle.std.proofs.Common.{◌≡◌, ℕ, zero, suc, ◌+◌, ◌-◌, ◌*◌, ◌%◌, ◌<◌, ◌≤◌, List, [], ◌∷◌, slice_index, refl, sym, ◌∙◌, ap, arith, inl, inr, mul-one}
use Rattle.std.proofs.Math.Nat.{zero-mod, mod_self, mod-mod, mod-lt, mod-eq_of_lt}
use Rattle.std.proofs.lemmas.Bool.{cases_eq}
use Rattle.std.proofs.Math.ListN.{replicate}
use Rattle.prime_field.specs.Residue.{IsUnit}
use Rattle.prime_field.proofs.Residues.{add-cong, mul-cong, cancel}
use Rattle.prime_field.proofs.BatchLemmas.{unit-product}
use Rattle.univariate.specs.Univariate.{univariate_value, IsApart, AreApart}
use Rattle.univariate.specs.Coefficients.{sum_of, multiple, product_of, IsBelow, Alike, AreResidues}
use Rattle.univariate.proofs.Coefficients.{at-sum, at-multiple, value-sum, value-multiple, value-product, value-alike}
use Rattle.univariate.proofs.Counting.{zero-times, zero-sum, alike_of_values}
use Rattle.univariate.proofs.Degrees.{below-alike, below-more, below-sum, below-multiple}
use Rattle.univariate.proofs.Places.{at-linear, at-linear_first}
use Rattle.newton_interp.specs.Interpolation.{from_points, IsInterpolant, IsProductOf}
use Rattle.prime_field.proofs.Units.{unit-cong, unit-mul}
use Rattle.newton_interp.specs.Stage.{IsStage, Wants}

-- the product over the points is 0 at each of them
pub from_points-zero : (m n : ℕ) (f : ℕ → ℕ) (i : ℕ) → ((j : ℕ) → f j ≤ m) → i < n → from_points m n f (f i) % m ≡ 0
from_points-zero m zero f i low within = absurd (omega arith)
from_points-zero m (suc n) f i low within =
    elim (cases_eq i n) [
      | inl last ↦
          let whole : f i + (m - f n) ≡ m = omega (arith, ap f last, low n) in
          zero-times m (from_points m n f (f i)) (f i + (m - f n)) (ap (λ t. t % m) whole ∙ mod_self m)
      | inr other ↦
          mul-cong m (from_points m n f (f i)) 0 (f i + (m - f n)) (f i + (m - f n)) (from_points-zero m n f i low (omega arith) ∙ sym (zero-mod m)) refl ∙
          ap (λ t. t % m) (omega arith) ∙ zero-mod m
    ]

-- a difference of two points that are apart is a unit
apart-unit : (m x y : ℕ) → 1 < m → x ≤ m → IsApart m x y → IsUnit m (y + (m - x))
apart-unit m x y large low apart =
    let b = apart.0 in
    unit_of m (y + (m - x)) b large
    (cancel m ((y + (m - x)) * b) 1 (x * b)
    (ap (λ t. t % m) (regroup (m - x) (omega arith)) ∙
    add-cong m (y * b) (x * b + 1) (m * b) 0 apart.1
    (mul-cong m m 0 b b (mod_self m ∙ sym (zero-mod m)) refl ∙ ap (λ t. t % m) (omega arith)) ∙
    ap (λ t. t % m) (omega arith)))
  where
    regroup : (rest : ℕ) → rest + x ≡ m → (y + rest) * apart.0 + x * apart.0 ≡ y * apart.0 + m * apart.0
    regroup rest whole = omega (arith, ap (λ t. t * apart.0) whole)

    unit_of : (m a b : ℕ) → 1 < m → (a * b) % m ≡ 1 % m → IsUnit m a
    unit_of m a b large product = (
      b % m,
      mod-lt b (omega arith),
      mul-cong m a a (b % m) b refl (mod-mod b m) ∙ product ∙ mod-eq_of_lt large,
    )

-- the product of a point less each earlier one is a unit
pub from_points-unit : (m n k : ℕ) (f : ℕ → ℕ) → 1 < m → ((j : ℕ) → f j ≤ m) → AreApart m n f → k < n → IsUnit m (from_points m k f (f k))
from_points-unit m n k f large low apart within =
    unit-product m k (λ i. f k + (m - f i)) large (λ i below. apart-unit m (f i) (f k) large (low i) (apart i k below within))

-- the value of the variable less r
value-root : (c x : ℕ) → univariate_value (c ∷ 1 ∷ []) x ≡ x + c
value-root c x = omega (arith, ap (λ t. x * t) (mul-one x))

-- what one more point does, modulo m: `own` is the product of its differences from the points before, `lack` what its value lacks
pub record IsStep (m n k : ℕ) (f : ℕ → ℕ) (own lack : ℕ) (spread missing : ℕ → ℕ) (product out : List ℕ) (spread' missing' : ℕ → ℕ) (product' out' : List ℕ) : Type 0 where
  pub own_is : own % m ≡ spread k % m
  pub lack_is : lack % m ≡ missing k % m
  pub multiplied : Alike m product' (product_of ((m - f k) ∷ 1 ∷ []) product)
  pub added : Alike m out' (sum_of (multiple own out) (multiple lack product))
  pub spread_on : (j : ℕ) → k < j → j < n → spread' j % m ≡ (spread j * (f j + (m - f k))) % m
  pub taken : (j : ℕ) → k < j → j < n → (missing' j + lack * spread j) % m ≡ (own * missing j) % m

-- one more point
pub stage-next : (m n k : ℕ) (f : ℕ → ℕ) (own lack : ℕ) (spread missing : ℕ → ℕ) (product out : List ℕ) (spread' missing' : ℕ → ℕ) (product' out' : List ℕ) →
    IsStage m n k f spread product out → IsStep m n k f own lack spread missing product out spread' missing' product' out' →
    IsStage m n (suc k) f spread' product' out'
stage-next m n k f own lack spread missing product out spread' missing' product' out' stage step =
    let c = m - f k in
    record {
      degree = higher;
      leading =
          step.multiplied (suc k) ∙ ap (λ t. t % m) (at-linear c product k) ∙
          add-cong m (slice_index product k) 1 (c * slice_index product (suc k)) 0 stage.leading
          (zero-times m c (slice_index product (suc k)) (stage.degree (suc k) (omega arith)) ∙ sym (zero-mod m)) ∙
          ap (λ t. t % m) (omega arith);
      values = λ x.
          value-alike m product' (product_of (c ∷ 1 ∷ []) product) x step.multiplied ∙
          ap (λ t. t % m) (value-product (c ∷ 1 ∷ []) product x ∙ ap (λ t. t * univariate_value product x) (value-root c x)) ∙
          mul-cong m (x + c) (x + c) (univariate_value product x) (from_points m k f x) refl (stage.values x) ∙
          ap (λ t. t % m) (omega arith);
      spread_values = λ j from below.
          step.spread_on j (omega arith) below ∙
          mul-cong m (spread j) (from_points m k f (f j)) (f j + c) (f j + c) (stage.spread_values j (omega arith) below) refl;
      out_degree = below-alike m (suc k) out' (sum_of (multiple own out) (multiple lack product)) step.added
          (below-sum m (suc k) (multiple own out) (multiple lack product)
          (below-multiple m (suc k) own out (below-more m k (suc k) out (omega arith) stage.out_degree))
          (below-multiple m (suc k) lack product stage.degree));
    }
  where
    higher : IsBelow m (suc (suc k)) product'
    higher zero from = absurd (omega arith)
    higher (suc i) from =
        step.multiplied (suc i) ∙ ap (λ t. t % m) (at-linear (m - f k) product i) ∙
        zero-sum m (slice_index product i) ((m - f k) * slice_index product (suc i)) (stage.degree i (omega arith))
        (zero-times m (m - f k) (slice_index product (suc i)) (stage.degree (suc i) (omega arith)))

-- its value is reached, and what the later ones lack follows, all multiplied by `own`
pub wants-next : (m n k : ℕ) (f v : ℕ → ℕ) (own lack : ℕ) (spread missing : ℕ → ℕ) (product out : List ℕ) (spread' missing' : ℕ → ℕ) (product' out' : List ℕ) →
    ((j : ℕ) → f j ≤ m) → k < n → IsStage m n k f spread product out → IsStep m n k f own lack spread missing product out spread' missing' product' out' →
    Wants m n k f v missing out → Wants m n (suc k) f (λ i. own * v i) missing' out'
wants-next m n k f v own lack spread missing product out spread' missing' product' out' low within stage step wants =
    record {
      reached = λ i below.
          elim (cases_eq i k) [
            | inl last ↦ rw last
                (added (f k) ∙
                add-cong m (own * univariate_value out (f k)) (own * univariate_value out (f k)) (lack * univariate_value product (f k)) (missing k * own) refl
                (mul-cong m lack (missing k) (univariate_value product (f k)) own step.lack_is (at_later k (omega arith) within ∙ sym step.own_is)) ∙
                ap (λ t. t % m) (omega arith) ∙
                mul-cong m own own (missing k + univariate_value out (f k)) (v k) refl (wants.wanting k (omega arith) within))
            | inr other ↦
                added (f i) ∙
                add-cong m (own * univariate_value out (f i)) (own * v i) (lack * univariate_value product (f i)) 0
                (mul-cong m own own (univariate_value out (f i)) (v i) refl (wants.reached i (omega arith)))
                (zero-times m lack (univariate_value product (f i)) (stage.values (f i) ∙ from_points-zero m k f i low (omega arith)) ∙ sym (zero-mod m)) ∙
                ap (λ t. t % m) (omega arith)
          ];
      wanting = λ j from below.
          add-cong m (missing' j) (missing' j) (univariate_value out' (f j)) (own * univariate_value out (f j) + lack * spread j) refl
          (added (f j) ∙
          add-cong m (own * univariate_value out (f j)) (own * univariate_value out (f j)) (lack * univariate_value product (f j)) (lack * spread j) refl
          (mul-cong m lack lack (univariate_value product (f j)) (spread j) refl (at_later j (omega arith) below))) ∙
          ap (λ t. t % m) (omega arith) ∙
          add-cong m (missing' j + lack * spread j) (own * missing j) (own * univariate_value out (f j)) (own * univariate_value out (f j)) (step.taken j (omega arith) below) refl ∙
          ap (λ t. t % m) (omega arith) ∙
          mul-cong m own own (missing j + univariate_value out (f j)) (v j) refl (wants.wanting j (omega arith) below);
    }
  where
    added : (x : ℕ) → univariate_value out' x % m ≡ (own * univariate_value out x + lack * univariate_value product x) % m
    added x =
        value-alike m out' (sum_of (multiple own out) (multiple lack product)) x step.added ∙
        ap (λ t. t % m) (value-sum (multiple own out) (multiple lack product) x ∙ omega (arith, value-multiple own out x, value-multiple lack product x))

    at_later : (j : ℕ) → k ≤ j → j < n → univariate_value product (f j) % m ≡ spread j % m
    at_later j from below = stage.values (f j) ∙ sym (stage.spread_values j from below)

-- what the words of two more points are made of, modulo m: `own` and `lack` are the first point's, `own'` and `lack'` the second's
pub record IsPair (m n k : ℕ) (f : ℕ → ℕ) (own lack own' lack' : ℕ) (spread missing : ℕ → ℕ) (product out : List ℕ) (spread' missing' : ℕ → ℕ) (product' out' : List ℕ) : Type 0 where
  pub lack_low : lack ≤ m
  pub lack_low' : lack' ≤ m
  pub own_is : own % m ≡ spread k % m
  pub lack_is : lack % m ≡ missing k % m
  pub own_is' : own' % m ≡ (spread (suc k) * (f (suc k) + (m - f k))) % m
  pub lack_is' : lack' % m ≡ (own * missing (suc k) + (m - lack) * spread (suc k)) % m
  pub spread_on : (j : ℕ) → suc k < j → j < n → spread' j % m ≡ (spread j * (f j + (m - f k)) * (f j + (m - f (suc k)))) % m
  pub taken : (j : ℕ) → suc k < j → j < n →
      missing' j % m ≡ (own * own' * missing j + own' * (m - lack) * spread j + (m - lack') * (spread j * (f j + (m - f k)))) % m
  pub multiplied : (i : ℕ) → slice_index product' i % m ≡
      (slice_index (0 ∷ 0 ∷ product) i + ((m - f k) + (m - f (suc k))) * slice_index (0 ∷ product) i + (m - f k) * (m - f (suc k)) * slice_index product i) % m
  pub added : (i : ℕ) → slice_index out' i % m ≡
      (own * own' * slice_index out i + (own' * lack + lack' * (m - f k)) * slice_index product i + lack' * slice_index (0 ∷ product) i) % m

-- the entries of a product with the variable plus c
at-root : (c : ℕ) (p : List ℕ) (i : ℕ) → slice_index (product_of (c ∷ 1 ∷ []) p) i ≡ slice_index (0 ∷ p) i + c * slice_index p i
at-root c p zero = at-linear_first c p ∙ omega arith
at-root c p (suc i) = at-linear c p i

-- what is taken away comes back
back : (m lack x y : ℕ) → lack ≤ m → (x + (m - lack) * y + lack * y) % m ≡ x % m
back m lack x y low =
    ap (λ t. t % m) (regroup (m - lack) (omega arith)) ∙
    add-cong m x x (m * y) 0 refl (mul-cong m m 0 y y (mod_self m ∙ sym (zero-mod m)) refl ∙ ap (λ t. t % m) (omega arith)) ∙
    ap (λ t. t % m) (omega arith)
  where
    regroup : (rest : ℕ) → rest + lack ≡ m → x + rest * y + lack * y ≡ x + m * y
    regroup rest whole = omega (arith, ap (λ t. t * y) whole)

-- a pair of points is one point after the other
first-step : (m n k : ℕ) (f : ℕ → ℕ) (own lack own' lack' : ℕ) (spread missing : ℕ → ℕ) (product out : List ℕ) (spread' missing' : ℕ → ℕ) (product' out' : List ℕ) →
    IsPair m n k f own lack own' lack' spread missing product out spread' missing' product' out' →
    IsStep m n k f own lack spread missing product out (λ j. spread j * (f j + (m - f k))) (λ j. own * missing j + (m - lack) * spread j)
    (product_of ((m - f k) ∷ 1 ∷ []) product) (sum_of (multiple own out) (multiple lack product))
first-step m n k f own lack own' lack' spread missing product out spread' missing' product' out' pair =
    record {
      own_is = pair.own_is;
      lack_is = pair.lack_is;
      multiplied = λ i. refl;
      added = λ i. refl;
      spread_on = λ j from below. refl;
      taken = λ j from below. back m lack (own * missing j) (spread j) pair.lack_low;
    }

-- sums of products, put in another order
quadratic_first : (a b x : ℕ) → 0 + (a + b) * 0 + a * b * x ≡ b * (a * x)
quadratic_first a b x = omega arith

quadratic : (a b x y z : ℕ) → x + (a + b) * y + a * b * z ≡ (x + a * y) + b * (y + a * z)
quadratic a b x y z = omega arith

combined : (s t u v c x y z : ℕ) → s * t * x + (t * u + v * c) * y + v * z ≡ t * (s * x + u * y) + v * (z + c * y)
combined s t u v c x y z = omega arith

second-step : (m n k : ℕ) (f : ℕ → ℕ) (own lack own' lack' : ℕ) (spread missing : ℕ → ℕ) (product out : List ℕ) (spread' missing' : ℕ → ℕ) (product' out' : List ℕ) →
    IsPair m n k f own lack own' lack' spread missing product out spread' missing' product' out' →
    IsStep m n (suc k) f own' lack' (λ j. spread j * (f j + (m - f k))) (λ j. own * missing j + (m - lack) * spread j)
    (product_of ((m - f k) ∷ 1 ∷ []) product) (sum_of (multiple own out) (multiple lack product)) spread' missing' product' out'
second-step m n k f own lack own' lack' spread missing product out spread' missing' product' out' pair =
    record {
      own_is = pair.own_is';
      lack_is = pair.lack_is';
      multiplied = λ i. pair.multiplied i ∙ ap (λ t. t % m) (product_entry i);
      added = λ i. pair.added i ∙ ap (λ t. t % m) (out_entry i);
      spread_on = λ j from below. pair.spread_on j from below;
      taken = λ j from below.
          let between = spread j * (f j + (m - f k)) in
          let kept = own * own' * missing j + own' * (m - lack) * spread j in
          add-cong m (missing' j) (kept + (m - lack') * between) (lack' * between) (lack' * between) (pair.taken j from below) refl ∙
          back m lack' kept between pair.lack_low' ∙ ap (λ t. t % m) (omega arith);
    }
  where
    product_entry : (i : ℕ) → slice_index (0 ∷ 0 ∷ product) i + ((m - f k) + (m - f (suc k))) * slice_index (0 ∷ product) i + (m - f k) * (m - f (suc k)) * slice_index product i ≡
        slice_index (product_of ((m - f (suc k)) ∷ 1 ∷ []) (product_of ((m - f k) ∷ 1 ∷ []) product)) i
    product_entry zero =
        quadratic_first (m - f k) (m - f (suc k)) (slice_index product 0) ∙
        ap (λ t. (m - f (suc k)) * t) (sym (at-linear_first (m - f k) product)) ∙
        sym (at-linear_first (m - f (suc k)) (product_of ((m - f k) ∷ 1 ∷ []) product))
    product_entry (suc i) =
        quadratic (m - f k) (m - f (suc k)) (slice_index (0 ∷ product) i) (slice_index product i) (slice_index product (suc i)) ∙
        ap (λ t. t + (m - f (suc k)) * (slice_index product i + (m - f k) * slice_index product (suc i))) (sym (at-root (m - f k) product i)) ∙
        ap (λ t. slice_index (product_of ((m - f k) ∷ 1 ∷ []) product) i + (m - f (suc k)) * t) (sym (at-linear (m - f k) product i)) ∙
        sym (at-linear (m - f (suc k)) (product_of ((m - f k) ∷ 1 ∷ []) product) i)

    out_entry : (i : ℕ) → own * own' * slice_index out i + (own' * lack + lack' * (m - f k)) * slice_index product i + lack' * slice_index (0 ∷ product) i ≡
        slice_index (sum_of (multiple own' (sum_of (multiple own out) (multiple lack product))) (multiple lack' (product_of ((m - f k) ∷ 1 ∷ []) product))) i
    out_entry i =
        combined own own' lack lack' (m - f k) (slice_index out i) (slice_index product i) (slice_index (0 ∷ product) i) ∙
        ap (λ t. own' * t + lack' * (slice_index (0 ∷ product) i + (m - f k) * slice_index product i))
        (omega (arith, at-sum (multiple own out) (multiple lack product) i, at-multiple own out i, at-multiple lack product i)) ∙
        ap (λ t. own' * slice_index (sum_of (multiple own out) (multiple lack product)) i + lack' * t) (sym (at-root (m - f k) product i)) ∙
        omega (
          arith,
          at-sum (multiple own' (sum_of (multiple own out) (multiple lack product))) (multiple lack' (product_of ((m - f k) ∷ 1 ∷ []) product)) i,
          at-multiple own' (sum_of (multiple own out) (multiple lack product)) i,
          at-multiple lack' (product_of ((m - f k) ∷ 1 ∷ []) product) i,
        )

pub pair-stage : (m n k : ℕ) (f : ℕ → ℕ) (own lack own' lack' : ℕ) (spread missing : ℕ → ℕ) (product out : List ℕ) (spread' missing' : ℕ → ℕ) (product' out' : List ℕ) →
    IsStage m n k f spread product out → IsPair m n k f own lack own' lack' spread missing product out spread' missing' product' out' →
    IsStage m n (suc (suc k)) f spread' product' out'
pair-stage m n k f own lack own' lack' spread missing product out spread' missing' product' out' stage pair =
    stage-next m n (suc k) f own' lack' _ _ _ _ spread' missing' product' out'
    (stage-next m n k f own lack spread missing product out _ _ _ _ stage (first-step m n k f own lack own' lack' spread missing product out spread' missing' product' out' pair))
    (second-step m n k f own lack own' lack' spread missing product out spread' missing' product' out' pair)

-- what is reached and wanted is the same modulo m
pub wants-alike : (m n k : ℕ) (f v w missing : ℕ → ℕ) (out : List ℕ) → ((i : ℕ) → v i % m ≡ w i % m) → Wants m n k f v missing out → Wants m n k f w missing out
wants-alike m n k f v w missing out same wants =
    record {
      reached = λ i below. wants.reached i below ∙ same i;
      wanting = λ j from below. wants.wanting j from below ∙ same j;
    }

-- where v was multiplied by s before, it is multiplied by the product of both
pub wants-product : (m n k : ℕ) (f v missing : ℕ → ℕ) (out : List ℕ) (r s t : ℕ) → t ≡ (r * s) % m → Wants m n k f (λ i. r * (s * v i)) missing out →
    Wants m n k f (λ i. t * v i) missing out
wants-product m n k f v missing out r s t is wants =
    wants-alike m n k f (λ i. r * (s * v i)) (λ i. t * v i) missing out
    (λ i.
    ap (λ x. x % m) (omega arith) ∙
    mul-cong m (r * s) t (v i) (v i) (sym (ap (λ x. x % m) is ∙ mod-mod (r * s) m)) refl)
    wants

pub pair-wants : (m n k : ℕ) (f v : ℕ → ℕ) (own lack own' lack' both : ℕ) (spread missing : ℕ → ℕ) (product out : List ℕ) (spread' missing' : ℕ → ℕ) (product' out' : List ℕ) →
    ((j : ℕ) → f j ≤ m) → suc k < n → both ≡ (own * own') % m →
    IsStage m n k f spread product out → IsPair m n k f own lack own' lack' spread missing product out spread' missing' product' out' →
    Wants m n k f v missing out → Wants m n (suc (suc k)) f (λ i. both * v i) missing' out'
pair-wants m n k f v own lack own' lack' both spread missing product out spread' missing' product' out' low within both_is stage pair wants =
    let first = first-step m n k f own lack own' lack' spread missing product out spread' missing' product' out' pair in
    wants-product m n (suc (suc k)) f v missing' out' own' own both (both_is ∙ ap (λ t. t % m) (omega arith))
    (wants-next m n (suc k) f (λ i. own * v i) own' lack' _ _ _ _ spread' missing' product' out' low within
    (stage-next m n k f own lack spread missing product out _ _ _ _ stage first)
    (second-step m n k f own lack own' lack' spread missing product out spread' missing' product' out' pair)
    (wants-next m n k f v own lack spread missing product out _ _ _ _ low (omega arith) stage first wants))

-- what all is multiplied by is a unit
pub pair-unit : (m n k : ℕ) (f : ℕ → ℕ) (own lack own' lack' both : ℕ) (spread missing : ℕ → ℕ) (product out : List ℕ) (spread' missing' : ℕ → ℕ) (product' out' : List ℕ) →
    1 < m → ((j : ℕ) → f j ≤ m) → AreApart m n f → suc k < n → both ≡ (own * own') % m →
    IsStage m n k f spread product out → IsPair m n k f own lack own' lack' spread missing product out spread' missing' product' out' → IsUnit m both
pair-unit m n k f own lack own' lack' both spread missing product out spread' missing' product' out' large low apart within both_is stage pair =
    let next : IsStage m n (suc k) f (λ j. spread j * (f j + (m - f k))) (product_of ((m - f k) ∷ 1 ∷ []) product) (sum_of (multiple own out) (multiple lack product)) =
    stage-next m n k f own lack spread missing product out _ _ _ _ stage (first-step m n k f own lack own' lack' spread missing product out spread' missing' product' out' pair) in
    unit-cong m (own * own') both (sym (ap (λ t. t % m) both_is ∙ mod-mod (own * own') m))
    (unit-mul m own own'
    (unit-cong m (from_points m k f (f k)) own (sym (pair.own_is ∙ stage.spread_values k (omega arith) (omega arith))) (from_points-unit m n k f large low apart (omega arith)))
    (unit-cong m (from_points m (suc k) f (f (suc k))) own' (sym (pair.own_is' ∙ next.spread_values (suc k) (omega arith) within)) (from_points-unit m n (suc k) f large low apart within)))

-- before any point
stage-first : (m n : ℕ) (f : ℕ → ℕ) → IsStage m n 0 f (λ j. 1) (1 ∷ []) []
stage-first m n f =
    record {
      degree = degree;
      leading = refl;
      values = λ x. ap (λ t. t % m) (omega arith);
      spread_values = λ j from below. refl;
      out_degree = λ i from. zero-mod m;
    }
  where
    degree : IsBelow m 1 (1 ∷ [])
    degree zero from = absurd (omega arith)
    degree (suc i) from = zero-mod m

wants-first : (m n : ℕ) (f v : ℕ → ℕ) → Wants m n 0 f v v []
wants-first m n f v =
    record {
      reached = λ i below. absurd (omega arith);
      wanting = λ j from below. ap (λ t. t % m) (omega arith);
    }

-- the words may be longer
stage-alike : (m n k : ℕ) (f spread spread' : ℕ → ℕ) (product out product' out' : List ℕ) → ((j : ℕ) → j < n → spread' j % m ≡ spread j % m) →
    Alike m product' product → Alike m out' out → IsStage m n k f spread product out → IsStage m n k f spread' product' out'
stage-alike m n k f spread spread' product out product' out' spread_same product_same out_same stage =
    record {
      degree = below-alike m (suc k) product' product product_same stage.degree;
      leading = product_same k ∙ stage.leading;
      values = λ x. value-alike m product' product x product_same ∙ stage.values x;
      spread_values = λ j from below. spread_same j below ∙ stage.spread_values j from below;
      out_degree = below-alike m k out' out out_same stage.out_degree;
    }

wants-words : (m n k : ℕ) (f v missing missing' : ℕ → ℕ) (out out' : List ℕ) → ((j : ℕ) → j < n → missing' j % m ≡ missing j % m) → Alike m out' out →
    Wants m n k f v missing out → Wants m n k f v missing' out'
wants-words m n k f v missing missing' out out' missing_same out_same wants =
    record {
      reached = λ i below. value-alike m out' out (f i) out_same ∙ wants.reached i below;
      wanting = λ j from below.
          add-cong m (missing' j) (missing j) (univariate_value out' (f j)) (univariate_value out (f j)) (missing_same j below) (value-alike m out' out (f j) out_same) ∙
          wants.wanting j from below;
    }

-- one point before the pairs
one-step : (m n : ℕ) (f v : ℕ → ℕ) (product out : List ℕ) → 1 < m → v 0 ≤ m → Alike m product ((m - f 0) ∷ 1 ∷ []) → Alike m out (v 0 ∷ []) →
    IsStep m n 0 f 1 (v 0) (λ j. 1) v (1 ∷ []) [] (λ j. f j + (m - f 0)) (λ j. v j + (m - v 0)) product out
one-step m n f v product out large low product_is out_is =
    record {
      own_is = refl;
      lack_is = refl;
      multiplied = λ i. product_is i ∙ ap (λ t. t % m) (linear i);
      added = λ i. out_is i ∙ ap (λ t. t % m) (constant i);
      spread_on = λ j from below. ap (λ t. t % m) (omega arith);
      taken = λ j from below.
          let whole : v 0 + (m - v 0) ≡ m = omega arith in
          ap (λ t. t % m) (omega arith) ∙ add-cong m (1 * v j) (1 * v j) m 0 refl (mod_self m ∙ sym (zero-mod m)) ∙ ap (λ t. t % m) (omega arith);
    }
  where
    linear : (i : ℕ) → slice_index ((m - f 0) ∷ 1 ∷ []) i ≡ slice_index (product_of ((m - f 0) ∷ 1 ∷ []) (1 ∷ [])) i
    linear zero = omega arith
    linear (suc zero) = omega arith
    linear (suc (suc i)) = refl

    constant : (i : ℕ) → slice_index (v 0 ∷ []) i ≡ slice_index (sum_of (multiple 1 []) (multiple (v 0) (1 ∷ []))) i
    constant zero = omega arith
    constant (suc i) = refl

-- the words at the beginning, where no point is in
pub begin-even : (m n : ℕ) (f v spread missing : ℕ → ℕ) (product out : List ℕ) → ((j : ℕ) → j < n → spread j % m ≡ 1 % m) → ((j : ℕ) → j < n → missing j % m ≡ v j % m) →
    Alike m product (1 ∷ []) → Alike m out [] → IsStage m n 0 f spread product out × Wants m n 0 f v missing out
begin-even m n f v spread missing product out spread_is missing_is product_is out_is = (
  stage-alike m n 0 f (λ j. 1) spread (1 ∷ []) [] product out spread_is product_is out_is (stage-first m n f),
  wants-words m n 0 f v v missing [] out missing_is out_is (wants-first m n f v),
)

-- and where the first is
pub begin-odd : (m n : ℕ) (f v spread missing : ℕ → ℕ) (product out : List ℕ) → 1 < m → 0 < n → ((j : ℕ) → f j ≤ m) → v 0 ≤ m →
    ((j : ℕ) → j < n → spread j % m ≡ (f j + (m - f 0)) % m) → ((j : ℕ) → j < n → missing j % m ≡ (v j + (m - v 0)) % m) →
    Alike m product ((m - f 0) ∷ 1 ∷ []) → Alike m out (v 0 ∷ []) → IsStage m n 1 f spread product out × Wants m n 1 f v missing out
begin-odd m n f v spread missing product out large some low first_low spread_is missing_is product_is out_is =
    let step = one-step m n f v product out large first_low product_is out_is in (
      stage-alike m n 1 f (λ j. f j + (m - f 0)) spread product out product out spread_is (λ i. refl) (λ i. refl)
          (stage-next m n 0 f 1 (v 0) (λ j. 1) v (1 ∷ []) [] _ (λ j. v j + (m - v 0)) product out (stage-first m n f) step),
      wants-words m n 1 f v (λ j. v j + (m - v 0)) missing out out missing_is (λ i. refl)
          (wants-alike m n 1 f (λ i. 1 * v i) v (λ j. v j + (m - v 0)) out (λ i. ap (λ t. t % m) (omega arith))
          (wants-next m n 0 f v 1 (v 0) (λ j. 1) v (1 ∷ []) [] (λ j. f j + (m - f 0)) _ product out low some (stage-first m n f) step (wants-first m n f v))),
    )

-- once all points are in, and all is divided by what it was multiplied by
pub all_in : (m n : ℕ) (f v spread missing : ℕ → ℕ) (product out made : List ℕ) (factor inverse : ℕ) → 1 < m → AreResidues m product → AreResidues m made →
    IsStage m n n f spread product out → Wants m n n f (λ i. factor * v i) missing out → (factor * inverse) % m ≡ 1 → Alike m made (multiple inverse out) →
    IsInterpolant m n f v made × IsProductOf m n f product
all_in m n f v spread missing product out made factor inverse large product_residues made_residues stage wants unit scaled = (
  record {
    residues = made_residues;
    degree = below-alike m n made (multiple inverse out) scaled (below-multiple m n inverse out stage.out_degree);
    values = λ i below.
        value-alike m made (multiple inverse out) (f i) scaled ∙
        ap (λ t. t % m) (value-multiple inverse out (f i)) ∙
        mul-cong m inverse inverse (univariate_value out (f i)) (factor * v i) refl (wants.reached i below) ∙
        ap (λ t. t % m) (omega arith) ∙
        mul-cong m (factor * inverse) 1 (v i) (v i) (unit ∙ sym (mod-eq_of_lt large)) refl ∙
        ap (λ t. t % m) (omega arith);
  },
  record {
    residues = product_residues;
    degree = stage.degree;
    leading = sym (mod-eq_of_lt (product_residues n)) ∙ stage.leading ∙ mod-eq_of_lt large;
    values = stage.values;
  },
)

-- two interpolants are the same
pub interpolants_same : (m n : ℕ) (f v : ℕ → ℕ) (p q : List ℕ) → AreApart m n f → IsInterpolant m n f v p → IsInterpolant m n f v q → (k : ℕ) → slice_index p k ≡ slice_index q k
interpolants_same m n f v p q apart left right i =
    sym (mod-eq_of_lt (left.residues i)) ∙
    alike_of_values m (m - 1) n f p q (omega (arith, left.residues 0)) left.degree right.degree
    apart (λ j low. left.values j low ∙ sym (right.values j low)) i ∙
    mod-eq_of_lt (right.residues i)

-- zeros vanish
pub zeros-at : (n k : ℕ) → slice_index (replicate n 0) k ≡ 0
zeros-at zero k = refl
zeros-at (suc n) zero = refl
zeros-at (suc n) (suc k) = zeros-at n k

pub zeros-value : (n x : ℕ) → univariate_value (replicate n 0) x ≡ 0
zeros-value zero x = refl
zeros-value (suc n) x = omega (arith, ap (λ t. x * t) (zeros-value n x))

pub replicate-low : (m n a k : ℕ) → a < m → slice_index (replicate n a) k < m
replicate-low m zero a k low = omega arith
replicate-low m (suc n) a zero low = low
replicate-low m (suc n) a (suc k) low = replicate-low m n a k low

-- the product over no points is 1
pub product-first : (m n : ℕ) (f : ℕ → ℕ) → 1 < m → IsProductOf m 0 f (1 ∷ replicate n 0)
product-first m n f large = record {
  residues = residues;
  degree = degree;
  leading = refl;
  values = λ x. ap (λ t. t % m) (omega (arith, ap (λ t. x * t) (zeros-value n x)));
}
  where
    residues : AreResidues m (1 ∷ replicate n 0)
    residues zero = large
    residues (suc k) = replicate-low m n 0 k (omega arith)

    degree : IsBelow m 1 (1 ∷ replicate n 0)
    degree zero from = absurd (omega arith)
    degree (suc k) from = ap (λ t. t % m) (zeros-at n k) ∙ zero-mod m
