-- The value at a grid's point of the polynomial whose coefficients stand in the order of the places.
use Rattle.std.proofs.Common.{◌≡◌, ◌≢◌, ℕ, zero, suc, ◌+◌, ◌-◌, ◌*◌, ◌/◌, ◌%◌, ◌^◌, ◌<◌, ◌≤◌, List, [], ◌∷◌, ◌++◌, length, drop, slice_index, get_or, refl, sym, ◌∙◌, ap, subst, arith}
use Rattle.std.proofs.lemmas.List.{length-set}
use Rattle.std.proofs.lemmas.Nat.{mul-add-lt, mul-lt, div-mul-add, mod-mul-add}
use Rattle.std.proofs.Math.Nat.{mod-mod, mod-lt, mod-eq_of_lt, div-add-mod, div-lt_iff_lt-mul, pow-suc, pow-zero}
use Rattle.std.proofs.Math.ListN.{set, replicate}
use Rattle.prime_field.specs.Sum.{sum_to}
use Rattle.prime_field.proofs.Sums.{sum-same, sum-scaled, sum-add_scaled}
use Rattle.univariate.specs.Univariate.{univariate_value}
use Rattle.poly_maps.specs.Mono.{mono_value}
use Rattle.poly_maps.specs.Polynomial.{coefficient, value_at, AreResidues, Supported}
use Rattle.poly_maps.proofs.Linear.{value-alike}
use Rattle.poly_maps.proofs.Terms.{value_at-append, Supported-append}
use Rattle.newton_interp.specs.Grid.{HasGridValues, points_of, grid_size, listed, value_along}
use Rattle.newton_interp.specs.GridPoints.{IsNamed, IsAbsent, AreNamed, exponents_at, grid_point, AreBelow, IsOnAxes, terms_below}
use Rattle.newton_interp.specs.declared.grid.Axis.{Axis}
use Rattle.newton_interp.proofs.Columns.{at-set, at-other, value-listed_same, grid-same, nothing-summed}
use Rattle.newton_interp.proofs.Points.{zeros-at}

-- an exponent raised by 1
raise : (e x : List ℕ) (p a : ℕ) → p < length e → mono_value (set e p (suc a)) x ≡ slice_index x p * mono_value (set e p a) x
raise [] x p a low = absurd (omega (arith, low))
raise (k ∷ e) [] zero a low =
    let none : 0 ^ suc a ≡ 0 * 0 ^ a = pow-suc 0 a ∙ omega arith in
    ap (λ t. t * mono_value e []) none ∙ omega arith
raise (k ∷ e) (b ∷ x) zero a low = ap (λ t. t * mono_value e x) (pow-suc b a) ∙ omega arith
raise (k ∷ e) [] (suc p) a low = ap (λ t. 0 ^ k * t) (raise e [] p a (omega (arith, low))) ∙ omega arith
raise (k ∷ e) (b ∷ x) (suc p) a low = ap (λ t. b ^ k * t) (raise e x p a (omega (arith, low))) ∙ omega arith

-- where an exponent is 0, the entry there doesn't matter
ignore : (e x : List ℕ) (p t : ℕ) → slice_index e p ≡ 0 → mono_value (set e p 0) (set x p t) ≡ mono_value e x
ignore [] x p t none = refl
ignore (k ∷ e) [] zero t none = ap (λ j. 0 ^ j * mono_value e []) (sym none)
ignore (k ∷ e) [] (suc p) t none = ap (λ v. 0 ^ k * v) (ignore e [] p t none)
ignore (k ∷ e) (b ∷ x) zero t none =
    ap (λ v. v * mono_value e x) (pow-zero t ∙ sym (pow-zero b)) ∙ ap (λ j. b ^ j * mono_value e x) (sym none)
ignore (k ∷ e) (b ∷ x) (suc p) t none = ap (λ v. b ^ k * v) (ignore e x p t none)

pub length-exponents : (axes : List Axis) (i : ℕ) → length (exponents_at axes i) ≡ 8
length-exponents [] i = refl
length-exponents (axis ∷ axes) i =
    length-set {A = ℕ} (exponents_at axes (i % grid_size (points_of axes))) (axis.variable - 1) (i / grid_size (points_of axes)) ∙
    length-exponents axes (i % grid_size (points_of axes))

length-point : (axes : List Axis) (i : ℕ) → length (grid_point axes i) ≡ 8
length-point [] i = refl
length-point (axis ∷ axes) i =
    length-set {A = ℕ} (grid_point axes (i % grid_size (points_of axes))) (axis.variable - 1) (slice_index axis.values.items (i / grid_size (points_of axes))) ∙
    length-point axes (i % grid_size (points_of axes))

-- a variable that no axis has, has the exponent 0
absent-exponent : (axes : List Axis) (variable i : ℕ) → 1 ≤ variable → AreNamed axes → IsAbsent variable axes → slice_index (exponents_at axes i) (variable - 1) ≡ 0
absent-exponent [] variable i some named absent = zeros-at 8 (variable - 1)
absent-exponent (axis ∷ axes) variable i some named absent =
    let other : variable - 1 ≢ axis.variable - 1 = apart variable axis.variable some named.0.first absent.0 in
    at-other (exponents_at axes (i % grid_size (points_of axes))) (axis.variable - 1) (i / grid_size (points_of axes)) (variable - 1) other ∙
    absent-exponent axes variable (i % grid_size (points_of axes)) some named.2 absent.1
  where
    apart : (v w : ℕ) → 1 ≤ v → 1 ≤ w → w ≢ v → v - 1 ≢ w - 1
    apart v w left right differ same = differ (omega arith)

-- a sum in two parts
sum-split : (p n : ℕ) (f : ℕ → ℕ) → sum_to (p + n) f ≡ sum_to p f + sum_to n (λ k. f (p + k))
sum-split p zero f =
    let whole : p + 0 ≡ p = omega arith in
    ap (λ k. sum_to k f) whole ∙ omega arith
sum-split p (suc n) f =
    let next : p + suc n ≡ suc (p + n) = omega arith in
    ap (λ k. sum_to k f) next ∙ omega (arith, sum-split p n f)

-- a sum over the blocks of a grid, where a block further on means one factor t more
sum-blocks : (count size : ℕ) (c monos inner : ℕ → ℕ) (t : ℕ) → ((b : ℕ) → b < size → monos b ≡ inner b) → ((n : ℕ) → monos (size + n) ≡ t * monos n) →
    sum_to (count * size) (λ n. c n * monos n) ≡ sum_to size (λ b. univariate_value (listed count (λ k. c (k * size + b))) t * inner b)
sum-blocks zero size c monos inner t first step =
    let none : 0 * size ≡ 0 = omega arith in
    ap (λ n. sum_to n (λ n. c n * monos n)) none ∙ nothing-summed size inner
sum-blocks (suc count) size c monos inner t first step =
    let whole : suc count * size ≡ size + count * size = omega arith in
    ap (λ n. sum_to n (λ n. c n * monos n)) whole ∙
    sum-split size (count * size) (λ n. c n * monos n) ∙
    ap (λ s. sum_to size (λ n. c n * monos n) + s)
    (sum-same (count * size) (λ n. c (size + n) * monos (size + n)) (λ n. t * (c (size + n) * monos n))
    (λ n low. ap (λ v. c (size + n) * v) (step n) ∙ omega arith) ∙
    sum-scaled (count * size) t (λ n. c (size + n) * monos n) ∙
    ap (λ s. t * s) (sum-blocks count size (λ n. c (size + n)) monos inner t first step)) ∙
    ap (λ s. s + t * sum_to size (λ b. univariate_value (listed count (λ k. c (size + (k * size + b)))) t * inner b))
    (sum-same size (λ n. c n * monos n) (λ b. c (0 * size + b) * inner b)
    (λ b low. ap (λ v. c b * v) (first b low) ∙ ap (λ n. c n * inner b) (omega arith))) ∙
    sym (sum-add_scaled size t (λ b. c (0 * size + b) * inner b) (λ b. univariate_value (listed count (λ k. c (size + (k * size + b)))) t * inner b)) ∙
    sum-same size (λ b. c (0 * size + b) * inner b + t * (univariate_value (listed count (λ k. c (size + (k * size + b)))) t * inner b))
    (λ b. (c (0 * size + b) + t * univariate_value (listed count (λ k. c (suc k * size + b))) t) * inner b)
    (λ b low.
    ap (λ v. c (0 * size + b) * inner b + t * (v * inner b))
    (value-listed_same count (λ k. c (size + (k * size + b))) (λ k. c (suc k * size + b)) t (λ k k_low. ap c (omega arith))) ∙
    omega arith)

pub size-some : (size n i : ℕ) → i < n * size → 0 < size
size-some zero n i low = absurd (omega arith)
size-some (suc size) n i low = omega arith

-- the sum over the combinations at a grid's point is one over those of the further axes
pub grid-sum : (axis : Axis) (axes : List Axis) (c : ℕ → ℕ) (i : ℕ) → AreNamed (axis ∷ axes) → i < grid_size (points_of (axis ∷ axes)) →
    sum_to (length axis.values.items * grid_size (points_of axes)) (λ n. c n * mono_value (exponents_at (axis ∷ axes) n) (grid_point (axis ∷ axes) i)) ≡
    sum_to (grid_size (points_of axes))
    (λ b. value_along (length axis.values.items) (grid_size (points_of axes)) c (slice_index axis.values.items (i / grid_size (points_of axes))) b *
    mono_value (exponents_at axes b) (grid_point axes (i % grid_size (points_of axes))))
grid-sum axis axes c i named low = sum-blocks n size c monos (λ b. mono_value (exponents_at axes b) x) t first step
  where
    size : ℕ
    size = grid_size (points_of axes)

    n : ℕ
    n = length axis.values.items

    p : ℕ
    p = axis.variable - 1

    t : ℕ
    t = slice_index axis.values.items (i / size)

    x : List ℕ
    x = grid_point axes (i % size)

    monos : ℕ → ℕ
    monos k = mono_value (exponents_at (axis ∷ axes) k) (set x p t)

    size_some : 0 < size
    size_some = size-some size n i low

    within : (k : ℕ) → p < length (exponents_at axes k)
    within k = omega (arith, length-exponents axes k, named.0.first, named.0.last)

    first : (b : ℕ) → b < size → monos b ≡ mono_value (exponents_at axes b) x
    first b b_low =
        let row : b / size ≡ 0 = ap (λ t. t / size) (omega arith) ∙ div-mul-add 0 size b b_low in
        ap (λ r. mono_value (set (exponents_at axes r) p (b / size)) (set x p t)) (mod-eq_of_lt b_low) ∙
        ap (λ a. mono_value (set (exponents_at axes b) p a) (set x p t)) row ∙
        ignore (exponents_at axes b) x p t (absent-exponent axes axis.variable b named.0.first named.2 named.1)

    step : (k : ℕ) → monos (size + k) ≡ t * monos k
    step k =
        let whole : size + k ≡ suc (k / size) * size + k % size = omega (arith, div-add-mod k size) in
        let row : (size + k) / size ≡ suc (k / size) = ap (λ t. t / size) whole ∙ div-mul-add (suc (k / size)) size (k % size) (mod-lt k size_some) in
        let offset : (size + k) % size ≡ k % size = ap (λ t. t % size) whole ∙ mod-mul-add (suc (k / size)) size (k % size) (mod-lt k size_some) in
        let entry : slice_index (set x p t) p ≡ t = at-set x p t p refl (omega (arith, length-point axes (i % size), named.0.first, named.0.last)) in
        ap (λ r. mono_value (set (exponents_at axes r) p ((size + k) / size)) (set x p t)) offset ∙
        ap (λ a. mono_value (set (exponents_at axes (k % size)) p a) (set x p t)) row ∙
        raise (exponents_at axes (k % size)) (set x p t) p (k / size) (within (k % size)) ∙
        ap (λ s. s * monos k) entry

-- the values at the grid's points are those of the nested polynomials
pub grid-value : (m : ℕ) (axes : List Axis) (c v : ℕ → ℕ) → AreNamed axes → HasGridValues m (points_of axes) c v → (i : ℕ) → i < grid_size (points_of axes) →
    sum_to (grid_size (points_of axes)) (λ n. c n * mono_value (exponents_at axes n) (grid_point axes i)) % m ≡ v i % m
grid-value m [] c v named has i low =
    let first : i ≡ 0 = omega arith in
    ap (λ t. t % m) (omega arith) ∙ has ∙ ap (λ i. v i % m) (sym first)
grid-value m (axis ∷ axes) c v named has i low =
    let size = grid_size (points_of axes) in
    let n = length axis.values.items in
    let some : 0 < size = size-some size n i low in
    let row : i / size < n = (div-lt_iff_lt-mul {k = size} {x = i} {y = n} some).1 low in
    let place : i / size * size + i % size ≡ i = omega (arith, div-add-mod i size) in
    ap (λ s. s % m) (grid-sum axis axes c i named low) ∙
    grid-value m axes (value_along n size c (slice_index axis.values.items (i / size))) (λ b. v (i / size * size + b)) named.2 (has (i / size) row) (i % size) (mod-lt i some) ∙
    ap (λ i. v i % m) place

-- the terms of the first combinations
value-terms : (axes : List Axis) (c : ℕ → ℕ) (n : ℕ) (x : List ℕ) → value_at (terms_below axes c n) x ≡ sum_to n (λ k. c k * mono_value (exponents_at axes k) x)
value-terms axes c zero x = refl
value-terms axes c (suc n) x =
    value_at-append (terms_below axes c n) ((exponents_at axes n, c n) ∷ []) x ∙ omega (arith, value-terms axes c n x)

residues-append : (m : ℕ) (p q : List (List ℕ × ℕ)) → AreResidues m p → AreResidues m q → AreResidues m (p ++ q)
residues-append m [] q left right = right
residues-append m (t ∷ p) q left right = (left.0, residues-append m p q left.1 right)

pub residues-terms : (m : ℕ) (axes : List Axis) (c : ℕ → ℕ) (n : ℕ) → ((k : ℕ) → c k < m) → AreResidues m (terms_below axes c n)
residues-terms m axes c zero low = tt
residues-terms m axes c (suc n) low = residues-append m (terms_below axes c n) ((exponents_at axes n, c n) ∷ []) (residues-terms m axes c n low) (low n, tt)

-- the exponents of a combination
pub below-set : (axes : List Axis) (e : List ℕ) (variable a : ℕ) → 1 ≤ variable → AreNamed axes → IsAbsent variable axes → AreBelow axes e → AreBelow axes (set e (variable - 1) a)
below-set [] e variable a some named absent below = tt
below-set (axis ∷ axes) e variable a some named absent below =
    let other : axis.variable - 1 ≢ variable - 1 = apart variable axis.variable some named.0.first absent.0 in (
      subst (λ (k : ℕ). k < length axis.values.items) (sym (at-other e (variable - 1) a (axis.variable - 1) other)) below.0,
      below-set axes e variable a some named.2 absent.1 below.1,
    )
  where
    apart : (v w : ℕ) → 1 ≤ v → 1 ≤ w → w ≢ v → w - 1 ≢ v - 1
    apart v w left right differ same = differ (omega arith)

on-axes : (axes : List Axis) (i : ℕ) → AreNamed axes → i < grid_size (points_of axes) → IsOnAxes axes (exponents_at axes i)
on-axes [] i named low = record { below = tt; others = λ k absent. zeros-at 8 k }
on-axes (axis ∷ axes) i named low =
    let inner = on-axes axes (i % size) named.2 (mod-lt i size_some) in
    let row : i / size < length axis.values.items = (div-lt_iff_lt-mul {k = size} {x = i} {y = length axis.values.items} size_some).1 low in
    record {
      below = (
        subst (λ (k : ℕ). k < length axis.values.items)
            (sym (at-set (exponents_at axes (i % size)) (axis.variable - 1) (i / size) (axis.variable - 1) refl (omega (arith, length-exponents axes (i % size), named.0.first, named.0.last)))) row,
        below-set axes (exponents_at axes (i % size)) axis.variable (i / size) named.0.first named.2 named.1 inner.below,
      );
      others = λ k absent.
          let other : k ≢ axis.variable - 1 = apart k axis.variable named.0.first absent.0 in
          at-other (exponents_at axes (i % size)) (axis.variable - 1) (i / size) k other ∙ inner.others k absent.1;
    }
  where
    size : ℕ
    size = grid_size (points_of axes)

    size_some : 0 < size
    size_some = size-some size (length axis.values.items) i low

    apart : (k v : ℕ) → 1 ≤ v → v ≢ suc k → k ≢ v - 1
    apart k v some differ same = differ (omega arith)

pub supported-terms : (axes : List Axis) (c : ℕ → ℕ) (n : ℕ) → AreNamed axes → n ≤ grid_size (points_of axes) → Supported (IsOnAxes axes) (terms_below axes c n)
supported-terms axes c zero named low = tt
supported-terms axes c (suc n) named low =
    Supported-append (IsOnAxes axes) (terms_below axes c n) ((exponents_at axes n, c n) ∷ []) (supported-terms axes c n named (omega arith)) (on-axes axes n named (omega arith), tt)

-- the polynomial that the terms sum up to
pub terms-values : (m size : ℕ) (axes : List Axis) (made v : List ℕ) (p terms : List (List ℕ × ℕ)) → AreNamed axes → size ≡ grid_size (points_of axes) →
    ((q : ℕ) → suc q * grid_size (points_of axes) ≤ size →
    HasGridValues m (points_of axes) (λ i. slice_index made (q * grid_size (points_of axes) + i)) (λ i. slice_index v (q * grid_size (points_of axes) + i))) →
    terms ≡ terms_below axes (slice_index made) size → ((e : List ℕ) → coefficient e p ≡ coefficient e terms % m) →
    (i : ℕ) → i < grid_size (points_of axes) → value_at p (grid_point axes i) % m ≡ slice_index v i % m
terms-values m size axes made v p terms named is has terms_are sums i low =
    value-alike m p terms (grid_point axes i) (λ e. ap (λ t. t % m) (sums e) ∙ mod-mod (coefficient e terms) m) ∙
    ap (λ q. value_at q (grid_point axes i) % m) (terms_are ∙ ap (terms_below axes (slice_index made)) is) ∙
    ap (λ t. t % m) (value-terms axes (slice_index made) (grid_size (points_of axes)) (grid_point axes i)) ∙
    grid-value m axes (slice_index made) (slice_index v) named
    (grid-same m (points_of axes) (λ i. slice_index made (0 * grid_size (points_of axes) + i)) (slice_index made) (λ i. slice_index v (0 * grid_size (points_of axes) + i)) (slice_index v)
    (λ i i_low. ap (λ k. slice_index made k % m) (omega arith)) (λ i. ap (λ k. slice_index v k % m) (omega arith)) (has 0 (omega arith)))
    i low

-- the places on the axes from one on
pub place-split : (place count size : ℕ) → 0 < count → 0 < size →
    (place % (count * size) % size ≡ place % size) × (place % (count * size) / size ≡ place / size % count) × (place / (count * size) ≡ place / size / count)
place-split place count size count_some size_some =
    let q = place / size / count in
    let r = place / size % count in
    let b = place % size in
    let whole : place ≡ q * (count * size) + (r * size + b) = omega (arith, div-add-mod place size, ap (λ t. t * size) (div-add-mod (place / size) count)) in
    let low : r * size + b < count * size = omega (arith, mul-add-lt r size b count (mod-lt (place / size) count_some) (mod-lt place size_some)) in
    let rest : place % (count * size) ≡ r * size + b = ap (λ t. t % (count * size)) whole ∙ mod-mul-add q (count * size) (r * size + b) low in (
      ap (λ t. t % size) rest ∙ mod-mul-add r size b (mod-lt place size_some),
      ap (λ t. t / size) rest ∙ div-mul-add r size b (mod-lt place size_some),
      ap (λ t. t / (count * size)) whole ∙ div-mul-add q (count * size) (r * size + b) low,
    )

-- the exponents that belong to the axes from place k on, and what is left of the combination's number
pub record AreSplit (axes : List Axis) (place : ℕ) (exponents : List ℕ) (rest : ℕ) : Type 0 where
  pub exponents_are : exponents ≡ exponents_at axes (place % grid_size (points_of axes))
  pub rest_is : rest ≡ place / grid_size (points_of axes)

pub axes-end : (axes : List Axis) → drop (length axes) axes ≡ []
axes-end [] = refl
axes-end (axis ∷ axes) = axes-end axes

pub split-first : (axes : List Axis) (place : ℕ) → AreSplit (drop (length axes) axes) place (replicate 8 0) place
split-first axes place =
    subst (λ (rest : List Axis). AreSplit rest place (replicate 8 0) place) (sym (axes-end axes))
    (record { exponents_are = refl; rest_is = omega arith })

pub named-drop : (k : ℕ) (axes : List Axis) → AreNamed axes → AreNamed (drop k axes)
named-drop zero axes named = named
named-drop (suc k) [] named = named
named-drop (suc k) (axis ∷ axes) named = named-drop k axes named.2

pub axes-at : (axes : List Axis) (k : ℕ) (axis : Axis) → k < length axes → axis ≡ get_or axes k axis → drop k axes ≡ axis ∷ drop (suc k) axes
axes-at [] k axis low is = absurd (omega arith)
axes-at (first ∷ axes) zero axis low is = ap (λ (a : Axis). a ∷ axes) (sym is)
axes-at (first ∷ axes) (suc k) axis low is = axes-at axes k axis (omega arith) is

pub named-at : (axes : List Axis) (k : ℕ) (axis : Axis) → k < length axes → axis ≡ get_or axes k axis → AreNamed axes → IsNamed axis
named-at axes k axis low is named =
    let here : AreNamed (axis ∷ drop (suc k) axes) = subst AreNamed (axes-at axes k axis low is) (named-drop k axes named) in
    here.0

named-size : (axes : List Axis) → AreNamed axes → 0 < grid_size (points_of axes)
named-size [] named = omega arith
named-size (axis ∷ axes) named =
    omega (arith, mul-add-lt 0 (grid_size (points_of axes)) 0 (length axis.values.items) named.0.some (named-size axes named.2))

pub split-next : (axes : List Axis) (k next : ℕ) (axis : Axis) (place : ℕ) (exponents : List ℕ) (rest : ℕ) → next ≡ suc k → k < length axes → axis ≡ get_or axes k axis →
    AreNamed axes → AreSplit (drop next axes) place exponents rest →
    AreSplit (drop k axes) place (set exponents (axis.variable - 1) (rest % length axis.values.items)) (rest / length axis.values.items)
split-next axes k next axis place exponents rest next_is low is named split =
    subst (λ (left : List Axis). AreSplit left place (set exponents (axis.variable - 1) (rest % count)) (rest / count)) (sym here)
    (record {
      exponents_are =
          ap (λ e. set e (axis.variable - 1) (rest % count)) split.exponents_are ∙
          ap (λ r. set (exponents_at behind (place % size)) (axis.variable - 1) (r % count)) split.rest_is ∙
          ap (λ b. set (exponents_at behind b) (axis.variable - 1) (place / size % count)) (sym parts.0) ∙
          ap (λ a. set (exponents_at behind (place % (count * size) % size)) (axis.variable - 1) a) (sym parts.1);
      rest_is = ap (λ r. r / count) split.rest_is ∙ sym parts.2;
    })
  where
    behind : List Axis
    behind = drop next axes

    count : ℕ
    count = length axis.values.items

    size : ℕ
    size = grid_size (points_of behind)

    here : drop k axes ≡ axis ∷ behind
    here = axes-at axes k axis low is ∙ ap (λ i. axis ∷ drop i axes) (sym next_is)

    all : AreNamed (axis ∷ behind)
    all = subst AreNamed here (named-drop k axes named)

    parts : (place % (count * size) % size ≡ place % size) × (place % (count * size) / size ≡ place / size % count) × (place / (count * size) ≡ place / size / count)
    parts = place-split place count size all.0.some (named-size behind all.2)

pub split-last : (axes : List Axis) (k place : ℕ) (exponents : List ℕ) (rest : ℕ) → k ≡ 0 → place < grid_size (points_of axes) → AreSplit (drop k axes) place exponents rest →
    exponents ≡ exponents_at axes place
split-last axes k place exponents rest first low split =
    split.exponents_are ∙ ap (λ i. exponents_at (drop i axes) (place % grid_size (points_of (drop i axes)))) first ∙
    ap (exponents_at axes) (mod-eq_of_lt low)

-- the points of each axis are few
pub few-at : (axes : List Axis) (k : ℕ) (points : List ℕ) → AreNamed axes → drop k (points_of axes) ≡ points ∷ drop (suc k) (points_of axes) → length points ≤ 256
few-at [] zero points named is = cc
few-at [] (suc k) points named is = cc
few-at (axis ∷ axes) zero points named is =
    let same : axis.values.items ≡ points = cc in
    omega (arith, ap length same, named.0.few)
few-at (axis ∷ axes) (suc k) points named is = few-at axes k points named.2 is

-- the words of work for so few points fit
pub work-low : (n : ℕ) → n ≤ 256 → n * n + 6 * n + 4 < 70000
work-low n few = omega (arith, mul-lt n n 257 257 (omega arith) (omega arith))
