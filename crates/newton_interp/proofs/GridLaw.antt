-- One polynomial at most has given values on a grid: its coefficients in the order of the places.
use Rattle.std.proofs.Common.{◌≡◌, ◌≢◌, ℕ, zero, suc, ◌+◌, ◌-◌, ◌*◌, ◌/◌, ◌%◌, ◌<◌, ◌≤◌, Bool, true, false, if◌then◌else◌, List, [], ◌∷◌, length, slice_index, refl, sym, ◌∙◌, ap, arith, inl, inr}
use Rattle.std.proofs.lemmas.Bool.{cases_eq}
use Rattle.std.proofs.lemmas.List.{length-set}
use Rattle.std.proofs.lemmas.Nat.{mul-add-lt, div-mul-add, mod-mul-add}
use Rattle.std.proofs.Math.Nat.{mod-lt, div-add-mod}
use Rattle.std.proofs.Math.ListN.{set, replicate}
use Rattle.prime_field.specs.Sum.{sum_to}
use Rattle.prime_field.proofs.Sums.{sum-same, sum-pick, sum-add_scaled}
use Rattle.poly_maps.specs.Mono.{mono_value, is_same, HasEight}
use Rattle.poly_maps.specs.Polynomial.{coefficient, value_at, Supported}
use Rattle.poly_maps.proofs.MonoLemmas.{is_same-true, is_same-itself}
use Rattle.poly_maps.proofs.Moves.{supported-coefficient}
use Rattle.newton_interp.specs.Grid.{AreAxes, HasGridValues, points_of, grid_size, value_along}
use Rattle.newton_interp.specs.GridPoints.{IsAbsent, AreNamed, exponents_at, grid_point, AreBelow, IsOnAxes}
use Rattle.newton_interp.specs.declared.grid.Axis.{Axis}
use Rattle.newton_interp.proofs.Columns.{at-set, at-other, one-grid}
use Rattle.newton_interp.proofs.Monomials.{grid-sum, below-set, length-exponents, size-some}

-- the combination whose places are the exponents
index_of : List Axis → List ℕ → ℕ
index_of [] e = 0
index_of (axis ∷ axes) e = slice_index e (axis.variable - 1) * grid_size (points_of axes) + index_of axes e

index-low : (axes : List Axis) (e : List ℕ) → AreBelow axes e → index_of axes e < grid_size (points_of axes)
unfolding index_of
index-low [] e below = omega arith
index-low (axis ∷ axes) e below =
    omega (arith, mul-add-lt (slice_index e (axis.variable - 1)) (grid_size (points_of axes)) (index_of axes e) (length axis.values.items) below.0 (index-low axes e below.1))

apart : (v w : ℕ) → 1 ≤ v → 1 ≤ w → w ≢ v → w - 1 ≢ v - 1
apart v w left right differ same = differ (omega arith)

-- an entry of a variable that no axis has doesn't count
index-set : (axes : List Axis) (e : List ℕ) (variable a : ℕ) → 1 ≤ variable → AreNamed axes → IsAbsent variable axes → index_of axes (set e (variable - 1) a) ≡ index_of axes e
unfolding index_of
index-set [] e variable a some named absent = refl
index-set (axis ∷ axes) e variable a some named absent =
    let other : axis.variable - 1 ≢ variable - 1 = apart variable axis.variable some named.0.first absent.0 in
    ap (λ k. k * grid_size (points_of axes) + index_of axes (set e (variable - 1) a)) (at-other e (variable - 1) a (axis.variable - 1) other) ∙
    ap (λ i. slice_index e (axis.variable - 1) * grid_size (points_of axes) + i) (index-set axes e variable a some named.2 absent.1)

index-at : (axes : List Axis) (n : ℕ) → AreNamed axes → n < grid_size (points_of axes) → index_of axes (exponents_at axes n) ≡ n
unfolding index_of
index-at [] n named low = omega arith
index-at (axis ∷ axes) n named low =
    let size = grid_size (points_of axes) in
    let inner = exponents_at axes (n % size) in
    let some : 0 < size = size-some size (length axis.values.items) n low in
    ap (λ k. k * size + index_of axes (set inner (axis.variable - 1) (n / size)))
    (at-set inner (axis.variable - 1) (n / size) (axis.variable - 1) refl (omega (arith, length-exponents axes (n % size), named.0.first, named.0.last))) ∙
    ap (λ i. n / size * size + i) (index-set axes inner axis.variable (n / size) named.0.first named.2 named.1 ∙ index-at axes (n % size) named.2 (mod-lt n some)) ∙
    omega (arith, div-add-mod n size)

-- lists of one length with the same entries
same-entries : (p q : List ℕ) → length p ≡ length q → ((k : ℕ) → slice_index p k ≡ slice_index q k) → p ≡ q
same-entries [] [] long same = refl
same-entries [] (b ∷ q) long same = absurd (omega arith)
same-entries (a ∷ p) [] long same = absurd (omega arith)
same-entries (a ∷ p) (b ∷ q) long same = ap (λ x. x ∷ p) (same 0) ∙ ap (λ r. b ∷ r) (same-entries p q (omega arith) (λ k. same (suc k)))

zero-entries : (n k : ℕ) → slice_index (replicate n 0) k ≡ 0
zero-entries zero k = refl
zero-entries (suc n) zero = refl
zero-entries (suc n) (suc k) = zero-entries n k

at-index : (axes : List Axis) (e : List ℕ) → AreNamed axes → length e ≡ 8 → IsOnAxes axes e → exponents_at axes (index_of axes e) ≡ e
unfolding index_of
at-index [] e named eight on = same-entries (replicate 8 0) e (sym eight) (λ k. zero-entries 8 k ∙ sym (on.others k tt))
at-index (axis ∷ axes) e named eight on =
    let size = grid_size (points_of axes) in
    let p = axis.variable - 1 in
    let top = slice_index e p in
    let bare = set e p 0 in
    let within : p < length e = omega (arith, eight, named.0.first, named.0.last) in
    let low : index_of axes e < size = index-low axes e on.below.1 in
    let kept : IsOnAxes axes bare = record {
      below = below-set axes e axis.variable 0 named.0.first named.2 named.1 on.below.1;
      others = λ k absent. elim (cases_eq k p) [
        | inl same ↦ at-set e p 0 k same within
        | inr other ↦
            let differ : axis.variable ≢ suc k = from k axis.variable named.0.first other in
            at-other e p 0 k other ∙ on.others k (differ, absent)
      ];
    } in
    ap (λ b. set (exponents_at axes b) p ((top * size + index_of axes e) / size)) (mod-mul-add top size (index_of axes e) low ∙ sym (index-set axes e axis.variable 0 named.0.first named.2 named.1)) ∙
    ap (λ q. set q p ((top * size + index_of axes e) / size)) (at-index axes bare named.2 (length-set {A = ℕ} e p 0 ∙ eight) kept) ∙
    ap (set bare p) (div-mul-add top size (index_of axes e) low) ∙
    same-entries (set bare p top) e (length-set {A = ℕ} bare p top ∙ length-set {A = ℕ} e p 0)
    (λ k. elim (cases_eq k p) [
      | inl same ↦ at-set bare p top k same (omega (arith, length-set {A = ℕ} e p 0)) ∙ ap (slice_index e) (sym same)
      | inr other ↦ at-other bare p top k other ∙ at-other e p 0 k other
    ])
  where
    from : (k v : ℕ) → 1 ≤ v → k ≢ v - 1 → v ≢ suc k
    from k v some other same = other (omega arith)

unmatched : (b : Bool) (c v : ℕ) → (b ≡ true → ⊥) → (if b then c else 0) * v ≡ 0
unmatched true c v other = absurd (other refl)
unmatched false c v other = omega arith

-- the value by the combinations
value-combinations : (axes : List Axis) (p : List (List ℕ × ℕ)) (x : List ℕ) → AreNamed axes → Supported HasEight p → Supported (IsOnAxes axes) p →
    sum_to (grid_size (points_of axes)) (λ n. coefficient (exponents_at axes n) p * mono_value (exponents_at axes n) x) ≡ value_at p x
value-combinations axes [] x named eight on = none (grid_size (points_of axes))
  where
    none : (n : ℕ) → sum_to n (λ n. 0 * mono_value (exponents_at axes n) x) ≡ 0
    none zero = refl
    none (suc n) = omega (arith, none n)
value-combinations axes (t ∷ p) x named eight on =
    sum-same size (λ n. coefficient (exponents_at axes n) (t ∷ p) * mono_value (exponents_at axes n) x)
    (λ n. own n + 1 * (coefficient (exponents_at axes n) p * mono_value (exponents_at axes n) x)) (λ n low. omega arith) ∙
    sum-add_scaled size 1 own (λ n. coefficient (exponents_at axes n) p * mono_value (exponents_at axes n) x) ∙
    omega (arith, sum-pick size place own (index-low axes t.0 on.0.below) others, here, value-combinations axes p x named eight.1 on.1)
  where
    size : ℕ
    size = grid_size (points_of axes)

    place : ℕ
    place = index_of axes t.0

    own : ℕ → ℕ
    own n = (if is_same t.0 (exponents_at axes n) then t.1 else 0) * mono_value (exponents_at axes n) x

    here : own place ≡ t.1 * mono_value t.0 x
    here =
        ap (λ e. (if is_same t.0 e then t.1 else 0) * mono_value e x) (at-index axes t.0 named eight.0 on.0) ∙
        ap (λ (b : Bool). (if b then t.1 else 0) * mono_value t.0 x) (is_same-itself t.0)

    others : (n : ℕ) → n < size → n ≢ place → own n ≡ 0
    others n low other =
        unmatched (is_same t.0 (exponents_at axes n)) t.1 (mono_value (exponents_at axes n) x)
        (λ is. other (sym (index-at axes n named low) ∙ ap (index_of axes) (sym (is_same-true t.0 (exponents_at axes n) is))))

-- what has the values at the points has them nested
grid-nested : (m : ℕ) (axes : List Axis) (c v : ℕ → ℕ) → AreNamed axes →
    ((i : ℕ) → i < grid_size (points_of axes) → sum_to (grid_size (points_of axes)) (λ n. c n * mono_value (exponents_at axes n) (grid_point axes i)) % m ≡ v i % m) →
    HasGridValues m (points_of axes) c v
grid-nested m [] c v named sums = ap (λ t. t % m) (omega arith) ∙ sums 0 (omega arith)
grid-nested m (axis ∷ axes) c v named sums = λ j low.
    let size = grid_size (points_of axes) in
    let n = length axis.values.items in
    grid-nested m axes (value_along n size c (slice_index axis.values.items j)) (λ b. v (j * size + b)) named.2
    (λ b b_low.
    let i = j * size + b in
    let within : i < n * size = omega (arith, mul-add-lt j size b n low b_low) in
    ap (λ q. sum_to size (λ k. value_along n size c (slice_index axis.values.items q) k * mono_value (exponents_at axes k) (grid_point axes b)) % m) (sym (div-mul-add j size b b_low)) ∙
    ap (λ r. sum_to size (λ k. value_along n size c (slice_index axis.values.items (i / size)) k * mono_value (exponents_at axes k) (grid_point axes r)) % m) (sym (mod-mul-add j size b b_low)) ∙
    ap (λ s. s % m) (sym (grid-sum axis axes c i named within)) ∙ sums i within)

-- one polynomial at most
pub one-polynomial : (m : ℕ) (axes : List Axis) (p q : List (List ℕ × ℕ)) → 0 < m → AreNamed axes → AreAxes m (points_of axes) → Supported HasEight p → Supported HasEight q →
    Supported (IsOnAxes axes) p → Supported (IsOnAxes axes) q →
    ((i : ℕ) → i < grid_size (points_of axes) → value_at p (grid_point axes i) % m ≡ value_at q (grid_point axes i) % m) →
    (e : List ℕ) → coefficient e p % m ≡ coefficient e q % m
one-polynomial m axes p q some named are p_eight q_eight p_on q_on same e =
    elim (cases_eq (coefficient e p) 0) [
      | inl p_none ↦
          elim (cases_eq (coefficient e q) 0) [
            | inl q_none ↦ ap (λ t. t % m) (p_none ∙ sym q_none)
            | inr q_some ↦ there (supported-coefficient HasEight q e q_eight q_some) (supported-coefficient (IsOnAxes axes) q e q_on q_some)
          ]
      | inr p_some ↦ there (supported-coefficient HasEight p e p_eight p_some) (supported-coefficient (IsOnAxes axes) p e p_on p_some)
    ]
  where
    nested : (r : List (List ℕ × ℕ)) → Supported HasEight r → Supported (IsOnAxes axes) r →
        ((i : ℕ) → i < grid_size (points_of axes) → value_at r (grid_point axes i) % m ≡ value_at p (grid_point axes i) % m) →
        HasGridValues m (points_of axes) (λ n. coefficient (exponents_at axes n) r) (λ i. value_at p (grid_point axes i))
    nested r eight on has =
        grid-nested m axes (λ n. coefficient (exponents_at axes n) r) (λ i. value_at p (grid_point axes i)) named
        (λ i low. ap (λ t. t % m) (value-combinations axes r (grid_point axes i) named eight on) ∙ has i low)

    there : HasEight e → IsOnAxes axes e → coefficient e p % m ≡ coefficient e q % m
    there eight on =
        ap (λ f. coefficient f p % m) (sym (at-index axes e named eight on)) ∙
        one-grid m (points_of axes) (λ n. coefficient (exponents_at axes n) p) (λ n. coefficient (exponents_at axes n) q) (λ i. value_at p (grid_point axes i)) some are
        (nested p p_eight p_on (λ i low. refl)) (nested q q_eight q_on (λ i low. sym (same i low))) (index_of axes e) (index-low axes e on.below) ∙
        ap (λ f. coefficient f q % m) (at-index axes e named eight on)
