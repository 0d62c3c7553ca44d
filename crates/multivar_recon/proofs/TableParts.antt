-- The rows of tables that were interpolated over the axes of directions, as polynomials.
use Rattle.std.proofs.Common.{◌≡◌, ◌≢◌, ℕ, zero, suc, ◌+◌, ◌-◌, ◌*◌, ◌/◌, ◌%◌, ◌<◌, ◌≤◌, Bool, true, false, if◌then◌else◌, inl, inr, List, [], ◌∷◌, length, slice_index, get_or, refl, sym, ◌∙◌, ap, arith}
use Rattle.std.proofs.Math.Nat.{mod-lt, div-add-mod', mul-le-mul_right}
use Rattle.std.proofs.Math.ListN.{set}
use Rattle.std.proofs.lemmas.Bool.{cases_eq}
use Rattle.prime_field.specs.declared.Modulus.{Modulus}
use Rattle.prime_field.specs.Modulus.{value_of}
use Rattle.prime_field.specs.Sum.{sum_to}
use Rattle.poly_maps.specs.Mono.{mono_value, is_same, HasEight}
use Rattle.poly_maps.specs.Polynomial.{coefficient, value_at, Supported}
use Rattle.poly_maps.proofs.MonoLemmas.{is_same-true, is_same-itself}
use Rattle.poly_maps.proofs.Moves.{Supported-sub}
use Rattle.poly_maps.proofs.Terms.{coefficient-append, value_at-append, Supported-append}
use Rattle.newton_interp.specs.Grid.{HasGridValues, points_of, grid_size}
use Rattle.newton_interp.specs.GridPoints.{IsAbsent, AreNamed, exponents_at, grid_point, IsOnAxes, terms_below}
use Rattle.newton_interp.specs.declared.grid.Axis.{Axis}
use Rattle.newton_interp.proofs.Columns.{at-set, at-other, at-listed}
use Rattle.newton_interp.proofs.Monomials.{length-exponents, size-some, grid-value, supported-terms}
use Rattle.ray_grid.specs.declared.grid.Grid.{Grid}
use Rattle.ray_grid.specs.Attempt.{slopes}
use Rattle.ray_grid.specs.Grid.{IsGrid, later_degrees}
use Rattle.multivar_recon.specs.Assembly.{IsDirectional, AreInterpolated}
use Rattle.multivar_recon.specs.Frame.{AreDirectionAxes}
use Rattle.multivar_recon.specs.Rays.{directions}
use Rattle.multivar_recon.specs.Tables.{column, row_terms}
use Rattle.multivar_recon.proofs.Assembling.{Supported-both}
use Rattle.multivar_recon.proofs.DirectionAxes.{directions_named, directions_size, directions_values, directions_first, directions_monomials}

-- ---- the combination whose places are the exponents

place_of : List Axis → List ℕ → ℕ
place_of [] e = 0
place_of (axis ∷ axes) e = slice_index e (axis.variable - 1) * grid_size (points_of axes) + place_of axes e

places_apart : (v w : ℕ) → 1 ≤ v → 1 ≤ w → w ≢ v → w - 1 ≢ v - 1
places_apart v w left right differ same = differ (omega arith)

-- an entry of a variable that no axis has doesn't count
place_of-set : (axes : List Axis) (e : List ℕ) (variable a : ℕ) → 1 ≤ variable → AreNamed axes → IsAbsent variable axes → place_of axes (set e (variable - 1) a) ≡ place_of axes e
unfolding place_of
place_of-set [] e variable a some named absent = refl
place_of-set (axis ∷ axes) e variable a some named absent =
    let entry = at-other e (variable - 1) a (axis.variable - 1) (places_apart variable axis.variable some named.0.first absent.0) in
    let rest = place_of-set axes e variable a some named.2 absent.1 in
    (λ i. entry i * grid_size (points_of axes) + rest i)

place_of-exponents : (axes : List Axis) (n : ℕ) → AreNamed axes → n < grid_size (points_of axes) → place_of axes (exponents_at axes n) ≡ n
unfolding place_of
place_of-exponents [] n named low = omega arith
place_of-exponents (axis ∷ axes) n named low =
    let size = grid_size (points_of axes) in
    let inner = exponents_at axes (n % size) in
    let some : 0 < size = size-some size (length axis.values.items) n low in
    let entry = at-set inner (axis.variable - 1) (n / size) (axis.variable - 1) refl (omega (arith, length-exponents axes (n % size), named.0.first, named.0.last)) in
    let rest : place_of axes (set inner (axis.variable - 1) (n / size)) ≡ n % size =
    place_of-set axes inner axis.variable (n / size) named.0.first named.2 named.1 ∙ place_of-exponents axes (n % size) named.2 (mod-lt n some) in
    (λ i. entry i * size + rest i) ∙ div-add-mod' n size

-- other combinations have other exponents
other_exponents : (axes : List Axis) (i n : ℕ) → AreNamed axes → i < grid_size (points_of axes) → n < grid_size (points_of axes) → i ≢ n → is_same (exponents_at axes n) (exponents_at axes i) ≡ false
other_exponents axes i n named i_low n_low differ = by (is_same (exponents_at axes n) (exponents_at axes i)) refl
  where
    by : (b : Bool) → is_same (exponents_at axes n) (exponents_at axes i) ≡ b → b ≡ false
    by true same =
        absurd (differ (sym (place_of-exponents axes i named i_low) ∙ ap (place_of axes) (sym (is_same-true (exponents_at axes n) (exponents_at axes i) same)) ∙ place_of-exponents axes n named n_low))
    by false other = refl

-- ---- the terms of the combinations

coefficient-more : (axes : List Axis) (c : ℕ → ℕ) (n i : ℕ) → coefficient (exponents_at axes i) (terms_below axes c (suc n)) ≡
    coefficient (exponents_at axes i) (terms_below axes c n) + (if is_same (exponents_at axes n) (exponents_at axes i) then c n else 0)
coefficient-more axes c n i =
    coefficient-append (exponents_at axes i) (terms_below axes c n) ((exponents_at axes n, c n) ∷ []) ∙ omega arith

coefficient-later_place : (axes : List Axis) (c : ℕ → ℕ) (n i : ℕ) → AreNamed axes → i < grid_size (points_of axes) → n ≤ i → coefficient (exponents_at axes i) (terms_below axes c n) ≡ 0
coefficient-later_place axes c zero i named low later = refl
coefficient-later_place axes c (suc n) i named low later =
    let other = other_exponents axes i n named low (omega arith) (λ same. omega (arith, same, later)) in
    coefficient-more axes c n i ∙
    (λ k. coefficient-later_place axes c n i named low (omega arith) k + (if other k then c n else 0))

pub place_coefficient : (axes : List Axis) (c : ℕ → ℕ) (n i : ℕ) → AreNamed axes → n ≤ grid_size (points_of axes) → i < n → coefficient (exponents_at axes i) (terms_below axes c n) ≡ c i
place_coefficient axes c zero i named few low = absurd (omega arith)
place_coefficient axes c (suc n) i named few low =
    coefficient-more axes c n i ∙
    elim (cases_eq i n) [
      | inl last ↦
          let itself : is_same (exponents_at axes n) (exponents_at axes i) ≡ true = ap (λ k. is_same (exponents_at axes k) (exponents_at axes i)) (sym last) ∙ is_same-itself (exponents_at axes i) in
          omega (
            arith,
            coefficient-later_place axes c n i named (omega arith) (omega arith),
            ap (λ b. if b then c n else 0) itself,
            ap c last,
          )
      | inr other ↦
          omega (
            arith,
            place_coefficient axes c n i named (omega arith) (omega arith),
            ap (λ b. if b then c n else 0) (other_exponents axes i n named (omega arith) (omega arith) other),
          )
    ]

pub terms_eight : (axes : List Axis) (c : ℕ → ℕ) (n : ℕ) → Supported HasEight (terms_below axes c n)
terms_eight axes c zero = tt
terms_eight axes c (suc n) = Supported-append HasEight (terms_below axes c n) ((exponents_at axes n, c n) ∷ []) (terms_eight axes c n) (length-exponents axes n, tt)

terms_value : (axes : List Axis) (c : ℕ → ℕ) (n : ℕ) (x : List ℕ) → value_at (terms_below axes c n) x ≡ sum_to n (λ k. c k * mono_value (exponents_at axes k) x)
terms_value axes c zero x = refl
terms_value axes c (suc n) x =
    value_at-append (terms_below axes c n) ((exponents_at axes n, c n) ∷ []) x ∙ omega (arith, terms_value axes c n x)

-- ---- tables interpolated in place

module _ (m : Modulus) (g : Grid) (r : ℕ) (axes : List Axis) (is : IsGrid g) (eight : HasEight g.each)
    (are : AreDirectionAxes 2 (slopes r g.variables) (later_degrees g) axes) where
  row_on_axes : (table : List ℕ) (k : ℕ) → Supported (IsOnAxes axes) (row_terms axes table k)
  row_on_axes table k =
      let size = grid_size (points_of axes) in
      supported-terms axes (λ i. slice_index table (k * size + i)) size (directions_named m g r axes is eight are) (omega arith)

  pub row_directional : (table : List ℕ) (k : ℕ) → Supported (IsDirectional g) (row_terms axes table k)
  row_directional table k =
      let size = grid_size (points_of axes) in
      Supported-sub (λ e. HasEight e × IsOnAxes axes e) (IsDirectional g) (row_terms axes table k)
      (λ e here. directions_monomials m g r axes is eight are e here.0 here.1)
      (Supported-both HasEight (IsOnAxes axes) (row_terms axes table k) (terms_eight axes (λ i. slice_index table (k * size + i)) size) (row_on_axes table k))

  -- the rows of the new table have at the directions the values in the columns of the old one
  pub table_parts : (highest : ℕ) (old new : List ℕ) → length old ≡ suc highest * grid_size (points_of axes) →
      ((q : ℕ) → suc q * grid_size (points_of axes) ≤ length old →
      HasGridValues (value_of m) (points_of axes) (λ i. slice_index new (q * grid_size (points_of axes) + i)) (λ i. slice_index old (q * grid_size (points_of axes) + i))) →
      AreInterpolated (value_of m) (IsDirectional g) (directions g r) highest (column (suc highest) (grid_size (points_of axes)) old) (row_terms axes new)
  table_parts highest old new room has = record {
    inside = λ k low. row_directional new k;
    values = λ k d k_low d_low.
        let size = grid_size (points_of axes) in
        let c : ℕ → ℕ = λ i. slice_index new (k * size + i) in
        let v : ℕ → ℕ = λ i. slice_index old (k * size + i) in
        let rows : suc k * size ≤ suc highest * size = mul-le-mul_right size (omega arith) in
        let here : d < size = omega (arith, directions_size m g r axes is eight are, d_low) in
        sym (directions_values m g r axes is eight are (row_terms axes new k) d
        (Supported-sub (IsOnAxes axes) (λ e. get_or e 0 0 ≡ 0) (row_terms axes new k) (λ e on. directions_first m g r axes is eight are e on) (row_on_axes new k)) d_low) ∙
        ap (λ t. t % value_of m) (terms_value axes c size (grid_point axes d)) ∙
        grid-value (value_of m) axes c v (directions_named m g r axes is eight are) (has k (omega (arith, rows, room))) d here ∙
        ap (λ t. t % value_of m) (sym (at-listed (suc highest) (λ j. slice_index old (j * size + d)) k (omega arith)));
  }
