-- The axes of the directions of rays: the grid over them, and its points and monomials.
use Rattle.std.proofs.Common.{◌≡◌, ℕ, zero, suc, ◌+◌, ◌-◌, ◌*◌, ◌/◌, ◌%◌, ◌^◌, ◌<◌, ◌≤◌, inl, inr, List, [], ◌∷◌, length, get_or, take, refl, sym, ◌∙◌, ap, subst, arith}
use Rattle.std.proofs.Math.ListN.{set}
use Rattle.std.proofs.Math.Nat.{pow-zero, mod-lt, div-add-mod', div-lt_iff_lt-mul}
use Rattle.std.proofs.lemmas.Bool.{cases_lt}
use Rattle.std.proofs.lemmas.List.{length-set, get_or-set_same, get_or-set_other, get_or-map, get_or_past, get_or-take, length-map, length-take}
use Rattle.prime_field.specs.declared.Modulus.{Modulus}
use Rattle.prime_field.specs.declared.Modulus.TheVariants.{First, Second}
use Rattle.prime_field.specs.Modulus.{value_of}
use Rattle.univariate.proofs.Small.{near-apart}
use Rattle.poly_maps.specs.Mono.{mono_value, HasEight}
use Rattle.poly_maps.specs.Moved.{point_sum}
use Rattle.poly_maps.specs.Polynomial.{value_at, Supported}
use Rattle.poly_maps.proofs.Moves.{first_entry, later_entries, mono_value-cons}
use Rattle.poly_maps.proofs.Within.{IsBelow-from_places}
use Rattle.newton_interp.specs.Grid.{IsAxis, AreAxes, points_of, grid_size}
use Rattle.newton_interp.specs.GridPoints.{IsAbsent, AreNamed, AreBelow, IsOnAxes, grid_point}
use Rattle.newton_interp.specs.declared.grid.Axis.{Axis}
use Rattle.newton_interp.proofs.Points.{zeros-at}
use Rattle.ray_grid.specs.declared.grid.Grid.{Grid}
use Rattle.ray_grid.specs.Attempt.{slopes, lists_below}
use Rattle.ray_grid.specs.Grid.{IsGrid, later_degrees}
use Rattle.ray_grid.proofs.Directions.{headless, value-headless, value-congruent}
use Rattle.multivar_recon.specs.Assembly.{IsDirectional}
use Rattle.multivar_recon.specs.Frame.{AreSteps, AreDirectionAxes}
use Rattle.multivar_recon.specs.Rays.{directions}
use Rattle.multivar_recon.proofs.Directional.{length-lists_below, get_or-lists_below, get_or-later, length-later, drop-first}

-- ---- the axes: names and values

absent_before : (variable w : ℕ) (from each : List ℕ) (axes : List Axis) → w < variable → AreDirectionAxes variable from each axes → IsAbsent w axes
absent_before variable w [] [] [] before are = tt
absent_before variable w (slope ∷ from) (degree ∷ each) (axis ∷ axes) before are =
    (λ same. omega (arith, same, are.0, before), absent_before (suc variable) w from each axes (omega arith) are.2)
absent_before variable w [] [] (axis ∷ axes) before are = absurd are
absent_before variable w [] (degree ∷ each) axes before are = absurd are
absent_before variable w (slope ∷ from) [] axes before are = absurd are
absent_before variable w (slope ∷ from) (degree ∷ each) [] before are = absurd are

absent_after : (variable w : ℕ) (from each : List ℕ) (axes : List Axis) → variable + length each ≤ w → AreDirectionAxes variable from each axes → IsAbsent w axes
absent_after variable w [] [] [] past are = tt
absent_after variable w (slope ∷ from) (degree ∷ each) (axis ∷ axes) past are =
    (λ same. omega (arith, same, are.0, past), absent_after (suc variable) w from each axes (omega (arith, past)) are.2)
absent_after variable w [] [] (axis ∷ axes) past are = absurd are
absent_after variable w [] (degree ∷ each) axes past are = absurd are
absent_after variable w (slope ∷ from) [] axes past are = absurd are
absent_after variable w (slope ∷ from) (degree ∷ each) [] past are = absurd are

pub axes_named : (variable : ℕ) (from each : List ℕ) (axes : List Axis) → 1 ≤ variable → variable + length each ≤ 9 → ((k : ℕ) → get_or each k 0 ≤ 128) →
    AreDirectionAxes variable from each axes → AreNamed axes
axes_named variable [] [] [] first last few are = tt
axes_named variable (slope ∷ from) (degree ∷ each) (axis ∷ axes) first last few are = (
  record {
    first = omega (arith, are.0, first);
    last = omega (arith, are.0, last);
    some = omega (arith, are.1.many);
    few = omega (arith, are.1.many, few 0);
  },
  subst (λ w. IsAbsent w axes) (sym are.0) (absent_before (suc variable) variable from each axes (omega arith) are.2),
  axes_named (suc variable) from each axes (omega arith) (omega (arith, last)) (λ k. few (suc k)) are.2,
)
axes_named variable [] [] (axis ∷ axes) first last few are = absurd are
axes_named variable [] (degree ∷ each) axes first last few are = absurd are
axes_named variable (slope ∷ from) [] axes first last few are = absurd are
axes_named variable (slope ∷ from) (degree ∷ each) [] first last few are = absurd are

steps_axis : (m : Modulus) (slope degree : ℕ) (values : List ℕ) → slope < 2 ^ 32 → degree ≤ 128 → AreSteps slope (degree + 1) values → IsAxis (value_of m) values
steps_axis m slope degree values low few are =
    record {
      some = omega (arith, are.many);
      residues = λ k. elim (cases_lt k (degree + 1)) [
        | inl within ↦ small m (get_or values k 0) (omega (arith, are.each k within, low, few))
        | inr past ↦ small m (get_or values k 0) (omega (arith, get_or_past values k 0 (omega (arith, are.many, past))))
      ];
      apart = near-apart m (length values) (λ k. get_or values k 0) (λ i j before within. (
        omega (arith, are.each i (omega (arith, are.many)), are.each j (omega (arith, are.many)), before),
        omega (arith, are.each i (omega (arith, are.many)), are.each j (omega (arith, are.many)), are.many, within, few),
      ));
    }
  where
    small : (m : Modulus) (v : ℕ) → v < 2 ^ 32 + 200 → v < value_of m
    small First v below = omega arith
    small Second v below = omega arith

pub axes_are : (m : Modulus) (variable : ℕ) (from each : List ℕ) (axes : List Axis) → ((k : ℕ) → get_or from k 0 < 2 ^ 32) → ((k : ℕ) → get_or each k 0 ≤ 128) →
    AreDirectionAxes variable from each axes → AreAxes (value_of m) (points_of axes)
axes_are m variable [] [] [] low few are = tt
axes_are m variable (slope ∷ from) (degree ∷ each) (axis ∷ axes) low few are =
    (steps_axis m slope degree axis.values.items (low 0) (few 0) are.1, axes_are m (suc variable) from each axes (λ k. low (suc k)) (λ k. few (suc k)) are.2)
axes_are m variable [] [] (axis ∷ axes) low few are = absurd are
axes_are m variable [] (degree ∷ each) axes low few are = absurd are
axes_are m variable (slope ∷ from) [] axes low few are = absurd are
axes_are m variable (slope ∷ from) (degree ∷ each) [] low few are = absurd are

-- ---- the combinations of places

pub axes_size : (variable : ℕ) (from each : List ℕ) (axes : List Axis) → AreDirectionAxes variable from each axes → grid_size (points_of axes) ≡ length (lists_below each)
axes_size variable [] [] [] are = refl
axes_size variable (slope ∷ from) (degree ∷ each) (axis ∷ axes) are =
    (λ i. are.1.many i * axes_size (suc variable) from each axes are.2 i) ∙ sym (length-lists_below degree each)
axes_size variable [] [] (axis ∷ axes) are = absurd are
axes_size variable [] (degree ∷ each) axes are = absurd are
axes_size variable (slope ∷ from) [] axes are = absurd are
axes_size variable (slope ∷ from) (degree ∷ each) [] are = absurd are

length-grid_point : (axes : List Axis) (i : ℕ) → length (grid_point axes i) ≡ 8
length-grid_point [] i = refl
length-grid_point (axis ∷ axes) i =
    length-set (grid_point axes (i % grid_size (points_of axes))) (axis.variable - 1) (get_or axis.values.items (i / grid_size (points_of axes)) 0) ∙
    length-grid_point axes (i % grid_size (points_of axes))

-- the entry of a variable that no axis has
point_elsewhere : (axes : List Axis) (i k : ℕ) → AreNamed axes → IsAbsent (suc k) axes → get_or (grid_point axes i) k 0 ≡ 0
point_elsewhere [] i k named absent = zeros-at 8 k
point_elsewhere (axis ∷ axes) i k named absent =
    get_or-set_other (grid_point axes (i % grid_size (points_of axes))) (axis.variable - 1) k (get_or axis.values.items (i / grid_size (points_of axes)) 0) 0
    (λ same. absent.0 (omega (arith, same, named.0.first))) ∙
    point_elsewhere axes (i % grid_size (points_of axes)) k named.2 absent.1

split_place : (i count size : ℕ) → i < count * size → (i / size < count) × (i % size < size) × (i ≡ i / size * size + i % size)
split_place i count zero low = absurd (omega arith)
split_place i count (suc size) low = ((div-lt_iff_lt-mul (omega arith)).1 low, mod-lt i (omega arith), sym (div-add-mod' i (suc size)))

-- the entries of combination i in the axes' variables are the sums of the slopes and of list i of those below the degrees
point_sums : (variable : ℕ) (from each : List ℕ) (axes : List Axis) (i k : ℕ) → 1 ≤ variable → variable + length each ≤ 9 → ((k : ℕ) → get_or each k 0 ≤ 128) →
    AreDirectionAxes variable from each axes → i < length (lists_below each) →
    get_or (grid_point axes i) (variable - 1 + k) 0 ≡ get_or (point_sum from (get_or (lists_below each) i [])) k 0
point_sums variable [] [] [] zero k first last few are low = zeros-at 8 (variable - 1 + k)
point_sums variable [] [] [] (suc i) k first last few are low = absurd (omega arith)
point_sums variable (slope ∷ from) (degree ∷ each) (axis ∷ axes) i k first last few are low =
    let size = length (lists_below each) in
    let same = axes_size (suc variable) from each axes are.2 in
    let split = split_place i (degree + 1) size (omega (arith, low, length-lists_below degree each)) in
    let list_is : get_or (lists_below (degree ∷ each)) i [] ≡ (i / size) ∷ get_or (lists_below each) (i % size) [] =
    ap (λ l. get_or (lists_below (degree ∷ each)) l []) split.2 ∙ get_or-lists_below degree (i / size) each (i % size) (omega (arith, split.0)) split.1 in
    let point_is : grid_point (axis ∷ axes) i ≡ set (grid_point axes (i % size)) (variable - 1) (get_or axis.values.items (i / size) 0) =
    (λ l. set (grid_point axes (i % same l)) (are.0 l - 1) (get_or axis.values.items (i / same l) 0)) in
    ap (λ x. get_or x (variable - 1 + k) 0) point_is ∙
    by k (i / size) (i % size) (omega (arith, split.0)) (λ j. point_sums (suc variable) from each axes (i % size) j (omega arith) (omega (arith, last)) (λ l. few (suc l)) are.2 split.1) ∙
    ap (λ x. get_or (point_sum (slope ∷ from) x) k 0) (sym list_is)
  where
    by : (k q r : ℕ) → q < degree + 1 → ((j : ℕ) → get_or (grid_point axes r) (suc variable - 1 + j) 0 ≡ get_or (point_sum from (get_or (lists_below each) r [])) j 0) →
        get_or (set (grid_point axes r) (variable - 1) (get_or axis.values.items q 0)) (variable - 1 + k) 0 ≡ get_or (point_sum (slope ∷ from) (q ∷ get_or (lists_below each) r [])) k 0
    by zero q r q_low rest =
        let place : variable - 1 + 0 ≡ variable - 1 = omega arith in
        ap (λ l. get_or (set (grid_point axes r) (variable - 1) (get_or axis.values.items q 0)) l 0) place ∙
        get_or-set_same (grid_point axes r) (variable - 1) (get_or axis.values.items q 0) 0 (omega (arith, length-grid_point axes r, first, last)) ∙
        are.1.each q q_low
    by (suc k) q r q_low rest =
        let place : variable - 1 + suc k ≡ suc variable - 1 + k = omega (arith, first) in
        get_or-set_other (grid_point axes r) (variable - 1) (variable - 1 + suc k) (get_or axis.values.items q 0) 0 (λ equal. omega (arith, equal)) ∙
        ap (λ l. get_or (grid_point axes r) l 0) place ∙
        rest k
point_sums variable [] [] (axis ∷ axes) i k first last few are low = absurd are
point_sums variable [] (degree ∷ each) axes i k first last few are low = absurd are
point_sums variable (slope ∷ from) [] axes i k first last few are low = absurd are
point_sums variable (slope ∷ from) (degree ∷ each) [] i k first last few are low = absurd are

-- ---- values of polynomials in which the first variable does not stand

mono_value-later : (e x : List ℕ) → get_or e 0 0 ≡ 0 → mono_value e x ≡ mono_value (later_entries e) (later_entries x)
mono_value-later [] x none = refl
mono_value-later (zero ∷ e) x none = mono_value-cons 0 e x ∙ ap (λ v. v * mono_value e (later_entries x)) (pow-zero (first_entry x)) ∙ omega arith
mono_value-later (suc k ∷ e) x none = absurd (omega (arith, none))

value-later : (p : List (List ℕ × ℕ)) (x : List ℕ) → Supported (λ e. get_or e 0 0 ≡ 0) p → value_at p x ≡ value_at (headless p) (later_entries x)
value-later [] x all = refl
value-later (t ∷ p) x all = omega (arith, ap (λ v. t.1 * v) (mono_value-later t.0 x all.0), value-later p x all.1)

-- ---- the axes of an attempt's directions

module _ (m : Modulus) (g : Grid) (r : ℕ) (axes : List Axis) (is : IsGrid g) (eight : HasEight g.each)
    (are : AreDirectionAxes 2 (slopes r g.variables) (later_degrees g) axes) where
  later_is : later_degrees g ≡ take (g.variables - 1) (later_entries g.each)
  later_is = ap (take (g.variables - 1)) (drop-first g.each)

  later_count : length (later_degrees g) ≡ g.variables - 1
  later_count = ap length later_is ∙ length-take (g.variables - 1) (later_entries g.each) ∙ omega (arith, length-later g.each, eight, is.few)

  later_at : (k : ℕ) → k < g.variables - 1 → get_or (later_degrees g) k 0 ≡ get_or g.each (suc k) 0
  later_at k low = ap (λ l. get_or l k 0) later_is ∙ get_or-take (g.variables - 1) (later_entries g.each) k 0 low ∙ get_or-later g.each k

  later_few : (k : ℕ) → get_or (later_degrees g) k 0 ≤ 128
  later_few k = elim (cases_lt k (g.variables - 1)) [
    | inl low ↦ omega (arith, later_at k low, is.each (suc k), is.low)
    | inr past ↦ omega (arith, get_or_past (later_degrees g) k 0 (omega (arith, later_count, past)))
  ]

  few_variables : 2 + length (later_degrees g) ≤ 9
  few_variables = omega (arith, later_count, is.few, is.some)

  pub directions_named : AreNamed axes
  directions_named = axes_named 2 (slopes r g.variables) (later_degrees g) axes (omega arith) few_variables later_few are

  -- no axis has the first variable
  pub directions_absent : IsAbsent 1 axes
  directions_absent = absent_before 2 1 (slopes r g.variables) (later_degrees g) axes (omega arith) are

  pub directions_size : grid_size (points_of axes) ≡ length (directions g r)
  directions_size =
      axes_size 2 (slopes r g.variables) (later_degrees g) axes are ∙ sym (length-map (lists_below (later_degrees g)) (λ j. 1 ∷ point_sum (slopes r g.variables) j))

  at_place : (d k : ℕ) → get_or (grid_point axes d) (suc k) 0 ≡ get_or (grid_point axes d) (2 - 1 + k) 0
  at_place d k =
      let place : suc k ≡ 2 - 1 + k = omega arith in
      ap (λ l. get_or (grid_point axes d) l 0) place

  -- at the grid's points such a polynomial has its values at the directions
  pub directions_values : (p : List (List ℕ × ℕ)) (d : ℕ) → Supported (λ e. get_or e 0 0 ≡ 0) p → d < length (directions g r) →
      value_at p (grid_point axes d) % value_of m ≡ value_at p (get_or (directions g r) d []) % value_of m
  directions_values p d all low =
      let gamma = slopes r g.variables in
      let js = lists_below (later_degrees g) in
      let make : List ℕ → List ℕ = λ j. 1 ∷ point_sum gamma j in
      let j = get_or js d [] in
      let here : d < length js = omega (arith, low, length-map js make) in
      ap (λ v. v % value_of m) (value-later p (grid_point axes d) all) ∙
      value-congruent (value_of m) (headless p) (later_entries (grid_point axes d)) (point_sum gamma j)
      (λ k. ap (λ v. v % value_of m) (get_or-later (grid_point axes d) k ∙ at_place d k ∙ point_sums 2 gamma (later_degrees g) axes d k (omega arith) few_variables later_few are here)) ∙
      ap (λ v. v % value_of m) (sym (value-headless p (point_sum gamma j))) ∙
      ap (λ x. value_at p x % value_of m) (sym (get_or-map make js d [] [] here))

  -- ---- monomials

  pub directions_first : (e : List ℕ) → IsOnAxes axes e → get_or e 0 0 ≡ 0
  directions_first e on = on.others 0 (absent_before 2 1 (slopes r g.variables) (later_degrees g) axes (omega arith) are)

  pub directions_monomials : (e : List ℕ) → HasEight e → IsOnAxes axes e → IsDirectional g e
  directions_monomials e places on = record {
    eight = places;
    first = directions_first e on;
    each = IsBelow-from_places e g.each (places ∙ sym eight) at;
  }
    where
      below_at : (variable : ℕ) (from each : List ℕ) (axes : List Axis) (k : ℕ) → 1 ≤ variable → k < length each → AreDirectionAxes variable from each axes → AreBelow axes e →
          get_or e (variable - 1 + k) 0 ≤ get_or each k 0
      below_at variable [] [] [] k first low are below = absurd (omega arith)
      below_at variable (slope ∷ from) (degree ∷ each) (axis ∷ axes) zero first low are below =
          let place : variable - 1 + 0 ≡ axis.variable - 1 = omega (arith, are.0) in
          omega (arith, ap (λ l. get_or e l 0) place, below.0, are.1.many)
      below_at variable (slope ∷ from) (degree ∷ each) (axis ∷ axes) (suc k) first low are below =
          let place : variable - 1 + suc k ≡ suc variable - 1 + k = omega (arith, first) in
          omega (arith, ap (λ l. get_or e l 0) place, below_at (suc variable) from each axes k (omega arith) (omega arith) are.2 below.1)
      below_at variable [] [] (axis ∷ axes) k first low are below = absurd are
      below_at variable [] (degree ∷ each) axes k first low are below = absurd are
      below_at variable (slope ∷ from) [] axes k first low are below = absurd are
      below_at variable (slope ∷ from) (degree ∷ each) [] k first low are below = absurd are

      at : (k : ℕ) → k < length g.each → get_or e k 0 ≤ get_or g.each k 0
      at zero low = omega (arith, directions_first e on)
      at (suc k) low = elim (cases_lt k (g.variables - 1)) [
        | inl within ↦
            let place : 2 - 1 + k ≡ suc k = omega arith in
            omega (
              arith,
              ap (λ l. get_or e l 0) place,
              below_at 2 (slopes r g.variables) (later_degrees g) axes k (omega arith) (omega (arith, later_count, within)) are on.below,
              later_at k within,
            )
        | inr past ↦ omega (arith, on.others (suc k) (absent_after 2 (suc (suc k)) (slopes r g.variables) (later_degrees g) axes (omega (arith, later_count, past)) are))
      ]

  pub directions_axes : ((k : ℕ) → get_or (slopes r g.variables) k 0 < 2 ^ 32) → AreAxes (value_of m) (points_of axes)
  directions_axes low = axes_are m 2 (slopes r g.variables) (later_degrees g) axes low later_few are
