-- Where rays are regular, the pair is the least pair, up to a factor.
use Rattle.std.proofs.Common.{◌≡◌, ◌≢◌, ℕ, zero, suc, ◌+◌, ◌-◌, ◌*◌, ◌%◌, ◌<◌, ◌≤◌, ◌⊎◌, Bool, true, false, if◌then◌else◌, Some, List, [], ◌∷◌, ◌++◌, length, get_or, slice_index, slice_index_or, inl, inr, refl, sym, ◌∙◌, ap, subst, arith}
use Rattle.std.proofs.Math.Nat.{mod-mod, mod-eq_of_lt, zero-mod}
use Rattle.std.proofs.lemmas.Nat.{mul-add-lt}
use Rattle.std.proofs.lemmas.Bool.{cases_eq, cases_lt}
use Rattle.std.specs.declared.cmp.Ordering.TheVariants.{Less, Equal}
use Rattle.prime_field.specs.Residue.{IsUnit}
use Rattle.prime_field.proofs.Residues.{add-cong, mul-cong}
use Rattle.prime_field.proofs.Units.{unit-cong, unit_of_product, cancel_unit}
use Rattle.univariate.specs.Univariate.{univariate_value, AllVanish, AreApart}
use Rattle.univariate.specs.Coefficients.{product_of, Alike, IsBelow}
use Rattle.univariate.proofs.Coefficients.{value-alike as value-alike_lists, value-product, value-vanish}
use Rattle.univariate.proofs.Counting.{vanishing_below, zero-times}
use Rattle.univariate.proofs.Degrees.{below-alike, below-cancel, below-more}
use Rattle.univariate.proofs.Products.{product-alike_right}
use Rattle.poly_maps.specs.declared.bound.Bounds.{Bounds}
use Rattle.poly_maps.specs.declared.pair.Pair.{Pair}
use Rattle.poly_maps.specs.Bound.{IsWithin, WithinBound}
use Rattle.poly_maps.specs.Forcing.{IsForcing}
use Rattle.poly_maps.specs.Mono.{degree, mono_cmp, is_same, HasEight}
use Rattle.poly_maps.specs.Moved.{point_sum, scaled}
use Rattle.poly_maps.specs.Pair.{Agrees, WithinBounds}
use Rattle.poly_maps.specs.Polynomial.{coefficient, value_at, leading, times, total_degree, Supported}
use Rattle.poly_maps.proofs.Linear.{AreAlike, value-alike}
use Rattle.poly_maps.proofs.MonoLemmas.{mono_degree, mono_itself, is_same-true}
use Rattle.poly_maps.proofs.Moves.{coefficient-times, value_at-times, Supported-times, Supported-coefficients}
use Rattle.ray_grid.proofs.Directions.{total_degree-within}
use Rattle.thiele_interp.specs.Pairs.{IsMultiple, IsAgreeing as AgreesInOne, AgreesAt}
use Rattle.multivar_recon.specs.Least.{Vanishes, VanishesFrom, leading_coefficient, IsPairModulo, IsAgreeing, AreWithin, IsLeastPair}
use Rattle.multivar_recon.specs.Rays.{AreRays, IsAlong, IsOnRay, IsRegular, IsMonicMultiple}
use Rattle.multivar_recon.proofs.Along.{coefficients_along, is_along, value_along, along_alike, below_along, low_along, value_begin, along_begin}
use Rattle.multivar_recon.proofs.PairVectors.{Agrees-at, Agrees-from, leading_coefficient-at}
use Rattle.multivar_recon.proofs.Unique.{forced_same}

-- ---- small facts

-- each coefficient vanishes, or one doesn't
all_vanish : (m : ℕ) (p : List ℕ) → AllVanish m p ⊎ (AllVanish m p → ⊥)
all_vanish m [] = inl (λ k. zero-mod m)
all_vanish m (a ∷ p) = by (cases_eq (a % m) 0) (all_vanish m p)
  where
    by : (a % m ≡ 0) ⊎ (a % m ≢ 0) → AllVanish m p ⊎ (AllVanish m p → ⊥) → AllVanish m (a ∷ p) ⊎ (AllVanish m (a ∷ p) → ⊥)
    by (inr some) rest = inr (λ none. some (none 0))
    by (inl none) (inr some) = inr (λ all. some (λ k. all (suc k)))
    by (inl none) (inl rest) = inl all
      where
        all : AllVanish m (a ∷ p)
        all zero = none
        all (suc k) = rest k

-- a constant's value
value-constant : (m : ℕ) (q : List ℕ) (t : ℕ) → IsBelow m 1 q → univariate_value q t % m ≡ slice_index q 0 % m
value-constant m [] t below = refl
value-constant m (a ∷ q) t below =
    add-cong m a a (t * univariate_value q t) 0 refl
    (zero-times m t (univariate_value q t) (value-vanish m q t (λ k. below (suc k) (omega arith))) ∙ sym (zero-mod m)) ∙
    ap (λ v. v % m) (omega arith)

-- what a unit times something leaves
zero_of_unit : (m a b : ℕ) → IsUnit m a → (a * b) % m ≡ 0 → b % m ≡ 0
zero_of_unit m a b unit none =
    cancel_unit m b 0 a unit (ap (λ v. v % m) (omega arith) ∙ none ∙ sym (ap (λ v. v % m) (omega arith) ∙ zero-mod m)) ∙ zero-mod m

-- a point's place among the rays
place_on_ray : (count n j : ℕ) → j < count * n → (d : ℕ) × (i : ℕ) × (d < count) × (i < n) × (j ≡ d * n + i)
place_on_ray zero n j low = absurd (omega arith)
place_on_ray (suc count) n j low =
    elim (cases_lt j n) [
      | inl first ↦ (0, j, omega arith, first, omega arith)
      | inr later ↦
          let rest = place_on_ray count n (j - n) (omega arith) in
          (suc rest.0, rest.1, omega (arith, rest.2), rest.3, omega (arith, rest.4))
    ]

-- no coefficient stands above the total degree
coefficient-high : (e : List ℕ) (p : List (List ℕ × ℕ)) → total_degree p < degree e → coefficient e p ≡ 0
coefficient-high e [] high = refl
coefficient-high e (t ∷ p) high = by (is_same t.0 e) refl (coefficient-high e p (omega arith))
  where
    by : (b : Bool) → is_same t.0 e ≡ b → coefficient e p ≡ 0 → (if is_same t.0 e then t.1 else 0) + coefficient e p ≡ 0
    by true is rest = absurd (omega (arith, ap degree (is_same-true t.0 e is), high))
    by false is rest = ap (λ b. (if b then t.1 else 0) + coefficient e p) is ∙ omega (arith, rest)

unit_one : (m a : ℕ) → 1 < m → a % m ≡ 1 → IsUnit m a
unit_one m a large one = (1, large, ap (λ v. v % m) (omega arith) ∙ one)

-- ---- the pair on its rays

module _ (m : ℕ) (b : Bounds) (s : List ℕ) (gs : List (List ℕ)) (n : ℕ) (xs : List (List ℕ)) (vs : List ℕ) (f : Pair)
    (rays : AreRays s gs n xs) (is : IsRegular m b s gs n vs f) where
  -- what agrees with all samples agrees with those of a ray
  agrees_on : (h : Pair) (d : ℕ) (num den : List ℕ) → Agrees m xs vs h → d < length gs →
      IsAlong m s (get_or gs d []) h.num num → IsAlong m s (get_or gs d []) h.den den → AgreesAt m n suc (λ i. slice_index vs (d * n + i)) num den
  agrees_on h d num den agrees d_low num_along den_along i low =
      let g = get_or gs d [] in
      let x = point_sum s (scaled (suc i) g) in
      let j = d * n + i in
      let place : j < length xs = omega (arith, rays.count, mul-add-lt d n i (length gs) d_low low) in
      value_along m s g h.num num num_along (suc i) ∙
      subst (λ (y : List ℕ). value_at h.num y % m ≡ (get_or vs j 0 * value_at h.den y) % m) (rays.points d i d_low low) (sym (Agrees-at m xs vs h j agrees place)) ∙
      mul-cong m (get_or vs j 0) (get_or vs j 0) (value_at h.den x) (univariate_value den (suc i)) refl (sym (value_along m s g h.den den den_along (suc i)))

  -- the pair agrees at each point of each ray
  agrees_at : (d i : ℕ) → d < length gs → i < n →
      (get_or vs (d * n + i) 0 * value_at f.den (point_sum s (scaled (suc i) (get_or gs d [])))) % m ≡ value_at f.num (point_sum s (scaled (suc i) (get_or gs d []))) % m
  agrees_at d i d_low low =
      let g = get_or gs d [] in
      let x = point_sum s (scaled (suc i) g) in
      let on = is.each d d_low in
      let v = get_or vs (d * n + i) 0 in
      mul-cong m v v (value_at f.den x) (univariate_value on.den (suc i)) refl (sym (value_along m s g f.den on.den on.den_along (suc i))) ∙
      sym (on.least.agreeing.agrees i low) ∙
      value_along m s g f.num on.num on.num_along (suc i)

  -- the first step: it agrees with all samples
  pub regular_agrees : length vs ≡ length xs → Agrees m xs vs f
  regular_agrees same =
      Agrees-from m xs vs f same
      (λ j low.
      let there = place_on_ray (length gs) n j (omega (arith, rays.count)) in
      let d = there.0 in
      let i = there.1 in
      let x_is : get_or xs j [] ≡ point_sum s (scaled (suc i) (get_or gs d [])) = ap (λ k. get_or xs k []) there.4 ∙ rays.points d i there.2 there.3 in
      subst (λ (y : List ℕ). (get_or vs j 0 * value_at f.den y) % m ≡ value_at f.num y % m) (sym x_is)
      (subst (λ (k : ℕ). (get_or vs k 0 * value_at f.den (point_sum s (scaled (suc i) (get_or gs d [])))) % m ≡ value_at f.num (point_sum s (scaled (suc i) (get_or gs d []))) % m) (sym there.4)
      (agrees_at d i there.2 there.3)))

  module _ (h : Pair) (within : AreWithin b h) (agrees : Agrees m xs vs h) where
    -- along a ray, what agrees does so in one variable, unless its denominator vanishes
    agrees_in_one : (d : ℕ) (num den : List ℕ) → d < length gs → IsAlong m s (get_or gs d []) h.num num → IsAlong m s (get_or gs d []) h.den den →
        (AllVanish m den → ⊥) → AgreesInOne m n suc (λ i. slice_index vs (d * n + i)) b.num.total b.den.total num den
    agrees_in_one d num den d_low num_along den_along some =
        record {
          num_degree = below_along m b.num.total s (get_or gs d []) h.num num num_along (total_degree-within b.num h.num within.num);
          den_degree = below_along m b.den.total s (get_or gs d []) h.den den den_along (total_degree-within b.den h.den within.den);
          some = some;
          agrees = agrees_on h d num den agrees d_low num_along den_along;
        }

    -- the second step: along each ray it is a multiple of the pair
    pub ray_multiple : (d : ℕ) (num den h_num h_den : List ℕ) → b.num.total < n → AreApart m n suc → d < length gs →
        IsAlong m s (get_or gs d []) f.num num → IsAlong m s (get_or gs d []) f.den den →
        IsAlong m s (get_or gs d []) h.num h_num → IsAlong m s (get_or gs d []) h.den h_den → IsMultiple m num den h_num h_den
    ray_multiple d num den h_num h_den low apart d_low num_along den_along h_num_along h_den_along = by (all_vanish m h_den)
      where
        g : List ℕ
        g = get_or gs d []

        by : AllVanish m h_den ⊎ (AllVanish m h_den → ⊥) → IsMultiple m num den h_num h_den
        by (inl none) =
            let num_none : AllVanish m h_num =
            vanishing_below m n suc h_num
            (below-more m (suc b.num.total) n h_num (omega arith) (below_along m b.num.total s (get_or gs d []) h.num h_num h_num_along (total_degree-within b.num h.num within.num)))
            apart
            (λ i i_low.
            agrees_on h d h_num h_den agrees d_low h_num_along h_den_along i i_low ∙
            zero-times m (slice_index vs (d * n + i)) (univariate_value h_den (suc i)) (value-vanish m h_den (suc i) none)) in
            ([], (λ k. num_none k ∙ sym (zero-mod m)), (λ k. none k ∙ sym (zero-mod m)))
        by (inr some) =
            let on = is.each d d_low in
            let made = on.least.multiple h_num h_den (agrees_in_one d h_num h_den d_low h_num_along h_den_along some) in (
              made.0,
              λ k. made.1 k ∙ product-alike_right m made.0 on.num num (along_alike m s (get_or gs d []) f.num on.num num on.num_along num_along) k,
              λ k. made.2 k ∙ product-alike_right m made.0 on.den den (along_alike m s (get_or gs d []) f.den on.den den on.den_along den_along) k,
            )

    module _ (high : (e : List ℕ) → total_degree f.den < degree e → coefficient e h.den % m ≡ 0) where
      -- a denominator of no greater degree is a constant times the pair's, along each ray
      ray_constant : (d : ℕ) → d < length gs → (k : ℕ) ×
          ((t : ℕ) → value_at h.den (point_sum s (scaled t (get_or gs d []))) % m ≡ (k * value_at f.den (point_sum s (scaled t (get_or gs d [])))) % m)
      ray_constant d d_low = by (all_vanish m (coefficients_along m s (get_or gs d []) h.den))
        where
          g : List ℕ
          g = get_or gs d []

          num : List ℕ
          num = coefficients_along m s (get_or gs d []) h.num

          den : List ℕ
          den = coefficients_along m s (get_or gs d []) h.den

          by : AllVanish m (coefficients_along m s (get_or gs d []) h.den) ⊎ (AllVanish m (coefficients_along m s (get_or gs d []) h.den) → ⊥) → (k : ℕ) ×
              ((t : ℕ) → value_at h.den (point_sum s (scaled t (get_or gs d []))) % m ≡ (k * value_at f.den (point_sum s (scaled t (get_or gs d [])))) % m)
          by (inl none) = (
            0,
            λ t.
                sym (value_along m s (get_or gs d []) h.den (coefficients_along m s (get_or gs d []) h.den) (is_along m s (get_or gs d []) h.den) t) ∙
                value-vanish m (coefficients_along m s (get_or gs d []) h.den) t none ∙
                sym (ap (λ v. v % m) (omega arith) ∙ zero-mod m),
          )
          by (inr some) =
              let gd = get_or gs d [] in
              let h_num = coefficients_along m s gd h.num in
              let h_den = coefficients_along m s gd h.den in
              let h_along = is_along m s gd h.den in
              let on = is.each d d_low in
              let made = on.least.multiple h_num h_den (agrees_in_one d h_num h_den d_low (is_along m s gd h.num) h_along some) in
              let q = made.0 in
              let constant : IsBelow m 1 q =
              below-cancel m 1 (total_degree f.den) q on.den (below_along m (total_degree f.den) s gd f.den on.den on.den_along (omega arith)) on.top
              (λ k from. sym (made.2 k) ∙ low_along m (total_degree f.den) s gd h.den h_den h_along high k (omega arith)) in (
                slice_index q 0,
                λ t.
                    sym (value_along m s gd h.den h_den h_along t) ∙
                    value-alike_lists m h_den (product_of q on.den) t made.2 ∙
                    ap (λ v. v % m) (value-product q on.den t) ∙
                    mul-cong m (univariate_value q t) (slice_index q 0) (univariate_value on.den t) (value_at f.den (point_sum s (scaled t gd)))
                    (value-constant m q t constant) (value_along m s gd f.den on.den on.den_along t),
              )

      -- the constant is the same on each ray: the quotient of the values at s
      cross_on_ray : (d t : ℕ) → d < length gs →
          (value_at f.den s * value_at h.den (point_sum s (scaled t (get_or gs d [])))) % m ≡ (value_at h.den s * value_at f.den (point_sum s (scaled t (get_or gs d [])))) % m
      cross_on_ray d t d_low =
          let g = get_or gs d [] in
          let x = point_sum s (scaled t g) in
          let found = ray_constant d d_low in
          let k = found.0 in
          let start : value_at h.den s % m ≡ (k * value_at f.den s) % m =
          sym (value_begin m s g h.den) ∙ found.1 0 ∙ mul-cong m k k (value_at f.den (point_sum s (scaled 0 g))) (value_at f.den s) refl (value_begin m s g f.den) in
          mul-cong m (value_at f.den s) (value_at f.den s) (value_at h.den x) (k * value_at f.den x) refl (found.1 t) ∙
          ap (λ v. v % m) (omega arith) ∙
          mul-cong m (k * value_at f.den s) (value_at h.den s) (value_at f.den x) (value_at f.den x) (sym start) refl

      -- and so it is for the whole denominators, since the points pin them
      pub cross_coefficients : 1 < m → IsForcing m b.den xs → (e : List ℕ) → (value_at f.den s * coefficient e h.den) % m ≡ (value_at h.den s * coefficient e f.den) % m
      cross_coefficients large forcing e =
          let u = value_at f.den s in
          let w = value_at h.den s in
          ap (λ v. v % m) (sym (coefficient-times e u h.den)) ∙
          forced_same m (times u h.den) (times w f.den) b.den xs large forcing
          (Supported-times HasEight u h.den within.den_eight) (Supported-times (WithinBound b.den) u h.den within.den)
          (Supported-times HasEight w f.den is.pair.den.1) (Supported-times (WithinBound b.den) w f.den is.within.den)
          (λ j low.
          let there = place_on_ray (length gs) n j (omega (arith, rays.count)) in
          let x_is : get_or xs j [] ≡ point_sum s (scaled (suc there.1) (get_or gs there.0 [])) = ap (λ k. get_or xs k []) there.4 ∙ rays.points there.0 there.1 there.2 there.3 in
          ap (λ v. v % m) (value_at-times u h.den (get_or xs j [])) ∙
          subst (λ (y : List ℕ). (u * value_at h.den y) % m ≡ (w * value_at f.den y) % m) (sym x_is) (cross_on_ray there.0 (suc there.1) there.2) ∙
          ap (λ v. v % m) (sym (value_at-times w f.den (get_or xs j []))))
          e ∙
          ap (λ v. v % m) (coefficient-times e w f.den)

  -- ---- the least pair

  module _ (c : ℕ) (g : Pair) (large : 1 < m) (some : 0 < length gs) (same : length vs ≡ length xs) (times_is : IsMonicMultiple m c f g) where
    num_is : (e : List ℕ) → coefficient e g.num ≡ coefficient e (times c f.num) % m
    num_is e = times_is.num e ∙ ap (λ v. v % m) (sym (coefficient-times e c f.num))

    den_is : (e : List ℕ) → coefficient e g.den ≡ coefficient e (times c f.den) % m
    den_is e = times_is.den e ∙ ap (λ v. v % m) (sym (coefficient-times e c f.den))

    multiple_within : WithinBounds b g
    multiple_within =
        record {
          some = λ none. absurd (omega (arith, times_is.monic, ap leading_coefficient none));
          num = Supported-coefficients (WithinBound b.num) m g.num (times c f.num) times_is.pair.num.0 num_is (Supported-times (WithinBound b.num) c f.num is.within.num);
          den = Supported-coefficients (WithinBound b.den) m g.den (times c f.den) times_is.pair.den.0 den_is (Supported-times (WithinBound b.den) c f.den is.within.den);
        }

    part_value : (p q : List (List ℕ × ℕ)) (x : List ℕ) → ((e : List ℕ) → coefficient e q ≡ coefficient e (times c p) % m) → value_at q x % m ≡ (c * value_at p x) % m
    part_value p q x is_times =
        value-alike m q (times c p) x (λ e. ap (λ v. v % m) (is_times e) ∙ mod-mod (coefficient e (times c p)) m) ∙ ap (λ v. v % m) (value_at-times c p x)

    multiple_agrees : Agrees m xs vs g
    multiple_agrees =
        Agrees-from m xs vs g same
        (λ j low.
        let x = get_or xs j [] in
        let v = get_or vs j 0 in
        mul-cong m v v (value_at g.den x) (c * value_at f.den x) refl (part_value f.den g.den x den_is) ∙
        ap (λ v. v % m) (omega arith) ∙
        mul-cong m c c (v * value_at f.den x) (value_at f.num x) refl (Agrees-at m xs vs f j (regular_agrees same) low) ∙
        sym (part_value f.num g.num x num_is))

    start_unit : IsUnit m (value_at f.den s)
    start_unit =
        let on = is.each 0 some in
        unit-cong m (slice_index on.den 0) (value_at f.den s) (along_begin m s (get_or gs 0 []) f.den on.den on.den_along) on.start

    module _ (lead : List ℕ) (leads : leading g.den ≡ Some lead) where
      leading_one : (c * coefficient lead f.den) % m ≡ 1
      leading_one = sym (times_is.den lead) ∙ sym (leading_coefficient-at g.den lead times_is.pair.den.0 leads) ∙ times_is.monic

      leading_unit : IsUnit m (coefficient lead f.den)
      leading_unit =
          let turned : coefficient lead f.den * c ≡ c * coefficient lead f.den = omega arith in
          unit_of_product m (coefficient lead f.den) c (unit_one m (coefficient lead f.den * c) large (ap (λ v. v % m) turned ∙ leading_one))

      leading_degree : degree lead ≤ total_degree f.den
      leading_degree =
          elim (cases_lt (total_degree f.den) (degree lead)) [
            | inl above ↦
                let none : c * coefficient lead f.den ≡ 0 = ap (λ v. c * v) (coefficient-high lead f.den above) ∙ omega arith in
                absurd (omega (arith, sym (zero-mod m) ∙ sym (ap (λ v. v % m) none) ∙ leading_one))
            | inr below ↦ below
          ]

      -- the third step: no agreeing pair within the bounds has a denominator of lesser monomials
      no_less : IsForcing m b.den xs → (h : Pair) → AreWithin b h → Agrees m xs vs h → VanishesFrom m lead h.den → Vanishes m h.den
      no_less forcing h within agrees from e =
          let high : (e : List ℕ) → total_degree f.den < degree e → coefficient e h.den % m ≡ 0 =
          λ e above. from e (λ less. absurd (omega (arith, mono_degree e lead less, leading_degree, above))) in
          let itself : coefficient lead h.den % m ≡ 0 = from lead (λ less. let no : Less ≡ Equal = sym less ∙ mono_itself lead in cc) in
          let cross = cross_coefficients h within agrees high large forcing in
          let begins : value_at h.den s % m ≡ 0 =
          zero_of_unit m (coefficient lead f.den) (value_at h.den s) leading_unit
          (ap (λ v. v % m) (omega arith) ∙ sym (cross lead) ∙ zero-times m (value_at f.den s) (coefficient lead h.den) itself) in
          zero_of_unit m (value_at f.den s) (coefficient e h.den) start_unit
          (cross e ∙ ap (λ v. v % m) (omega arith) ∙ zero-times m (coefficient e f.den) (value_at h.den s) begins)

    pub regular_least : IsForcing m b.den xs → IsLeastPair m b xs vs g
    regular_least forcing =
        record {
          agreeing = record { pair = times_is.pair; within = multiple_within; agrees = multiple_agrees };
          monic = times_is.monic;
          least = λ lead leads h within agrees from. no_less lead leads forcing h within agrees from;
        }
