-- The points of an attempt are forcing.
use Rattle.std.proofs.Common.{◌≡◌, ℕ, zero, suc, ◌+◌, ◌-◌, ◌*◌, ◌/◌, ◌%◌, ◌^◌, ◌<◌, ◌≤◌, All, inl, inr, List, [], ◌∷◌, ◌++◌, length, get_or, take, drop, refl, sym, ◌∙◌, ap, subst, arith}
use Rattle.std.specs.List.{flat_map}
use Rattle.std.proofs.Math.ListN.{get_or-eq_default}
use Rattle.std.proofs.Math.Nat.{zero-mod, mod-lt}
use Rattle.std.proofs.lemmas.Bool.{cases_eq, cases_lt}
use Rattle.std.proofs.lemmas.Grind.{flat_map-append}
use Rattle.std.proofs.lemmas.List.Elements.{All-get_or}
use Rattle.std.proofs.lemmas.List.Folds.{flat_map-map}
use Rattle.std.proofs.lemmas.List.FromFn.{get_or-map-range_with_len, length-map-range_with_len}
use Rattle.prime_field.specs.declared.Modulus.{Modulus}
use Rattle.prime_field.specs.declared.Modulus.TheVariants.{First, Second}
use Rattle.prime_field.specs.Modulus.{value_of}
use Rattle.prime_field.specs.Sequence.{word}
use Rattle.poly_maps.specs.declared.bound.Bound.{Bound}
use Rattle.poly_maps.specs.Bound.{WithinBound, IsWithin}
use Rattle.poly_maps.specs.Enumeration.{starting, prefixed}
use Rattle.poly_maps.specs.Forcing.{IsForcing}
use Rattle.poly_maps.specs.Mono.{degree, IsBelow, HasEight}
use Rattle.poly_maps.specs.Moved.{point_sum, scaled, graded, moved}
use Rattle.poly_maps.specs.Polynomial.{coefficient, value_at, total_degree, Supported}
use Rattle.poly_maps.specs.Shifted.{negatives}
use Rattle.poly_maps.proofs.Moves.{first_entry, later_entries, HasPlaces-lower, Supported-moved, WithinBound-lower, moved-alike, moved_back}
use Rattle.poly_maps.proofs.Parts.{HasPlaces}
use Rattle.poly_maps.proofs.Rays.{value-ray}
use Rattle.poly_maps.proofs.Within.{IsBelow-places}
use Rattle.ray_grid.specs.declared.grid.Grid.{Grid}
use Rattle.ray_grid.specs.Attempt.{shift, slopes, lists_below, ray, attempt_points}
use Rattle.ray_grid.specs.Grid.{IsGrid, bound_of, later_degrees}
use Rattle.ray_grid.specs.Vanishing.{grid_point, AreAxes}
use Rattle.ray_grid.proofs.Directions.{headless, value-headless, coefficient-headless, Supported-graded, Supported-headless, later_bound, WithinBound-later, total_degree-within, value-congruent}
use Rattle.univariate.proofs.Small.{row-apart}
use Rattle.ray_grid.proofs.Vanishing.{coefficient-outside, upto_vanish, lower_vanishing}

-- ---- what holds at all points holds along each direction's ray

All-left : (P : List ℕ → Type 0) (xs ys : List (List ℕ)) → All P (xs ++ ys) → All P xs
All-left P [] ys all k d low = absurd (omega arith)
All-left P (x ∷ xs) ys all zero d low = all 0 d (omega arith)
All-left P (x ∷ xs) ys all (suc k) d low = All-left P xs ys (λ i e below. all (suc i) e (omega arith)) k d (omega arith)

All-right : (P : List ℕ → Type 0) (xs ys : List (List ℕ)) → All P (xs ++ ys) → All P ys
All-right P [] ys all = all
All-right P (x ∷ xs) ys all = All-right P xs ys (λ i e below. all (suc i) e (omega arith))

All-starting : (P : List ℕ → Type 0) (f : List ℕ → List (List ℕ)) (n : ℕ) (rest : ℕ → List (List ℕ)) → All P (flat_map f (starting n rest)) → (k : ℕ) → k < n → All P (flat_map (λ j. f (k ∷ j)) (rest k))
All-starting P f zero rest all k low = absurd (omega arith)
All-starting P f (suc n) rest all k low =
    let before = flat_map f (starting n rest) in
    let last = flat_map f (prefixed (n ∷ []) (rest n)) in
    let both : All P (before ++ last) = subst (All P) (flat_map-append f (starting n rest) (prefixed (n ∷ []) (rest n))) all in
    elim (cases_eq k n) [
      | inl here ↦
          subst (λ i. All P (flat_map (λ j. f (i ∷ j)) (rest i))) (sym here)
          (subst (All P) (flat_map-map f (λ j. n ∷ j) (rest n)) (All-right P before last both))
      | inr other ↦ All-starting P f n rest (All-left P before last both) k (omega arith)
    ]

All-lists_below : (P : List ℕ → Type 0) (f : List ℕ → List (List ℕ)) (each : List ℕ) → All P (flat_map f (lists_below each)) → (j : List ℕ) → IsBelow j each → All P (f j)
All-lists_below P f [] all [] below = All-left P (f []) [] all
All-lists_below P f [] all (k ∷ j) below = absurd below
All-lists_below P f (e ∷ each) all [] below = absurd below
All-lists_below P f (e ∷ each) all (k ∷ j) below =
    All-lists_below P (λ i. f (k ∷ i)) each (All-starting P f (e + 1) (λ i. lists_below each) all k (omega (arith, below.0))) j below.1

-- ---- along one ray

-- a polynomial that vanishes on a ray: the terms of each degree of the moved one vanish at the direction
ray_vanishes : (m : Modulus) (total : ℕ) (p : List (List ℕ × ℕ)) (s d : List ℕ) → total ≤ 128 → total_degree (moved s p) ≤ total →
    All (λ x. value_at p x % value_of m ≡ 0) (ray (total + 3) s d) → (k : ℕ) → k ≤ total → value_at (graded k (moved s p)) d % value_of m ≡ 0
ray_vanishes m total p s d few low all k within =
    upto_vanish (value_of m) (total + 1) (λ i. value_at (graded i (moved s p)) d) (λ t. 1 + t) (row-apart m (total + 1) 1 (omega arith))
    (λ t below. ap (λ v. v % value_of m) (sym (value-ray (total + 1) (1 + t) p s d (omega arith))) ∙ zeros t below)
    k (omega arith)
  where
    zeros : (t : ℕ) → t < total + 1 → value_at p (point_sum s (scaled (1 + t) d)) % value_of m ≡ 0
    zeros t below =
        let points = ray (total + 3) s d in
        let count = length-map-range_with_len (λ i. point_sum s (scaled i d)) 1 (total + 3) in
        subst (λ x. value_at p x % value_of m ≡ 0)
        (get_or-map-range_with_len (λ i. point_sum s (scaled i d)) 1 (total + 3) t (1 + t) [] (omega arith) refl)
        (All-get_or (λ x. value_at p x % value_of m ≡ 0) points t [] (omega (arith, count)) all)

-- ---- the grid of directions

-- in each variable the numbers from the least slope on, or from 0 on where there is none
axes_from : List ℕ → List ℕ → List (ℕ → ℕ)
axes_from gamma [] = []
axes_from gamma (top ∷ tops) = (λ k. first_entry gamma + k) ∷ axes_from (later_entries gamma) tops

AreAxes-from : (m : Modulus) (gamma tops : List ℕ) → ((k : ℕ) → get_or tops k 0 ≤ 130) → AreAxes (value_of m) (axes_from gamma tops) tops
unfolding axes_from
AreAxes-from m gamma [] low = tt
AreAxes-from m gamma (top ∷ tops) low = (row-apart m (top + 1) (first_entry gamma) (omega (arith, low 0)), AreAxes-from m (later_entries gamma) tops (λ k. low (suc k)))

-- the grid's points are the sums, with zeros behind where there are no slopes
grid_point-from : (n : ℕ) (gamma tops j : List ℕ) → length gamma ≡ n → n ≤ length tops → ((k : ℕ) → n ≤ k → get_or tops k 0 ≡ 0) → IsBelow j tops →
    (k : ℕ) → get_or (grid_point (axes_from gamma tops) j) k 0 ≡ get_or (point_sum gamma (take n j)) k 0
unfolding axes_from
grid_point-from zero [] [] [] long room past below k = refl
grid_point-from zero [] (top ∷ tops) (i ∷ j) long room past below zero = omega (arith, past 0, below.0)
grid_point-from zero [] (top ∷ tops) (i ∷ j) long room past below (suc k) = grid_point-from zero [] tops j refl (omega arith) (λ l high. past (suc l) (omega arith)) below.1 k
grid_point-from (suc n) (a ∷ gamma) (top ∷ tops) (i ∷ j) long room past below zero = refl
grid_point-from (suc n) (a ∷ gamma) (top ∷ tops) (i ∷ j) long room past below (suc k) =
    grid_point-from n gamma tops j (omega arith) (omega arith) (λ l high. past (suc l) (omega arith)) below.1 k
grid_point-from n gamma [] (i ∷ j) long room past below k = absurd below
grid_point-from n gamma (top ∷ tops) [] long room past below k = absurd below
grid_point-from (suc n) [] tops j long room past below k = absurd (omega (arith, long))
grid_point-from zero (a ∷ gamma) tops j long room past below k = absurd (omega (arith, long))
grid_point-from (suc n) gamma [] j long room past below k = absurd (omega arith)

IsBelow-take : (n : ℕ) (j each : List ℕ) → IsBelow j each → IsBelow (take n j) (take n each)
IsBelow-take zero j each below = tt
IsBelow-take (suc n) [] [] below = tt
IsBelow-take (suc n) [] (b ∷ each) below = absurd below
IsBelow-take (suc n) (k ∷ j) [] below = absurd below
IsBelow-take (suc n) (k ∷ j) (b ∷ each) below = (below.0, IsBelow-take n j each below.1)

later-get_or : (x : List ℕ) (k : ℕ) → get_or (later_entries x) k 0 ≡ get_or x (suc k) 0
later-get_or [] k = refl
later-get_or (a ∷ x) k = refl

later-length : (x : List ℕ) → length (later_entries x) ≡ length x - 1
later-length [] = refl
later-length (a ∷ x) = omega arith

-- ---- forcing, over plain lists

-- n slopes, so n + 1 variables
module _ (m : Modulus) (b : Bound) (n : ℕ) (s gamma : List ℕ) (p : List (List ℕ × ℕ)) (low : b.total ≤ 128) (slopes_count : length gamma ≡ n) (room : n < 8) (eight : length b.each ≡ 8)
    (each : (k : ℕ) → get_or b.each k 0 ≤ b.total) (others : (k : ℕ) → n < k → get_or b.each k 0 ≡ 0) (shift_low : (k : ℕ) → get_or s k 0 ≤ value_of m)
    (places : Supported HasEight p) (within : IsWithin b p)
    (zeros : (j : List ℕ) → IsBelow j (take n (later_entries b.each)) → All (λ x. value_at p x % value_of m ≡ 0) (ray (b.total + 3) s (1 ∷ point_sum gamma j))) where
  moved_places : Supported (HasPlaces 8) (moved s p)
  moved_places = Supported-moved (HasPlaces 8) s p (HasPlaces-lower 8) places

  moved_within : IsWithin b (moved s p)
  moved_within = Supported-moved (WithinBound b) s p (WithinBound-lower b) within

  -- the terms of degree k of the moved polynomial vanish at all directions
  direction_vanishes : (k : ℕ) → k ≤ b.total → (j : List ℕ) → WithinBound (later_bound b) j →
      value_at (headless (graded k (moved s p))) (grid_point (axes_from gamma (later_entries b.each)) j) % value_of m ≡ 0
  direction_vanishes k few j there =
      let tops = later_entries b.each in
      let q = graded k (moved s p) in
      let short = take n j in
      let on_ray = ray_vanishes m b.total p s (1 ∷ point_sum gamma short) low (total_degree-within b (moved s p) moved_within) (zeros short (IsBelow-take n j tops there.1)) k few in
      value-congruent (value_of m) (headless q) (grid_point (axes_from gamma tops) j) (point_sum gamma short)
      (λ i. ap (λ v. v % value_of m)
      (grid_point-from n gamma tops j slopes_count (omega (arith, later-length b.each, eight, room)) (λ l high. later-get_or b.each l ∙ others (suc l) (omega arith)) there.1 i)) ∙
      ap (λ v. v % value_of m) (sym (value-headless q (point_sum gamma short))) ∙
      on_ray

  moved_vanishes : (e : List ℕ) → coefficient e (moved s p) % value_of m ≡ 0
  moved_vanishes [] =
      ap (λ c. c % value_of m) (coefficient-outside (HasPlaces 8) (moved s p) [] moved_places (λ long. omega (arith, long))) ∙ zero-mod (value_of m)
  moved_vanishes (i ∷ e) =
      let q = graded (i + degree e) (moved s p) in
      elim (cases_lt (i + degree e) (b.total + 1)) [
        | inl few ↦
            ap (λ c. c % value_of m) (sym (coefficient-headless 7 i e (moved s p) moved_places)) ∙
            lower_vanishing (value_of m) (axes_from gamma (later_entries b.each)) (later_entries b.each) (WithinBound (later_bound b)) (headless q)
            (AreAxes-from m gamma (later_entries b.each) (λ k. omega (arith, later-get_or b.each k, each (suc k), low)))
            (WithinBound-lower (later_bound b)) (λ f there. there.1)
            (Supported-headless (WithinBound b) (WithinBound (later_bound b)) q (WithinBound-later b) (Supported-graded (WithinBound b) (i + degree e) (moved s p) moved_within))
            (direction_vanishes (i + degree e) (omega arith)) e
        | inr many ↦
            ap (λ c. c % value_of m) (coefficient-outside (WithinBound b) (moved s p) (i ∷ e) moved_within (λ there. omega (arith, there.0, many))) ∙ zero-mod (value_of m)
      ]

  pub forced : (e : List ℕ) → coefficient e p % value_of m ≡ 0
  forced e =
      sym (moved_back (value_of m) 8 s p places shift_low e) ∙
      moved-alike (value_of m) (negatives (value_of m) s) (moved s p) [] (λ f. moved_vanishes f ∙ sym (zero-mod (value_of m))) e ∙
      zero-mod (value_of m)

-- ---- the points of an attempt

word-low : (k : ℕ) → word k < 2 ^ 64
unfolding word
word-low zero = omega arith
word-low (suc k) = mod-lt (6364136223846793005 * word k + 1442695040888963407) (omega arith)

pub shift-low : (r n k : ℕ) → get_or (shift r n) k 0 < 2 ^ 60
shift-low r n k =
    elim (cases_lt k n) [
      | inl low ↦
          let here = word-low (64 + 16 * r + (1 + k)) in
          omega (arith, get_or-map-range_with_len (λ i. word (64 + 16 * r + i) / 16) 1 n k (1 + k) 0 low refl, here)
      | inr past ↦ omega (arith, get_or-eq_default (shift r n) 0 {n = k} (omega (arith, length-map-range_with_len (λ i. word (64 + 16 * r + i) / 16) 1 n)))
    ]

pub slopes-low : (r n k : ℕ) → get_or (slopes r n) k 0 < 2 ^ 32
slopes-low r n k =
    elim (cases_lt k (n - 1)) [
      | inl low ↦
          let here = word-low (64 + 16 * r + 8 + (2 + k)) in
          omega (arith, get_or-map-range_with_len (λ i. word (64 + 16 * r + 8 + i) / 2 ^ 32) 2 (n - 1) k (2 + k) 0 low refl, here)
      | inr past ↦ omega (arith, get_or-eq_default (slopes r n) 0 {n = k} (omega (arith, length-map-range_with_len (λ i. word (64 + 16 * r + 8 + i) / 2 ^ 32) 2 (n - 1))))
    ]

drop-one : (x : List ℕ) → drop 1 x ≡ later_entries x
drop-one [] = refl
drop-one (a ∷ x) = refl

pub attempt_forcing : (m : Modulus) (g : Grid) (r : ℕ) → IsGrid g → IsForcing (value_of m) (bound_of g) (attempt_points g r)
attempt_forcing m g r is [] places within all = λ e. zero-mod (value_of m)
attempt_forcing m g r is (t ∷ p) places within all =
    let b = bound_of g in
    let s = shift r g.variables in
    let gamma = slopes r g.variables in
    let n : ℕ = g.variables - 1 in
    let later : later_degrees g ≡ take n (later_entries g.each) = ap (take n) (drop-one g.each) in
    forced m b n s gamma (t ∷ p) is.low (length-map-range_with_len (λ i. word (64 + 16 * r + 8 + i) / 2 ^ 32) 2 n) (omega (arith, is.few))
    (sym (IsBelow-places t.0 g.each within.0.1).0 ∙ places.0)
    is.each (λ k past. is.others k (omega arith)) (λ k. omega (arith, shift-low r g.variables k, least m)) places within
    (λ j below. All-lists_below (λ x. value_at (t ∷ p) x % value_of m ≡ 0) (λ i. ray (g.total + 3) s (1 ∷ point_sum gamma i)) (later_degrees g) all j (subst (IsBelow j) (sym later) below))
  where
    least : (m : Modulus) → 2305843009213693951 ≤ value_of m
    least First = omega arith
    least Second = omega arith
