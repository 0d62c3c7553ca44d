-- The rays of an attempt, and that their directions pin polynomials whose degrees are at most the grid's.
use Rattle.std.proofs.Common.{◌≡◌, ℕ, zero, suc, ◌+◌, ◌-◌, ◌*◌, ◌/◌, ◌%◌, ◌^◌, ◌<◌, ◌≤◌, if◌then◌else◌, inl, inr, List, [], ◌∷◌, ◌++◌, length, get_or, take, drop, refl, sym, ◌∙◌, ap, subst, arith}
use Rattle.std.specs.List.{flat_map}
use Rattle.std.proofs.Math.Nat.{zero-mod, mul-le-mul_right}
use Rattle.std.proofs.lemmas.Bool.{cases_eq}
use Rattle.std.proofs.lemmas.List.{get_or-map, get_or_append_left, get_or-append-add, length-append, length-map}
use Rattle.std.proofs.lemmas.List.Concat.{flat_map-cons}
use Rattle.std.proofs.lemmas.List.FromFn.{get_or-map-range_with_len, length-map-range_with_len}
use Rattle.prime_field.specs.declared.Modulus.{Modulus}
use Rattle.prime_field.specs.declared.Modulus.TheVariants.{First, Second}
use Rattle.prime_field.specs.Modulus.{value_of}
use Rattle.prime_field.specs.Sequence.{word}
use Rattle.univariate.proofs.Coefficients.{same_of_difference, difference_of_same}
use Rattle.univariate.proofs.Small.{row-apart}
use Rattle.poly_maps.specs.declared.bound.Bound.{Bound}
use Rattle.poly_maps.specs.declared.bound.Bounds.{Bounds}
use Rattle.poly_maps.specs.Bound.{WithinBound, IsWithin}
use Rattle.poly_maps.specs.Enumeration.{starting, prefixed}
use Rattle.poly_maps.specs.Forcing.{IsForcing}
use Rattle.poly_maps.specs.Mono.{is_same, HasEight, IsBelow}
use Rattle.poly_maps.specs.Moved.{point_sum, scaled}
use Rattle.poly_maps.specs.Polynomial.{coefficient, value_at, times, Supported}
use Rattle.poly_maps.proofs.Moves.{first_entry, later_entries, coefficient-times, value_at-times, Supported-times}
use Rattle.poly_maps.proofs.Terms.{coefficient-append, value_at-append, Supported-append}
use Rattle.poly_maps.proofs.Within.{IsBelow-places, IsBelow-from_places}
use Rattle.ray_grid.specs.declared.grid.Grid.{Grid}
use Rattle.ray_grid.specs.Attempt.{shift, slopes, lists_below, ray, attempt_points}
use Rattle.ray_grid.specs.Covering.{Covers}
use Rattle.ray_grid.specs.Grid.{IsGrid, bound_of, later_degrees}
use Rattle.ray_grid.specs.Vanishing.{grid_point, AreAxes}
use Rattle.ray_grid.proofs.Directions.{headless as headless_list, value-headless, Supported-headless, value-congruent}
use Rattle.ray_grid.proofs.Forcing.{shift-low}
use Rattle.ray_grid.proofs.Vanishing.{coefficient-outside, lower_vanishing, IsBelow-lower}
use Rattle.multivar_recon.specs.Assembly.{headless, BeginWithOne, ArePinned, IsDirectional}
use Rattle.multivar_recon.specs.Rays.{AreRays, directions}

-- ---- lists of n points each, one behind the other

module _ (f : List ℕ → List (List ℕ)) (n : ℕ) (long : (x : List ℕ) → length (f x) ≡ n) where
  length-blocks : (xs : List (List ℕ)) → length (flat_map f xs) ≡ length xs * n
  length-blocks [] = omega arith
  length-blocks (x ∷ xs) =
      ap length (flat_map-cons f x xs) ∙ omega (arith, length-append (f x) (flat_map f xs), long x, length-blocks xs)

  get_or-blocks : (xs : List (List ℕ)) (d i : ℕ) → d < length xs → i < n → get_or (flat_map f xs) (d * n + i) [] ≡ get_or (f (get_or xs d [])) i []
  get_or-blocks [] d i low within = absurd (omega arith)
  get_or-blocks (x ∷ xs) zero i low within =
      let place : 0 * n + i ≡ i = omega arith in
      ap (λ k. get_or (flat_map f (x ∷ xs)) k []) place ∙
      ap (λ l. get_or l i []) (flat_map-cons f x xs) ∙
      get_or_append_left (f x) (flat_map f xs) [] i (omega (arith, long x))
  get_or-blocks (x ∷ xs) (suc d) i low within =
      let place : suc d * n + i ≡ length (f x) + (d * n + i) = omega (arith, long x) in
      ap (λ k. get_or (flat_map f (x ∷ xs)) k []) place ∙
      ap (λ l. get_or l (length (f x) + (d * n + i)) []) (flat_map-cons f x xs) ∙
      get_or-append-add (f x) (flat_map f xs) (d * n + i) [] ∙
      get_or-blocks xs d i (omega arith) within

-- ---- the rays of an attempt

pub directions_begin_with_one : (g : Grid) (r : ℕ) → BeginWithOne (directions g r)
directions_begin_with_one g r d low =
    let make : List ℕ → List ℕ = λ j. 1 ∷ point_sum (slopes r g.variables) j in
    let js = lists_below (later_degrees g) in
    (point_sum (slopes r g.variables) (get_or js d []), get_or-map make js d [] [] (omega (arith, low, length-map js make)))

pub attempt_rays : (g : Grid) (r : ℕ) → AreRays (shift r g.variables) (directions g r) (g.total + 3) (attempt_points g r)
attempt_rays g r =
    let n : ℕ = g.total + 3 in
    let s = shift r g.variables in
    let make : List ℕ → List ℕ = λ j. 1 ∷ point_sum (slopes r g.variables) j in
    let js = lists_below (later_degrees g) in
    let block : List ℕ → List (List ℕ) = λ j. ray n s (make j) in
    let long : (j : List ℕ) → length (block j) ≡ n = λ j. length-map-range_with_len (λ t. point_sum s (scaled t (make j))) 1 n in
    record {
      count = length-blocks block n long js ∙ ap (λ l. l * n) (sym (length-map js make));
      points = λ d i low within.
          let here : d < length js = omega (arith, low, length-map js make) in
          let next : 1 + i ≡ suc i = omega arith in
          get_or-blocks block n long js d i here within ∙
          get_or-map-range_with_len (λ t. point_sum s (scaled t (make (get_or js d [])))) 1 n i (1 + i) [] within refl ∙
          (λ k. point_sum s (scaled (next k) (sym (get_or-map make js d [] [] here) k)));
    }

-- ---- where the points stand in the list of directions

length-starting : (n : ℕ) (rest : List (List ℕ)) → length (starting n (λ j. rest)) ≡ n * length rest
length-starting zero rest = omega arith
length-starting (suc n) rest =
    omega (arith, length-append (starting n (λ j. rest)) (prefixed (n ∷ []) rest), length-starting n rest, length-map rest (λ e. n ∷ e))

get_or-starting : (n k : ℕ) (rest : List (List ℕ)) (d : ℕ) → k < n → d < length rest → get_or (starting n (λ j. rest)) (k * length rest + d) [] ≡ k ∷ get_or rest d []
get_or-starting zero k rest d low within = absurd (omega arith)
get_or-starting (suc n) k rest d low within =
    let before = starting n (λ j. rest) in
    let last = prefixed (n ∷ []) rest in
    elim (cases_eq k n) [
      | inl here ↦
          let place : k * length rest + d ≡ length before + d = ap (λ l. l * length rest + d) here ∙ ap (λ l. l + d) (sym (length-starting n rest)) in
          ap (λ l. get_or (before ++ last) l []) place ∙ get_or-append-add before last d [] ∙ get_or-map (λ e. n ∷ e) rest d [] [] within ∙ ap (λ j. j ∷ get_or rest d []) (sym here)
      | inr other ↦
          let rows : suc k * length rest ≤ n * length rest = mul-le-mul_right (length rest) (omega arith) in
          get_or_append_left before last [] (k * length rest + d) (omega (arith, rows, length-starting n rest, within)) ∙
          get_or-starting n k rest d (omega arith) within
    ]

pub length-lists_below : (e : ℕ) (each : List ℕ) → length (lists_below (e ∷ each)) ≡ (e + 1) * length (lists_below each)
length-lists_below e each = length-starting (e + 1) (lists_below each)

pub get_or-lists_below : (e k : ℕ) (each : List ℕ) (d : ℕ) → k ≤ e → d < length (lists_below each) →
    get_or (lists_below (e ∷ each)) (k * length (lists_below each) + d) [] ≡ k ∷ get_or (lists_below each) d []
get_or-lists_below e k each d low within = get_or-starting (e + 1) k (lists_below each) d (omega (arith, low)) within

listed_below : (each j : List ℕ) → IsBelow j each → (i : ℕ) × (i < length (lists_below each)) × (get_or (lists_below each) i [] ≡ j)
listed_below [] [] below = (0, omega arith, refl)
listed_below [] (k ∷ j) below = absurd below
listed_below (e ∷ each) [] below = absurd below
listed_below (e ∷ each) (k ∷ j) below =
    let rest = listed_below each j below.1 in
    let count : ℕ = length (lists_below each) in
    let rows : suc k * count ≤ (e + 1) * count = mul-le-mul_right count (omega (arith, below.0)) in (
      k * count + rest.0,
      omega (arith, length-lists_below e each, rows, rest.1),
      get_or-lists_below e k each rest.0 below.0 rest.1 ∙ ap (λ l. k ∷ l) rest.2,
    )

-- ---- the grid of directions, with zeros behind where there are no slopes

abbrev numbers_from : List ℕ → List ℕ → List (ℕ → ℕ)
numbers_from gamma [] = []
numbers_from gamma (top ∷ tops) = (λ k. first_entry gamma + k) ∷ numbers_from (later_entries gamma) tops

numbers_apart : (m : Modulus) (gamma tops : List ℕ) → ((k : ℕ) → get_or tops k 0 ≤ 130) → AreAxes (value_of m) (numbers_from gamma tops) tops
numbers_apart m gamma [] low = tt
numbers_apart m gamma (top ∷ tops) low = (row-apart m (top + 1) (first_entry gamma) (omega (arith, low 0)), numbers_apart m (later_entries gamma) tops (λ k. low (suc k)))

numbers_sum : (n : ℕ) (gamma tops j : List ℕ) → length gamma ≡ n → n ≤ length tops → ((k : ℕ) → n ≤ k → get_or tops k 0 ≡ 0) → IsBelow j tops →
    (k : ℕ) → get_or (grid_point (numbers_from gamma tops) j) k 0 ≡ get_or (point_sum gamma (take n j)) k 0
numbers_sum zero [] [] [] long room past below k = refl
numbers_sum zero [] (top ∷ tops) (i ∷ j) long room past below zero = omega (arith, past 0, below.0)
numbers_sum zero [] (top ∷ tops) (i ∷ j) long room past below (suc k) = numbers_sum zero [] tops j refl (omega arith) (λ l high. past (suc l) (omega arith)) below.1 k
numbers_sum (suc n) (a ∷ gamma) (top ∷ tops) (i ∷ j) long room past below zero = refl
numbers_sum (suc n) (a ∷ gamma) (top ∷ tops) (i ∷ j) long room past below (suc k) =
    numbers_sum n gamma tops j (omega arith) (omega arith) (λ l high. past (suc l) (omega arith)) below.1 k
numbers_sum n gamma [] (i ∷ j) long room past below k = absurd below
numbers_sum n gamma (top ∷ tops) [] long room past below k = absurd below
numbers_sum (suc n) [] tops j long room past below k = absurd (omega (arith, long))
numbers_sum zero (a ∷ gamma) tops j long room past below k = absurd (omega (arith, long))
numbers_sum (suc n) gamma [] j long room past below k = absurd (omega arith)

take-below : (n : ℕ) (j each : List ℕ) → IsBelow j each → IsBelow (take n j) (take n each)
take-below zero j each below = tt
take-below (suc n) [] [] below = tt
take-below (suc n) [] (b ∷ each) below = absurd below
take-below (suc n) (k ∷ j) [] below = absurd below
take-below (suc n) (k ∷ j) (b ∷ each) below = (below.0, take-below n j each below.1)

pub get_or-later : (x : List ℕ) (k : ℕ) → get_or (later_entries x) k 0 ≡ get_or x (suc k) 0
get_or-later [] k = refl
get_or-later (a ∷ x) k = refl

pub length-later : (x : List ℕ) → length (later_entries x) ≡ length x - 1
length-later [] = refl
length-later (a ∷ x) = omega arith

pub drop-first : (x : List ℕ) → drop 1 x ≡ later_entries x
drop-first [] = refl
drop-first (a ∷ x) = refl

later-below : (e each : List ℕ) → IsBelow e each → IsBelow (later_entries e) (later_entries each)
later-below [] [] low = tt
later-below [] (c ∷ each) low = absurd low
later-below (k ∷ e) [] low = absurd low
later-below (k ∷ e) (c ∷ each) low = low.1

-- ---- polynomials in which the first variable does not stand

coefficient-later : (g : Grid) (e : List ℕ) (p : List (List ℕ × ℕ)) → Supported (IsDirectional g) p → coefficient (0 ∷ e) p ≡ coefficient e (headless_list p)
coefficient-later g e [] all = refl
coefficient-later g e (([], c) ∷ p) all = absurd (omega (arith, all.0.eight))
coefficient-later g e ((zero ∷ f, c) ∷ p) all = ap (λ v. (if is_same f e then c else 0) + v) (coefficient-later g e p all.1)
coefficient-later g e ((suc k ∷ f, c) ∷ p) all = absurd (omega (arith, all.0.first))

module _ (m : Modulus) (g : Grid) (r : ℕ) (is : IsGrid g) (long : length g.each ≡ 8) (p : List (List ℕ × ℕ)) (all : Supported (IsDirectional g) p)
    (zeros : (d : ℕ) → d < length (directions g r) → value_at p (get_or (directions g r) d []) % value_of m ≡ 0) where
  gamma_count : length (slopes r g.variables) ≡ g.variables - 1
  gamma_count = length-map-range_with_len (λ i. word (64 + 16 * r + 8 + i) / 2 ^ 32) 2 (g.variables - 1)

  at_direction : (j : List ℕ) → IsBelow j (later_degrees g) → value_at p (1 ∷ point_sum (slopes r g.variables) j) % value_of m ≡ 0
  at_direction j below =
      let make : List ℕ → List ℕ = λ i. 1 ∷ point_sum (slopes r g.variables) i in
      let js = lists_below (later_degrees g) in
      let found = listed_below (later_degrees g) j below in
      ap (λ x. value_at p (make x) % value_of m) (sym found.2) ∙
      ap (λ x. value_at p x % value_of m) (sym (get_or-map make js found.0 [] [] found.1)) ∙
      zeros found.0 (omega (arith, found.1, length-map js make))

  at_grid : (j : List ℕ) → IsBelow j (later_entries g.each) → value_at (headless_list p) (grid_point (numbers_from (slopes r g.variables) (later_entries g.each)) j) % value_of m ≡ 0
  at_grid j below =
      let n : ℕ = g.variables - 1 in
      let gamma = slopes r g.variables in
      let tops = later_entries g.each in
      let later : later_degrees g ≡ take n tops = ap (take n) (drop-first g.each) in
      value-congruent (value_of m) (headless_list p) (grid_point (numbers_from gamma tops) j) (point_sum gamma (take n j))
      (λ i. ap (λ v. v % value_of m)
      (numbers_sum n gamma tops j gamma_count (omega (arith, length-later g.each, long, is.few)) (λ l high. get_or-later g.each l ∙ is.others (suc l) (omega arith)) below i)) ∙
      ap (λ v. v % value_of m) (sym (value-headless p (point_sum gamma (take n j)))) ∙
      at_direction (take n j) (subst (IsBelow (take n j)) (sym later) (take-below n j tops below))

  directional_vanish : (e : List ℕ) → coefficient e p % value_of m ≡ 0
  directional_vanish [] = ap (λ c. c % value_of m) (coefficient-outside (IsDirectional g) p [] all (λ here. omega (arith, here.eight))) ∙ zero-mod (value_of m)
  directional_vanish (suc k ∷ e) = ap (λ c. c % value_of m) (coefficient-outside (IsDirectional g) p (suc k ∷ e) all (λ here. omega (arith, here.first))) ∙ zero-mod (value_of m)
  directional_vanish (zero ∷ e) =
      let tops = later_entries g.each in
      ap (λ c. c % value_of m) (coefficient-later g e p all) ∙
      lower_vanishing (value_of m) (numbers_from (slopes r g.variables) tops) tops (λ f. IsBelow f tops) (headless_list p)
      (numbers_apart m (slopes r g.variables) tops (λ k. omega (arith, get_or-later g.each k, is.each (suc k), is.low)))
      (IsBelow-lower tops) (λ f there. there)
      (Supported-headless (IsDirectional g) (λ f. IsBelow f tops) p (λ f here. later-below f g.each here.each) all)
      at_grid e

-- ---- so two with the same values have the same coefficients

above_one : (m : Modulus) → (k : ℕ) × (suc k ≡ value_of m)
above_one First = (2305843009213693950, omega arith)
above_one Second = (9223372036854775782, omega arith)

-- a polynomial without terms has any degrees; else one of its terms tells how many the grid has
pinned_long : (m : Modulus) (g : Grid) (r : ℕ) → IsGrid g → length g.each ≡ 8 → ArePinned (value_of m) (IsDirectional g) (directions g r)
pinned_long m g r is long p q p_in q_in same e =
    let n = value_of m in
    let k = (above_one m).0 in
    let size = (above_one m).1 in
    let difference = p ++ times k q in
    same_of_difference n k (coefficient e p) (coefficient e q) size
    (ap (λ c. c % n) (sym (coefficient-append e p (times k q) ∙ ap (λ c. coefficient e p + c) (coefficient-times e k q))) ∙
    directional_vanish m g r is long difference
    (Supported-append (IsDirectional g) p (times k q) p_in (Supported-times (IsDirectional g) k q q_in))
    (λ d low.
    let x = get_or (directions g r) d [] in
    ap (λ v. v % n) (value_at-append p (times k q) x ∙ ap (λ v. value_at p x + v) (value_at-times k q x)) ∙
    difference_of_same n k (value_at p x) (value_at q x) size (same d low))
    e)

pub directions_pinned : (m : Modulus) (g : Grid) (r : ℕ) → IsGrid g → ArePinned (value_of m) (IsDirectional g) (directions g r)
directions_pinned m g r is [] [] p_in q_in = λ same e. refl
directions_pinned m g r is (t ∷ p) q p_in q_in = pinned_long m g r is (eight_of g t.0 p_in.0) (t ∷ p) q p_in q_in
  where
    eight_of : (g : Grid) (e : List ℕ) → IsDirectional g e → length g.each ≡ 8
    eight_of g e here = sym (IsBelow-places e g.each here.each).0 ∙ here.eight
directions_pinned m g r is [] (t ∷ q) p_in q_in = pinned_long m g r is (eight_of g t.0 q_in.0) [] (t ∷ q) p_in q_in
  where
    eight_of : (g : Grid) (e : List ℕ) → IsDirectional g e → length g.each ≡ 8
    eight_of g e here = sym (IsBelow-places e g.each here.each).0 ∙ here.eight

-- ---- bounds that the grid covers

directional_of : (g : Grid) (b : Bound) (e : List ℕ) → length g.each ≡ 8 → ((i : ℕ) → get_or b.each i 0 ≤ get_or g.each i 0) → HasEight e → WithinBound b e → IsDirectional g (headless e)
directional_of g b [] long most eight within = absurd (omega (arith, eight))
directional_of g b (j ∷ e) long most eight within =
    let places = IsBelow-places (j ∷ e) b.each within.1 in
    record {
      eight = eight;
      first = refl;
      each = IsBelow-from_places (0 ∷ e) g.each (eight ∙ sym long) (at places.1);
    }
  where
    at : ((k : ℕ) → get_or (j ∷ e) k 0 ≤ get_or b.each k 0) → (k : ℕ) → k < length g.each → get_or (0 ∷ e) k 0 ≤ get_or g.each k 0
    at places zero low = omega arith
    at places (suc k) low = omega (arith, places (suc k), most (suc k))

pub num_directional : (g : Grid) (b : Bounds) → Covers (bound_of g) b → (e : List ℕ) → HasEight e → WithinBound b.num e → IsDirectional g (headless e)
num_directional g b covers e eight within = directional_of g b.num e covers.places (λ i. omega (arith, covers.each i)) eight within

pub den_directional : (g : Grid) (b : Bounds) → Covers (bound_of g) b → (e : List ℕ) → HasEight e → WithinBound b.den e → IsDirectional g (headless e)
den_directional g b covers e eight within = directional_of g b.den e covers.places (λ i. omega (arith, covers.each i)) eight within

pub directional_eight : (g : Grid) (e : List ℕ) → IsDirectional g e → HasEight e
directional_eight g e here = here.eight

-- points that are forcing for a grid are forcing for the denominators
pub forcing_for_den : (m : ℕ) (grid : Bound) (b : Bounds) (xs : List (List ℕ)) → Covers grid b → IsForcing m grid xs → IsForcing m b.den xs
forcing_for_den m grid b xs covers forcing p eight within zeros = forcing p eight (inside p eight within) zeros
  where
    inside : (q : List (List ℕ × ℕ)) → Supported HasEight q → IsWithin b.den q → IsWithin grid q
    inside [] eight within = tt
    inside (t ∷ q) eight within =
        let places = IsBelow-places t.0 b.den.each within.0.1 in (
          (omega (arith, within.0.0, covers.total), IsBelow-from_places t.0 grid.each (eight.0 ∙ sym covers.places) (λ k low. omega (arith, places.1 k, covers.each k))),
          inside q eight.1 within.1,
        )

-- where the rays start
pub shift_most : (m : Modulus) (g : Grid) (r k : ℕ) → get_or (shift r g.variables) k 0 ≤ value_of m
shift_most First g r k = omega (arith, shift-low r g.variables k)
shift_most Second g r k = omega (arith, shift-low r g.variables k)
