-- The entries of points on rays, and rays one after the other.
use Rattle.std.proofs.Common.{◌≡◌, ℕ, zero, suc, All, ◌+◌, ◌-◌, ◌*◌, ◌/◌, ◌^◌, ◌<◌, ◌≤◌, List, [], ◌∷◌, ◌++◌, length, get_or, take, drop, map, refl, sym, ◌∙◌, ap, subst, append_assoc, append-nil, arith}
use Rattle.std.specs.List.{flat_map, range_with_len}
use Rattle.std.proofs.Math.ListN.{set}
use Rattle.std.proofs.Math.Nat.{mul-le-mul}
use Rattle.std.proofs.Math.Seq.{drop-cons}
use Rattle.std.proofs.lemmas.Grind.{flat_map-append}
use Rattle.std.proofs.lemmas.List.{drop-take, take_more, take_more_set, take_all, length-take, length-map, length-append}
use Rattle.std.proofs.lemmas.List.Elements.{All-append, All-map, All-nil, All-same}
use Rattle.std.proofs.lemmas.List.Folds.{flat_map-map}
use Rattle.std.proofs.lemmas.List.FromFn.{map-range_with_len_more, length-map-range_with_len}
use Rattle.prime_field.specs.Sequence.{word}
use Rattle.poly_maps.specs.Enumeration.{starting, prefixed}
use Rattle.poly_maps.specs.Moved.{point_sum, scaled}
use Rattle.poly_maps.specs.Point.{IsPoint}
use Rattle.poly_maps.proofs.Enumerated.{starting_more}
use Rattle.ray_grid.specs.declared.grid.Grid.{Grid}
use Rattle.ray_grid.specs.Attempt.{shift, slopes, lists_below, ray, attempt_points}
use Rattle.ray_grid.specs.Grid.{IsGrid, choices, point_count}
use Rattle.ray_grid.specs.Start.{AreSmall}
use Rattle.ray_grid.proofs.Forcing.{shift-low, slopes-low}

-- ---- sums, entry by entry

get_or-point_sum : (x y : List ℕ) (k : ℕ) → get_or (point_sum x y) k 0 ≡ get_or x k 0 + get_or y k 0
get_or-point_sum [] y k = omega arith
get_or-point_sum (a ∷ x) [] k = omega arith
get_or-point_sum (a ∷ x) (b ∷ y) zero = refl
get_or-point_sum (a ∷ x) (b ∷ y) (suc k) = get_or-point_sum x y k

pub length-point_sum : (x y : List ℕ) → length y ≤ length x → length (point_sum x y) ≡ length x
length-point_sum [] [] short = refl
length-point_sum [] (b ∷ y) short = absurd (omega arith)
length-point_sum (a ∷ x) [] short = refl
length-point_sum (a ∷ x) (b ∷ y) short = ap suc (length-point_sum x y (omega arith))

point_sum-more : (x y : List ℕ) (a b : ℕ) → length x ≡ length y → point_sum (x ++ a ∷ []) (y ++ b ∷ []) ≡ point_sum x y ++ (a + b) ∷ []
point_sum-more [] [] a b same = refl
point_sum-more [] (d ∷ y) a b same = absurd (omega (arith, same))
point_sum-more (c ∷ x) [] a b same = absurd (omega (arith, same))
point_sum-more (c ∷ x) (d ∷ y) a b same = ap (λ z. (c + d) ∷ z) (point_sum-more x y a b (omega (arith, same)))

-- one entry more of a sum
pub sum_more : (i v : ℕ) (out x y : List ℕ) → i < length out → i < length x → length y ≡ length x → v ≡ get_or x i 0 + get_or y i 0 →
    take i out ≡ point_sum (take i x) (take i y) → take (i + 1) (set out i v) ≡ point_sum (take (i + 1) x) (take (i + 1) y)
sum_more i v out x y room low same v_is before =
    take_more_set out i v room ∙
    (λ k. before k ++ v_is k ∷ []) ∙
    sym (point_sum-more (take i x) (take i y) (get_or x i 0) (get_or y i 0) (omega (arith, length-take i x, length-take i y, same, low))) ∙
    (λ k. point_sum (sym (take_more x i 0 low) k) (sym (take_more y i 0 (omega (arith, same, low))) k))

-- all entries of a sum
pub sum_all : (i : ℕ) (out x y : List ℕ) → length x ≤ i → length y ≡ length x → take i out ≡ point_sum (take i x) (take i y) → take i out ≡ point_sum x y
sum_all i out x y all same done = done ∙ (λ k. point_sum (take_all i x all k) (take_all i y (omega (arith, all, same)) k))

get_or-scaled : (t : ℕ) (x : List ℕ) (k : ℕ) → get_or (scaled t x) k 0 ≡ t * get_or x k 0
get_or-scaled t [] k = omega arith
get_or-scaled t (a ∷ x) zero = refl
get_or-scaled t (a ∷ x) (suc k) = get_or-scaled t x k

-- one entry more of a point on a ray
pub point_more : (i t v : ℕ) (out start direction : List ℕ) → i < length out → i < length start → length direction ≡ length start → v ≡ get_or start i 0 + t * get_or direction i 0 →
    take i out ≡ point_sum (take i start) (take i (scaled t direction)) → take (i + 1) (set out i v) ≡ point_sum (take (i + 1) start) (take (i + 1) (scaled t direction))
point_more i t v out start direction room low same v_is before =
    sum_more i v out start (scaled t direction) room low (length-map direction (λ a. t * a) ∙ same)
    (v_is ∙ ap (λ a. get_or start i 0 + a) (sym (get_or-scaled t direction i))) before

le_of : (a : ℕ) → a < 2 ^ 33 → a ≤ 2 ^ 33
le_of a low = omega arith

-- small entries make a point
pub IsPoint-on_ray : (t : ℕ) (out start direction : List ℕ) → 1 ≤ length start → length start ≤ 8 → length direction ≡ length start → t ≤ 131 →
    ((k : ℕ) → get_or start k 0 < 2 ^ 60) → ((k : ℕ) → get_or direction k 0 < 2 ^ 33) → out ≡ point_sum start (scaled t direction) → IsPoint out
IsPoint-on_ray t out start direction some few same t_low start_low direction_low is =
    let count : length out ≡ length start =
    ap length is ∙ length-point_sum start (scaled t direction) (omega (arith, length-map direction (λ a. t * a), same)) in
    record {
      some = omega arith;
      few = omega arith;
      below = λ k low.
          let sum : get_or out k 0 ≡ get_or start k 0 + t * get_or direction k 0 =
          ap (λ x. get_or x k 0) is ∙ get_or-point_sum start (scaled t direction) k ∙ ap (λ a. get_or start k 0 + a) (get_or-scaled t direction k) in
          let product : t * get_or direction k 0 ≤ 131 * 2 ^ 33 = mul-le-mul t_low (le_of (get_or direction k 0) (direction_low k)) in
          omega (arith, sum, product, start_low k);
    }

-- ---- what attempts are made of

pub shift_more : (r i v : ℕ) (out : List ℕ) → i < length out → v ≡ word (64 + 16 * r + i + 1) / 16 → take i out ≡ shift r i → take (i + 1) (set out i v) ≡ shift r (i + 1)
shift_more r i v out room v_is before =
    let number : 64 + 16 * r + i + 1 ≡ 64 + 16 * r + (1 + i) = omega arith in
    take_more_set out i v room ∙
    (λ k. before k ++ (v_is ∙ ap (λ n. word n / 16) number) k ∷ []) ∙
    sym (map-range_with_len_more (λ n. word (64 + 16 * r + n) / 16) 1 i (1 + i) refl)

pub slopes_more : (r i v : ℕ) (out : List ℕ) → 1 ≤ i → i < length out → v ≡ word (64 + 16 * r + 8 + i + 1) / 2 ^ 32 → take i out ≡ 1 ∷ slopes r i → take (i + 1) (set out i v) ≡ 1 ∷ slopes r (i + 1)
slopes_more r i v out some room v_is before =
    let number : 64 + 16 * r + 8 + i + 1 ≡ 64 + 16 * r + 8 + (1 + i) = omega arith in
    let place : 2 + (i - 1) ≡ 1 + i = omega arith in
    let count : i - 1 + 1 ≡ i + 1 - 1 = omega arith in
    take_more_set out i v room ∙
    (λ k. before k ++ (v_is ∙ ap (λ n. word n / 2 ^ 32) number) k ∷ []) ∙
    ap (λ x. 1 ∷ x)
    (sym (map-range_with_len_more (λ n. word (64 + 16 * r + 8 + n) / 2 ^ 32) 2 (i - 1) (1 + i) place) ∙
    ap (λ n. map (λ k. word (64 + 16 * r + 8 + k) / 2 ^ 32) (range_with_len 2 n)) count)

-- ---- rays one after the other

pub ray_more : (points first new : List (List ℕ)) (t : ℕ) (start direction : List ℕ) → 1 ≤ t → points ≡ first ++ ray (t - 1) start direction →
    new ≡ points ++ point_sum start (scaled t direction) ∷ [] → new ≡ first ++ ray (t + 1 - 1) start direction
ray_more points first new t start direction some before new_is =
    let f : ℕ → List ℕ = λ n. point_sum start (scaled n direction) in
    let place : 1 + (t - 1) ≡ t = omega arith in
    let count : t - 1 + 1 ≡ t + 1 - 1 = omega arith in
    new_is ∙ ap (λ x. x ++ f t ∷ []) before ∙
    append_assoc first (ray (t - 1) start direction) (f t ∷ []) ∙
    ap (λ x. first ++ x) (sym (map-range_with_len_more f 1 (t - 1) t place) ∙ ap (λ n. map f (range_with_len 1 n)) count)

-- the rays of one step more at the place i
pub rays_more : (f : List ℕ → List (List ℕ)) (points first new : List (List ℕ)) (steps : List ℕ) (i j : ℕ) (rest : List (List ℕ)) → i < length steps →
    points ≡ first ++ flat_map f (prefixed (take i steps) (starting j (λ k. rest))) →
    new ≡ points ++ flat_map f (prefixed (take (i + 1) (set steps i j)) rest) →
    new ≡ first ++ flat_map f (prefixed (take i steps) (starting (j + 1) (λ k. rest)))
rays_more f points first new steps i j rest low before new_is =
    let earlier : List (List ℕ) = prefixed (take i steps) (starting j (λ k. rest)) in
    let last : List (List ℕ) = prefixed (take (i + 1) (set steps i j)) rest in
    let both : earlier ++ last ≡ prefixed (take i steps) (starting (j + 1) (λ k. rest)) =
    starting_more earlier [] (earlier ++ last) steps i j (λ k. rest) low refl refl in
    new_is ∙ ap (λ x. x ++ flat_map f last) before ∙
    append_assoc first (flat_map f earlier) (flat_map f last) ∙
    ap (λ x. first ++ x) (sym (flat_map-append f earlier last) ∙ ap (flat_map f) both)

-- past the last place there is one ray
pub rays_at_end : (f : List ℕ → List (List ℕ)) (steps each : List ℕ) (i : ℕ) → drop i each ≡ [] → f (take i steps) ≡ flat_map f (prefixed (take i steps) (lists_below (drop i each)))
rays_at_end f steps each i none =
    ap f (sym (append-nil (take i steps))) ∙
    sym (append-nil (f (take i steps ++ []))) ∙
    ap (λ x. flat_map f (prefixed (take i steps) (lists_below x))) (sym none)

-- steps of 0 in the first variable
pub rays_at_start : (f : List ℕ → List (List ℕ)) (js : List (List ℕ)) → flat_map f (prefixed (0 ∷ []) js) ≡ flat_map (λ j. f (0 ∷ j)) js
rays_at_start f js = flat_map-map f (λ j. 0 ∷ j) js

taken-low : (i : ℕ) (x : List ℕ) (k : ℕ) → get_or (take i x) k 0 ≤ get_or x k 0
taken-low zero x k = omega arith
taken-low (suc i) [] k = omega arith
taken-low (suc i) (a ∷ x) zero = omega arith
taken-low (suc i) (a ∷ x) (suc k) = taken-low i x k

-- entries of directions
pub direction-low : (first steps : List ℕ) (i k : ℕ) → ((n : ℕ) → get_or first n 0 < 2 ^ 32) → ((n : ℕ) → get_or steps n 0 ≤ 128) → get_or (point_sum first (take i steps)) k 0 < 2 ^ 33
direction-low first steps i k first_low steps_low =
    omega (arith, get_or-point_sum first (take i steps) k, first_low k, taken-low i steps k, steps_low k)

-- ---- how many points there are

length-ray : (count : ℕ) (start direction : List ℕ) → length (ray count start direction) ≡ count
length-ray count start direction = length-map-range_with_len (λ t. point_sum start (scaled t direction)) 1 count

length-starting : (n : ℕ) (rest : List (List ℕ)) → length (starting n (λ k. rest)) ≡ n * length rest
length-starting zero rest = omega arith
length-starting (suc n) rest =
    omega (arith, length-append (starting n (λ k. rest)) (prefixed (n ∷ []) rest), length-map rest (λ e. (n ∷ []) ++ e), length-starting n rest)

length-lists_below : (each : List ℕ) → length (lists_below each) ≡ choices each
length-lists_below [] = refl
length-lists_below (e ∷ each) = length-starting (e + 1) (lists_below each) ∙ ap (λ n. (e + 1) * n) (length-lists_below each)

length-rays : (count : ℕ) (f : List ℕ → List (List ℕ)) (js : List (List ℕ)) → ((j : List ℕ) → length (f j) ≡ count) → length (flat_map f js) ≡ count * length js
length-rays count f [] each = omega arith
length-rays count f (j ∷ js) each = omega (arith, length-append (f j) (flat_map f js), each j, length-rays count f js each)

pub length-points : (count : ℕ) (start : List ℕ) (d : List ℕ → List ℕ) (each : List ℕ) → length (flat_map (λ j. ray count start (d j)) (lists_below each)) ≡ count * choices each
length-points count start d each =
    length-rays count (λ j. ray count start (d j)) (lists_below each) (λ j. length-ray count start (d j)) ∙ ap (λ n. count * n) (length-lists_below each)

choices-some : (each : List ℕ) → 1 ≤ choices each
choices-some [] = omega arith
choices-some (e ∷ each) = omega (arith, choices-some each)

-- a factor more of their number
pub choices_more : (count total : ℕ) (each : List ℕ) (i : ℕ) → i < length each → count * choices (drop i each) ≡ total → count * (get_or each i 0 + 1) * choices (drop (i + 1) each) ≡ total
choices_more count total each i low before =
    let rest = choices (drop (i + 1) each) in
    let place : suc i ≡ i + 1 = omega arith in
    let first : choices (drop i each) ≡ (get_or each i 0 + 1) * rest =
    ap choices (drop-cons each i 0 low) ∙ ap (λ n. (get_or each i 0 + 1) * choices (drop n each)) place in
    omega (arith, ap (λ n. count * n) first, before)

-- and a product of some factors is at most that of all
pub choices-many : (count total : ℕ) (each : List ℕ) (i : ℕ) → count * choices (drop i each) ≡ total → 65536 < count → 65536 < total
choices-many count total each i before many =
    let more : count * 1 ≤ count * choices (drop i each) = mul-le-mul (itself count) (choices-some (drop i each)) in
    omega arith
  where
    itself : (n : ℕ) → n ≤ n
    itself n = omega arith

-- ---- an attempt

pub AreSmall-attempt : (g : Grid) (r : ℕ) (start first : List ℕ) → IsGrid g → length g.each ≡ 8 → start ≡ shift r g.variables → first ≡ 1 ∷ slopes r g.variables → AreSmall start first (take g.variables g.each)
AreSmall-attempt g r start first is eight start_is first_is =
    let v = g.variables in
    let start_count : length start ≡ v = ap length start_is ∙ length-map-range_with_len (λ i. word (64 + 16 * r + i) / 16) 1 v in
    let first_count : length first ≡ 1 + (v - 1) = ap length first_is ∙ ap suc (length-map-range_with_len (λ i. word (64 + 16 * r + 8 + i) / 2 ^ 32) 2 (v - 1)) ∙ omega arith in
    record {
      some = omega (arith, is.some);
      few = omega (arith, is.few);
      first_count = omega (arith, is.some);
      each_count = omega (arith, length-take v g.each, is.few);
      start_low = λ k. subst (λ x. get_or x k 0 < 2 ^ 60) (sym start_is) (shift-low r v k);
      first_low = λ k. subst (λ x. get_or x k 0 < 2 ^ 32) (sym first_is) (entries k);
      each_low = λ k. omega (arith, taken-low v g.each k, is.each k, is.low);
    }
  where
    entries : (k : ℕ) → get_or (1 ∷ slopes r g.variables) k 0 < 2 ^ 32
    entries zero = omega arith
    entries (suc k) = slopes-low r g.variables k

pub attempt_is : (g : Grid) (r : ℕ) (start first : List ℕ) (none points : List (List ℕ)) → IsGrid g → start ≡ shift r g.variables → first ≡ 1 ∷ slopes r g.variables → none ≡ [] →
    points ≡ none ++ flat_map (λ j. ray (g.total + 3) start (point_sum first j)) (prefixed (0 ∷ []) (lists_below (drop 1 (take g.variables g.each)))) → points ≡ attempt_points g r
attempt_is g r start first none points is start_is first_is none_is points_is =
    let v = g.variables in
    let all : 1 + (v - 1) ≡ v = omega (arith, is.some) in
    let later : drop 1 (take v g.each) ≡ take (v - 1) (drop 1 g.each) = ap (λ n. drop 1 (take n g.each)) (sym all) ∙ drop-take 1 (v - 1) g.each in
    points_is ∙
    (λ i. none_is i ++ flat_map (λ j. ray (g.total + 3) (start_is i) (point_sum (first_is i) j)) (prefixed (0 ∷ []) (lists_below (later i)))) ∙
    rays_at_start (λ j. ray (g.total + 3) (shift r v) (point_sum (1 ∷ slopes r v) j)) (lists_below (take (v - 1) (drop 1 g.each)))

pub length-attempt : (g : Grid) (r : ℕ) → length (attempt_points g r) ≡ point_count g
length-attempt g r = length-points (g.total + 3) (shift r g.variables) (λ j. 1 ∷ point_sum (slopes r g.variables) j) (take (g.variables - 1) (drop 1 g.each))

-- ---- the entries of its points

All-starting_from : (P : List ℕ → Type 0) (f : List ℕ → List (List ℕ)) (n : ℕ) (rest : List (List ℕ)) → ((k : ℕ) → All P (flat_map (λ j. f (k ∷ j)) rest)) → All P (flat_map f (starting n (λ k. rest)))
All-starting_from P f zero rest each = All-nil P
All-starting_from P f (suc n) rest each =
    let before : List (List ℕ) = starting n (λ k. rest) in
    let last : List (List ℕ) = prefixed (n ∷ []) rest in
    All-same P (flat_map f (before ++ last)) (flat_map f before ++ flat_map f last) (flat_map-append f before last)
    (All-append P (flat_map f before) (flat_map f last) (All-starting_from P f n rest each)
    (All-same P (flat_map f last) (flat_map (λ j. f (n ∷ j)) rest) (flat_map-map f (λ j. n ∷ j) rest) (each n)))

-- what holds along each direction holds of all points
All-rays : (P : List ℕ → Type 0) (f : List ℕ → List (List ℕ)) (each : List ℕ) → ((j : List ℕ) → length j ≡ length each → All P (f j)) → All P (flat_map f (lists_below each))
All-rays P f [] all = All-append P (f []) [] (all [] refl) (All-nil P)
All-rays P f (e ∷ each) all =
    All-starting_from P f (e + 1) (lists_below each) (λ k. All-rays P (λ j. f (k ∷ j)) each (λ j same. all (k ∷ j) (ap suc same)))

pub entries-attempt : (g : Grid) (r : ℕ) → IsGrid g → All (λ x. length x ≡ g.variables) (attempt_points g r)
entries-attempt g r is =
    let v = g.variables in
    let s = shift r v in
    let gamma = slopes r v in
    let later = take (v - 1) (drop 1 g.each) in
    let s_count : length s ≡ v = length-map-range_with_len (λ i. word (64 + 16 * r + i) / 16) 1 v in
    let gamma_count : length gamma ≡ v - 1 = length-map-range_with_len (λ i. word (64 + 16 * r + 8 + i) / 2 ^ 32) 2 (v - 1) in
    All-rays (λ x. length x ≡ v) (λ j. ray (g.total + 3) s (1 ∷ point_sum gamma j)) later
    (λ j same.
    let d : List ℕ = 1 ∷ point_sum gamma j in
    let d_count : length d ≡ v = ap suc (length-point_sum gamma j (omega (arith, same, length-take (v - 1) (drop 1 g.each), gamma_count))) ∙ omega (arith, gamma_count, is.some) in
    All-map (λ x. length x ≡ v) (λ t. point_sum s (scaled t d)) (range_with_len 1 (g.total + 3))
    (λ k none low. length-point_sum s (scaled (get_or (range_with_len 1 (g.total + 3)) k none) d) (omega (arith, s_count, d_count, length-map d (λ a. get_or (range_with_len 1 (g.total + 3)) k none * a))) ∙ s_count))
