-- Where the rays of an attempt begin, and their first direction, from two points of the first ray.
use Rattle.std.proofs.Common.{◌≡◌, ℕ, zero, suc, ◌+◌, ◌-◌, ◌*◌, ◌/◌, ◌<◌, ◌≤◌, ◌^◌, All, List, [], ◌∷◌, length, get_or, slice_index, take, drop, refl, sym, ◌∙◌, ap, subst, arith, inl, inr}
use Rattle.std.proofs.lemmas.Bool.{cases_lt}
use Rattle.std.proofs.lemmas.List.{ext_get_or, get_or_read, get_or-map, get_or_past, get_or-take, get_or-drop, length-drop, length-map, length-take}
use Rattle.std.proofs.lemmas.List.FromFn.{length-map-range_with_len}
use Rattle.prime_field.specs.Sequence.{word}
use Rattle.poly_maps.specs.Moved.{point_sum, scaled}
use Rattle.ray_grid.specs.declared.grid.Grid.{Grid}
use Rattle.ray_grid.specs.Attempt.{shift, slopes, lists_below, attempt_points}
use Rattle.ray_grid.specs.Grid.{later_degrees}
use Rattle.ray_grid.proofs.Forcing.{slopes-low}
use Rattle.multivar_recon.specs.Rays.{directions}
use Rattle.multivar_recon.proofs.Attempts.{directions_some}
use Rattle.multivar_recon.proofs.Directional.{attempt_rays, get_or-lists_below, length-lists_below}

-- one ray in so many variables
abbrev pub one_ray : ℕ → Grid
one_ray variables = record { variables = variables; total = 0; each = 0 ∷ 0 ∷ 0 ∷ 0 ∷ 0 ∷ 0 ∷ 0 ∷ 0 ∷ [] }

-- the first two points of the first ray: they have an entry for each variable
pub record AreFirst (r variables : ℕ) (first second : List ℕ) : Type 0 where
  pub first_count : length first ≡ variables
  pub second_count : length second ≡ variables
  pub first_at : (k : ℕ) → get_or first k 0 ≡ get_or (shift r variables) k 0 + get_or (1 ∷ slopes r variables) k 0
  pub second_at : (k : ℕ) → get_or second k 0 ≡ get_or (shift r variables) k 0 + 2 * get_or (1 ∷ slopes r variables) k 0

sum_at : (x y : List ℕ) (k : ℕ) → get_or (point_sum x y) k 0 ≡ get_or x k 0 + get_or y k 0
sum_at [] y k = omega arith
sum_at (a ∷ x) [] k = omega arith
sum_at (a ∷ x) (b ∷ y) zero = refl
sum_at (a ∷ x) (b ∷ y) (suc k) = sum_at x y k

scaled_at : (t : ℕ) (x : List ℕ) (k : ℕ) → get_or (scaled t x) k 0 ≡ t * get_or x k 0
scaled_at t [] k = omega arith
scaled_at t (a ∷ x) zero = refl
scaled_at t (a ∷ x) (suc k) = scaled_at t x k

lists_here : (each : List ℕ) → 0 < length (lists_below each)
lists_here [] = omega arith
lists_here (e ∷ each) = omega (arith, length-lists_below e each, lists_here each)

behind : (p : List ℕ) → ((k : ℕ) → get_or p k 0 ≡ 0) → (k : ℕ) → get_or (0 ∷ p) k 0 ≡ 0
behind p none zero = refl
behind p none (suc k) = none k

-- the first list has zeros alone
first_list : (each : List ℕ) (k : ℕ) → get_or (get_or (lists_below each) 0 []) k 0 ≡ 0
first_list [] k = refl
first_list (e ∷ each) k =
    let place : 0 ≡ 0 * length (lists_below each) + 0 = omega arith in
    ap (λ l. get_or l k 0) (ap (λ i. get_or (lists_below (e ∷ each)) i []) place ∙ get_or-lists_below e 0 each 0 (omega arith) (lists_here each)) ∙
    behind (get_or (lists_below each) 0 []) (first_list each) k

direction_at : (g : Grid) (r k : ℕ) → get_or (get_or (directions g r) 0 []) k 0 ≡ get_or (1 ∷ slopes r g.variables) k 0
direction_at g r k =
    let make : List ℕ → List ℕ = λ j. 1 ∷ point_sum (slopes r g.variables) j in
    let js = lists_below (later_degrees g) in
    ap (λ l. get_or l k 0) (get_or-map make js 0 [] [] (lists_here (later_degrees g))) ∙ by k
  where
    by : (k : ℕ) → get_or (1 ∷ point_sum (slopes r g.variables) (get_or (lists_below (later_degrees g)) 0 [])) k 0 ≡ get_or (1 ∷ slopes r g.variables) k 0
    by zero = refl
    by (suc k) = sum_at (slopes r g.variables) (get_or (lists_below (later_degrees g)) 0 []) k ∙ omega (arith, first_list (later_degrees g) k)

point_at : (g : Grid) (r t k : ℕ) → t < g.total + 3 → get_or (get_or (attempt_points g r) t []) k 0 ≡ get_or (shift r g.variables) k 0 + suc t * get_or (1 ∷ slopes r g.variables) k 0
point_at g r t k low =
    let place : t ≡ 0 * (g.total + 3) + t = omega arith in
    let s = shift r g.variables in
    let h = get_or (directions g r) 0 [] in
    ap (λ l. get_or l k 0) (ap (λ i. get_or (attempt_points g r) i []) place ∙ (attempt_rays g r).points 0 t (directions_some g r) low) ∙
    sum_at s (scaled (suc t) h) k ∙
    ap (λ v. get_or s k 0 + v) (scaled_at (suc t) h k ∙ ap (λ v. suc t * v) (direction_at g r k))

pub are_first : (g : Grid) (r : ℕ) (items : List (List ℕ)) (a b first second : List ℕ) → items ≡ attempt_points g r → All (λ x. length x ≡ g.variables) items →
    a ≡ get_or items 0 a → b ≡ get_or items 1 b → first ≡ a → second ≡ b → AreFirst r g.variables first second
are_first g r items a b first second is count a_is b_is first_is second_is =
    let rows : 0 < length (directions g r) = directions_some g r in
    let many : length items ≡ length (directions g r) * (g.total + 3) = ap length is ∙ (attempt_rays g r).count in
    let two : 1 < length items = enough (length (directions g r)) (g.total + 3) (length items) rows (omega arith) many in
    let one : 0 < length items = omega (arith, two) in
    let first_at : first ≡ get_or items 0 [] = first_is ∙ get_or_read items 0 a one a_is [] in
    let second_at : second ≡ get_or items 1 [] = second_is ∙ get_or_read items 1 b two b_is [] in
    record {
      first_count = ap length first_at ∙ count 0 [] one;
      second_count = ap length second_at ∙ count 1 [] two;
      first_at = λ k. ap (λ l. get_or l k 0) (first_at ∙ ap (λ l. get_or l 0 []) is) ∙ point_at g r 0 k (omega arith) ∙ omega arith;
      second_at = λ k. ap (λ l. get_or l k 0) (second_at ∙ ap (λ l. get_or l 1 []) is) ∙ point_at g r 1 k (omega arith);
    }
  where
    enough : (w n count : ℕ) → 0 < w → 2 ≤ n → count ≡ w * n → 1 < count
    enough zero n count some two is = absurd (omega arith)
    enough (suc w) n count some two is = omega (arith, is)

-- ---- their differences

pub first_below : (r v : ℕ) (first second : List ℕ) → AreFirst r v first second → (k : ℕ) → slice_index first k ≤ slice_index second k
first_below r v first second are k = omega (arith, are.first_at k, are.second_at k)

pub direction_is : (r v : ℕ) (first second made : List ℕ) → AreFirst r v first second → ((k : ℕ) → slice_index made k ≡ slice_index second k - slice_index first k) →
    (k : ℕ) → slice_index made k ≡ get_or (1 ∷ slopes r v) k 0
direction_is r v first second made are is k = omega (arith, is k, are.first_at k, are.second_at k)

length-shift : (r v : ℕ) → length (shift r v) ≡ v
length-shift r v = length-map-range_with_len (λ i. word (64 + 16 * r + i) / 16) 1 v

length-slopes : (r v : ℕ) → length (slopes r v) ≡ v - 1
length-slopes r v = length-map-range_with_len (λ i. word (64 + 16 * r + 8 + i) / 2 ^ 32) 2 (v - 1)

pub slopes_are : (r v : ℕ) (made : List ℕ) → 1 ≤ v → v ≤ length made → ((k : ℕ) → slice_index made k ≡ get_or (1 ∷ slopes r v) k 0) → take (v - 1) (drop 1 made) ≡ slopes r v
slopes_are r v made some room is =
    ext_get_or 0 (take (v - 1) (drop 1 made)) (slopes r v) (omega (arith, length-take (v - 1) (drop 1 made), length-drop 1 made, length-slopes r v))
    (λ k low.
    get_or-take (v - 1) (drop 1 made) k 0 (omega (arith, length-take (v - 1) (drop 1 made), low)) ∙ get_or-drop 1 made k 0 ∙ ap (λ i. get_or made i 0) (next k) ∙ is (suc k))
  where
    next : (k : ℕ) → 1 + k ≡ suc k
    next k = omega arith

pub shift_is : (r v : ℕ) (first second made begin of : List ℕ) → v ≤ length begin → AreFirst r v first second → ((k : ℕ) → slice_index made k ≡ get_or (1 ∷ slopes r v) k 0) →
    ((k : ℕ) → slice_index begin k ≡ slice_index first k - slice_index (take v made) k) → of ≡ take v begin → of ≡ shift r v
shift_is r v first second made begin of room are is begin_is of_is =
    of_is ∙
    ext_get_or 0 (take v begin) (shift r v) (omega (arith, length-take v begin, length-shift r v))
    (λ k low.
    let within : k < v = omega (arith, length-take v begin, low) in
    get_or-take v begin k 0 within ∙ omega (arith, begin_is k, get_or-take v made k 0 within, is k, are.first_at k))

pub start_below : (r v : ℕ) (first second made : List ℕ) → AreFirst r v first second → ((k : ℕ) → slice_index made k ≡ get_or (1 ∷ slopes r v) k 0) →
    (k : ℕ) → slice_index (take v made) k ≤ slice_index first k
start_below r v first second made are is k =
    elim (cases_lt k v) [
      | inl within ↦ omega (arith, get_or-take v made k 0 within, is k, are.first_at k)
      | inr past ↦ omega (arith, get_or_past (take v made) k 0 (omega (arith, length-take v made, past)))
    ]

pub part_low : (n from : ℕ) (p : List ℕ) (bound : ℕ) → ((k : ℕ) → slice_index p k ≤ bound) → (k : ℕ) → slice_index (take n (drop from p)) k ≤ bound
part_low n from p bound low k =
    elim (cases_lt k n) [
      | inl within ↦ omega (arith, get_or-take n (drop from p) k 0 within, get_or-drop from p k 0, low (from + k))
      | inr past ↦ omega (arith, get_or_past (take n (drop from p)) k 0 (omega (arith, length-take n (drop from p), past)))
    ]
