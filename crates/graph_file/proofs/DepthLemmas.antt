-- The graphs that others call, and how deep calls go.
use Rattle.std.proofs.Common.{◌≡◌, ◌<◌, ◌≤◌, ◌+◌, ◌-◌, ℕ, zero, suc, Bool, true, false, not, cond, refl, sym, ap, ◌∙◌, List, [], ◌∷◌, ◌++◌, length, take, min, max, Option, Some, None, arith, nat_lt, bytes_eq, position, length-append, is_some}
use mathlib.Core.Logic.{⊎_elim}
use Rattle.std.specs.List.{slice_get, position_or_len, list_any}
use Rattle.std.proofs.lemmas.Bool.Decides.{nat_tests}
use Rattle.std.proofs.lemmas.List.{length-take}
use Rattle.graph_file.specs.declared.line.Line.{Line}
use Rattle.graph_file.specs.declared.line.Line.TheVariants as line
use Rattle.graph_file.specs.declared.line.Statement.{Statement}
use Rattle.graph_file.proofs.TableLemmas.{is_some-position}
use Rattle.graph_file.specs.Facts.{graph_named, called_by, depth_over, earlier_names_in, graph_names_in, last_raised}
use Rattle.graph_file.specs.Read.{AreDepths}
use Rattle.graph_file.proofs.SoundLemmas.{at_push, nothing_at}

front : {X : Type 0} (xs : List X) (x : X) → take (length xs) (xs ++ x ∷ []) ≡ xs
front [] x = refl
front (y ∷ ys) x = ap (λ l. y ∷ l) (front ys x)

-- all names but the last
take-front : {X : Type 0} (xs : List X) (x : X) → take (length (xs ++ x ∷ []) - 1) (xs ++ x ∷ []) ≡ xs
take-front xs x =
    let count : length (xs ++ x ∷ []) - 1 ≡ length xs = omega (arith, length-append xs (x ∷ [])) in
    ap (λ n. take n (xs ++ x ∷ [])) count ∙ front xs x

pub earlier-names : (all : List Line) → take (length (graph_names_in all) - 1) (graph_names_in all) ≡ earlier_names_in all
earlier-names [] = refl
earlier-names (line.Flow version ∷ before) = earlier-names before
earlier-names (line.Graph name ∷ before) = take-front (graph_names_in before) name
earlier-names (line.Input names ∷ before) = earlier-names before
earlier-names (line.Node name statement ∷ before) = earlier-names before
earlier-names (line.Row columns ∷ before) = earlier-names before
earlier-names (line.Output list ∷ before) = earlier-names before
earlier-names (line.Point entries ∷ before) = earlier-names before
earlier-names (line.Bounds outputs num den ∷ before) = earlier-names before
earlier-names (line.Coeff num den ∷ before) = earlier-names before

next_place : (n : ℕ) (b : Bool) (here whole : ℕ) → here ≡ min n whole → cond (not b) (1 + here) 0 ≡ min (suc n) (cond (not b) (1 + whole) 0)
next_place n true here whole is = omega arith
next_place n false here whole is = omega (arith, is)

-- the first place among the first elements
first-place : {X : Type 0} (p : X → Bool) (n : ℕ) (xs : List X) → position_or_len p (take n xs) ≡ min n (position_or_len p xs)
first-place p zero xs = omega arith
first-place p (suc n) [] = omega arith
first-place p (suc n) (x ∷ xs) = next_place n (p x) (position_or_len p (take n xs)) (position_or_len p xs) (first-place p n xs)

-- a place that is there, in numbers: a is the first place, or else the length n
record IsPlace (a n k : ℕ) : Type 0 where
  inside : a < n
  is : a ≡ k

place_at : (a n k : ℕ) → cond (nat_lt a n) (Some a) None ≡ Some k → IsPlace a n k
place_at a n k e = from (nat_lt a n) refl e
  where
    from : (b : Bool) → nat_lt a n ≡ b → cond b (Some a) None ≡ Some k → IsPlace a n k
    from true test e = record { inside = grind (arith, nat_tests); is = cc }
    from false test e = cc

no_place_at : (a n : ℕ) → cond (nat_lt a n) (Some a) None ≡ None → n ≤ a
no_place_at a n e = from (nat_lt a n) refl e
  where
    from : (b : Bool) → nat_lt a n ≡ b → cond b (Some a) None ≡ None → n ≤ a
    from true test e = cc
    from false test e = grind (arith, nat_tests)

module _ {X : Type 0} (p : X → Bool) (n : ℕ) (xs : List X) where
  pub first-none : position p xs ≡ None → position p (take n xs) ≡ None
  first-none none =
      let over : length xs ≤ position_or_len p xs = no_place_at (position_or_len p xs) (length xs) none in
      let past : nat_lt (position_or_len p (take n xs)) (length (take n xs)) ≡ false = grind (arith, nat_tests, over, first-place p n xs, length-take n xs) in
      ap (λ b. cond b (Some (position_or_len p (take n xs))) None) past

  pub first-past : (k : ℕ) → position p xs ≡ Some k → n ≤ k → position p (take n xs) ≡ None
  first-past k is above =
      let place : IsPlace (position_or_len p xs) (length xs) k = place_at (position_or_len p xs) (length xs) k is in
      let past : nat_lt (position_or_len p (take n xs)) (length (take n xs)) ≡ false = grind (arith, nat_tests, above, place.is, place.inside, first-place p n xs, length-take n xs) in
      ap (λ b. cond b (Some (position_or_len p (take n xs))) None) past

  pub first-within : (k : ℕ) → position p xs ≡ Some k → k < n → position p (take n xs) ≡ Some k
  first-within k is below =
      let place : IsPlace (position_or_len p xs) (length xs) k = place_at (position_or_len p xs) (length xs) k is in
      let within : nat_lt (position_or_len p (take n xs)) (length (take n xs)) ≡ true = grind (arith, nat_tests, below, place.is, place.inside, first-place p n xs, length-take n xs) in
      let same : position_or_len p (take n xs) ≡ k = omega (arith, below, place.is, first-place p n xs) in
      ap (λ b. cond b (Some (position_or_len p (take n xs))) None) within ∙ ap (λ m. Some m) same

-- the last depth, raised
pub raised-last : (depth : ℕ) (front : List ℕ) (last : ℕ) → last_raised depth (front ++ last ∷ []) ≡ front ++ max last depth ∷ []
raised-last depth [] last = refl
raised-last depth (a ∷ []) last = refl
raised-last depth (a ∷ b ∷ front) last = ap (λ l. a ∷ l) (raised-last depth (b ∷ front) last)

raised-low : (depth : ℕ) (depths : List ℕ) → depth ≤ 8 → ((k d : ℕ) → slice_get depths k ≡ Some d → d ≤ 8) → (k d : ℕ) → slice_get (last_raised depth depths) k ≡ Some d → d ≤ 8
raised-low depth [] low each k d at = cc
raised-low depth (last ∷ []) low each zero d at =
    let same : max last depth ≡ d = cc in
    let own : last ≤ 8 = each 0 last refl in
    omega (arith, same, own, low)
raised-low depth (last ∷ []) low each (suc k) d at = cc
raised-low depth (a ∷ b ∷ depths) low each zero d at = each 0 d at
raised-low depth (a ∷ b ∷ depths) low each (suc k) d at = raised-low depth (b ∷ depths) low (λ j e is. each (suc j) e is) k d at

pub AreDepths-first : (depths : List ℕ) → depths ≡ [] → AreDepths [] depths
AreDepths-first depths none = record { are = none; low = λ k depth at. absurd (nothing_at depths k depth none at) }

-- one more graph
pub AreDepths-graph : (name : List ℕ) (earlier : List Line) (depths depths' : List ℕ) → AreDepths earlier depths → depths' ≡ depths ++ 1 ∷ [] → AreDepths (line.Graph name ∷ earlier) depths'
AreDepths-graph name earlier depths depths' so_far more = record {
  are = more ∙ ap (λ l. l ++ 1 ∷ []) so_far.are;
  low = λ k depth at. ⊎_elim
      (λ (before : slice_get depths k ≡ Some depth). so_far.low k depth before)
      (λ (here : (k ≡ length depths) × (1 ≡ depth)). omega (arith, here.1))
      (at_push depths 1 k depth (ap (λ (l : List ℕ). slice_get l k) (sym more) ∙ at));
}

-- one more node
pub AreDepths-node : (name : List ℕ) (statement : Statement) (earlier : List Line) (depths depths' : List ℕ) (depth : ℕ) → AreDepths earlier depths → depth ≤ 8 → depth ≡ depth_over (earlier_names_in earlier) depths (called_by statement) → depths' ≡ last_raised depth depths → AreDepths (line.Node name statement ∷ earlier) depths'
AreDepths-node name statement earlier depths depths' depth so_far low is more = record {
  are = more ∙ ap (λ d. last_raised d depths) is ∙ ap (λ ds. last_raised (depth_over (earlier_names_in earlier) ds (called_by statement)) ds) so_far.are;
  low = λ k d at. raised-low depth depths low so_far.low k d (ap (λ (l : List ℕ). slice_get l k) (sym more) ∙ at);
}

-- whether a graph is among others
pub not-among : (graphs : List (List ℕ)) (graph : List ℕ) (found : Option ℕ) (none : Bool) → not none ≡ is_some found → found ≡ graph_named graphs graph → none ≡ not (list_any (λ other. bytes_eq other graph) graphs)
not-among graphs graph found none is same =
    flipped none (is_some found) is ∙ ap (λ o. not (is_some o)) same ∙ ap not (is_some-position (λ other. bytes_eq other graph) graphs)
  where
    flipped : (b c : Bool) → not b ≡ c → b ≡ not c
    flipped true c e = ap not e
    flipped false c e = ap not e
