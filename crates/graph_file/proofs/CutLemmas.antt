-- Places in a list of bytes, and the pieces between them.
use Rattle.std.proofs.Common.{◌≡◌, ◌<◌, ◌≤◌, ◌+◌, ◌-◌, ℕ, Bool, true, false, cond, refl, ap, ◌∙◌, List, [], ◌∷◌, length, take, drop, map, arith, Some, None, unwrap_or, nat_lt, not}
use Rattle.std.specs.List.{position, position_or_len, slice_split}
use Rattle.std.proofs.lemmas.List.{length-drop}
use Rattle.std.proofs.lemmas.List.Sums.{prefix_len-le-length, fails_before_first}
use Rattle.std.proofs.lemmas.List.Splits.{slice_split_first, slice_split_none}
use Rattle.std.proofs.lemmas.Bool.Decides.{nat_tests}
use Rattle.std.proofs.Math.Seq.{take-length}
use Rattle.ratfun_text.specs.Bytes.{is_blank, trim_start}
use Rattle.graph_file.specs.Lines.{after_word, from_blank}

-- all that stands from a place on
pub take-drop : (i : ℕ) (xs : List ℕ) → take (length xs - i) (drop i xs) ≡ drop i xs
take-drop i xs = rw (← length-drop i xs) (take-length (drop i xs))

from_test : (b : Bool) (n m : ℕ) → nat_lt n m ≡ b → n ≤ m → unwrap_or (cond b (Some n) None) m ≡ n
from_test true n m test within = refl
from_test false n m test within = grind (arith, nat_tests)

pub unwrap_or-position : {X : Type 0} (p : X → Bool) (xs : List X) → unwrap_or (position p xs) (length xs) ≡ position_or_len p xs
unwrap_or-position p xs = from_test _ (position_or_len p xs) (length xs) refl (prefix_len-le-length _ xs)

place_from : (b : Bool) (n m k : ℕ) → nat_lt n m ≡ b → cond b (Some n) None ≡ Some k → (k ≡ n) × (n < m)
place_from true n m k test found = (cc, grind (arith, nat_tests))
place_from false n m k test found = cc

pub place : (p : ℕ → Bool) (xs : List ℕ) (k : ℕ) → position p xs ≡ Some k → (k ≡ position_or_len p xs) × (position_or_len p xs < length xs)
place p xs k found = place_from _ (position_or_len p xs) (length xs) k refl found

-- a place that isn't there is the list's length
no_place_from : (b : Bool) (n m : ℕ) → nat_lt n m ≡ b → n ≤ m → cond b (Some n) None ≡ None → n ≡ m
no_place_from true n m test within none = cc
no_place_from false n m test within none = grind (arith, nat_tests)

pub slice_split-no_place : (p : ℕ → Bool) (xs : List ℕ) → position p xs ≡ None → slice_split p xs ≡ xs ∷ []
slice_split-no_place p xs none =
    let whole : position_or_len p xs ≡ length xs = no_place_from _ _ _ refl (prefix_len-le-length _ xs) none in
    slice_split_none p xs (λ k d within. fails_before_first p xs k d (rw whole within))

pub slice_split-place : (p : ℕ → Bool) (xs : List ℕ) (k : ℕ) → position p xs ≡ Some k → slice_split p xs ≡ take k xs ∷ slice_split p (drop (k + 1) xs)
slice_split-place p xs k found =
    let at : (k ≡ position_or_len p xs) × (position_or_len p xs < length xs) = place p xs k found in
    rw at.0 (slice_split_first p xs 0 at.1)

pub size_behind-place : (p : ℕ → Bool) (xs : List ℕ) (k : ℕ) → position p xs ≡ Some k → length (take (length xs - (k + 1)) (drop (k + 1) xs)) + 1 ≤ length xs
size_behind-place p xs k found =
    let at : (k ≡ position_or_len p xs) × (position_or_len p xs < length xs) = place p xs k found in
    let within : k < length xs = omega (arith, at.0, at.1) in
    omega (arith, ap length (take-drop (k + 1) xs), length-drop (k + 1) xs)

-- what stands from the end of the first word on, found in two steps
pub after_word-is : (line from : List ℕ) (start end : ℕ) → start ≡ position_or_len (λ byte. not (is_blank byte)) line → from ≡ drop start line → end ≡ position_or_len is_blank from → take (length from - end) (drop end from) ≡ after_word line
after_word-is line from start end starts cut ends =
    let same : from ≡ trim_start line = cut ∙ ap (λ k. drop k line) starts in
    take-drop end from ∙ ap (λ k. drop k from) ends ∙ ap from_blank same

-- the place of an element that was made of another
pub position_or_len-map : {X Y : Type 0} (test : Y → Bool) (f : X → Y) (xs : List X) → position_or_len (λ x. test (f x)) xs ≡ position_or_len test (map f xs)
position_or_len-map test f [] = refl
position_or_len-map test f (x ∷ xs) = ap (λ n. cond (not (test (f x))) (1 + n) 0) (position_or_len-map test f xs)
