-- The degrees of a `bounds` line.
use Rattle.std.proofs.Common.{◌≡◌, ◌+◌, ℕ, zero, suc, refl, sym, ap, ◌∙◌, List, [], ◌∷◌, map, take, drop, Some, None, add-one}
use Rattle.graph_file.specs.Line.{both_degrees, degrees_of, degrees_pair, den_place}
use Rattle.graph_file.specs.declared.line.Degrees.{Degrees}

pub map_take : {X Y : Type 0} (f : X → Y) (n : ℕ) (xs : List X) → map f (take n xs) ≡ take n (map f xs)
map_take f zero [] = refl
map_take f zero (x ∷ xs) = refl
map_take f (suc n) [] = refl
map_take f (suc n) (x ∷ xs) = ap (λ l. f x ∷ l) (map_take f n xs)

pub map_drop : {X Y : Type 0} (f : X → Y) (n : ℕ) (xs : List X) → map f (drop n xs) ≡ drop n (map f xs)
map_drop f zero [] = refl
map_drop f zero (x ∷ xs) = refl
map_drop f (suc n) [] = refl
map_drop f (suc n) (x ∷ xs) = map_drop f n xs

drop_one : {X : Type 0} (n : ℕ) (xs : List X) → drop 1 (drop n xs) ≡ drop (suc n) xs
drop_one zero [] = refl
drop_one zero (x ∷ xs) = refl
drop_one (suc n) [] = refl
drop_one (suc n) (x ∷ xs) = drop_one n xs

pub behind : {X : Type 0} (n : ℕ) (xs : List X) → drop 1 (drop n xs) ≡ drop (n + 1) xs
behind n xs = drop_one n xs ∙ sym (ap (λ k. drop k xs) (add-one n))

pub no_num : (words : List (List ℕ)) → degrees_of (take (den_place words) words) ≡ None → None ≡ both_degrees words
unfolding both_degrees
no_num words none = sym (ap (λ o. degrees_pair o (degrees_of (drop (den_place words + 1) words))) none)

pub no_den : (words : List (List ℕ)) (num : Degrees) → degrees_of (take (den_place words) words) ≡ Some num → degrees_of (drop (den_place words + 1) words) ≡ None → None ≡ both_degrees words
unfolding both_degrees
no_den words num some none = sym (ap (λ o. degrees_pair o (degrees_of (drop (den_place words + 1) words))) some ∙ ap (degrees_pair (Some num)) none)

pub both_there : (words : List (List ℕ)) (num den : Degrees) → degrees_of (take (den_place words) words) ≡ Some num → degrees_of (drop (den_place words + 1) words) ≡ Some den → Some (num, den) ≡ both_degrees words
unfolding both_degrees
both_there words num den some other = sym (ap (λ o. degrees_pair o (degrees_of (drop (den_place words + 1) words))) some ∙ ap (degrees_pair (Some num)) other)
