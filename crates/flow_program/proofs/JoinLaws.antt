-- Pieces that are joined by a byte.
use Rattle.std.proofs.Common.{◌≡◌, ℕ, ◌≤◌, List, [], ◌∷◌, ◌++◌, length, get_or, drop, map, take, ◌-◌, ◌∙◌, sym, ap, append-nil, arith}
use Rattle.std.proofs.lemmas.List.{take_rest}
use Rattle.std.specs.List.{flat_map, join_with_byte}

joined : {A : Type 0} (c : ℕ) (f : A → List ℕ) (x : A) (xs : List A) → join_with_byte c (map f (x ∷ xs)) ≡ f x ++ flat_map (λ y. c ∷ f y) xs
joined c f x [] = sym (append-nil (f x))
joined c f x (y ∷ ys) = ap (λ t. f x ++ (c ∷ t)) (joined c f y ys)

-- the first piece, and each further one behind the byte
pub joined_at : (c : ℕ) (f : ℕ → List ℕ) (xs : List ℕ) → 1 ≤ length xs → join_with_byte c (map f xs) ≡ f (get_or xs 0 0) ++ flat_map (λ y. c ∷ f y) (take (length xs - 1) (drop 1 xs))
joined_at c f [] some = absurd (omega arith)
joined_at c f (x ∷ xs) some = joined c f x xs ∙ ap (λ ys. f x ++ flat_map (λ y. c ∷ f y) ys) (sym (take_rest (x ∷ xs) 1))
