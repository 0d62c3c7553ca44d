-- Lists that are written place after place.
use Rattle.std.proofs.Common.{◌≡◌, ℕ, ◌+◌, ◌<◌, List, [], ◌∷◌, ◌++◌, All, Option, Some, length, map, take, get_or, set, sym, ap, ◌∙◌}
use Rattle.std.proofs.lemmas.List.{take_more, take_more_set, map-append}
use Rattle.std.proofs.lemmas.List.Elements.{All-push, All-same}

-- the values of one more of the expressions, the last of which is written
pub values_more : {X : Type 0} (ask : X → Option ℕ) (xs : List X) (out : List ℕ) (i v : ℕ) (d : X) → i < length xs → i < length out → map ask (take i xs) ≡ map Some (take i out) → ask (get_or xs i d) ≡ Some v
    → map ask (take (i + 1) xs) ≡ map Some (take (i + 1) (set out i v))
values_more ask xs out i v d below room so_far is =
    ap (map ask) (take_more xs i d below) ∙ map-append ask (take i xs) (get_or xs i d ∷ []) ∙ ap (λ front. front ++ ask (get_or xs i d) ∷ []) so_far ∙ ap (λ o. map Some (take i out) ++ o ∷ []) is
    ∙ sym (map-append Some (take i out) (v ∷ [])) ∙ ap (map Some) (sym (take_more_set out i v room))

pub residues_more : (m : ℕ) (out : List ℕ) (i v : ℕ) → i < length out → All (λ x. x < m) (take i out) → v < m → All (λ x. x < m) (take (i + 1) (set out i v))
residues_more m out i v room so_far is = All-same (λ x. x < m) _ _ (take_more_set out i v room) (All-push (λ x. x < m) (take i out) v so_far is)
