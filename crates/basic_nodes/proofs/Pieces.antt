-- Laws of lists that are picked or joined from others: how they grow by one list, their lengths, their residues.
use Rattle.std.proofs.Common.{◌≡◌, ℕ, suc, ◌+◌, ◌-◌, ◌<◌, ◌≤◌, List, [], ◌∷◌, ◌++◌, All, length, map, take, drop, get_or, sum, inl, inr, refl, sym, ◌∙◌, ap, arith}
use Rattle.std.proofs.lemmas.List.{append-nil, length-take-le, length-drop, length-append, take_at, get_or_past}
use Rattle.std.proofs.lemmas.List.Elements.{All-nil, All-cons, All-head, All-tail, All-append, All-take, All-drop, All-get_or}
use Rattle.std.proofs.lemmas.Bool.{cases_lt}
use Rattle.std.proofs.lemmas.List.Concat.{concat_is, length-flat_map}
use Rattle.std.proofs.lemmas.List.Folds.{concat-append}
use Rattle.std.proofs.lemmas.List.Sums.{sum-map}
use Rattle.basic_nodes.specs.Plain.{taken, sliced, chained}

-- one list more, with its position
pub taken-more : (lists : List (List ℕ)) (positions xs : List ℕ) (position : ℕ) → length positions ≡ length lists →
    taken (lists ++ xs ∷ []) (positions ++ position ∷ []) ≡ taken lists positions ++ get_or xs (position - 1) 0 ∷ []
taken-more [] [] xs position same = refl
taken-more [] (p ∷ positions) xs position same = absurd (omega arith)
taken-more (ys ∷ lists) [] xs position same = absurd (omega arith)
taken-more (ys ∷ lists) (p ∷ positions) xs position same =
    ap (λ t. get_or ys (p - 1) 0 ∷ t) (taken-more lists positions xs position (omega arith))

-- as many entries as lists
pub length-taken : (lists : List (List ℕ)) (positions : List ℕ) → length positions ≡ length lists →
    length (taken lists positions) ≡ length positions
length-taken [] [] same = refl
length-taken [] (p ∷ positions) same = absurd (omega arith)
length-taken (ys ∷ lists) [] same = absurd (omega arith)
length-taken (ys ∷ lists) (p ∷ positions) same = ap suc (length-taken lists positions (omega arith))

-- from the first position to the last
pub length-sliced : (first last : ℕ) (xs : List ℕ) → 1 ≤ first → first ≤ last → last ≤ length xs →
    length (sliced first last xs) ≡ last + 1 - first
length-sliced first last xs low order within =
    length-take-le (last + 1 - first) (drop (first - 1) xs) (omega (arith, length-drop (first - 1) xs))

-- one list more
pub chained-more : (lists : List (List ℕ)) (xs : List ℕ) → chained (lists ++ xs ∷ []) ≡ chained lists ++ xs
chained-more lists xs = concat-append lists (xs ∷ []) ∙ ap (λ t. chained lists ++ t) (append-nil xs)

-- as many entries as the lists have together
pub length-chained : (lists : List (List ℕ)) → length (chained lists) ≡ sum (map (λ xs. length xs) lists)
length-chained lists =
    ap (λ (t : List ℕ). length t) (concat_is lists) ∙ length-flat_map (λ xs. xs) lists ∙ sym (sum-map (λ xs. length xs) lists)

-- the front of a list that a chain has been written to, once the next list stands behind it
pub chain_more : (out front xs : List ℕ) (at : ℕ) → at + length xs ≤ length out → take at out ≡ front →
    take (at + length xs) (take at out ++ xs ++ drop (at + length xs) out) ≡ front ++ xs
chain_more out front xs at room before =
    take_at (take at out ++ xs) (drop (at + length xs) out) (at + length xs)
    (length-append (take at out) xs ∙ ap (λ t. t + length xs) (length-take-le at out (omega arith)))
    ∙ ap (λ t. t ++ xs) before

-- entries of lists of residues are residues
pub chained_residues : (m : ℕ) (lists : List (List ℕ)) → All (λ xs. All (λ x. x < m) xs) lists → All (λ x. x < m) (chained lists)
chained_residues m [] low = All-nil (λ x. x < m)
chained_residues m (xs ∷ lists) low =
    All-append (λ x. x < m) xs (chained lists) (All-head (λ xs. All (λ x. x < m) xs) xs lists low)
    (chained_residues m lists (All-tail (λ xs. All (λ x. x < m) xs) xs lists low))

pub taken_residues : (m : ℕ) (lists : List (List ℕ)) (positions : List ℕ) → 0 < m → All (λ xs. All (λ x. x < m) xs) lists →
    All (λ x. x < m) (taken lists positions)
taken_residues m [] positions above low = All-nil (λ x. x < m)
taken_residues m (xs ∷ lists) [] above low = All-nil (λ x. x < m)
taken_residues m (xs ∷ lists) (p ∷ positions) above low =
    All-cons (λ x. x < m) (get_or xs (p - 1) 0) (taken lists positions)
    (entry xs (p - 1) (All-head (λ xs. All (λ x. x < m) xs) xs lists low))
    (taken_residues m lists positions above (All-tail (λ xs. All (λ x. x < m) xs) xs lists low))
  where
    entry : (xs : List ℕ) (k : ℕ) → All (λ x. x < m) xs → get_or xs k 0 < m
    entry xs k each =
        elim (cases_lt k (length xs)) [
          | inl below ↦ All-get_or (λ x. x < m) xs k 0 below each
          | inr past ↦ rw (get_or_past xs k 0 past) above
        ]

pub sliced_residues : (m first last : ℕ) (xs : List ℕ) → All (λ x. x < m) xs → All (λ x. x < m) (sliced first last xs)
sliced_residues m first last xs low =
    All-take (λ x. x < m) (last + 1 - first) (drop (first - 1) xs) (All-drop (λ x. x < m) (first - 1) xs low)
