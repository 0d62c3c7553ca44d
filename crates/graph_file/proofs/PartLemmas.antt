-- Pairs of words, read one after the other.
use Rattle.std.proofs.Common.{◌≡◌, ◌<◌, ◌≤◌, ◌-◌, ◌==◌, ℕ, false, refl, sym, ap, ◌∙◌, List, [], ◌∷◌, ◌++◌, length, map, take, drop, get_or, Option, Some, None, option_map, arith}
use Rattle.std.specs.Borrow.{Bor}
use Rattle.std.proofs.Math.Seq.{take-length}
use Rattle.graph_file.specs.Line.{parts_of, part_before, size_of, sides_of, matmul_node, dense_node, laurent_node, sparse_node}
use Rattle.graph_file.proofs.AllOf.{onto, onto-cons}

abbrev texts : List (Bor (List ℕ)) → List (List ℕ)
texts words = map (λ word. word.now) words

-- the next two words are a part
pub parts-there : (whole : Option (List (List ℕ × ℕ))) (front new : List (List ℕ × ℕ)) (words : List (Bor (List ℕ))) (d : Bor (List ℕ)) (list : List ℕ) (position : ℕ) → whole ≡ onto front (parts_of (map (λ word. word.now) words)) → 2 ≤ length words → size_of (get_or words 1 d).now ≡ Some position → list ≡ (get_or words 0 d).now → new ≡ front ++ (list, position) ∷ [] → whole ≡ onto new (parts_of (map (λ word. word.now) (take (length words - 2) (drop 2 words))))
parts-there whole front new [] d list position so_far two there first grown = absurd (omega arith)
parts-there whole front new (a ∷ []) d list position so_far two there first grown = absurd (omega arith)
parts-there whole front new (a ∷ b ∷ later) d list position so_far two there first grown =
    let behind : take (length (a ∷ b ∷ later) - 2) (drop 2 (a ∷ b ∷ later)) ≡ later = ap (λ n. take n later) (let n : length (a ∷ b ∷ later) - 2 ≡ length later = omega arith in n) ∙ take-length later in
    so_far
    ∙ ap (λ o. onto front (Rattle.std.specs.Option.option_and_then (part_before a.now (parts_of (texts later))) o)) there
    ∙ ap (λ l. onto front (option_map (λ parts. (l, position) ∷ parts) (parts_of (texts later)))) (sym first)
    ∙ onto-cons front (list, position) (parts_of (texts later))
    ∙ ap (λ l. onto l (parts_of (texts later))) (sym grown)
    ∙ ap (λ l. onto new (parts_of (texts l))) (sym behind)

-- a word without a second one
pub parts-odd : (whole : Option (List (List ℕ × ℕ))) (front : List (List ℕ × ℕ)) (words : List (Bor (List ℕ))) → whole ≡ onto front (parts_of (map (λ word. word.now) words)) → length words < 2 → (length words == 0) ≡ false → None ≡ whole
parts-odd whole front [] so_far few some = cc
parts-odd whole front (a ∷ []) so_far few some = sym so_far
parts-odd whole front (a ∷ b ∷ later) so_far few some = absurd (omega arith)

-- words that are too few or too many for rows, middle and columns
pub sides-other : (words : List (Bor (List ℕ))) → (length words ≡ 3 → ⊥) → None ≡ sides_of (map (λ word. word.now) words)
sides-other [] other = refl
sides-other (a ∷ []) other = refl
sides-other (a ∷ b ∷ []) other = refl
sides-other (a ∷ b ∷ c ∷ []) other = absurd (other refl)
sides-other (a ∷ b ∷ c ∷ d ∷ later) other = refl

pub matmul-few : (words : List (Bor (List ℕ))) → length words < 2 → None ≡ matmul_node (map (λ word. word.now) words)
matmul-few [] few = refl
matmul-few (a ∷ []) few = refl
matmul-few (a ∷ b ∷ later) few = absurd (omega arith)

pub dense-few : (words : List (Bor (List ℕ))) → length words < 3 → None ≡ dense_node (map (λ word. word.now) words)
dense-few [] few = refl
dense-few (a ∷ []) few = refl
dense-few (a ∷ b ∷ []) few = refl
dense-few (a ∷ b ∷ c ∷ later) few = absurd (omega arith)

pub laurent-few : (words : List (Bor (List ℕ))) → length words < 5 → None ≡ laurent_node (map (λ word. word.now) words)
laurent-few [] few = refl
laurent-few (a ∷ []) few = refl
laurent-few (a ∷ b ∷ []) few = refl
laurent-few (a ∷ b ∷ c ∷ []) few = refl
laurent-few (a ∷ b ∷ c ∷ d ∷ []) few = refl
laurent-few (a ∷ b ∷ c ∷ d ∷ e ∷ later) few = absurd (omega arith)

pub sparse-few : (words : List (Bor (List ℕ))) → length words < 2 → None ≡ sparse_node (map (λ word. word.now) words)
sparse-few [] few = refl
sparse-few (a ∷ []) few = refl
sparse-few (a ∷ b ∷ later) few = absurd (omega arith)
