-- Lists that are written part after part.
use Rattle.std.proofs.Common.{◌≡◌, ℕ, ◌+◌, ◌-◌, ◌<◌, ◌≤◌, List, [], ◌∷◌, ◌++◌, All, length, map, take, drop, set, get_or, refl, sym, ◌∙◌, ap, add-one, arith}
use Rattle.std.specs.List.{flat_map}
use Rattle.std.proofs.lemmas.List.{take_more, get_or-take, get_or-drop, map-append, length-map, length-take}
use Rattle.std.proofs.lemmas.List.Elements.{All-nil, All-cons, All-drop, All-take}
use Rattle.std.proofs.lemmas.List.Folds.{length-flat_map-take}
use Rattle.std.proofs.lemmas.Slice.{take-put_mid}
use borrow.Rule.Slice.PartMut.{put_mid}
use Rattle.basic_nodes.specs.Plain.{taken, chained, summed, multiplied}
use Rattle.basic_nodes.proofs.Pieces.{taken-more, chained-more}
use Rattle.basic_nodes.proofs.Plain.{summed-one, summed-more, multiplied-one, multiplied-more}
use Rattle.graph_file.specs.declared.graph.Source.{Source}
use Rattle.graph_eval.specs.Reading.{placed, start_of, stop_of}

-- the lists of one part more
pub lists_more : {X Y : Type 0} (f : X → Y) (parts : List X) (i : ℕ) (d : X) → i < length parts → map f (take (i + 1) parts) ≡ map f (take i parts) ++ f (get_or parts i d) ∷ []
lists_more f parts i d below = ap (map f) (take_more parts i d below) ∙ map-append f (take i parts) (get_or parts i d ∷ [])

-- a list of one place, once it is written
pub one_place : (xs : List ℕ) (v : ℕ) → length xs ≡ 1 → set xs 0 v ≡ v ∷ []
one_place [] v one = absurd (omega arith)
one_place (x ∷ []) v one = refl
one_place (x ∷ y ∷ xs) v one = absurd (omega arith)

-- one entry more
pub taken_more : (list : Source → List ℕ) (parts : List (Source × ℕ)) (out new : List ℕ) (i k : ℕ) (d : Source × ℕ) → i < length parts → i ≤ length out
    → new ≡ get_or (list (get_or parts i d).0) ((get_or parts i d).1 - 1) 0 ∷ []
    → take i out ≡ taken (map (λ part. list part.0) (take i parts)) (map (λ part. part.1) (take i parts))
    → take (i + 1) (put_mid i k out new) ≡ taken (map (λ part. list part.0) (take (i + 1) parts)) (map (λ part. part.1) (take (i + 1) parts))
taken_more list parts out new i k d below room is so_far =
    let part = get_or parts i d in
    let lists = map (λ (p : Source × ℕ). list p.0) (take i parts) in
    let positions = map (λ (p : Source × ℕ). p.1) (take i parts) in
    let same : length positions ≡ length lists = length-map (take i parts) (λ p. p.1) ∙ sym (length-map (take i parts) (λ p. list p.0)) in
    take-put_mid i k out new (i + 1) (omega (arith, ap length is)) room
    ∙ ap (λ t. t ++ new) so_far
    ∙ ap (λ t. taken lists positions ++ t) is
    ∙ sym (taken-more lists positions (list part.0) part.1 same)
    ∙ ap (λ ls. taken ls (positions ++ part.1 ∷ [])) (sym (lists_more (λ p. list p.0) parts i d below))
    ∙ ap (λ ps. taken (map (λ p. list p.0) (take (i + 1) parts)) ps) (sym (lists_more (λ p. p.1) parts i d below))

chained_flat : {X : Type 0} (f : X → List ℕ) (xs : List X) → chained (map f xs) ≡ flat_map f xs
chained_flat f [] = refl
chained_flat f (x ∷ xs) = ap (λ t. f x ++ t) (chained_flat f xs)

-- the next list finds room
pub chained_room : {X : Type 0} (f : X → List ℕ) (xs : List X) (i : ℕ) (d : X) → i < length xs → length (chained (map f (take i xs))) + length (f (get_or xs i d)) ≤ length (chained (map f xs))
chained_room f xs i d below =
    omega (arith, length-flat_map-take f xs i d below, ap length (chained_flat f (take i xs)), ap length (chained_flat f xs))

-- one list more
pub chained_step : {X : Type 0} (f : X → List ℕ) (xs : List X) (i : ℕ) (d : X) → i < length xs → chained (map f (take (i + 1) xs)) ≡ chained (map f (take i xs)) ++ f (get_or xs i d)
chained_step f xs i d below = ap chained (lists_more f xs i d below) ∙ chained-more (map f (take i xs)) (f (get_or xs i d))

-- the first list is its own sum, and its own product
pub sum_first : {X : Type 0} (m : ℕ) (f : X → List ℕ) (parts : List X) (d : X) (new : List ℕ) → 0 < length parts → new ≡ f (get_or parts 0 d) → All (λ x. x < m) new → new ≡ summed m (map f (take 1 parts))
sum_first m f [] d new some is low = absurd (omega arith)
sum_first m f (first ∷ rest) d new some is low = sym (summed-one m new low) ∙ ap (λ xs. summed m (xs ∷ [])) is

pub product_first : {X : Type 0} (m : ℕ) (f : X → List ℕ) (parts : List X) (d : X) (new : List ℕ) → 0 < length parts → new ≡ f (get_or parts 0 d) → All (λ x. x < m) new → new ≡ multiplied m (map f (take 1 parts))
product_first m f [] d new some is low = absurd (omega arith)
product_first m f (first ∷ rest) d new some is low = sym (multiplied-one m new low) ∙ ap (λ xs. multiplied m (xs ∷ [])) is

-- one list more
pub sum_next : {X : Type 0} (m : ℕ) (f : X → List ℕ) (parts : List X) (i : ℕ) (d : X) (out new : List ℕ) → i + 1 < length parts → out ≡ summed m (map f (take (i + 1) parts))
    → new ≡ summed m (out ∷ f (get_or parts (i + 1) d) ∷ []) → new ≡ summed m (map f (take (i + 1 + 1) parts))
sum_next m f [] i d out new below so_far is = absurd (omega arith)
sum_next m f (first ∷ rest) i d out new below so_far is =
    let xs = f (get_or (first ∷ rest) (i + 1) d) in
    let front : take (i + 1) (first ∷ rest) ≡ first ∷ take i rest = ap (λ n. take n (first ∷ rest)) (add-one i) in
    is
    ∙ ap (λ o. summed m (o ∷ xs ∷ [])) (so_far ∙ ap (λ ps. summed m (map f ps)) front)
    ∙ summed-more m (f first) (map f (take i rest)) xs
    ∙ ap (λ ps. summed m (map f ps ++ xs ∷ [])) (sym front)
    ∙ ap (summed m) (sym (lists_more f (first ∷ rest) (i + 1) d below))

pub product_next : {X : Type 0} (m : ℕ) (f : X → List ℕ) (parts : List X) (i : ℕ) (d : X) (out new : List ℕ) → i + 1 < length parts → out ≡ multiplied m (map f (take (i + 1) parts))
    → new ≡ multiplied m (out ∷ f (get_or parts (i + 1) d) ∷ []) → new ≡ multiplied m (map f (take (i + 1 + 1) parts))
product_next m f [] i d out new below so_far is = absurd (omega arith)
product_next m f (first ∷ rest) i d out new below so_far is =
    let xs = f (get_or (first ∷ rest) (i + 1) d) in
    let front : take (i + 1) (first ∷ rest) ≡ first ∷ take i rest = ap (λ n. take n (first ∷ rest)) (add-one i) in
    is
    ∙ ap (λ o. multiplied m (o ∷ xs ∷ [])) (so_far ∙ ap (λ ps. multiplied m (map f ps)) front)
    ∙ multiplied-more m (f first) (map f (take i rest)) xs
    ∙ ap (λ ps. multiplied m (map f ps ++ xs ∷ [])) (sym front)
    ∙ ap (multiplied m) (sym (lists_more f (first ∷ rest) (i + 1) d below))

-- a place among the parts behind the first one
pub behind_below : {X : Type 0} (parts : List X) (i : ℕ) → i < length (take (length parts - 1) (drop 1 parts)) → i + 1 < length parts
behind_below parts i below = omega (arith, length-take (length parts - 1) (drop 1 parts))

-- the parts behind the first one
pub behind_first : {X : Type 0} (parts : List X) (i : ℕ) (d : X) → i < length (take (length parts - 1) (drop 1 parts)) → get_or (take (length parts - 1) (drop 1 parts)) i d ≡ get_or parts (i + 1) d
behind_first parts i d below =
    get_or-take (length parts - 1) (drop 1 parts) i d (omega (arith, behind_below parts i below)) ∙ get_or-drop 1 parts i d ∙ ap (λ n. get_or parts n d) (omega arith)

-- what a source names holds residues
pub placed_residues : (m : ℕ) (words places : List ℕ) (from : Source) → All (λ x. x < m) words → All (λ x. x < m) (placed words places from)
placed_residues m words places from low = All-take (λ x. x < m) (stop_of places from - start_of places from) (drop (start_of places from) words) (All-drop (λ x. x < m) (start_of places from) words low)

-- and so do all lists that parts name
pub parts_residues : {X : Type 0} (m : ℕ) (words places : List ℕ) (from : X → Source) (parts : List X) → All (λ x. x < m) words → All (λ list. All (λ x. x < m) list) (map (λ part. placed words places (from part)) parts)
parts_residues m words places from [] low = All-nil (λ list. All (λ x. x < m) list)
parts_residues m words places from (part ∷ parts) low =
    All-cons (λ list. All (λ x. x < m) list) _ _ (placed_residues m words places (from part) low) (parts_residues m words places from parts low)
