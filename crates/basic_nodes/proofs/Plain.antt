-- Laws of the values of plain nodes: their residues, their lengths, and how they grow by one list at the end.
use Rattle.std.proofs.Common.{◌≡◌, ℕ, ◌+◌, ◌*◌, ◌%◌, ◌<◌, List, [], ◌∷◌, ◌++◌, All, length, map, get_or, replicate, refl, sym, ◌∙◌, ap, zero-add, arith}
use Rattle.std.proofs.Math.Nat.{mod-add-mod, mod-eq_of_lt, one-mul}
use Rattle.std.proofs.lemmas.List.{length-replicate, get_or-replicate}
use Rattle.std.specs.List.{range_with_len}
use Rattle.std.proofs.lemmas.List.Elements.{All-nil, All-cons, All-get_or}
use Rattle.std.proofs.lemmas.List.FromFn.{fill_by_all, length-map-range_with_len, get_or-map-range_with_len}
use Rattle.std.proofs.lemmas.List.Sums.{sum_by_push, sum_by-cons, fold_push}
use Rattle.std.proofs.lemmas.Nat.{mod_below, mul-mod_first}
use Rattle.basic_nodes.specs.Plain.{summed, multiplied, sum_at, product_at}

-- remainders by m are residues
pub remainders : (m : ℕ) → 0 < m → (f : ℕ → ℕ) (ks : List ℕ) → All (λ x. x < m) (map (λ k. f k % m) ks)
remainders m above f [] = All-nil (λ x. x < m)
remainders m above f (k ∷ ks) =
    All-cons (λ x. x < m) (f k % m) (map (λ k. f k % m) ks) (mod_below (f k) m above) (remainders m above f ks)

-- sums and products of lists have residues alone
pub summed_residues : (m : ℕ) → 0 < m → (lists : List (List ℕ)) → All (λ x. x < m) (summed m lists)
summed_residues m above [] = All-nil (λ x. x < m)
summed_residues m above (first ∷ rest) = remainders m above (λ k. sum_at k (first ∷ rest)) (range_with_len 0 (length first))

pub multiplied_residues : (m : ℕ) → 0 < m → (lists : List (List ℕ)) → All (λ x. x < m) (multiplied m lists)
multiplied_residues m above [] = All-nil (λ x. x < m)
multiplied_residues m above (first ∷ rest) = remainders m above (λ k. product_at k (first ∷ rest)) (range_with_len 0 (length first))

-- and as many as the first list
pub length-summed : (m : ℕ) (first : List ℕ) (rest : List (List ℕ)) → length (summed m (first ∷ rest)) ≡ length first
length-summed m first rest = length-map-range_with_len (λ k. sum_at k (first ∷ rest) % m) 0 (length first)

pub length-multiplied : (m : ℕ) (first : List ℕ) (rest : List (List ℕ)) → length (multiplied m (first ∷ rest)) ≡ length first
length-multiplied m first rest = length-map-range_with_len (λ k. product_at k (first ∷ rest) % m) 0 (length first)

-- two lists
pub summed-two : (m : ℕ) (old xs new : List ℕ) → length new ≡ length old →
    ((k : ℕ) → k < length old → get_or new k 0 ≡ (get_or old k 0 + get_or xs k 0) % m) → new ≡ summed m (old ∷ xs ∷ [])
summed-two m old xs new same each =
    fill_by_all (λ k. sum_at k (old ∷ xs ∷ []) % m) new (length old) 0 same
    (λ k low. each k low ∙ ap (λ t. t % m) (omega arith))

pub multiplied-two : (m : ℕ) (old xs new : List ℕ) → length new ≡ length old →
    ((k : ℕ) → k < length old → get_or new k 0 ≡ (get_or old k 0 * get_or xs k 0) % m) → new ≡ multiplied m (old ∷ xs ∷ [])
multiplied-two m old xs new same each =
    fill_by_all (λ k. product_at k (old ∷ xs ∷ []) % m) new (length old) 0 same
    (λ k low. each k low ∙ ap (λ t. t % m) (omega arith))

-- one list of residues
pub summed-one : (m : ℕ) (xs : List ℕ) → All (λ x. x < m) xs → summed m (xs ∷ []) ≡ xs
summed-one m xs low =
    sym (fill_by_all (λ k. sum_at k (xs ∷ []) % m) xs (length xs) 0 refl
    (λ k below. sym (ap (λ t. t % m) (zero-add (get_or xs k 0)) ∙ mod-eq_of_lt (All-get_or (λ x. x < m) xs k 0 below low))))

pub multiplied-one : (m : ℕ) (xs : List ℕ) → All (λ x. x < m) xs → multiplied m (xs ∷ []) ≡ xs
multiplied-one m xs low =
    sym (fill_by_all (λ k. product_at k (xs ∷ []) % m) xs (length xs) 0 refl
    (λ k below. sym (ap (λ t. t % m) (one-mul (get_or xs k 0)) ∙ mod-eq_of_lt (All-get_or (λ x. x < m) xs k 0 below low))))

-- one list more, added to the sum of those before it
pub summed-more : (m : ℕ) (first : List ℕ) (rest : List (List ℕ)) (xs : List ℕ) →
    summed m (summed m (first ∷ rest) ∷ xs ∷ []) ≡ summed m (first ∷ (rest ++ xs ∷ []))
summed-more m first rest xs =
    let before : ℕ → ℕ = λ k. sum_at k (first ∷ rest) % m in
    let size : length (summed m (first ∷ rest)) ≡ length first = length-map-range_with_len before 0 (length first) in
    fill_by_all (λ k. sum_at k (first ∷ (rest ++ xs ∷ [])) % m) (summed m (summed m (first ∷ rest) ∷ xs ∷ [])) (length first) 0
    (length-map-range_with_len (λ k. sum_at k (summed m (first ∷ rest) ∷ xs ∷ []) % m) 0 (length (summed m (first ∷ rest))) ∙ size)
    (λ k below.
    get_or-map-range_with_len (λ k. sum_at k (summed m (first ∷ rest) ∷ xs ∷ []) % m) 0 (length (summed m (first ∷ rest))) k k 0
    (omega arith) (omega arith)
    ∙ ap (λ t. (0 + t + get_or xs k 0) % m) (get_or-map-range_with_len before 0 (length first) k k 0 below (omega arith))
    ∙ ap (λ t. (t + get_or xs k 0) % m) (zero-add (before k))
    ∙ mod-add-mod (sum_at k (first ∷ rest)) m (get_or xs k 0)
    ∙ ap (λ t. t % m) (sym (sum_by_push (λ ys. get_or ys k 0) (first ∷ rest) xs)))

pub multiplied-more : (m : ℕ) (first : List ℕ) (rest : List (List ℕ)) (xs : List ℕ) →
    multiplied m (multiplied m (first ∷ rest) ∷ xs ∷ []) ≡ multiplied m (first ∷ (rest ++ xs ∷ []))
multiplied-more m first rest xs =
    let before : ℕ → ℕ = λ k. product_at k (first ∷ rest) % m in
    let size : length (multiplied m (first ∷ rest)) ≡ length first = length-map-range_with_len before 0 (length first) in
    fill_by_all (λ k. product_at k (first ∷ (rest ++ xs ∷ [])) % m) (multiplied m (multiplied m (first ∷ rest) ∷ xs ∷ [])) (length first) 0
    (length-map-range_with_len (λ k. product_at k (multiplied m (first ∷ rest) ∷ xs ∷ []) % m) 0 (length (multiplied m (first ∷ rest))) ∙ size)
    (λ k below.
    get_or-map-range_with_len (λ k. product_at k (multiplied m (first ∷ rest) ∷ xs ∷ []) % m) 0 (length (multiplied m (first ∷ rest))) k k 0
    (omega arith) (omega arith)
    ∙ ap (λ t. (1 * t * get_or xs k 0) % m) (get_or-map-range_with_len before 0 (length first) k k 0 below (omega arith))
    ∙ ap (λ t. (t * get_or xs k 0) % m) (one-mul (before k))
    ∙ mul-mod_first (product_at k (first ∷ rest)) (get_or xs k 0) m
    ∙ ap (λ t. t % m) (sym (fold_push (λ product ys. product * get_or ys k 0) 1 (first ∷ rest) xs)))

-- a list of zeros before the others adds nothing
pub summed-zeros : (m : ℕ) (first : List ℕ) (rest : List (List ℕ)) →
    summed m (replicate (length first) 0 ∷ first ∷ rest) ≡ summed m (first ∷ rest)
summed-zeros m first rest =
    let zeros : List ℕ = replicate (length first) 0 in
    fill_by_all (λ k. sum_at k (first ∷ rest) % m) (summed m (zeros ∷ first ∷ rest)) (length first) 0
    (length-summed m zeros (first ∷ rest) ∙ length-replicate {A = ℕ} (length first) 0)
    (λ k below.
    get_or-map-range_with_len (λ k. sum_at k (zeros ∷ first ∷ rest) % m) 0 (length zeros) k k 0
    (omega (arith, length-replicate {A = ℕ} (length first) 0)) (omega arith)
    ∙ ap (λ t. t % m) (sum_by-cons (λ xs. get_or xs k 0) zeros (first ∷ rest)
    ∙ ap (λ t. t + sum_at k (first ∷ rest)) (get_or-replicate (length first) k 0 0 below)
    ∙ zero-add (sum_at k (first ∷ rest))))
