-- Products of matrices, row by row.
use Rattle.std.proofs.Common.{◌≡◌, ℕ, ◌+◌, ◌-◌, ◌*◌, ◌%◌, ◌<◌, ◌≤◌, List, [], ◌∷◌, ◌++◌, All, length, take, drop, get_or, sym, ◌∙◌, ap, subst, arith}
use Rattle.std.proofs.Math.Nat.{zero-mul, mul-le-mul_right}
use Rattle.std.proofs.lemmas.List.{get_or-take, get_or-drop, length-take-le, length-drop, flat_map_more, map-id, take_all, length-append}
use Rattle.std.proofs.lemmas.List.Elements.{All-nil, All-append}
use Rattle.std.proofs.lemmas.List.FromFn.{fill_by_all, map-range_with_len_more, length-range_with_len, length-map-range_with_len}
use Rattle.std.proofs.lemmas.Slice.{take-put_mid}
use borrow.Rule.Slice.PartMut.{put_mid}
use Rattle.std.specs.List.{between, flat_map, range_with_len}
use Rattle.prime_field.proofs.Sums.{sum-same}
use Rattle.prime_field.specs.Sum.{sum_to}
use Rattle.basic_nodes.proofs.Plain.{remainders}
use Rattle.basic_nodes.specs.Plain.{product_entry, product_row, matrix_product}

-- one more piece for each of the first numbers
pub flat_map-range_more : (f : ℕ → List ℕ) (n : ℕ) → flat_map f (range_with_len 0 (n + 1)) ≡ flat_map f (range_with_len 0 n) ++ f n
flat_map-range_more f n =
    let numbers : range_with_len 0 (n + 1) ≡ range_with_len 0 n ++ n ∷ [] =
    sym (map-id (range_with_len 0 (n + 1))) ∙ map-range_with_len_more (λ k. k) 0 n n (omega arith)
    ∙ ap (λ t. t ++ n ∷ []) (map-id (range_with_len 0 n)) in
    ap (λ t. flat_map f t) numbers ∙ sym (flat_map_more f [] (range_with_len 0 n) n)

-- a list that has the entries of the product of a's part for row i with b is row i of the product
pub row_is : (m mid cols i : ℕ) (a b new : List ℕ) → (i + 1) * mid ≤ length a → length new ≡ cols →
    ((j : ℕ) → j < cols → get_or new j 0 ≡ sum_to (length (between (i * mid) ((i + 1) * mid) a))
    (λ k. get_or (between (i * mid) ((i + 1) * mid) a) k 0 * get_or b (k * cols + j) 0) % m) →
    new ≡ product_row m mid cols a b i
row_is m mid cols i a b new within same each =
    let rest : (i + 1) * mid - i * mid ≡ mid = omega arith in
    let count : length (between (i * mid) ((i + 1) * mid) a) ≡ mid =
    length-take-le ((i + 1) * mid - i * mid) (drop (i * mid) a) (omega (arith, length-drop (i * mid) a)) ∙ rest in
    fill_by_all (product_entry m mid cols a b i) new cols 0 same
    (λ j column.
    let part : ℕ → ℕ = λ k. get_or (between (i * mid) ((i + 1) * mid) a) k 0 * get_or b (k * cols + j) 0 in
    let whole : ℕ → ℕ = λ k. get_or a (i * mid + k) 0 * get_or b (k * cols + j) 0 in
    each j column ∙ ap (λ t. sum_to t part % m) count
    ∙ ap (λ t. t % m) (sum-same mid part whole
    (λ k few. ap (λ t. t * get_or b (k * cols + j) 0)
    (get_or-take ((i + 1) * mid - i * mid) (drop (i * mid) a) k 0 (omega arith) ∙ get_or-drop (i * mid) a k 0))))

-- one more row stands in the product
pub rows_more : (m rows mid cols i : ℕ) (a b out new : List ℕ) → i < rows → length a ≡ rows * mid → length out ≡ rows * cols →
    length new ≡ cols →
    ((j : ℕ) → j < cols → get_or new j 0 ≡ sum_to (length (between (i * mid) ((i + 1) * mid) a))
    (λ k. get_or (between (i * mid) ((i + 1) * mid) a) k 0 * get_or b (k * cols + j) 0) % m) →
    take (i * cols) out ≡ flat_map (product_row m mid cols a b) (range_with_len 0 i) →
    take ((i + 1) * cols) (put_mid (i * cols) ((i + 1) * cols - i * cols) out new)
    ≡ flat_map (product_row m mid cols a b) (range_with_len 0 (i + 1))
rows_more m rows mid cols i a b out new below size room same each before =
    let fits : (i + 1) * cols ≤ rows * cols = mul-le-mul_right {m = i + 1} {n = rows} cols (omega arith) in
    let row : new ≡ product_row m mid cols a b i =
    row_is m mid cols i a b new (omega (arith, mul-le-mul_right {m = i + 1} {n = rows} mid (omega arith))) same each in
    take-put_mid (i * cols) ((i + 1) * cols - i * cols) out new ((i + 1) * cols) (omega arith) (omega arith)
    ∙ ap (λ t. t ++ new) before
    ∙ ap (λ t. flat_map (product_row m mid cols a b) (range_with_len 0 i) ++ t) row
    ∙ sym (flat_map-range_more (product_row m mid cols a b) i)

-- once all rows stand there the whole list is the product
pub product_done : (m rows mid cols i : ℕ) (a b out : List ℕ) → length out ≡ rows * cols → i ≡ rows →
    take (i * cols) out ≡ flat_map (product_row m mid cols a b) (range_with_len 0 i) → out ≡ matrix_product m rows mid cols a b
product_done m rows mid cols i a b out room last before =
    sym (take_all (i * cols) out (omega (arith, ap (λ t. t * cols) last))) ∙ before
    ∙ ap (λ t. flat_map (product_row m mid cols a b) (range_with_len 0 t)) last

-- the rows of a product are made of residues
pub rows_residues : (m mid cols : ℕ) (a b : List ℕ) → 0 < m → (is : List ℕ) →
    All (λ x. x < m) (flat_map (product_row m mid cols a b) is)
rows_residues m mid cols a b above [] = All-nil (λ x. x < m)
rows_residues m mid cols a b above (i ∷ is) =
    All-append (λ x. x < m) (product_row m mid cols a b i) (flat_map (product_row m mid cols a b) is)
    (remainders m above (λ j. sum_to mid (λ k. get_or a (i * mid + k) 0 * get_or b (k * cols + j) 0)) (range_with_len 0 cols))
    (rows_residues m mid cols a b above is)

-- a list that is a product is made of residues
pub product_residues : (m rows mid cols : ℕ) (a b out : List ℕ) → 0 < m → out ≡ matrix_product m rows mid cols a b →
    All (λ x. x < m) out
product_residues m rows mid cols a b out above same =
    let P : List ℕ → Type 0 = λ xs. All (λ x. x < m) xs in
    subst P (sym same) (rows_residues m mid cols a b above (range_with_len 0 rows))

-- a product has as many entries as rows times columns
pub length-matrix_product : (m rows mid cols : ℕ) (a b : List ℕ) → length (matrix_product m rows mid cols a b) ≡ rows * cols
length-matrix_product m rows mid cols a b = each (range_with_len 0 rows) ∙ ap (λ t. t * cols) (length-range_with_len 0 rows)
  where
    each : (is : List ℕ) → length (flat_map (product_row m mid cols a b) is) ≡ length is * cols
    each [] = sym (zero-mul cols)
    each (i ∷ is) =
        length-append (product_row m mid cols a b i) (flat_map (product_row m mid cols a b) is)
        ∙ omega (arith, length-map-range_with_len (product_entry m mid cols a b i) 0 cols, each is)
