-- What the plain nodes of a graph give, as whole lists: formulas over numbers, with at most one remainder by m outside.
use Rattle.std.specs.Prelude.{ℕ, ◌+◌, ◌-◌, ◌*◌, ◌%◌, List, [], ◌∷◌, length, map, fold, take, drop, slice_index}
use Rattle.std.specs.List.{range_with_len, flat_map, sum_by, concat}
use Rattle.prime_field.specs.Sum.{sum_to}

-- of each list the entry at the position beside it, counted from 1
abbrev pub taken : List (List ℕ) → List ℕ → List ℕ
taken [] positions = []
taken (xs ∷ lists) [] = []
taken (xs ∷ lists) (position ∷ positions) = slice_index xs (position - 1) ∷ taken lists positions

-- the entries from the position first to the position last, counted from 1
abbrev pub sliced : ℕ → ℕ → List ℕ → List ℕ
sliced first last xs = take (last + 1 - first) (drop (first - 1) xs)

-- the lists one after the other
abbrev pub chained : List (List ℕ) → List ℕ
chained lists = concat lists

-- the sum of the lists' entries at the place k
abbrev pub sum_at : ℕ → List (List ℕ) → ℕ
sum_at k lists = sum_by (λ xs. slice_index xs k) lists

-- the product of the lists' entries at the place k
abbrev pub product_at : ℕ → List (List ℕ) → ℕ
product_at k lists = fold (λ product xs. product * slice_index xs k) 1 lists

-- the sum of lists of one length, entry by entry
abbrev pub summed : ℕ → List (List ℕ) → List ℕ
summed m [] = []
summed m (first ∷ rest) = map (λ k. sum_at k (first ∷ rest) % m) (range_with_len 0 (length first))

-- the product of lists of one length, entry by entry
abbrev pub multiplied : ℕ → List (List ℕ) → List ℕ
multiplied m [] = []
multiplied m (first ∷ rest) = map (λ k. product_at k (first ∷ rest) % m) (range_with_len 0 (length first))

-- the entry in row i and column j of the product of a, whose rows have mid entries, with b, whose rows have cols
abbrev pub product_entry : (m mid cols : ℕ) (a b : List ℕ) → ℕ → ℕ → ℕ
product_entry m mid cols a b i j = sum_to mid (λ k. slice_index a (i * mid + k) * slice_index b (k * cols + j)) % m

-- row i of that product
abbrev pub product_row : (m mid cols : ℕ) (a b : List ℕ) → ℕ → List ℕ
product_row m mid cols a b i = map (product_entry m mid cols a b i) (range_with_len 0 cols)

-- the product of two matrices, row after row
abbrev pub matrix_product : (m rows mid cols : ℕ) (a b : List ℕ) → List ℕ
matrix_product m rows mid cols a b = flat_map (product_row m mid cols a b) (range_with_len 0 rows)
