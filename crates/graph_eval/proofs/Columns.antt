-- Rows of numbers, columns of lists, and what stands in them.
use Rattle.std.proofs.Common.{◌≡◌, ◌≢◌, ℕ, zero, suc, ◌+◌, ◌*◌, ◌<◌, ◌≤◌, List, [], ◌∷◌, ◌++◌, All, length, map, drop, get_or, take, slice_index, refl, sym, ◌∙◌, ap, arith, inl, inr, length-append, length-drop, length-take-le, get_or-take}
use Rattle.std.proofs.lemmas.Bool.{cases_eq, cases_lt}
use Rattle.std.proofs.lemmas.List.{drop-append-le, ext_get_or, get_or-drop, length-map}
use Rattle.std.proofs.lemmas.List.Elements.{All-from_get_or, All-get_or, All-head, All-tail}
use Rattle.std.proofs.Math.ListN.{get_or-append}
use lib.Seq.{drop_at}
use Rattle.prime_field.specs.declared.Modulus.{Modulus}
use Rattle.prime_field.specs.declared.Modulus.TheVariants.{First, Second}
use Rattle.prime_field.specs.Modulus.{value_of}
use Rattle.univariate.specs.Univariate.{AreApart}
use Rattle.univariate.specs.Coefficients.{AreResidues}
use Rattle.univariate.proofs.Small.{near-apart}
use Rattle.laurent_node.specs.Expansion.{IsLeastExponent}
use Rattle.basic_nodes.specs.Plain.{chained}
use Rattle.graph_eval.specs.Expanded.{column, expansion_inputs, points_of, run_from, strided}
use Rattle.graph_eval.specs.declared.expansion.Window.{Window}
use Rattle.std.specs.Prelude.{◌^◌}

pub length-run : (first count : ℕ) → length (run_from first count) ≡ count
length-run first zero = refl
length-run first (suc count) = ap suc (length-run (first + 1) count)

-- there are points
pub some_inputs : (window : Window) (rest : List ℕ) → 0 < length (expansion_inputs window rest)
some_inputs window rest = omega (arith, length-map (points_of window) (λ point. point ∷ rest), length-run (2 ^ 40 + 1) (window.num + window.den + 3))

pub run_at : (first count i : ℕ) → i < count → get_or (run_from first count) i 0 ≡ first + i
run_at first zero i below = absurd (omega arith)
run_at first (suc count) zero below = omega arith
run_at first (suc count) (suc i) below = run_at (first + 1) count i (omega arith) ∙ (let moved : first + 1 + i ≡ first + suc i = omega arith in moved)

-- a list with these numbers in a row
pub run_is : (first : ℕ) (points : List ℕ) → ((i : ℕ) → i < length points → get_or points i 0 ≡ first + i) → points ≡ run_from first (length points)
run_is first points each =
    ext_get_or 0 points (run_from first (length points)) (sym (length-run first (length points))) (λ i below. each i below ∙ sym (run_at first (length points) i below))

pub take-run : (first n total : ℕ) → n ≤ total → take n (run_from first total) ≡ run_from first n
take-run first zero total within = refl
take-run first (suc n) zero within = absurd (omega arith)
take-run first (suc n) (suc total) within = ap (λ xs. first ∷ xs) (take-run (first + 1) n total (omega arith))

pub run-apart : (m : Modulus) (first count : ℕ) → count ≤ 131 → AreApart (value_of m) (length (run_from first count)) (slice_index (run_from first count))
run-apart m first count few =
    near-apart m (length (run_from first count)) (slice_index (run_from first count)) (λ i j before below.
    let low : j < count = omega (arith, length-run first count) in
    let here = run_at first count i (omega arith) in
    let there = run_at first count j low in
    (omega (arith, here, there), omega (arith, here, there)))

-- the entries of a list of residues, and those past its end
pub residues_at : (m : ℕ) (xs : List ℕ) → 0 < m → All (λ x. x < m) xs → AreResidues m xs
residues_at m xs large low k = elim (cases_lt k (length xs)) [
  | inl below ↦ All-get_or (λ x. x < m) xs k 0 below low
  | inr past ↦ past_end xs k past
]
  where
    past_end : (ys : List ℕ) (j : ℕ) → length ys ≤ j → get_or ys j 0 < m
    past_end [] j past = large
    past_end (y ∷ ys) zero past = absurd (omega arith)
    past_end (y ∷ ys) (suc j) past = past_end ys j (omega arith)

pub run-residues : (m first count : ℕ) → first + count ≤ m → 0 < m → AreResidues m (run_from first count)
run-residues m first count within large =
    residues_at m (run_from first count) large
    (All-from_get_or (λ x. x < m) (run_from first count) 0 (λ i below. omega (arith, run_at first count i (omega (arith, length-run first count)), length-run first count)))

pub length-strided : (words : List ℕ) (width k count : ℕ) → length (strided words width k count) ≡ count
length-strided words width k zero = refl
length-strided words width k (suc count) = ap suc (length-strided (drop width words) width k count)

pub strided_at : (words : List ℕ) (width k count i : ℕ) → i < count → get_or (strided words width k count) i 0 ≡ get_or words (i * width + k) 0
strided_at words width k zero i below = absurd (omega arith)
strided_at words width k (suc count) zero below = ap (λ n. get_or words n 0) (let none : k ≡ 0 * width + k = omega arith in none)
strided_at words width k (suc count) (suc i) below =
    strided_at (drop width words) width k count i (omega arith) ∙ get_or-drop width words (i * width + k) 0
    ∙ ap (λ n. get_or words n 0) (let moved : width + (i * width + k) ≡ suc i * width + k = grind arith in moved)

-- a list that begins with these entries
pub strided_is : (words : List ℕ) (width k count : ℕ) (xs : List ℕ) → count ≤ length xs → ((i : ℕ) → i < count → get_or xs i 0 ≡ get_or words (i * width + k) 0) → take count xs ≡ strided words width k count
strided_is words width k count xs enough each =
    let long = length-take-le count xs enough in
    ext_get_or 0 (take count xs) (strided words width k count) (long ∙ sym (length-strided words width k count)) (λ i below.
    get_or-take count xs i 0 (omega arith) ∙ each i (omega arith) ∙ sym (strided_at words width k count i (omega arith)))

-- more words behind them change nothing
pub strided_grown : (words more : List ℕ) (width k count : ℕ) → k < width → count * width ≤ length words → strided (words ++ more) width k count ≡ strided words width k count
strided_grown words more width k zero within there = refl
strided_grown words more width k (suc count) within there =
    let product : suc count * width ≡ count * width + width = grind arith in
    let first : get_or (words ++ more) k 0 ≡ get_or words k 0 = get_or-append words more 0 k (omega arith) in
    ap (λ x. x ∷ strided (drop width (words ++ more)) width k count) first
    ∙ ap (λ ws. get_or words k 0 ∷ strided ws width k count) (drop-append-le width words more (omega arith))
    ∙ ap (λ xs. get_or words k 0 ∷ xs) (strided_grown (drop width words) more width k count within (omega (arith, length-drop width words)))

-- lists of one width, one behind the other
pub strided_chained : (lists : List (List ℕ)) (width k : ℕ) → k < width → All (λ list. length list ≡ width) lists → strided (chained lists) width k (length lists) ≡ column k lists
strided_chained [] width k within even = refl
strided_chained (list ∷ lists) width k within even =
    let long : length list ≡ width = All-head (λ (l : List ℕ). length l ≡ width) list lists even in
    ap (λ x. x ∷ strided (drop width (list ++ chained lists)) width k (length lists)) (get_or-append list (chained lists) 0 k (omega (arith, long)))
    ∙ ap (λ ws. get_or list k 0 ∷ strided ws width k (length lists)) (drop_at list (chained lists) width long)
    ∙ ap (λ xs. get_or list k 0 ∷ xs) (strided_chained lists width k within (All-tail (λ (l : List ℕ). length l ≡ width) list lists even))

pub strided_low : (m : ℕ) (words : List ℕ) (width k count : ℕ) → 0 < m → All (λ x. x < m) words → All (λ x. x < m) (strided words width k count)
strided_low m words width k count large low =
    All-from_get_or (λ x. x < m) (strided words width k count) 0 (λ i below.
    let at = strided_at words width k count i (omega (arith, length-strided words width k count)) in
    omega (arith, at, residues_at m words large low (i * width + k)))

before_least : (a : ℕ) (p : List ℕ) (e : ℕ) → a ≡ 0 → ((j : ℕ) → j < e → slice_index p j ≡ 0) → (j : ℕ) → j < suc e → slice_index (a ∷ p) j ≡ 0
before_least a p e none before zero below = none
before_least a p e none before (suc j) below = before j (omega arith)

-- a polynomial with a coefficient other than 0 has a least exponent
pub least_exponent : (p : List ℕ) (k : ℕ) → slice_index p k ≢ 0 → (e : ℕ) × IsLeastExponent e p
least_exponent [] k some = absurd (some refl)
least_exponent (a ∷ p) zero some = (0, (some, λ j below. absurd (omega arith)))
least_exponent (a ∷ p) (suc k) some =
    let rest = least_exponent p k some in
    elim (cases_eq a 0) [
      | inl none ↦ (suc rest.0, (rest.1.0, λ j below. before_least a p rest.0 none rest.1.1 j below))
      | inr first ↦ (0, (first, λ j below. absurd (omega arith)))
    ]

-- each modulus is past all points
pub value_of-wide : (m : Modulus) → 2 ^ 41 ≤ value_of m
value_of-wide First = omega arith
value_of-wide Second = omega arith
