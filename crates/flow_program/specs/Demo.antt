-- The file of the demo of size n: a system of n + 1 unknowns in a tower of n steps, from the step n down to the step 1. Step k
-- says that 2*k*m times one unknown is d - 2*k times the one before it, and stands 64 times with different factors.
use Rattle.std.specs.Prelude.{ℕ, ◌+◌, ◌-◌, ◌*◌, List, [], ◌∷◌, ◌++◌, codes}
use Rattle.std.specs.List.{flat_map, join_by, range_with_len}
use Rattle.std.specs.Fmt.{decimal}

-- the two entries of step k, times this factor
abbrev pub entries : ℕ → ℕ → List (List ℕ)
entries k factor = (decimal (2 * k * factor) ++ codes "*m") ∷ (codes "-" ++ decimal factor ++ codes "*(d-" ++ decimal (2 * k) ++ codes ")") ∷ []

-- those of step k with each of its factors, and those of all steps
abbrev pub step_entries : ℕ → List (List ℕ)
step_entries k = flat_map (entries k) (range_with_len 1 64)

abbrev pub all_entries : ℕ → List (List ℕ)
all_entries n = flat_map (λ place. step_entries (n - place)) (range_with_len 0 n)

-- the row of the step at this place, counted from 1, whose entries belong to two unknowns
abbrev pub row_line : ℕ → List ℕ
row_line place = codes "row " ++ decimal place ++ codes " " ++ decimal (place + 1)

-- a row for each factor, and the rows of all steps
abbrev pub step_rows : ℕ → List (List ℕ)
step_rows place = flat_map (λ factor. row_line place ∷ []) (range_with_len 1 64)

abbrev pub all_rows : ℕ → List (List ℕ)
all_rows n = flat_map (λ place. step_rows (place + 1)) (range_with_len 0 n)

-- the expressions of the entries, with ` ; ` between each two
abbrev pub expressions : ℕ → List ℕ
expressions n = join_by (λ entry. entry) (codes " ; ") (all_entries n)

abbrev pub bounds_line : ℕ → List ℕ
bounds_line n = codes "bounds all num " ++ decimal n ++ codes " " ++ decimal n ++ codes " 0 den " ++ decimal n ++ codes " 0 " ++ decimal n

-- the lines of the file
abbrev pub demo_lines : ℕ → List (List ℕ)
demo_lines n =
    codes "flow 1" ∷ codes "graph main" ∷ codes "input d m" ∷ (codes "node c eval input = " ++ expressions n) ∷ (codes "node s sparse c " ++ decimal (n + 1))
    ∷ all_rows n ++ codes "output s" ∷ bounds_line n ∷ []

-- each line ends with a line feed
abbrev pub ended_lines : List (List ℕ) → List ℕ
ended_lines lines = flat_map (λ line. line ++ codes "\n") lines

abbrev pub demo_bytes : ℕ → List ℕ
demo_bytes n = ended_lines (demo_lines n)

-- texts with ` ; ` before each
abbrev pub separated : List (List ℕ) → List ℕ
separated texts = flat_map (λ text. codes " ; " ++ text) texts
