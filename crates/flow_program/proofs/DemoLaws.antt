-- The file of the demo, piece by piece.
use Rattle.std.proofs.Common.{◌≡◌, ℕ, zero, suc, ◌+◌, ◌-◌, ◌*◌, ◌<◌, ◌≤◌, List, [], ◌∷◌, ◌++◌, length, drop, refl, sym, ◌∙◌, ap, subst, arith, append_assoc, append-nil}
use Rattle.std.specs.Prelude.{codes, take}
use Rattle.std.proofs.lemmas.List.{length-drop, take_all}
use Rattle.std.specs.Fmt.{decimal}
use Rattle.std.specs.List.{flat_map, range_with_len}
use Rattle.std.proofs.lemmas.List.Concat.{flat_map-append}
use Rattle.flow_program.specs.Demo.{all_entries, all_rows, bounds_line, demo_bytes, ended_lines, entries, expressions, row_line, separated, step_entries, step_rows}

-- what stands for the numbers from a on, up to a limit: what stands for a, and for those behind it
counted_next : {A : Type 0} (f : ℕ → List A) (a limit : ℕ) → a < limit → flat_map f (range_with_len a (limit - a)) ≡ f a ++ flat_map f (range_with_len (a + 1) (limit - (a + 1)))
counted_next f a limit low = let more : limit - a ≡ suc (limit - (a + 1)) = omega arith in ap (λ n. flat_map f (range_with_len a n)) more

-- what is written for a number makes no change to what would be there with all that is left
pub step_on : (f : ℕ → List ℕ) (a limit : ℕ) (old new all : List ℕ) → a < limit → new ≡ old ++ f a → old ++ flat_map f (range_with_len a (limit - a)) ≡ all → new ++ flat_map f (range_with_len (a + 1) (limit - (a + 1))) ≡ all
step_on f a limit old new all low is before =
    let rest = flat_map f (range_with_len (a + 1) (limit - (a + 1))) in
    ap (λ (t : List ℕ). t ++ rest) is ∙ append_assoc old (f a) rest ∙ ap (λ (t : List ℕ). old ++ t) (sym (counted_next f a limit low)) ∙ before

-- nothing is left at the limit
pub all_done : (f : ℕ → List ℕ) (a limit : ℕ) (text all : List ℕ) → limit ≤ a → text ++ flat_map f (range_with_len a (limit - a)) ≡ all → text ≡ all
all_done f a limit text all high is =
    let none : limit - a ≡ 0 = omega arith in
    sym (append-nil text) ∙ sym (ap (λ n. text ++ flat_map f (range_with_len a n)) none) ∙ is

-- two entries, with a separator before each
pair_is : (k factor : ℕ) → codes " ; " ++ (decimal (2 * k * factor) ++ (codes "*m ; -" ++ (decimal factor ++ (codes "*(d-" ++ (decimal (2 * k) ++ codes ")"))))) ≡ separated (entries k factor)
pair_is k factor =
    let scale = decimal (2 * k * factor) in
    let by = decimal factor in
    let shift = decimal (2 * k) in
    let second = codes "-" ++ by ++ codes "*(d-" ++ shift ++ codes ")" in
    let second_is : codes "-" ++ (by ++ (codes "*(d-" ++ (shift ++ codes ")"))) ≡ second =
    ap (λ (t : List ℕ). codes "-" ++ t) (sym (append_assoc (by ++ codes "*(d-") shift (codes ")") ∙ append_assoc by (codes "*(d-") (shift ++ codes ")"))) in
    ap (λ (t : List ℕ). codes " ; " ++ (scale ++ (codes "*m ; " ++ t))) second_is
    ∙ ap (λ (t : List ℕ). codes " ; " ++ (scale ++ (codes "*m" ++ t))) (sym (append-nil (codes " ; " ++ second)))
    ∙ ap (λ (t : List ℕ). codes " ; " ++ t) (sym (append_assoc scale (codes "*m") (separated (second ∷ []))))

-- a row and the end of its line
row_is : (place : ℕ) → codes "row " ++ (decimal place ++ (codes " " ++ (decimal (place + 1) ++ codes "\n"))) ≡ ended_lines (row_line place ∷ [])
row_is place =
    let first = decimal place in
    let second = decimal (place + 1) in
    ap (λ (t : List ℕ). codes "row " ++ t) (sym (append_assoc (first ++ codes " ") second (codes "\n") ∙ append_assoc first (codes " ") (second ++ codes "\n")))
    ∙ sym (append-nil (row_line place ++ codes "\n"))

-- texts that are written one behind the other
pub two : (old a b t u : List ℕ) → t ≡ old ++ a → u ≡ t ++ b → u ≡ old ++ (a ++ b)
two old a b t u first second = second ∙ ap (λ (s : List ℕ). s ++ b) first ∙ append_assoc old a b

three : (old a b c t u v : List ℕ) → t ≡ old ++ a → u ≡ t ++ b → v ≡ u ++ c → v ≡ old ++ (a ++ (b ++ c))
three old a b c t u v first second third = two old a (b ++ c) t v first (two t b c u v second third)

pub four : (old a b c d t u v w : List ℕ) → t ≡ old ++ a → u ≡ t ++ b → v ≡ u ++ c → w ≡ v ++ d → w ≡ old ++ (a ++ (b ++ (c ++ d)))
four old a b c d t u v w first second third fourth = two old a (b ++ (c ++ d)) t w first (three t b c d u v w second third fourth)

-- the two entries of a step are written
pub pair_written : (k factor : ℕ) (old t u v w : List ℕ) → t ≡ old ++ (codes " ; " ++ decimal (2 * k * factor)) → u ≡ t ++ (codes "*m ; -" ++ decimal factor) → v ≡ u ++ (codes "*(d-" ++ decimal (2 * k)) → w ≡ v ++ codes ")"
    → w ≡ old ++ separated (entries k factor)
pair_written k factor old t u v w first second third fourth =
    four old (codes " ; " ++ decimal (2 * k * factor)) (codes "*m ; -" ++ decimal factor) (codes "*(d-" ++ decimal (2 * k)) (codes ")") t u v w first second third fourth
    ∙ ap (λ (s : List ℕ). old ++ s) (pair_is k factor)

-- a row is written
pub row_written : (place : ℕ) (old t u v : List ℕ) → t ≡ old ++ (codes "row " ++ decimal place) → u ≡ t ++ (codes " " ++ decimal (place + 1)) → v ≡ u ++ codes "\n" → v ≡ old ++ ended_lines (row_line place ∷ [])
row_written place old t u v first second third =
    three old (codes "row " ++ decimal place) (codes " " ++ decimal (place + 1)) (codes "\n") t u v first second third ∙ ap (λ (s : List ℕ). old ++ s) (row_is place)

fused : {X Y A : Type 0} (g : Y → List A) (f : X → List Y) (xs : List X) → flat_map g (flat_map f xs) ≡ flat_map (λ x. flat_map g (f x)) xs
fused g f [] = refl
fused g f (x ∷ xs) = flat_map-append g (f x) (flat_map f xs) ∙ ap (λ t. flat_map g (f x) ++ t) (fused g f xs)

each_same : {X A : Type 0} (f g : X → List A) → ((x : X) → f x ≡ g x) → (xs : List X) → flat_map f xs ≡ flat_map g xs
each_same f g same [] = refl
each_same f g same (x ∷ xs) = ap (λ t. t ++ flat_map f xs) (same x) ∙ ap (λ t. g x ++ t) (each_same f g same xs)

-- the entries of all steps, with a separator before each
entries_are : (n : ℕ) → flat_map (λ place. flat_map (λ factor. separated (entries (n - place) factor)) (range_with_len 1 64)) (range_with_len 0 n) ≡ separated (all_entries n)
entries_are n =
    sym (fused (λ text. codes " ; " ++ text) (λ place. step_entries (n - place)) (range_with_len 0 n)
    ∙ each_same (λ place. separated (step_entries (n - place))) (λ place. flat_map (λ factor. separated (entries (n - place) factor)) (range_with_len 1 64))
    (λ place. fused (λ text. codes " ; " ++ text) (entries (n - place)) (range_with_len 1 64)) (range_with_len 0 n))

-- without the first separator they are the expressions
joined : (n : ℕ) → 1 ≤ n → drop 3 (separated (all_entries n)) ≡ expressions n
joined zero some = absurd (omega arith)
joined (suc n) some = refl

-- the rows of all steps, each with the end of its line
rows_are : (n : ℕ) → flat_map (λ place. flat_map (λ factor. ended_lines (row_line (place + 1) ∷ [])) (range_with_len 1 64)) (range_with_len 0 n) ≡ ended_lines (all_rows n)
rows_are n =
    sym (fused (λ line. line ++ codes "\n") (λ place. step_rows (place + 1)) (range_with_len 0 n)
    ∙ each_same (λ place. ended_lines (step_rows (place + 1))) (λ place. flat_map (λ factor. ended_lines (row_line (place + 1) ∷ [])) (range_with_len 1 64))
    (λ place. fused (λ line. line ++ codes "\n") (λ factor. row_line (place + 1) ∷ []) (range_with_len 1 64)) (range_with_len 0 n))

-- the last two lines
last_are : (n : ℕ) → codes "output s\nbounds all num " ++ (decimal n ++ (codes " " ++ (decimal n ++ (codes " 0 den " ++ (decimal n ++ (codes " 0 " ++ (decimal n ++ codes "\n"))))))) ≡ ended_lines (codes "output s" ∷ bounds_line n ∷ [])
last_are n =
    let b = decimal n in
    let first = b ++ codes " " in
    let second = first ++ b in
    let third = second ++ codes " 0 den " in
    let fourth = third ++ b in
    let fifth = fourth ++ codes " 0 " in
    let last = b ++ codes "\n" in
    let later = b ++ (codes " 0 " ++ last) in
    let ends : (fifth ++ b) ++ codes "\n" ≡ b ++ (codes " " ++ (b ++ (codes " 0 den " ++ later))) =
    append_assoc fifth b (codes "\n") ∙ append_assoc fourth (codes " 0 ") last ∙ append_assoc third b (codes " 0 " ++ last)
    ∙ append_assoc second (codes " 0 den ") later ∙ append_assoc first b (codes " 0 den " ++ later) ∙ append_assoc b (codes " ") (b ++ (codes " 0 den " ++ later)) in
    ap (λ (t : List ℕ). codes "output s\nbounds all num " ++ t) (sym ends)
    ∙ ap (λ (t : List ℕ). codes "output s\n" ++ t) (sym (append-nil (bounds_line n ++ codes "\n")))

-- they are written
pub last_written : (n : ℕ) (old t u v w x : List ℕ) → t ≡ old ++ (codes "output s\nbounds all num " ++ decimal n) → u ≡ t ++ (codes " " ++ decimal n) → v ≡ u ++ (codes " 0 den " ++ decimal n) → w ≡ v ++ (codes " 0 " ++ decimal n) → x ≡ w ++ codes "\n"
    → x ≡ old ++ ended_lines (codes "output s" ∷ bounds_line n ∷ [])
last_written n old t u v w x first second third fourth fifth =
    let b = decimal n in
    two old (codes "output s\nbounds all num " ++ b) (codes " " ++ (b ++ (codes " 0 den " ++ (b ++ (codes " 0 " ++ (b ++ codes "\n")))))) t x first
    (four t (codes " " ++ b) (codes " 0 den " ++ b) (codes " 0 " ++ b) (codes "\n") u v w x second third fourth fifth)
    ∙ ap (λ (s : List ℕ). old ++ s) (last_are n)

-- the text of all steps' entries with separators, and that of all their rows
abbrev entries_text : ℕ → List ℕ
entries_text n = flat_map (λ place. flat_map (λ factor. separated (entries (n - place) factor)) (range_with_len 1 64)) (range_with_len 0 n)

abbrev rows_text : ℕ → List ℕ
rows_text n = flat_map (λ place. flat_map (λ factor. ended_lines (row_line (place + 1) ∷ [])) (range_with_len 1 64)) (range_with_len 0 n)

-- the lines of the file behind that of the expressions
abbrev later_lines : ℕ → List (List ℕ)
later_lines n = (codes "node s sparse c " ++ decimal (n + 1)) ∷ all_rows n ++ codes "output s" ∷ bounds_line n ∷ []

-- what stands behind the first three bytes
pub behind_three : (text : List ℕ) → take (length text - 3) (drop 3 text) ≡ drop 3 text
behind_three text = take_all (length text - 3) (drop 3 text) (omega (arith, length-drop 3 text))

-- the file is written piece by piece
pub file_written : (n : ℕ) (written front t u v w x : List ℕ) → 1 ≤ n → written ≡ entries_text n → front ≡ codes "flow 1\ngraph main\ninput d m\nnode c eval input = " → t ≡ front ++ drop 3 written
    → u ≡ t ++ (codes "\nnode s sparse c " ++ decimal (n + 1)) → v ≡ u ++ codes "\n" → w ≡ v ++ rows_text n → x ≡ w ++ ended_lines (codes "output s" ∷ bounds_line n ∷ []) → x ≡ demo_bytes n
file_written n written front t u v w x some is_written is_front first second third fourth fifth =
    let start = codes "flow 1\ngraph main\ninput d m\nnode c eval input = " in
    let solver = codes "\nnode s sparse c " ++ decimal (n + 1) in
    let ends = ended_lines (codes "output s" ∷ bounds_line n ∷ []) in
    let text : drop 3 written ≡ expressions n = ap (drop 3) (is_written ∙ entries_are n) ∙ joined n some in
    let rows : rows_text n ++ ends ≡ ended_lines (all_rows n ++ codes "output s" ∷ bounds_line n ∷ []) =
    ap (λ (s : List ℕ). s ++ ends) (rows_are n) ∙ sym (flat_map-append (λ line. line ++ codes "\n") (all_rows n) (codes "output s" ∷ bounds_line n ∷ [])) in
    two front (drop 3 written) (solver ++ (codes "\n" ++ (rows_text n ++ ends))) t x first (four t solver (codes "\n") (rows_text n) ends u v w x second third fourth fifth)
    ∙ ap (λ (s : List ℕ). s ++ (drop 3 written ++ (solver ++ (codes "\n" ++ (rows_text n ++ ends))))) is_front
    ∙ ap (λ (s : List ℕ). start ++ (s ++ (solver ++ (codes "\n" ++ (rows_text n ++ ends))))) text
    ∙ ap (λ (s : List ℕ). start ++ (expressions n ++ (solver ++ (codes "\n" ++ s)))) rows
    ∙ ap (λ (s : List ℕ). start ++ (expressions n ++ (codes "\nnode s sparse c " ++ s))) (sym (append_assoc (decimal (n + 1)) (codes "\n") (ended_lines (all_rows n ++ codes "output s" ∷ bounds_line n ∷ []))))
    ∙ ap (λ (s : List ℕ). start ++ s) (sym (append_assoc (expressions n) (codes "\n") (ended_lines (later_lines n))))
