-- The fifth line of the demo's text is the first of the text with a line for each output.
use Rattle.std.proofs.Common.{◌≡◌, ℕ, zero, suc, ◌+◌, ◌/◌, ◌%◌, ◌<◌, Bool, true, false, cond, All, List, [], ◌∷◌, ◌++◌, length, take, Option, Some, None, refl, sym, ◌∙◌, ap, arith, append_assoc}
use Rattle.std.specs.Prelude.{◌==◌, codes, count_by, nat_lt, slice_get}
use Rattle.std.specs.Fmt.{decimal, digit_glyph, digits, digits_onto}
use Rattle.std.specs.List.{onto_first}
use Rattle.std.proofs.lemmas.Bool.{ne_eqb}
use Rattle.std.proofs.lemmas.List.Elements.{All-cons}
use Rattle.std.proofs.lemmas.List.Splits.{slice_split_at}
use Rattle.poly_maps.specs.Quotient.{RationalPair}
use Rattle.output_result.specs.Printing.{PrintsFunction, function_line}
use Rattle.output_result.specs.Results.{Result}
use Rattle.output_result.specs.Texts.{Report, is_found, lines, lines_from, report_text, result_line, results_text}
use Rattle.flow_program.specs.Demo.{ended_lines}
use Rattle.flow_program.specs.Reconstructed.{demo_counts, demo_text}

-- no line feed stands in the text
abbrev Free : List ℕ → Type 0
Free [] = Unit {0}
Free (b ∷ text) = ((b == 10) ≡ false) × Free text

Free-append : (a b : List ℕ) → Free a → Free b → Free (a ++ b)
Free-append [] b first second = second
Free-append (x ∷ a) b first second = (first.0, Free-append a b first.1 second)

glyph_free : (d : ℕ) → (digit_glyph false d == 10) ≡ false
glyph_free d = by (nat_lt d 10)
  where
    by : (b : Bool) → (cond b (48 + d) (87 + d) == 10) ≡ false
    by true = ne_eqb (48 + d) 10 (λ e. omega (arith, e))
    by false = ne_eqb (87 + d) 10 (λ e. omega (arith, e))

free_either : (b : Bool) (x y : List ℕ) → Free x → Free y → Free (cond b x y)
free_either true x y first second = first
free_either false x y first second = second

digits_free : (k n : ℕ) (text : List ℕ) → Free text → Free (digits_onto k 10 false n text)
digits_free zero n text free = free
digits_free (suc k) n text free =
    let more : Free (digit_glyph false (n % 10) ∷ text) = (glyph_free (n % 10), free) in
    free_either (n / 10 == 0) (digit_glyph false (n % 10) ∷ text) (digits_onto k 10 false (n / 10) (digit_glyph false (n % 10) ∷ text)) more (digits_free k (n / 10) (digit_glyph false (n % 10) ∷ text) more)

decimal_free : (n : ℕ) → Free (decimal n)
unfolding digits
decimal_free n = digits_free 64 n [] tt

all_free : (text : List ℕ) → Free text → All (λ b. (b == 10) ≡ false) text
all_free [] free = λ k d low. absurd (omega arith)
all_free (b ∷ text) free = All-cons (λ c. (c == 10) ≡ false) b text free.0 (all_free text free.1)

-- a line is cut off
next_line : (line : List ℕ) (more : List (List ℕ)) (tail : List ℕ) → Free line → lines (ended_lines (line ∷ more) ++ tail) ≡ line ∷ lines (ended_lines more ++ tail)
next_line line more tail free =
    ap lines (append_assoc (line ++ codes "\n") (ended_lines more) tail ∙ append_assoc line (codes "\n") (ended_lines more ++ tail))
    ∙ slice_split_at (λ b. b == 10) line 10 (ended_lines more ++ tail) (all_free line free) refl

fifth : (a b c d tail : List ℕ) → Free a → Free b → Free c → Free d → slice_get (lines (ended_lines (a ∷ b ∷ c ∷ d ∷ []) ++ tail)) 4 ≡ slice_get (lines tail) 0
fifth a b c d tail first second third fourth =
    ap (λ all. slice_get all 4)
    (next_line a (b ∷ c ∷ d ∷ []) tail first ∙ ap (λ all. a ∷ all) (next_line b (c ∷ d ∷ []) tail second
    ∙ ap (λ all. b ∷ all) (next_line c (d ∷ []) tail third ∙ ap (λ all. c ∷ all) (next_line d [] tail fourth))))

-- the first line of a text rests on what stands before its first line feed
first_onto : (x : ℕ) (L M : List (List ℕ)) → slice_get L 0 ≡ slice_get M 0 → slice_get (onto_first x L) 0 ≡ slice_get (onto_first x M) 0
first_onto x [] [] e = refl
first_onto x [] (part ∷ parts) e = cc
first_onto x (part ∷ parts) [] e = cc
first_onto x (part ∷ parts) (other ∷ others) e = let same : part ≡ other = cc in ap (λ p. Some (x ∷ p)) same

first_by : (feed : Bool) (x : ℕ) (L M : List (List ℕ)) → slice_get L 0 ≡ slice_get M 0 → slice_get (cond feed ([] ∷ L) (onto_first x L)) 0 ≡ slice_get (cond feed ([] ∷ M) (onto_first x M)) 0
first_by true x L M e = refl
first_by false x L M e = first_onto x L M e

first_same : (line a b : List ℕ) → slice_get (lines (line ++ 10 ∷ a)) 0 ≡ slice_get (lines (line ++ 10 ∷ b)) 0
first_same [] a b = refl
first_same (x ∷ line) a b = first_by (x == 10) x (lines (line ++ 10 ∷ a)) (lines (line ++ 10 ∷ b)) (first_same line a b)

first_of_all : (names : List (List ℕ)) (reports : ℕ → Report) (results : List Result) → slice_get (lines (results_text names reports (take 1 results))) 0 ≡ slice_get (lines (results_text names reports results)) 0
first_of_all names reports [] = refl
first_of_all names reports (result ∷ results) = first_same (result_line names 1 result ++ report_text (reports 1) result) [] (lines_from names reports (1 + 1) results)

named_free : (name : List ℕ) (n : ℕ) → Free name → Free (name ++ decimal n)
named_free name n free = Free-append name (decimal n) free (decimal_free n)

demo_line : (n points : ℕ) (names : List (List ℕ)) (reports : ℕ → Report) (results : List Result) → slice_get (lines (demo_text n points names reports results)) 4 ≡ slice_get (lines (results_text names reports results)) 0
demo_line n points names reports results =
    fifth (codes "demo " ++ decimal n) (codes "points " ++ decimal points) (codes "outputs " ++ decimal (length results)) (codes "found " ++ decimal (count_by is_found results)) (results_text names reports (take 1 results))
    (named_free (codes "demo ") n (refl, (refl, (refl, (refl, (refl, tt))))))
    (named_free (codes "points ") points (refl, (refl, (refl, (refl, (refl, (refl, (refl, tt))))))))
    (named_free (codes "outputs ") (length results) (refl, (refl, (refl, (refl, (refl, (refl, (refl, (refl, tt)))))))))
    (named_free (codes "found ") (count_by is_found results) (refl, (refl, (refl, (refl, (refl, (refl, tt)))))))
    ∙ first_of_all names reports results

-- a function that the demo prints is printed in the text of all outputs too
pub first_printed : (n points : ℕ) (names : List (List ℕ)) (reports : ℕ → Report) (results : List Result) (F : RationalPair) → PrintsFunction names (demo_text n points names reports results) 4 1 F
    → PrintsFunction names (results_text names reports results) 0 1 F
first_printed n points names reports results F prints = record {
  printable = prints.printable;
  tail = prints.tail;
  ends = prints.ends;
  line = sym (demo_line n points names reports results) ∙ prints.line;
}
