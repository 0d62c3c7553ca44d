-- The lines of a file, one after the other.
use Rattle.std.proofs.Common.{◌≡◌, ◌<◌, ◌≤◌, ◌+◌, ℕ, zero, suc, Bool, true, false, not, ◌&&◌, cond, refl, sym, ap, subst, ◌∙◌, List, [], ◌∷◌, ◌++◌, length, take, drop, map, filter, Option, Some, None, Ok, Err, arith, nat_lt, get_or, add-one, IfSome, ◌⊎◌, inl, inr}
use mathlib.Core.List.{reverse}
use mathlib.Core.Logic.{⊎_elim}
use Rattle.std.specs.List.{slice_get, filter_map, slice_split}
use Rattle.std.proofs.Math.Seq.{take-suc}
use Rattle.std.proofs.lemmas.Bool.{cases_lt}
use Rattle.std.proofs.lemmas.Bool.Decides.{nat_tests}
use Rattle.std.proofs.lemmas.List.{length-take, reverse-append, take_all}
use Rattle.std.proofs.lemmas.List.Elements.{filter_map-append, filter-append}
use Rattle.std.proofs.lemmas.Option.{get_or_from_slice_get, slice_get_within}
use Rattle.graph_file.specs.declared.error.FileKind.{FileKind}
use Rattle.graph_file.specs.declared.error.FileKind.TheVariants as kind
use Rattle.graph_file.specs.declared.job.Need.{Need}
use Rattle.graph_file.specs.declared.line.Line.{Line}
use Rattle.graph_file.specs.declared.reader.Reader.{Reader}
use Rattle.graph_file.specs.Faults.{IsBadLine, IsGoodLine}
use Rattle.graph_file.specs.File.{AreGood, IsBadAt, IsCutOff, IsFirstBadLine, IsGoodAt, is_complete, is_idle_at, said, told}
use Rattle.graph_file.specs.Line.{line_of}
use Rattle.graph_file.specs.Lines.{is_passed_over, kept, lines}
use Rattle.graph_file.specs.Read.{AreGoodLines, AreRead, IsNext, IsRead, IsReadOn, IsRefusal, IsToldAt, Keeps}
use Rattle.graph_file.specs.Formed.{IsFormed}
use Rattle.graph_file.proofs.Formed.{line-formed}
use Rattle.graph_file.proofs.TakeLemmas.{never_missing as never_after}

above_zero : (n : ℕ) → nat_lt 0 (suc n) ≡ true
above_zero n = grind (arith, nat_tests)

-- one more line that counts, or doesn't
kept-more : (all : List (List ℕ)) (line : List ℕ) → kept (all ++ line ∷ []) ≡ kept all ++ cond (is_idle_at (length all) line) [] (line ∷ [])
kept-more [] line = refl
kept-more (first ∷ later) line =
    ap (λ l. first ∷ l) (filter-append (λ l. not (is_passed_over l)) later (line ∷ []))
    ∙ ap (λ l. first ∷ (filter (λ x. not (is_passed_over x)) later ++ l)) (flip (is_passed_over line))
    ∙ ap (λ b. (first ∷ filter (λ x. not (is_passed_over x)) later) ++ cond (b && is_passed_over line) [] (line ∷ [])) (sym (above_zero (length later)))
  where
    flip : (b : Bool) → cond (not b) (line ∷ []) [] ≡ cond b [] (line ∷ [])
    flip true = refl
    flip false = refl

before-more : (all : List (List ℕ)) (place : ℕ) (line : List ℕ) → slice_get all place ≡ Some line → take (place + 1) all ≡ take place all ++ line ∷ []
before-more all place line at =
    let within : place < length all = slice_get_within all place line at in
    rw add-one (take-suc all place line within) ∙ ap (λ l. take place all ++ l ∷ []) (get_or_from_slice_get all place line line at)

count-before : (all : List (List ℕ)) (place : ℕ) (line : List ℕ) → slice_get all place ≡ Some line → length (take place all) ≡ place
count-before all place line at = let within : place < length all = slice_get_within all place line at in omega (arith, length-take place all)

-- what the lines say with one that is passed over
said-idle : (all : List (List ℕ)) (place : ℕ) (line : List ℕ) → slice_get all place ≡ Some line → is_idle_at place line ≡ true → said (take (place + 1) all) ≡ said (take place all)
said-idle all place line at idle =
    let more : kept (take (place + 1) all) ≡ kept (take place all) ++ [] =
    ap kept (before-more all place line at) ∙ kept-more (take place all) line
    ∙ ap (λ n. kept (take place all) ++ cond (is_idle_at n line) [] (line ∷ [])) (count-before all place line at)
    ∙ ap (λ b. kept (take place all) ++ cond b [] (line ∷ [])) idle
    in
    ap (λ l. reverse (filter_map line_of l)) (more ∙ Rattle.std.proofs.Common.append-nil (kept (take place all)))

-- what the lines say with one that counts
said-line : (all : List (List ℕ)) (place : ℕ) (line : List ℕ) (says : Line) → slice_get all place ≡ Some line → is_idle_at place line ≡ false → line_of line ≡ Some says → said (take (place + 1) all) ≡ says ∷ said (take place all)
said-line all place line says at counts is =
    let more : kept (take (place + 1) all) ≡ kept (take place all) ++ line ∷ [] =
    ap kept (before-more all place line at) ∙ kept-more (take place all) line
    ∙ ap (λ n. kept (take place all) ++ cond (is_idle_at n line) [] (line ∷ [])) (count-before all place line at)
    ∙ ap (λ b. kept (take place all) ++ cond b [] (line ∷ [])) counts
    in
    ap (λ l. reverse (filter_map line_of l)) more
    ∙ ap reverse (filter_map-append line_of (kept (take place all)) (line ∷ []))
    ∙ ap (λ o. reverse (filter_map line_of (kept (take place all)) ++ Rattle.std.specs.List.cons_option o [])) is
    ∙ reverse-append (filter_map line_of (kept (take place all))) (says ∷ [])

-- a line that is passed over
pub next-idle : (all : List (List ℕ)) (place : ℕ) (line : List ℕ) (reader : Reader) → slice_get all place ≡ Some line → is_idle_at place line ≡ true → IsRead (said (take place all)) reader → IsNext all place reader (Ok tt)
next-idle all place line reader at idle read =
    (good, subst (λ (l : List Line). IsRead l reader) (sym (said-idle all place line at idle)) read)
  where
    good : IsGoodAt all place
    good other there counts =
        let told : Some line ≡ Some other = sym at ∙ there in
        let same : line ≡ other = cc in
        let never : true ≡ false = sym idle ∙ ap (is_idle_at place) same ∙ counts in cc

-- a line that counts
next-kept : (all : List (List ℕ)) (place : ℕ) (line : List ℕ) (o : Option Line) (next : Reader) → slice_get all place ≡ Some line → is_idle_at place line ≡ false → line_of line ≡ o → Keeps (said (take place all)) o next → IsNext all place next (Ok tt)
next-kept all place line None next at counts is keeps = absurd keeps
next-kept all place line (Some says) next at counts is keeps =
    (good, subst (λ (l : List Line). IsRead l next) (sym (said-line all place line says at counts is)) keeps.1)
  where
    good : IsGoodAt all place
    good other there again =
        let told : Some line ≡ Some other = sym at ∙ there in
        let same : line ≡ other = cc in
        subst (λ (o : Option Line). IsGoodLine (said (take place all)) o) (sym is ∙ ap line_of same) keeps.0

pub next-line : (all : List (List ℕ)) (place : ℕ) (line : List ℕ) (next : Reader) → slice_get all place ≡ Some line → is_idle_at place line ≡ false → IsReadOn (said (take place all)) (line_of line) next (Ok tt) → IsNext all place next (Ok tt)
next-line all place line next at counts keeps = next-kept all place line (line_of line) next at counts refl keeps

-- a line that is refused
bad_at : (all : List (List ℕ)) (place : ℕ) (line : List ℕ) (fault : FileKind) → slice_get all place ≡ Some line → is_idle_at place line ≡ false → IsBadLine (said (take place all)) (line_of line) fault → (place + 1 ≡ place + 1) × IsBadAt all place fault
bad_at all place line fault at counts bad = (refl, record { line = line; there = at; counts = counts; bad = bad })

pub next-refused : (all : List (List ℕ)) (place : ℕ) (line : List ℕ) (after : Reader) (fault : FileKind) → slice_get all place ≡ Some line → is_idle_at place line ≡ false → IsReadOn (said (take place all)) (line_of line) after (Err fault) → IsNext all place after (Err (told place fault))
next-refused all place line after kind.Syntax at counts bad = bad_at all place line kind.Syntax at counts bad
next-refused all place line after kind.Version at counts bad = bad_at all place line kind.Version at counts bad
next-refused all place line after kind.Repeated at counts bad = bad_at all place line kind.Repeated at counts bad
next-refused all place line after kind.UnknownGraph at counts bad = bad_at all place line kind.UnknownGraph at counts bad
next-refused all place line after kind.UnknownNode at counts bad = bad_at all place line kind.UnknownNode at counts bad
next-refused all place line after kind.Residue at counts bad = bad_at all place line kind.Residue at counts bad
next-refused all place line after kind.Limit at counts bad = bad_at all place line kind.Limit at counts bad
next-refused all place line after (kind.Expr number error) at counts bad = bad_at all place line (kind.Expr number error) at counts bad
next-refused all place line after kind.Missing at counts bad = bad_at all place line kind.Missing at counts bad
next-refused all place line after kind.NoMemory at counts bad = refl

-- the lines that are left
line-first : (all : List (List ℕ)) (place : ℕ) (line : List ℕ) (behind : List (List ℕ)) → drop place all ≡ line ∷ behind → (slice_get all place ≡ Some line) × (drop (suc place) all ≡ behind)
line-first [] zero line behind e = cc
line-first [] (suc place) line behind e = cc
line-first (first ∷ later) zero line behind e = (let same : first ≡ line = cc in ap (λ l. Some l) same, let rest : later ≡ behind = cc in rest)
line-first (first ∷ later) (suc place) line behind e = line-first later place line behind e

pub line-at : (all : List (List ℕ)) (place : ℕ) (line : List ℕ) (behind : List (List ℕ)) → drop place all ≡ line ∷ behind → (slice_get all place ≡ Some line) × (drop (place + 1) all ≡ behind)
line-at all place line behind e =
    let parts : (slice_get all place ≡ Some line) × (drop (suc place) all ≡ behind) = line-first all place line behind e in
    (parts.0, ap (λ n. drop n all) (add-one place) ∙ parts.1)

pub good-more : (all : List (List ℕ)) (place : ℕ) → AreGood all place → IsGoodAt all place → AreGood all (place + 1)
good-more all place so_far here k below = ⊎_elim
    (λ (less : k < place). so_far k less)
    (λ (more : place ≤ k). let same : place ≡ k = omega arith in subst (λ (n : ℕ). IsGoodAt all n) same here)
    (cases_lt k place)

-- the first line that is refused
first_bad : (bytes : List ℕ) (place number : ℕ) (fault : FileKind) → AreGood (lines bytes) place → (number ≡ place + 1) × IsBadAt (lines bytes) place fault → IsFirstBadLine (lines bytes) number fault
first_bad bytes place number fault before told = record { place = place; counted = told.0; bad = told.1; before = before }

never_missing : (bytes : List ℕ) (place number : ℕ) → AreGood (lines bytes) place → (number ≡ place + 1) × IsBadAt (lines bytes) place kind.Missing → ⊥
never_missing bytes place number before told = no_missing (said (take place (lines bytes))) (line_of told.1.line) told.1.bad
  where
    open_fault : (earlier : List Line) (o : Option Line) → IsBadLine earlier o kind.Missing → ⊥
    open_fault earlier None bad = cc
    open_fault earlier (Some says) bad = never_after earlier says bad

    no_missing : (earlier : List Line) (o : Option Line) → IsBadLine earlier o kind.Missing → ⊥
    no_missing earlier o bad = open_fault earlier o bad

pub refused-at : (need : Need) (bytes : List ℕ) (place number : ℕ) (fault : FileKind) → AreGood (lines bytes) place → IsToldAt (lines bytes) place number fault → IsRefusal need bytes number fault
refused-at need bytes place number kind.Syntax before told = first_bad bytes place number kind.Syntax before told
refused-at need bytes place number kind.Version before told = first_bad bytes place number kind.Version before told
refused-at need bytes place number kind.Repeated before told = first_bad bytes place number kind.Repeated before told
refused-at need bytes place number kind.UnknownGraph before told = first_bad bytes place number kind.UnknownGraph before told
refused-at need bytes place number kind.UnknownNode before told = first_bad bytes place number kind.UnknownNode before told
refused-at need bytes place number kind.Residue before told = first_bad bytes place number kind.Residue before told
refused-at need bytes place number kind.Limit before told = first_bad bytes place number kind.Limit before told
refused-at need bytes place number (kind.Expr expression error) before told = first_bad bytes place number (kind.Expr expression error) before told
refused-at need bytes place number kind.Missing before told = absurd (never_missing bytes place number before told)
refused-at need bytes place number kind.NoMemory before told = told

-- no line is left
pub at-end : (all : List (List ℕ)) (place : ℕ) → place ≤ length all → drop place all ≡ [] → place ≡ length all
at-end [] zero within e = refl
at-end [] (suc place) within e = absurd (omega arith)
at-end (first ∷ later) zero within e = cc
at-end (first ∷ later) (suc place) within e = ap suc (at-end later place (omega arith) e)

pub good-file : (need : Need) (bytes : List ℕ) (place : ℕ) (reader : Reader) → place ≡ length (lines bytes) → AreGood (lines bytes) place → IsRead (said (take place (lines bytes))) reader → is_complete need (said (take place (lines bytes))) ≡ true → AreRead need bytes (Ok reader)
good-file need bytes place reader whole good read complete =
    let all : take place (lines bytes) ≡ lines bytes = take_all place (lines bytes) (omega arith) in (
      record { good = subst (λ (n : ℕ). AreGood (lines bytes) n) whole good; complete = subst (λ (l : List (List ℕ)). is_complete need (said l) ≡ true) all complete },
      subst (λ (l : List (List ℕ)). IsRead (said l) reader) all read,
    )

pub cut-off : (need : Need) (bytes : List ℕ) (place : ℕ) → place ≡ length (lines bytes) → AreGood (lines bytes) place → is_complete need (said (take place (lines bytes))) ≡ false → IsCutOff need (lines bytes) place
cut-off need bytes place whole good lacks =
    let all : take place (lines bytes) ≡ lines bytes = take_all place (lines bytes) (omega arith) in
    record { counted = whole; good = subst (λ (n : ℕ). AreGood (lines bytes) n) whole good; lacks = subst (λ (l : List (List ℕ)). is_complete need (said l) ≡ false) all lacks }

-- the lines that count among good ones are good
good-next : (all : List (List ℕ)) (place : ℕ) (line : List ℕ) → slice_get all place ≡ Some line → IsGoodAt all place → AreGoodLines (said (take place all)) → AreGoodLines (said (take (place + 1) all))
good-next all place line at good before = from (is_idle_at place line) refl
  where
    formed : (o : Option Line) (says : Line) (most : ℕ) → o ≡ Some says → IfSome o (IsFormed most) → IsFormed most says
    formed o says most is f = subst (λ (x : Option Line). IfSome x (IsFormed most)) is f

    says_good : (o : Option Line) → line_of line ≡ o → is_idle_at place line ≡ false → IsGoodLine (said (take place all)) o → AreGoodLines (said (take (place + 1) all))
    says_good None is counts bad = let never : Some Rattle.graph_file.specs.declared.error.FileKind.TheVariants.Syntax ≡ None = bad.0 in cc
    says_good (Some says) is counts fine = subst AreGoodLines (sym (said-line all place line says at counts is)) (length line + 1, (formed (line_of line) says (length line + 1) is (line-formed line), fine, before))

    from : (b : Bool) → is_idle_at place line ≡ b → AreGoodLines (said (take (place + 1) all))
    from true idle = subst AreGoodLines (sym (said-idle all place line at idle)) before
    from false counts = says_good (line_of line) refl counts (good line at counts)

pub good-lines : (all : List (List ℕ)) (count : ℕ) → count ≤ length all → AreGood all count → AreGoodLines (said (take count all))
good-lines all zero within good = subst AreGoodLines (sym (none all)) tt
  where
    none : (all : List (List ℕ)) → said (take 0 all) ≡ []
    none [] = refl
    none (line ∷ all) = refl
good-lines all (suc count) within good =
    let before : AreGoodLines (said (take count all)) = good-lines all count (omega arith) (λ place below. good place (omega (arith, below))) in
    let (line, at) = there all count (omega arith) in
    subst (λ (n : ℕ). AreGoodLines (said (take n all))) (add-one count) (good-next all count line at (good count (omega arith)) before)
  where
    there : (all : List (List ℕ)) (k : ℕ) → k < length all → (line : List ℕ) × (slice_get all k ≡ Some line)
    there [] k below = absurd (omega arith)
    there (line ∷ all) zero below = (line, refl)
    there (line ∷ all) (suc k) below = there all k (omega arith)
