-- Which results the lines of a text tell.
use Rattle.std.proofs.Common.{◌≡◌, ℕ, zero, suc, ◌+◌, ◌^◌, ◌<◌, ◌≤◌, ◌==◌, Bool, true, false, not, ◌&&◌, ◌||◌, inl, inr, if◌then◌else◌, All, List, [], ◌∷◌, ◌++◌, drop, length, Some, None, slice_get, slice_index, IsTrue, unsigned_abs, FitsSigned, ℤ, pos, negsuc, codes, decimal, refl, sym, ap, subst, ◌∙◌, append_assoc, arith, lit≤}
use Rattle.std.proofs.lemmas.List.{append_cancel_left}
use Rattle.std.proofs.lemmas.List.Elements.{All-cons}
use Rattle.std.proofs.lemmas.List.Splits.{slice_split_at}
use Rattle.std.specs.Int.{is_negative, w128}
use Rattle.std.specs.Char.{digit_value, is_ascii_alphabetic}
use Rattle.std.specs.Str.Parse.{AllDigits}
use Rattle.std.proofs.lemmas.Bool.Decides.{nat_tests}
use Rattle.std.proofs.lemmas.Fmt.{decimal_is_IsNumeral_wide}
use Rattle.std.proofs.lemmas.Str.Parse.{digit_from_value}
use Rattle.std.proofs.lemmas.Bool.{ne_eqb}
use Rattle.ratfun_text.specs.Bytes.{is_name, is_name_byte}
use Rattle.std.specs.List.{join_with_byte, list_all}
use Rattle.prime_field.specs.declared.Modulus.TheVariants.{First, Second}
use Rattle.poly_maps.specs.Quotient.{RationalPair, IsQuotientMap}
use Rattle.poly_maps.specs.declared.fraction.Frac.{Frac}
use Rattle.ratfun_text.specs.Printed.{AreIn, AreVariables, AreSized, HasSizes, IsSized, factors, is_one, is_unit, later_text, magnitude, power, mono_text, poly_text, powers, product_text, quotient_text, term_text}
use Rattle.multivar_recon.specs.declared.by_rays.Method.{Method}
use Rattle.multivar_recon.specs.declared.by_rays.Method.TheVariants.{Rays, Fit}
use Rattle.rational_lift.specs.Lifting.{Lifted, Unlike, NoRational}
use Rattle.rational_lift.specs.declared.coeff.Part.{Part}
use Rattle.rational_lift.specs.declared.coeff.Part.TheVariants.{Numerator, Denominator}
use Rattle.output_result.specs.Printing.{AreShown, IsMonoIn, IsPrintable, IsShown, IsTail, PrintsFunction, function_line}
use Rattle.output_result.specs.Results.{Result, NoPair, Lifts}
use Rattle.output_result.specs.Texts.{Report, lines, lines_from, method_text, part_text, report_text, result_line, result_text, results_text}

-- ---- no text of a result has a line feed or the sign before a report

-- a line feed, or the sign before a report
abbrev pub marks : ℕ → Bool
marks b = (b == 10) || (b == 35)

-- the text has neither
abbrev pub Free : List ℕ → Type 0
Free [] = Unit {0}
Free (b ∷ text) = (marks b ≡ false) × Free text

neither : (a b : Bool) → a ≡ false → b ≡ false → (a || b) ≡ false
neither false b first second = second
neither true b first second = cc

Free-append : (a b : List ℕ) → Free a → Free b → Free (a ++ b)
Free-append [] b first second = second
Free-append (x ∷ a) b first second = (first.0, Free-append a b first.1 second)

free_codes : (text : List ℕ) → list_all (λ b. not (marks b)) text ≡ true → Free text
free_codes [] all = tt
free_codes (b ∷ text) all = by (marks b) refl all (free_codes text)
  where
    by : (t : Bool) → marks b ≡ t → (not t && list_all (λ b. not (marks b)) text) ≡ true → (list_all (λ b. not (marks b)) text ≡ true → Free text) → Free (b ∷ text)
    by true same all rest = cc
    by false other all rest = (other, rest all)

-- digits and names

free_digit : (b : ℕ) → digit_value b < 10 → marks b ≡ false
free_digit b digit =
    let r = digit_from_value b digit in
    let feed : (b == 10) ≡ false = grind (arith, nat_tests) in
    let sign : (b == 35) ≡ false = grind (arith, nat_tests) in
    neither (b == 10) (b == 35) feed sign

free_digits : (ds : List ℕ) → AllDigits 10 ds → Free ds
free_digits [] all = tt
free_digits (d ∷ ds) all = (free_digit d all.0, free_digits ds all.1)

free_number : (n : ℕ) → n < 2 ^ 128 → Free (decimal n)
free_number n low =
    let wide : 2 ^ 128 ≤ 10 ^ 64 = lit≤ tt in
    free_digits (decimal n) (decimal_is_IsNumeral_wide n (omega arith)).0.1

free_byte : (b : ℕ) → is_name_byte b ≡ true → marks b ≡ false
free_byte b word = neither (b == 10) (b == 35)
    (ne_eqb b 10 (λ same. let feed : is_name_byte 10 ≡ true = subst (λ (x : ℕ). is_name_byte x ≡ true) same word in cc))
    (ne_eqb b 35 (λ same. let sign : is_name_byte 35 ≡ true = subst (λ (x : ℕ). is_name_byte x ≡ true) same word in cc))

free_letter : (b : ℕ) → is_ascii_alphabetic b ≡ true → marks b ≡ false
free_letter b letter = neither (b == 10) (b == 35)
    (ne_eqb b 10 (λ same. let feed : is_ascii_alphabetic 10 ≡ true = subst (λ (x : ℕ). is_ascii_alphabetic x ≡ true) same letter in cc))
    (ne_eqb b 35 (λ same. let sign : is_ascii_alphabetic 35 ≡ true = subst (λ (x : ℕ). is_ascii_alphabetic x ≡ true) same letter in cc))

both_true : (a b : Bool) → (a && b) ≡ true → (a ≡ true) × (b ≡ true)
both_true true b all = (refl, all)
both_true false b all = cc

free_bytes : (text : List ℕ) → list_all is_name_byte text ≡ true → Free text
free_bytes [] all = tt
free_bytes (b ∷ text) all =
    let parts = both_true (is_name_byte b) (list_all is_name_byte text) all in
    (free_byte b parts.0, free_bytes text parts.1)

free_name : (name : List ℕ) → is_name name ≡ true → Free name
free_name [] all = cc
free_name (b ∷ rest) all =
    let parts = both_true (is_ascii_alphabetic b) (list_all is_name_byte rest) all in
    (free_letter b parts.0, free_bytes rest parts.1)

-- powers and terms

abbrev EachName : List (List ℕ) → Type 0
EachName [] = Unit {0}
EachName (name ∷ names) = (is_name name ≡ true) × EachName names

each_name : (names : List (List ℕ)) → ((k : ℕ) (name : List ℕ) → slice_get names k ≡ Some name → IsTrue (is_name name)) → EachName names
each_name [] named = tt
each_name (name ∷ names) named = (named 0 name refl, each_name names (λ k. named (suc k)))

abbrev EachFree : List (List ℕ) → Type 0
EachFree [] = Unit {0}
EachFree (p ∷ ps) = Free p × EachFree ps

free_power : (name : List ℕ) (k : ℕ) → is_name name ≡ true → k < 2 ^ 16 → Free (power name k)
free_power name k word low = by (k == 1)
  where
    by : (one : Bool) → Free (if one then name else name ++ 94 ∷ decimal k)
    by true = free_name name word
    by false =
        let wide : 2 ^ 16 < 2 ^ 128 = lit≤ tt in
        Free-append name (94 ∷ decimal k) (free_name name word) (refl, free_number k (omega arith))

free_powers : (names : List (List ℕ)) (e : List ℕ) → EachName names → ((i : ℕ) → slice_index e i < 2 ^ 16) → EachFree (powers names e)
free_powers [] e named low = tt
free_powers (name ∷ names) [] named low = tt
free_powers (name ∷ names) (k ∷ e) named low = by (k == 0) (free_powers names e named.1 (λ i. low (suc i)))
  where
    by : (none : Bool) → EachFree (powers names e) → EachFree (if none then powers names e else power name k ∷ powers names e)
    by true rest = rest
    by false rest = (free_power name k named.0 (low 0), rest)

free_joined : (p : List ℕ) (ps : List (List ℕ)) → Free p → EachFree ps → Free (join_with_byte 42 (p ∷ ps))
free_joined p [] here later = here
free_joined p (q ∷ ps) here later = Free-append p (42 ∷ join_with_byte 42 (q ∷ ps)) here (refl, free_joined q ps later.0 later.1)

free_magnitude : (f : Frac) → unsigned_abs f.num < 2 ^ 128 → f.den < 2 ^ 128 → Free (magnitude f)
free_magnitude f num den = by (f.den == 1)
  where
    by : (one : Bool) → Free (if one then decimal (unsigned_abs f.num) else decimal (unsigned_abs f.num) ++ 47 ∷ decimal f.den)
    by true = free_number (unsigned_abs f.num) num
    by false = Free-append (decimal (unsigned_abs f.num)) (47 ∷ decimal f.den) (free_number (unsigned_abs f.num) num) (refl, free_number f.den den)

size_fits : (z : ℤ) → FitsSigned w128 z → unsigned_abs z < 2 ^ 128
size_fits (pos n) fits = omega arith
size_fits (negsuc n) fits = omega arith

free_term : (names : List (List ℕ)) (t : List ℕ × Frac) → EachName names → IsSized t.0 t.1 → Free (term_text names t)
free_term names t named sized = by (powers names t.0) (free_powers names t.0 named sized.exponents)
  where
    coefficient : Free (magnitude t.1)
    coefficient = free_magnitude t.1 (size_fits t.1.num sized.num) sized.den

    by : (ps : List (List ℕ)) → EachFree ps → Free (join_with_byte 42 (factors t.1 ps))
    by [] each = coefficient
    by (p ∷ ps) each = bare (is_unit t.1)
      where
        bare : (unit : Bool) → Free (join_with_byte 42 (if unit then p ∷ ps else magnitude t.1 ∷ p ∷ ps))
        bare true = free_joined p ps each.0 each.1
        bare false = free_joined (magnitude t.1) (p ∷ ps) coefficient each

free_later : (names : List (List ℕ)) (p : List (List ℕ × Frac)) → EachName names → AreSized p → Free (later_text names p)
free_later names [] named sized = tt
free_later names (t ∷ p) named sized = (refl, (by (is_negative t.1.num), (refl, Free-append (term_text names t) (later_text names p) (free_term names t named sized.0) (free_later names p named sized.1))))
  where
    by : (minus : Bool) → marks (if minus then 45 else 43) ≡ false
    by true = refl
    by false = refl

free_poly : (names : List (List ℕ)) (p : List (List ℕ × Frac)) → EachName names → AreSized p → Free (poly_text names p)
free_poly names [] named sized = (refl, tt)
free_poly names (t ∷ p) named sized =
    Free-append (if is_negative t.1.num then 45 ∷ [] else []) (term_text names t ++ later_text names p) (by (is_negative t.1.num))
    (Free-append (term_text names t) (later_text names p) (free_term names t named sized.0) (free_later names p named sized.1))
  where
    by : (minus : Bool) → Free (if minus then 45 ∷ [] else [])
    by true = (refl, tt)
    by false = tt

free_quotient : (names : List (List ℕ)) (F : RationalPair) → AreVariables names → IsPrintable names F → Free (quotient_text names F)
free_quotient names F variables is = by (is_one F.den)
  where
    num : Free (poly_text names F.num)
    num = free_poly names F.num (each_name names variables.named) is.sizes.num

    den : Free (poly_text names F.den)
    den = free_poly names F.den (each_name names variables.named) is.sizes.den

    by : (one : Bool) → Free (if one then poly_text names F.num else 40 ∷ (poly_text names F.num ++ 41 ∷ 47 ∷ 40 ∷ (poly_text names F.den ++ 41 ∷ [])))
    by true = num
    by false = (refl, Free-append (poly_text names F.num) (41 ∷ 47 ∷ 40 ∷ (poly_text names F.den ++ 41 ∷ [])) num (refl, (refl, (refl, Free-append (poly_text names F.den) (41 ∷ []) den (refl, tt)))))

free_product : (factors : List (List ℕ)) → EachFree factors → Free (product_text factors)
free_product [] each = (refl, tt)
free_product (factor ∷ factors) each = free_joined factor factors each.0 each.1

free_mono : (names : List (List ℕ)) (e : List ℕ) → AreVariables names → IsMonoIn names e → Free (mono_text names e)
free_mono names e variables is = free_product (powers names e) (free_powers names e (each_name names variables.named) is.low)

free_part : (part : Part) → Free (part_text part)
free_part Numerator = free_codes (codes "numerator") refl
free_part Denominator = free_codes (codes "denominator") refl

blank : Free (codes " ")
blank = free_codes (codes " ") refl

free_result : (names : List (List ℕ)) (result : Result) → AreVariables names → IsShown names result → Free (result_text names result)
free_result names (NoPair First) variables is = Free-append (codes "? nopair ") (decimal 1) (free_codes (codes "? nopair ") refl) (free_number 1 (lit≤ tt))
free_result names (NoPair Second) variables is = Free-append (codes "? nopair ") (decimal 2) (free_codes (codes "? nopair ") refl) (free_number 2 (lit≤ tt))
free_result names (Lifts (Lifted F)) variables is = Free-append (codes "= ") (quotient_text names F) (free_codes (codes "= ") refl) (free_quotient names F variables is)
free_result names (Lifts (Unlike first second)) variables is =
    Free-append (codes "? unlike ") (mono_text names first ++ (codes " " ++ mono_text names second)) (free_codes (codes "? unlike ") refl)
    (Free-append (mono_text names first) (codes " " ++ mono_text names second) (free_mono names first variables is.0)
    (Free-append (codes " ") (mono_text names second) blank (free_mono names second variables is.1)))
free_result names (Lifts (NoRational part e joint)) variables is =
    Free-append (codes "? norational ") (part_text part ++ (codes " " ++ (mono_text names e ++ (codes " " ++ decimal joint)))) (free_codes (codes "? norational ") refl)
    (Free-append (part_text part) (codes " " ++ (mono_text names e ++ (codes " " ++ decimal joint))) (free_part part)
    (Free-append (codes " ") (mono_text names e ++ (codes " " ++ decimal joint)) blank
    (Free-append (mono_text names e) (codes " " ++ decimal joint) (free_mono names e variables is.0)
    (Free-append (codes " ") (decimal joint) blank (free_number joint is.1)))))

free_line : (names : List (List ℕ)) (number : ℕ) (result : Result) → AreVariables names → number < 2 ^ 64 → IsShown names result → Free (result_line names number result)
free_line names number result variables low is =
    let wide : 2 ^ 64 < 2 ^ 128 = lit≤ tt in
    Free-append (codes "f") (decimal number ++ (codes " " ++ result_text names result)) (free_codes (codes "f") refl)
    (Free-append (decimal number) (codes " " ++ result_text names result) (free_number number (omega arith))
    (Free-append (codes " ") (result_text names result) blank (free_result names result variables is)))

-- ---- how the text is cut

-- the text has no line feed
abbrev pub Calm : List ℕ → Type 0
Calm [] = Unit {0}
Calm (b ∷ text) = ((b == 10) ≡ false) × Calm text

calm_free : (text : List ℕ) → Free text → Calm text
calm_free [] free = tt
calm_free (b ∷ text) free = (by (b == 10) free.0, calm_free text free.1)
  where
    by : (feed : Bool) → (feed || (b == 35)) ≡ false → feed ≡ false
    by false none = refl
    by true none = cc

Calm-append : (a b : List ℕ) → Calm a → Calm b → Calm (a ++ b)
Calm-append [] b first second = second
Calm-append (x ∷ a) b first second = (first.0, Calm-append a b first.1 second)

all_calm : (text : List ℕ) → Calm text → All (λ b. (b == 10) ≡ false) text
all_calm [] calm = λ k d low. absurd (omega arith)
all_calm (b ∷ text) calm = All-cons (λ b. (b == 10) ≡ false) b text calm.0 (all_calm text calm.1)

cut : (line rest : List ℕ) → Calm line → lines (line ++ 10 ∷ rest) ≡ line ∷ lines rest
cut line rest calm = slice_split_at (λ b. b == 10) line 10 rest (all_calm line calm) refl

-- ---- reports

calm_codes : (text : List ℕ) → list_all (λ b. not (b == 10)) text ≡ true → Calm text
calm_codes [] all = tt
calm_codes (b ∷ text) all = by (b == 10) refl all (calm_codes text)
  where
    by : (t : Bool) → (b == 10) ≡ t → (not t && list_all (λ b. not (b == 10)) text) ≡ true → (list_all (λ b. not (b == 10)) text ≡ true → Calm text) → Calm (b ∷ text)
    by true same all rest = cc
    by false other all rest = (other, rest all)

calm_methods : (first second : Method) → Calm (codes " # " ++ (method_text first ++ (codes " " ++ method_text second)))
calm_methods Rays Rays = calm_codes (codes " # rays rays") refl
calm_methods Rays Fit = calm_codes (codes " # rays fit") refl
calm_methods Fit Rays = calm_codes (codes " # fit rays") refl
calm_methods Fit Fit = calm_codes (codes " # fit fit") refl

calm_report : (report : Report) (result : Result) → Calm (report_text report result)
calm_report None result = tt
calm_report (Some methods) (NoPair m) = tt
calm_report (Some methods) (Lifts lift) = calm_methods (methods First) (methods Second)

-- what stands behind a result may stand behind a function
report_tail : (report : Report) (result : Result) → IsTail (report_text report result)
report_tail None result = inl refl
report_tail (Some methods) (NoPair m) = inl refl
report_tail (Some methods) (Lifts lift) = inr (methods, refl)

-- the line of a result, with its report
abbrev pub told_line : List (List ℕ) → (ℕ → Report) → ℕ → Result → List ℕ
told_line names reports number result = result_line names number result ++ report_text (reports number) result

calm_line : (names : List (List ℕ)) (reports : ℕ → Report) (number : ℕ) (result : Result) → AreVariables names → number < 2 ^ 64 → IsShown names result → Calm (told_line names reports number result)
calm_line names reports number result variables low is =
    Calm-append (result_line names number result) (report_text (reports number) result)
    (calm_free (result_line names number result) (free_line names number result variables low is)) (calm_report (reports number) result)

-- a tail begins with a blank and the sign, if with anything
signed : (x y : ℕ) (rest : List ℕ) → IsTail (x ∷ y ∷ rest) → (x ≡ 32) × (y ≡ 35)
signed x y rest (inl none) = cc
signed x y rest (inr told) = (ap (λ (t : List ℕ). slice_index t 0) told.1, ap (λ (t : List ℕ). slice_index t 1) told.1)

not_short : (x : ℕ) → IsTail (x ∷ []) → ⊥
not_short x (inl none) = cc
not_short x (inr told) = let no : 0 ≡ 35 = ap (λ (t : List ℕ). slice_index t 1) told.1 in absurd (omega (arith, no))

-- so texts without the sign are the same where they are the same with tails
no_sign : (b : List ℕ) (s t : List ℕ) → Free b → IsTail s → IsTail t → s ≡ b ++ t → b ≡ []
no_sign [] s t free first second same = refl
no_sign (y ∷ []) s [] free first second same = absurd (not_short y (subst IsTail same first))
no_sign (y ∷ []) s (z ∷ []) free first second same = absurd (not_short z second)
no_sign (y ∷ []) s (z ∷ u ∷ t) free first second same =
    let one = signed y z (u ∷ t) (subst IsTail same first) in
    let other = signed z u t second in
    absurd (omega (arith, one.1, other.0))
no_sign (y ∷ z ∷ b) s t free first second same =
    let one = signed y z (b ++ t) (subst IsTail same first) in
    let sign : marks 35 ≡ false = subst (λ (n : ℕ). marks n ≡ false) one.1 free.1.0 in
    cc

same_front : (a b s t : List ℕ) → Free a → Free b → IsTail s → IsTail t → a ++ s ≡ b ++ t → a ≡ b
same_front [] b s t left right first second same = sym (no_sign b s t right first second same)
same_front (x ∷ a) [] s t left right first second same = no_sign (x ∷ a) t s left second first (sym same)
same_front (x ∷ a) (y ∷ b) s t left right first second same =
    let heads : x ≡ y = ap (λ (u : List ℕ). slice_index u 0) same in
    let tails : a ++ s ≡ b ++ t = ap (λ (u : List ℕ). drop 1 u) same in
    ap (λ (z : ℕ). z ∷ a) heads ∙ ap (λ (u : List ℕ). y ∷ u) (same_front a b s t left.1 right.1 first second tails)

-- ---- which result a line tells

-- a quotient is known by its text in given names
abbrev pub OneQuotient : Type 0
OneQuotient = (names : List (List ℕ)) (p q : RationalPair) → AreVariables names → IsQuotientMap p → AreIn names p → HasSizes p → IsQuotientMap q → AreIn names q → HasSizes q →
    quotient_text names p ≡ quotient_text names q → p ≡ q

told_text : OneQuotient → (names : List (List ℕ)) (result : Result) (F : RationalPair) (s t : List ℕ) → AreVariables names → IsShown names result → IsPrintable names F → IsTail s → IsTail t →
    result_text names result ++ s ≡ (codes "= " ++ quotient_text names F) ++ t → result ≡ Lifts (Lifted F)
told_text once names (NoPair m) F s t variables shown is first second same =
    let no : 63 ≡ 61 = ap (λ (t : List ℕ). slice_index t 0) same in
    absurd (omega (arith, no))
told_text once names (Lifts (Lifted G)) F s t variables shown is first second same =
    ap (λ H. Lifts (Lifted H)) (once names G F variables shown.map shown.inside shown.sizes is.map is.inside is.sizes
    (same_front (quotient_text names G) (quotient_text names F) s t (free_quotient names G variables shown) (free_quotient names F variables is) first second
    (append_cancel_left (codes "= ") (quotient_text names G ++ s) (quotient_text names F ++ t) same)))
told_text once names (Lifts (Unlike first second)) F s t variables shown is front back same =
    let no : 63 ≡ 61 = ap (λ (t : List ℕ). slice_index t 0) same in
    absurd (omega (arith, no))
told_text once names (Lifts (NoRational part e joint)) F s t variables shown is front back same =
    let no : 63 ≡ 61 = ap (λ (t : List ℕ). slice_index t 0) same in
    absurd (omega (arith, no))

-- a line with something behind it, opened
opened : (names : List (List ℕ)) (number : ℕ) (result : Result) (tail : List ℕ) →
    result_line names number result ++ tail ≡ codes "f" ++ (decimal number ++ (codes " " ++ (result_text names result ++ tail)))
opened names number result tail = ap (λ (rest : List ℕ). codes "f" ++ rest) (append_assoc (decimal number) (codes " " ++ result_text names result) tail)

line_told : OneQuotient → (names : List (List ℕ)) (reports : ℕ → Report) (number : ℕ) (result : Result) (F : RationalPair) (tail : List ℕ) → AreVariables names → IsShown names result → IsPrintable names F → IsTail tail →
    told_line names reports number result ≡ function_line names number F ++ tail → result ≡ Lifts (Lifted F)
line_told once names reports number result F tail variables shown is ends same =
    let own = report_text (reports number) result in
    told_text once names result F own tail variables shown is (report_tail (reports number) result) ends
    (append_cancel_left (codes " ") (result_text names result ++ own) ((codes "= " ++ quotient_text names F) ++ tail)
    (append_cancel_left (decimal number) (codes " " ++ (result_text names result ++ own)) (codes " " ++ ((codes "= " ++ quotient_text names F) ++ tail))
    (append_cancel_left (codes "f") (decimal number ++ (codes " " ++ (result_text names result ++ own))) (decimal number ++ (codes " " ++ ((codes "= " ++ quotient_text names F) ++ tail)))
    (sym (opened names number result own) ∙ same ∙ opened names number (Lifts (Lifted F)) tail))))

some_same : {A : Type 0} (a b : A) → Some a ≡ Some b → a ≡ b
some_same a b same = cc

told_from : OneQuotient → (names : List (List ℕ)) (reports : ℕ → Report) (number : ℕ) (results : List Result) (k : ℕ) (F : RationalPair) (tail : List ℕ) → AreVariables names → number + length results < 2 ^ 64 → AreShown names results →
    IsPrintable names F → IsTail tail → slice_get (lines (lines_from names reports number results)) k ≡ Some (function_line names (number + k) F ++ tail) → slice_get results k ≡ Some (Lifts (Lifted F))
told_from once names reports number [] zero F tail variables low shown is ends line =
    let blank : [] ≡ function_line names (number + 0) F ++ tail = some_same [] (function_line names (number + 0) F ++ tail) line in
    let no : 0 ≡ 102 = ap (λ (t : List ℕ). slice_index t 0) blank in
    absurd (omega (arith, no))
told_from once names reports number [] (suc k) F tail variables low shown is ends line = cc
told_from once names reports number (result ∷ results) k F tail variables low shown is ends line =
    at (told_from once names reports (number + 1) results) k (ap (λ all. slice_get all k) (sym (cut (told_line names reports number result) (lines_from names reports (number + 1) results) (calm_line names reports number result variables (omega arith) shown.0))) ∙ line)
  where
    at : ((k : ℕ) (F : RationalPair) (tail : List ℕ) → AreVariables names → number + 1 + length results < 2 ^ 64 → AreShown names results → IsPrintable names F → IsTail tail →
        slice_get (lines (lines_from names reports (number + 1) results)) k ≡ Some (function_line names (number + 1 + k) F ++ tail) → slice_get results k ≡ Some (Lifts (Lifted F))) →
        (k : ℕ) → slice_get (told_line names reports number result ∷ lines (lines_from names reports (number + 1) results)) k ≡ Some (function_line names (number + k) F ++ tail) → slice_get (result ∷ results) k ≡ Some (Lifts (Lifted F))
    at later zero line =
        let whole : number + 0 ≡ number = omega arith in
        ap Some (line_told once names reports number result F tail variables shown.0 is ends (some_same (told_line names reports number result) (function_line names number F ++ tail) (line ∙ ap (λ n. Some (function_line names n F ++ tail)) whole)))
    at later (suc k) line =
        let next : number + suc k ≡ number + 1 + k = omega arith in
        later k F tail variables (omega arith) shown.1 is ends (line ∙ ap (λ n. Some (function_line names n F ++ tail)) next)

pub printed_found : OneQuotient → (names : List (List ℕ)) (reports : ℕ → Report) (results : List Result) (k : ℕ) (F : RationalPair) → AreVariables names → length results < 2 ^ 32 → AreShown names results →
    PrintsFunction names (results_text names reports results) k (k + 1) F → slice_get results k ≡ Some (Lifts (Lifted F))
printed_found once names reports results k F variables low shown prints =
    let number : k + 1 ≡ 1 + k = omega arith in
    told_from once names reports 1 results k F prints.tail variables (let narrow : 2 ^ 32 + 1 < 2 ^ 64 = lit≤ tt in omega arith) shown prints.printable prints.ends
    (prints.line ∙ ap (λ n. Some (function_line names n F ++ prints.tail)) number)

-- ---- the line of a result

shown_at : (names : List (List ℕ)) (results : List Result) (k : ℕ) (result : Result) → AreShown names results → slice_get results k ≡ Some result → IsShown names result
shown_at names [] zero result shown there = cc
shown_at names [] (suc k) result shown there = cc
shown_at names (first ∷ results) zero result shown there = subst (IsShown names) (some_same first result there) shown.0
shown_at names (first ∷ results) (suc k) result shown there = shown_at names results k result shown.1 there

line_from : (names : List (List ℕ)) (reports : ℕ → Report) (number : ℕ) (results : List Result) (k : ℕ) (result : Result) → AreVariables names → number + length results < 2 ^ 64 → AreShown names results →
    slice_get results k ≡ Some result → slice_get (lines (lines_from names reports number results)) k ≡ Some (told_line names reports (number + k) result)
line_from names reports number [] zero result variables low shown there = cc
line_from names reports number [] (suc k) result variables low shown there = cc
line_from names reports number (first ∷ results) k result variables low shown there =
    ap (λ all. slice_get all k) (cut (told_line names reports number first) (lines_from names reports (number + 1) results) (calm_line names reports number first variables (omega arith) shown.0)) ∙
    at (line_from names reports (number + 1) results) k there
  where
    at : ((k : ℕ) (result : Result) → AreVariables names → number + 1 + length results < 2 ^ 64 → AreShown names results →
        slice_get results k ≡ Some result → slice_get (lines (lines_from names reports (number + 1) results)) k ≡ Some (told_line names reports (number + 1 + k) result)) →
        (k : ℕ) → slice_get (first ∷ results) k ≡ Some result →
        slice_get (told_line names reports number first ∷ lines (lines_from names reports (number + 1) results)) k ≡ Some (told_line names reports (number + k) result)
    at later zero there =
        let whole : number ≡ number + 0 = omega arith in
        ap (λ r. Some (told_line names reports number r)) (some_same first result there) ∙ ap (λ n. Some (told_line names reports n result)) whole
    at later (suc k) there =
        let next : number + 1 + k ≡ number + suc k = omega arith in
        later k result variables (omega arith) shown.1 there ∙ ap (λ n. Some (told_line names reports n result)) next

pub found_printed : (names : List (List ℕ)) (reports : ℕ → Report) (results : List Result) (k : ℕ) (F : RationalPair) → AreVariables names → length results < 2 ^ 32 → AreShown names results →
    slice_get results k ≡ Some (Lifts (Lifted F)) → PrintsFunction names (results_text names reports results) k (k + 1) F
found_printed names reports results k F variables low shown there =
    let number : 1 + k ≡ k + 1 = omega arith in
    record {
      printable = shown_at names results k (Lifts (Lifted F)) shown there;
      tail = report_text (reports (k + 1)) (Lifts (Lifted F));
      ends = report_tail (reports (k + 1)) (Lifts (Lifted F));
      line = line_from names reports 1 results k (Lifts (Lifted F)) variables (let narrow : 2 ^ 32 + 1 < 2 ^ 64 = lit≤ tt in omega arith) shown there ∙
          ap (λ n. Some (told_line names reports n (Lifts (Lifted F)))) number;
    }
