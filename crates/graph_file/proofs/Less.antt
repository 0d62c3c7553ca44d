-- Numbers of any length, held against each other by their digits.
use Rattle.std.proofs.Common.{◌≡◌, ◌<◌, ◌≤◌, ◌+◌, ◌*◌, ◌-◌, ℕ, zero, suc, Bool, true, false, not, ◌&&◌, ◌==◌, cond, refl, sym, ap, subst, ◌∙◌, List, [], ◌∷◌, length, map, drop, get_or, Option, Some, None, nat_lt, arith, add-one}
use mathlib.Core.Logic.{⊎_elim}
use Rattle.std.specs.Borrow.{Bor}
use Rattle.std.specs.Char.{digit_value, is_ascii_digit}
use Rattle.std.specs.List.{list_all, position_or_len}
use Rattle.std.specs.Str.Parse.{digits_value, digits_value_after}
use Rattle.std.proofs.lemmas.Bool.{cases_lt}
use Rattle.std.proofs.lemmas.Bool.Decides.{nat_tests}
use Rattle.ratfun_text.specs.Bytes.{is_digits, number_of}
use Rattle.graph_file.specs.Digits.{comes_before}
use Rattle.graph_file.specs.Line.{are_ascending, are_less}
use Rattle.graph_file.proofs.Passes.{both}

-- digits
abbrev Digits : List ℕ → Type 0
Digits ds = list_all is_ascii_digit ds ≡ true

digit_below : (d : ℕ) → is_ascii_digit d ≡ true → digit_value d < 10
digit_below d digit = let is : digit_value d ≡ d - 48 = grind (arith, nat_tests) in grind (arith, nat_tests)

digit_order : (d e : ℕ) → is_ascii_digit d ≡ true → is_ascii_digit e ≡ true → d < e → digit_value d < digit_value e
digit_order d e first second less =
    let is : digit_value d ≡ d - 48 = grind (arith, nat_tests) in
    let other : digit_value e ≡ e - 48 = grind (arith, nat_tests) in
    let low : 48 ≤ d = grind (arith, nat_tests) in
    omega (arith, is, other, low, less)

digit_positive : (d : ℕ) → is_ascii_digit d ≡ true → (d == 48) ≡ false → 0 < digit_value d
digit_positive d digit other =
    let is : digit_value d ≡ d - 48 = grind (arith, nat_tests) in
    let low : 48 ≤ d = grind (arith, nat_tests) in
    let apart : (d ≡ 48 → ⊥) = λ same. let told : (48 == 48) ≡ false = subst (λ (n : ℕ). (n == 48) ≡ false) same other in cc in
    ⊎_elim
    (λ (less : 48 < d). omega (arith, is, less))
    (λ (most : d ≤ 48). absurd (apart (omega (arith, low, most))))
    (cases_lt 48 d)

-- with more in front, and as many digits behind, a number is greater
grows : (u v : ℕ) (ds es : List ℕ) → length ds ≡ length es → Digits ds → u < v → digits_value_after 10 u ds < digits_value_after 10 v es
grows u v [] [] same digits less = less
grows u v [] (e ∷ es) same digits less = absurd (omega (arith, same))
grows u v (d ∷ ds) [] same digits less = absurd (omega (arith, same))
grows u v (d ∷ ds) (e ∷ es) same digits less =
    let parts : (is_ascii_digit d ≡ true) × Digits ds = both _ _ digits in
    let small : digit_value d < 10 = digit_below d parts.0 in
    grows (u * 10 + digit_value d) (v * 10 + digit_value e) ds es (omega (arith, same)) parts.1 (omega (arith, less, small))

lt_true : (m n : ℕ) → m < n → true ≡ nat_lt m n
lt_true m n less = grind (arith, nat_tests)

lt_false : (m n : ℕ) → n ≤ m → false ≡ nat_lt m n
lt_false m n less = grind (arith, nat_tests)

-- of as many digits, the first place at which they differ decides
before_is : (u : ℕ) (ds es : List ℕ) → length ds ≡ length es → Digits ds → Digits es → comes_before ds es ≡ nat_lt (digits_value_after 10 u ds) (digits_value_after 10 u es)
before_is u [] [] same first second = lt_false u u (omega arith)
before_is u [] (e ∷ es) same first second = absurd (omega (arith, same))
before_is u (d ∷ ds) [] same first second = absurd (omega (arith, same))
before_is u (d ∷ ds) (e ∷ es) same first second = from (d == e) refl (before_is (u * 10 + digit_value d) ds es (omega (arith, same)) (both _ _ first).1 (both _ _ second).1)
  where
    lengths : length ds ≡ length es
    lengths = omega (arith, same)

    from : (b : Bool) → (d == e) ≡ b → comes_before ds es ≡ nat_lt (digits_value_after 10 (u * 10 + digit_value d) ds) (digits_value_after 10 (u * 10 + digit_value d) es) → cond b (comes_before ds es) (nat_lt d e) ≡ nat_lt (digits_value_after 10 (u * 10 + digit_value d) ds) (digits_value_after 10 (u * 10 + digit_value e) es)
    from true is later = let equal : d ≡ e = grind (arith, nat_tests, is) in later ∙ ap (λ x. nat_lt (digits_value_after 10 (u * 10 + digit_value d) ds) (digits_value_after 10 (u * 10 + digit_value x) es)) equal
    from false is later = ⊎_elim
        (λ (less : d < e).
        let lower : digit_value d < digit_value e = digit_order d e (both _ _ first).0 (both _ _ second).0 less in
        sym (lt_true d e less) ∙ lt_true _ _ (grows (u * 10 + digit_value d) (u * 10 + digit_value e) ds es lengths (both _ _ first).1 (omega (arith, lower))))
        (λ (most : e ≤ d).
        let more : e < d = apart most in
        let higher : digit_value e < digit_value d = digit_order e d (both _ _ second).0 (both _ _ first).0 more in
        let above : digits_value_after 10 (u * 10 + digit_value e) es < digits_value_after 10 (u * 10 + digit_value d) ds = grows (u * 10 + digit_value e) (u * 10 + digit_value d) es ds (sym lengths) (both _ _ second).1 (omega (arith, higher)) in
        sym (lt_false d e most) ∙ lt_false _ _ (omega (arith, above)))
        (cases_lt d e)
      where
        apart : e ≤ d → e < d
        apart most = grind (arith, nat_tests, is)

-- a number with more digits, the first of which isn't 0, is greater
longer : (u : ℕ) (ds es : List ℕ) → 0 < u → length ds ≤ length es → Digits ds → digits_value_after 10 0 ds < digits_value_after 10 u es
longer u ds [] more within digits = grows 0 u ds [] (omega (arith, within)) digits more
longer u ds (e ∷ es) more within digits = ⊎_elim
    (λ (less : length ds < length (e ∷ es)). longer (u * 10 + digit_value e) ds es (omega (arith, more)) (omega (arith, less)) digits)
    (λ (most : length (e ∷ es) ≤ length ds). grows 0 u ds (e ∷ es) (omega (arith, within, most)) digits more)
    (cases_lt (length ds) (length (e ∷ es)))

one_more : (n : ℕ) → suc n ≡ 1 + n
one_more n = omega arith

-- without its leading zeros
abbrev significant : List ℕ → List ℕ
significant ds = drop (position_or_len (λ digit. not (digit == 48)) ds) ds

-- it writes the same number, with a first digit that isn't 0
record IsShort (ds short : List ℕ) : Type 0 where
  value : digits_value 10 short ≡ digits_value 10 ds
  digits : Digits short
  first : (d : ℕ) (rest : List ℕ) → short ≡ d ∷ rest → (d == 48) ≡ false

short_is : (ds : List ℕ) → Digits ds → IsShort ds (significant ds)
short_is [] digits = record { value = refl; digits = refl; first = λ d rest is. cc }
short_is (d ∷ ds) digits = from (d == 48) refl (short_is ds (both _ _ digits).1)
  where
    from : (b : Bool) → (d == 48) ≡ b → IsShort ds (significant ds) → IsShort (d ∷ ds) (drop (cond (not (not b)) (1 + position_or_len (λ digit. not (digit == 48)) ds) 0) (d ∷ ds))
    from true is later =
        let zero_is : d ≡ 48 = grind (arith, nat_tests, is) in
        subst (λ n. IsShort (d ∷ ds) (drop n (d ∷ ds))) (one_more (position_or_len (λ digit. not (digit == 48)) ds)) (record {
          value = later.value ∙ ap (λ (x : ℕ). digits_value_after 10 (0 * 10 + digit_value x) ds) (sym zero_is);
          digits = later.digits;
          first = later.first;
        })
    from false is later = record { value = refl; digits = digits; first = λ e rest same. let equal : d ≡ e = cc in subst (λ (x : ℕ). (x == 48) ≡ false) equal is }

-- the shorter of two is less
shorter_less : (ds es xs ys : List ℕ) → IsShort ds xs → IsShort es ys → length xs < length ys → digits_value 10 ds < digits_value 10 es
shorter_less ds es xs [] first second less = absurd (omega (arith, less))
shorter_less ds es xs (y ∷ ys) first second less =
    let digit : is_ascii_digit y ≡ true = (both _ _ second.digits).0 in
    let some : 0 < digit_value y = digit_positive y digit (second.first y ys refl) in
    let below : digits_value_after 10 0 xs < digits_value_after 10 (0 * 10 + digit_value y) ys = longer (0 * 10 + digit_value y) xs ys (omega (arith, some)) (omega (arith, less)) first.digits in
    omega (arith, below, first.value, second.value)

digits_all : (text : List ℕ) → is_digits text ≡ true → Digits text
digits_all [] digits = cc
digits_all (d ∷ ds) digits = digits

of_digits : (text : List ℕ) → is_digits text ≡ true → number_of text ≡ Some (digits_value 10 text)
of_digits text digits = ap (λ b. cond b (Some (digits_value 10 text)) None) digits

less_of : (first second : List ℕ) → is_digits first ≡ true → is_digits second ≡ true → nat_lt (digits_value 10 first) (digits_value 10 second) ≡ are_less (number_of first) (number_of second)
less_of first second one two = ap (λ o. are_less o (Some (digits_value 10 second))) (sym (of_digits first one)) ∙ ap (λ o. are_less (number_of first) o) (sym (of_digits second two))

-- numbers without leading zeros, of as many digits or not
pub less-apart : (first second xs ys : List ℕ) → is_digits first ≡ true → is_digits second ≡ true → xs ≡ significant first → ys ≡ significant second → (length xs ≡ length ys → ⊥) → nat_lt (length xs) (length ys) ≡ are_less (number_of first) (number_of second)
less-apart first second xs ys one two xs_are ys_are other =
    let a : IsShort first xs = subst (IsShort first) (sym xs_are) (short_is first (digits_all first one)) in
    let b : IsShort second ys = subst (IsShort second) (sym ys_are) (short_is second (digits_all second two)) in
    ⊎_elim
    (λ (less : length xs < length ys). sym (lt_true _ _ less) ∙ lt_true _ _ (shorter_less first second xs ys a b less) ∙ less_of first second one two)
    (λ (most : length ys ≤ length xs).
    let more : length ys < length xs = ⊎_elim (λ (under : length ys < length xs). under) (λ (over : length xs ≤ length ys). absurd (other (omega (arith, over, most)))) (cases_lt (length ys) (length xs)) in
    let above : digits_value 10 second < digits_value 10 first = shorter_less second first ys xs b a more in
    sym (lt_false _ _ most) ∙ lt_false _ _ (omega (arith, above)) ∙ less_of first second one two)
    (cases_lt (length xs) (length ys))

pub less-alike : (first second xs ys : List ℕ) → is_digits first ≡ true → is_digits second ≡ true → xs ≡ significant first → ys ≡ significant second → length xs ≡ length ys → comes_before xs ys ≡ are_less (number_of first) (number_of second)
less-alike first second xs ys one two xs_are ys_are same =
    let a : IsShort first xs = subst (IsShort first) (sym xs_are) (short_is first (digits_all first one)) in
    let b : IsShort second ys = subst (IsShort second) (sym ys_are) (short_is second (digits_all second two)) in
    before_is 0 xs ys same a.digits b.digits
    ∙ ap (λ n. nat_lt n (digits_value 10 ys)) a.value ∙ ap (λ n. nat_lt (digits_value 10 first) n) b.value
    ∙ less_of first second one two

not_number : (text : List ℕ) → is_digits text ≡ false → number_of text ≡ None
not_number text other = ap (λ b. cond b (Some (digits_value 10 text)) None) other

none_less : (o : Option ℕ) → are_less o None ≡ false
none_less None = refl
none_less (Some n) = refl

pub less-first : (first second : List ℕ) → is_digits first ≡ false → false ≡ are_less (number_of first) (number_of second)
less-first first second other = sym (ap (λ o. are_less o (number_of second)) (not_number first other))

pub less-second : (first second : List ℕ) → is_digits second ≡ false → false ≡ are_less (number_of first) (number_of second)
less-second first second other = sym (ap (λ o. are_less (number_of first) o) (not_number second other) ∙ none_less (number_of first))

-- one digit after the other
step_from : (first second : List ℕ) (i : ℕ) → i < length first → length first ≡ length second → get_or first i 0 ≡ get_or second i 0 → comes_before (drop i first) (drop i second) ≡ comes_before (drop (suc i) first) (drop (suc i) second)
step_from [] second i within same alike = absurd (omega (arith, within))
step_from (d ∷ ds) [] i within same alike = absurd (omega (arith, same))
step_from (d ∷ ds) (e ∷ es) zero within same alike = ap (λ b. cond b (comes_before ds es) (nat_lt d e)) (let test : (d == e) ≡ true = grind (arith, nat_tests, alike) in test)
step_from (d ∷ ds) (e ∷ es) (suc i) within same alike = step_from ds es i (omega (arith, within)) (omega (arith, same)) alike

pub before-step : (first second : List ℕ) (i : ℕ) → i < length first → length first ≡ length second → get_or first i 0 ≡ get_or second i 0 → comes_before (drop i first) (drop i second) ≡ comes_before (drop (i + 1) first) (drop (i + 1) second)
before-step first second i within same alike = step_from first second i within same alike ∙ ap (λ n. comes_before (drop n first) (drop n second)) (sym (add-one i))

pub before-decided : (first second : List ℕ) (i : ℕ) → i < length first → length first ≡ length second → (get_or first i 0 == get_or second i 0) ≡ false → comes_before (drop i first) (drop i second) ≡ nat_lt (get_or first i 0) (get_or second i 0)
before-decided [] second i within same other = absurd (omega (arith, within))
before-decided (d ∷ ds) [] i within same other = absurd (omega (arith, same))
before-decided (d ∷ ds) (e ∷ es) zero within same other = ap (λ b. cond b (comes_before ds es) (nat_lt d e)) other
before-decided (d ∷ ds) (e ∷ es) (suc i) within same other = before-decided ds es i (omega (arith, within)) (omega (arith, same)) other

pub before-end : (first second : List ℕ) → comes_before (drop (length first) first) (drop (length first) second) ≡ false
before-end [] second = refl
before-end (d ∷ ds) [] = before_nothing (drop (length ds) ds)
  where
    before_nothing : (xs : List ℕ) → comes_before xs [] ≡ false
    before_nothing [] = refl
    before_nothing (x ∷ xs) = refl
before-end (d ∷ ds) (e ∷ es) = before-end ds es

-- one word after the other
ascend_at : (before : List ℕ) (words : List (Bor (List ℕ))) (i : ℕ) (d : Bor (List ℕ)) → i < length words → are_ascending (before ∷ drop i (map (λ word. word.now) words)) ≡ (are_less (number_of before) (number_of (get_or words i d).now) && are_ascending ((get_or words i d).now ∷ drop (suc i) (map (λ word. word.now) words)))
ascend_at before [] i d within = absurd (omega (arith, within))
ascend_at before (w ∷ words) zero d within = refl
ascend_at before (w ∷ words) (suc i) d within = ascend_at before words i d (omega (arith, within))

pub ascend-step : (before : List ℕ) (words : List (Bor (List ℕ))) (i : ℕ) (d : Bor (List ℕ)) → i < length words → are_less (number_of before) (number_of (get_or words i d).now) ≡ true → are_ascending (before ∷ drop i (map (λ word. word.now) words)) ≡ are_ascending ((get_or words i d).now ∷ drop (i + 1) (map (λ word. word.now) words))
ascend-step before words i d within less =
    ascend_at before words i d within
    ∙ ap (λ b. b && are_ascending ((get_or words i d).now ∷ drop (suc i) (map (λ word. word.now) words))) less
    ∙ ap (λ n. are_ascending ((get_or words i d).now ∷ drop n (map (λ word. word.now) words))) (sym (add-one i))

pub ascend-stop : (before : List ℕ) (words : List (Bor (List ℕ))) (i : ℕ) (d : Bor (List ℕ)) → i < length words → are_less (number_of before) (number_of (get_or words i d).now) ≡ false → are_ascending (before ∷ drop i (map (λ word. word.now) words)) ≡ false
ascend-stop before words i d within less =
    ascend_at before words i d within
    ∙ ap (λ b. b && are_ascending ((get_or words i d).now ∷ drop (suc i) (map (λ word. word.now) words))) less
