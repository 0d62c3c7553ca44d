-- The powers of a term are read from their text again.
use Rattle.std.proofs.Common.{◌≡◌, ◌≢◌, ℕ, suc, ◌+◌, ◌^◌, ◌<◌, ◌≤◌, ◌==◌, Bool, true, false, cond, ◌&&◌, List, [], ◌∷◌, ◌++◌, length, Some, None, refl, sym, ap, subst, ◌∙◌, append_assoc, append-nil, arith, inl, inr, slice_get, slice_index, slice_set, bytes_eq, decimal, IsTrue, eq-eqb, lit≤}
use Rattle.std.specs.Char.{is_ascii_digit, is_ascii_alphabetic, digit_value}
use Rattle.std.specs.List.{join_with_byte, list_all}
use Rattle.std.specs.Option.{option_and_then, unwrap_or}
use Rattle.std.specs.Str.Parse.{AllDigits, IsNumeral, digits_value}
use Rattle.std.proofs.Math.Seq.{set-append_seam}
use Rattle.std.proofs.lemmas.Bool.{cases_eq, ne_eqb, false_from_ne_true}
use Rattle.std.proofs.lemmas.Bool.Decides.{nat_tests}
use Rattle.std.proofs.lemmas.Fmt.{decimal_is_IsNumeral_wide}
use Rattle.std.proofs.lemmas.Slice.Eq.{bytes_eq-Decides}
use Rattle.std.proofs.lemmas.Str.Parse.{digit_from_value}
use Rattle.ratfun_text.specs.Bytes.{is_name, is_name_byte, is_digits, narrow}
use Rattle.ratfun_text.specs.Printed.{AreVariables, IsIn, power, powers}
use Rattle.ratfun_text.specs.Reading.{before, behind, number_in, number_behind, begins_with_digit, begins_with_byte, begins_with, exponent_in, powers_after, with_powers, zeros}
use Rattle.ratfun_text.proofs.Cuts.{Free, Free-append, before-front, behind-front, before-all, behind-all}

-- bytes of names and digits are no separators

pub all_free : (c : ℕ) → is_name_byte c ≡ false → (text : List ℕ) → list_all is_name_byte text ≡ true → Free c text
all_free c out [] h = tt
all_free c out (b ∷ text) h =
    let both : (is_name_byte b ≡ true) × (list_all is_name_byte text ≡ true) = and_true (is_name_byte b) (list_all is_name_byte text) h in
    (ne_eqb b c (λ e. let f : is_name_byte c ≡ true = subst (λ (x : ℕ). is_name_byte x ≡ true) e both.0 in cc), all_free c out text both.1)
  where
    and_true : (a b : Bool) → (a && b) ≡ true → (a ≡ true) × (b ≡ true)
    and_true true b h = (refl, h)
    and_true false b h = cc

-- digits

digit_byte : (c : ℕ) → digit_value c < 10 → is_ascii_digit c ≡ true
digit_byte c h = let r = digit_from_value c h in grind (arith, nat_tests)

digit_name_byte : (c : ℕ) → digit_value c < 10 → is_name_byte c ≡ true
digit_name_byte c h = let r = digit_from_value c h in grind (arith, nat_tests)

digits_pass : (ds : List ℕ) → AllDigits 10 ds → list_all is_ascii_digit ds ≡ true
digits_pass [] h = refl
digits_pass (d ∷ ds) h = ap (λ b. b && list_all is_ascii_digit ds) (digit_byte d h.0) ∙ digits_pass ds h.1

digits_names : (ds : List ℕ) → AllDigits 10 ds → list_all is_name_byte ds ≡ true
digits_names [] h = refl
digits_names (d ∷ ds) h = ap (λ b. b && list_all is_name_byte ds) (digit_name_byte d h.0) ∙ digits_names ds h.1

narrow_low : (limit n : ℕ) → n < limit → narrow limit n ≡ Some n
narrow_low limit n low = grind (arith, nat_tests)

pub digits_read : (limit n : ℕ) (ds : List ℕ) → IsNumeral 10 ds × (digits_value 10 ds ≡ n) → n < limit → number_in limit ds ≡ n
digits_read limit n [] h low = absurd (omega (arith, h.0.0))
digits_read limit n (d ∷ ds) h low =
    let all : is_digits (d ∷ ds) ≡ true = digits_pass (d ∷ ds) h.0.1 in
    ap (λ b. unwrap_or (option_and_then (narrow limit) (cond b (Some (digits_value 10 (d ∷ ds))) None)) 0) all
    ∙ ap (λ m. unwrap_or (narrow limit m) 0) h.1
    ∙ ap (λ o. unwrap_or o 0) (narrow_low limit n low)

pub digits_behind : (limit n : ℕ) (ds : List ℕ) → IsNumeral 10 ds × (digits_value 10 ds ≡ n) → n < limit → number_behind limit ds ≡ n
digits_behind limit n [] h low = absurd (omega (arith, h.0.0))
digits_behind limit n (d ∷ ds) h low = digits_read limit n (d ∷ ds) h low

pub digits_begin : (n : ℕ) (ds more : List ℕ) → IsNumeral 10 ds × (digits_value 10 ds ≡ n) → begins_with_digit (ds ++ more) ≡ true
digits_begin n [] more h = absurd (omega (arith, h.0.0))
digits_begin n (d ∷ ds) more h = digit_byte d h.0.1.0

pub wide : (n : ℕ) → n < 2 ^ 128 → n < 10 ^ 64
wide n h = let l : 2 ^ 128 ≤ 10 ^ 64 = lit≤ tt in omega arith

pub decimal_free : (c n : ℕ) → is_name_byte c ≡ false → n < 2 ^ 128 → Free c (decimal n)
decimal_free c n out h = all_free c out (decimal n) (digits_names (decimal n) (decimal_is_IsNumeral_wide n (wide n h)).0.1)

-- names

abbrev pub AreWords : List (List ℕ) → Type 0
AreWords [] = Unit {0}
AreWords (name ∷ names) = (is_name name ≡ true) × AreWords names

abbrev pub Apart : List ℕ → List (List ℕ) → Type 0
Apart name [] = Unit {0}
Apart name (other ∷ names) = (name ≢ other) × Apart name names

abbrev pub AreApart : List (List ℕ) → Type 0
AreApart [] = Unit {0}
AreApart (name ∷ names) = Apart name names × AreApart names

words_from : (names : List (List ℕ)) → ((k : ℕ) (name : List ℕ) → slice_get names k ≡ Some name → IsTrue (is_name name)) → AreWords names
words_from [] h = tt
words_from (name ∷ names) h = (h 0 name refl, words_from names (λ k. h (suc k)))

apart_from : (name : List ℕ) (names : List (List ℕ)) → ((k : ℕ) → slice_get names k ≡ Some name → ⊥) → Apart name names
apart_from name [] h = tt
apart_from name (other ∷ names) h = (λ e. h 0 (ap (λ n. Some n) (sym e)), apart_from name names (λ k. h (suc k)))

all_apart : (names : List (List ℕ)) → ((i j : ℕ) (name : List ℕ) → slice_get names i ≡ Some name → slice_get names j ≡ Some name → i ≡ j) → AreApart names
all_apart [] h = tt
all_apart (name ∷ names) h = (
  apart_from name names (λ k e. let same : 0 ≡ suc k = h 0 (suc k) name refl e in cc),
  all_apart names (λ i j other e f. let same : suc i ≡ suc j = h (suc i) (suc j) other e f in cc),
)

-- what is asked of names, place by place
pub record AreGood (names : List (List ℕ)) : Type 0 where
  pub words : AreWords names
  pub apart : AreApart names

pub good_names : (names : List (List ℕ)) → AreVariables names → AreGood names
good_names names v = record { words = words_from names v.named; apart = all_apart names v.distinct }

name_bytes : (name : List ℕ) → is_name name ≡ true → list_all is_name_byte name ≡ true
name_bytes [] h = cc
name_bytes (b ∷ rest) h = first (is_ascii_alphabetic b) (list_all is_name_byte rest) (is_name_byte b) h (letter b)
  where
    letter : (b : ℕ) → is_ascii_alphabetic b ≡ true → is_name_byte b ≡ true
    letter b h = grind (arith, nat_tests)

    first : (a c d : Bool) → (a && c) ≡ true → (a ≡ true → d ≡ true) → (d && c) ≡ true
    first true c d h f = ap (λ x. x && c) (f refl) ∙ h
    first false c d h f = cc

pub name_free : (c : ℕ) → is_name_byte c ≡ false → (name : List ℕ) → is_name name ≡ true → Free c name
name_free c out name h = all_free c out name (name_bytes name h)

name_begins : (name more : List ℕ) → is_name name ≡ true → begins_with_digit (name ++ more) ≡ false
name_begins [] more h = cc
name_begins (b ∷ rest) more h = letter b (first (is_ascii_alphabetic b) (list_all is_name_byte rest) h)
  where
    letter : (b : ℕ) → is_ascii_alphabetic b ≡ true → is_ascii_digit b ≡ false
    letter b h = grind (arith, nat_tests)

    first : (a c : Bool) → (a && c) ≡ true → a ≡ true
    first true c h = refl
    first false c h = cc

name_some : (name : List ℕ) → is_name name ≡ true → bytes_eq [] name ≡ false
name_some [] h = cc
name_some (b ∷ rest) h = refl

-- powers

record IsPower (name : List ℕ) (k : ℕ) : Type 0 where
  word : is_name name ≡ true
  some : k ≢ 0
  small : k < 2 ^ 16

power_one : (name : List ℕ) → power name 1 ≡ name
power_one name = refl

power_more : (name : List ℕ) (k : ℕ) → k ≢ 1 → power name k ≡ name ++ 94 ∷ decimal k
power_more name k more = ap (λ b. cond b name (name ++ 94 ∷ decimal k)) (ne_eqb k 1 more)

small_wide : (k : ℕ) → k < 2 ^ 16 → k < 2 ^ 128
small_wide k h = let l : 2 ^ 16 ≤ 2 ^ 128 = lit≤ tt in omega arith

power_free : (c : ℕ) → is_name_byte c ≡ false → (94 == c) ≡ false → (name : List ℕ) (k : ℕ) → IsPower name k → Free c (power name k)
power_free c out other name k p = elim (cases_eq k 1) [
  | inl e ↦ subst (λ (n : ℕ). Free c (power name n)) (sym e) (name_free c out name p.word)
  | inr more ↦ subst (λ (t : List ℕ). Free c t) (sym (power_more name k more)) (Free-append c name (94 ∷ decimal k) (name_free c out name p.word) (other, decimal_free c k out (small_wide k p.small)))
]

power_before : (name : List ℕ) (k : ℕ) → IsPower name k → before 94 (power name k) ≡ name
power_before name k p = elim (cases_eq k 1) [
  | inl e ↦ ap (λ n. before 94 (power name n)) e ∙ before-all 94 name (name_free 94 refl name p.word)
  | inr more ↦ ap (λ t. before 94 t) (power_more name k more) ∙ before-front 94 name (decimal k) (name_free 94 refl name p.word)
]

power_number : (name : List ℕ) (k : ℕ) → IsPower name k → number_behind (2 ^ 16) (behind 94 (power name k)) ≡ k
power_number name k p = elim (cases_eq k 1) [
  | inl e ↦ ap (λ n. number_behind (2 ^ 16) (behind 94 (power name n))) e ∙ ap (λ t. number_behind (2 ^ 16) t) (behind-all 94 name (name_free 94 refl name p.word)) ∙ sym e
  | inr more ↦ ap (λ t. number_behind (2 ^ 16) (behind 94 t)) (power_more name k more) ∙ ap (λ t. number_behind (2 ^ 16) t) (behind-front 94 name (decimal k) (name_free 94 refl name p.word)) ∙ digits_behind (2 ^ 16) k (decimal k) (decimal_is_IsNumeral_wide k (wide k (small_wide k p.small))) p.small
]

power_begins : (name more : List ℕ) (k : ℕ) → IsPower name k → begins_with_digit (power name k ++ more) ≡ false
power_begins name more k p = elim (cases_eq k 1) [
  | inl e ↦ ap (λ n. begins_with_digit (power name n ++ more)) e ∙ name_begins name more p.word
  | inr other ↦ ap (λ t. begins_with_digit (t ++ more)) (power_more name k other) ∙ ap begins_with_digit (append_assoc name (94 ∷ decimal k) more) ∙ name_begins name ((94 ∷ decimal k) ++ more) p.word
]

name_no_minus : (name more : List ℕ) → is_name name ≡ true → begins_with_byte 45 (name ++ more) ≡ false
name_no_minus [] more h = cc
name_no_minus (b ∷ rest) more h = (name_free 45 refl (b ∷ rest) h).0

power_no_minus : (name more : List ℕ) (k : ℕ) → IsPower name k → begins_with_byte 45 (power name k ++ more) ≡ false
power_no_minus name more k p = elim (cases_eq k 1) [
  | inl e ↦ ap (λ n. begins_with_byte 45 (power name n ++ more)) e ∙ name_no_minus name more p.word
  | inr other ↦ ap (λ t. begins_with_byte 45 (t ++ more)) (power_more name k other) ∙ ap (begins_with_byte 45) (append_assoc name (94 ∷ decimal k) more) ∙ name_no_minus name ((94 ∷ decimal k) ++ more) p.word
]

abbrev pub EachFree : ℕ → List (List ℕ) → Type 0
EachFree c [] = Unit {0}
EachFree c (p ∷ ps) = Free c p × EachFree c ps

-- the first of several texts that stand with a byte between each two

pub before_join : (c : ℕ) (p : List ℕ) (ps : List (List ℕ)) → Free c p → before c (join_with_byte c (p ∷ ps)) ≡ p
before_join c p [] f = before-all c p f
before_join c p (q ∷ ps) f = before-front c p (join_with_byte c (q ∷ ps)) f

pub behind_join : (c : ℕ) (p : List ℕ) (ps : List (List ℕ)) → Free c p → behind c (join_with_byte c (p ∷ ps)) ≡ join_with_byte c ps
behind_join c p [] f = behind-all c p f
behind_join c p (q ∷ ps) f = behind-front c p (join_with_byte c (q ∷ ps)) f

join_begins : (p : List ℕ) (ps : List (List ℕ)) → ((more : List ℕ) → begins_with_digit (p ++ more) ≡ false) → begins_with_digit (join_with_byte 42 (p ∷ ps)) ≡ false
join_begins p [] h = ap begins_with_digit (sym (append-nil p)) ∙ h []
join_begins p (q ∷ ps) h = h (42 ∷ join_with_byte 42 (q ∷ ps))

abbrev pub Small : List ℕ → Type 0
Small e = (i : ℕ) → slice_index e i < 2 ^ 16

abbrev pub powers_text : List (List ℕ) → List ℕ → List ℕ
powers_text names e = join_with_byte 42 (powers names e)

no_power : (names : List (List ℕ)) (name : List ℕ) (k : ℕ) (e : List ℕ) → k ≡ 0 → powers (name ∷ names) (k ∷ e) ≡ powers names e
no_power names name k e h = ap (λ b. cond b (powers names e) (power name k ∷ powers names e)) (eq-eqb k 0 h)

one_power : (names : List (List ℕ)) (name : List ℕ) (k : ℕ) (e : List ℕ) → k ≢ 0 → powers (name ∷ names) (k ∷ e) ≡ power name k ∷ powers names e
one_power names name k e h = ap (λ b. cond b (powers names e) (power name k ∷ powers names e)) (ne_eqb k 0 h)

-- the first power of a text is of one of its names
other_first : (name : List ℕ) → is_name name ≡ true → (names : List (List ℕ)) (e : List ℕ) → AreWords names → Apart name names → Small e → begins_with name (powers_text names e) ≡ false
other_first name word [] e w a s = name_some name word
other_first name word (other ∷ names) [] w a s = name_some name word
other_first name word (other ∷ names) (k ∷ e) w a s = elim (cases_eq k 0) [
  | inl none ↦ ap (λ ps. begins_with name (join_with_byte 42 ps)) (no_power names other k e none) ∙ other_first name word names e w.1 a.1 (λ i. s (suc i))
  | inr some ↦
      let p : IsPower other k = record { word = w.0; some = some; small = s 0 } in
      let head : begins_with name (join_with_byte 42 (power other k ∷ powers names e)) ≡ bytes_eq other name =
      ap (λ t. bytes_eq (before 94 t) name) (before_join 42 (power other k) (powers names e) (power_free 42 refl refl other k p)) ∙ ap (λ t. bytes_eq t name) (power_before other k p) in
      ap (λ ps. begins_with name (join_with_byte 42 ps)) (one_power names other k e some) ∙ head ∙ false_from_ne_true (bytes_eq other name) (λ e. a.0 (sym ((bytes_eq-Decides other name).0 e)))
]

pub powers_free : (c : ℕ) → is_name_byte c ≡ false → (94 == c) ≡ false → (names : List (List ℕ)) (e : List ℕ) → AreWords names → Small e → EachFree c (powers names e)
powers_free c out apart [] e w s = tt
powers_free c out apart (name ∷ names) [] w s = tt
powers_free c out apart (name ∷ names) (k ∷ e) w s = elim (cases_eq k 0) [
  | inl none ↦ subst (λ (ps : List (List ℕ)). EachFree c ps) (sym (no_power names name k e none)) (powers_free c out apart names e w.1 (λ i. s (suc i)))
  | inr some ↦ subst (λ (ps : List (List ℕ)). EachFree c ps) (sym (one_power names name k e some)) (power_free c out apart name k (record { word = w.0; some = some; small = s 0 }), powers_free c out apart names e w.1 (λ i. s (suc i)))
]

-- powers begin with a name
pub powers_no_minus : (names : List (List ℕ)) (e : List ℕ) → AreWords names → Small e → (p : List ℕ) (others : List (List ℕ)) → powers names e ≡ p ∷ others → (more : List ℕ) → begins_with_byte 45 (p ++ more) ≡ false
powers_no_minus [] e w s p others h more = cc
powers_no_minus (name ∷ names) [] w s p others h more = cc
powers_no_minus (name ∷ names) (k ∷ e) w s p others h more = elim (cases_eq k 0) [
  | inl none ↦ powers_no_minus names e w.1 (λ i. s (suc i)) p others (sym (no_power names name k e none) ∙ h) more
  | inr some ↦
      let is : power name k ∷ powers names e ≡ p ∷ others = sym (one_power names name k e some) ∙ h in
      let first : p ≡ power name k = cc in
      ap (λ t. begins_with_byte 45 (t ++ more)) first ∙ power_no_minus name more k (record { word = w.0; some = some; small = s 0 })
]

pub powers_first : (names : List (List ℕ)) (e : List ℕ) → AreWords names → Small e → (p : List ℕ) (others : List (List ℕ)) → powers names e ≡ p ∷ others → begins_with_digit (powers_text names e) ≡ false
powers_first [] e w s p others h = cc
powers_first (name ∷ names) [] w s p others h = cc
powers_first (name ∷ names) (k ∷ e) w s p others h = elim (cases_eq k 0) [
  | inl none ↦ ap (λ ps. begins_with_digit (join_with_byte 42 ps)) (no_power names name k e none) ∙ powers_first names e w.1 (λ i. s (suc i)) p others (sym (no_power names name k e none) ∙ h)
  | inr some ↦ ap (λ ps. begins_with_digit (join_with_byte 42 ps)) (one_power names name k e some) ∙ join_begins (power name k) (powers names e) (λ more. power_begins name more k (record { word = w.0; some = some; small = s 0 }))
]

record IsTaken (names : List (List ℕ)) (name : List ℕ) (k : ℕ) (e : List ℕ) (text : List ℕ) : Type 0 where
  exponent : exponent_in name text ≡ k
  rest : powers_after name text ≡ powers_text names e

taken_by : (names : List (List ℕ)) (name : List ℕ) (k : ℕ) (e : List ℕ) → is_name name ≡ true → AreWords names → Apart name names → Small (k ∷ e) → IsTaken names name k e (powers_text (name ∷ names) (k ∷ e))
taken_by names name k e word w a s = elim (cases_eq k 0) [
  | inl none ↦
      let text = powers_text names e in
      let no : begins_with name text ≡ false = other_first name word names e w a (λ i. s (suc i)) in
      let here : IsTaken names name k e text = record {
        exponent = ap (λ b. cond b (number_behind (2 ^ 16) (behind 94 (before 42 text))) 0) no ∙ sym none;
        rest = ap (λ b. cond b (behind 42 text) text) no;
      } in
      subst (λ (ps : List (List ℕ)). IsTaken names name k e (join_with_byte 42 ps)) (sym (no_power names name k e none)) here
  | inr some ↦
      let p : IsPower name k = record { word = word; some = some; small = s 0 } in
      let text = join_with_byte 42 (power name k ∷ powers names e) in
      let free : Free 42 (power name k) = power_free 42 refl refl name k p in
      let first : before 42 text ≡ power name k = before_join 42 (power name k) (powers names e) free in
      let yes : begins_with name text ≡ true = ap (λ t. bytes_eq (before 94 t) name) first ∙ (bytes_eq-Decides (before 94 (power name k)) name).1 (power_before name k p) in
      let here : IsTaken names name k e text = record {
        exponent = ap (λ b. cond b (number_behind (2 ^ 16) (behind 94 (before 42 text))) 0) yes ∙ ap (λ t. number_behind (2 ^ 16) (behind 94 t)) first ∙ power_number name k p;
        rest = ap (λ b. cond b (behind 42 text) text) yes ∙ behind_join 42 (power name k) (powers names e) free;
      } in
      subst (λ (ps : List (List ℕ)). IsTaken names name k e (join_with_byte 42 ps)) (sym (one_power names name k e some)) here
]

all_zero : (e : List ℕ) → ((i : ℕ) → slice_index e i ≡ 0) → zeros (length e) ≡ e
all_zero [] h = refl
all_zero (k ∷ e) h = ap (λ n. n ∷ zeros (length e)) (sym (h 0)) ∙ ap (λ t. k ∷ t) (all_zero e (λ i. h (suc i)))

length-push : (done : List ℕ) (k : ℕ) → length (done ++ k ∷ []) ≡ length done + 1
length-push [] k = refl
length-push (d ∷ done) k = omega (arith, length-push done k)

pub powers_read : (names : List (List ℕ)) (e done : List ℕ) → AreWords names → AreApart names → Small e → IsIn names e → length names ≤ length e → with_powers (length done) names (powers_text names e) (done ++ zeros (length e)) ≡ done ++ e
powers_read [] e done w a s inside few = ap (λ t. done ++ t) (all_zero e (λ i. inside i (omega arith)))
powers_read (name ∷ names) [] done w a s inside few = absurd (omega arith)
powers_read (name ∷ names) (k ∷ e) done w a s inside few =
    let t : IsTaken names name k e (powers_text (name ∷ names) (k ∷ e)) = taken_by names name k e w.0 w.1 a.0 s in
    let put : slice_set (done ++ 0 ∷ zeros (length e)) (length done) (exponent_in name (powers_text (name ∷ names) (k ∷ e))) ≡ (done ++ k ∷ []) ++ zeros (length e) =
    ap (λ n. slice_set (done ++ 0 ∷ zeros (length e)) (length done) n) t.exponent ∙ set-append_seam done 0 (zeros (length e)) k ∙ sym (append_assoc done (k ∷ []) (zeros (length e))) in
    let later : with_powers (length (done ++ k ∷ [])) names (powers_text names e) ((done ++ k ∷ []) ++ zeros (length e)) ≡ (done ++ k ∷ []) ++ e =
    powers_read names e (done ++ k ∷ []) w.1 a.1 (λ i. s (suc i)) (λ i h. inside (suc i) (omega arith)) (omega arith) in
    ap (λ x. with_powers (length done + 1) names x (slice_set (done ++ 0 ∷ zeros (length e)) (length done) (exponent_in name (powers_text (name ∷ names) (k ∷ e))))) t.rest
    ∙ ap (λ x. with_powers (length done + 1) names (powers_text names e) x) put
    ∙ ap (λ n. with_powers n names (powers_text names e) ((done ++ k ∷ []) ++ zeros (length e))) (sym (length-push done k))
    ∙ later ∙ append_assoc done (k ∷ []) e
