-- Lemmas on blanks and on decimal digits.
use Rattle.std.proofs.Common.{◌≡◌, ℕ, ◌+◌, ◌-◌, ◌*◌, ◌<◌, ◌≤◌, Bool, true, false, cond, not, ◌&&◌, List, [], ◌∷◌, length, take, drop, get_or, position, Option, Some, None, inl, inr, refl, sym, ap, ◌∙◌, add-one, drop-cons, arith}
use Rattle.std.specs.Option.{option_and_then, unwrap_or}
use Rattle.std.specs.Char.{is_ascii_alphabetic, is_ascii_digit, digit_value}
use Rattle.std.specs.List.{list_all, position_or_len, suffix_len}
use Rattle.std.specs.Str.Parse.{digits_value, digits_value_after}
use Rattle.std.proofs.lemmas.Bool.{cases_Bool, cases_lt}
use Rattle.std.proofs.lemmas.Bool.Decides.{nat_tests}
use Rattle.std.proofs.lemmas.List.Sums.{prefix_len-le-length, suffix_len_is}
use Rattle.ratfun_text.specs.Bytes.{is_blank, trim_end, is_name_byte, is_name, narrow, number_below, with_digit}

-- the first place that passes, or the length where none does
pub unwrap_or-position : {X : Type 0} (p : X → Bool) (xs : List X) → unwrap_or (position p xs) (length xs) ≡ position_or_len p xs
unwrap_or-position p xs = let within : position_or_len p xs ≤ length xs = prefix_len-le-length (λ x. not (p x)) xs in grind (arith, nat_tests)

-- where only blanks stand from a place on, and none before it, the text without the blanks at its end is what stands before it
pub trim_end_at : (text : List ℕ) (end : ℕ) → end ≤ length text → ((k : ℕ) → end ≤ k → k < length text → is_blank (get_or text k 0) ≡ true) → (0 < end → is_blank (get_or text (end - 1) 0) ≡ false) → take end text ≡ trim_end text
trim_end_at text end within blank stop =
    let counted : suffix_len is_blank text ≡ length text - end = suffix_len_is is_blank text end 0 within blank stop in
    let place : end ≡ length text - suffix_len is_blank text = omega arith in
    ap (λ n. take n text) place

-- what is read from the text on, after digits that write v
abbrev pub read_from : ℕ → ℕ → List ℕ → Option ℕ
read_from limit v [] = Some v
read_from limit v (byte ∷ rest) = option_and_then (λ n. read_from limit n rest) (with_digit limit v byte)

after-le : (n : ℕ) (ds : List ℕ) → n ≤ digits_value_after 10 n ds
after-le n [] = omega arith
after-le n (d ∷ ds) = omega (arith, after-le (n * 10 + digit_value d) ds)

narrow_wide : (limit n : ℕ) → limit ≤ n → narrow limit n ≡ None
narrow_wide limit n wide = grind (arith, nat_tests)

narrow_low : (limit n : ℕ) → n < limit → narrow limit n ≡ Some n
narrow_low limit n low = grind (arith, nat_tests)

digit_value_at : (byte : ℕ) → is_ascii_digit byte ≡ true → digit_value byte ≡ byte - 48
digit_value_at byte digit = grind (arith, nat_tests)

wide_none : (limit n : ℕ) (b : Bool) → limit ≤ n → cond b (narrow limit n) None ≡ None
wide_none limit n true wide = narrow_wide limit n wide
wide_none limit n false wide = refl

read_digit : (limit n : ℕ) (rest : List ℕ) (digit : Bool) → ((k : ℕ) → k < limit → read_from limit k rest ≡ cond (list_all is_ascii_digit rest) (narrow limit (digits_value_after 10 k rest)) None)
    → option_and_then (λ k. read_from limit k rest) (cond digit (narrow limit n) None) ≡ cond (digit && list_all is_ascii_digit rest) (narrow limit (digits_value_after 10 n rest)) None
read_digit limit n rest false h = refl
read_digit limit n rest true h =
    let f : ℕ → Option ℕ = λ k. read_from limit k rest in
    elim (cases_lt n limit) [
      | inl low ↦ ap (option_and_then f) (narrow_low limit n low) ∙ h n low
      | inr wide ↦ ap (option_and_then f) (narrow_wide limit n wide) ∙ sym (wide_none limit (digits_value_after 10 n rest) (list_all is_ascii_digit rest) (omega (arith, after-le n rest)))
    ]

same_digit : (f : ℕ → Option ℕ) (byte : ℕ) (others : Bool) → cond (is_ascii_digit byte && others) (f (byte - 48)) None ≡ cond (is_ascii_digit byte && others) (f (digit_value byte)) None
same_digit f byte others = elim (cases_Bool (is_ascii_digit byte)) [
  | inl digit ↦ ap (λ d. cond (is_ascii_digit byte && others) (f d) None) (sym (digit_value_at byte digit))
  | inr other ↦ ap (λ b. cond (b && others) (f (byte - 48)) None) other ∙ sym (ap (λ b. cond (b && others) (f (digit_value byte)) None) other)
]

-- reading digit by digit gives the number that all the digits write, where it is below the limit
read_from_is : (limit v : ℕ) (text : List ℕ) → v < limit → read_from limit v text ≡ cond (list_all is_ascii_digit text) (narrow limit (digits_value_after 10 v text)) None
read_from_is limit v [] low = sym (narrow_low limit v low)
read_from_is limit v (byte ∷ rest) low =
    read_digit limit (v * 10 + (byte - 48)) rest (is_ascii_digit byte) (λ k h. read_from_is limit k rest h)
    ∙ same_digit (λ d. narrow limit (digits_value_after 10 (v * 10 + d) rest)) byte (list_all is_ascii_digit rest)

if_some : (limit n : ℕ) (b : Bool) → cond b (narrow limit n) None ≡ option_and_then (narrow limit) (cond b (Some n) None)
if_some limit n true = refl
if_some limit n false = refl

-- reading a text from its front gives its number
pub read_from_front : (limit : ℕ) (text : List ℕ) → 0 < limit → 0 < length text → read_from limit 0 text ≡ number_below limit text
read_from_front limit [] low some = absurd (omega arith)
read_from_front limit (byte ∷ rest) low some = read_from_is limit 0 (byte ∷ rest) low ∙ if_some limit (digits_value 10 (byte ∷ rest)) (list_all is_ascii_digit (byte ∷ rest))

pub read_from_step : (limit v : ℕ) (text : List ℕ) (i : ℕ) → i < length text → read_from limit v (drop i text) ≡ option_and_then (λ n. read_from limit n (drop (i + 1) text)) (with_digit limit v (get_or text i 0))
read_from_step limit v text i within = ap (read_from limit v) (drop-cons text i 0 within ∙ ap (λ k. get_or text i 0 ∷ drop k text) (sym (add-one i)))

-- a text that begins with a letter
pub is_name_from : (text : List ℕ) → 1 ≤ length text → is_ascii_alphabetic (get_or text 0 0) ≡ true → is_name text ≡ list_all is_name_byte (drop 1 text)
is_name_from [] some letter = absurd (omega arith)
is_name_from (first ∷ rest) some letter = ap (λ b. b && list_all is_name_byte rest) letter
