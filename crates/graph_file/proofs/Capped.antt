-- Numbers that are kept below a greatest one.
use Rattle.std.proofs.Common.{◌≡◌, ◌<◌, ◌≤◌, ℕ, Bool, true, false, cond, min, List, Some, None, option_map, nat_lt, arith, refl, ap, ◌∙◌, sym}
use Rattle.std.specs.Option.{option_and_then}
use Rattle.std.specs.Str.Parse.{digits_value}
use Rattle.std.proofs.lemmas.Bool.Decides.{nat_tests}
use Rattle.ratfun_text.specs.Bytes.{is_digits, number_of, number_below}

narrow_from : (limit n k : ℕ) (b : Bool) → nat_lt n limit ≡ b → cond b (Some n) None ≡ Some k → n ≡ k
narrow_from limit n k true test e = cc
narrow_from limit n k false test e = cc

wide_from : (limit n : ℕ) (b : Bool) → nat_lt n limit ≡ b → cond b (Some n) None ≡ None → limit ≤ n
wide_from limit n true test e = cc
wide_from limit n false test e = grind (arith, nat_tests)

below_of : (limit : ℕ) (text : List ℕ) → is_digits text ≡ true → number_below limit text ≡ cond (nat_lt (digits_value 10 text) limit) (Some (digits_value 10 text)) None
below_of limit text digits = ap (λ b. option_and_then (λ n. cond (nat_lt n limit) (Some n) None) (cond b (Some (digits_value 10 text)) None)) digits

of_digits : (text : List ℕ) → is_digits text ≡ true → number_of text ≡ Some (digits_value 10 text)
of_digits text digits = ap (λ b. cond b (Some (digits_value 10 text)) None) digits

-- a number below the greatest
pub capped_narrow : (limit greatest n : ℕ) (text : List ℕ) → is_digits text ≡ true → number_below limit text ≡ Some n → n < greatest → Some n ≡ option_map (λ n. min n greatest) (number_of text)
capped_narrow limit greatest n text digits found below =
    let same : digits_value 10 text ≡ n = narrow_from limit (digits_value 10 text) n _ refl (sym (below_of limit text digits) ∙ found) in
    let least : n ≡ min (digits_value 10 text) greatest = omega arith in
    ap Some least ∙ sym (ap (option_map (λ n. min n greatest)) (of_digits text digits))

-- a number that is not
pub capped_over : (limit greatest n : ℕ) (text : List ℕ) → is_digits text ≡ true → number_below limit text ≡ Some n → greatest ≤ n → Some greatest ≡ option_map (λ n. min n greatest) (number_of text)
capped_over limit greatest n text digits found above =
    let same : digits_value 10 text ≡ n = narrow_from limit (digits_value 10 text) n _ refl (sym (below_of limit text digits) ∙ found) in
    let least : greatest ≡ min (digits_value 10 text) greatest = omega arith in
    ap Some least ∙ sym (ap (option_map (λ n. min n greatest)) (of_digits text digits))

pub capped_wide : (limit greatest : ℕ) (text : List ℕ) → is_digits text ≡ true → number_below limit text ≡ None → greatest ≤ limit → Some greatest ≡ option_map (λ n. min n greatest) (number_of text)
capped_wide limit greatest text digits none within =
    let above : limit ≤ digits_value 10 text = wide_from limit (digits_value 10 text) _ refl (sym (below_of limit text digits) ∙ none) in
    let least : greatest ≡ min (digits_value 10 text) greatest = omega arith in
    ap Some least ∙ sym (ap (option_map (λ n. min n greatest)) (of_digits text digits))
