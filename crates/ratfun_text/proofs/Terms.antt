-- A term is read from its text again.
use Rattle.std.proofs.Common.{◌≡◌, ◌≢◌, ℕ, suc, ◌^◌, ◌<◌, ◌≤◌, ◌==◌, Bool, true, false, cond, ◌&&◌, List, [], ◌∷◌, ◌++◌, length, refl, sym, ap, subst, ◌∙◌, append_assoc, append-nil, arith, inl, inr, ℤ, pos, negsuc, unsigned_abs, FitsSigned, decimal, nat_lt, nat_le, eq-eqb, lit<}
use Rattle.std.specs.Char.{is_ascii_digit}
use Rattle.std.specs.Int.{is_negative, w128}
use Rattle.std.specs.List.{join_with_byte}
use Rattle.std.proofs.lemmas.Bool.{cases_eq, cases_Bool, eqb-true, ne_eqb}
use Rattle.std.proofs.lemmas.Bool.Decides.{nat_tests}
use Rattle.std.proofs.lemmas.Fmt.{decimal_is_IsNumeral_wide}
use Rattle.poly_maps.specs.Mono.{HasEight}
use Rattle.poly_maps.specs.declared.fraction.Frac.{Frac}
use Rattle.ratfun_text.specs.Bytes.{is_name_byte}
use Rattle.ratfun_text.specs.Printed.{IsIn, IsSized, powers, magnitude, is_unit, factors, term_text}
use Rattle.ratfun_text.specs.Reading.{before, behind, number_in, number_behind, begins_with_digit, begins_with_byte, numerator_in, denominator_in, powers_in, with_powers, zeros, signed, term_in}
use Rattle.ratfun_text.proofs.Cuts.{Free, Free-append, before-front, behind-front, before-all, behind-all}
use Rattle.ratfun_text.proofs.Written.{AreGood, wide, decimal_free, digits_read, digits_behind, digits_begin, before_join, behind_join, EachFree, powers_free, powers_no_minus, powers_read, powers_first}

nonnegative_read : (n : ℕ) → n < 2 ^ 127 → signed false n ≡ pos n
nonnegative_read n low = grind (arith, nat_tests)

negative_read : (n : ℕ) → n < 2 ^ 127 → signed true (suc n) ≡ negsuc n
negative_read n low = let h : nat_le (suc n) (2 ^ 127) ≡ true = grind (arith, nat_tests) in ap (λ b. cond b (negsuc n) (pos 0)) h

signed_read : (z : ℤ) → FitsSigned w128 z → signed (is_negative z) (unsigned_abs z) ≡ z
signed_read (pos n) fits =
    let plus : is_negative (pos n) ≡ false = below_none n in
    let low : n < 2 ^ 127 = omega (arith, fits.sfits) in
    ap (λ b. signed b n) plus ∙ nonnegative_read n low
  where
    below_none : (n : ℕ) → nat_lt n 0 ≡ false
    below_none n = grind (arith, nat_tests)
signed_read (negsuc n) fits = negative_read n (omega (arith, fits.sfits))

size_low : (z : ℤ) → FitsSigned w128 z → unsigned_abs z < 2 ^ 128
size_low (pos n) fits = let l : 2 ^ 127 < 2 ^ 128 = lit< tt in omega (arith, fits.sfits)
size_low (negsuc n) fits = let l : 2 ^ 127 < 2 ^ 128 = lit< tt in omega (arith, fits.sfits)

-- a coefficient without its sign

whole : (f : Frac) → f.den ≡ 1 → magnitude f ≡ decimal (unsigned_abs f.num)
whole f one = ap (λ b. cond b (decimal (unsigned_abs f.num)) (decimal (unsigned_abs f.num) ++ 47 ∷ decimal f.den)) (eq-eqb f.den 1 one)

divided : (f : Frac) → f.den ≢ 1 → magnitude f ≡ decimal (unsigned_abs f.num) ++ 47 ∷ decimal f.den
divided f other = ap (λ b. cond b (decimal (unsigned_abs f.num)) (decimal (unsigned_abs f.num) ++ 47 ∷ decimal f.den)) (ne_eqb f.den 1 other)

record IsCoefficient (f : Frac) (text : List ℕ) : Type 0 where
  num : number_in (2 ^ 128) (before 47 text) ≡ unsigned_abs f.num
  den : number_behind (2 ^ 128) (behind 47 text) ≡ f.den
  digit : (more : List ℕ) → begins_with_digit (text ++ more) ≡ true
  free : (c : ℕ) → is_name_byte c ≡ false → (47 == c) ≡ false → Free c text

coefficient : (e : List ℕ) (f : Frac) → IsSized e f → IsCoefficient f (magnitude f)
coefficient e f s =
    let n = unsigned_abs f.num in
    let low : n < 2 ^ 128 = size_low f.num s.num in
    let num = decimal_is_IsNumeral_wide n (wide n low) in
    let den = decimal_is_IsNumeral_wide f.den (wide f.den s.den) in
    let clear : Free 47 (decimal n) = decimal_free 47 n refl low in
    elim (cases_eq f.den 1) [
      | inl one ↦
          let here : IsCoefficient f (decimal n) = record {
            num = ap (number_in (2 ^ 128)) (before-all 47 (decimal n) clear) ∙ digits_read (2 ^ 128) n (decimal n) num low;
            den = ap (number_behind (2 ^ 128)) (behind-all 47 (decimal n) clear) ∙ sym one;
            digit = λ more. digits_begin n (decimal n) more num;
            free = λ c out other. decimal_free c n out low;
          } in
          subst (λ (t : List ℕ). IsCoefficient f t) (sym (whole f one)) here
      | inr other ↦
          let here : IsCoefficient f (decimal n ++ 47 ∷ decimal f.den) = record {
            num = ap (number_in (2 ^ 128)) (before-front 47 (decimal n) (decimal f.den) clear) ∙ digits_read (2 ^ 128) n (decimal n) num low;
            den = ap (number_behind (2 ^ 128)) (behind-front 47 (decimal n) (decimal f.den) clear) ∙ digits_behind (2 ^ 128) f.den (decimal f.den) den s.den;
            digit = λ more. ap begins_with_digit (append_assoc (decimal n) (47 ∷ decimal f.den) more) ∙ digits_begin n (decimal n) ((47 ∷ decimal f.den) ++ more) num;
            free = λ c out apart. Free-append c (decimal n) (47 ∷ decimal f.den) (decimal_free c n out low) (apart, decimal_free c f.den out s.den);
          } in
          subst (λ (t : List ℕ). IsCoefficient f t) (sym (divided f other)) here
    ]

-- a term

record IsReadAs (f : Frac) (rest : List ℕ) (text : List ℕ) : Type 0 where
  num : numerator_in text ≡ unsigned_abs f.num
  den : denominator_in text ≡ f.den
  powers : powers_in text ≡ rest

-- a coefficient stands first
with_coefficient : (f : Frac) (m : List ℕ) (ps : List (List ℕ)) → IsCoefficient f m → IsReadAs f (join_with_byte 42 ps) (join_with_byte 42 (m ∷ ps))
with_coefficient f m ps c =
    let text = join_with_byte 42 (m ∷ ps) in
    let clear : Free 42 m = c.free 42 refl refl in
    let first : before 42 text ≡ m = before_join 42 m ps clear in
    let digit : begins_with_digit text ≡ true = begins m ps c.digit in
    record {
      num = ap (λ b. cond b (number_in (2 ^ 128) (before 47 (before 42 text))) 1) digit ∙ ap (λ t. number_in (2 ^ 128) (before 47 t)) first ∙ c.num;
      den = ap (λ b. cond b (number_behind (2 ^ 128) (behind 47 (before 42 text))) 1) digit ∙ ap (λ t. number_behind (2 ^ 128) (behind 47 t)) first ∙ c.den;
      powers = ap (λ b. cond b (behind 42 text) text) digit ∙ behind_join 42 m ps clear;
    }
  where
    begins : (m : List ℕ) (ps : List (List ℕ)) → ((more : List ℕ) → begins_with_digit (m ++ more) ≡ true) → begins_with_digit (join_with_byte 42 (m ∷ ps)) ≡ true
    begins m [] h = ap begins_with_digit (sym (append-nil m)) ∙ h []
    begins m (p ∷ ps) h = h (42 ∷ join_with_byte 42 (p ∷ ps))

-- no coefficient is printed
without : (f : Frac) (ps : List (List ℕ)) → begins_with_digit (join_with_byte 42 ps) ≡ false → is_unit f ≡ true → IsReadAs f (join_with_byte 42 ps) (join_with_byte 42 ps)
without f ps letter unit =
    let text = join_with_byte 42 ps in
    let both = units (unsigned_abs f.num == 1) (f.den == 1) unit in
    record {
      num = ap (λ b. cond b (number_in (2 ^ 128) (before 47 (before 42 text))) 1) letter ∙ sym (eqb-true (unsigned_abs f.num) 1 both.0);
      den = ap (λ b. cond b (number_behind (2 ^ 128) (behind 47 (before 42 text))) 1) letter ∙ sym (eqb-true f.den 1 both.1);
      powers = ap (λ b. cond b (behind 42 text) text) letter;
    }
  where
    units : (a b : Bool) → (a && b) ≡ true → (a ≡ true) × (b ≡ true)
    units true b h = (refl, h)
    units false b h = cc

read_factors : (e : List ℕ) (f : Frac) (ps : List (List ℕ)) → IsSized e f → ((p : List ℕ) (others : List (List ℕ)) → ps ≡ p ∷ others → begins_with_digit (join_with_byte 42 ps) ≡ false) → IsReadAs f (join_with_byte 42 ps) (join_with_byte 42 (factors f ps))
read_factors e f [] s h = with_coefficient f (magnitude f) [] (coefficient e f s)
read_factors e f (p ∷ others) s h = elim (cases_Bool (is_unit f)) [
  | inl unit ↦
      let same : factors f (p ∷ others) ≡ p ∷ others = ap (λ b. cond b (p ∷ others) (magnitude f ∷ p ∷ others)) unit in
      subst (λ (t : List (List ℕ)). IsReadAs f (join_with_byte 42 (p ∷ others)) (join_with_byte 42 t)) (sym same) (without f (p ∷ others) (h p others refl) unit)
  | inr more ↦
      let same : factors f (p ∷ others) ≡ magnitude f ∷ p ∷ others = ap (λ b. cond b (p ∷ others) (magnitude f ∷ p ∷ others)) more in
      subst (λ (t : List (List ℕ)). IsReadAs f (join_with_byte 42 (p ∷ others)) (join_with_byte 42 t)) (sym same) (with_coefficient f (magnitude f) (p ∷ others) (coefficient e f s))
]

-- names and a term in them
pub record IsTerm (names : List (List ℕ)) (t : List ℕ × Frac) : Type 0 where
  pub good : AreGood names
  pub few : length names ≤ 8
  pub sized : IsSized t.0 t.1
  pub inside : IsIn names t.0
  pub eight : HasEight t.0

pub term_read : (names : List (List ℕ)) (t : List ℕ × Frac) → IsTerm names t → term_in names (is_negative t.1.num) (term_text names t) ≡ t
term_read names (e, f) h =
    let text = term_text names (e, f) in
    let r : IsReadAs f (join_with_byte 42 (powers names e)) text = read_factors e f (powers names e) h.sized (powers_first names e h.good.words h.sized.exponents) in
    let eight : zeros 8 ≡ zeros (length e) = ap zeros (sym h.eight) in
    let read : with_powers 0 names (join_with_byte 42 (powers names e)) (zeros (length e)) ≡ e = powers_read names e [] h.good.words h.good.apart h.sized.exponents h.inside (omega (arith, h.few, h.eight)) in
    let mono : with_powers 0 names (powers_in text) (zeros 8) ≡ e = ap (λ z. with_powers 0 names (powers_in text) z) eight ∙ ap (λ p. with_powers 0 names p (zeros (length e))) r.powers ∙ read in
    let num : signed (is_negative f.num) (numerator_in text) ≡ f.num = ap (signed (is_negative f.num)) r.num ∙ signed_read f.num h.sized.num in
    ap (λ x. (x, record { num = signed (is_negative f.num) (numerator_in text); den = denominator_in text })) mono
    ∙ ap (λ x. (e, record { num = x; den = denominator_in text })) num
    ∙ ap (λ x. (e, record { num = f.num; den = x })) r.den

-- the text of a term

free_join : (c : ℕ) → (42 == c) ≡ false → (p : List ℕ) (ps : List (List ℕ)) → Free c p → EachFree c ps → Free c (join_with_byte 42 (p ∷ ps))
free_join c apart p [] f g = f
free_join c apart p (q ∷ ps) f g = Free-append c p (42 ∷ join_with_byte 42 (q ∷ ps)) f (apart, free_join c apart q ps g.0 g.1)

free_factors : (c : ℕ) → is_name_byte c ≡ false → (42 == c) ≡ false → (47 == c) ≡ false → (f : Frac) (ps : List (List ℕ)) → IsCoefficient f (magnitude f) → EachFree c ps → Free c (join_with_byte 42 (factors f ps))
free_factors c out star slash f [] m g = m.free c out slash
free_factors c out star slash f (p ∷ ps) m g = either (is_unit f)
  where
    either : (b : Bool) → Free c (join_with_byte 42 (cond b (p ∷ ps) (magnitude f ∷ p ∷ ps)))
    either true = free_join c star p ps g.0 g.1
    either false = free_join c star (magnitude f) (p ∷ ps) (m.free c out slash) g

-- a byte that is no separator of terms, of factors, of a fraction or of a power
pub record IsApart (c : ℕ) : Type 0 where
  pub word : is_name_byte c ≡ false
  pub star : (42 == c) ≡ false
  pub slash : (47 == c) ≡ false
  pub caret : (94 == c) ≡ false

pub term_free : (c : ℕ) → IsApart c → (names : List (List ℕ)) (t : List ℕ × Frac) → IsTerm names t → Free c (term_text names t)
term_free c a names (e, f) h = free_factors c a.word a.star a.slash f (powers names e) (coefficient e f h.sized) (powers_free c a.word a.caret names e h.good.words h.sized.exponents)

no_minus : (text : List ℕ) → begins_with_digit text ≡ true → begins_with_byte 45 text ≡ false
no_minus [] h = refl
no_minus (b ∷ text) h = digit b h
  where
    digit : (b : ℕ) → is_ascii_digit b ≡ true → (b == 45) ≡ false
    digit b h = grind (arith, nat_tests)

no_minus_join : (p : List ℕ) (ps : List (List ℕ)) (more : List ℕ) → ((after : List ℕ) → begins_with_byte 45 (p ++ after) ≡ false) → begins_with_byte 45 (join_with_byte 42 (p ∷ ps) ++ more) ≡ false
no_minus_join p [] more h = h more
no_minus_join p (q ∷ ps) more h = ap (begins_with_byte 45) (append_assoc p (42 ∷ join_with_byte 42 (q ∷ ps)) more) ∙ h ((42 ∷ join_with_byte 42 (q ∷ ps)) ++ more)

no_minus_factors : (f : Frac) (ps : List (List ℕ)) (more : List ℕ) → IsCoefficient f (magnitude f) → ((p : List ℕ) (others : List (List ℕ)) → ps ≡ p ∷ others → (after : List ℕ) → begins_with_byte 45 (p ++ after) ≡ false)
    → begins_with_byte 45 (join_with_byte 42 (factors f ps) ++ more) ≡ false
no_minus_factors f [] more m h = no_minus_join (magnitude f) [] more (λ after. no_minus (magnitude f ++ after) (m.digit after))
no_minus_factors f (p ∷ ps) more m h = either (is_unit f)
  where
    either : (b : Bool) → begins_with_byte 45 (join_with_byte 42 (cond b (p ∷ ps) (magnitude f ∷ p ∷ ps)) ++ more) ≡ false
    either true = no_minus_join p ps more (h p ps refl)
    either false = no_minus_join (magnitude f) (p ∷ ps) more (λ after. no_minus (magnitude f ++ after) (m.digit after))

-- a term without its sign begins with none
pub term_begins : (names : List (List ℕ)) (t : List ℕ × Frac) (more : List ℕ) → IsTerm names t → begins_with_byte 45 (term_text names t ++ more) ≡ false
term_begins names (e, f) more h = no_minus_factors f (powers names e) more (coefficient e f h.sized) (powers_no_minus names e h.good.words h.sized.exponents)

-- `0` is the text of no other term
pub zero_read : (names : List (List ℕ)) (t : List ℕ × Frac) → IsTerm names t → term_text names t ≡ 48 ∷ [] → unsigned_abs t.1.num ≡ 0
zero_read names (e, f) h is =
    let r : IsReadAs f (join_with_byte 42 (powers names e)) (term_text names (e, f)) = read_factors e f (powers names e) h.sized (powers_first names e h.good.words h.sized.exponents) in
    sym r.num ∙ ap numerator_in is
