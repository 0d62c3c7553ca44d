-- A polynomial is read from its text again.
use Rattle.std.proofs.Common.{◌≡◌, ◌≢◌, ℕ, zero, suc, ◌+◌, ◌-◌, ◌<◌, ◌≤◌, ◌==◌, Bool, true, false, cond, List, [], ◌∷◌, ◌++◌, length, take, drop, get_or, refl, sym, ap, subst, ◌∙◌, append_assoc, append-nil, add-one, arith, slice_index, slice_set, Some, None, Option}
use Rattle.std.specs.Int.{is_negative}
use Rattle.std.specs.Ordering.{is_ge}
use Rattle.std.proofs.Math.Seq.{take-suc}
use Rattle.std.proofs.lemmas.List.{take_rest, length-take-le, get_or-take}
use Rattle.std.specs.declared.cmp.Ordering.{Ordering}
use Rattle.std.specs.declared.cmp.Ordering.TheVariants.{Less, Equal, Greater}
use Rattle.poly_maps.specs.Fraction.{IsFraction, IsRational, AreFractions, fraction_at}
use Rattle.poly_maps.specs.Mono.{mono_cmp}
use Rattle.poly_maps.specs.Polynomial.{Supported, Descends, AreAbove}
use Rattle.poly_maps.specs.Quotient.{RationalPair, IsQuotientMap}
use Rattle.poly_maps.specs.declared.fraction.Frac.{Frac}
use Rattle.poly_maps.proofs.MonoLemmas.{mono_total, is_same-less, is_same-symm}
use Rattle.ratfun_text.specs.Printed.{AreVariables, AreIn, HasSizes, IsIn, term_text, later_text, poly_text, quotient_text}
use Rattle.ratfun_text.specs.Reading.{before, behind, begins_with_byte, term_in, unsigned, with_powers, powers_after, exponent_in, powers_in, zeros, later_behind, numerator_text, denominator_text, AreTermsIn}
use Rattle.ratfun_text.proofs.Cuts.{Free}
use Rattle.ratfun_text.proofs.Terms.{IsTerm, term_read, term_free, term_begins}
use Rattle.ratfun_text.proofs.Polynomials.{AreTerms, terms_in, gather, parts_of, sign, blank, cut_before, cut_behind, minus_sign, minus_first, not_zero}

-- of the terms p that are to be put behind those at the start some are there by now, and the others stand in the rest
pub record Left (names : List (List ℕ)) (start p now : List (List ℕ × Frac)) (rest : List ℕ) : Type 0 where
  pub left : List (List ℕ × Frac)
  pub terms : AreTerms names left
  pub text : rest ≡ later_behind names left
  pub whole : now ++ left ≡ start ++ p

pub left_start : (names : List (List ℕ)) (start p : List (List ℕ × Frac)) (text : List ℕ) → AreVariables names → AreTermsIn names p → text ≡ later_behind names p → Left names start p start text
left_start names start p text v terms is = record { left = p; terms = terms_in names v p terms; text = is; whole = refl }

sign_is : (m : Bool) → (sign m == 45) ≡ m
sign_is true = refl
sign_is false = refl

step_from : (names : List (List ℕ)) (start p now left : List (List ℕ × Frac)) (rest : List ℕ) → AreTerms names left → rest ≡ later_behind names left → now ++ left ≡ start ++ p → 2 ≤ length rest
    → Left names start p (now ++ term_in names (slice_index rest 0 == 45) (before 32 (drop 2 rest)) ∷ []) (behind 32 (drop 2 rest))
step_from names start p now [] rest terms is whole some = let short : length rest ≡ 0 = ap length is in absurd (omega arith)
step_from names start p now (t ∷ left) rest terms is whole some =
    let free : Free 32 (term_text names t) = term_free 32 blank names t terms.0 in
    let signed : (slice_index rest 0 == 45) ≡ is_negative t.1.num = ap (λ r. slice_index r 0 == 45) is ∙ sign_is (is_negative t.1.num) in
    let text : before 32 (drop 2 rest) ≡ term_text names t = ap (λ r. before 32 (drop 2 r)) is ∙ cut_before names (term_text names t) left free in
    let others : behind 32 (drop 2 rest) ≡ later_behind names left = ap (λ r. behind 32 (drop 2 r)) is ∙ cut_behind names (term_text names t) left free in
    let read : term_in names (slice_index rest 0 == 45) (before 32 (drop 2 rest)) ≡ t = ap (λ m. term_in names m (before 32 (drop 2 rest))) signed ∙ ap (term_in names (is_negative t.1.num)) text ∙ term_read names t terms.0 in
    record {
      left = left;
      terms = terms.1.1;
      text = others;
      whole = ap (λ u. (now ++ u ∷ []) ++ left) read ∙ append_assoc now (t ∷ []) left ∙ whole;
    }

pub left_step : (names : List (List ℕ)) (start p now : List (List ℕ × Frac)) (rest : List ℕ) → Left names start p now rest → 2 ≤ length rest
    → Left names start p (now ++ term_in names (slice_index rest 0 == 45) (before 32 (drop 2 rest)) ∷ []) (behind 32 (drop 2 rest))
left_step names start p now rest h some = step_from names start p now h.left rest h.terms h.text h.whole some

end_from : (names : List (List ℕ)) (now left all : List (List ℕ × Frac)) (rest : List ℕ) → rest ≡ later_behind names left → now ++ left ≡ all → length rest < 2 → now ≡ all
end_from names now [] all rest is whole short = sym (append-nil now) ∙ whole
end_from names now (t ∷ left) all rest is whole short = let long : length rest ≡ suc (suc (length (term_text names t ++ later_text names left))) = ap length is in absurd (omega arith)

pub left_end : (names : List (List ℕ)) (start p now : List (List ℕ × Frac)) (rest : List ℕ) → Left names start p now rest → length rest < 2 → now ≡ start ++ p
left_end names start p now rest h short = end_from names now h.left (start ++ p) rest h.text h.whole short

-- one more term in the names
pub inside_more : (names : List (List ℕ)) (p : List (List ℕ × Frac)) (t : List ℕ × Frac) → Supported (IsIn names) p → IsIn names t.0 → Supported (IsIn names) (p ++ t ∷ [])
inside_more names [] t h here = (here, tt)
inside_more names (u ∷ p) t h here = (h.0, inside_more names p t h.1 here)

-- powers of the names leave the other exponents

set_other : (e : List ℕ) (i j k : ℕ) → i < j → slice_index (slice_set e i k) j ≡ slice_index e j
set_other [] i j k less = refl
set_other (x ∷ e) zero zero k less = absurd (omega arith)
set_other (x ∷ e) zero (suc j) k less = refl
set_other (x ∷ e) (suc i) zero k less = absurd (omega arith)
set_other (x ∷ e) (suc i) (suc j) k less = set_other e i j k (omega arith)

others_stay : (place : ℕ) (names : List (List ℕ)) (text e : List ℕ) (i : ℕ) → place + length names ≤ i → slice_index (with_powers place names text e) i ≡ slice_index e i
others_stay place [] text e i past = refl
others_stay place (name ∷ names) text e i past = others_stay (place + 1) names (powers_after name text) (slice_set e place (exponent_in name text)) i (omega arith) ∙ set_other e place i (exponent_in name text) (omega arith)

zeros_zero : (n i : ℕ) → slice_index (zeros n) i ≡ 0
zeros_zero zero i = refl
zeros_zero (suc n) zero = refl
zeros_zero (suc n) (suc i) = zeros_zero n i

pub inside_read : (names : List (List ℕ)) (text : List ℕ) → IsIn names (with_powers 0 names text (zeros 8))
inside_read names text i past = others_stay 0 names text (zeros 8) i (omega arith) ∙ zeros_zero 8 i

-- the first term

record IsFirst (names : List (List ℕ)) (t : List ℕ × Frac) (p : List (List ℕ × Frac)) (text : List ℕ) : Type 0 where
  term : term_in names (begins_with_byte 45 text) (before 32 (unsigned text)) ≡ t
  others : behind 32 (unsigned text) ≡ later_behind names p

unsigned_is : (m : Bool) (body : List ℕ) → begins_with_byte 45 body ≡ false → unsigned (minus_sign m ++ body) ≡ body
unsigned_is true body h = refl
unsigned_is false [] h = refl
unsigned_is false (b ∷ body) h = ap (λ x. cond x body (b ∷ body)) h

first_term : (names : List (List ℕ)) (t : List ℕ × Frac) (p : List (List ℕ × Frac)) → IsTerm names t → IsFirst names t p (poly_text names (t ∷ p))
first_term names t p h =
    let minus = is_negative t.1.num in
    let body = term_text names t ++ later_text names p in
    let text = minus_sign minus ++ body in
    let begins = term_begins names t (later_text names p) h in
    let free : Free 32 (term_text names t) = term_free 32 blank names t h in
    let bare : unsigned text ≡ body = unsigned_is minus body begins in
    record {
      term = ap (λ m. term_in names m (before 32 (unsigned text))) (minus_first minus body begins) ∙ ap (λ b. term_in names minus (before 32 b)) bare ∙ ap (term_in names minus) (cut_before names (term_text names t) p free) ∙ term_read names t h;
      others = ap (behind 32) bare ∙ cut_behind names (term_text names t) p free;
    }

-- what is read of a text that isn't `0`
pub terms_read : (names : List (List ℕ)) (p : List (List ℕ × Frac)) (text : List ℕ) (terms : List (List ℕ × Frac)) → AreVariables names → AreTermsIn names p → text ≡ poly_text names p → text ≢ 48 ∷ []
    → ((q : List (List ℕ × Frac)) → AreTermsIn names q → behind 32 (unsigned text) ≡ later_behind names q → terms ≡ (term_in names (begins_with_byte 45 text) (before 32 (unsigned text)) ∷ []) ++ q) → terms ≡ p
terms_read names [] text terms v h is some read = absurd (some is)
terms_read names (t ∷ p) text terms v h is some read =
    let first : IsFirst names t p text = subst (λ (x : List ℕ). IsFirst names t p x) (sym is) (first_term names t p (terms_in names v (t ∷ p) h).0) in
    read p h.1 first.others ∙ ap (λ u. u ∷ p) first.term

-- and of `0`
pub zero_terms : (names : List (List ℕ)) (p : List (List ℕ × Frac)) (text : List ℕ) → AreVariables names → AreTermsIn names p → text ≡ poly_text names p → text ≡ 48 ∷ [] → [] ≡ p
zero_terms names [] text v h is none = refl
zero_terms names (t ∷ p) text v h is none = absurd (not_zero names t p (terms_in names v (t ∷ p) h).0 h.0.some (sym is ∙ none))

-- terms that are tested one by one

pub fraction_there : (p : List (List ℕ × Frac)) (i : ℕ) (d : List ℕ × Frac) → AreFractions p → i < length p → IsFraction (get_or p i d).1
fraction_there [] i d h low = absurd (omega arith)
fraction_there (t ∷ p) zero d h low = h.0
fraction_there (t ∷ p) (suc i) d h low = fraction_there p i d h.1 (omega arith)

falls : (p : List (List ℕ × Frac)) (i : ℕ) (d f : List ℕ × Frac) → Descends p → suc i < length p → mono_cmp (get_or p (suc i) d).0 (get_or p i f).0 ≡ Less
falls [] i d f h low = absurd (omega arith)
falls (t ∷ []) i d f h low = absurd (omega arith)
falls (t ∷ u ∷ p) zero d f h low = h.0.0
falls (t ∷ u ∷ p) (suc i) d f h low = falls (u ∷ p) i d f h.1 (omega arith)

pub not_reduced : (p : List (List ℕ × Frac)) (i : ℕ) (t : List ℕ × Frac) (b : Bool) → b ≡ false → (IsFraction t.1 → b ≡ true) → t ≡ get_or p i t → i < length p → IsRational p → ⊥
not_reduced p i t b fails test is low r =
    let f : IsFraction t.1 = subst (λ (u : List ℕ × Frac). IsFraction u.1) (sym is) (fraction_there p i t r.fractions low) in
    let yes : b ≡ true = test f in
    cc

pub not_falling : (p : List (List ℕ × Frac)) (i k : ℕ) (t u : List ℕ × Frac) → suc k ≡ i → t ≡ get_or p i t → i < length p → true ≡ is_ge (mono_cmp t.0 (get_or p k u).0) → IsRational p → ⊥
not_falling p i k t u next is low test r =
    let less : mono_cmp (get_or p i t).0 (get_or p k u).0 ≡ Less = subst (λ (n : ℕ). mono_cmp (get_or p n t).0 (get_or p k u).0 ≡ Less) next (falls p k t u r.descends (omega arith)) in
    let here : mono_cmp t.0 (get_or p k u).0 ≡ Less = ap (λ (v : List ℕ × Frac). mono_cmp v.0 (get_or p k u).0) is ∙ less in
    let wrong : true ≡ is_ge Less = test ∙ ap is_ge here in
    cc

above_last : (p : List (List ℕ × Frac)) (e : List ℕ) (i : ℕ) (d : List ℕ × Frac) → Descends p → length p ≡ suc i → mono_cmp e (get_or p i d).0 ≡ Less → AreAbove e p
above_last [] e i d h long less = tt
above_last (t ∷ []) e zero d h long less = (less, tt)
above_last (t ∷ []) e (suc i) d h long less = absurd (omega arith)
above_last (t ∷ u ∷ p) e zero d h long less = absurd (omega arith)
above_last (t ∷ u ∷ p) e (suc i) d h long less =
    let rest = above_last (u ∷ p) e i d h.1 (omega arith) less in
    (mono_total.trans e u.0 t.0 rest.0 h.0.0, rest)

pub absent : (p : List (List ℕ × Frac)) (e : List ℕ) → AreAbove e p → fraction_at e p ≡ None
absent [] e h = refl
absent (t ∷ p) e h = ap (λ b. cond b (Some t.1) (fraction_at e p)) (is_same-symm t.0 e ∙ is_same-less e t.0 h.0) ∙ absent p e h.1

-- one more term is there
pub left_next : (names : List (List ℕ)) (start p now new : List (List ℕ × Frac)) (rest first others : List ℕ) (t : List ℕ × Frac) → Left names start p now rest → 2 ≤ length rest
    → first ≡ before 32 (take (length rest - 2) (drop 2 rest)) → others ≡ behind 32 (take (length rest - 2) (drop 2 rest)) → t ≡ term_in names (slice_index rest 0 == 45) first → new ≡ now ++ t ∷ [] → Left names start p new others
left_next names start p now new rest first others t h some a b c d =
    let sign : Bool = slice_index rest 0 == 45 in
    let put : new ≡ now ++ term_in names sign (before 32 (drop 2 rest)) ∷ [] = d ∙ ap (λ u. now ++ u ∷ []) (c ∙ ap (term_in names sign) (a ∙ ap (before 32) (take_rest rest 2))) in
    subst (λ (o : List ℕ). Left names start p new o) (sym (b ∙ ap (behind 32) (take_rest rest 2))) (subst (λ (n : List (List ℕ × Frac)). Left names start p n (behind 32 (drop 2 rest))) (sym put) (left_step names start p now rest h some))

pub inside_next : (names : List (List ℕ)) (now new : List (List ℕ × Frac)) (minus : Bool) (term : List ℕ) (t : List ℕ × Frac) → Supported (IsIn names) now → t ≡ term_in names minus term → new ≡ now ++ t ∷ [] → Supported (IsIn names) new
inside_next names now new minus term t h c d =
    let here : IsIn names t.0 = subst (λ (u : List ℕ × Frac). IsIn names u.0) (sym c) (inside_read names (powers_in term)) in
    subst (λ (n : List (List ℕ × Frac)). Supported (IsIn names) n) (sym d) (inside_more names now t h here)

none_above : (p : List (List ℕ × Frac)) (e : List ℕ) → length p ≡ 0 → AreAbove e p
none_above [] e h = tt
none_above (t ∷ p) e h = absurd (omega arith)

pub first_follows : (p done : List (List ℕ × Frac)) (i : ℕ) (e : List ℕ) → done ≡ take i p → i < length p → i ≤ 0 → AreAbove e done
first_follows p done i e is low none = none_above done e (ap length is ∙ length-take-le i p (omega arith) ∙ omega arith)

less_from : (o : Ordering) → false ≡ is_ge o → o ≡ Less
less_from Less h = refl
less_from Equal h = cc
less_from Greater h = cc

pub next_follows : (p done : List (List ℕ × Frac)) (i k : ℕ) (e : List ℕ) (u : List ℕ × Frac) → IsRational done → done ≡ take i p → suc k ≡ i → i < length p → false ≡ is_ge (mono_cmp e (get_or p k u).0) → AreAbove e done
next_follows p done i k e u r is next low test =
    let less : mono_cmp e (get_or p k u).0 ≡ Less = less_from (mono_cmp e (get_or p k u).0) test in
    let same : get_or (take i p) k u ≡ get_or p k u = get_or-take i p k u (omega arith) in
    let last : mono_cmp e (get_or done k u).0 ≡ Less = ap (λ (q : List (List ℕ × Frac)). mono_cmp e (get_or q k u).0) is ∙ ap (λ (v : List ℕ × Frac). mono_cmp e v.0) same ∙ less in
    above_last done e k u r.descends (ap length is ∙ length-take-le i p (omega arith) ∙ sym next) last

pub one_more : (p done new : List (List ℕ × Frac)) (i : ℕ) (t : List ℕ × Frac) → done ≡ take i p → t ≡ get_or p i t → i < length p → new ≡ done ++ (t.0, t.1) ∷ [] → new ≡ take (i + 1) p
one_more p done new i t is here low put =
    let longer : take (suc i) p ≡ take i p ++ get_or p i t ∷ [] = take-suc p i t low in
    put ∙ ap (λ (q : List (List ℕ × Frac)). q ++ t ∷ []) is ∙ ap (λ (v : List ℕ × Frac). take i p ++ v ∷ []) here ∙ sym longer ∙ ap (λ n. take n p) (sym (add-one i))

-- the parts of a quotient, in the text of it
pub record IsReadable (names : List (List ℕ)) (q : RationalPair) (text : List ℕ) : Type 0 where
  pub num_terms : AreTermsIn names q.num
  pub den_terms : AreTermsIn names q.den
  pub num : numerator_text text ≡ poly_text names q.num
  pub den : denominator_text text ≡ poly_text names q.den

pub readable : (names : List (List ℕ)) (q : RationalPair) (text : List ℕ) → AreVariables names → IsQuotientMap q → AreIn names q → HasSizes q → text ≡ quotient_text names q → IsReadable names q text
readable names q text v m i s is =
    let num = gather names q.num m.num i.num s.num in
    let den = gather names q.den m.den i.den s.den in
    let p = parts_of names q (terms_in names v q.num num) (terms_in names v q.den den) in
    record { num_terms = num; den_terms = den; num = ap numerator_text is ∙ p.num; den = ap denominator_text is ∙ p.den }

pub some_same : {A : Type 0} (o : Option A) (a b : A) → o ≡ Some a → o ≡ Some b → a ≡ b
some_same o a b e f = let both : Some a ≡ Some b = sym e ∙ f in cc

pub none_some : {A : Type 0} (o : Option A) (a : A) → o ≡ None → o ≡ Some a → ⊥
none_some o a e f = let both : None ≡ Some a = sym e ∙ f in cc

pub built : (q : RationalPair) (num den : List (List ℕ × Frac)) → num ≡ q.num → den ≡ q.den → record { num = num; den = den } ≡ q
built q num den a b =
    let first : record { num = num; den = den } ≡ record { num = q.num; den = den } = ap (λ (n : List (List ℕ × Frac)). let p : RationalPair = record { num = n; den = den } in p) a in
    first ∙ ap (λ (d : List (List ℕ × Frac)). let p : RationalPair = record { num = q.num; den = d } in p) b
