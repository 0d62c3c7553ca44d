-- A text is the text of at most one polynomial, and of at most one quotient.
use Rattle.std.proofs.Common.{◌≡◌, ◌≢◌, ℕ, ◌==◌, Bool, true, false, cond, ◌&&◌, List, [], ◌∷◌, ◌++◌, refl, sym, ap, subst, ◌∙◌, append-nil, arith, inl, inr, pos, unsigned_abs, decimal, eqb-true, eq-eqb, lit<}
use Rattle.std.specs.Int.{is_negative}
use Rattle.std.specs.List.{join_with_byte}
use Rattle.std.specs.Ordering.{int_eq}
use Rattle.std.proofs.lemmas.Bool.{cases_Bool}
use Rattle.std.proofs.lemmas.Bool.Decides.{Decides-int_eq}
use Rattle.std.proofs.lemmas.Fmt.{decimal_digit}
use Rattle.poly_maps.specs.Fraction.{IsRational, AreFractions}
use Rattle.poly_maps.specs.Mono.{HasEight, degree}
use Rattle.poly_maps.specs.Polynomial.{Supported}
use Rattle.poly_maps.specs.Quotient.{RationalPair, IsQuotientMap}
use Rattle.poly_maps.specs.declared.fraction.Frac.{Frac}
use Rattle.ratfun_text.specs.Printed.{AreVariables, AreIn, AreSized, HasSizes, IsIn, power, powers, magnitude, factors, term_text, later_text, poly_text, is_one, quotient_text}
use Rattle.ratfun_text.specs.Reading.{before, behind, begins_with_byte, term_in, later_behind, numerator_text, denominator_text, AreTermsIn}
use Rattle.ratfun_text.proofs.Cuts.{Free, Free-append, before-front, behind-front, before-all, behind-all}
use Rattle.ratfun_text.proofs.Written.{good_names}
use Rattle.ratfun_text.proofs.Terms.{IsTerm, term_read, IsApart, term_free, term_begins, zero_read}

-- terms in these names, none of them zero
abbrev pub AreTerms : List (List ℕ) → List (List ℕ × Frac) → Type 0
AreTerms names [] = Unit {0}
AreTerms names (t ∷ p) = IsTerm names t × ((unsigned_abs t.1.num ≢ 0) × AreTerms names p)

pub terms_in : (names : List (List ℕ)) → AreVariables names → (p : List (List ℕ × Frac)) → AreTermsIn names p → AreTerms names p
terms_in names v [] h = tt
terms_in names v (t ∷ p) h = (record { good = good_names names v; few = v.few; sized = h.0.sized; inside = h.0.inside; eight = h.0.eight }, (h.0.some, terms_in names v p h.1))

gathered : (names : List (List ℕ)) (p : List (List ℕ × Frac)) → AreFractions p → Supported HasEight p → Supported (IsIn names) p → AreSized p → AreTermsIn names p
gathered names [] f e i s = tt
gathered names (t ∷ p) f e i s = (record { some = f.0.some; sized = s.0; inside = i.0; eight = e.0 }, gathered names p f.1 e.1 i.1 s.1)

pub gather : (names : List (List ℕ)) (p : List (List ℕ × Frac)) → IsRational p → Supported (IsIn names) p → AreSized p → AreTermsIn names p
gather names p r i s = gathered names p r.fractions r.eight i s

pub terms_of : (names : List (List ℕ)) → AreVariables names → (p : List (List ℕ × Frac)) → IsRational p → Supported (IsIn names) p → AreSized p → AreTerms names p
terms_of names v p r i s = terms_in names v p (gather names p r i s)

pub blank : IsApart 32
blank = record { word = refl; star = refl; slash = refl; caret = refl }

abbrev pub sign : Bool → ℕ
sign minus = cond minus 45 43

same_sign : (a b : Bool) → sign a ≡ sign b → a ≡ b
same_sign true true h = refl
same_sign false false h = refl
same_sign true false h = cc
same_sign false true h = cc

-- what stands behind a term begins with a blank, if anything does
pub cut_before : (names : List (List ℕ)) (a : List ℕ) (p : List (List ℕ × Frac)) → Free 32 a → before 32 (a ++ later_text names p) ≡ a
cut_before names a [] f = ap (before 32) (append-nil a) ∙ before-all 32 a f
cut_before names a (t ∷ p) f = before-front 32 a (sign (is_negative t.1.num) ∷ 32 ∷ (term_text names t ++ later_text names p)) f

pub cut_behind : (names : List (List ℕ)) (a : List ℕ) (p : List (List ℕ × Frac)) → Free 32 a → behind 32 (a ++ later_text names p) ≡ later_behind names p
cut_behind names a [] f = ap (behind 32) (append-nil a) ∙ behind-all 32 a f
cut_behind names a (t ∷ p) f = behind-front 32 a (sign (is_negative t.1.num) ∷ 32 ∷ (term_text names t ++ later_text names p)) f

pub same_term : (names : List (List ℕ)) (t u : List ℕ × Frac) → IsTerm names t → IsTerm names u → is_negative t.1.num ≡ is_negative u.1.num → term_text names t ≡ term_text names u → t ≡ u
same_term names t u a b s e = sym (term_read names t a) ∙ ap (λ m. term_in names m (term_text names t)) s ∙ ap (term_in names (is_negative u.1.num)) e ∙ term_read names u b

same_tail : {A : Type 0} (x y : A) (xs ys : List A) → x ∷ xs ≡ y ∷ ys → (x ≡ y) × (xs ≡ ys)
same_tail x y xs ys e = (cc, cc)

-- the text behind a sign
same_signed : (names : List (List ℕ)) (t u : List ℕ × Frac) (p q : List (List ℕ × Frac)) → IsTerm names t → IsTerm names u → is_negative t.1.num ≡ is_negative u.1.num
    → term_text names t ++ later_text names p ≡ term_text names u ++ later_text names q → (t ≡ u) × (later_behind names p ≡ later_behind names q)
same_signed names t u p q a b s e = (
  same_term names t u a b s (sym (cut_before names (term_text names t) p (term_free 32 blank names t a)) ∙ ap (before 32) e ∙ cut_before names (term_text names u) q (term_free 32 blank names u b)),
  sym (cut_behind names (term_text names t) p (term_free 32 blank names t a)) ∙ ap (behind 32) e ∙ cut_behind names (term_text names u) q (term_free 32 blank names u b),
)

same_later : (names : List (List ℕ)) (p q : List (List ℕ × Frac)) → AreTerms names p → AreTerms names q → later_behind names p ≡ later_behind names q → p ≡ q
same_later names [] [] a b e = refl
same_later names [] (u ∷ q) a b e = cc
same_later names (t ∷ p) [] a b e = cc
same_later names (t ∷ p) (u ∷ q) a b e =
    let heads : (sign (is_negative t.1.num) ≡ sign (is_negative u.1.num)) × (32 ∷ (term_text names t ++ later_text names p) ≡ 32 ∷ (term_text names u ++ later_text names q)) = same_tail _ _ _ _ e in
    let s = same_sign (is_negative t.1.num) (is_negative u.1.num) heads.0 in
    let rests : (32 ≡ 32) × (term_text names t ++ later_text names p ≡ term_text names u ++ later_text names q) = same_tail _ _ _ _ heads.1 in
    let both = same_signed names t u p q a.0 b.0 s rests.1 in
    ap (λ x. x ∷ p) both.0 ∙ ap (λ x. u ∷ x) (same_later names p q a.1.1 b.1.1 both.1)

abbrev pub minus_sign : Bool → List ℕ
minus_sign minus = cond minus (45 ∷ []) []

-- a text of terms begins with a minus exactly where the first is negative
pub minus_first : (minus : Bool) (text : List ℕ) → begins_with_byte 45 text ≡ false → begins_with_byte 45 (minus_sign minus ++ text) ≡ minus
minus_first true text h = refl
minus_first false text h = h

behind_minus : (minus : Bool) (a b : List ℕ) → minus_sign minus ++ a ≡ minus_sign minus ++ b → a ≡ b
behind_minus true a b e = (same_tail 45 45 a b e).1
behind_minus false a b e = e

pub not_zero : (names : List (List ℕ)) (t : List ℕ × Frac) (p : List (List ℕ × Frac)) → IsTerm names t → unsigned_abs t.1.num ≢ 0 → poly_text names (t ∷ p) ≢ 48 ∷ []
not_zero names t p h some e =
    let plus : is_negative t.1.num ≡ false = sym (minus_first (is_negative t.1.num) (term_text names t ++ later_text names p) (term_begins names t (later_text names p) h)) ∙ ap (begins_with_byte 45) e in
    let bare : term_text names t ++ later_text names p ≡ 48 ∷ [] = ap (λ m. minus_sign m ++ (term_text names t ++ later_text names p)) (sym plus) ∙ e in
    let text : term_text names t ≡ 48 ∷ [] = sym (cut_before names (term_text names t) p (term_free 32 blank names t h)) ∙ ap (before 32) bare in
    some (zero_read names t h text)

same_poly : (names : List (List ℕ)) (p q : List (List ℕ × Frac)) → AreTerms names p → AreTerms names q → poly_text names p ≡ poly_text names q → p ≡ q
same_poly names [] [] a b e = refl
same_poly names [] (u ∷ q) a b e = absurd (not_zero names u q b.0 b.1.0 (sym e))
same_poly names (t ∷ p) [] a b e = absurd (not_zero names t p a.0 a.1.0 e)
same_poly names (t ∷ p) (u ∷ q) a b e =
    let s : is_negative t.1.num ≡ is_negative u.1.num =
    sym (minus_first (is_negative t.1.num) (term_text names t ++ later_text names p) (term_begins names t (later_text names p) a.0))
    ∙ ap (begins_with_byte 45) e
    ∙ minus_first (is_negative u.1.num) (term_text names u ++ later_text names q) (term_begins names u (later_text names q) b.0) in
    let aligned : minus_sign (is_negative u.1.num) ++ (term_text names t ++ later_text names p) ≡ minus_sign (is_negative u.1.num) ++ (term_text names u ++ later_text names q) =
    ap (λ m. minus_sign m ++ (term_text names t ++ later_text names p)) (sym s) ∙ e in
    let both = same_signed names t u p q a.0 b.0 s (behind_minus (is_negative u.1.num) _ _ aligned) in
    ap (λ x. x ∷ p) both.0 ∙ ap (λ x. u ∷ x) (same_later names p q a.1.1 b.1.1 both.1)

-- the text of a polynomial

free_later : (c : ℕ) → IsApart c → ((32 == c) ≡ false) × ((43 == c) ≡ false) × ((45 == c) ≡ false) → (names : List (List ℕ)) (p : List (List ℕ × Frac)) → AreTerms names p → Free c (later_text names p)
free_later c a b names [] h = tt
free_later c a b names (t ∷ p) h = (b.0, (signs (is_negative t.1.num), (b.0, Free-append c (term_text names t) (later_text names p) (term_free c a names t h.0) (free_later c a b names p h.1.1))))
  where
    signs : (minus : Bool) → (sign minus == c) ≡ false
    signs true = b.2
    signs false = b.1

free_poly : (c : ℕ) → IsApart c → ((32 == c) ≡ false) × ((43 == c) ≡ false) × ((45 == c) ≡ false) × ((48 == c) ≡ false) → (names : List (List ℕ)) (p : List (List ℕ × Frac)) → AreTerms names p → Free c (poly_text names p)
free_poly c a b names [] h = (b.3, tt)
free_poly c a b names (t ∷ p) h = Free-append c (minus_sign (is_negative t.1.num)) (term_text names t ++ later_text names p) (minus (is_negative t.1.num)) (Free-append c (term_text names t) (later_text names p) (term_free c a names t h.0) (free_later c a (b.0, b.1, b.2) names p h.1.1))
  where
    minus : (m : Bool) → Free c (minus_sign m)
    minus true = (b.2, tt)
    minus false = tt

opens : IsApart 40
opens = record { word = refl; star = refl; slash = refl; caret = refl }

closes : IsApart 41
closes = record { word = refl; star = refl; slash = refl; caret = refl }

begins_no : (c : ℕ) (text : List ℕ) → Free c text → begins_with_byte c text ≡ false
begins_no c [] f = refl
begins_no c (b ∷ text) f = f.0

pub no_powers : (names : List (List ℕ)) (e : List ℕ) → degree e ≡ 0 → powers names e ≡ []
no_powers [] e h = refl
no_powers (name ∷ names) [] h = refl
no_powers (name ∷ names) (k ∷ e) h =
    let none : k ≡ 0 = omega arith in
    ap (λ b. cond b (powers names e) (power name k ∷ powers names e)) (eq-eqb k 0 none) ∙ no_powers names e (omega arith)

one_text : (names : List (List ℕ)) (d : List (List ℕ × Frac)) → is_one d ≡ true → poly_text names d ≡ 49 ∷ []
one_text names [] h = cc
one_text names (t ∷ u ∷ d) h = cc
one_text names (t ∷ []) h =
    let a = both (degree t.0 == 0) (int_eq t.1.num (pos 1) && t.1.den == 1) h in
    let b = both (int_eq t.1.num (pos 1)) (t.1.den == 1) a.1 in
    let num : t.1.num ≡ pos 1 = (Decides-int_eq t.1.num (pos 1)).0 b.0 in
    let den : t.1.den ≡ 1 = eqb-true t.1.den 1 b.1 in
    let plain : factors t.1 (powers names t.0) ≡ magnitude t.1 ∷ [] = ap (factors t.1) (no_powers names t.0 (eqb-true (degree t.0) 0 a.0)) in
    let size : magnitude t.1 ≡ 49 ∷ [] = ap (λ d. magnitude (record { num = t.1.num; den = d })) den ∙ ap (λ n. decimal (unsigned_abs n)) num ∙ decimal_digit 1 (lit< tt) in
    ap (λ n. minus_sign (is_negative n) ++ (term_text names t ++ [])) num ∙ append-nil (term_text names t) ∙ ap (join_with_byte 42) plain ∙ size
  where
    both : (a b : Bool) → (a && b) ≡ true → (a ≡ true) × (b ≡ true)
    both true b h = (refl, h)
    both false b h = cc

-- the parts of a quotient

pub record AreParts (top bottom text : List ℕ) : Type 0 where
  pub num : numerator_text text ≡ top
  pub den : denominator_text text ≡ bottom

in_parentheses : (num den : List ℕ) → Free 41 num → Free 41 den → AreParts num den (40 ∷ (num ++ 41 ∷ 47 ∷ 40 ∷ (den ++ 41 ∷ [])))
in_parentheses num den f g = record {
  num = before-front 41 num (47 ∷ 40 ∷ (den ++ 41 ∷ [])) f;
  den = ap (λ t. before 41 (behind 40 t)) (behind-front 41 num (47 ∷ 40 ∷ (den ++ 41 ∷ [])) f) ∙ before-front 41 den [] g;
}

alone : (num den : List ℕ) → Free 40 num → den ≡ 49 ∷ [] → AreParts num den num
alone num den f one = record {
  num = ap (λ b. cond b (before 41 (behind 40 num)) num) (begins_no 40 num f);
  den = ap (λ b. cond b (before 41 (behind 40 (behind 41 num))) (49 ∷ [])) (begins_no 40 num f) ∙ sym one;
}

abbrev both_parts : List (List ℕ) → RationalPair → List ℕ
both_parts names q = 40 ∷ (poly_text names q.num ++ 41 ∷ 47 ∷ 40 ∷ (poly_text names q.den ++ 41 ∷ []))

pub parts_of : (names : List (List ℕ)) (q : RationalPair) → AreTerms names q.num → AreTerms names q.den → AreParts (poly_text names q.num) (poly_text names q.den) (quotient_text names q)
parts_of names q a b = elim (cases_Bool (is_one q.den)) [
  | inl one ↦
      let same : quotient_text names q ≡ poly_text names q.num = ap (λ b. cond b (poly_text names q.num) (both_parts names q)) one in
      subst (λ (t : List ℕ). AreParts (poly_text names q.num) (poly_text names q.den) t) (sym same) (alone (poly_text names q.num) (poly_text names q.den) (free_poly 40 opens (refl, refl, refl, refl) names q.num a) (one_text names q.den one))
  | inr more ↦
      let same : quotient_text names q ≡ both_parts names q = ap (λ b. cond b (poly_text names q.num) (both_parts names q)) more in
      subst (λ (t : List ℕ). AreParts (poly_text names q.num) (poly_text names q.den) t) (sym same) (in_parentheses (poly_text names q.num) (poly_text names q.den) (free_poly 41 closes (refl, refl, refl, refl) names q.num a) (free_poly 41 closes (refl, refl, refl, refl) names q.den b))
]

-- a quotient whose numbers are as small as they are kept
pub record IsKept (names : List (List ℕ)) (q : RationalPair) : Type 0 where
  pub num : AreTerms names q.num
  pub den : AreTerms names q.den

pub kept : (names : List (List ℕ)) (q : RationalPair) → AreVariables names → IsQuotientMap q → AreIn names q → HasSizes q → IsKept names q
kept names q v m i s = record { num = terms_of names v q.num m.num i.num s.num; den = terms_of names v q.den m.den i.den s.den }

pub same_quotient : (names : List (List ℕ)) (p q : RationalPair) → AreVariables names → IsQuotientMap p → AreIn names p → HasSizes p → IsQuotientMap q → AreIn names q → HasSizes q → quotient_text names p ≡ quotient_text names q → p ≡ q
same_quotient names p q v mp ip sp mq iq sq e =
    let a = kept names p v mp ip sp in
    let b = kept names q v mq iq sq in
    let x = parts_of names p a.num a.den in
    let y = parts_of names q b.num b.den in
    let num : p.num ≡ q.num = same_poly names p.num q.num a.num b.num (sym x.num ∙ ap numerator_text e ∙ y.num) in
    let den : p.den ≡ q.den = same_poly names p.den q.den a.den b.den (sym x.den ∙ ap denominator_text e ∙ y.den) in
    let first : p ≡ record { num = q.num; den = p.den } = ap (λ n. record { num = n; den = p.den }) num in
    first ∙ ap (λ d. record { num = q.num; den = d }) den
