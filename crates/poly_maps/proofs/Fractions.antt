-- Terms with fractions: what a term put in its place leaves, and what the fractions at monomials pin.
use Rattle.std.proofs.Common.{◌≡◌, ◌≢◌, ◌<◌, ℤ, unsigned_abs, ℕ, zero, suc, Bool, true, false, if◌then◌else◌, Some, None, List, [], ◌∷◌, ◌++◌, take, drop, refl, sym, ap, ◌∙◌, subst, arith}
use Rattle.std.proofs.lemmas.List.{take-append-drop}
use Rattle.std.proofs.lemmas.Nat.Gcd.{dvd_refl}
use Rattle.std.proofs.Math.Nat.{one-dvd}
use Rattle.std.specs.Int.{◌∣◌}
use Rattle.std.specs.declared.cmp.Ordering.{Ordering}
use Rattle.std.specs.declared.cmp.Ordering.TheVariants.{Less, Equal, Greater}
use Rattle.poly_maps.specs.Mono.{mono_cmp, is_same, HasEight}
use Rattle.poly_maps.specs.Polynomial.{AreLess, AreAbove, Descends, Supported}
use Rattle.poly_maps.specs.Places.{IsThere, BelongsAt}
use Rattle.poly_maps.specs.Fraction.{IsFraction, AreFractions, IsRational, fraction_at}
use Rattle.poly_maps.specs.declared.fraction.Frac.{Frac}
use Rattle.poly_maps.proofs.MonoLemmas.{mono_tied, mono_flip, is_same-true, is_same-less, is_same-itself}
use Rattle.poly_maps.proofs.Terms.{AreLess-trans, Descends-inserted, Supported-inserted}
use Rattle.poly_maps.proofs.Adding.{AreAbove-take, AreLess-drop}

AreFractions-inserted : (front back : List (List ℕ × Frac)) (t : List ℕ × Frac) → AreFractions (front ++ back) → IsFraction t.1 → AreFractions (front ++ t ∷ back)
AreFractions-inserted [] back t fractions here = (here, fractions)
AreFractions-inserted (u ∷ front) back t fractions here = (fractions.0, AreFractions-inserted front back t fractions.1 here)

fraction_at-inserted : (g : List ℕ) (front back : List (List ℕ × Frac)) (t : List ℕ × Frac) → AreAbove t.0 front →
    fraction_at g (front ++ t ∷ back) ≡ (if is_same t.0 g then Some t.1 else fraction_at g (front ++ back))
fraction_at-inserted g [] back t above = refl
fraction_at-inserted g (u ∷ front) back t above = at (is_same u.0 g) refl (fraction_at-inserted g front back t above.1)
  where
    at : (b : Bool) → is_same u.0 g ≡ b → fraction_at g (front ++ t ∷ back) ≡ (if is_same t.0 g then Some t.1 else fraction_at g (front ++ back)) →
        (if b then Some u.1 else fraction_at g (front ++ t ∷ back)) ≡ (if is_same t.0 g then Some t.1 else (if b then Some u.1 else fraction_at g (front ++ back)))
    at true same rest =
        let other : is_same t.0 g ≡ false = subst (λ e. is_same t.0 e ≡ false) (is_same-true u.0 g same) (is_same-less t.0 u.0 above.0) in
        rw other refl
    at false different rest = rest

-- a term put where its monomial belongs
pub record IsPut (old new : List (List ℕ × Frac)) (e : List ℕ) (f : Frac) : Type 0 where
  pub rational : IsRational new
  pub fractions : (g : List ℕ) → fraction_at g new ≡ (if is_same e g then Some f else fraction_at g old)
  pub last : AreAbove e old → new ≡ old ++ (e, f) ∷ []

put_last : (terms : List (List ℕ × Frac)) (e : List ℕ) (f : Frac) (place : ℕ) → BelongsAt terms e place → AreAbove e terms → take place terms ++ (e, f) ∷ drop place terms ≡ terms ++ (e, f) ∷ []
put_last [] e f zero belongs above = refl
put_last [] e f (suc place) belongs above = refl
put_last (t ∷ terms) e f zero belongs above =
    let wrong : Less ≡ Greater = sym above.0 ∙ belongs.2 0 t (omega arith) (omega arith) in cc
put_last (t ∷ terms) e f (suc place) belongs above =
    ap (λ p. t ∷ p) (put_last terms e f place (omega (arith, belongs.0), λ k d from to. belongs.1 (suc k) d (omega arith) (omega arith), λ k d from to. belongs.2 (suc k) d (omega arith) (omega arith)) above.1)

pub put : (terms : List (List ℕ × Frac)) (e : List ℕ) (f : Frac) (place : ℕ) → IsRational terms → HasEight e → IsFraction f → BelongsAt terms e place → IsPut terms (take place terms ++ (e, f) ∷ drop place terms) e f
put terms e f place rational eight fraction belongs =
    let front : List (List ℕ × Frac) = take place terms in
    let back : List (List ℕ × Frac) = drop place terms in
    let whole : terms ≡ front ++ back = sym (take-append-drop place terms) in
    let above = AreAbove-take terms e place belongs.0 belongs.1 in
    let less = AreLess-drop terms e place belongs.2 in
    record {
      rational = record {
        fractions = AreFractions-inserted front back (e, f) (subst AreFractions whole rational.fractions) fraction;
        descends = Descends-inserted front back (e, f) (subst (λ p. Descends p) whole rational.descends) above less;
        eight = Supported-inserted HasEight front back (e, f) (subst (λ p. Supported HasEight p) whole rational.eight) eight;
      };
      fractions = λ g. fraction_at-inserted g front back (e, f) above ∙ ap (λ p. if is_same e g then Some f else fraction_at g p) (sym whole);
      last = λ all. put_last terms e f place belongs all;
    }

-- a monomial that is there has a fraction
pub there-some : (terms : List (List ℕ × Frac)) (e : List ℕ) (place : ℕ) → IsThere terms e place → fraction_at e terms ≡ None → ⊥
there-some [] e place there none = omega (arith, there.0)
there-some (t ∷ terms) e zero there none =
    let same : is_same t.0 e ≡ true = ap (λ g. is_same g e) (there.1 t) ∙ is_same-itself e in
    let here : Some t.1 ≡ None = sym (ap (λ b. if b then Some t.1 else fraction_at e terms) same) ∙ none in cc
there-some (t ∷ terms) e (suc place) there none = at (is_same t.0 e) none (λ rest. there-some terms e place (omega (arith, there.0), λ d. there.1 d) rest)
  where
    at : (b : Bool) → (if b then Some t.1 else fraction_at e terms) ≡ None → (fraction_at e terms ≡ None → ⊥) → ⊥
    at true here rest = cc
    at false here rest = rest here

-- ---- the fractions at monomials pin the terms

pub fraction_at-less : (p : List (List ℕ × Frac)) (e : List ℕ) → AreLess p e → fraction_at e p ≡ None
fraction_at-less [] e less = refl
fraction_at-less (t ∷ p) e less =
    ap (λ b. if b then Some t.1 else fraction_at e p) (is_same-less t.0 e less.0) ∙ fraction_at-less p e less.1

pub first-fraction : (t : List ℕ × Frac) (p : List (List ℕ × Frac)) → fraction_at t.0 (t ∷ p) ≡ Some t.1
first-fraction t p = ap (λ b. if b then Some t.1 else fraction_at t.0 p) (is_same-itself t.0)

-- terms whose first monomial is below e have no fraction at e
no_fraction : (t : List ℕ × Frac) (p : List (List ℕ × Frac)) (e : List ℕ) → AreLess p t.0 → mono_cmp t.0 e ≡ Less → fraction_at e (t ∷ p) ≡ None
no_fraction t p e less below = fraction_at-less (t ∷ p) e (below, AreLess-trans p t.0 e less below)

-- behind equal first terms the fractions are the same
behind : (t u : List ℕ × Frac) (p q : List (List ℕ × Frac)) → t.0 ≡ u.0 → AreLess p t.0 → AreLess q u.0 → ((e : List ℕ) → fraction_at e (t ∷ p) ≡ fraction_at e (u ∷ q)) → (e : List ℕ) → fraction_at e p ≡ fraction_at e q
behind t u p q mono less less' same e = at (is_same t.0 e) refl
  where
    at : (b : Bool) → is_same t.0 e ≡ b → fraction_at e p ≡ fraction_at e q
    at true here =
        let first : t.0 ≡ e = is_same-true t.0 e here in
        fraction_at-less p e (subst (AreLess p) first less) ∙ sym (fraction_at-less q e (subst (AreLess q) (sym mono ∙ first) less'))
    at false other =
        let other' : is_same u.0 e ≡ false = ap (λ f. is_same f e) (sym mono) ∙ other in
        sym (ap (λ b. if b then Some t.1 else fraction_at e p) other) ∙ same e ∙ ap (λ b. if b then Some u.1 else fraction_at e q) other'

pub same_fractions : (p q : List (List ℕ × Frac)) → Descends p → Descends q → ((e : List ℕ) → fraction_at e p ≡ fraction_at e q) → p ≡ q
same_fractions [] [] descends descends' same = refl
same_fractions [] (u ∷ q) descends descends' same = let wrong : None ≡ Some u.1 = same u.0 ∙ first-fraction u q in cc
same_fractions (t ∷ p) [] descends descends' same = let wrong : Some t.1 ≡ None = sym (first-fraction t p) ∙ same t.0 in cc
same_fractions (t ∷ p) (u ∷ q) descends descends' same = by (mono_cmp t.0 u.0) refl (same_fractions p q descends.1 descends'.1)
  where
    by : (o : Ordering) → mono_cmp t.0 u.0 ≡ o → (((e : List ℕ) → fraction_at e p ≡ fraction_at e q) → p ≡ q) → (t ∷ p) ≡ (u ∷ q)
    by Less below rest = let wrong : Some u.1 ≡ None = sym (first-fraction u q) ∙ sym (same u.0) ∙ no_fraction t p u.0 descends.0 below in cc
    by Greater above rest = let wrong : Some t.1 ≡ None = sym (first-fraction t p) ∙ same t.0 ∙ no_fraction u q t.0 descends'.0 (mono_flip t.0 u.0 above) in cc
    by Equal tied rest =
        let mono : t.0 ≡ u.0 = mono_tied t.0 u.0 tied in
        let wrapped : Some t.1 ≡ Some u.1 = sym (first-fraction t p) ∙ same t.0 ∙ ap (λ e. fraction_at e (u ∷ q)) mono ∙ first-fraction u q in
        let factor : t.1 ≡ u.1 = cc in
        let tail : p ≡ q = rest (behind t u p q mono descends.0 descends'.0 same) in
        λ i. (mono i, factor i) ∷ tail i

-- ---- fractions in lowest terms, whatever the numbers

-- a whole number that isn't zero, and a fraction whose numerator is 1 or -1
pub whole_fraction : (z : ℤ) → unsigned_abs z ≢ 0 → IsFraction (record { num = z; den = 1 })
whole_fraction z some = record { some = some; positive = omega arith; lowest = (one-dvd (unsigned_abs z), dvd_refl 1, λ d first second. second) }

pub part_fraction : (z : ℤ) (d : ℕ) → unsigned_abs z ≡ 1 → 0 < d → IsFraction (record { num = z; den = d })
part_fraction z d one some = record {
  some = omega (arith, one);
  positive = some;
  lowest = (subst (λ n. 1 ∣ n) (sym one) (dvd_refl 1), one-dvd d, λ g first second. subst (λ n. g ∣ n) one first);
}
