-- What adding to a coefficient leaves.
use Rattle.std.proofs.Common.{◌≡◌, ◌≢◌, ℕ, zero, suc, ◌+◌, ◌%◌, ◌<◌, ◌≤◌, Bool, true, false, if◌then◌else◌, List, [], ◌∷◌, ◌++◌, length, get_or, take, drop, refl, sym, ap, ◌∙◌, subst, arith}
use Rattle.std.proofs.Math.ListN.{set}
use Rattle.std.proofs.Math.Nat.{mod-eq_of_lt}
use Rattle.std.proofs.lemmas.Nat.{mod_below}
use Rattle.std.proofs.Common.{Result, Ok, Err, IfOk, IfErr}
use Rattle.std.proofs.lemmas.Cmp.{back_total}
use Rattle.std.proofs.lemmas.List.{take-append-drop, set_split}
use Rattle.std.proofs.lemmas.List.Sorted.{searchable_from_sorted}
use Rattle.std.specs.List.Sorted.{IsNonDecreasingBy, IsBinarySearchResult, IsSearchInRange}
use Rattle.std.specs.Ordering.{ordering_index, is_lt}
use Rattle.std.specs.List.{AllWithin}
use Rattle.std.specs.declared.cmp.Ordering.TheVariants.{Less, Greater}
use Rattle.poly_maps.specs.Mono.{mono_cmp, is_same, HasEight}
use Rattle.poly_maps.specs.Polynomial.{coefficient, AreLess, AreAbove, Descends, IsNormal, AreResidues, IsPolynomial}
use Rattle.poly_maps.specs.Places.{IsThere, BelongsAt, AddsTerm}
use Rattle.poly_maps.proofs.MonoLemmas.{mono_total, mono_tied, mono_flip, mono_flip_less, is_same-true, is_same-itself}
use Rattle.poly_maps.proofs.Terms.{coefficient-append, coefficient-above, coefficient-less, coefficient-residue, coefficient-inserted, IsNormal-inserted, IsNormal-removed, AreResidues-inserted, AreResidues-removed, Supported-inserted, Supported-removed}

-- the front and the back of a list without a term for e
pub record IsGap (m : ℕ) (front back : List (List ℕ × ℕ)) (e : List ℕ) : Type 0 where
  pub polynomial : IsPolynomial (front ++ back)
  pub residues : AreResidues m (front ++ back)
  pub above : AreAbove e front
  pub less : AreLess back e

pub gap-coefficient : (m : ℕ) (front back : List (List ℕ × ℕ)) (e : List ℕ) → IsGap m front back e → coefficient e (front ++ back) ≡ 0
gap-coefficient m front back e gap =
    coefficient-append e front back ∙ omega (arith, coefficient-above e front gap.above, coefficient-less back e gap.less)

-- what a term with the sum as coefficient, put in the gap, does to the coefficient of f
gap_sum : (m : ℕ) (front back : List (List ℕ × ℕ)) (e : List ℕ) (before c sum : ℕ) → 0 < m → IsGap m front back e → sum ≡ (before + c) % m → (f : List ℕ) →
    coefficient f (front ++ back) + (if is_same e f then sum else 0) ≡ ((coefficient f (front ++ back) + (if is_same e f then before else 0)) + (if is_same e f then c else 0)) % m
gap_sum m front back e before c sum some gap is f = at (is_same e f) refl
  where
    at : (b : Bool) → is_same e f ≡ b → coefficient f (front ++ back) + (if b then sum else 0) ≡ ((coefficient f (front ++ back) + (if b then before else 0)) + (if b then c else 0)) % m
    at true same =
        let none : coefficient f (front ++ back) ≡ 0 = ap (λ g. coefficient g (front ++ back)) (sym (is_same-true e f same)) ∙ gap-coefficient m front back e gap in
        let whole : (coefficient f (front ++ back) + before) + c ≡ before + c = omega (arith, none) in
        omega (arith, none, is, ap (λ n. n % m) whole)
    at false other =
        let low = coefficient-residue m f (front ++ back) some gap.polynomial.0 gap.residues in
        let whole : (coefficient f (front ++ back) + 0) + 0 ≡ coefficient f (front ++ back) = omega arith in
        omega (arith, ap (λ n. n % m) whole, mod-eq_of_lt low)

-- a term left in the gap, whose coefficient is what was there and c
pub adds_filled : (m : ℕ) (front back old : List (List ℕ × ℕ)) (e : List ℕ) (before c sum : ℕ) → 0 < m → HasEight e → IsGap m front back e →
    ((f : List ℕ) → coefficient f old ≡ coefficient f (front ++ back) + (if is_same e f then before else 0)) →
    sum ≡ (before + c) % m → sum ≢ 0 → AddsTerm m old (front ++ (e, sum) ∷ back) e c
adds_filled m front back old e before c sum some eight gap was is filled = record {
  polynomial = (IsNormal-inserted front back (e, sum) gap.polynomial.0 gap.above gap.less filled, Supported-inserted HasEight front back (e, sum) gap.polynomial.1 eight);
  residues = AreResidues-inserted m front back (e, sum) gap.residues (subst (λ n. n < m) (sym is) (mod_below (before + c) m some));
  sum = λ f. coefficient-inserted f front back (e, sum) ∙ gap_sum m front back e before c sum some gap is f ∙ ap (λ n. (n + (if is_same e f then c else 0)) % m) (sym (was f));
}

-- no term left, where what was there and c leave nothing
pub adds_emptied : (m : ℕ) (front back old : List (List ℕ × ℕ)) (e : List ℕ) (before c : ℕ) → 0 < m → IsGap m front back e →
    ((f : List ℕ) → coefficient f old ≡ coefficient f (front ++ back) + (if is_same e f then before else 0)) →
    0 ≡ (before + c) % m → AddsTerm m old (front ++ back) e c
adds_emptied m front back old e before c some gap was is = record {
  polynomial = gap.polynomial;
  residues = gap.residues;
  sum = λ f. sym (no_more f (is_same e f)) ∙ gap_sum m front back e before c 0 some gap is f ∙ ap (λ n. (n + (if is_same e f then c else 0)) % m) (sym (was f));
}
  where
    no_more : (f : List ℕ) (b : Bool) → coefficient f (front ++ back) + (if b then 0 else 0) ≡ coefficient f (front ++ back)
    no_more f true = omega arith
    no_more f false = omega arith

-- nothing added
pub adds_nothing : (m : ℕ) (terms : List (List ℕ × ℕ)) (e : List ℕ) → 0 < m → IsPolynomial terms → AreResidues m terms → AddsTerm m terms terms e 0
adds_nothing m terms e some polynomial residues = record {
  polynomial = polynomial;
  residues = residues;
  sum = λ f. sym (mod-eq_of_lt (coefficient-residue m f terms some polynomial.0 residues)) ∙ ap (λ n. n % m) (more f (is_same e f));
}
  where
    more : (f : List ℕ) (b : Bool) → coefficient f terms ≡ coefficient f terms + (if b then 0 else 0)
    more f true = omega arith
    more f false = omega arith

-- ---- the gap at a place

pub AreAbove-take : {A : Type 0} (terms : List (List ℕ × A)) (e : List ℕ) (place : ℕ) → place ≤ length terms → AllWithin (λ t. mono_cmp e t.0 ≡ Less) terms 0 place → AreAbove e (take place terms)
AreAbove-take terms e zero low above = tt
AreAbove-take [] e (suc place) low above = tt
AreAbove-take (t ∷ terms) e (suc place) low above =
    (above 0 t (omega arith) (omega arith), AreAbove-take terms e place (omega arith) (λ k d from to. above (suc k) d (omega arith) (omega arith)))

pub AreLess-drop : {A : Type 0} (terms : List (List ℕ × A)) (e : List ℕ) (place : ℕ) → AllWithin (λ t. mono_cmp e t.0 ≡ Greater) terms place (length terms) → AreLess (drop place terms) e
AreLess-drop [] e zero less = tt
AreLess-drop [] e (suc place) less = tt
AreLess-drop (t ∷ terms) e zero less =
    (mono_flip e t.0 (less 0 t (omega arith) (omega arith)), AreLess-drop terms e zero (λ k d from to. less (suc k) d (omega arith) (omega arith)))
AreLess-drop (t ∷ terms) e (suc place) less =
    AreLess-drop terms e place (λ k d from to. less (suc k) d (omega arith) (omega arith))

-- terms split where e belongs
pub gap-belongs : (m : ℕ) (terms : List (List ℕ × ℕ)) (e : List ℕ) (place : ℕ) → IsPolynomial terms → AreResidues m terms → BelongsAt terms e place → IsGap m (take place terms) (drop place terms) e
gap-belongs m terms e place polynomial residues belongs =
    let whole : terms ≡ take place terms ++ drop place terms = sym (take-append-drop place terms) in
    record {
      polynomial = subst IsPolynomial whole polynomial;
      residues = subst (AreResidues m) whole residues;
      above = AreAbove-take terms e place belongs.0 belongs.1;
      less = AreLess-drop terms e place belongs.2;
    }

-- terms split at the place where e is
pub split-there : {A : Type 0} (terms : List (List ℕ × A)) (e : List ℕ) (place : ℕ) (d : List ℕ × A) → IsThere terms e place → terms ≡ take place terms ++ (e, (get_or terms place d).1) ∷ drop (suc place) terms
split-there [] e place d there = absurd (omega (arith, there.0))
split-there (t ∷ terms) e zero d there = λ i. (there.1 d i, t.1) ∷ terms
split-there (t ∷ terms) e (suc place) d there = ap (λ p. t ∷ p) (split-there terms e place d (omega (arith, there.0), λ d. there.1 d))

pub gap-there : (m : ℕ) (front back : List (List ℕ × ℕ)) (t : List ℕ × ℕ) → IsPolynomial (front ++ t ∷ back) → AreResidues m (front ++ t ∷ back) → IsGap m front back t.0
gap-there m front back t polynomial residues =
    let rest = IsNormal-removed front back t polynomial.0 in
    record {
      polynomial = (rest.0, (Supported-removed HasEight front back t polynomial.1).0);
      residues = (AreResidues-removed m front back t residues).0;
      above = rest.1;
      less = rest.2;
    }

-- ---- what a write at the place leaves

pub adds_set : (m : ℕ) (terms : List (List ℕ × ℕ)) (e : List ℕ) (place : ℕ) (d : List ℕ × ℕ) (c sum : ℕ) → 0 < m → HasEight e → IsPolynomial terms → AreResidues m terms → IsThere terms e place →
    sum ≡ ((get_or terms place d).1 + c) % m → sum ≢ 0 → AddsTerm m terms (set terms place (e, sum)) e c
adds_set m terms e place d c sum some eight polynomial residues there is filled =
    let front : List (List ℕ × ℕ) = take place terms in
    let back : List (List ℕ × ℕ) = drop (suc place) terms in
    let before : ℕ = (get_or terms place d).1 in
    let split : terms ≡ front ++ (e, before) ∷ back = split-there terms e place d there in
    let gap = gap-there m front back (e, before) (subst IsPolynomial split polynomial) (subst (AreResidues m) split residues) in
    subst (λ new. AddsTerm m terms new e c) (sym (set_split terms place (e, sum) there.0)) (
    adds_filled m front back terms e before c sum some eight gap (λ f. ap (coefficient f) split ∙ coefficient-inserted f front back (e, before)) is filled)

pub adds_remove : (m : ℕ) (terms : List (List ℕ × ℕ)) (e : List ℕ) (place : ℕ) (d : List ℕ × ℕ) (c : ℕ) → 0 < m → IsPolynomial terms → AreResidues m terms → IsThere terms e place →
    0 ≡ ((get_or terms place d).1 + c) % m → AddsTerm m terms (take place terms ++ drop (suc place) terms) e c
adds_remove m terms e place d c some polynomial residues there is =
    let front : List (List ℕ × ℕ) = take place terms in
    let back : List (List ℕ × ℕ) = drop (suc place) terms in
    let before : ℕ = (get_or terms place d).1 in
    let split : terms ≡ front ++ (e, before) ∷ back = split-there terms e place d there in
    let gap = gap-there m front back (e, before) (subst IsPolynomial split polynomial) (subst (AreResidues m) split residues) in
    adds_emptied m front back terms e before c some gap (λ f. ap (coefficient f) split ∙ coefficient-inserted f front back (e, before)) is

pub adds_insert : (m : ℕ) (terms : List (List ℕ × ℕ)) (e : List ℕ) (place c : ℕ) → 0 < m → HasEight e → IsPolynomial terms → AreResidues m terms → BelongsAt terms e place → c < m → c ≢ 0 →
    AddsTerm m terms (take place terms ++ (e, c) ∷ drop place terms) e c
adds_insert m terms e place c some eight polynomial residues belongs low filled =
    adds_filled m (take place terms) (drop place terms) terms e 0 c c some eight (gap-belongs m terms e place polynomial residues belongs) was (sym (mod-eq_of_lt low) ∙ ap (λ n. n % m) (omega arith)) filled
  where
    was : (f : List ℕ) → coefficient f terms ≡ coefficient f (take place terms ++ drop place terms) + (if is_same e f then 0 else 0)
    was f = ap (coefficient f) (sym (take-append-drop place terms)) ∙ none (is_same e f)
      where
        none : (b : Bool) → coefficient f (take place terms ++ drop place terms) ≡ coefficient f (take place terms ++ drop place terms) + (if b then 0 else 0)
        none true = omega arith
        none false = omega arith

-- ---- the search for a place

adjacent : {A : Type 0} (terms : List (List ℕ × A)) (k : ℕ) (d : List ℕ × A) → Descends terms → k + 1 < length terms → mono_cmp (get_or terms k d).0 (get_or terms (k + 1) d).0 ≡ Greater
adjacent [] k d descends low = absurd (omega arith)
adjacent (t ∷ []) k d descends low = absurd (omega arith)
adjacent (t ∷ u ∷ terms) zero d descends low = mono_flip_less u.0 t.0 descends.0.0
adjacent (t ∷ u ∷ terms) (suc k) d descends low =
    subst (λ n. mono_cmp (get_or (t ∷ u ∷ terms) (suc k) d).0 (get_or (t ∷ u ∷ terms) n d).0 ≡ Greater) step (adjacent (u ∷ terms) k d descends.1 (omega arith))
  where
    step : suc (k + 1) ≡ suc k + 1
    step = omega arith

-- the answers of comparisons with e rise along descending terms
pub rises : {A : Type 0} (terms : List (List ℕ × A)) (e : List ℕ) → Descends terms → IsNonDecreasingBy (λ t. ordering_index (mono_cmp e t.0)) terms
rises terms e descends =
    searchable_from_sorted (back_total mono_total) (λ t. t.0) terms e (λ k d _ low. ap is_lt (adjacent terms k d descends low))

pub found : {A : Type 0} (terms : List (List ℕ × A)) (e : List ℕ) (r : Result ℕ ℕ) → IsSearchInRange r (length terms) → IsBinarySearchResult (λ t. mono_cmp e t.0) terms r → IfOk r (IsThere terms e)
found terms e (Ok place) within is = (within, λ d. sym (mono_tied e _ (is d)))
found terms e (Err place) within is = tt

pub not_found : {A : Type 0} (terms : List (List ℕ × A)) (e : List ℕ) (r : Result ℕ ℕ) → Descends terms → IsSearchInRange r (length terms) → IsBinarySearchResult (λ t. mono_cmp e t.0) terms r → IfErr r (BelongsAt terms e)
not_found terms e (Ok place) descends within is = tt
not_found terms e (Err place) descends within is =
    let parts = is (rises terms e descends) in (within, parts.0, parts.1)

-- ---- coefficients by places

pub coefficient-there : (terms : List (List ℕ × ℕ)) (e : List ℕ) (place : ℕ) (d : List ℕ × ℕ) → IsNormal terms → IsThere terms e place → (get_or terms place d).1 ≡ coefficient e terms
coefficient-there terms e place d normal there =
    let front : List (List ℕ × ℕ) = take place terms in
    let back : List (List ℕ × ℕ) = drop (suc place) terms in
    let before : ℕ = (get_or terms place d).1 in
    let split : terms ≡ front ++ (e, before) ∷ back = split-there terms e place d there in
    let rest = IsNormal-removed front back (e, before) (subst IsNormal split normal) in
    let whole : coefficient e terms ≡ coefficient e (front ++ back) + (if is_same e e then before else 0) = ap (coefficient e) split ∙ coefficient-inserted e front back (e, before) in
    let here : (if is_same e e then before else 0) ≡ before = ap (λ b. if b then before else 0) (is_same-itself e) in
    omega (arith, coefficient-append e front back, coefficient-above e front rest.1, coefficient-less back e rest.2)

pub coefficient-absent : (terms : List (List ℕ × ℕ)) (e : List ℕ) (place : ℕ) → BelongsAt terms e place → 0 ≡ coefficient e terms
coefficient-absent terms e place belongs =
    let whole : coefficient e terms ≡ coefficient e (take place terms ++ drop place terms) = ap (coefficient e) (sym (take-append-drop place terms)) in
    omega (arith, coefficient-append e (take place terms) (drop place terms), coefficient-above e (take place terms) (AreAbove-take terms e place belongs.0 belongs.1), coefficient-less (drop place terms) e (AreLess-drop terms e place belongs.2))
