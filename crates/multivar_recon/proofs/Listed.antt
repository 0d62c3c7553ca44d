-- Terms whose monomials are listed: their coefficients, and bounds on them.
use Rattle.std.proofs.Common.{◌≡◌, ◌≢◌, ℕ, zero, suc, ◌+◌, ◌%◌, ◌<◌, ◌≤◌, ◌⊎◌, Bool, true, false, if◌then◌else◌, AllPairs, Contains, List, [], ◌∷◌, ◌++◌, length, get_or, slice_index, take, drop, map, inl, inr, refl, sym, ◌∙◌, ap, arith}
use Rattle.std.proofs.Math.Nat.{mod-mod}
use Rattle.std.proofs.lemmas.Bool.{cases_eq, cases_lt}
use Rattle.std.proofs.lemmas.List.{get_or-map, get_or_append_left, get_or-append-add, length-append, length-map, get_or_default}
use Rattle.std.proofs.Math.Seq.{take-append_seam, drop-append_seam}
use Rattle.std.specs.declared.cmp.Ordering.TheVariants.{Less, Equal, Greater}
use Rattle.poly_maps.specs.declared.bound.Bound.{Bound}
use Rattle.poly_maps.specs.Bound.{IsMonomialWithin, IsWithin}
use Rattle.poly_maps.specs.Mono.{mono_cmp, is_same, HasEight}
use Rattle.poly_maps.specs.Polynomial.{coefficient, AreResidues, Supported}
use Rattle.poly_maps.proofs.MonoLemmas.{is_same-true, is_same-itself, is_same-less, mono_itself, mono_flip_less}
use Rattle.poly_maps.proofs.Linear.{AreAlike}
use Rattle.poly_maps.proofs.Moves.{supported-coefficient}
use Rattle.poly_maps.proofs.Within.{IsBelow-places}
use Rattle.ray_grid.specs.Covering.{ListsMonomials}
use Rattle.multivar_recon.specs.Vectors.{with_numbers}

-- ---- places in an ascending list

abbrev pub Ascends : List (List ℕ) → Type 0
Ascends es = AllPairs (λ e f. mono_cmp e f ≡ Less) es

tail_ascends : (e : List ℕ) (es : List (List ℕ)) → Ascends (e ∷ es) → Ascends es
tail_ascends e es up i j d before low = up (suc i) (suc j) d (omega arith) (omega arith)

-- the greater monomial comes later
pub place_order : (es : List (List ℕ)) (i j : ℕ) → Ascends es → i < length es → j < length es → mono_cmp (get_or es i []) (get_or es j []) ≡ Less → i < j
place_order es i j up i_low j_low less = elim (cases_lt i j) [
  | inl before ↦ before
  | inr after ↦ elim (cases_eq i j) [
    | inl same ↦
        let tied : mono_cmp (get_or es i []) (get_or es j []) ≡ Equal = ap (λ k. mono_cmp (get_or es i []) (get_or es k [])) (sym same) ∙ mono_itself (get_or es i []) in
        let no : Less ≡ Equal = sym less ∙ tied in
        cc
    | inr other ↦
        let above : mono_cmp (get_or es i []) (get_or es j []) ≡ Greater = mono_flip_less (get_or es j []) (get_or es i []) (up j i [] (omega arith) i_low) in
        let no : Less ≡ Greater = sym less ∙ above in
        cc
  ]
]

-- a monomial stands in the list, or at no place of it
pub find : (e : List ℕ) (es : List (List ℕ)) → ((k : ℕ) × (k < length es) × (get_or es k [] ≡ e)) ⊎ ((k : ℕ) → k < length es → get_or es k [] ≢ e)
find e [] = inr (λ k low. absurd (omega arith))
find e (f ∷ es) = by (is_same f e) refl (find e es)
  where
    by : (b : Bool) → is_same f e ≡ b → ((k : ℕ) × (k < length es) × (get_or es k [] ≡ e)) ⊎ ((k : ℕ) → k < length es → get_or es k [] ≢ e) →
        ((k : ℕ) × (k < length (f ∷ es)) × (get_or (f ∷ es) k [] ≡ e)) ⊎ ((k : ℕ) → k < length (f ∷ es) → get_or (f ∷ es) k [] ≢ e)
    by true same rest = inl (0, omega arith, is_same-true f e same)
    by false other (inl there) = inl (suc there.0, omega (arith, there.1), there.2)
    by false other (inr none) = inr first
      where
        first : (k : ℕ) → k < length (f ∷ es) → get_or (f ∷ es) k [] ≢ e
        first zero low same =
            let itself : is_same f e ≡ true = ap (λ g. is_same g e) same ∙ is_same-itself e in
            cc
        first (suc k) low same = none k (omega arith) same

-- ---- coefficients

pub coefficient-none : (e : List ℕ) (es : List (List ℕ)) (z : ℕ → ℕ) → ((k : ℕ) → k < length es → get_or es k [] ≢ e) → coefficient e (with_numbers es z) ≡ 0
coefficient-none e [] z none = refl
coefficient-none e (f ∷ es) z none = by (is_same f e) refl (coefficient-none e es (λ k. z (suc k)) (λ k low. none (suc k) (omega arith)))
  where
    by : (b : Bool) → is_same f e ≡ b → coefficient e (with_numbers es (λ k. z (suc k))) ≡ 0 → (if is_same f e then z 0 else 0) + coefficient e (with_numbers es (λ k. z (suc k))) ≡ 0
    by true same rest = absurd (none 0 (omega arith) (is_same-true f e same))
    by false other rest = ap (λ b. (if b then z 0 else 0) + coefficient e (with_numbers es (λ k. z (suc k)))) other ∙ omega (arith, rest)

pub coefficient-at : (es : List (List ℕ)) (z : ℕ → ℕ) (k : ℕ) → Ascends es → k < length es → coefficient (get_or es k []) (with_numbers es z) ≡ z k
coefficient-at [] z k up low = absurd (omega arith)
coefficient-at (e ∷ es) z zero up low =
    let rest : coefficient e (with_numbers es (λ k. z (suc k))) ≡ 0 =
    coefficient-none e es (λ k. z (suc k)) (λ k k_low same.
    let below : mono_cmp e (get_or es k []) ≡ Less = up 0 (suc k) [] (omega arith) (omega arith) in
    let tied : mono_cmp e (get_or es k []) ≡ Equal = ap (mono_cmp e) same ∙ mono_itself e in
    let no : Less ≡ Equal = sym below ∙ tied in
    cc) in
    ap (λ b. (if b then z 0 else 0) + coefficient e (with_numbers es (λ k. z (suc k)))) (is_same-itself e) ∙ omega (arith, rest)
coefficient-at (e ∷ es) z (suc k) up low =
    let other : is_same e (get_or es k []) ≡ false = is_same-less e (get_or es k []) (up 0 (suc k) [] (omega arith) (omega arith)) in
    ap (λ b. (if b then z 0 else 0) + coefficient (get_or es k []) (with_numbers es (λ k. z (suc k)))) other ∙
    omega (arith, coefficient-at es (λ k. z (suc k)) k (tail_ascends e es up) (omega arith))

-- where all monomials of a polynomial are listed, it has no coefficient elsewhere
pub coefficient-unlisted : (e : List ℕ) (es : List (List ℕ)) (p : List (List ℕ × ℕ)) → Supported (λ f. Contains es f) p →
    ((k : ℕ) → k < length es → get_or es k [] ≢ e) → coefficient e p ≡ 0
coefficient-unlisted e es p listed none = elim (cases_eq (coefficient e p) 0) [
  | inl zero_there ↦ zero_there
  | inr some ↦
      let there = supported-coefficient (λ f. Contains es f) p e listed some in
      absurd (none there.0 there.1 (get_or_default es there.0 [] e there.1 ∙ there.2))
]

-- listed terms with the coefficients of a polynomial whose monomials are listed are that polynomial
pub listed_alike : (m : ℕ) (es : List (List ℕ)) (z : ℕ → ℕ) (p : List (List ℕ × ℕ)) → Ascends es → Supported (λ f. Contains es f) p →
    ((k : ℕ) → k < length es → z k ≡ coefficient (get_or es k []) p % m) → AreAlike m (with_numbers es z) p
listed_alike m es z p up listed same e = elim (find e es) [
  | inl there ↦
      ap (λ f. coefficient f (with_numbers es z) % m) (sym there.2) ∙
      ap (λ c. c % m) (coefficient-at es z there.0 up there.1 ∙ same there.0 there.1) ∙
      mod-mod (coefficient (get_or es there.0 []) p) m ∙
      ap (λ f. coefficient f p % m) there.2
  | inr none ↦ ap (λ c. c % m) (coefficient-none e es z none ∙ sym (coefficient-unlisted e es p listed none))
]

-- ---- bounds

-- monomials within a bound that has no degrees past the variables are listed
pub listed_within : (b : Bound) (variables : ℕ) (es : List (List ℕ)) (p : List (List ℕ × ℕ)) → ListsMonomials b variables es →
    ((k : ℕ) → variables ≤ k → slice_index b.each k ≡ 0) → Supported HasEight p → IsWithin b p → Supported (λ f. Contains es f) p
listed_within b variables es [] lists past eight within = tt
listed_within b variables es (t ∷ p) lists past eight within = (
  (lists.members t.0).1 (record {
    eight = eight.0;
    within = within.0;
    others = λ k beyond. omega (arith, (IsBelow-places t.0 b.each within.0.1).1 k, past k beyond);
  }),
  listed_within b variables es p lists past eight.1 within.1,
)

pub Supported-numbers : (L : List ℕ → Type 0) (es : List (List ℕ)) (z : ℕ → ℕ) → ((k : ℕ) → k < length es → L (get_or es k [])) → Supported L (with_numbers es z)
Supported-numbers L [] z all = tt
Supported-numbers L (e ∷ es) z all = (all 0 (omega arith), Supported-numbers L es (λ k. z (suc k)) (λ k low. all (suc k) (omega arith)))

-- ---- one term more

numbers_next : (es : List (List ℕ)) (z : ℕ → ℕ) (k : ℕ) (d : List ℕ) → k < length es → with_numbers (take (suc k) es) z ≡ with_numbers (take k es) z ++ (get_or es k d, z k) ∷ []
numbers_next [] z k d low = absurd (omega arith)
numbers_next (e ∷ es) z zero d low = refl
numbers_next (e ∷ es) z (suc k) d low = ap (λ p. (e, z 0) ∷ p) (numbers_next es (λ i. z (suc i)) k d (omega arith))

pub numbers_more : (es : List (List ℕ)) (z : ℕ → ℕ) (k : ℕ) (d : List ℕ) → k < length es → with_numbers (take (k + 1) es) z ≡ with_numbers (take k es) z ++ (get_or es k d, z k) ∷ []
numbers_more es z k d low =
    let next : k + 1 ≡ suc k = omega arith in
    ap (λ n. with_numbers (take n es) z) next ∙ numbers_next es z k d low

pub AreResidues-numbers : (m : ℕ) (es : List (List ℕ)) (z : ℕ → ℕ) → ((k : ℕ) → k < length es → z k < m) → AreResidues m (with_numbers es z)
AreResidues-numbers m [] z low = tt
AreResidues-numbers m (e ∷ es) z low = (low 0 (omega arith), AreResidues-numbers m es (λ k. z (suc k)) (λ k k_low. low (suc k) (omega arith)))

pub with_numbers-same : (es : List (List ℕ)) (y z : ℕ → ℕ) → ((k : ℕ) → k < length es → y k ≡ z k) → with_numbers es y ≡ with_numbers es z
with_numbers-same [] y z same = refl
with_numbers-same (e ∷ es) y z same =
    let first : y 0 ≡ z 0 = same 0 (omega arith) in
    let rest = with_numbers-same es (λ k. y (suc k)) (λ k. z (suc k)) (λ k low. same (suc k) (omega arith)) in
    λ i. (e, first i) ∷ rest i

-- a listed monomial is within the bound
pub within_at : (b : Bound) (variables : ℕ) (es : List (List ℕ)) (k : ℕ) → ListsMonomials b variables es → k < length es → IsMonomialWithin b variables (get_or es k [])
within_at b variables es k lists low =
    (lists.members (get_or es k [])).0 (k, low, get_or_default es k (get_or es k []) [] low)

-- ---- the coefficients of two polynomials as one list

pub vector_of : ℕ → List (List ℕ) → List (List ℕ) → List (List ℕ × ℕ) → List (List ℕ × ℕ) → List ℕ
vector_of m es fs p q = map (λ e. coefficient e p % m) es ++ map (λ f. coefficient f q % m) fs

module _ (m : ℕ) (es fs : List (List ℕ)) (p q : List (List ℕ × ℕ)) where
  pub length-vector : length (vector_of m es fs p q) ≡ length es + length fs
  unfolding vector_of
  length-vector =
      omega (
        arith,
        length-append (map (λ e. coefficient e p % m) es) (map (λ f. coefficient f q % m) fs),
        length-map es (λ e. coefficient e p % m),
        length-map fs (λ f. coefficient f q % m),
      )

  pub vector-num : (k : ℕ) → k < length es → get_or (vector_of m es fs p q) k 0 ≡ coefficient (get_or es k []) p % m
  unfolding vector_of
  vector-num k low =
      get_or_append_left (map (λ e. coefficient e p % m) es) (map (λ f. coefficient f q % m) fs) 0 k (omega (arith, length-map es (λ e. coefficient e p % m))) ∙
      get_or-map (λ e. coefficient e p % m) es k [] 0 low

  pub vector-den : (k : ℕ) → k < length fs → get_or (vector_of m es fs p q) (length es + k) 0 ≡ coefficient (get_or fs k []) q % m
  unfolding vector_of
  vector-den k low =
      ap (λ n. get_or (map (λ e. coefficient e p % m) es ++ map (λ f. coefficient f q % m) fs) (n + k) 0) (sym (length-map es (λ e. coefficient e p % m))) ∙
      get_or-append-add (map (λ e. coefficient e p % m) es) (map (λ f. coefficient f q % m) fs) k 0 ∙
      get_or-map (λ f. coefficient f q % m) fs k [] 0 low

-- ---- two lists one behind the other

pub front_of : (es fs all : List (List ℕ)) (n : ℕ) → all ≡ es ++ fs → n ≡ length es → take n all ≡ es
front_of es fs all n whole same = ap (take n) whole ∙ ap (λ k. take k (es ++ fs)) same ∙ take-append_seam es fs

pub back_of : (es fs all : List (List ℕ)) (n : ℕ) → all ≡ es ++ fs → n ≡ length es → drop n all ≡ fs
back_of es fs all n whole same = ap (drop n) whole ∙ ap (λ k. drop k (es ++ fs)) same ∙ drop-append_seam es fs
