-- The lists of the monomials of one total degree: which they are, and in which order.
use Rattle.std.proofs.Common.{◌≡◌, ℕ, zero, suc, ◌+◌, ◌-◌, ◌<◌, ◌≤◌, min, if◌then◌else◌, ◌↔◌, All, AllPairs, Contains, ltb, List, [], ◌∷◌, ◌++◌, length, get_or, take, ◌⊎◌, inl, inr, refl, sym, ap, ◌∙◌, subst, append_assoc, arith}
use Rattle.std.proofs.Math.ListN.{set}
use Rattle.std.proofs.lemmas.Bool.{cases_lt, lt-ltb, le-ltb}
use Rattle.std.proofs.lemmas.List.{take_more_set}
use Rattle.std.proofs.lemmas.List.Kept.{AllPairs-cons}
use Rattle.std.proofs.lemmas.Bool.Decides.{nat_tests}
use Rattle.std.specs.declared.cmp.Ordering.{Ordering}
use Rattle.std.specs.declared.cmp.Ordering.TheVariants.{Less, Equal}
use Rattle.std.specs.Cmp.Lexicographic.{slice_cmp}
use Rattle.std.specs.Ordering.{nat_cmp, ordering_then}
use Rattle.poly_maps.specs.declared.bound.Bound.{Bound}
use Rattle.poly_maps.specs.Bound.{IsMonomialWithin}
use Rattle.poly_maps.specs.Mono.{degree, mono_cmp, IsBelow}
use Rattle.poly_maps.proofs.Within.{IsBelow-places, IsBelow-from_places}
use Rattle.poly_maps.specs.Enumeration.{of_degree, prefixed, starting}

-- P of each list
abbrev pub Each : (List ℕ → Type 0) → List (List ℕ) → Type 0
Each P [] = Unit {0}
Each P (e ∷ es) = P e × Each P es

-- e is one of the lists
abbrev pub In : List ℕ → List (List ℕ) → Type 0
In e [] = ⊥
In e (f ∷ fs) = (f ≡ e) ⊎ In e fs

-- each is below all after it, by the order R
abbrev pub Ascends : (List ℕ → List ℕ → Ordering) → List (List ℕ) → Type 0
Ascends R [] = Unit {0}
Ascends R (e ∷ es) = Each (λ f. R e f ≡ Less) es × Ascends R es

Each-append : (P : List ℕ → Type 0) (es fs : List (List ℕ)) → Each P es → Each P fs → Each P (es ++ fs)
Each-append P [] fs all more = more
Each-append P (e ∷ es) fs all more = (all.0, Each-append P es fs all.1 more)

Each-weaker : (P Q : List ℕ → Type 0) (es : List (List ℕ)) → ((e : List ℕ) → P e → Q e) → Each P es → Each Q es
Each-weaker P Q [] follows all = tt
Each-weaker P Q (e ∷ es) follows all = (follows e all.0, Each-weaker P Q es follows all.1)

Each-prefixed : (P : List ℕ → Type 0) (p : List ℕ) (es : List (List ℕ)) → Each (λ e. P (p ++ e)) es → Each P (prefixed p es)
Each-prefixed P p [] all = tt
Each-prefixed P p (e ∷ es) all = (all.0, Each-prefixed P p es all.1)

pub Each-in : (P : List ℕ → Type 0) (es : List (List ℕ)) (e : List ℕ) → Each P es → In e es → P e
Each-in P [] e all here = absurd here
Each-in P (f ∷ es) e all (inl same) = subst P same all.0
Each-in P (f ∷ es) e all (inr later) = Each-in P es e all.1 later

In-append_left : (e : List ℕ) (es fs : List (List ℕ)) → In e es → In e (es ++ fs)
In-append_left e [] fs here = absurd here
In-append_left e (f ∷ es) fs (inl same) = inl same
In-append_left e (f ∷ es) fs (inr later) = inr (In-append_left e es fs later)

In-append_right : (e : List ℕ) (es fs : List (List ℕ)) → In e fs → In e (es ++ fs)
In-append_right e [] fs here = here
In-append_right e (f ∷ es) fs here = inr (In-append_right e es fs here)

In-prefixed : (p e : List ℕ) (es : List (List ℕ)) → In e es → In (p ++ e) (prefixed p es)
In-prefixed p e [] here = absurd here
In-prefixed p e (f ∷ es) (inl same) = inl (ap (λ g. p ++ g) same)
In-prefixed p e (f ∷ es) (inr later) = inr (In-prefixed p e es later)

-- ---- which they are

abbrev pub IsOfDegree : List ℕ → ℕ → List ℕ → Type 0
IsOfDegree each d e = IsBelow e each × (degree e ≡ d)

Each-starting : (P : List ℕ → Type 0) (n : ℕ) (rest : ℕ → List (List ℕ)) → ((k : ℕ) → k < n → Each (λ e. P (k ∷ e)) (rest k)) → Each P (starting n rest)
Each-starting P zero rest all = tt
Each-starting P (suc n) rest all =
    Each-append P (starting n rest) (prefixed (n ∷ []) (rest n)) (Each-starting P n rest (λ k low. all k (omega arith))) (Each-prefixed P (n ∷ []) (rest n) (all n (omega arith)))

pub of_degree-each : (each : List ℕ) (d : ℕ) → Each (IsOfDegree each d) (of_degree each d)
of_degree-each [] zero = ((tt, refl), tt)
of_degree-each [] (suc d) = tt
of_degree-each (b ∷ each) d =
    Each-starting (IsOfDegree (b ∷ each) d) (min d b + 1) (λ k. of_degree each (d - k)) (λ k low.
    Each-weaker (IsOfDegree each (d - k)) (λ e. IsOfDegree (b ∷ each) d (k ∷ e)) (of_degree each (d - k)) (λ e is. ((omega arith, is.0), omega (arith, is.1))) (of_degree-each each (d - k)))

In-starting : (n k : ℕ) (rest : ℕ → List (List ℕ)) (e : List ℕ) → k < n → In e (rest k) → In (k ∷ e) (starting n rest)
In-starting zero k rest e low here = absurd (omega arith)
In-starting (suc n) k rest e low here =
    elim (cases_lt k n) [
      | inl before ↦ In-append_left (k ∷ e) (starting n rest) (prefixed (n ∷ []) (rest n)) (In-starting n k rest e before here)
      | inr last ↦
          let same : k ≡ n = omega arith in
          let there : In e (rest n) = subst (λ j. In e (rest j)) same here in
          In-append_right (k ∷ e) (starting n rest) (prefixed (n ∷ []) (rest n)) (subst (λ j. In (j ∷ e) (prefixed (n ∷ []) (rest n))) (sym same) (In-prefixed (n ∷ []) e (rest n) there))
    ]

pub of_degree-in : (each e : List ℕ) (d : ℕ) → IsOfDegree each d e → In e (of_degree each d)
of_degree-in [] [] zero is = inl refl
of_degree-in [] [] (suc d) is = absurd (omega (arith, is.1))
of_degree-in [] (k ∷ e) d is = absurd is.0
of_degree-in (b ∷ each) [] d is = absurd is.0
of_degree-in (b ∷ each) (k ∷ e) d is =
    let low : k < min d b + 1 = omega (arith, is.0.0, is.1) in
    let left : degree e ≡ d - k = omega (arith, is.1) in
    In-starting (min d b + 1) k (λ j. of_degree each (d - j)) e low (of_degree-in each e (d - k) (is.0.1, left))

-- more than all the bounds together is reached by none
starting-none : (n : ℕ) (rest : ℕ → List (List ℕ)) → ((k : ℕ) → k < n → rest k ≡ []) → starting n rest ≡ []
starting-none zero rest none = refl
starting-none (suc n) rest none =
    ap (λ es. es ++ prefixed (n ∷ []) (rest n)) (starting-none n rest (λ k low. none k (omega arith))) ∙ ap (prefixed (n ∷ [])) (none n (omega arith))

pub of_degree-none : (each : List ℕ) (d : ℕ) → degree each < d → of_degree each d ≡ []
of_degree-none [] zero beyond = absurd (omega arith)
of_degree-none [] (suc d) beyond = refl
of_degree-none (b ∷ each) d beyond =
    starting-none (min d b + 1) (λ k. of_degree each (d - k)) (λ k low. of_degree-none each (d - k) (omega arith))

-- ---- in which order

Ascends-append : (R : List ℕ → List ℕ → Ordering) (es fs : List (List ℕ)) → Ascends R es → Ascends R fs → Each (λ e. Each (λ f. R e f ≡ Less) fs) es → Ascends R (es ++ fs)
Ascends-append R [] fs first second across = second
Ascends-append R (e ∷ es) fs first second across =
    (Each-append (λ f. R e f ≡ Less) es fs first.0 across.0, Ascends-append R es fs first.1 second across.1)

nat_cmp-equal : (n : ℕ) → nat_cmp n n ≡ Equal
nat_cmp-equal n = grind (arith, nat_tests)

nat_cmp-less : (k n : ℕ) → k < n → nat_cmp k n ≡ Less
nat_cmp-less k n low = grind (arith, nat_tests)

Ascends-prefixed : (n : ℕ) (es : List (List ℕ)) → Ascends (slice_cmp nat_cmp) es → Ascends (slice_cmp nat_cmp) (prefixed (n ∷ []) es)
Ascends-prefixed n [] up = tt
Ascends-prefixed n (e ∷ es) up = (
  Each-prefixed (λ f. slice_cmp nat_cmp (n ∷ e) f ≡ Less) (n ∷ []) es (Each-weaker (λ f. slice_cmp nat_cmp e f ≡ Less) (λ f. slice_cmp nat_cmp (n ∷ e) (n ∷ f) ≡ Less) es (λ f less. ap (λ o. ordering_then o (slice_cmp nat_cmp e f)) (nat_cmp-equal n) ∙ less) up.0),
  Ascends-prefixed n es up.1,
)

-- the first exponent is below n
abbrev BeginsBelow : ℕ → List ℕ → Type 0
BeginsBelow n [] = ⊥
BeginsBelow n (k ∷ e) = k < n

Each-begins : (n : ℕ) (rest : ℕ → List (List ℕ)) → Each (BeginsBelow n) (starting n rest)
Each-begins n rest = Each-starting (BeginsBelow n) n rest (λ k low. Each-all (λ e. BeginsBelow n (k ∷ e)) (rest k) (λ e. low))
  where
    Each-all : (P : List ℕ → Type 0) (es : List (List ℕ)) → ((e : List ℕ) → P e) → Each P es
    Each-all P [] all = tt
    Each-all P (e ∷ es) all = (all e, Each-all P es all)

begins_less : (n : ℕ) (e : List ℕ) (es : List (List ℕ)) → BeginsBelow n e → Each (λ f. slice_cmp nat_cmp e f ≡ Less) (prefixed (n ∷ []) es)
begins_less n [] es low = absurd low
begins_less n (k ∷ e) [] low = tt
begins_less n (k ∷ e) (f ∷ es) low =
    (ap (λ o. ordering_then o (slice_cmp nat_cmp e f)) (nat_cmp-less k n low), begins_less n (k ∷ e) es low)

Ascends-starting : (n : ℕ) (rest : ℕ → List (List ℕ)) → ((k : ℕ) → Ascends (slice_cmp nat_cmp) (rest k)) → Ascends (slice_cmp nat_cmp) (starting n rest)
Ascends-starting zero rest up = tt
Ascends-starting (suc n) rest up =
    Ascends-append (slice_cmp nat_cmp) (starting n rest) (prefixed (n ∷ []) (rest n)) (Ascends-starting n rest up) (Ascends-prefixed n (rest n) (up n)) (
    Each-weaker (BeginsBelow n) (λ e. Each (λ f. slice_cmp nat_cmp e f ≡ Less) (prefixed (n ∷ []) (rest n))) (starting n rest) (λ e low. begins_less n e (rest n) low) (Each-begins n rest))

of_degree-lexicographic : (each : List ℕ) (d : ℕ) → Ascends (slice_cmp nat_cmp) (of_degree each d)
of_degree-lexicographic [] zero = (tt, tt)
of_degree-lexicographic [] (suc d) = tt
of_degree-lexicographic (b ∷ each) d =
    Ascends-starting (min d b + 1) (λ k. of_degree each (d - k)) (λ k. of_degree-lexicographic each (d - k))

-- lists of one total degree ascend as monomials where they ascend place by place
Ascends-mono : (d : ℕ) (es : List (List ℕ)) → Each (λ e. degree e ≡ d) es → Ascends (slice_cmp nat_cmp) es → Ascends mono_cmp es
Ascends-mono d [] all up = tt
Ascends-mono d (e ∷ es) all up = (over es all.1 up.0, Ascends-mono d es all.1 up.1)
  where
    over : (fs : List (List ℕ)) → Each (λ f. degree f ≡ d) fs → Each (λ f. slice_cmp nat_cmp e f ≡ Less) fs → Each (λ f. mono_cmp e f ≡ Less) fs
    over [] same less = tt
    over (f ∷ fs) same less =
        let tied : nat_cmp (degree e) (degree f) ≡ Equal = ap (λ n. nat_cmp n (degree f)) all.0 ∙ ap (nat_cmp d) same.0 ∙ nat_cmp-equal d in
        (ap (λ o. ordering_then o (slice_cmp nat_cmp e f)) tied ∙ less.0, over fs same.1 less.1)

-- ---- all total degrees below n, one after the other

abbrev pub up_to : List ℕ → ℕ → List (List ℕ)
up_to each zero = []
up_to each (suc n) = up_to each n ++ of_degree each n

abbrev pub IsOfDegreeBelow : List ℕ → ℕ → List ℕ → Type 0
IsOfDegreeBelow each n e = IsBelow e each × (degree e < n)

pub up_to-each : (each : List ℕ) (n : ℕ) → Each (IsOfDegreeBelow each n) (up_to each n)
up_to-each each zero = tt
up_to-each each (suc n) =
    Each-append (IsOfDegreeBelow each (suc n)) (up_to each n) (of_degree each n) (Each-weaker (IsOfDegreeBelow each n) (IsOfDegreeBelow each (suc n)) (up_to each n) (λ e is. (is.0, omega (arith, is.1))) (up_to-each each n)) (
    Each-weaker (IsOfDegree each n) (IsOfDegreeBelow each (suc n)) (of_degree each n) (λ e is. (is.0, omega (arith, is.1))) (of_degree-each each n))

pub up_to-in : (each e : List ℕ) (n : ℕ) → IsOfDegreeBelow each n e → In e (up_to each n)
up_to-in each e zero is = absurd (omega (arith, is.1))
up_to-in each e (suc n) is =
    elim (cases_lt (degree e) n) [
      | inl before ↦ In-append_left e (up_to each n) (of_degree each n) (up_to-in each e n (is.0, before))
      | inr last ↦ In-append_right e (up_to each n) (of_degree each n) (of_degree-in each e n (is.0, omega (arith, is.1)))
    ]

pub up_to-ascends : (each : List ℕ) (n : ℕ) → Ascends mono_cmp (up_to each n)
up_to-ascends each zero = tt
up_to-ascends each (suc n) =
    let degrees = Each-weaker (IsOfDegree each n) (λ f. degree f ≡ n) (of_degree each n) (λ f is. is.1) (of_degree-each each n) in
    Ascends-append mono_cmp (up_to each n) (of_degree each n) (up_to-ascends each n) (Ascends-mono n (of_degree each n) degrees (of_degree-lexicographic each n)) (
    Each-weaker (IsOfDegreeBelow each n) (λ e. Each (λ f. mono_cmp e f ≡ Less) (of_degree each n)) (up_to each n) (λ e is.
    Each-weaker (λ f. degree f ≡ n) (λ f. mono_cmp e f ≡ Less) (of_degree each n) (λ f same.
    ap (λ o. ordering_then o (slice_cmp nat_cmp e f)) (nat_cmp-less (degree e) (degree f) (omega (arith, is.1, same)))) degrees) (up_to-each each n))

-- ---- one first exponent more

prefixed-append : (p : List ℕ) (es fs : List (List ℕ)) → prefixed p (es ++ fs) ≡ prefixed p es ++ prefixed p fs
prefixed-append p [] fs = refl
prefixed-append p (e ∷ es) fs = ap (λ gs. (p ++ e) ∷ gs) (prefixed-append p es fs)

prefixed-twice : (p q : List ℕ) (es : List (List ℕ)) → prefixed (p ++ q) es ≡ prefixed p (prefixed q es)
prefixed-twice p q [] = refl
prefixed-twice p q (e ∷ es) = λ i. append_assoc p q e i ∷ prefixed-twice p q es i

pub starting_more : (found first pushed : List (List ℕ)) (exponents : List ℕ) (place k : ℕ) (rest : ℕ → List (List ℕ)) → place < length exponents →
    found ≡ first ++ prefixed (take place exponents) (starting k rest) → pushed ≡ found ++ prefixed (take (place + 1) (set exponents place k)) (rest k) →
    pushed ≡ first ++ prefixed (take place exponents) (starting (k + 1) rest)
starting_more found first pushed exponents place k rest low so_far more =
    let p : List ℕ = take place exponents in
    let last : prefixed (take (place + 1) (set exponents place k)) (rest k) ≡ prefixed p (prefixed (k ∷ []) (rest k)) =
    ap (λ q. prefixed q (rest k)) (take_more_set exponents place k low) ∙ prefixed-twice p (k ∷ []) (rest k) in
    let one : suc k ≡ k + 1 = omega arith in
    more ∙ ap (λ es. es ++ prefixed (take (place + 1) (set exponents place k)) (rest k)) so_far ∙ ap (λ es. (first ++ prefixed p (starting k rest)) ++ es) last ∙
    append_assoc first (prefixed p (starting k rest)) (prefixed p (prefixed (k ∷ []) (rest k))) ∙ ap (λ es. first ++ es) (sym (prefixed-append p (starting k rest) (prefixed (k ∷ []) (rest k)))) ∙
    ap (λ n. first ++ prefixed p (starting n rest)) one

prefixed-nil : (es : List (List ℕ)) → prefixed [] es ≡ es
prefixed-nil [] = refl
prefixed-nil (e ∷ es) = ap (λ fs. e ∷ fs) (prefixed-nil es)

-- one total degree more
pub up_to_more : (each : List ℕ) (n : ℕ) (found pushed : List (List ℕ)) → found ≡ up_to each n → pushed ≡ found ++ prefixed [] (of_degree each n) → pushed ≡ up_to each (n + 1)
up_to_more each n found pushed so_far more =
    more ∙ ap (λ es. es ++ prefixed [] (of_degree each n)) so_far ∙ ap (λ es. up_to each n ++ es) (prefixed-nil (of_degree each n)) ∙ ap (up_to each) one
  where
    one : suc n ≡ n + 1
    one = omega arith

-- ---- in std's words

All-each : (P : List ℕ → Type 0) (es : List (List ℕ)) → Each P es → All P es
All-each P [] all k d low = absurd (omega arith)
All-each P (e ∷ es) all zero d low = all.0
All-each P (e ∷ es) all (suc k) d low = All-each P es all.1 k d (omega arith)

pub AllPairs-ascends : (R : List ℕ → List ℕ → Ordering) (es : List (List ℕ)) → Ascends R es → AllPairs (λ e f. R e f ≡ Less) es
AllPairs-ascends R [] up = λ i j d before low. absurd (omega arith)
AllPairs-ascends R (e ∷ es) up =
    AllPairs-cons (λ e f. R e f ≡ Less) e es (All-each (λ f. R e f ≡ Less) es up.0) (AllPairs-ascends R es up.1)

pub Contains-in : (es : List (List ℕ)) (e : List ℕ) → In e es → Contains es e
Contains-in [] e here = absurd here
Contains-in (f ∷ es) e (inl same) = (0, omega arith, same)
Contains-in (f ∷ es) e (inr later) =
    let there = Contains-in es e later in (suc there.0, omega (arith, there.1), there.2)

pub In-contains : (es : List (List ℕ)) (e : List ℕ) → Contains es e → In e es
In-contains es e there = at es there.0 there.1 there.2
  where
    at : (es : List (List ℕ)) (k : ℕ) → k < length es → get_or es k e ≡ e → In e es
    at [] k low same = absurd (omega arith)
    at (f ∷ es) zero low same = inl same
    at (f ∷ es) (suc k) low same = inr (at es k (omega arith) same)

-- ---- the first variables alone

-- the limits are the bounds of the first variables, and 0 for the others
pub limited : (b : Bound) (limits : List ℕ) (variables : ℕ) (e : List ℕ) → length b.each ≡ 8 → length limits ≡ 8 → variables ≤ 8 → ((k : ℕ) → get_or limits k 0 ≡ (if ltb k variables then get_or b.each k 0 else 0)) →
    IsOfDegreeBelow limits (b.total + 1) e ↔ IsMonomialWithin b variables e
limited b limits variables e long limits_long few are = (to, from)
  where
    first : (k : ℕ) → k < variables → get_or limits k 0 ≡ get_or b.each k 0
    first k low = are k ∙ ap (λ t. if t then get_or b.each k 0 else 0) (lt-ltb k variables low)

    later : (k : ℕ) → variables ≤ k → get_or limits k 0 ≡ 0
    later k high = are k ∙ ap (λ t. if t then get_or b.each k 0 else 0) (le-ltb k variables high)

    under : (k : ℕ) → get_or limits k 0 ≤ get_or b.each k 0
    under k = elim (cases_lt k variables) [ inl low ↦ omega (arith, first k low) | inr high ↦ omega (arith, later k high) ]

    to : IsOfDegreeBelow limits (b.total + 1) e → IsMonomialWithin b variables e
    to is =
        let places = IsBelow-places e limits is.0 in
        record {
          eight = places.0 ∙ limits_long;
          within = (omega (arith, is.1), IsBelow-from_places e b.each (omega (arith, places.0)) (λ k low. omega (arith, places.1 k, under k)));
          others = λ k high. omega (arith, places.1 k, later k high);
        }

    at_most : IsMonomialWithin b variables e → (k : ℕ) → get_or e k 0 ≤ get_or limits k 0
    at_most is k = elim (cases_lt k variables) [
      | inl low ↦ omega (arith, (IsBelow-places e b.each is.within.1).1 k, first k low)
      | inr high ↦ omega (arith, is.others k high)
    ]

    from : IsMonomialWithin b variables e → IsOfDegreeBelow limits (b.total + 1) e
    from is =
        (IsBelow-from_places e limits (omega (arith, is.eight)) (λ k low. at_most is k), omega (arith, is.within.0))
