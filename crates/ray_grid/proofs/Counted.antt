-- How many monomials bounds have.
use Rattle.std.proofs.Common.{◌≡◌, ℕ, zero, suc, ◌+◌, ◌-◌, ◌<◌, ◌≤◌, min, ltb, if◌then◌else◌, List, [], ◌∷◌, ◌++◌, length, get_or, Bool, true, false, take, drop, refl, sym, ◌∙◌, ap, inl, inr, arith}
use Rattle.std.proofs.lemmas.Bool.{cases_lt, lt-ltb, le-ltb}
use Rattle.std.proofs.lemmas.List.{length-append, length-map}
use Rattle.prime_field.specs.Sum.{sum_to}
use Rattle.prime_field.proofs.Sums.{sum-same}
use Rattle.poly_maps.proofs.Enumerated.{up_to, up_to-each, up_to-in, up_to-ascends, Each-in, IsOfDegreeBelow, AllPairs-ascends, Contains-in, In-contains, limited}
use Rattle.poly_maps.proofs.Within.{IsBelow-places}
use Rattle.poly_maps.proofs.PinnedLists.{same_members}
use Rattle.poly_maps.specs.Enumeration.{of_degree, prefixed, starting}
use Rattle.poly_maps.specs.Bound.{IsMonomialWithin}
use Rattle.poly_maps.specs.Mono.{mono_cmp, HasEight}
use Rattle.poly_maps.specs.declared.bound.Bound.{Bound}
use Rattle.ray_grid.specs.Covering.{ListsMonomials, exponent_count, monomial_count}

-- a bound has one ascending list of monomials
pub one_list : (b : Bound) (variables : ℕ) (es fs : List (List ℕ)) → ListsMonomials b variables es → ListsMonomials b variables fs → es ≡ fs
one_list b variables es fs e_lists f_lists =
    same_members es fs e_lists.ascending f_lists.ascending (λ e. (
      λ there. (f_lists.members e).1 ((e_lists.members e).0 there),
      λ there. (e_lists.members e).1 ((f_lists.members e).0 there),
    ))

-- ---- the exponents by their total degree

length-starting : (n : ℕ) (rest : ℕ → List (List ℕ)) → length (starting n rest) ≡ sum_to n (λ k. length (rest k))
length-starting zero rest = refl
length-starting (suc n) rest =
    omega (arith, length-append (starting n rest) (prefixed (n ∷ []) (rest n)), length-map (rest n) (λ e. (n ∷ []) ++ e), length-starting n rest)

-- with one degree more, what follows the first exponent k grows by the lists of degree n - k
one_more : (each : List ℕ) (n many : ℕ) → sum_to many (λ k. length (up_to each (suc n - k))) ≡
    sum_to many (λ k. length (up_to each (n - k))) + sum_to (min (suc n) many) (λ k. length (of_degree each (n - k)))
one_more each n zero =
    let none : min (suc n) 0 ≡ 0 = omega arith in
    omega (arith, ap (λ j. sum_to j (λ k. length (of_degree each (n - k)))) none)
one_more each n (suc many) = elim (cases_lt many (suc n)) [
  | inl low ↦
      let next : suc n - many ≡ suc (n - many) = omega arith in
      let last : min (suc n) (suc many) ≡ suc many = omega arith in
      let before : min (suc n) many ≡ many = omega arith in
      let summed : sum_to (min (suc n) (suc many)) (λ k. length (of_degree each (n - k))) ≡ sum_to (min (suc n) many) (λ k. length (of_degree each (n - k))) + length (of_degree each (n - many)) =
      ap (λ j. sum_to j (λ k. length (of_degree each (n - k)))) last ∙ ap (λ j. sum_to j (λ k. length (of_degree each (n - k))) + length (of_degree each (n - many))) (sym before) in
      omega (arith, one_more each n many, ap (λ j. length (up_to each j)) next, length-append (up_to each (n - many)) (of_degree each (n - many)), summed)
  | inr high ↦
      let none : suc n - many ≡ 0 = omega arith in
      let none_before : n - many ≡ 0 = omega arith in
      let same : min (suc n) (suc many) ≡ min (suc n) many = omega arith in
      omega (arith, one_more each n many, ap (λ j. length (up_to each j)) none, ap (λ j. length (up_to each j)) none_before, ap (λ j. sum_to j (λ k. length (of_degree each (n - k)))) same)
]

-- by the first exponent in place of the total degree
by_first : (bound : ℕ) (each : List ℕ) (n : ℕ) → length (up_to (bound ∷ each) n) ≡ sum_to (suc bound) (λ k. length (up_to each (n - k)))
by_first bound each zero = sym (zeros (suc bound))
  where
    zeros : (many : ℕ) → sum_to many (λ k. length (up_to each (zero - k))) ≡ 0
    zeros zero = refl
    zeros (suc many) =
        let none : zero - many ≡ 0 = omega arith in
        omega (arith, zeros many, ap (λ j. length (up_to each j)) none)
by_first bound each (suc n) =
    let many : min n bound + 1 ≡ min (suc n) (suc bound) = omega arith in
    omega (
      arith,
      length-append (up_to (bound ∷ each) n) (of_degree (bound ∷ each) n),
      length-starting (min n bound + 1) (λ k. of_degree each (n - k)),
      ap (λ j. sum_to j (λ k. length (of_degree each (n - k)))) many,
      by_first bound each n,
      one_more each n (suc bound),
    )

-- first exponents past n leave no degree
cut : (each : List ℕ) (n many : ℕ) → sum_to many (λ k. length (up_to each (n - k))) ≡ sum_to (min n many) (λ k. length (up_to each (n - k)))
cut each n zero =
    let none : 0 ≡ min n 0 = omega arith in
    ap (λ j. sum_to j (λ k. length (up_to each (n - k)))) none
cut each n (suc many) = elim (cases_lt many n) [
  | inl low ↦
      let all : min n (suc many) ≡ suc many = omega arith in
      ap (λ j. sum_to j (λ k. length (up_to each (n - k)))) (sym all)
  | inr high ↦
      let none : n - many ≡ 0 = omega arith in
      let same : min n (suc many) ≡ min n many = omega arith in
      omega (arith, cut each n many, ap (λ j. length (up_to each j)) none, ap (λ j. sum_to j (λ k. length (up_to each (n - k)))) same)
]

counted : (each : List ℕ) (left : ℕ) → length (up_to each (suc left)) ≡ exponent_count each left
counted [] zero = refl
counted [] (suc left) = omega (arith, counted [] left, length-append (up_to [] (suc left)) (of_degree [] (suc left)))
counted (bound ∷ each) left =
    let many : min (suc left) (suc bound) ≡ min bound left + 1 = omega arith in
    let shares : sum_to (min bound left + 1) (λ k. length (up_to each (suc left - k))) ≡ sum_to (min bound left + 1) (λ k. exponent_count each (left - k)) =
    sum-same (min bound left + 1) (λ k. length (up_to each (suc left - k))) (λ k. exponent_count each (left - k)) (λ k low.
    let next : suc left - k ≡ suc (left - k) = omega arith in
    ap (λ j. length (up_to each j)) next ∙ counted each (left - k)) in
    by_first bound each (suc left) ∙ cut each (suc left) (suc bound) ∙ ap (λ j. sum_to j (λ k. length (up_to each (suc left - k)))) many ∙ shares

-- ---- the first variables alone

-- the first entries, and 0 for the others
zeroed : ℕ → List ℕ → List ℕ
zeroed variables [] = []
zeroed zero (b ∷ each) = 0 ∷ zeroed zero each
zeroed (suc variables) (b ∷ each) = b ∷ zeroed variables each

module _ where
  length-zeroed : (variables : ℕ) (each : List ℕ) → length (zeroed variables each) ≡ length each
  unfolding zeroed
  length-zeroed variables [] = refl
  length-zeroed zero (b ∷ each) = omega (arith, length-zeroed zero each)
  length-zeroed (suc variables) (b ∷ each) = omega (arith, length-zeroed variables each)

  zeroed-at : (variables : ℕ) (each : List ℕ) (k : ℕ) → get_or (zeroed variables each) k 0 ≡ (if ltb k variables then get_or each k 0 else 0)
  unfolding zeroed
  zeroed-at variables [] k = by (ltb k variables)
    where
      by : (t : Bool) → zero ≡ (if t then zero else zero)
      by true = refl
      by false = refl
  zeroed-at zero (b ∷ each) zero = refl
  zeroed-at zero (b ∷ each) (suc k) =
      let out : ltb (suc k) zero ≡ false = le-ltb (suc k) zero (omega arith) in
      let out_there : ltb k zero ≡ false = le-ltb k zero (omega arith) in
      zeroed-at zero each k ∙ ap (λ t. if t then get_or each k 0 else 0) out_there ∙ ap (λ t. if t then get_or each k 0 else 0) (sym out)
  zeroed-at (suc variables) (b ∷ each) zero = ap (λ t. if t then b else 0) (sym (lt-ltb zero (suc variables) (omega arith)))
  zeroed-at (suc variables) (b ∷ each) (suc k) = elim (cases_lt k variables) [
    | inl low ↦ zeroed-at variables each k ∙ ap (λ t. if t then get_or each k 0 else 0) (lt-ltb k variables low ∙ sym (lt-ltb (suc k) (suc variables) (omega arith)))
    | inr high ↦ zeroed-at variables each k ∙ ap (λ t. if t then get_or each k 0 else 0) (le-ltb k variables high ∙ sym (le-ltb (suc k) (suc variables) (omega arith)))
  ]

  count-zeroed : (variables : ℕ) (each : List ℕ) (left : ℕ) → exponent_count (zeroed variables each) left ≡ exponent_count (take variables each) left
  unfolding zeroed
  count-zeroed zero [] left = refl
  count-zeroed (suc variables) [] left = refl
  count-zeroed zero (b ∷ each) left =
      let one : min 0 left + 1 ≡ 1 = omega arith in
      let all : left - 0 ≡ left = omega arith in
      let rest : exponent_count (zeroed zero each) (left - 0) ≡ 1 = ap (exponent_count (zeroed zero each)) all ∙ count-zeroed zero each left in
      ap (λ j. sum_to j (λ k. exponent_count (zeroed zero each) (left - k))) one ∙ omega (arith, rest)
  count-zeroed (suc variables) (b ∷ each) left =
      sum-same (min b left + 1) (λ k. exponent_count (zeroed variables each) (left - k)) (λ k. exponent_count (take variables each) (left - k)) (λ k low.
      count-zeroed variables each (left - k))

-- the ascending list of the monomials is as long as they are counted
pub count_listed : (b : Bound) (variables : ℕ) (es : List (List ℕ)) → HasEight b.each → variables ≤ 8 → ListsMonomials b variables es → length es ≡ monomial_count b variables
count_listed b variables es eight few lists =
    let each = zeroed variables b.each in
    let n : ℕ = suc b.total in
    let next : b.total + 1 ≡ suc b.total = omega arith in
    let are : (e : List ℕ) → _ = λ e. limited b each variables e eight (length-zeroed variables b.each ∙ eight) few (zeroed-at variables b.each) in
    let there : ListsMonomials b variables (up_to each (b.total + 1)) = record {
      ascending = AllPairs-ascends mono_cmp (up_to each (b.total + 1)) (up_to-ascends each (b.total + 1));
      members = λ e. (
        λ has. (are e).0 (Each-in (IsOfDegreeBelow each (b.total + 1)) (up_to each (b.total + 1)) e (up_to-each each (b.total + 1)) (In-contains (up_to each (b.total + 1)) e has)),
        λ is. Contains-in (up_to each (b.total + 1)) e (up_to-in each e (b.total + 1) ((are e).1 is)),
      );
    } in
    ap length (one_list b variables es (up_to each (b.total + 1)) lists there) ∙ ap (λ j. length (up_to each j)) next ∙ counted each b.total ∙ count-zeroed variables b.each b.total

-- no list of them is longer, also where the bound has not eight entries
pub listed_few : (b : Bound) (variables : ℕ) (es : List (List ℕ)) → variables ≤ 8 → ListsMonomials b variables es → length es ≤ monomial_count b variables
listed_few b variables [] few lists = omega arith
listed_few b variables (e ∷ es) few lists =
    let is : IsMonomialWithin b variables e = (lists.members e).0 (0, omega arith, refl) in
    let eight : HasEight b.each = omega (arith, is.eight, (IsBelow-places e b.each is.within.1).0) in
    omega (arith, count_listed b variables (e ∷ es) eight few lists)

-- ---- one first exponent after the other

-- the sum over the first exponent, of entries that aren't empty
pub count_first : (entries : List ℕ) (left : ℕ) → 0 < length entries →
    exponent_count entries left ≡ sum_to (min (get_or entries 0 0) left + 1) (λ k. exponent_count (drop 1 entries) (left - k))
count_first [] left some = absurd (omega arith)
count_first (entry ∷ entries) left some = refl

-- the sum up to n is the sum up to k and more
pub sum_grows : (f : ℕ → ℕ) (k n : ℕ) → k ≤ n → sum_to k f ≤ sum_to n f
sum_grows f k zero low =
    let same : k ≡ 0 = omega arith in
    omega (arith, ap (λ j. sum_to j f) same)
sum_grows f k (suc n) low = elim (cases_lt n k) [
  | inl last ↦
      let same : k ≡ suc n = omega arith in
      omega (arith, ap (λ j. sum_to j f) same)
  | inr before ↦ omega (arith, sum_grows f k n before)
]

-- where a part of a sum reaches `most`, all of it does
pub reached : (f : ℕ → ℕ) (k n most : ℕ) → k ≤ n → most ≡ min most (sum_to k f) → most ≡ min most (sum_to n f)
reached f k n most low there = omega (arith, there, sum_grows f k n low)

-- one more share of the sum, of which no more than is left of `most` was counted
pub last_share : (entries rest : List ℕ) (left k count r most : ℕ) → 0 < length entries → rest ≡ drop 1 entries → k < min left (get_or entries 0 0) + 1 →
    count ≡ min most (sum_to k (λ k. exponent_count rest (left - k))) → r ≡ min (most - count) (exponent_count rest (left - k)) → count + r ≡ most →
    count + r ≡ min most (exponent_count entries left)
last_share entries rest left k count r most some same low so_far share all =
    let f : ℕ → ℕ = λ k. exponent_count rest (left - k) in
    let with_it : most ≡ min most (sum_to (suc k) f) = omega arith in
    let n : ℕ = min (get_or entries 0 0) left + 1 in
    let whole : most ≡ min most (sum_to n f) = reached f (suc k) n most (omega arith) with_it in
    omega (arith, whole, ap (λ es. sum_to n (λ k. exponent_count es (left - k))) same, count_first entries left some)
