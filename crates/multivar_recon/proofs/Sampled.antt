-- An elimination that keeps the equations of samples, and the least list that solves them.
use Rattle.std.proofs.Common.{◌≡◌, ◌≢◌, ℕ, zero, suc, ◌+◌, ◌-◌, ◌*◌, ◌%◌, ◌<◌, ◌≤◌, ◌↔◌, ◌⊎◌, true, false, List, [], ◌∷◌, ◌++◌, length, get_or, take, inl, inr, refl, sym, ◌∙◌, ap, subst, arith}
use Rattle.std.proofs.lemmas.Bool.{cases_eq, cases_lt, eq-eqb, ne_eqb}
use Rattle.std.proofs.Math.Seq.{take-append_seam}
use Rattle.prime_field.specs.Residue.{IsPrime}
use Rattle.elim_core.specs.Kept.{Belongs, HasSolution, IsAbsorbed, IsFree, kept_rows, modulus_of, unknowns_of}
use Rattle.elim_core.specs.Rows.{chosen_value}
use Rattle.elim_core.specs.Solution.{Satisfies, IsSolution, IsIndependent}
use Rattle.elim_core.specs.Solver.{AreUnknowns, IsAscending, ListsIndependent, has_number}
use Rattle.elim_core.specs.declared.Elim.{Elim}
use Rattle.elim_core.specs.declared.Rank.{Rank}
use Rattle.elim_core.specs.declared.Rank.TheVariants.{New, Same, Contradiction}
use Rattle.elim_core.proofs.Choices.{has_number-index, index-has_number}
use Rattle.poly_maps.specs.Polynomial.{value_at}
use Rattle.multivar_recon.specs.Vectors.{num_of, den_of, AgreesAt, IsSampleRow, AgreesTo, EndsAt, IsLeastVector, IsForced, NoneAgrees, IsSampled, IsSettled}
use Rattle.multivar_recon.proofs.Sums.{value-zeros, row_agrees}

-- ---- where a list ends

-- from a place on there are zeros alone, or the list ends there or later
pub ends_or_zero : (zs : List ℕ) (from u : ℕ) → ((k : ℕ) → from ≤ k → k < u → get_or zs k 0 ≡ 0) ⊎ ((k : ℕ) × (from ≤ k) × EndsAt zs u k)
ends_or_zero zs from zero = inl (λ k past low. absurd (omega arith))
ends_or_zero zs from (suc u) = elim (cases_lt u from) [
  | inl none ↦ inl (λ k past low. absurd (omega arith))
  | inr some ↦ elim (cases_eq (get_or zs u 0) 0) [
    | inr here ↦ inr (u, some, record { within = omega arith; some = here; later = λ j after low. absurd (omega arith) })
    | inl gone ↦ elim (ends_or_zero zs from u) [
      | inl zeros ↦ inl (λ k past low. elim (cases_eq k u) [
        | inl last ↦ ap (λ i. get_or zs i 0) last ∙ gone
        | inr before ↦ zeros k past (omega arith)
      ])
      | inr found ↦ inr (
        found.0,
        found.1,
        record {
          within = omega (arith, found.2.within);
          some = found.2.some;
          later = λ j after low. elim (cases_eq j u) [
            | inl last ↦ ap (λ i. get_or zs i 0) last ∙ gone
            | inr before ↦ found.2.later j after (omega arith)
          ];
        },
      )
    ]
  ]
]

-- ---- zeros

abbrev zeros_to : ℕ → List ℕ
zeros_to zero = []
zeros_to (suc u) = 0 ∷ zeros_to u

get_or-zeros : (u k : ℕ) → get_or (zeros_to u) k 0 ≡ 0
get_or-zeros zero k = refl
get_or-zeros (suc u) zero = refl
get_or-zeros (suc u) (suc k) = get_or-zeros u k

length-zeros : (u : ℕ) → length (zeros_to u) ≡ u
length-zeros zero = refl
length-zeros (suc u) = ap suc (length-zeros u)

module _ (m : ℕ) (es fs xs : List (List ℕ)) (vs : List ℕ) where
  abbrev zeros : List ℕ
  zeros = zeros_to (length es + length fs)

  zeros_agree : (n : ℕ) → 0 < m → AgreesTo m es fs xs vs n (zeros_to (length es + length fs))
  zeros_agree n positive = record {
    width = length-zeros (length es + length fs);
    residues = λ k low. subst (λ (x : ℕ). x < m) (sym (get_or-zeros (length es + length fs) k)) positive;
    each = λ i low.
        let zs = zeros_to (length es + length fs) in
        let x = get_or xs i [] in
        let num : value_at (num_of es zs) x ≡ 0 = value-zeros es (λ k. get_or zs k 0) x (get_or-zeros (length es + length fs)) in
        let den : value_at (den_of es fs zs) x ≡ 0 = value-zeros fs (λ k. get_or zs (length es + k) 0) x (λ k. get_or-zeros (length es + length fs) (length es + k)) in
        let left : get_or vs i 0 * value_at (den_of es fs zs) x ≡ value_at (num_of es zs) x = ap (λ d. get_or vs i 0 * d) den ∙ omega (arith, num) in
        ap (λ t. t % m) left;
  }

  AgreesTo-less : (n k : ℕ) (zs : List ℕ) → k ≤ n → AgreesTo m es fs xs vs n zs → AgreesTo m es fs xs vs k zs
  AgreesTo-less n k zs less agrees = record {
    width = agrees.width;
    residues = agrees.residues;
    each = λ i low. agrees.each i (omega arith);
  }

  AgreesTo-more : (n : ℕ) (zs : List ℕ) → AgreesTo m es fs xs vs n zs → AgreesAt m es fs (get_or xs n []) (get_or vs n 0) zs → AgreesTo m es fs xs vs (n + 1) zs
  AgreesTo-more n zs agrees here = record {
    width = agrees.width;
    residues = agrees.residues;
    each = λ i low. elim (cases_eq i n) [
      | inl last ↦ subst (λ (k : ℕ). AgreesAt m es fs (get_or xs k []) (get_or vs k 0) zs) (sym last) here
      | inr before ↦ agrees.each i (omega arith)
    ];
  }

  -- ---- the elimination, from sample to sample

  pub sampled_start : (u : ℕ) (kept : Elim) (words : List ℕ) → u ≡ length es + length fs → Belongs kept words → modulus_of kept ≡ m → unknowns_of kept ≡ u →
      IsFree m u (kept_rows kept words) → HasSolution m u (kept_rows kept words) → IsSampled m es fs xs vs 0 kept words
  sampled_start u kept words same belongs modulus unknowns free solvable = record {
    belongs = belongs;
    same_modulus = modulus;
    same_unknowns = unknowns ∙ same;
    solvable = subst (λ (n : ℕ). HasSolution m n (kept_rows kept words)) same solvable;
    solutions = λ zs. (
      λ s. record { width = s.width; residues = s.residues; each = λ i low. absurd (omega arith) },
      λ agrees. (subst (λ (n : ℕ). IsFree m n (kept_rows kept words)) same free) zs agrees.width agrees.residues,
    );
  }

  module _ (n : ℕ) (kept now : Elim) (words now_words row : List ℕ) (rank : Rank)
      (sampled : IsSampled m es fs xs vs n kept words) (is : IsSampleRow m es fs (get_or xs n []) (get_or vs n 0) row) (low : get_or vs n 0 < m)
      (absorbed : IsAbsorbed kept words now now_words row rank) where
    -- what absorbing says, at m and the number of monomials
    says_kept : rank ≢ Contradiction → (zs : List ℕ) → (IsSolution m (length es + length fs) (kept_rows now now_words) zs ↔
        (IsSolution m (length es + length fs) (kept_rows kept words) zs × Satisfies m row zs))
    says_kept other =
        subst (λ (u : ℕ). (zs : List ℕ) → (IsSolution m u (kept_rows now now_words) zs ↔ (IsSolution m u (kept_rows kept words) zs × Satisfies m row zs))) sampled.same_unknowns
        (subst (λ (p : ℕ). (zs : List ℕ) → (IsSolution p (unknowns_of kept) (kept_rows now now_words) zs ↔ (IsSolution p (unknowns_of kept) (kept_rows kept words) zs × Satisfies p row zs))) sampled.same_modulus
        (absorbed.kept other))

    pub sampled_more : rank ≢ Contradiction → Belongs now now_words → unknowns_of now ≡ unknowns_of kept → modulus_of now ≡ modulus_of kept → IsSampled m es fs xs vs (n + 1) now now_words
    sampled_more other belongs unknowns modulus = record {
      belongs = belongs;
      same_modulus = modulus ∙ sampled.same_modulus;
      same_unknowns = unknowns ∙ sampled.same_unknowns;
      solvable =
          subst (λ (u : ℕ). HasSolution m u (kept_rows now now_words)) sampled.same_unknowns
          (subst (λ (p : ℕ). HasSolution p (unknowns_of kept) (kept_rows now now_words)) sampled.same_modulus (absorbed.solvable other));
      solutions = λ zs. (
        λ s.
            let both = (says_kept other zs).0 s in
            AgreesTo-more n zs ((sampled.solutions zs).0 both.0)
            ((row_agrees m es fs (get_or xs n []) (get_or vs n 0) row zs is both.0.width low).0 both.1),
        λ agrees. (says_kept other zs).1 (
          (sampled.solutions zs).1 (AgreesTo-less (n + 1) n zs (omega arith) agrees),
          (row_agrees m es fs (get_or xs n []) (get_or vs n 0) row zs is agrees.width low).1 (agrees.each n (omega arith)),
        ),
      );
    }

    -- zeros satisfy each row, so at a prime modulus there is no contradiction
    no_contradiction : IsPrime m → rank ≡ Contradiction → ⊥
    no_contradiction prime wrong =
        let u = length es + length fs in
        let agrees = zeros_agree (n + 1) (omega (arith, prime.0)) in
        let says : (zs : List ℕ) → (IsSolution m u (kept_rows now now_words) zs ↔ (IsSolution m u (kept_rows kept words) zs × Satisfies m row zs)) =
        subst (λ (k : ℕ). (zs : List ℕ) → (IsSolution m k (kept_rows now now_words) zs ↔ (IsSolution m k (kept_rows kept words) zs × Satisfies m row zs))) sampled.same_unknowns
        (subst (λ (p : ℕ). IsPrime p → (zs : List ℕ) → (IsSolution p (unknowns_of kept) (kept_rows now now_words) zs ↔ (IsSolution p (unknowns_of kept) (kept_rows kept words) zs × Satisfies p row zs))) sampled.same_modulus
        absorbed.solutions prime) in
        let none : (zs : List ℕ) → IsSolution m u (kept_rows now now_words) zs → ⊥ =
        subst (λ (k : ℕ). (zs : List ℕ) → IsSolution m k (kept_rows now now_words) zs → ⊥) sampled.same_unknowns
        (subst (λ (p : ℕ). (zs : List ℕ) → IsSolution p (unknowns_of kept) (kept_rows now now_words) zs → ⊥) sampled.same_modulus
        (absorbed.contradiction wrong)) in
        none zeros ((says zeros).1 (
          (sampled.solutions zeros).1 (AgreesTo-less (n + 1) n zeros (omega arith) agrees),
          (row_agrees m es fs (get_or xs n []) (get_or vs n 0) row zeros is agrees.width low).1 (agrees.each n (omega arith)),
        ))

  -- ---- independent unknowns

  module _ (n : ℕ) (kept : Elim) (words : List ℕ) (sampled : IsSampled m es fs xs vs n kept words) where
    -- where a list that agrees ends, there is an independent unknown
    ends_independent : (ys : List ℕ) (j : ℕ) → 0 < m → AgreesTo m es fs xs vs n ys → EndsAt ys (length es + length fs) j →
        IsIndependent m (length es + length fs) (kept_rows kept words) j
    ends_independent ys j positive agrees ends = record {
      one = ys;
      other = zeros;
      one_solves = (sampled.solutions ys).1 agrees;
      other_solves = (sampled.solutions zeros).1 (zeros_agree n positive);
      agree = λ k after low. ends.later k after low ∙ sym (get_or-zeros (length es + length fs) k);
      differ = λ same. ends.some (same ∙ get_or-zeros (length es + length fs) j);
    }

    -- with no independent unknown none agrees
    pub settled_none : n ≤ length xs → 0 < m → IsSettled (modulus_of kept) (unknowns_of kept) (kept_rows kept words) → NoneAgrees m es fs xs vs
    settled_none few positive settled ys j agrees ends =
        let here : IsSettled m (length es + length fs) (kept_rows kept words) =
        subst (λ (u : ℕ). IsSettled m u (kept_rows kept words)) sampled.same_unknowns
        (subst (λ (p : ℕ). IsSettled p (unknowns_of kept) (kept_rows kept words)) sampled.same_modulus settled) in
        here j ends.within (ends_independent ys j positive (AgreesTo-less (length xs) n ys few agrees) ends)

  is_contradiction : (rank : Rank) → (rank ≡ Contradiction) ⊎ (rank ≢ Contradiction)
  is_contradiction New = inr (λ wrong. cc)
  is_contradiction Same = inr (λ wrong. cc)
  is_contradiction Contradiction = inl refl

  -- a row after which there is no solution, or no independent unknown
  pub none_agrees : (n : ℕ) (kept now : Elim) (words now_words row : List ℕ) (rank : Rank) → IsSampled m es fs xs vs n kept words →
      IsSampleRow m es fs (get_or xs n []) (get_or vs n 0) row → get_or vs n 0 < m → IsAbsorbed kept words now now_words row rank →
      Belongs now now_words → unknowns_of now ≡ unknowns_of kept → modulus_of now ≡ modulus_of kept → n < length xs →
      (rank ≢ Contradiction → IsSettled (modulus_of now) (unknowns_of now) (kept_rows now now_words)) → IsPrime m → NoneAgrees m es fs xs vs
  none_agrees n kept now words now_words row rank sampled is low absorbed belongs unknowns modulus within settled prime =
      elim (is_contradiction rank) [
        | inl wrong ↦ absurd (no_contradiction n kept now words now_words row rank sampled is low absorbed prime wrong)
        | inr other ↦
            settled_none (n + 1) now now_words
            (sampled_more n kept now words now_words row rank sampled is low absorbed other belongs unknowns modulus)
            (omega arith) (omega (arith, prime.0)) (settled other)
      ]

-- an empty list of the independent unknowns
pub no_independent : (m u : ℕ) (rows : List (List ℕ)) (set : List ℕ) (n : ℕ) → n ≡ 0 → ListsIndependent m u rows (take n set) → IsSettled m u rows
no_independent m u rows set n none lists k low independent =
    let has : has_number (take n set) (k + 1) ≡ true = (lists k low).1 independent in
    let empty : has_number (take n set) (k + 1) ≡ false = ap (λ i. has_number (take i set) (k + 1)) none in
    cc

-- the first of the ascending independent unknowns is the least
pub first_least : (m u : ℕ) (rows : List (List ℕ)) (set : List ℕ) → IsAscending set → AreUnknowns u set → ListsIndependent m u rows set → 0 < length set →
    IsIndependent m u rows (get_or set 0 0 - 1) × ((k : ℕ) → k < u → IsIndependent m u rows k → get_or set 0 0 ≤ k + 1)
first_least m u rows set ascending numbers lists some =
    let first = get_or set 0 0 in
    let number : first - 1 + 1 ≡ first = omega (arith, (numbers 0 some).0) in (
      (lists (first - 1) (omega (arith, (numbers 0 some).0, (numbers 0 some).1))).0 (index-has_number set 0 (first - 1 + 1) some (sym number)),
      λ k low independent.
          let at = has_number-index set (k + 1) ((lists k low).1 independent) in
          elim (cases_eq at.0 0) [
            | inl here ↦ omega (arith, at.2, ap (λ i. get_or set i 0) here)
            | inr later ↦ omega (arith, at.2, ascending 0 at.0 (omega arith) at.1)
          ],
    )

chosen-itself : (k : ℕ) → chosen_value k k ≡ 1
chosen-itself k = rw (eq-eqb k k refl) refl

chosen-other : (k n : ℕ) → n ≢ k → chosen_value k n ≡ 0
chosen-other k n other = rw (ne_eqb n k other) refl

-- the solution with 1 at the least independent unknown and 0 at the others is the least list
module _ (m : ℕ) (es fs xs : List (List ℕ)) (vs : List ℕ) (kept : Elim) (words : List ℕ) (sampled : IsSampled m es fs xs vs (length xs) kept words)
    (set zs : List ℕ) (first : ℕ) (positive : 0 < m)
    (ascending : IsAscending set) (numbers : AreUnknowns (unknowns_of kept) set) (lists : ListsIndependent (modulus_of kept) (unknowns_of kept) (kept_rows kept words) set)
    (some : 0 < length set) (is_first : first ≡ get_or set 0 0)
    (solves : IsSolution (modulus_of kept) (unknowns_of kept) (kept_rows kept words) zs)
    (chosen : (k : ℕ) → k < unknowns_of kept → IsIndependent (modulus_of kept) (unknowns_of kept) (kept_rows kept words) k → get_or zs k 0 ≡ chosen_value first (k + 1)) where
  -- the facts at m and the number of monomials
  independent_there : (k : ℕ) → IsIndependent m (length es + length fs) (kept_rows kept words) k → IsIndependent (modulus_of kept) (unknowns_of kept) (kept_rows kept words) k
  independent_there k independent =
      subst (λ (p : ℕ). IsIndependent p (unknowns_of kept) (kept_rows kept words) k) (sym sampled.same_modulus)
      (subst (λ (n : ℕ). IsIndependent m n (kept_rows kept words) k) (sym sampled.same_unknowns) independent)

  agrees : AgreesTo m es fs xs vs (length xs) zs
  agrees =
      (sampled.solutions zs).0
      (subst (λ (n : ℕ). IsSolution m n (kept_rows kept words) zs) sampled.same_unknowns
      (subst (λ (p : ℕ). IsSolution p (unknowns_of kept) (kept_rows kept words) zs) sampled.same_modulus solves))

  -- a list that agrees ends at an independent unknown, so not before the first
  not_before : (ys : List ℕ) (j : ℕ) → AgreesTo m es fs xs vs (length xs) ys → EndsAt ys (length es + length fs) j → first ≤ j + 1
  not_before ys j ys_agrees ends =
      let least = first_least (modulus_of kept) (unknowns_of kept) (kept_rows kept words) set ascending numbers lists some in
      omega (
        arith,
        is_first,
        least.1 j (subst (λ (n : ℕ). j < n) (sym sampled.same_unknowns) ends.within)
            (independent_there j (ends_independent m es fs xs vs (length xs) kept words sampled ys j positive ys_agrees ends)),
      )

  low : first - 1 < length es + length fs
  low = omega (arith, is_first, (numbers 0 some).0, (numbers 0 some).1, sampled.same_unknowns)

  number : first - 1 + 1 ≡ first
  number = omega (arith, is_first, (numbers 0 some).0)

  one : get_or zs (first - 1) 0 ≡ 1
  one =
      let least = first_least (modulus_of kept) (unknowns_of kept) (kept_rows kept words) set ascending numbers lists some in
      chosen (first - 1) (subst (λ (n : ℕ). first - 1 < n) (sym sampled.same_unknowns) low)
      (subst (λ (k : ℕ). IsIndependent (modulus_of kept) (unknowns_of kept) (kept_rows kept words) (k - 1)) (sym is_first) least.0) ∙
      ap (chosen_value first) number ∙ chosen-itself first

  pub first_ends : EndsAt zs (length es + length fs) (first - 1)
  first_ends = record {
    within = low;
    some = λ none. omega (arith, one);
    later = elim (ends_or_zero zs first (length es + length fs)) [
      | inl zeros ↦ λ j after below. zeros j (omega (arith, number)) below
      | inr found ↦
          let there = independent_there found.0 (ends_independent m es fs xs vs (length xs) kept words sampled zs found.0 positive agrees found.2) in
          let zero_there : get_or zs found.0 0 ≡ 0 =
          chosen found.0 (subst (λ (n : ℕ). found.0 < n) (sym sampled.same_unknowns) found.2.within) there ∙
          chosen-other first (found.0 + 1) (omega (arith, found.1)) in
          absurd (found.2.some zero_there)
    ];
  }

  -- where it ends among the numerator's coefficients, the samples don't force the numerator
  pub none_forced : first ≤ length es → IsForced m es fs xs vs → NoneAgrees m es fs xs vs
  none_forced early forced ys j ys_agrees ends =
      omega (arith, forced zs (first - 1) agrees first_ends, number, is_first, (numbers 0 some).0)

  pub least_vector : length es < first → IsLeastVector m es fs xs vs zs
  least_vector late = record {
    agrees = agrees;
    place = first - 1;
    ends = first_ends;
    one = one;
    in_den = omega arith;
    least = λ ys j ys_agrees ends. omega (arith, not_before ys j ys_agrees ends);
  }

pub take-front : (ys zs : List ℕ) (n : ℕ) → n ≡ length ys → take n (ys ++ zs) ≡ ys
take-front ys zs n same = ap (λ k. take k (ys ++ zs)) same ∙ take-append_seam ys zs
