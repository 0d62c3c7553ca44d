-- There is one least pair whose denominator has leading coefficient 1.
use Rattle.std.proofs.Common.{◌≡◌, ◌≢◌, ℕ, suc, ◌-◌, ◌*◌, ◌%◌, ◌<◌, ◌≤◌, List, length, slice_index, sym, ◌∙◌, ap, arith, inl, inr, mul-one}
use Rattle.std.proofs.Math.Nat.{mod-eq_of_lt}
use Rattle.std.proofs.lemmas.Bool.{cases_lt}
use Rattle.std.proofs.lemmas.List.{ext_get_or}
use Rattle.univariate.specs.Coefficients.{product_of, IsBelow, Alike, AreResidues}
use Rattle.univariate.proofs.Coefficients.{at-beyond}
use Rattle.univariate.proofs.Degrees.{below-length, below-cancel, top-product}
use Rattle.univariate.proofs.Products.{product-one}
use Rattle.thiele_interp.specs.Pairs.{IsLeastPair, IsReducedPair}

-- a denominator whose last coefficient is 1 is no shorter than its bound
long : (m e : ℕ) (den : List ℕ) → 1 < m → 0 < length den → slice_index den (length den - 1) ≡ 1 → IsBelow m e den → length den ≤ e
long m e den large some last below =
    elim (cases_lt e (length den)) [
      | inl high ↦ absurd (omega (arith, sym (below (length den - 1) (omega arith)) ∙ ap (λ x. x % m) last ∙ mod-eq_of_lt large))
      | inr low ↦ low
    ]

-- lists without zeros at the end and with the same entries
shorter : (p q : List ℕ) → ((k : ℕ) → slice_index p k ≡ slice_index q k) → (0 < length p → slice_index p (length p - 1) ≢ 0) → length p ≤ length q
shorter p q same last =
    elim (cases_lt (length q) (length p)) [
      | inl high ↦ absurd (last (omega arith) (same (length p - 1) ∙ at-beyond q (length p - 1) (omega arith)))
      | inr low ↦ low
    ]

-- residues that are alike are the same
residues-same : (m : ℕ) (p q : List ℕ) → AreResidues m p → AreResidues m q → Alike m p q → (k : ℕ) → slice_index p k ≡ slice_index q k
residues-same m p q left right alike k = sym (mod-eq_of_lt (left k)) ∙ alike k ∙ mod-eq_of_lt (right k)

-- a pair of which the other is a multiple, the denominators being as long and both with leading coefficient 1
multiple-same : (m : ℕ) (num den other_num other_den q : List ℕ) → 1 < m → IsReducedPair m num den → IsReducedPair m other_num other_den → length den ≡ length other_den →
    Alike m other_num (product_of q num) → Alike m other_den (product_of q den) → ((k : ℕ) → slice_index num k ≡ slice_index other_num k) × ((k : ℕ) → slice_index den k ≡ slice_index other_den k)
multiple-same m num den other_num other_den q large reduced other_reduced same num_alike den_alike =
    let some : 0 < length den = reduced.den_some in
    let below : IsBelow m (suc (length den - 1)) den = λ k from. below-length m den k (omega arith) in
    let q_below : IsBelow m 1 q =
    below-cancel m 1 (length den - 1) q den below (1, large, ap (λ x. (x * 1) % m) reduced.den_last ∙ mod-eq_of_lt large)
    (λ k from. sym (den_alike k) ∙ below-length m other_den k (omega arith)) in
    let q_one : slice_index q 0 % m ≡ 1 % m =
    ap (λ x. x % m) (sym (mul-one (slice_index q 0)) ∙ ap (λ x. slice_index q 0 * x) (sym reduced.den_last)) ∙
    sym (top-product m 0 (length den - 1) q den q_below below (length den - 1) (omega arith)) ∙
    sym (den_alike (length den - 1)) ∙
    ap (λ k. slice_index other_den (k - 1) % m) same ∙
    ap (λ x. x % m) other_reduced.den_last in (
      residues-same m num other_num reduced.num_residues other_reduced.num_residues (λ k. sym (num_alike k ∙ product-one m q num q_below q_one k)),
      residues-same m den other_den reduced.den_residues other_reduced.den_residues (λ k. sym (den_alike k ∙ product-one m q den q_below q_one k)),
    )

pub pairs_same : (m n : ℕ) (t v : ℕ → ℕ) (a b : ℕ) (num den other_num other_den : List ℕ) → 1 < m →
    IsLeastPair m n t v a b num den → IsReducedPair m num den → IsLeastPair m n t v a b other_num other_den → IsReducedPair m other_num other_den →
    (num ≡ other_num) × (den ≡ other_den)
pairs_same m n t v a b num den other_num other_den large one reduced other other_reduced =
    let den_length : length den ≡ length other_den =
    omega (
      arith,
      long m (length other_den) den large reduced.den_some reduced.den_last (one.least other_num other_den other.agreeing (length other_den) (below-length m other_den)),
      long m (length den) other_den large other_reduced.den_some other_reduced.den_last (other.least num den one.agreeing (length den) (below-length m den)),
    ) in
    let found = one.multiple other_num other_den other.agreeing in
    let same = multiple-same m num den other_num other_den found.0 large reduced other_reduced den_length found.1 found.2 in
    let num_length : length num ≡ length other_num =
    omega (arith, shorter num other_num same.0 reduced.num_last, shorter other_num num (λ k. sym (same.0 k)) other_reduced.num_last) in (
      ext_get_or 0 num other_num num_length (λ k low. same.0 k),
      ext_get_or 0 den other_den den_length (λ k low. same.1 k),
    )
