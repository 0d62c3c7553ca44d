-- Least pairs in one variable: what two of the same samples have in common, and multiples by units.
use Rattle.std.proofs.Common.{◌≡◌, ℕ, zero, suc, ◌+◌, ◌*◌, ◌%◌, List, [], ◌∷◌, slice_index, refl, sym, ◌∙◌, ap, arith, mul-one, one-mul}
use Rattle.std.proofs.Math.Nat.{zero-mod}
use Rattle.prime_field.specs.Residue.{IsUnit}
use Rattle.prime_field.proofs.Residues.{add-cong, mul-cong}
use Rattle.univariate.specs.Univariate.{univariate_value}
use Rattle.univariate.specs.Coefficients.{multiple, product_of, IsBelow, Alike}
use Rattle.univariate.proofs.Coefficients.{at-sum, at-multiple, value-multiple, value-alike}
use Rattle.univariate.proofs.Counting.{zero-times}
use Rattle.univariate.proofs.Degrees.{below-alike, below-multiple, below-cancel, product-vanish}
use Rattle.univariate.proofs.Products.{product-multiple_left, product-multiple_right, product-alike_right}
use Rattle.thiele_interp.specs.Pairs.{IsAgreeing, IsLeastPair}

-- a left factor that is a constant
pub product-constant : (m : ℕ) (q p : List ℕ) → IsBelow m 1 q → (k : ℕ) → slice_index (product_of q p) k % m ≡ (slice_index q 0 * slice_index p k) % m
product-constant m [] p below k = ap (λ t. t % m) (omega arith)
product-constant m (c ∷ q) p below k =
    ap (λ t. t % m) (at-sum (multiple c p) (0 ∷ product_of q p) k ∙ ap (λ t. t + slice_index (0 ∷ product_of q p) k) (at-multiple c p k)) ∙
    add-cong m (c * slice_index p k) (c * slice_index p k) (slice_index (0 ∷ product_of q p) k) 0 refl (tail k ∙ sym (zero-mod m)) ∙
    ap (λ t. t % m) (omega arith)
  where
    tail : (i : ℕ) → slice_index (0 ∷ product_of q p) i % m ≡ 0
    tail zero = zero-mod m
    tail (suc i) = product-vanish m q p (λ j. below (suc j) (omega arith)) i

module _ (m n : ℕ) (t v : ℕ → ℕ) (a b : ℕ) (num den other_num other_den : List ℕ) where
  -- where one least pair's denominator is 1 at 0, the other pair is a multiple of this one by a constant
  pub constant_multiple : (h : ℕ) → IsLeastPair m n t v a b num den → IsLeastPair m n t v a b other_num other_den → slice_index den 0 % m ≡ 1 % m →
      IsBelow m (suc h) den → IsUnit m (slice_index den h) →
      ((k : ℕ) → slice_index other_num k % m ≡ (slice_index other_den 0 * slice_index num k) % m) × ((k : ℕ) → slice_index other_den k % m ≡ (slice_index other_den 0 * slice_index den k) % m)
  constant_multiple h one other first low top =
      let found = one.multiple other_num other_den other.agreeing in
      let q = found.0 in
      let constant = slice_index q 0 in
      let other_low : IsBelow m (suc h) other_den = other.least num den one.agreeing (suc h) low in
      let q_low : IsBelow m 1 q = below-cancel m 1 h q den low top (λ k from. sym (found.2 k) ∙ other_low k (omega arith)) in
      let same : constant % m ≡ slice_index other_den 0 % m =
      sym (found.2 0 ∙ product-constant m q den q_low 0 ∙ mul-cong m constant constant (slice_index den 0) 1 refl first ∙ ap (λ x. x % m) (mul-one constant)) in (
        λ k. found.1 k ∙ product-constant m q num q_low k ∙ mul-cong m constant (slice_index other_den 0) (slice_index num k) (slice_index num k) same refl,
        λ k. found.2 k ∙ product-constant m q den q_low k ∙ mul-cong m constant (slice_index other_den 0) (slice_index den k) (slice_index den k) same refl,
      )

  -- a multiple by a unit is a least pair too
  module _ (u c : ℕ) (inverse : (u * c) % m ≡ 1 % m) (num_is : Alike m other_num (multiple c num)) (den_is : Alike m other_den (multiple c den)) where
    -- u times it is the pair again
    again : (p made : List ℕ) → Alike m made (multiple c p) → (k : ℕ) → (u * slice_index made k) % m ≡ slice_index p k % m
    again p made is k =
        let turned : u * (c * slice_index p k) ≡ (u * c) * slice_index p k = omega arith in
        mul-cong m u u (slice_index made k) (c * slice_index p k) refl (is k ∙ ap (λ x. x % m) (at-multiple c p k)) ∙
        ap (λ x. x % m) turned ∙
        mul-cong m (u * c) 1 (slice_index p k) (slice_index p k) inverse refl ∙ ap (λ x. x % m) (one-mul (slice_index p k))

    value_is : (p made : List ℕ) (x : ℕ) → Alike m made (multiple c p) → univariate_value made x % m ≡ (c * univariate_value p x) % m
    value_is p made x is = value-alike m made (multiple c p) x is ∙ ap (λ y. y % m) (value-multiple c p x)

    scaled-agreeing : IsAgreeing m n t v a b num den → IsAgreeing m n t v a b other_num other_den
    scaled-agreeing is = record {
      num_degree = below-alike m (suc a) other_num (multiple c num) num_is (below-multiple m (suc a) c num is.num_degree);
      den_degree = below-alike m (suc b) other_den (multiple c den) den_is (below-multiple m (suc b) c den is.den_degree);
      some = λ none. is.some (λ k. sym (again den other_den den_is k) ∙ zero-times m u (slice_index other_den k) (none k));
      agrees = λ i low.
          let turned : c * (v i * univariate_value den (t i)) ≡ v i * (c * univariate_value den (t i)) = omega arith in
          value_is num other_num (t i) num_is ∙
          mul-cong m c c (univariate_value num (t i)) (v i * univariate_value den (t i)) refl (is.agrees i low) ∙
          ap (λ y. y % m) turned ∙
          mul-cong m (v i) (v i) (c * univariate_value den (t i)) (univariate_value other_den (t i)) refl (sym (value_is den other_den (t i) den_is));
    }

    -- q times the pair is q * u times its multiple
    factor-scaled : (q p made : List ℕ) → Alike m made (multiple c p) → (k : ℕ) → slice_index (product_of (multiple u q) made) k % m ≡ slice_index (product_of q p) k % m
    factor-scaled q p made is k =
        let turned : u * (c * slice_index (product_of q p) k) ≡ (u * c) * slice_index (product_of q p) k = omega arith in
        ap (λ x. x % m) (product-multiple_left u q made k) ∙
        mul-cong m u u (slice_index (product_of q made) k) (c * slice_index (product_of q p) k) refl
        (product-alike_right m q made (multiple c p) is k ∙ ap (λ x. x % m) (product-multiple_right c q p k)) ∙
        ap (λ x. x % m) turned ∙
        mul-cong m (u * c) 1 (slice_index (product_of q p) k) (slice_index (product_of q p) k) inverse refl ∙
        ap (λ x. x % m) (one-mul (slice_index (product_of q p) k))

    pub scaled_least : IsLeastPair m n t v a b num den → IsLeastPair m n t v a b other_num other_den
    scaled_least is = record {
      agreeing = scaled-agreeing is.agreeing;
      least = λ some_num some_den agreeing e low. below-alike m e other_den (multiple c den) den_is (below-multiple m e c den (is.least some_num some_den agreeing e low));
      multiple = λ some_num some_den agreeing.
          let found = is.multiple some_num some_den agreeing in (
            multiple u found.0,
            λ k. found.1 k ∙ sym (factor-scaled found.0 num other_num num_is k),
            λ k. found.2 k ∙ sym (factor-scaled found.0 den other_den den_is k),
          );
    }
