-- Values of terms as sums, and the equation of a sample.
use Rattle.std.proofs.Common.{◌≡◌, ℕ, zero, suc, ◌+◌, ◌-◌, ◌*◌, ◌%◌, ◌<◌, ◌↔◌, List, [], ◌∷◌, length, get_or, slice_index, refl, sym, ◌∙◌, ap, arith}
use Rattle.std.proofs.Math.Nat.{mod-mod, zero-mod}
use Rattle.prime_field.specs.Sum.{sum_to}
use Rattle.prime_field.proofs.Residues.{add-cong, mul-cong, by_multiples, cancel}
use Rattle.prime_field.proofs.Sums.{sum-cong, sum-scaled}
use Rattle.elim_core.specs.Solution.{Satisfies}
use Rattle.poly_maps.specs.Mono.{mono_value}
use Rattle.poly_maps.specs.Polynomial.{value_at}
use Rattle.multivar_recon.specs.Vectors.{with_numbers, num_of, den_of, AgreesAt, IsSampleRow}

-- the first summand, and the sum of the others
sum-first : (n : ℕ) (f : ℕ → ℕ) → sum_to (suc n) f ≡ f 0 + sum_to n (λ k. f (suc k))
sum-first zero f = omega arith
sum-first (suc n) f = omega (arith, sum-first n f)

-- the first n summands, and the other p
sum-split : (n p : ℕ) (f : ℕ → ℕ) → sum_to (n + p) f ≡ sum_to n f + sum_to p (λ k. f (n + k))
sum-split n zero f =
    let same : n + 0 ≡ n = omega arith in
    ap (λ k. sum_to k f) same ∙ omega arith
sum-split n (suc p) f =
    let same : n + suc p ≡ suc (n + p) = omega arith in
    ap (λ k. sum_to k f) same ∙ omega (arith, sum-split n p f)

pub value-numbers : (es : List (List ℕ)) (z : ℕ → ℕ) (x : List ℕ) →
    value_at (with_numbers es z) x ≡ sum_to (length es) (λ k. z k * mono_value (get_or es k []) x)
value-numbers [] z x = refl
value-numbers (e ∷ es) z x =
    omega (arith, value-numbers es (λ k. z (suc k)) x, sum-first (length es) (λ k. z k * mono_value (get_or (e ∷ es) k []) x))

pub value-zeros : (es : List (List ℕ)) (z : ℕ → ℕ) (x : List ℕ) → ((k : ℕ) → z k ≡ 0) → value_at (with_numbers es z) x ≡ 0
value-zeros [] z x none = refl
value-zeros (e ∷ es) z x none =
    omega (arith, ap (λ a. a * mono_value e x) (none 0), value-zeros es (λ k. z (suc k)) x (λ k. none (suc k)))

-- ---- n + w*d is 0 where v*d is n, w being -v

multiple_none : (m d : ℕ) → (d * m) % m ≡ 0
multiple_none m d = by_multiples m (d * m) 0 0 d (omega arith) ∙ zero-mod m

pub moved_over : (m v w n d : ℕ) → v + w ≡ m → (n + w * d) % m ≡ 0 → (v * d) % m ≡ n % m
moved_over m v w n d whole none =
    let all : v * d + w * d ≡ d * m = omega (arith, ap (λ t. t * d) whole) in
    cancel m (v * d) n (w * d) (ap (λ t. t % m) all ∙ multiple_none m d ∙ sym none)

pub moved_back : (m v w n d : ℕ) → v + w ≡ m → (v * d) % m ≡ n % m → (n + w * d) % m ≡ 0
moved_back m v w n d whole same =
    let all : v * d + w * d ≡ d * m = omega (arith, ap (λ t. t * d) whole) in
    add-cong m n (v * d) (w * d) (w * d) (sym same) refl ∙ ap (λ t. t % m) all ∙ multiple_none m d

module _ (m : ℕ) (es fs : List (List ℕ)) (x : List ℕ) (v : ℕ) (row zs : List ℕ) (is : IsSampleRow m es fs x v row) where
  num_sum : sum_to (length es) (λ k. get_or row k 0 * get_or zs k 0) % m ≡ value_at (num_of es zs) x % m
  num_sum =
      sum-cong m (length es) (λ k. get_or row k 0 * get_or zs k 0) (λ k. get_or zs k 0 * mono_value (get_or es k []) x) at ∙
      ap (λ s. s % m) (sym (value-numbers es (slice_index zs) x))
    where
      at : (k : ℕ) → k < length es → (get_or row k 0 * get_or zs k 0) % m ≡ (get_or zs k 0 * mono_value (get_or es k []) x) % m
      at k low =
          let turned : mono_value (get_or es k []) x * get_or zs k 0 ≡ get_or zs k 0 * mono_value (get_or es k []) x = omega arith in
          ap (λ r. (r * get_or zs k 0) % m) (is.num k low) ∙
          mul-cong m (mono_value (get_or es k []) x % m) (mono_value (get_or es k []) x) (get_or zs k 0) (get_or zs k 0) (mod-mod (mono_value (get_or es k []) x) m) refl ∙
          ap (λ t. t % m) turned

  den_sum : sum_to (length fs) (λ k. get_or row (length es + k) 0 * get_or zs (length es + k) 0) % m ≡ ((m - v) * value_at (den_of es fs zs) x) % m
  den_sum =
      sum-cong m (length fs) (λ k. get_or row (length es + k) 0 * get_or zs (length es + k) 0)
      (λ k. (m - v) * (get_or zs (length es + k) 0 * mono_value (get_or fs k []) x)) at ∙
      ap (λ s. s % m) (sum-scaled (length fs) (m - v) (λ k. get_or zs (length es + k) 0 * mono_value (get_or fs k []) x)) ∙
      ap (λ s. ((m - v) * s) % m) (sym (value-numbers fs (λ k. slice_index zs (length es + k)) x))
    where
      at : (k : ℕ) → k < length fs → (get_or row (length es + k) 0 * get_or zs (length es + k) 0) % m ≡ ((m - v) * (get_or zs (length es + k) 0 * mono_value (get_or fs k []) x)) % m
      at k low =
          let value = mono_value (get_or fs k []) x in
          let z = get_or zs (length es + k) 0 in
          let turned : (value * (m - v)) * z ≡ (m - v) * (z * value) = omega arith in
          ap (λ r. (r * z) % m) (is.den k low) ∙
          mul-cong m (((value % m) * ((m - v) % m)) % m) (value * (m - v)) z z
          (mod-mod ((value % m) * ((m - v) % m)) m ∙ mul-cong m (value % m) value ((m - v) % m) (m - v) (mod-mod value m) (mod-mod (m - v) m)) refl ∙
          ap (λ t. t % m) turned

  module _ (width : length zs ≡ length es + length fs) (low : v < m) where
    whole_sum : sum_to (length zs) (λ k. get_or row k 0 * get_or zs k 0) % m ≡ (value_at (num_of es zs) x + (m - v) * value_at (den_of es fs zs) x) % m
    whole_sum =
        ap (λ n. sum_to n (λ k. get_or row k 0 * get_or zs k 0) % m) width ∙
        ap (λ s. s % m) (sum-split (length es) (length fs) (λ k. get_or row k 0 * get_or zs k 0)) ∙
        add-cong m (sum_to (length es) (λ k. get_or row k 0 * get_or zs k 0)) (value_at (num_of es zs) x)
        (sum_to (length fs) (λ k. get_or row (length es + k) 0 * get_or zs (length es + k) 0)) ((m - v) * value_at (den_of es fs zs) x) num_sum den_sum

    no_right : get_or row (length zs) 0 ≡ 0
    no_right = ap (λ n. get_or row n 0) width ∙ is.right

    negative : v + (m - v) ≡ m
    negative = omega arith

    -- the row of a sample holds at the coefficients where these agree with it
    pub row_agrees : Satisfies m row zs ↔ AgreesAt m es fs x v zs
    row_agrees = (
      λ met. moved_over m v (m - v) (value_at (num_of es zs) x) (value_at (den_of es fs zs) x) negative (sym whole_sum ∙ met ∙ no_right),
      λ agrees. whole_sum ∙ moved_back m v (m - v) (value_at (num_of es zs) x) (value_at (den_of es fs zs) x) negative agrees ∙ sym no_right,
    )
