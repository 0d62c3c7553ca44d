-- Laws of `sum_to`, the sum of the first few values of a function.
use Rattle.std.proofs.Common.{◌≡◌, ◌≢◌, ℕ, zero, suc, ◌+◌, ◌*◌, ◌%◌, ◌<◌, inl, inr, refl, ap, arith}
use Rattle.std.proofs.lemmas.Bool.{cases_eq}
use Rattle.prime_field.specs.Sum.{sum_to}
use Rattle.prime_field.proofs.Residues.{add-cong}

-- sums of the same values are the same
pub sum-same : (n : ℕ) (f g : ℕ → ℕ) → ((k : ℕ) → k < n → f k ≡ g k) → sum_to n f ≡ sum_to n g
sum-same zero f g same = refl
sum-same (suc n) f g same =
    omega (arith, sum-same n f g (λ k low. same k (omega arith)), same n (omega arith))

-- sums of congruent values are congruent
pub sum-cong : (m n : ℕ) (f g : ℕ → ℕ) → ((k : ℕ) → k < n → f k % m ≡ g k % m) → sum_to n f % m ≡ sum_to n g % m
sum-cong m zero f g same = refl
sum-cong m (suc n) f g same =
    add-cong m (sum_to n f) (sum_to n g) (f n) (g n) (sum-cong m n f g (λ k low. same k (omega arith))) (same n (omega arith))

-- a multiple of one function added to another
pub sum-add_scaled : (n c : ℕ) (f g : ℕ → ℕ) → sum_to n (λ k. f k + c * g k) ≡ sum_to n f + c * sum_to n g
sum-add_scaled zero c f g = omega arith
sum-add_scaled (suc n) c f g = omega (arith, sum-add_scaled n c f g)

-- a multiple of a function
pub sum-scaled : (n c : ℕ) (f : ℕ → ℕ) → sum_to n (λ k. c * f k) ≡ c * sum_to n f
sum-scaled zero c f = omega arith
sum-scaled (suc n) c f = omega (arith, sum-scaled n c f)

-- two sums that differ at one place alone
pub sum_differ : (n i : ℕ) (f g : ℕ → ℕ) → i < n → ((k : ℕ) → k < n → k ≢ i → f k ≡ g k) → sum_to n f + g i ≡ sum_to n g + f i
sum_differ zero i f g low same = absurd (omega arith)
sum_differ (suc n) i f g low same =
    elim (cases_eq n i) [
      | inl last ↦
          let before : sum_to n f ≡ sum_to n g = sum-same n f g (λ k below. same k (omega arith) (omega arith)) in
          omega (arith, before, ap f last, ap g last)
      | inr other ↦
          let before : sum_to n f + g i ≡ sum_to n g + f i = sum_differ n i f g (omega arith) (λ k below. same k (omega arith)) in
          omega (arith, before, same n (omega arith) other)
    ]

-- a function that is 0 but at one place
pub sum-pick : (n i : ℕ) (f : ℕ → ℕ) → i < n → ((k : ℕ) → k < n → k ≢ i → f k ≡ 0) → sum_to n f ≡ f i
sum-pick n i f low zeros =
    omega (arith, sum_differ n i f (λ k. 0) low zeros, sum-zeros n)
  where
    sum-zeros : (n : ℕ) → sum_to n (λ k. 0) ≡ 0
    sum-zeros zero = refl
    sum-zeros (suc n) = omega (arith, sum-zeros n)
