-- The pair as it is written: the numerator up to its last coefficient, then the denominator.
use Rattle.std.proofs.Common.{◌≡◌, ℕ, ◌-◌, ◌*◌, ◌%◌, ◌<◌, ◌≤◌, List, ◌++◌, length, take, drop, slice_index, sym, ◌∙◌, ap, arith, get_or-take}
use Rattle.std.proofs.Math.Nat.{mod-eq_of_lt}
use Rattle.std.proofs.lemmas.List.{length-take-le, take_at, drop_at}
use Rattle.univariate.specs.Coefficients.{multiple, IsBelow, Alike, AreResidues, HasLength}
use Rattle.univariate.proofs.Coefficients.{at-multiple}
use Rattle.univariate.proofs.Counting.{take-alike}
use Rattle.univariate.proofs.Degrees.{below-alike, below-multiple}
use Rattle.univariate.proofs.Places.{residues-take, HasLength-within, HasLength-below}
use Rattle.thiele_interp.specs.Pairs.{IsReducedPair}
use Rattle.thiele_interp.proofs.Turns.{HasLength-bounds}

-- a scaled polynomial has no more coefficients than before
pub scaled-length : (m bound l s : ℕ) (p made : List ℕ) → IsBelow m bound p → AreResidues m made → Alike m made (multiple s p) → HasLength l made → l ≤ bound
scaled-length m bound l s p made below residues alike trimmed =
    HasLength-below m bound l made residues (below-alike m bound made (multiple s p) alike (below-multiple m bound s p below)) trimmed

-- the two parts, in their places
pub front-part : (front middle others : List ℕ) (l : ℕ) → length front ≡ l → take l (front ++ (middle ++ others)) ≡ front
front-part front middle others l same = take_at front (middle ++ others) l same

pub middle-part : (front middle others : List ℕ) (l n : ℕ) → length front ≡ l → length middle ≡ n → take n (drop l (front ++ (middle ++ others))) ≡ middle
middle-part front middle others l n same fits = ap (take n) (drop_at front (middle ++ others) l same) ∙ take_at middle others n fits

-- they are reduced
pub written-reduced : (m l n s : ℕ) (factor rest' factor' : List ℕ) → 1 < m → HasLength l rest' → AreResidues m rest' → AreResidues m factor' → n ≤ length factor' → 0 < n →
    (slice_index factor (n - 1) * s) % m ≡ 1 → Alike m factor' (multiple s factor) → IsReducedPair m (take l rest') (take n factor')
written-reduced m l n s factor rest' factor' large trimmed rest_residues factor_residues fits some unit alike =
    let within : l ≤ length rest' = HasLength-within l rest' trimmed in
    let num_length : length (take l rest') ≡ l = length-take-le l rest' within in
    let den_length : length (take n factor') ≡ n = length-take-le n factor' fits in
    record {
      num_residues = residues-take m l rest' rest_residues;
      den_residues = residues-take m n factor' factor_residues;
      num_last = λ more none.
          let inside : l - 1 < l = omega arith in
          trimmed.1 (omega arith) (sym (get_or-take l rest' (l - 1) 0 inside) ∙ ap (λ k. slice_index (take l rest') (k - 1)) (sym num_length) ∙ none);
      den_some = omega arith;
      den_last =
          let inside : n - 1 < n = omega arith in
          ap (λ k. slice_index (take n factor') (k - 1)) den_length ∙ get_or-take n factor' (n - 1) 0 inside ∙
          sym (mod-eq_of_lt (factor_residues (n - 1))) ∙ alike (n - 1) ∙ ap (λ t. t % m) (at-multiple s factor (n - 1) ∙ omega arith) ∙ unit;
    }

-- and alike to what was scaled
pub written-num : (m l s : ℕ) (rest rest' : List ℕ) → HasLength l rest' → Alike m rest' (multiple s rest) → Alike m (take l rest') (multiple s rest)
written-num m l s rest rest' trimmed alike k =
    sym (take-alike m l rest' (HasLength-bounds m l rest' trimmed) k) ∙ alike k

pub written-den : (m n s : ℕ) (factor factor' : List ℕ) → IsBelow m n factor → Alike m factor' (multiple s factor) → Alike m (take n factor') (multiple s factor)
written-den m n s factor factor' below alike k =
    sym (take-alike m n factor' (below-alike m n factor' (multiple s factor) alike (below-multiple m n s factor below)) k) ∙ alike k
