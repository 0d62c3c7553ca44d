-- Pairs of polynomials in one variable that agree with samples; point i is t i, its sample v i.
use Rattle.std.specs.Prelude.{◌≡◌, ℕ, suc, ◌-◌, ◌*◌, ◌%◌, ◌<◌, List, length, slice_index}
use Rattle.univariate.specs.Univariate.{univariate_value, AllVanish, IsTrimmed}
use Rattle.univariate.specs.Coefficients.{product_of, IsBelow, Alike, AreResidues}

-- modulo m the numerator has at each of the first n points the value of the denominator times the sample
abbrev pub AgreesAt : ℕ → ℕ → (ℕ → ℕ) → (ℕ → ℕ) → List ℕ → List ℕ → Type 0
AgreesAt m n t v num den = (i : ℕ) → i < n → univariate_value num (t i) % m ≡ (v i * univariate_value den (t i)) % m

-- a numerator of degree a at most and a denominator of degree b at most, not zero, that agree with the samples
pub record IsAgreeing (m n : ℕ) (t v : ℕ → ℕ) (a b : ℕ) (num den : List ℕ) : Type 0 where
  pub num_degree : IsBelow m (suc a) num
  pub den_degree : IsBelow m (suc b) den
  pub some : AllVanish m den → ⊥
  pub agrees : AgreesAt m n t v num den

-- modulo m the other pair is some polynomial times this one
abbrev pub IsMultiple : ℕ → List ℕ → List ℕ → List ℕ → List ℕ → Type 0
IsMultiple m num den other_num other_den = (q : List ℕ) × Alike m other_num (product_of q num) × Alike m other_den (product_of q den)

-- an agreeing pair: no other agreeing pair has a denominator of lesser degree, and each is a multiple of this one
pub record IsLeastPair (m n : ℕ) (t v : ℕ → ℕ) (a b : ℕ) (num den : List ℕ) : Type 0 where
  pub agreeing : IsAgreeing m n t v a b num den
  pub least : (other_num other_den : List ℕ) → IsAgreeing m n t v a b other_num other_den → (e : ℕ) → IsBelow m e other_den → IsBelow m e den
  pub multiple : (other_num other_den : List ℕ) → IsAgreeing m n t v a b other_num other_den → IsMultiple m num den other_num other_den

-- residues without zeros at the end, the last of the denominator's being 1
pub record IsReducedPair (m : ℕ) (num den : List ℕ) : Type 0 where
  pub num_residues : AreResidues m num
  pub den_residues : AreResidues m den
  pub num_last : IsTrimmed num
  pub den_some : 0 < length den
  pub den_last : slice_index den (length den - 1) ≡ 1
