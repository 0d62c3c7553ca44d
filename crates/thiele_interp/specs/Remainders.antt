-- Two neighbours among Euclid's remainders, with the factors that belong to them.
use Rattle.std.specs.Prelude.{◌≡◌, ℕ, suc, ◌+◌, ◌-◌, List, length, slice_index}
use Rattle.prime_field.specs.Residue.{IsUnit}
use Rattle.univariate.specs.Coefficients.{IsBelow, AreResidues}
use Rattle.thiele_interp.specs.Pairs.{AgreesAt}

-- the last remainder but one has degree e, the last is below it; the last factor has degree d, the one before is
-- below it; and the two degrees are n together
pub record AreRemainders (m n e d : ℕ) (above rest earlier factor : List ℕ) : Type 0 where
  pub degrees : e + d ≡ n
  pub above_residues : AreResidues m above
  pub rest_residues : AreResidues m rest
  pub earlier_residues : AreResidues m earlier
  pub factor_residues : AreResidues m factor
  pub above_below : IsBelow m (suc e) above
  pub above_unit : IsUnit m (slice_index above e)
  pub rest_below : IsBelow m e rest
  pub earlier_below : IsBelow m d earlier
  pub factor_below : IsBelow m (suc d) factor
  pub factor_unit : IsUnit m (slice_index factor d)

-- each remainder agrees, with its factor as denominator
abbrev pub BothAgree : ℕ → ℕ → (ℕ → ℕ) → (ℕ → ℕ) → List ℕ → List ℕ → List ℕ → List ℕ → Type 0
BothAgree m n t v above rest earlier factor = AgreesAt m n t v above earlier × AgreesAt m n t v rest factor

-- multiples of `rest` and of its factor were taken away from `above` and `earlier`: what is left is below `rest`, and its
-- factor, which has the degree of `factor` and `gap` more, agrees with it where the others did
pub record IsDividedBy (m gap : ℕ) (above rest earlier factor above_left factor_left : List ℕ) : Type 0 where
  pub above_residues : AreResidues m above_left
  pub earlier_residues : AreResidues m factor_left
  pub above_below : IsBelow m (length rest - 1) above_left
  pub earlier_below : IsBelow m (length factor + gap) factor_left
  pub earlier_unit : IsUnit m (slice_index factor_left (length factor - 1 + gap))
  pub agree : (n : ℕ) (t v : ℕ → ℕ) → AgreesAt m n t v rest factor → AgreesAt m n t v above earlier → AgreesAt m n t v above_left factor_left
