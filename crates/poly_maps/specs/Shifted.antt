-- What moving keeps, and points that undo a move modulo m.
use Rattle.std.specs.Prelude.{◌≡◌, ℕ, ◌-◌, ◌%◌, List, map}
use Rattle.poly_maps.specs.Mono.{IsBelow}
use Rattle.poly_maps.specs.Polynomial.{coefficient, AreResidues, IsPolynomial}
use Rattle.poly_maps.specs.Moved.{moved}

-- the residues modulo m whose sums with the entries are 0
abbrev pub negatives : ℕ → List ℕ → List ℕ
negatives m = map (λ a. (m - a) % m)

-- with a monomial, each that has no greater exponent anywhere is in L
abbrev pub IsLower : (List ℕ → Type 0) → Type 0
IsLower L = (e f : List ℕ) → IsBelow e f → L f → L e

-- a polynomial of residues that is modulo m the old one, taken at x + s
pub record IsMoved (m : ℕ) (s : List ℕ) (old new : List (List ℕ × ℕ)) : Type 0 where
  pub coefficients : (e : List ℕ) → coefficient e new ≡ coefficient e (moved s old) % m
  pub low : AreResidues m new
  pub polynomial : IsPolynomial new
