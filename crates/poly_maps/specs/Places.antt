-- Where a monomial's term stands in a list of terms, or where it belongs.
use Rattle.std.specs.Prelude.{◌≡◌, ℕ, ◌<◌, ◌+◌, ◌%◌, ◌≤◌, List, length, if◌then◌else◌}
use Rattle.std.specs.declared.cmp.Ordering.TheVariants.{Less, Greater}
use Rattle.std.specs.List.{HoldsAt, AllWithin}
use Rattle.poly_maps.specs.Mono.{mono_cmp, is_same}
use Rattle.poly_maps.specs.Polynomial.{coefficient, AreResidues, IsPolynomial}

-- the term at the place has this monomial
abbrev pub IsThere : {A : Type 0} → List (List ℕ × A) → List ℕ → ℕ → Type 0
IsThere terms e place = (place < length terms) × HoldsAt (λ t. t.0 ≡ e) terms place

-- the monomials before the place are greater, and those from it on are less
abbrev pub BelongsAt : {A : Type 0} → List (List ℕ × A) → List ℕ → ℕ → Type 0
BelongsAt terms e place = (place ≤ length terms) × AllWithin (λ t. mono_cmp e t.0 ≡ Less) terms 0 place × AllWithin (λ t. mono_cmp e t.0 ≡ Greater) terms place (length terms)

-- the new terms are the old with c added to the coefficient of e
pub record AddsTerm (m : ℕ) (old new : List (List ℕ × ℕ)) (e : List ℕ) (c : ℕ) : Type 0 where
  pub polynomial : IsPolynomial new
  pub residues : AreResidues m new
  pub sum : (f : List ℕ) → coefficient f new ≡ (coefficient f old + (if is_same e f then c else 0)) % m
