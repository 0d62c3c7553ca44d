-- One turn of Euclid's remainders: the divided remainder and its factor take the place of the others.
use Rattle.std.proofs.Common.{◌≡◌, ℕ, suc, ◌+◌, ◌-◌, ◌*◌, ◌%◌, ◌<◌, ◌≤◌, List, slice_index, sym, ◌∙◌, ap, refl, arith}
use Rattle.std.proofs.Math.Nat.{zero-mod}
use Rattle.prime_field.specs.Residue.{IsUnit}
use Rattle.prime_field.proofs.Residues.{mul-cong}
use Rattle.univariate.specs.Univariate.{univariate_value}
use Rattle.univariate.specs.Coefficients.{IsBelow, Alike, AreResidues, HasLength}
use Rattle.univariate.proofs.Coefficients.{value-alike}
use Rattle.univariate.proofs.Degrees.{below-more}
use Rattle.thiele_interp.specs.Pairs.{AgreesAt}
use Rattle.thiele_interp.specs.Remainders.{AreRemainders}

-- a length is a bound
pub HasLength-bounds : (m n : ℕ) (p : List ℕ) → HasLength n p → IsBelow m n p
HasLength-bounds m n p trimmed k from = ap (λ t. t % m) (trimmed.0 k from) ∙ zero-mod m

-- pairs that are alike agree together
pub agrees-alike : (m n : ℕ) (t v : ℕ → ℕ) (num den num' den' : List ℕ) → Alike m num num' → Alike m den den' → AgreesAt m n t v num den → AgreesAt m n t v num' den'
agrees-alike m n t v num den num' den' num_alike den_alike agrees i low =
    sym (value-alike m num num' (t i) num_alike) ∙ agrees i low ∙
    mul-cong m (v i) (v i) (univariate_value den (t i)) (univariate_value den' (t i)) refl (value-alike m den den' (t i) den_alike)

-- the turn, l being the length of the last remainder
pub remainders-next : (m n e d l inverse : ℕ) (above rest earlier factor above' earlier' : List ℕ) → AreRemainders m n e d above rest earlier factor →
    HasLength l rest → 0 < l → l ≤ e → inverse < m → (slice_index rest (l - 1) * inverse) % m ≡ 1 →
    AreResidues m above' → AreResidues m earlier' → IsBelow m (l - 1) above' → IsBelow m (suc (n - (l - 1))) earlier' → IsUnit m (slice_index earlier' (n - (l - 1))) →
    AreRemainders m n (l - 1) (n - (l - 1)) rest above' factor earlier'
remainders-next m n e d l inverse above rest earlier factor above' earlier' r trimmed some low residue unit above_residues earlier_residues above_below earlier_below earlier_unit =
    let whole : e + d ≡ n = r.degrees in
    record {
      degrees = omega arith;
      above_residues = r.rest_residues;
      rest_residues = above_residues;
      earlier_residues = r.factor_residues;
      factor_residues = earlier_residues;
      above_below = λ k from. HasLength-bounds m l rest trimmed k (omega arith);
      above_unit = (inverse, residue, unit);
      rest_below = above_below;
      earlier_below = below-more m (suc d) (n - (l - 1)) factor (omega arith) r.factor_below;
      factor_below = earlier_below;
      factor_unit = earlier_unit;
    }
