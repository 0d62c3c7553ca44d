-- Numbers with given residues at both moduli.
use Rattle.std.specs.Prelude.{◌≡◌, ℕ, ◌*◌, ◌%◌, ◌<◌}
use Rattle.prime_field.specs.Modulus.{value_of}
use Rattle.prime_field.specs.declared.Modulus.{Modulus}
use Rattle.prime_field.specs.declared.Modulus.TheVariants.{First, Second}

-- the product of the two moduli
abbrev pub both : ℕ
both = value_of First * value_of Second

-- c is below the product of the moduli, and leaves the residue given at each
pub record IsJoint (residues : Modulus → ℕ) (c : ℕ) : Type 0 where
  pub low : c < both
  pub leaves : (m : Modulus) → c % value_of m ≡ residues m

-- one number for each modulus
abbrev pub at_each : ℕ → ℕ → Modulus → ℕ
at_each first second First = first
at_each first second Second = second
