-- Sums of products that are folded late.
use Rattle.std.specs.Prelude.{ℕ}
use Rattle.prime_field.specs.declared.Modulus.{Modulus}
use Rattle.prime_field.specs.declared.Modulus.TheVariants.{First, Second}

-- how many products of two residues fit beside a residue in 128 bits
abbrev pub most_products : Modulus → ℕ
most_products First = 64
most_products Second = 4
