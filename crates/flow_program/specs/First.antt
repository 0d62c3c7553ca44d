-- What the text of the demo promises of the function that it prints.
use Rattle.std.specs.Prelude.{ℕ, List}
use Rattle.prime_field.specs.Modulus.{value_of}
use Rattle.prime_field.specs.declared.Modulus.{Modulus}
use Rattle.poly_maps.specs.Pair.{CrossEqual}
use Rattle.poly_maps.specs.Quotient.{RationalPair}
use Rattle.poly_maps.specs.Reduced.{residue_pair}
use Rattle.poly_maps.specs.declared.pair.Pair.{Pair}
use Rattle.good_attempt.specs.Attempts.{Taken}
use Rattle.output_result.specs.Outputs.{AgreesAt}
use Rattle.output_result.specs.Printing.{PrintsFunction}
use Rattle.reconstruction.specs.Functions.{AreTaken, Functions, output_of}

-- the fifth line prints the function F as that of the first output
abbrev pub PrintsFirst : Functions → List ℕ → RationalPair → Type 0
PrintsFirst job text F = PrintsFunction job.names text 4 1 F

-- every pair within the bounds of the first output that agrees with its samples is cross equal to what the function that is
-- printed leaves, at each modulus
abbrev pub FirstUnique : Functions → List ℕ → Type 0
FirstUnique job text = (taken : Modulus → Taken) (F : RationalPair) → AreTaken job taken → PrintsFirst job text F →
    (m : Modulus) (g : Pair) → AgreesAt (output_of job taken 0) m g → CrossEqual (value_of m) g (residue_pair (value_of m) F)
