-- What a text of functions promises.
use Rattle.std.specs.Prelude.{ℕ, ◌+◌, ◌<◌, List}
use Rattle.prime_field.specs.Modulus.{value_of}
use Rattle.prime_field.specs.declared.Modulus.{Modulus}
use Rattle.poly_maps.specs.Pair.{CrossEqual}
use Rattle.poly_maps.specs.Quotient.{RationalPair}
use Rattle.poly_maps.specs.Reduced.{residue_pair}
use Rattle.poly_maps.specs.declared.pair.Pair.{Pair}
use Rattle.good_attempt.specs.Attempts.{Taken}
use Rattle.output_result.specs.Outputs.{AgreesAt, ReducesWellAt}
use Rattle.output_result.specs.Printing.{PrintsFunction}
use Rattle.reconstruction.specs.Functions.{Functions, AreTaken, IsOutput, output_of}

-- the line k of the text, counted from 0, prints the function F as that of the output k + 1, counted from 1
abbrev pub Prints : Functions → List ℕ → ℕ → RationalPair → Type 0
Prints job text k F = PrintsFunction job.names text k (k + 1) F

-- an output that is a quotient within its bounds, has good attempts and reduces well is printed as that quotient
abbrev pub QuotientPrinted : Functions → List ℕ → Type 0
QuotientPrinted job text = (taken : Modulus → Taken) (k : ℕ) (F : RationalPair) → AreTaken job taken → k < job.outputs →
    IsOutput job taken k F → ReducesWellAt (output_of job taken k) F → Prints job text k F

-- every pair within the bounds of a printed function's output that agrees with its samples is cross equal to what the function
-- leaves, at each modulus
abbrev pub PrintedUnique : Functions → List ℕ → Type 0
PrintedUnique job text = (taken : Modulus → Taken) (k : ℕ) (F : RationalPair) → AreTaken job taken → Prints job text k F →
    (m : Modulus) (g : Pair) → AgreesAt (output_of job taken k) m g → CrossEqual (value_of m) g (residue_pair (value_of m) F)

-- where a function is printed both moduli have a good attempt
abbrev pub PrintedTaken : Functions → List ℕ → Type 0
PrintedTaken job text = (k : ℕ) (F : RationalPair) → Prints job text k F → (taken : Modulus → Taken) × AreTaken job taken
