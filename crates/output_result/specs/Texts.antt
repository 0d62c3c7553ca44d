-- The lines that tell results.
use Rattle.std.specs.Prelude.{ℕ, ◌+◌, ◌==◌, Bool, true, false, ◌&&◌, List, [], ◌∷◌, ◌++◌, Option, Some, None, codes, decimal}
use Rattle.std.specs.List.{slice_split}
use Rattle.prime_field.specs.Modulus.{number_of}
use Rattle.prime_field.specs.declared.Modulus.{Modulus}
use Rattle.prime_field.specs.declared.Modulus.TheVariants.{First, Second}
use Rattle.multivar_recon.specs.declared.by_rays.Method.{Method}
use Rattle.multivar_recon.specs.declared.by_rays.Method.TheVariants.{Rays, Fit}
use Rattle.ratfun_text.specs.Printed.{mono_text, quotient_text}
use Rattle.rational_lift.specs.Lifting.{Lift, Lifted, Unlike, NoRational}
use Rattle.rational_lift.specs.declared.coeff.Part.{Part}
use Rattle.rational_lift.specs.declared.coeff.Part.TheVariants.{Numerator, Denominator}
use Rattle.output_result.specs.Results.{Result, NoPair, Lifts}

abbrev pub part_text : Part → List ℕ
part_text Numerator = codes "numerator"
part_text Denominator = codes "denominator"

-- `= FUNCTION`, or `?` and why there is none: `unlike MONOMIAL MONOMIAL`, `norational PART MONOMIAL RESIDUE`
abbrev pub lift_text : List (List ℕ) → Lift → List ℕ
lift_text names (Lifted F) = codes "= " ++ quotient_text names F
lift_text names (Unlike first second) = codes "? unlike " ++ (mono_text names first ++ (codes " " ++ mono_text names second))
lift_text names (NoRational part e joint) = codes "? norational " ++ (part_text part ++ (codes " " ++ (mono_text names e ++ (codes " " ++ decimal joint))))

-- and `? nopair MODULUS`, the moduli counted from 1
abbrev pub result_text : List (List ℕ) → Result → List ℕ
result_text names (NoPair m) = codes "? nopair " ++ decimal (number_of m)
result_text names (Lifts lift) = lift_text names lift

-- the line of the output with this number
abbrev pub result_line : List (List ℕ) → ℕ → Result → List ℕ
result_line names number result = codes "f" ++ (decimal number ++ (codes " " ++ result_text names result))

abbrev pub method_text : Method → List ℕ
method_text Rays = codes "rays"
method_text Fit = codes "fit"

-- ` # METHOD METHOD`: how the least pair was found at each modulus
abbrev pub methods_text : (Modulus → Method) → List ℕ
methods_text methods = codes " # " ++ (method_text (methods First) ++ (codes " " ++ method_text (methods Second)))

-- a report tells how the least pairs of an output were found, or nothing
abbrev pub Report : Type 0
Report = Option (Modulus → Method)

-- what stands behind a result on its line: nothing where no pair agrees
abbrev pub report_text : Report → Result → List ℕ
report_text None result = []
report_text (Some methods) (NoPair m) = []
report_text (Some methods) (Lifts lift) = methods_text methods

-- a line for each result, the first of the output with this number, with the report of that number; each ends with a line
-- feed
abbrev pub lines_from : List (List ℕ) → (ℕ → Report) → ℕ → List Result → List ℕ
lines_from names reports number [] = []
lines_from names reports number (result ∷ results) = (result_line names number result ++ report_text (reports number) result) ++ 10 ∷ lines_from names reports (number + 1) results

-- a line for each output, which are counted from 1
abbrev pub results_text : List (List ℕ) → (ℕ → Report) → List Result → List ℕ
results_text names reports results = lines_from names reports 1 results

-- the result is a quotient
abbrev pub is_found : Result → Bool
is_found (NoPair m) = false
is_found (Lifts (Lifted F)) = true
is_found (Lifts (Unlike first second)) = false
is_found (Lifts (NoRational part e joint)) = false

-- each result is
abbrev pub all_found : List Result → Bool
all_found [] = true
all_found (result ∷ results) = is_found result && all_found results

-- a text cut at each line feed; what stands after the last one is a line too
abbrev pub lines : List ℕ → List (List ℕ)
lines text = slice_split (λ byte. byte == 10) text
