-- What a line of a text prints.
use Rattle.std.specs.Prelude.{◌≡◌, ℕ, ◌^◌, ◌<◌, List, [], ◌∷◌, ◌++◌, ◌⊎◌, Some, slice_get, slice_index}
use Rattle.prime_field.specs.declared.Modulus.{Modulus}
use Rattle.poly_maps.specs.Quotient.{RationalPair, IsQuotientMap}
use Rattle.multivar_recon.specs.declared.by_rays.Method.{Method}
use Rattle.ratfun_text.specs.Printed.{AreIn, HasSizes, IsIn}
use Rattle.rational_lift.specs.Lifting.{Lifted, Unlike, NoRational}
use Rattle.output_result.specs.Results.{Result, NoPair, Lifts}
use Rattle.output_result.specs.Texts.{lines, methods_text, result_line}

-- a quotient in these names of its variables, its numbers as small as a quotient's are kept: one that its text tells
pub record IsPrintable (names : List (List ℕ)) (F : RationalPair) : Type 0 where
  pub map : IsQuotientMap F
  pub inside : AreIn names F
  pub sizes : HasSizes F

-- a monomial in these names, its exponents as small as a monomial's are kept
pub record IsMonoIn (names : List (List ℕ)) (e : List ℕ) : Type 0 where
  pub inside : IsIn names e
  pub low : (i : ℕ) → slice_index e i < 2 ^ 16

-- what the result tells is in these names, and as small as it is kept
abbrev pub IsShown : List (List ℕ) → Result → Type 0
IsShown names (NoPair m) = Unit {0}
IsShown names (Lifts (Lifted F)) = IsPrintable names F
IsShown names (Lifts (Unlike first second)) = IsMonoIn names first × IsMonoIn names second
IsShown names (Lifts (NoRational part e joint)) = IsMonoIn names e × (joint < 2 ^ 128)

abbrev pub AreShown : List (List ℕ) → List Result → Type 0
AreShown names [] = Unit {0}
AreShown names (result ∷ results) = IsShown names result × AreShown names results

-- the line of output `number` that prints the function
abbrev pub function_line : List (List ℕ) → ℕ → RationalPair → List ℕ
function_line names number F = result_line names number (Lifts (Lifted F))

-- what may stand behind a function on its line: nothing, or how its residues were found at each modulus
abbrev pub IsTail : List ℕ → Type 0
IsTail tail = (tail ≡ []) ⊎ ((methods : Modulus → Method) × (tail ≡ methods_text methods))

-- the line at `place` of the text, counted from 0, prints the function as that of output `number`
pub record PrintsFunction (names : List (List ℕ)) (out : List ℕ) (place number : ℕ) (F : RationalPair) : Type 0 where
  pub printable : IsPrintable names F
  pub tail : List ℕ
  pub ends : IsTail tail
  pub line : slice_get (lines out) place ≡ Some (function_line names number F ++ tail)
