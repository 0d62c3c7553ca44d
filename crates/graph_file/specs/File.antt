-- What is told of a file.
use Rattle.std.specs.Prelude.{ℕ, ◌≡◌, ◌+◌, ◌<◌, Bool, true, false, ◌&&◌, nat_lt, List, length, take, reverse, filter_map, Some, is_some, slice_get}
use Rattle.graph_file.specs.declared.error.FileError.{FileError}
use Rattle.graph_file.specs.declared.error.FileKind.{FileKind}
use Rattle.graph_file.specs.declared.error.FileKind.TheVariants.{Missing, NoMemory}
use Rattle.graph_file.specs.declared.job.Need.{Need}
use Rattle.graph_file.specs.declared.job.Need.TheVariants.{Points, Learning, Functions}
use Rattle.graph_file.specs.declared.line.Line.{Line}
use Rattle.graph_file.specs.Bounding.{all_in}
use Rattle.graph_file.specs.Facts.{has_output}
use Rattle.graph_file.specs.Faults.{IsBadLine, IsGoodLine}
use Rattle.graph_file.specs.Line.{line_of}
use Rattle.graph_file.specs.Lines.{lines, kept, is_passed_over}

-- what lines say, those that are passed over left out, the last one first
abbrev pub said : List (List ℕ) → List Line
said all = reverse (filter_map line_of (kept all))

-- the line is passed over; the first line, at place 0, never is
abbrev pub is_idle_at : ℕ → List ℕ → Bool
is_idle_at place line = nat_lt 0 place && is_passed_over line

-- nothing is wrong with the line at this place, counted from 0
abbrev pub IsGoodAt : List (List ℕ) → ℕ → Type 0
IsGoodAt all place = (line : List ℕ) → slice_get all place ≡ Some line → is_idle_at place line ≡ false → IsGoodLine (said (take place all)) (line_of line)

-- this is wrong with the line at this place, counted from 0
pub record IsBadAt (all : List (List ℕ)) (place : ℕ) (kind : FileKind) : Type 0 where
  pub line : List ℕ
  pub there : slice_get all place ≡ Some line
  pub counts : is_idle_at place line ≡ false
  pub bad : IsBadLine (said (take place all)) (line_of line) kind

-- nothing is wrong with the first lines, as many as this
abbrev pub AreGood : List (List ℕ) → ℕ → Type 0
AreGood all count = (place : ℕ) → place < count → IsGoodAt all place

-- the lines have the last graph's output, and where the file is read for functions, bounds for every output
abbrev pub is_complete : Need → List Line → Bool
is_complete Points all = has_output all
is_complete Learning all = has_output all
is_complete Functions all = has_output all && is_some (all_in all)

-- the line with this number, counted from 1, is the first with which something is wrong, and this is what
pub record IsFirstBadLine (all : List (List ℕ)) (number : ℕ) (kind : FileKind) : Type 0 where
  pub place : ℕ
  pub counted : number ≡ place + 1
  pub bad : IsBadAt all place kind
  pub before : AreGood all place

-- nothing is wrong with any line, but the file ends with the line of this number, and something is missing
pub record IsCutOff (need : Need) (all : List (List ℕ)) (number : ℕ) : Type 0 where
  pub counted : number ≡ length all
  pub good : AreGood all (length all)
  pub lacks : is_complete need (said all) ≡ false

-- what is told of the lines of a file that is read for this
abbrev pub IsTold : Need → List (List ℕ) → ℕ → FileKind → Type 0
IsTold need all number Missing = IsCutOff need all number
IsTold need all number kind = IsFirstBadLine all number kind

-- this is told of a file that is read for this, with the number of a line, counted from 1
abbrev pub IsFirstBad : Need → List ℕ → ℕ → FileKind → Type 0
IsFirstBad need bytes number kind = IsTold need (lines bytes) number kind

-- nothing is wrong with a file that is read for this
pub record IsGoodFile (need : Need) (bytes : List ℕ) : Type 0 where
  pub good : AreGood (lines bytes) (length (lines bytes))
  pub complete : is_complete need (said (lines bytes)) ≡ true

-- what is told of the line at this place, counted from 0
abbrev pub told : ℕ → FileKind → FileError
told place NoMemory = record { line = 0; kind = NoMemory }
told place kind = record { line = place + 1; kind = kind }
