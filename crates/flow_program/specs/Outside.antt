-- What a run does to the shelf and the sinks that it is lent.
use Rattle.std.specs.Prelude.{◌≡◌, ℕ, List, [], ◌∷◌, ◌++◌, Option, Some, None, ⊤, ◌⊎◌, ◌↔◌, codes}
use Rattle.flow_base.specs.Counts.{Rose}
use Rattle.flow_base.specs.Shelf.{ShelfView}
use Rattle.flow_base.specs.Sink.{SinkView, Adds, AddsFront}
use Rattle.graph_file.specs.Says.{FileForm}
use Rattle.graph_eval.specs.declared.learned.GraphLearned.{GraphLearned}
use Rattle.reconstruction.specs.Form.{functions_of}
use Rattle.reconstruction.specs.Functions.{Functions}
use Rattle.flow_program.specs.Words.{Request, Sample, Learn, Reconstruct, Demo, asked, file_of, names_read}
use Rattle.flow_program.specs.Tasks.{task_of}
use Rattle.flow_program.specs.Answer.{Answer}
use Rattle.flow_program.specs.Demo.{demo_bytes}
use Rattle.flow_program.specs.Jobs.{FileAnswer, IsLearned, IsNoJob}
use Rattle.flow_program.specs.Run.{Files, IsBadFile, ModuliArePrime, Premise, RunAnswer}
use Rattle.flow_program.specs.declared.task.Task.{Task}

-- the shelf and the two sinks at one moment
pub record Outside : Type 0 where
  pub shelf : ShelfView
  pub out : SinkView
  pub err : SinkView

abbrev pub outside : ShelfView → SinkView → SinkView → Outside
outside shelf out err = record { shelf = shelf; out = out; err = err }

-- bytes that may stand under a name: any where it isn't told, none where it is told that nothing stands there
abbrev pub MayStand : Option (Option (List ℕ)) → List ℕ → Type 0
MayStand None bytes = ⊤
MayStand (Some None) bytes = ⊥
MayStand (Some (Some told)) bytes = told ≡ bytes

-- This is the answer of bytes that may stand under a name, with which this is to be done: where the moduli are prime, or the
-- bytes are no job. Its status is 3 exactly where they are none.
pub record StandsAnswered (what : Task) (told : Option (Option (List ℕ))) (answer : Answer) : Type 0 where
  pub bytes : List ℕ
  pub stood : MayStand told bytes
  pub right : ModuliArePrime ⊎ IsNoJob what bytes → FileAnswer what bytes answer
  pub bad_file : (answer.status ≡ 3) ↔ IsNoJob what bytes

-- under each of the names its bytes may stand
abbrev pub AllMayStand : ShelfView → Files → List (List ℕ) → Type 0
AllMayStand shelf files [] = ⊤
AllMayStand shelf files (name ∷ names) = MayStand (shelf.files name) (files name) × AllMayStand shelf files names

-- under each name that what is asked for reads its bytes may stand
abbrev pub MayStandAsked : Option Request → ShelfView → Files → Type 0
MayStandAsked None shelf files = ⊤
MayStandAsked (Some wish) shelf files = AllMayStand shelf files (names_read wish)

-- This is, under their premise, the answer of the words and of the bytes that stood under the names that they have read. Its
-- status is 3 exactly where these bytes are no job, whatever the moduli are.
pub record IsRightAnswer (words : List (List ℕ)) (shelf : ShelfView) (answer : Answer) : Type 0 where
  pub files : Files
  pub stood : MayStandAsked (asked words) shelf files
  pub right : Premise words files → RunAnswer words files answer
  pub bad_file : (answer.status ≡ 3) ↔ IsBadFile (asked words) files

-- what is told of the bytes that a request works on: what the shelf tells of its file; those of the demo are told
abbrev pub told_of : Request → ShelfView → Option (Option (List ℕ))
told_of (Sample file _ second) shelf = shelf.files file
told_of (Learn file) shelf = shelf.files file
told_of (Reconstruct file _ report) shelf = shelf.files file
told_of (Demo n _) shelf = Some (Some (demo_bytes n))

-- the file that is asked for is there, and all its graphs are learned
pub record IsLearnable (words : List (List ℕ)) (shelf : ShelfView) : Type 0 where
  pub wish : Request
  pub asks : asked words ≡ Some wish
  pub bytes : List ℕ
  pub stands : told_of wish shelf ≡ Some (Some bytes)
  pub form : FileForm
  pub learned : List GraphLearned
  pub is : IsLearned (task_of wish) bytes form learned

-- what a file that is there asks of its outputs as functions
abbrev pub functions_in : (words : List (List ℕ)) (shelf : ShelfView) → IsLearnable words shelf → Functions
functions_in words shelf file = functions_of file.form file.learned

-- functions are asked for, or else they are not
abbrev pub AsksFunctions : Request → Type 0
AsksFunctions (Sample file _ second) = ⊥
AsksFunctions (Learn file) = ⊥
AsksFunctions (Reconstruct file _ report) = ⊤
AsksFunctions (Demo n _) = ⊤

abbrev pub AsksNoFunctions : Request → Type 0
AsksNoFunctions (Sample file _ second) = ⊤
AsksNoFunctions (Learn file) = ⊤
AsksNoFunctions (Reconstruct file _ report) = ⊥
AsksNoFunctions (Demo n _) = ⊥

-- a line for each function is asked for, or the demo is, whose fifth line tells its first function
abbrev pub AsksLines : Request → Type 0
AsksLines (Sample file _ second) = ⊥
AsksLines (Learn file) = ⊥
AsksLines (Reconstruct file _ report) = ⊤
AsksLines (Demo n _) = ⊥

abbrev pub AsksDemo : Request → Type 0
AsksDemo (Sample file _ second) = ⊥
AsksDemo (Learn file) = ⊥
AsksDemo (Reconstruct file _ report) = ⊥
AsksDemo (Demo n _) = ⊤

-- the sink tells what it holds, and this text stands behind what it held before
pub record Wrote (old new : SinkView) (text : List ℕ) : Type 0 where
  pub before : List ℕ
  pub was : old.held ≡ Some before
  pub is : new.held ≡ Some (before ++ text)

-- the run told its answer: the status, and all of out and err
pub record Tells (words : List (List ℕ)) (status : ℕ) (old new : Outside) : Type 0 where
  pub answer : Answer
  pub is_right : IsRightAnswer words old.shelf answer
  pub status_told : status ≡ answer.status
  pub out_told : Adds old.out new.out answer.out
  pub err_told : Adds old.err new.err answer.err

-- nothing went to out, and one text to err
pub record TellsOnly (text : List ℕ) (old new : Outside) : Type 0 where
  pub out_told : Adds old.out new.out []
  pub err_told : Adds old.err new.err text

-- nothing went to out, and a front of one text to err
pub record TellsFront (text : List ℕ) (old new : Outside) : Type 0 where
  pub out_told : Adds old.out new.out []
  pub err_told : AddsFront old.err new.err text

-- fronts of the answer's out and err
pub record TellsAnswerFront (words : List (List ℕ)) (old new : Outside) : Type 0 where
  pub answer : Answer
  pub is_right : IsRightAnswer words old.shelf answer
  pub out_told : AddsFront old.out new.out answer.out
  pub err_told : AddsFront old.err new.err answer.err

-- the shelf's count of the file of this name rose, where there is a name
abbrev pub NameRose : Option (List ℕ) → ShelfView → ShelfView → Type 0
NameRose None old new = ⊥
NameRose (Some name) old new = Rose (old.faults name) (new.faults name)

-- the shelf's count of the file that is asked for rose
abbrev pub FileRose : Option Request → ShelfView → ShelfView → Type 0
FileRose None old new = ⊥
FileRose (Some wish) old new = NameRose (file_of wish) old new

-- the count of out, or that of err, rose
abbrev pub SinkRose : Outside → Outside → Type 0
SinkRose old new = Rose old.out.faults new.out.faults ⊎ Rose old.err.faults new.err.faults

-- no device failed: neither the file's count nor a sink's rose
abbrev pub NoDeviceFailed : List (List ℕ) → Outside → Outside → Type 0
NoDeviceFailed words old new = FileRose (asked words) old.shelf new.shelf ⊎ SinkRose old new → ⊥

-- what stands on out and err where a write failed: fronts of the answer, or of one of the two texts of a fault
abbrev pub BreaksOff : List (List ℕ) → Outside → Outside → Type 0
BreaksOff words old new = TellsAnswerFront words old new
    ⊎ ((FileRose (asked words) old.shelf new.shelf × TellsFront (codes "flow: read fault\n") old new)
    ⊎ TellsFront (codes "flow: no memory\n") old new)
