-- The answer of a file that is read, and of the graphs and points that it says.
use Rattle.std.specs.Prelude.{◌≡◌, ℕ, ◌<◌, ◌≤◌, Bool, true, false, List, [], length, slice_get, Some, MatchBool, nat_lt, ◌⊎◌, codes}
use Rattle.prime_field.specs.Modulus.{value_of}
use Rattle.graph_file.specs.declared.error.FileKind.{FileKind}
use Rattle.graph_file.specs.declared.graph.Graph.{Graph}
use Rattle.graph_file.specs.File.{IsFirstBad, IsGoodFile}
use Rattle.graph_file.specs.Says.{FileForm, Says, grid_of}
use Rattle.graph_eval.specs.declared.learned.GraphLearned.{GraphLearned}
use Rattle.graph_eval.specs.GraphValue.{main_number}
use Rattle.graph_eval.specs.Learned.{sets_of}
use Rattle.learn_phase.specs.LearnedSets.{BreaksLength, LearnedSets, Learns, Lesson, NoPoint}
use Rattle.ray_grid.specs.Grid.{point_count}
use Rattle.output_result.specs.Texts.{Report, results_text}
use Rattle.reconstruction.specs.Form.{functions_of}
use Rattle.reconstruction.specs.Functions.{AreReported, Findings, Functions, Reconstructs}
use Rattle.flow_program.specs.declared.task.Task.{Task}
use Rattle.flow_program.specs.declared.task.Task.TheVariants as task
use Rattle.flow_program.specs.Answer.{Answer, refusal}
use Rattle.flow_program.specs.Lessons.{lessons}
use Rattle.flow_program.specs.Reconstructed.{Telling, demo_text, findings_answer, no_reports}
use Rattle.flow_program.specs.Refusals.{file_text, length_text, no_point_text, told_list}
use Rattle.flow_program.specs.Sampled.{SamplesTo}
use Rattle.flow_program.specs.Tasks.{need_of}

-- everything went well: status 0, with this text
abbrev pub success : List ℕ → Answer
success text = record { status = 0; out = text; err = [] }

-- the reports that are told of findings: how the least pairs are found where that is asked for, and nothing otherwise
abbrev pub AreReports : Bool → Functions → Findings → (ℕ → Report) → Type 0
AreReports true job findings reports = AreReported job findings reports
AreReports false job findings reports = reports ≡ no_reports

-- what is found of the outputs as functions, told so, with reports where they are asked for
pub record TellsFindings (asked : Bool) (telling : Telling) (form : FileForm) (learned : List GraphLearned) (answer : Answer) : Type 0 where
  pub findings : Findings
  pub are : Reconstructs (functions_of form learned) findings
  pub reports : ℕ → Report
  pub are_reports : AreReports asked (functions_of form learned) findings reports
  pub told : answer ≡ findings_answer telling (slice_get form.graphs (main_number form.graphs)) reports findings

-- what is answered of graphs that are all learned: the lines of the points, what was learned, or what is found of the outputs
-- as functions, a line for each, with a report where it is asked for; of the demo what it is made of, and the line of its first
-- output
abbrev pub LearnedAnswer : Task → FileForm → List GraphLearned → Answer → Type 0
LearnedAnswer (task.Sample modulus) form learned answer = (text : List ℕ) × SamplesTo (value_of modulus) form.graphs (sets_of learned) form.points text × (answer ≡ success text)
LearnedAnswer task.Learn form learned answer = answer ≡ success (lessons form.graphs learned)
LearnedAnswer (task.Reconstruct report) form learned answer = TellsFindings report results_text form learned answer
LearnedAnswer (task.Demo n) form learned answer = TellsFindings false (demo_text n (point_count (grid_of form))) form learned answer

-- status 4 with a text on the graph that has this number
pub record IsUnlearned (graphs : List Graph) (number : ℕ) (text : Graph → List ℕ) (answer : Answer) : Type 0 where
  pub graph : Graph
  pub is_graph : slice_get graphs number ≡ Some graph
  pub told : answer ≡ refusal 4 (text graph)

-- what is answered after this lesson
abbrev pub LessonAnswer : Task → FileForm → Lesson → Answer → Type 0
LessonAnswer what form (Learns learned) answer = LearnedAnswer what form learned answer
LessonAnswer what form (NoPoint number first) answer = IsUnlearned form.graphs number (λ graph. no_point_text graph first) answer
LessonAnswer what form (BreaksLength number node) answer = IsUnlearned form.graphs number (λ graph. length_text graph (told_list graph.output node)) answer

-- the answer of what a file says
pub record JobAnswer (what : Task) (form : FileForm) (answer : Answer) : Type 0 where
  pub lesson : Lesson
  pub learns : LearnedSets (need_of what) form lesson
  pub right : LessonAnswer what form lesson answer

-- a line of the file is bad for what is to be done with it
pub record HasBadLine (what : Task) (bytes : List ℕ) : Type 0 where
  pub line : ℕ
  pub kind : FileKind
  pub bad : IsFirstBad (need_of what) bytes line kind

-- the file has a bad line: status 3 with the first one
pub record IsRefused (what : Task) (bytes : List ℕ) (answer : Answer) : Type 0 where
  pub line : ℕ
  pub kind : FileKind
  pub bad : IsFirstBad (need_of what) bytes line kind
  pub told : answer ≡ refusal 3 (file_text line kind)

-- the file has no bad line, and the answer is that of what it says
pub record IsRead (what : Task) (bytes : List ℕ) (answer : Answer) : Type 0 where
  pub good : IsGoodFile (need_of what) bytes
  pub form : FileForm
  pub says : Says (need_of what) bytes form
  pub right : JobAnswer what form answer

-- the most bytes that a file has
abbrev pub most_bytes : ℕ
most_bytes = 16777216

-- with these bytes this can't be done: they are too many, or one of their lines is bad
abbrev pub IsNoJob : Task → List ℕ → Type 0
IsNoJob what bytes = (most_bytes < length bytes) ⊎ HasBadLine what bytes

abbrev pub long_answer : Answer
long_answer = refusal 3 (codes "flow: file too long\n")

-- the answer of bytes that are not too many
abbrev pub ShortAnswer : Task → List ℕ → Answer → Type 0
ShortAnswer what bytes answer = IsRefused what bytes answer ⊎ IsRead what bytes answer

-- the answer of a file of these bytes, with which this is to be done
abbrev pub FileAnswer : Task → List ℕ → Answer → Type 0
FileAnswer what bytes answer = MatchBool (nat_lt most_bytes (length bytes)) (answer ≡ long_answer) (ShortAnswer what bytes answer)

-- the file is read, says this, and this is learned of all its graphs
pub record IsLearned (what : Task) (bytes : List ℕ) (form : FileForm) (learned : List GraphLearned) : Type 0 where
  pub fits : length bytes ≤ most_bytes
  pub good : IsGoodFile (need_of what) bytes
  pub says : Says (need_of what) bytes form
  pub learns : LearnedSets (need_of what) form (Learns learned)
