-- A file whose graphs are learned has the answer of what was learned.
use Rattle.std.proofs.Common.{◌≡◌, ℕ, MatchBool, List, length, Option, Some, ap, subst, inl, inr}
use Rattle.std.proofs.lemmas.Bool.{le-ltb}
use Rattle.graph_file.specs.declared.error.FileKind.{FileKind}
use Rattle.graph_file.specs.declared.job.Need.{Need}
use Rattle.graph_file.specs.File.{IsFirstBad, IsGoodFile}
use Rattle.graph_file.specs.Says.{FileForm, Says}
use Rattle.graph_eval.specs.declared.learned.GraphLearned.{GraphLearned}
use Rattle.learn_phase.specs.LearnedSets.{LearnedSets, Learns, Lesson}
use Rattle.flow_program.specs.declared.task.Task.{Task}
use Rattle.flow_program.specs.Answer.{Answer}
use Rattle.flow_program.specs.Words.{Request, asked}
use Rattle.flow_program.specs.Jobs.{FileAnswer, IsLearned, JobAnswer, LearnedAnswer, LessonAnswer, ShortAnswer, long_answer, most_bytes}
use Rattle.flow_program.specs.Run.{Files, RequestAnswer, RunAnswer, bytes_of}
use Rattle.flow_program.specs.Tasks.{need_of, task_of}

-- the laws that it rests on
pub record Laws : Type 0 where
  pub one_lesson : (need : Need) (form : FileForm) (a b : Lesson) → LearnedSets need form a → LearnedSets need form b → a ≡ b
  pub told_or_nothing : (need : Need) (bytes : List ℕ) (n : ℕ) (a : FileKind) → IsGoodFile need bytes → IsFirstBad need bytes n a → ⊥
  pub one_form : (need : Need) (bytes : List ℕ) (f g : FileForm) → Says need bytes f → Says need bytes g → f ≡ g

read_well : (laws : Laws) (what : Task) (bytes : List ℕ) (form : FileForm) (learned : List GraphLearned) (answer : Answer) → IsLearned what bytes form learned → ShortAnswer what bytes answer → LearnedAnswer what form learned answer
read_well laws what bytes form learned answer is (inl refused) = absurd (laws.told_or_nothing (need_of what) bytes refused.line refused.kind is.good refused.bad)
read_well laws what bytes form learned answer is (inr read) =
    let right = subst (λ (f : FileForm). JobAnswer what f answer) (laws.one_form (need_of what) bytes read.form form read.says is.says) read.right in
    let lesson = laws.one_lesson (need_of what) form right.lesson (Learns learned) right.learns is.learns in
    subst (λ (l : Lesson). LessonAnswer what form l answer) lesson right.right

file_well : (laws : Laws) (what : Task) (bytes : List ℕ) (form : FileForm) (learned : List GraphLearned) (answer : Answer) → IsLearned what bytes form learned → FileAnswer what bytes answer → LearnedAnswer what form learned answer
file_well laws what bytes form learned answer is right = read_well laws what bytes form learned answer is (subst (λ b. MatchBool b (answer ≡ long_answer) (ShortAnswer what bytes answer)) (le-ltb most_bytes (length bytes) is.fits) right)

pub answered_well : (laws : Laws) (words : List (List ℕ)) (wish : Request) (files : Files) (form : FileForm) (learned : List GraphLearned) (answer : Answer) → asked words ≡ Some wish → IsLearned (task_of wish) (bytes_of wish files) form learned
    → RunAnswer words files answer → LearnedAnswer (task_of wish) form learned answer
answered_well laws words wish files form learned answer asks is right = file_well laws (task_of wish) (bytes_of wish files) form learned answer is (subst (λ (r : Option Request). RequestAnswer r words files answer) asks right)
