-- The answer of a job, from what learning its graphs gives.
use Rattle.std.proofs.Common.{◌≡◌, List, Ok, Err, subst}
use Rattle.graph_file.specs.declared.job.Need.{Need}
use Rattle.graph_file.specs.Says.{FileForm}
use Rattle.graph_eval.specs.declared.learned.GraphLearned.{GraphLearned}
use Rattle.learn_phase.specs.declared.error.LearnError.{LearnError}
use Rattle.learn_phase.specs.declared.error.LearnError.TheVariants as error
use Rattle.learn_phase.specs.Answers.{Tells}
use Rattle.learn_phase.specs.LearnedSets.{BreaksLength, LearnedSets, Learns, Lesson, NoPoint}
use Rattle.flow_program.specs.declared.task.Task.{Task}
use Rattle.flow_program.specs.Answer.{Answer}
use Rattle.flow_program.specs.Jobs.{JobAnswer, LearnedAnswer, LessonAnswer}
use Rattle.flow_program.specs.Reply.{TellsWhy}
use Rattle.flow_program.specs.Tasks.{need_of}

-- a job that is read for what is to be done with it
by_lesson : (what : Task) (form : FileForm) (need : Need) (lesson : Lesson) (answer : Answer) → need ≡ need_of what → LearnedSets need form lesson → LessonAnswer what form lesson answer → JobAnswer what form answer
by_lesson what form need lesson answer read learns right = record { lesson = lesson; learns = subst (λ (n : Need). LearnedSets n form lesson) read learns; right = right }

-- graphs that are all learned, and what is told of them
pub learned_job : (what : Task) (form : FileForm) (need : Need) (learned : List GraphLearned) (answer : Answer) → need ≡ need_of what → Tells need form (Ok learned) → LearnedAnswer what form learned answer → JobAnswer what form answer
learned_job what form need learned answer read learns right = by_lesson what form need (Learns learned) answer read learns right

-- graphs that can't be learned, and why
pub unlearned_job : (what : Task) (form : FileForm) (need : Need) (why : LearnError) (answer : Answer) → need ≡ need_of what → Tells need form (Err why) → TellsWhy form.graphs why answer → JobAnswer what form answer
unlearned_job what form need (error.NoLearningPoint number first) answer read learns right = by_lesson what form need (NoPoint number first) answer read learns right
unlearned_job what form need (error.Length number node) answer read learns right = by_lesson what form need (BreaksLength number node) answer read learns right
unlearned_job what form need error.NoMemory answer read learns right = absurd right
