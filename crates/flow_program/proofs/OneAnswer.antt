-- Words and bytes have at most one answer.
use Rattle.std.proofs.Common.{◌≡◌, ℕ, ◌<◌, Bool, true, false, MatchBool, List, [], ◌∷◌, length, Option, Some, None, refl, sym, ◌∙◌, ap, subst, inl, inr, lit<}
use Rattle.std.specs.Prelude.{nat_lt, slice_get}
use Rattle.prime_field.specs.Modulus.{value_of}
use Rattle.prime_field.specs.declared.Modulus.{Modulus}
use Rattle.prime_field.specs.declared.Modulus.TheVariants.{First, Second}
use Rattle.graph_file.specs.declared.error.FileKind.{FileKind}
use Rattle.graph_file.specs.declared.graph.Graph.{Graph}
use Rattle.graph_file.specs.declared.job.Need.{Need}
use Rattle.graph_file.specs.File.{IsFirstBad, IsGoodFile}
use Rattle.graph_file.specs.Says.{FileForm, Says, grid_of}
use Rattle.graph_eval.specs.declared.learned.GraphLearned.{GraphLearned}
use Rattle.graph_eval.specs.GraphValue.{Outcome, GraphValue, main_number}
use Rattle.graph_eval.specs.Learned.{sets_of}
use Rattle.learn_phase.specs.LearnedSets.{BreaksLength, LearnedSets, Learns, Lesson, NoPoint}
use Rattle.parallel_sampler.proofs.Tables.{outcomes_once}
use Rattle.ray_grid.specs.Grid.{point_count}
use Rattle.output_result.specs.Results.{Result}
use Rattle.output_result.specs.Texts.{Report, results_text}
use Rattle.reconstruction.specs.Form.{IsAsked, functions_of}
use Rattle.reconstruction.specs.Functions.{AreReported, Exhausted, Findings, Found, Reconstructs}
use Rattle.flow_program.specs.Reconstructed.{Telling, demo_text, findings_answer, results_answer}
use Rattle.flow_program.specs.declared.task.Task.{Task}
use Rattle.flow_program.specs.declared.task.Task.TheVariants as task
use Rattle.flow_program.specs.Answer.{Answer, refusal}
use Rattle.flow_program.specs.Words.{Request, asked}
use Rattle.flow_program.specs.Refusals.{file_text, length_text, no_point_text, told_list}
use Rattle.flow_program.specs.Sampled.{SamplesTo, sampled}
use Rattle.flow_program.specs.Jobs.{IsUnlearned, JobAnswer, LearnedAnswer, LessonAnswer, ShortAnswer, TellsFindings, long_answer, most_bytes, success}
use Rattle.flow_program.specs.Run.{Files, RequestAnswer, RunAnswer, bytes_of, words_answer}
use Rattle.flow_program.specs.Tasks.{need_of, task_of}
use Rattle.flow_program.proofs.WordsLaws.{one_bad_place}

-- the laws of the definitions below that of a run
pub record Laws : Type 0 where
  pub one_outcome : (m : ℕ) (graphs : List Graph) (learned : List (List (List ℕ))) (number : ℕ) (inputs : List ℕ) (o p : Outcome) → 1 < m → GraphValue m graphs learned number inputs o → GraphValue m graphs learned number inputs p → o ≡ p
  pub one_lesson : (need : Need) (form : FileForm) (a b : Lesson) → LearnedSets need form a → LearnedSets need form b → a ≡ b
  pub one_told : (need : Need) (bytes : List ℕ) (n k : ℕ) (a b : FileKind) → IsFirstBad need bytes n a → IsFirstBad need bytes k b → (n ≡ k) × (a ≡ b)
  pub told_or_nothing : (need : Need) (bytes : List ℕ) (n : ℕ) (a : FileKind) → IsFirstBad need bytes n a → IsGoodFile need bytes → ⊥
  pub one_finding : (bytes : List ℕ) (form : FileForm) (learned : List GraphLearned) (a b : Findings) → IsAsked bytes form learned → Reconstructs (functions_of form learned) a → Reconstructs (functions_of form learned) b → a ≡ b
  pub one_report : (bytes : List ℕ) (form : FileForm) (learned : List GraphLearned) (r s : ℕ → Report) (results : List Result) → IsAsked bytes form learned → AreReported (functions_of form learned) (Found results) r
      → AreReported (functions_of form learned) (Found results) s → results_text (functions_of form learned).names r results ≡ results_text (functions_of form learned).names s results
  pub one_form : (need : Need) (bytes : List ℕ) (f g : FileForm) → Says need bytes f → Says need bytes g → f ≡ g

-- both moduli are above 1
above_one : (m : Modulus) → 1 < value_of m
above_one First = lit< tt
above_one Second = lit< tt

text_once : (laws : Laws) (m : Modulus) (graphs : List Graph) (sets : List (List (List ℕ))) (points : List (List ℕ)) (s t : List ℕ) → SamplesTo (value_of m) graphs sets points s → SamplesTo (value_of m) graphs sets points t → s ≡ t
text_once laws m graphs sets points s t first second =
    let once : (point : List ℕ) (o p : Outcome) → GraphValue (value_of m) graphs sets (main_number graphs) point o → GraphValue (value_of m) graphs sets (main_number graphs) point p → o ≡ p =
    λ point o p here there. laws.one_outcome (value_of m) graphs sets (main_number graphs) point o p (above_one m) here there in
    first.lines ∙ ap (sampled graphs) (outcomes_once (GraphValue (value_of m) graphs sets (main_number graphs)) once points first.outcomes second.outcomes first.are_outcomes second.are_outcomes) ∙ sym second.lines

module _ (laws : Laws) (what : Task) (form : FileForm) where
  unlearned_once : (number : ℕ) (text : Graph → List ℕ) (a b : Answer) → IsUnlearned form.graphs number text a → IsUnlearned form.graphs number text b → a ≡ b
  unlearned_once number text a b first second =
      let both : Some first.graph ≡ Some second.graph = sym first.is_graph ∙ second.is_graph in
      let same : first.graph ≡ second.graph = cc in
      first.told ∙ ap (λ g. refusal 4 (text g)) same ∙ sym second.told

  lesson_answer_once : (lesson : Lesson) (a b : Answer) → LearnedSets (need_of what) form lesson → ((learned : List GraphLearned) → LearnedSets (need_of what) form (Learns learned) → LearnedAnswer what form learned a → LearnedAnswer what form learned b → a ≡ b)
      → LessonAnswer what form lesson a → LessonAnswer what form lesson b → a ≡ b
  lesson_answer_once (Learns learned) a b learns once first second = once learned learns first second
  lesson_answer_once (NoPoint number points) a b learns once first second = unlearned_once number (λ graph. no_point_text graph points) a b first second
  lesson_answer_once (BreaksLength number node) a b learns once first second = unlearned_once number (λ graph. length_text graph (told_list graph.output node)) a b first second

  job_by_lesson : (a b : Answer) → ((learned : List GraphLearned) → LearnedSets (need_of what) form (Learns learned) → LearnedAnswer what form learned a → LearnedAnswer what form learned b → a ≡ b) → JobAnswer what form a → JobAnswer what form b → a ≡ b
  job_by_lesson a b once first second =
      let same = laws.one_lesson (need_of what) form first.lesson second.lesson first.learns second.learns in
      lesson_answer_once second.lesson a b second.learns once (subst (λ (l : Lesson). LessonAnswer what form l a) same first.right) second.right

-- a file that is read for what is to be done with it, and what it says
record ReadsAs (what : Task) (bytes : List ℕ) (form : FileForm) : Type 0 where
  good : IsGoodFile (need_of what) bytes
  says : Says (need_of what) bytes form

-- what a file asks for as functions has one finding, and one text that tells it
module _ (laws : Laws) (bytes : List ℕ) (form : FileForm) (learned : List GraphLearned) (asked : IsAsked bytes form learned) where
  -- where nothing is reported
  plain_once : (telling : Telling) (a b : Answer) → TellsFindings false telling form learned a → TellsFindings false telling form learned b → a ≡ b
  plain_once telling a b first second =
      let graph : Option Graph = slice_get form.graphs (main_number form.graphs) in
      first.told ∙ ap (λ (r : ℕ → Report). findings_answer telling graph r first.findings) (first.are_reports ∙ sym second.are_reports)
      ∙ ap (findings_answer telling graph second.reports) (laws.one_finding bytes form learned first.findings second.findings asked first.are second.are) ∙ sym second.told

  -- and where reports are told
  reported_once : (findings : Findings) (r s : ℕ → Report) → AreReported (functions_of form learned) findings r → AreReported (functions_of form learned) findings s
      → findings_answer results_text (slice_get form.graphs (main_number form.graphs)) r findings ≡ findings_answer results_text (slice_get form.graphs (main_number form.graphs)) s findings
  reported_once (Exhausted m gaps) r s first second = refl
  reported_once (Found results) r s first second = ap (λ (text : List ℕ). results_answer text results) (laws.one_report bytes form learned r s results asked first second)

  lines_once : (report : Bool) (a b : Answer) → TellsFindings report results_text form learned a → TellsFindings report results_text form learned b → a ≡ b
  lines_once true a b first second =
      let graph : Option Graph = slice_get form.graphs (main_number form.graphs) in
      let same : first.findings ≡ second.findings = laws.one_finding bytes form learned first.findings second.findings asked first.are second.are in
      first.told ∙ ap (findings_answer results_text graph first.reports) same
      ∙ reported_once second.findings first.reports second.reports (subst (λ (f : Findings). AreReported (functions_of form learned) f first.reports) same first.are_reports) second.are_reports ∙ sym second.told
  lines_once false a b first second = plain_once results_text a b first second

learned_once : (laws : Laws) (what : Task) (bytes : List ℕ) (form : FileForm) (a b : Answer) (learned : List GraphLearned) → ReadsAs what bytes form → LearnedSets (need_of what) form (Learns learned)
    → LearnedAnswer what form learned a → LearnedAnswer what form learned b → a ≡ b
learned_once laws (task.Sample m) bytes form a b learned reads learns first second =
    first.2 ∙ ap success (text_once laws m form.graphs (sets_of learned) form.points first.0 second.0 first.1 second.1) ∙ sym second.2
learned_once laws task.Learn bytes form a b learned reads learns first second = first ∙ sym second
learned_once laws (task.Reconstruct report) bytes form a b learned reads learns first second =
    lines_once laws bytes form learned (record { good = reads.good; says = reads.says; room = learns.1.0 }) report a b first second
learned_once laws (task.Demo n) bytes form a b learned reads learns first second =
    plain_once laws bytes form learned (record { good = reads.good; says = reads.says; room = learns.1.0 }) (demo_text n (point_count (grid_of form))) a b first second

job_once : (laws : Laws) (what : Task) (bytes : List ℕ) (form : FileForm) (a b : Answer) → ReadsAs what bytes form → JobAnswer what form a → JobAnswer what form b → a ≡ b
job_once laws what bytes form a b reads first second = job_by_lesson laws what form a b (λ learned learns. learned_once laws what bytes form a b learned reads learns) first second

few_once : (laws : Laws) (what : Task) (bytes : List ℕ) (a b : Answer) → ShortAnswer what bytes a → ShortAnswer what bytes b → a ≡ b
few_once laws what bytes a b (inl first) (inl second) =
    let same = laws.one_told (need_of what) bytes first.line second.line first.kind second.kind first.bad second.bad in
    first.told ∙ ap (λ l. refusal 3 (file_text l first.kind)) same.0 ∙ ap (λ k. refusal 3 (file_text second.line k)) same.1 ∙ sym second.told
few_once laws what bytes a b (inl first) (inr second) = absurd (laws.told_or_nothing (need_of what) bytes first.line first.kind first.bad second.good)
few_once laws what bytes a b (inr first) (inl second) = absurd (laws.told_or_nothing (need_of what) bytes second.line second.kind second.bad first.good)
few_once laws what bytes a b (inr first) (inr second) =
    job_once laws what bytes second.form a b (record { good = second.good; says = second.says }) (subst (λ (f : FileForm). JobAnswer what f a) (laws.one_form (need_of what) bytes first.form second.form first.says second.says) first.right) second.right

file_once : (laws : Laws) (what : Task) (bytes : List ℕ) (long : Bool) (a b : Answer) → MatchBool long (a ≡ long_answer) (ShortAnswer what bytes a) → MatchBool long (b ≡ long_answer) (ShortAnswer what bytes b) → a ≡ b
file_once laws what bytes true a b first second = first ∙ sym second
file_once laws what bytes false a b first second = few_once laws what bytes a b first second

request_once : (laws : Laws) (request : Option Request) (words : List (List ℕ)) (files : Files) (a b : Answer) → RequestAnswer request words files a → RequestAnswer request words files b → a ≡ b
request_once laws None words files a b first second = first.2 ∙ ap words_answer (one_bad_place words first.0 second.0 first.1 second.1) ∙ sym second.2
request_once laws (Some wish) words files a b first second = file_once laws (task_of wish) (bytes_of wish files) (nat_lt most_bytes (length (bytes_of wish files))) a b first second

pub one_run : (laws : Laws) (words : List (List ℕ)) (files : Files) (a b : Answer) → RunAnswer words files a → RunAnswer words files b → a ≡ b
one_run laws words files a b first second = request_once laws (asked words) words files a b first second
