-- What is told of a job's outputs as functions is the answer of its file.
use Rattle.std.proofs.Common.{◌≡◌, ℕ, zero, suc, ◌+◌, ◌-◌, ◌*◌, ◌<◌, ◌≤◌, Bool, true, false, cond, List, [], ◌∷◌, ◌++◌, append_assoc, length, map, drop, drop-cons, add-one, Option, Some, Result, Ok, Err, refl, sym, ◌∙◌, ap, subst, arith}
use Rattle.std.specs.Prelude.{IfOk, codes, count_by, slice_get, take}
use Rattle.std.specs.Fmt.{decimal}
use Rattle.std.proofs.lemmas.List.Folds.{fold-map}
use Rattle.std.proofs.lemmas.Option.{get_or_from_slice_get, slice_get_within}
use Rattle.ratfun_text.specs.Printed.{AreVariables}
use Rattle.graph_file.specs.Says.{FileForm, grid_of}
use Rattle.graph_file.specs.Sound.{IsGraph, IsJob}
use Rattle.graph_file.specs.declared.graph.Graph.{Graph}
use Rattle.graph_file.specs.declared.job.Need.{Need}
use Rattle.graph_file.specs.declared.job.Need.TheVariants.{Functions}
use Rattle.graph_eval.specs.GraphValue.{main_number}
use Rattle.graph_eval.specs.Learned.{outputs_of}
use Rattle.graph_eval.specs.declared.learned.GraphLearned.{GraphLearned}
use Rattle.ray_grid.specs.Grid.{point_count}
use Rattle.learn_phase.specs.Answers.{FitsJob, Tells}
use Rattle.output_result.specs.Methods.{report_of}
use Rattle.output_result.specs.Printing.{AreShown, IsShown}
use Rattle.output_result.specs.Results.{Result as OneResult}
use Rattle.output_result.specs.Texts.{Report, is_found, lines_from, report_text, result_line, results_text}
use Rattle.output_result.specs.declared.finding.Told.{Told}
use Rattle.reconstruction.specs.Form.{functions_of}
use Rattle.reconstruction.specs.Found.{FitsFindings, report_at, reports_in, result_told}
use Rattle.reconstruction.specs.Functions.{AreReported, Findings, Functions as Asked, Reconstructs}
use Rattle.reconstruction.proofs.Sampled.{small_outputs}
use Rattle.flow_program.specs.declared.reply.Reply.{Reply}
use Rattle.flow_program.specs.declared.task.Task.{Task}
use Rattle.flow_program.specs.declared.task.Task.TheVariants as task
use Rattle.flow_program.specs.Demo.{ended_lines}
use Rattle.flow_program.specs.Jobs.{AreReports, JobAnswer, LearnedAnswer, TellsFindings}
use Rattle.flow_program.specs.Reconstructed.{Telling, demo_text, findings_answer, told_report, told_reports}
use Rattle.flow_program.specs.Reply.{answer_of}
use Rattle.flow_program.specs.Run.{ModuliArePrime}
use Rattle.flow_program.specs.Tasks.{need_of}
use Rattle.flow_program.proofs.DemoLaws.{four, two}
use Rattle.flow_program.proofs.JobLaws.{learned_job}

-- what stands at a place can be printed where all can
pub shown_one : (names : List (List ℕ)) (outputs : List Told) (k : ℕ) (told : Told) → AreShown names (map result_told outputs) → slice_get outputs k ≡ Some told → IsShown names (result_told told)
shown_one names [] k told shown at = cc
shown_one names (first ∷ outputs) zero told shown at = let same : first ≡ told = cc in subst (λ (t : Told). IsShown names (result_told t)) same shown.0
shown_one names (first ∷ outputs) (suc k) told shown at = shown_one names outputs k told shown.1 at

-- the report of the output at a place is that of how it was found
pub reported_at : (asked : Bool) (outputs : List Told) (k : ℕ) (told : Told) → slice_get outputs k ≡ Some told → told_reports asked (reports_in outputs) (k + 1) ≡ told_report asked (report_of told.methods)
reported_at true outputs k told at = let place : k + 1 - 1 ≡ k = omega arith in ap (λ n. report_at (slice_get outputs n)) place ∙ ap report_at at
reported_at false outputs k told at = refl

-- behind the text stand the lines of the outputs that are left, and the next is written
pub lines_more : (names : List (List ℕ)) (reports : ℕ → Report) (outputs : List Told) (k : ℕ) (told : Told) (report : Report) (text more all : List ℕ) → slice_get outputs k ≡ Some told → reports (k + 1) ≡ report
    → text ++ lines_from names reports (k + 1) (map result_told (drop k outputs)) ≡ all
    → more ≡ text ++ ((result_line names (k + 1) (result_told told) ++ report_text report (result_told told)) ++ 10 ∷ [])
    → more ++ lines_from names reports (k + 1 + 1) (map result_told (drop (k + 1) outputs)) ≡ all
lines_more names reports outputs k told report text more all at reported so_far joined =
    let tail : List ℕ = lines_from names reports (k + 1 + 1) (map result_told (drop (k + 1) outputs)) in
    let line : Report → List ℕ = λ r. result_line names (k + 1) (result_told told) ++ report_text r (result_told told) in
    let left : drop k outputs ≡ told ∷ drop (k + 1) outputs =
    drop-cons outputs k told (slice_get_within outputs k told at) ∙ ap (λ t. t ∷ drop (suc k) outputs) (get_or_from_slice_get outputs k told told at) ∙ ap (λ n. told ∷ drop n outputs) (sym (add-one k)) in
    ap (λ (t : List ℕ). t ++ tail) joined
    ∙ append_assoc text (line report ++ 10 ∷ []) tail
    ∙ ap (λ (t : List ℕ). text ++ t) (append_assoc (line report) (10 ∷ []) tail)
    ∙ ap (λ (r : Report). text ++ (line r ++ 10 ∷ tail)) (sym reported)
    ∙ ap (λ (rest : List Told). text ++ lines_from names reports (k + 1) (map result_told rest)) (sym left)
    ∙ so_far

-- the names of a job's main graph are names of variables
pub job_names : (graphs : List Graph) (points : List (List ℕ)) (graph : Graph) → IsJob graphs points → slice_get graphs (main_number graphs) ≡ Some graph → AreVariables graph.inputs
job_names graphs points graph job at =
    let is : IsGraph graph = job.graph (main_number graphs) graph at in
    record { some = is.some; few = is.few; named = is.variables.named; distinct = is.variables.distinct }

-- there are few outputs
pub few_found : (need : Need) (form : FileForm) (learned : List GraphLearned) (findings : Findings) → need ≡ Functions → FitsJob need form (Ok learned) → FitsFindings (outputs_of learned) findings
    → (outputs : ℕ) × (outputs ≤ 1048576) × FitsFindings outputs findings
few_found need form learned findings is fits found =
    let meets : FitsJob Functions form (Ok learned) = subst (λ (n : Need). FitsJob n form (Ok learned)) is fits in
    (outputs_of learned, small_outputs (grid_of form) (outputs_of learned) meets.1.0, found)

-- reports are told where they are asked for
asked_reports : (asked : Bool) (job : Asked) (findings : Findings) (reports : ℕ → Report) → AreReported job findings reports → AreReports asked job findings (told_reports asked reports)
asked_reports true job findings reports are = are
asked_reports false job findings reports are = refl

-- the reply that tells what is found answers the file
pub told_functions : {E : Type 0} (asked : Bool) (telling : Telling) (result : Result Reply E) (form : FileForm) (learned : List GraphLearned) (graph : Graph) (findings : Findings) (reports : ℕ → Report)
    → slice_get form.graphs (main_number form.graphs) ≡ Some graph → (ModuliArePrime → Reconstructs (functions_of form learned) findings) → (ModuliArePrime → AreReported (functions_of form learned) findings reports)
    → IfOk result (λ reply. answer_of reply ≡ findings_answer telling (Some graph) (told_reports asked reports) findings) → IfOk result (λ reply. ModuliArePrime → TellsFindings asked telling form learned (answer_of reply))
told_functions asked telling (Ok reply) form learned graph findings reports at are reported told = λ prime. record {
  findings = findings;
  are = are prime;
  reports = told_reports asked reports;
  are_reports = asked_reports asked (functions_of form learned) findings reports (reported prime);
  told = told ∙ ap (λ (g : Option Graph). findings_answer telling g (told_reports asked reports) findings) (sym at);
}
told_functions asked telling (Err error) form learned graph findings reports at are reported told = tt

-- the reply to what was learned answers the job
pub learned_reply : {E : Type 0} (result : Result Reply E) (what : Task) (form : FileForm) (need : Need) (learned : List GraphLearned) → need ≡ need_of what → (ModuliArePrime → Tells need form (Ok learned))
    → IfOk result (λ reply. ModuliArePrime → LearnedAnswer what form learned (answer_of reply)) → IfOk result (λ reply. ModuliArePrime → JobAnswer what form (answer_of reply))
learned_reply (Ok reply) what form need learned read learns right = λ prime. learned_job what form need learned (answer_of reply) read (learns prime) (right prime)
learned_reply (Err error) what form need learned read learns right = tt

-- the demo is told with its own size, and with as many points as an attempt has
pub told_demo : {E : Type 0} (result : Result Reply E) (n size points : ℕ) (form : FileForm) (learned : List GraphLearned) → size ≡ n → points ≡ point_count (grid_of form)
    → IfOk result (λ reply. ModuliArePrime → TellsFindings false (demo_text size points) form learned (answer_of reply)) → IfOk result (λ reply. ModuliArePrime → LearnedAnswer (task.Demo n) form learned (answer_of reply))
told_demo (Ok reply) n size points form learned same count told = λ prime. subst (λ k. TellsFindings false (demo_text k (point_count (grid_of form))) form learned (answer_of reply)) same (subst (λ k. TellsFindings false (demo_text size k) form learned (answer_of reply)) count (told prime))
told_demo (Err error) n size points form learned same count told = tt

-- counting what is found of findings counts the findings of which it is so
pub count_by-map : {X Y : Type 0} (p : Y → Bool) (f : X → Y) (xs : List X) → count_by (λ x. p (f x)) xs ≡ count_by p (map f xs)
count_by-map p f xs = sym (fold-map (λ a y. a + cond (p y) 1 0) f 0 xs)

-- four lines, and a text behind them
lines_joined : (a b c d tail : List ℕ) → (a ++ codes "\n") ++ ((b ++ codes "\n") ++ ((c ++ codes "\n") ++ ((d ++ codes "\n") ++ tail))) ≡ ended_lines (a ∷ b ∷ c ∷ d ∷ []) ++ tail
lines_joined a b c d tail =
    let nl = codes "\n" in
    sym (append_assoc (a ++ nl) (ended_lines (b ∷ c ∷ d ∷ [])) tail
    ∙ ap (λ (t : List ℕ). (a ++ nl) ++ t) (append_assoc (b ++ nl) (ended_lines (c ∷ d ∷ [])) tail
    ∙ ap (λ (t : List ℕ). (b ++ nl) ++ t) (append_assoc (c ++ nl) (ended_lines (d ∷ [])) tail
    ∙ ap (λ (t : List ℕ). (c ++ nl) ++ t) (append_assoc (d ++ nl) [] tail))))

-- the text of the demo is written line by line
pub text_written : (n points : ℕ) (names : List (List ℕ)) (reports : ℕ → Report) (results : List OneResult) (s t u v w x : List ℕ) → s ≡ [] → t ≡ s ++ (codes "demo " ++ decimal n ++ codes "\n") → u ≡ t ++ (codes "points " ++ decimal points ++ codes "\n")
    → v ≡ u ++ (codes "outputs " ++ decimal (length results) ++ codes "\n") → w ≡ v ++ (codes "found " ++ decimal (count_by is_found results) ++ codes "\n") → x ≡ w ++ results_text names reports (take 1 results) → x ≡ demo_text n points names reports results
text_written n points names reports results s t u v w x none first second third fourth fifth =
    let a = codes "demo " ++ decimal n in
    let b = codes "points " ++ decimal points in
    let c = codes "outputs " ++ decimal (length results) in
    let d = codes "found " ++ decimal (count_by is_found results) in
    let tail = results_text names reports (take 1 results) in
    two s (a ++ codes "\n") ((b ++ codes "\n") ++ ((c ++ codes "\n") ++ ((d ++ codes "\n") ++ tail))) t x first (four t (b ++ codes "\n") (c ++ codes "\n") (d ++ codes "\n") tail u v w x second third fourth fifth)
    ∙ ap (λ (e : List ℕ). e ++ ((a ++ codes "\n") ++ ((b ++ codes "\n") ++ ((c ++ codes "\n") ++ ((d ++ codes "\n") ++ tail))))) none
    ∙ lines_joined a b c d tail
