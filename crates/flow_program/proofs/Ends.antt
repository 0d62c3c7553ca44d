-- How a run may end: with what it told, or with a fault.
use Rattle.std.proofs.Common.{◌≡◌, ℕ, ◌+◌, ◌<◌, ◌≤◌, Bool, true, false, List, [], ◌++◌, length, Option, Some, None, refl, sym, ◌∙◌, ap, subst, arith, inl, inr, cond, append-nil, lit≤}
use Rattle.std.specs.Prelude.{◌⊎◌, ◌↔◌, codes, slice_get}
use Rattle.std.specs.Io.KnownBytes.{Appends}
use Rattle.std.proofs.lemmas.List.{append_cancel_left}
use Rattle.prime_field.specs.Modulus.{value_of}
use Rattle.prime_field.specs.Residue.{IsPrime}
use Rattle.prime_field.specs.declared.Modulus.{Modulus}
use Rattle.prime_field.specs.declared.Modulus.TheVariants.{First, Second}
use Rattle.flow_base.specs.Shelf.{ShelfView}
use Rattle.flow_base.specs.Counts.{Rose}
use Rattle.flow_base.specs.Sink.{Adds, AddsFront, SinkView}
use Rattle.graph_file.specs.Says.{FileForm, grid_of}
use Rattle.graph_eval.specs.GraphValue.{main_number}
use Rattle.graph_eval.specs.declared.learned.GraphLearned.{GraphLearned}
use Rattle.good_attempt.specs.Attempts.{Taken}
use Rattle.good_attempt.specs.declared.gap.Gap.{Gap}
use Rattle.ray_grid.specs.Grid.{point_count}
use Rattle.poly_maps.specs.Pair.{CrossEqual}
use Rattle.output_result.specs.Results.{Result}
use Rattle.output_result.specs.Printing.{PrintsFunction}
use Rattle.output_result.specs.Texts.{Report, all_found, results_text}
use Rattle.reconstruction.specs.Form.{IsAsked, functions_of}
use Rattle.reconstruction.specs.Functions.{AllReduceWell, AreTaken, Exhausted, Findings, Found, Functions, Reconstructs}
use Rattle.reconstruction.specs.Headline.{PrintedTaken, PrintedUnique, QuotientPrinted}
use Rattle.flow_program.specs.declared.status.Status.{Status}
use Rattle.flow_program.specs.declared.status.Status.TheVariants.{Done, Unfound, BadWords, BadFile, NotLearned, Exhausted as NoAttempt, ReadFault, WriteFault, NoMemory}
use Rattle.flow_program.specs.declared.task.Task.TheVariants as task
use Rattle.flow_program.specs.Answer.{Answer}
use Rattle.flow_program.specs.Jobs.{IsLearned, LearnedAnswer}
use Rattle.flow_program.specs.Outside.{AllMayStand, AsksDemo, AsksFunctions, AsksLines, AsksNoFunctions, BreaksOff, FileRose, IsLearnable, IsRightAnswer, MayStand, MayStandAsked, NoDeviceFailed, Outside, SinkRose, Tells, TellsOnly, Wrote, functions_in, outside, told_of}
use Rattle.flow_program.specs.Reconstructed.{Telling, demo_text, findings_answer}
use Rattle.flow_program.specs.Run.{ModuliArePrime, bytes_of}
use Rattle.flow_program.specs.Runs.{Runs}
use Rattle.flow_program.specs.Status.{code_of}
use Rattle.flow_program.specs.Tasks.{task_of}
use Rattle.flow_program.specs.Words.{Request, Sample, Learn, Reconstruct, Demo, asked, names_read}
use Rattle.flow_program.specs.First.{FirstUnique}
use Rattle.flow_program.proofs.FirstLaws.{first_printed}
use Rattle.flow_program.proofs.RunLaws.{works_on_read}

-- the laws of functions that are reconstructed and printed
pub record FunctionLaws : Type 0 where
  pub taken : (bytes : List ℕ) (form : FileForm) (learned : List GraphLearned) (taken : Modulus → Taken) (m : Modulus) (gaps : List Gap) → IsAsked bytes form learned → AreTaken (functions_of form learned) taken
      → Reconstructs (functions_of form learned) (Exhausted m gaps) → ⊥
  pub quotients : (bytes : List ℕ) (form : FileForm) (learned : List GraphLearned) (reports : ℕ → Report) (results : List Result) → ((m : Modulus) → IsPrime (value_of m)) → IsAsked bytes form learned
      → Reconstructs (functions_of form learned) (Found results) → QuotientPrinted (functions_of form learned) (results_text (functions_of form learned).names reports results)
  pub unique : (bytes : List ℕ) (form : FileForm) (learned : List GraphLearned) (reports : ℕ → Report) (results : List Result) → IsAsked bytes form learned → Reconstructs (functions_of form learned) (Found results)
      → PrintedUnique (functions_of form learned) (results_text (functions_of form learned).names reports results)
  pub attempts : (bytes : List ℕ) (form : FileForm) (learned : List GraphLearned) (reports : ℕ → Report) (results : List Result) → IsAsked bytes form learned → Reconstructs (functions_of form learned) (Found results)
      → PrintedTaken (functions_of form learned) (results_text (functions_of form learned).names reports results)
  pub found : (bytes : List ℕ) (form : FileForm) (learned : List GraphLearned) (results : List Result) (taken : Modulus → Taken) → ((m : Modulus) → IsPrime (value_of m)) → IsAsked bytes form learned
      → Reconstructs (functions_of form learned) (Found results) → AreTaken (functions_of form learned) taken → AllReduceWell (functions_of form learned) taken → all_found results ≡ true

pub each_prime : ModuliArePrime → (m : Modulus) → IsPrime (value_of m)
each_prime prime First = prime.first
each_prime prime Second = prime.second

-- a file that is sampled or learned is answered with status 0
plain_status : (wish : Request) (form : FileForm) (learned : List GraphLearned) (answer : Answer) → AsksNoFunctions wish → LearnedAnswer (task_of wish) form learned answer → answer.status ≡ 0
plain_status (Sample file workers second) form learned answer asks right = ap (λ (a : Answer). a.status) right.2
plain_status (Learn file) form learned answer asks right = ap (λ (a : Answer). a.status) right
plain_status (Reconstruct file workers report) form learned answer asks right = absurd asks
plain_status (Demo n workers) form learned answer asks right = absurd asks

-- how functions are told where they are asked for
abbrev telling_in : Request → FileForm → Telling
telling_in (Sample file workers second) form = results_text
telling_in (Learn file) form = results_text
telling_in (Reconstruct file workers report) form = results_text
telling_in (Demo n workers) form = demo_text n (point_count (grid_of form))

-- a line for each is a way to ask for functions, and so is the demo
lines_ask : (wish : Request) → AsksLines wish → AsksFunctions wish
lines_ask (Sample file workers second) asks = absurd asks
lines_ask (Learn file) asks = absurd asks
lines_ask (Reconstruct file workers report) asks = tt
lines_ask (Demo n workers) asks = absurd asks

lines_tell : (wish : Request) (form : FileForm) → AsksLines wish → telling_in wish form ≡ results_text
lines_tell (Sample file workers second) form asks = refl
lines_tell (Learn file) form asks = refl
lines_tell (Reconstruct file workers report) form asks = refl
lines_tell (Demo n workers) form asks = absurd asks

demo_asks : (wish : Request) → AsksDemo wish → AsksFunctions wish
demo_asks (Sample file workers second) asks = absurd asks
demo_asks (Learn file) asks = absurd asks
demo_asks (Reconstruct file workers report) asks = absurd asks
demo_asks (Demo n workers) asks = tt

demo_tells : (wish : Request) (form : FileForm) → AsksDemo wish → (n : ℕ) × (telling_in wish form ≡ demo_text n (point_count (grid_of form)))
demo_tells (Sample file workers second) form asks = absurd asks
demo_tells (Learn file) form asks = absurd asks
demo_tells (Reconstruct file workers report) form asks = absurd asks
demo_tells (Demo n workers) form asks = (n, refl)

-- the answer tells what is found of a file's outputs as functions
pub record TellsFunctions (telling : Telling) (bytes : List ℕ) (form : FileForm) (learned : List GraphLearned) (answer : Answer) : Type 0 where
  pub asked : IsAsked bytes form learned
  pub findings : Findings
  pub are : Reconstructs (functions_of form learned) findings
  pub reports : ℕ → Report
  pub told : answer ≡ findings_answer telling (slice_get form.graphs (main_number form.graphs)) reports findings

functions_told : (wish : Request) (bytes : List ℕ) (form : FileForm) (learned : List GraphLearned) (answer : Answer) → AsksFunctions wish → IsLearned (task_of wish) bytes form learned → LearnedAnswer (task_of wish) form learned answer
    → TellsFunctions (telling_in wish form) bytes form learned answer
functions_told (Sample file workers second) bytes form learned answer asks is right = absurd asks
functions_told (Learn file) bytes form learned answer asks is right = absurd asks
functions_told (Reconstruct file workers report) bytes form learned answer asks is right = record {
  asked = record { good = is.good; says = is.says; room = is.learns.1.0 };
  findings = right.findings;
  are = right.are;
  reports = right.reports;
  told = right.told;
}
functions_told (Demo n workers) bytes form learned answer asks is right = record {
  asked = record { good = is.good; says = is.says; room = is.learns.1.0 };
  findings = right.findings;
  are = right.are;
  reports = right.reports;
  told = right.told;
}

-- results that are told, with their text and status
pub record TellsResults (telling : Telling) (form : FileForm) (learned : List GraphLearned) (answer : Answer) : Type 0 where
  pub results : List Result
  pub are : Reconstructs (functions_of form learned) (Found results)
  pub reports : ℕ → Report
  pub out : answer.out ≡ telling (functions_of form learned).names reports results
  pub status : answer.status ≡ cond (all_found results) 0 1

results_told : (telling : Telling) (form : FileForm) (learned : List GraphLearned) (answer : Answer) (reports : ℕ → Report) (findings : Findings) → Reconstructs (functions_of form learned) findings
    → answer ≡ findings_answer telling (slice_get form.graphs (main_number form.graphs)) reports findings → (answer.status ≡ 5 → ⊥) → TellsResults telling form learned answer
results_told telling form learned answer reports (Exhausted m gaps) are told some = absurd (some (ap (λ (a : Answer). a.status) told))
results_told telling form learned answer reports (Found results) are told some =
    record { results = results; are = are; reports = reports; out = ap (λ (a : Answer). a.out) told; status = ap (λ (a : Answer). a.status) told }

-- where both moduli have a good attempt, results are told
results_of_taken : FunctionLaws → (telling : Telling) (bytes : List ℕ) (form : FileForm) (learned : List GraphLearned) (answer : Answer) (taken : Modulus → Taken) (reports : ℕ → Report) (findings : Findings) → IsAsked bytes form learned → AreTaken (functions_of form learned) taken
    → Reconstructs (functions_of form learned) findings → answer ≡ findings_answer telling (slice_get form.graphs (main_number form.graphs)) reports findings → TellsResults telling form learned answer
results_of_taken laws telling bytes form learned answer taken reports (Exhausted m gaps) requested taken_are are told = absurd (laws.taken bytes form learned taken m gaps requested taken_are are)
results_of_taken laws telling bytes form learned answer taken reports (Found results) requested taken_are are told =
    record { results = results; are = are; reports = reports; out = ap (λ (a : Answer). a.out) told; status = ap (λ (a : Answer). a.status) told }

zero_or_one : (b : Bool) (n : ℕ) → n ≡ cond b 0 1 → (n ≡ 0) ⊎ (n ≡ 1)
zero_or_one true n is = inl is
zero_or_one false n is = inr is

done : (end : Status) → code_of end ≡ 0 → end ≡ Done
done Done is = refl
done Unfound is = cc
done BadWords is = cc
done BadFile is = cc
done NotLearned is = cc
done NoAttempt is = cc
done ReadFault is = cc
done WriteFault is = cc
done NoMemory is = cc

unfound : (end : Status) → code_of end ≡ 1 → end ≡ Unfound
unfound Done is = cc
unfound Unfound is = refl
unfound BadWords is = cc
unfound BadFile is = cc
unfound NotLearned is = cc
unfound NoAttempt is = cc
unfound ReadFault is = cc
unfound WriteFault is = cc
unfound NoMemory is = cc

-- what was written is what was added
wrote_added : (old new : SinkView) (text out : List ℕ) → Wrote old new text → Adds old new out → text ≡ out
wrote_added old new text out wrote adds =
    let before : Appends (Some wrote.before) new.held out = subst (λ (h : Option (List ℕ)). Appends h new.held out) wrote.was adds.held in
    let same : wrote.before ++ text ≡ wrote.before ++ out = subst (λ (h : Option (List ℕ)). Appends (Some wrote.before) h out) wrote.is before in
    append_cancel_left wrote.before text out same

-- where nothing stands under the file that is asked for there is no right answer
pub nothing_stands : (words : List (List ℕ)) (shelf : ShelfView) (answer : Answer) (wish : Request) → IsRightAnswer words shelf answer → asked words ≡ Some wish → told_of wish shelf ≡ Some None → ⊥
nothing_stands words shelf answer wish right asks none =
    let stood : AllMayStand shelf right.files (names_read wish) = subst (λ (r : Option Request). MayStandAsked r shelf right.files) asks right.stood in
    subst (λ (told : Option (Option (List ℕ))). MayStand told (bytes_of wish right.files)) none (works_on_read wish shelf right.files stood)

-- a run that told its answer, which is that of what was learned of a file whose graphs are learned
pub told_runs : FunctionLaws → (words : List (List ℕ)) (before after : Outside) (end : Status) (answer : Answer) → code_of end ≤ 5 → Tells words (code_of end) before after → code_of end ≡ answer.status → Adds before.out after.out answer.out
    → (ModuliArePrime → (file : IsLearnable words before.shelf) → LearnedAnswer (task_of file.wish) file.form file.learned answer) → (end ≡ BadWords) ↔ (asked words ≡ None)
    → ((wish : Request) → asked words ≡ Some wish → told_of wish before.shelf ≡ Some None → 6 ≤ code_of end) → Runs words before after end
told_runs laws words before after end answer low tells status out learned bad missing = record {
  answers = λ within. tells;
  completes = λ fine. inl low;
  learned = λ prime file asks fine. inl (done end (status ∙ plain_status file.wish file.form file.learned answer asks (learned prime file)));
  attempted = λ prime file asks fine taken are.
      let found = with_results prime file asks taken are in
      elim (zero_or_one (all_found found.results) answer.status found.status) [
        | inl zero ↦ inl (done end (status ∙ zero))
        | inr one ↦ inr (inl (unfound end (status ∙ one)))
      ];
  found = λ prime file asks fine taken are well.
      let found = with_results prime file asks taken are in
      let all : all_found found.results ≡ true = laws.found file.bytes file.form file.learned found.results taken (each_prime prime) (functions prime file asks).asked found.are are well in
      inl (done end (status ∙ found.status ∙ ap (λ b. cond b 0 1) all));
  quotients = λ prime file asks few text wrote.
      let found = with_lines prime file asks few in
      subst (QuotientPrinted (functions_in words before.shelf file)) (sym (wrote_added before.out after.out text answer.out wrote out ∙ found.out))
      (laws.quotients file.bytes file.form file.learned found.reports found.results (each_prime prime) (functions prime file (lines_ask file.wish asks)).asked found.are);
  unique = λ prime file asks few text wrote.
      let found = with_lines prime file asks few in
      subst (PrintedUnique (functions_in words before.shelf file)) (sym (wrote_added before.out after.out text answer.out wrote out ∙ found.out))
      (laws.unique file.bytes file.form file.learned found.reports found.results (functions prime file (lines_ask file.wish asks)).asked found.are);
  taken = λ prime file asks few text wrote.
      let found = with_lines prime file asks few in
      subst (PrintedTaken (functions_in words before.shelf file)) (sym (wrote_added before.out after.out text answer.out wrote out ∙ found.out))
      (laws.attempts file.bytes file.form file.learned found.reports found.results (functions prime file (lines_ask file.wish asks)).asked found.are);
  first = λ prime file asks few text wrote.
      let found = with_few prime file (demo_asks file.wish asks) few in
      let asked_for = (functions prime file (demo_asks file.wish asks)).asked in
      let tells = demo_tells file.wish file.form asks in
      let printed : text ≡ demo_text tells.0 (point_count (grid_of file.form)) (functions_of file.form file.learned).names found.reports found.results =
      wrote_added before.out after.out text answer.out wrote out ∙ found.out ∙ ap (λ (t : Telling). t (functions_of file.form file.learned).names found.reports found.results) tells.1 in
      λ taken F are prints. laws.unique file.bytes file.form file.learned found.reports found.results asked_for found.are taken 0 F are
      (first_printed tells.0 (point_count (grid_of file.form)) (functions_of file.form file.learned).names found.reports found.results F
      (subst (λ (t : List ℕ). PrintsFunction (functions_of file.form file.learned).names t 4 1 F) printed prints));
  missing = missing;
  bad_words = λ within. bad;
  read_fault = λ is. absurd (omega (arith, low, ap code_of is));
  write_fault = λ is. absurd (omega (arith, low, ap code_of is));
  no_memory = λ is. absurd (omega (arith, low, ap code_of is));
}
  where
    functions : ModuliArePrime → (file : IsLearnable words before.shelf) → AsksFunctions file.wish → TellsFunctions (telling_in file.wish file.form) file.bytes file.form file.learned answer
    functions prime file asks = functions_told file.wish file.bytes file.form file.learned answer asks file.is (learned prime file)

    with_few : ModuliArePrime → (file : IsLearnable words before.shelf) → AsksFunctions file.wish → code_of end ≤ 1 → TellsResults (telling_in file.wish file.form) file.form file.learned answer
    with_few prime file asks few =
        let told = functions prime file asks in
        results_told (telling_in file.wish file.form) file.form file.learned answer told.reports told.findings told.are told.told (λ five. omega (arith, few, status, five))

    with_lines : ModuliArePrime → (file : IsLearnable words before.shelf) → AsksLines file.wish → code_of end ≤ 1 → TellsResults results_text file.form file.learned answer
    with_lines prime file asks few = subst (λ (t : Telling). TellsResults t file.form file.learned answer) (lines_tell file.wish file.form asks) (with_few prime file (lines_ask file.wish asks) few)

    with_results : ModuliArePrime → (file : IsLearnable words before.shelf) → AsksFunctions file.wish → (taken : Modulus → Taken) → AreTaken (functions_of file.form file.learned) taken → TellsResults (telling_in file.wish file.form) file.form file.learned answer
    with_results prime file asks taken are =
        let told = functions prime file asks in
        results_of_taken laws (telling_in file.wish file.form) file.bytes file.form file.learned answer taken told.reports told.findings told.asked are told.are told.told

-- a run that ended with a fault of a device, or for want of memory
pub fault_runs : (words : List (List ℕ)) (before after : Outside) (end : Status) → 6 ≤ code_of end → (NoDeviceFailed words before after → end ≡ NoMemory)
    → (end ≡ ReadFault → FileRose (asked words) before.shelf after.shelf × TellsOnly (codes "flow: read fault\n") before after)
    → (end ≡ WriteFault → SinkRose before after × BreaksOff words before after)
    → (end ≡ NoMemory → TellsOnly (codes "flow: no memory\n") before after) → Runs words before after end
fault_runs words before after end high memory read write none = record {
  answers = λ within. absurd (omega (arith, high, within));
  completes = λ fine. inr (memory fine);
  learned = λ prime file asks fine. inr (memory fine);
  attempted = λ prime file asks fine taken are. inr (inr (memory fine));
  found = λ prime file asks fine taken are well. inr (memory fine);
  quotients = λ prime file asks few text wrote. absurd (omega (arith, high, few));
  unique = λ prime file asks few text wrote. absurd (omega (arith, high, few));
  first = λ prime file asks few text wrote. absurd (omega (arith, high, few));
  taken = λ prime file asks few text wrote. absurd (omega (arith, high, few));
  missing = λ wish asks stands. high;
  bad_words = λ within. absurd (omega (arith, high, within));
  read_fault = read;
  write_fault = write;
  no_memory = none;
}

-- nothing was added where nothing changed
nothing_added : (view : SinkView) → Adds view view []
nothing_added view = record { held = appended view.held; later = omega arith }
  where
    appended : (held : Option (List ℕ)) → Appends held held []
    appended None = tt
    appended (Some bytes) = sym (append-nil bytes)

fault_code : (end fault : Status) → 6 ≤ code_of fault → (end ≡ fault) ⊎ (end ≡ WriteFault) → 6 ≤ code_of end
fault_code end fault high (inl is) = subst (λ (s : Status). 6 ≤ code_of s) (sym is) high
fault_code end fault high (inr is) = subst (λ (s : Status). 6 ≤ code_of s) (sym is) (lit≤ tt)

not_memory : (end : Status) → (end ≡ ReadFault) ⊎ (end ≡ WriteFault) → end ≡ NoMemory → ⊥
not_memory end (inl is) none = let clash : ReadFault ≡ NoMemory = sym is ∙ none in cc
not_memory end (inr is) none = let clash : WriteFault ≡ NoMemory = sym is ∙ none in cc

-- a run whose file can't be read, which tells so or can't
pub read_faulted : (words : List (List ℕ)) (shelf later : ShelfView) (out err told : SinkView) (end : Status) → FileRose (asked words) shelf later → (end ≡ ReadFault) ⊎ (end ≡ WriteFault) → (end ≡ ReadFault → Adds err told (codes "flow: read fault\n"))
    → (end ≡ WriteFault → AddsFront err told (codes "flow: read fault\n")) → (end ≡ WriteFault → Rose err.faults told.faults) → Runs words (outside shelf out err) (outside later out told) end
read_faulted words shelf later out err told end rose either tells front failed =
    fault_runs words (outside shelf out err) (outside later out told) end (fault_code end ReadFault (lit≤ tt) either) (λ fine. absurd (fine (inl rose)))
    (λ is. (rose, record { out_told = nothing_added out; err_told = tells is }))
    (λ is. (inr (failed is), inr (inl (rose, record { out_told = nothing_added out; err_told = front is }))))
    (λ is. absurd (not_memory end either is))
