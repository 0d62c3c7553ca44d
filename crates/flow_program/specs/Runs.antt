-- What a run does: how it may end, and what then stands on out and err.
use Rattle.std.specs.Prelude.{◌≡◌, ℕ, ◌≤◌, List, Some, None, ◌⊎◌, ◌↔◌, codes}
use Rattle.prime_field.specs.declared.Modulus.{Modulus}
use Rattle.good_attempt.specs.Attempts.{Taken}
use Rattle.reconstruction.specs.Functions.{AllReduceWell, AreTaken}
use Rattle.reconstruction.specs.Headline.{PrintedTaken, PrintedUnique, QuotientPrinted}
use Rattle.flow_program.specs.First.{FirstUnique}
use Rattle.flow_program.specs.declared.status.Status.{Status}
use Rattle.flow_program.specs.declared.status.Status.TheVariants as status
use Rattle.flow_program.specs.declared.words.WordsError.{WordsError}
use Rattle.flow_program.specs.declared.words.WordsError.TheVariants as error
use Rattle.flow_program.specs.Status.{code_of}
use Rattle.flow_program.specs.Words.{Request, asked}
use Rattle.flow_program.specs.Run.{ModuliArePrime, words_answer}
use Rattle.flow_program.specs.Outside.{AsksDemo, AsksFunctions, AsksLines, AsksNoFunctions, Outside, BreaksOff, FileRose, IsLearnable, NoDeviceFailed, SinkRose, Tells, TellsOnly, Wrote, functions_in, told_of}

-- on these words a run may lead from one state of the devices to another, and end so
pub record Runs (words : List (List ℕ)) (before after : Outside) (end : Status) : Type 0 where
  -- With a status up to 5 the run told the answer of its words and of the bytes under the file that they name: where both
  -- moduli are prime; and whatever they are, where the words ask for nothing or the bytes are no job, which status 3 tells.
  pub answers : code_of end ≤ 5 → Tells words (code_of end) before after
  -- Where no device failed, only memory may have been wanting.
  pub completes : NoDeviceFailed words before after → (code_of end ≤ 5) ⊎ (end ≡ status.NoMemory)
  -- Where both moduli are prime, the file that is asked for is a job whose graphs are all learned, and no device failed, a
  -- file that is sampled or learned ends well, or only memory was wanting.
  pub learned : ModuliArePrime → (file : IsLearnable words before.shelf) → AsksNoFunctions file.wish → NoDeviceFailed words before after →
      (end ≡ status.Done) ⊎ (end ≡ status.NoMemory)
  -- One whose outputs are reconstructed, and that has a good attempt at both moduli, ends with its results, or only memory was
  -- wanting.
  pub attempted : ModuliArePrime → (file : IsLearnable words before.shelf) → AsksFunctions file.wish → NoDeviceFailed words before after →
      (taken : Modulus → Taken) → AreTaken (functions_in words before.shelf file) taken →
      (end ≡ status.Done) ⊎ ((end ≡ status.Unfound) ⊎ (end ≡ status.NoMemory))
  -- It ends well where each output is a quotient within its bounds that reduces well.
  pub found : ModuliArePrime → (file : IsLearnable words before.shelf) → AsksFunctions file.wish → NoDeviceFailed words before after →
      (taken : Modulus → Taken) → AreTaken (functions_in words before.shelf file) taken → AllReduceWell (functions_in words before.shelf file) taken →
      (end ≡ status.Done) ⊎ (end ≡ status.NoMemory)
  -- Where both moduli are prime, a line for each function is asked for and the run tells results: an output that is a quotient within the
  -- bounds and reduces well is printed as that quotient.
  pub quotients : ModuliArePrime → (file : IsLearnable words before.shelf) → AsksLines file.wish → code_of end ≤ 1 →
      (text : List ℕ) → Wrote before.out after.out text → QuotientPrinted (functions_in words before.shelf file) text
  -- And every pair within the bounds that has the samples of a printed function equals it modulo each.
  pub unique : ModuliArePrime → (file : IsLearnable words before.shelf) → AsksLines file.wish → code_of end ≤ 1 →
      (text : List ℕ) → Wrote before.out after.out text → PrintedUnique (functions_in words before.shelf file) text
  -- A printed function has samples: both moduli have a good attempt.
  pub taken : ModuliArePrime → (file : IsLearnable words before.shelf) → AsksLines file.wish → code_of end ≤ 1 →
      (text : List ℕ) → Wrote before.out after.out text → PrintedTaken (functions_in words before.shelf file) text
  -- So it is with the one function that the demo prints.
  pub first : ModuliArePrime → (file : IsLearnable words before.shelf) → AsksDemo file.wish → code_of end ≤ 1 →
      (text : List ℕ) → Wrote before.out after.out text → FirstUnique (functions_in words before.shelf file) text
  -- Where nothing stands under the file that is asked for, there is no answer.
  pub missing : (wish : Request) → asked words ≡ Some wish → told_of wish before.shelf ≡ Some None → 6 ≤ code_of end
  -- Up to 5, status 2 comes exactly with words that ask for nothing.
  pub bad_words : code_of end ≤ 5 → (end ≡ status.BadWords) ↔ (asked words ≡ None)
  -- Status 6 comes only where the file's count rose; out gets nothing.
  pub read_fault : end ≡ status.ReadFault → FileRose (asked words) before.shelf after.shelf × TellsOnly (codes "flow: read fault\n") before after
  -- Status 7 comes only where a sink's count rose, with fronts of what was to be told: of the answer, right under the same
  -- premise, or of the text of status 6 or 8.
  pub write_fault : end ≡ status.WriteFault → SinkRose before after × BreaksOff words before after
  -- Status 8 leaves nothing on out.
  pub no_memory : end ≡ status.NoMemory → TellsOnly (codes "flow: no memory\n") before after

-- what is told where there are no words to run on: the place of the bad one, or that memory was wanting
abbrev pub no_words_text : WordsError → List ℕ
no_words_text (error.Bad k) = (words_answer k).err
no_words_text error.NoMemory = codes "flow: no memory\n"
