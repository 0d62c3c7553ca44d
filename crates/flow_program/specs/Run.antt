-- What a run answers: a relation of the words, the bytes under the names that they have it read, and the answer.
use Rattle.std.specs.Prelude.{◌≡◌, ℕ, List, ◌++◌, Option, Some, None, ◌⊎◌, codes}
use Rattle.std.specs.Fmt.{decimal}
use Rattle.prime_field.specs.Modulus.{value_of}
use Rattle.prime_field.specs.Residue.{IsPrime}
use Rattle.prime_field.specs.declared.Modulus.TheVariants.{First, Second}
use Rattle.flow_program.specs.Words.{Request, Sample, Learn, Reconstruct, Demo, asked, IsBadAt}
use Rattle.flow_program.specs.Answer.{Answer, refusal}
use Rattle.flow_program.specs.Demo.{demo_bytes}
use Rattle.flow_program.specs.Jobs.{FileAnswer, IsNoJob}
use Rattle.flow_program.specs.Tasks.{task_of}

-- both moduli are prime
pub record ModuliArePrime : Type 0 where
  pub first : IsPrime (value_of First)
  pub second : IsPrime (value_of Second)

-- the bytes under each name
abbrev pub Files : Type 0
Files = List ℕ → List ℕ

-- the bytes that a request works on: those under the name of its file, or those of the demo
abbrev pub bytes_of : Request → Files → List ℕ
bytes_of (Sample file _ second) files = files file
bytes_of (Learn file) files = files file
bytes_of (Reconstruct file _ report) files = files file
bytes_of (Demo n _) files = demo_bytes n

-- something is asked for, and the bytes are no job for that
abbrev pub IsBadFile : Option Request → Files → Type 0
IsBadFile None files = ⊥
IsBadFile (Some wish) files = IsNoJob (task_of wish) (bytes_of wish files)

-- What is supposed of these words and files where an answer is said to be right: that both moduli are prime; or nothing, where
-- the words ask for nothing or the bytes are no job.
abbrev pub Premise : List (List ℕ) → Files → Type 0
Premise words files = ModuliArePrime ⊎ ((asked words ≡ None) ⊎ IsBadFile (asked words) files)

-- the answer to words that go wrong at the k-th
abbrev pub words_answer : ℕ → Answer
words_answer k = refusal 2 (codes "flow: bad words at " ++ decimal k ++ codes "\n")

-- the answer of what is asked for, on these words and files
abbrev pub RequestAnswer : Option Request → List (List ℕ) → Files → Answer → Type 0
RequestAnswer None words files answer = (k : ℕ) × IsBadAt words k × (answer ≡ words_answer k)
RequestAnswer (Some wish) words files answer = FileAnswer (task_of wish) (bytes_of wish files) answer

abbrev pub RunAnswer : List (List ℕ) → Files → Answer → Type 0
RunAnswer words files answer = RequestAnswer (asked words) words files answer
