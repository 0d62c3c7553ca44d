-- A file whose output is the variable of its graph, and what a run exhibits that prints a function.
use Rattle.std.specs.Prelude.{◌≡◌, ℕ, ◌<◌, List, [], ◌∷◌, Some, codes}
use Rattle.prime_field.specs.declared.Modulus.{Modulus}
use Rattle.poly_maps.specs.Quotient.{RationalPair}
use Rattle.graph_file.specs.Says.{FileForm}
use Rattle.graph_eval.specs.declared.learned.GraphLearned.{GraphLearned}
use Rattle.good_attempt.specs.Attempts.{Taken}
use Rattle.output_result.specs.Outputs.{ReducesWellAt}
use Rattle.reconstruction.specs.Form.{functions_of}
use Rattle.reconstruction.specs.Functions.{AreTaken, IsOutput, output_of}
use Rattle.reconstruction.specs.Headline.{Prints}
use Rattle.flow_program.specs.Answer.{Answer}
use Rattle.flow_program.specs.Jobs.{IsLearned}
use Rattle.flow_program.specs.Outside.{AsksFunctions}
use Rattle.flow_program.specs.Run.{Files, RunAnswer, bytes_of}
use Rattle.flow_program.specs.Tasks.{task_of}
use Rattle.flow_program.specs.Words.{Request, asked}

-- to reconstruct the functions of one file
abbrev pub example_words : List (List ℕ)
example_words = codes "reconstruct" ∷ codes "one.flow" ∷ []

-- the file: its graph gives its one variable, of degree 1
abbrev pub example_file : List ℕ
example_file = codes "flow 1\ngraph main\ninput x\noutput input\nbounds all num 1 den 0\n"

-- it stands under each name
abbrev pub example_files : Files
example_files = λ name. example_file

-- what a run on it writes to out
abbrev pub example_text : List ℕ
example_text = codes "f1 = x\n"

-- On these words and files the right answer has status 0 and prints a function, of which all is so that the headline supposes:
-- functions are asked for, the graphs of the file are learned, both moduli have a good attempt, and the output at a place is
-- this quotient within its bounds, which reduces well.
pub record Exhibits (words : List (List ℕ)) (files : Files) : Type 0 where
  pub answer : Answer
  pub right : RunAnswer words files answer
  pub ends : answer.status ≡ 0
  pub wish : Request
  pub asks : asked words ≡ Some wish
  pub functions : AsksFunctions wish
  pub form : FileForm
  pub learned : List GraphLearned
  pub is_learned : IsLearned (task_of wish) (bytes_of wish files) form learned
  pub taken : Modulus → Taken
  pub are_taken : AreTaken (functions_of form learned) taken
  pub place : ℕ
  pub there : place < (functions_of form learned).outputs
  pub F : RationalPair
  pub quotient : IsOutput (functions_of form learned) taken place F
  pub reduces : ReducesWellAt (output_of (functions_of form learned) taken place) F
  pub printed : Prints (functions_of form learned) answer.out place F
