-- The answer that a reply stands for.
use Rattle.std.specs.Prelude.{List}
use Rattle.graph_file.specs.declared.graph.Graph.{Graph}
use Rattle.learn_phase.specs.declared.error.LearnError.{LearnError}
use Rattle.learn_phase.specs.declared.error.LearnError.TheVariants as error
use Rattle.flow_program.specs.declared.reply.Reply.{Reply}
use Rattle.flow_program.specs.Status.{code_of}
use Rattle.flow_program.specs.Answer.{Answer}
use Rattle.flow_program.specs.Jobs.{IsUnlearned}
use Rattle.flow_program.specs.Refusals.{length_text, no_point_text, told_list}

abbrev pub answer_of : Reply → Answer
answer_of reply = record { status = code_of reply.status; out = reply.out.items; err = reply.err.items }

-- the answer tells why these graphs can't be learned; want of memory has no answer
abbrev pub TellsWhy : List Graph → LearnError → Answer → Type 0
TellsWhy graphs (error.NoLearningPoint number first) answer = IsUnlearned graphs number (λ graph. no_point_text graph first) answer
TellsWhy graphs (error.Length number node) answer = IsUnlearned graphs number (λ graph. length_text graph (told_list graph.output node)) answer
TellsWhy graphs error.NoMemory answer = ⊥
