-- What evaluating a node or a graph answers.
use Rattle.std.specs.Prelude.{◌≡◌, ℕ, ◌<◌, All, IsTrue, List, Option, Some, None, Result, Ok, Err, length, slice_get}
use Rattle.graph_file.specs.declared.graph.Graph.{Graph}
use Rattle.graph_file.specs.declared.graph.Node.{Node}
use Rattle.graph_eval.specs.declared.outcome.Cause.{Cause}
use Rattle.graph_eval.specs.declared.outcome.Singular.{Singular}
use Rattle.graph_eval.specs.declared.outcome.Outcome as code
use Rattle.graph_eval.specs.declared.outcome.Outcome.TheVariants as answer
use Rattle.graph_eval.specs.GraphValue.{Meaning, Outcome, Value, SingularAt}

-- the outcome that the program's answer stands for, where these values were written
abbrev pub outcome_of : List ℕ → code.Outcome → Outcome
outcome_of values answer.Defined = Value values
outcome_of values (answer.Singular singular) = SingularAt singular.node singular.cause

-- the cause alone
abbrev pub cause_told : Result (Unit {0}) Singular → Result (Unit {0}) Cause
cause_told (Ok done) = Ok done
cause_told (Err singular) = Err singular.cause

-- no graph means anything
abbrev pub no_graphs : ℕ → Meaning
no_graphs number = λ inputs outcome. ⊥

-- the point has an entry for each variable of the graph
abbrev pub HasInputs : Option Graph → List ℕ → Type 0
HasInputs None point = ⊥
HasInputs (Some graph) point = length point ≡ length graph.inputs

-- the graph has a node with this number, and it is needed
abbrev pub IsNeededNode : Graph → ℕ → Type 0
IsNeededNode graph n = (node : Node) × (slice_get graph.nodes n ≡ Some node) × IsTrue node.needed

-- the same of a graph of a file
abbrev pub IsNeededAt : Option Graph → ℕ → Type 0
IsNeededAt None n = ⊥
IsNeededAt (Some graph) n = IsNeededNode graph n

-- whatever the modulus: the values that were written are residues, or the node that is told is needed
abbrev pub FitsOutcome : ℕ → Option Graph → List ℕ → code.Outcome → Type 0
FitsOutcome m None values outcome = ⊥
FitsOutcome m (Some graph) values answer.Defined = All (λ x. x < m) values
FitsOutcome m (Some graph) values (answer.Singular singular) = IsNeededNode graph singular.node
