-- Evaluating a graph on a stack of words: its inputs are on top, and its output takes their place.
use Rattle.std.specs.Prelude.{◌≡◌, ℕ, ◌+◌, ◌*◌, ◌<◌, ◌≤◌, All, List, ◌++◌, length, take, drop, slice_get, Some}
use Rattle.word_region.specs.Board.{Board}
use Rattle.prime_field.specs.Residue.{IsPrime}
use Rattle.basic_nodes.specs.Plain.{chained}
use Rattle.graph_file.specs.declared.graph.Graph.{Graph}
use Rattle.graph_file.specs.declared.graph.Node.{Node}
use Rattle.graph_file.specs.declared.graph.NodeKind.{NodeKind}
use Rattle.graph_file.specs.declared.graph.Source.{Source}
use Rattle.graph_eval.specs.declared.expansion.Window.{Window}
use Rattle.graph_eval.specs.declared.learned.GraphLearned.{GraphLearned}
use Rattle.graph_eval.specs.Expanded.{orders_of}
use Rattle.graph_eval.specs.GraphValue.{GivesFirst, GraphValue, IsExpanded, Meaning, NodeGives, Value}
use Rattle.graph_eval.specs.Learned.{listed_length, sets_of, sizes_of}
use Rattle.graph_eval.specs.Needs.{extra_of, words_for}

-- the words from a place on are the graph's inputs, and there is room for what it needs
pub record IsReady (m : ℕ) (graphs : List Graph) (learned : List GraphLearned) (number base : ℕ) (board : Board) : Type 0 where
  pub inputs : (graph : Graph) → slice_get graphs number ≡ Some graph → length board.words ≡ base + length graph.inputs
  pub room : base + words_for graphs learned number ≤ board.size
  pub low : All (λ x. x < m) (drop base board.words)

-- the graph's output stands in place of its inputs, and the words before them as they were
pub record IsReplaced (m : ℕ) (graphs : List Graph) (learned : List GraphLearned) (number base : ℕ) (old new : Board) : Type 0 where
  pub values : List ℕ
  pub words : new.words ≡ take base old.words ++ values
  pub value : IsPrime m → GraphValue m graphs (sets_of learned) number (drop base old.words) (Value values)
  pub low : All (λ x. x < m) values
  pub long : (entry : GraphLearned) → slice_get learned number ≡ Some entry → length values ≡ entry.output

-- a node's list, of so many entries, stands behind the words that were there
pub record IsAdded (m : ℕ) (called : ℕ → Meaning) (set : List ℕ) (list : Source → List ℕ) (node : Node) (own : ℕ) (old new : List ℕ) : Type 0 where
  pub values : List ℕ
  pub words : new ≡ old ++ values
  pub gives : IsPrime m → NodeGives m called set list node values
  pub low : All (λ x. x < m) values
  pub long : length values ≡ own

-- a node that calls an earlier graph has a length by its rule, and there is room for its list and for what it wants beside it
pub record HasCallRoom (graphs : List Graph) (learned : List GraphLearned) (number : ℕ) (list : Source → List ℕ) (kind : NodeKind) (used size : ℕ) : Type 0 where
  pub set : List ℕ
  pub own : ℕ
  pub ruled : listed_length (sizes_of graphs (take number learned)) list set kind ≡ Some own
  pub room : used + own + extra_of (words_for graphs learned) learned kind ≤ size

-- an earlier graph's output at these inputs stands behind the words that were there
pub record IsCalled (m : ℕ) (graphs : List Graph) (learned : List GraphLearned) (called : ℕ) (inputs old new : List ℕ) : Type 0 where
  pub values : List ℕ
  pub words : new ≡ old ++ values
  pub value : IsPrime m → GraphValue m graphs (sets_of learned) called inputs (Value values)
  pub low : All (λ x. x < m) values
  pub long : (entry : GraphLearned) → slice_get learned called ≡ Some entry → length values ≡ entry.output

-- the expansions of an earlier graph's outputs stand behind the words that were there
pub record IsExpandedCall (m : ℕ) (graphs : List Graph) (learned : List GraphLearned) (called : ℕ) (window : Window) (rest old new : List ℕ) : Type 0 where
  pub values : List ℕ
  pub words : new ≡ old ++ values
  pub value : IsPrime m → IsExpanded m window (GraphValue m graphs (sets_of learned) called) rest values
  pub low : All (λ x. x < m) values
  pub long : (entry : GraphLearned) → slice_get learned called ≡ Some entry → length values ≡ entry.output * orders_of window

-- an earlier graph's outputs at each of the first so many inputs stand behind the words that were there
pub record AreCalled (m : ℕ) (graphs : List Graph) (learned : List GraphLearned) (called : ℕ) (ins : List (List ℕ)) (count : ℕ) (old new : List ℕ) : Type 0 where
  pub outs : List (List ℕ)
  pub many : length outs ≡ count
  pub words : new ≡ old ++ chained outs
  pub first : IsPrime m → GivesFirst (GraphValue m graphs (sets_of learned) called) ins outs
  pub low : All (All (λ x. x < m)) outs
  pub long : (entry : GraphLearned) → slice_get learned called ≡ Some entry → length (chained outs) ≡ count * entry.output
  pub even : (entry : GraphLearned) → slice_get learned called ≡ Some entry → All (λ out. length out ≡ entry.output) outs
