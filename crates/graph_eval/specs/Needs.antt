-- How many words the evaluation of a graph needs, and where its lists stand.
use Rattle.std.specs.Prelude.{◌≡◌, ℕ, zero, suc, ◌+◌, ◌*◌, ◌==◌, max, if◌then◌else◌, List, [], ◌∷◌, length, sum, slice_get, slice_index_or, Option, Some, None}
use Rattle.graph_file.specs.declared.graph.Graph.{Graph}
use Rattle.graph_file.specs.declared.graph.Node.{Node}
use Rattle.graph_file.specs.declared.graph.NodeKind.{NodeKind}
use Rattle.graph_file.specs.declared.graph.NodeKind.TheVariants.{Dense, Sparse, Call, Memo, Map, Laurent}
use Rattle.graph_eval.specs.declared.learned.GraphLearned.{GraphLearned}
use Rattle.graph_eval.specs.GraphValue.{main_number}
use Rattle.graph_eval.specs.Reading.{places_of}

-- how many entries the output of a graph has, as was learned
abbrev pub output_at : Option GraphLearned → ℕ
output_at None = 0
output_at (Some entry) = entry.output

-- how many words are wanted to expand so many outputs from their values at so many points: these values, and work for one
abbrev pub expansion_words : ℕ → ℕ → ℕ
expansion_words points outputs = points * outputs + 12 * (points + 2)

-- how many words a node of this kind wants beside its list, where the graphs before its own want so many
abbrev pub extra_of : (ℕ → ℕ) → List GraphLearned → NodeKind → ℕ
extra_of words learned (Dense from rows unknowns want) = (unknowns + 4) * (unknowns + 2)
extra_of words learned (Sparse from unknowns want rows) = (unknowns + 4) * (unknowns + 2)
extra_of words learned (Call graph parts) = words graph
extra_of words learned (Memo graph parts) = words graph
extra_of words learned (Map graph parts) = words graph
extra_of words learned (Laurent graph lo hi num den parts) = words graph + expansion_words (num + den + 3) (output_at (slice_get learned graph))
extra_of words learned kind = 0

-- the same, where a node that isn't needed wants none
abbrev pub node_extra : (ℕ → ℕ) → List GraphLearned → Node → ℕ
node_extra words learned node = if node.needed then extra_of words learned node.kind else 0

-- the most that one of these nodes wants
abbrev pub greatest_extra : (ℕ → ℕ) → List GraphLearned → List Node → ℕ
greatest_extra words learned [] = 0
greatest_extra words learned (node ∷ nodes) = max (node_extra words learned node) (greatest_extra words learned nodes)

-- a graph needs words for its inputs, for the lists of its needed nodes, and as many more as one of these wants
abbrev pub graph_words : (ℕ → ℕ) → List GraphLearned → Graph → GraphLearned → ℕ
graph_words words learned graph entry = length graph.inputs + sum entry.lengths + greatest_extra words learned graph.nodes

abbrev pub words_at : (ℕ → ℕ) → List GraphLearned → Option Graph → Option GraphLearned → ℕ
words_at words learned (Some graph) (Some entry) = graph_words words learned graph entry
words_at words learned (Some graph) None = 0
words_at words learned None entry = 0

-- how many words the first graphs of a file need, by their number in it: each rests on those before it alone
abbrev pub words_below : List Graph → List GraphLearned → ℕ → ℕ → ℕ
words_below graphs learned zero number = 0
words_below graphs learned (suc count) number = if number == count then words_at (words_below graphs learned count) learned (slice_get graphs count) (slice_get learned count) else words_below graphs learned count number

-- how many words the graph with this number needs
abbrev pub words_for : List Graph → List GraphLearned → ℕ → ℕ
words_for graphs learned number = words_at (words_below graphs learned number) learned (slice_get graphs number) (slice_get learned number)

-- how many inputs a graph has
abbrev pub inputs_at : Option Graph → ℕ
inputs_at None = 0
inputs_at (Some graph) = length graph.inputs

-- how many words a node of this kind keeps from one point to the next: a memo keeps the inputs of the graph that it calls,
-- and its output
abbrev pub kept_of : List Graph → List GraphLearned → NodeKind → ℕ
kept_of graphs learned (Memo graph parts) = inputs_at (slice_get graphs graph) + output_at (slice_get learned graph)
kept_of graphs learned kind = 0

-- the same, where a node that isn't needed keeps none
abbrev pub node_kept : List Graph → List GraphLearned → Node → ℕ
node_kept graphs learned node = if node.needed then kept_of graphs learned node.kind else 0

-- how many words these nodes keep
abbrev pub nodes_kept : List Graph → List GraphLearned → List Node → ℕ
nodes_kept graphs learned [] = 0
nodes_kept graphs learned (node ∷ nodes) = node_kept graphs learned node + nodes_kept graphs learned nodes

-- how many words the nodes of these graphs keep
abbrev pub graphs_kept : List Graph → List GraphLearned → List Graph → ℕ
graphs_kept all learned [] = 0
graphs_kept all learned (graph ∷ graphs) = nodes_kept all learned graph.nodes + graphs_kept all learned graphs

-- how many words are kept from one point to the next
abbrev pub kept_words : List Graph → List GraphLearned → ℕ
kept_words graphs learned = graphs_kept graphs learned graphs

-- the words that are kept, and those that the main graph needs
abbrev pub words_needed : List Graph → List GraphLearned → ℕ
words_needed graphs learned = kept_words graphs learned + words_for graphs learned (main_number graphs)

-- for each graph of which something was learned the places where its inputs and its lists end, by the lengths that were learned
pub record AreTables (graphs : List Graph) (learned : List GraphLearned) (tables : List (List ℕ)) : Type 0 where
  pub many : length tables ≡ length learned
  pub each : (k : ℕ) (graph : Graph) (entry : GraphLearned) → slice_get graphs k ≡ Some graph → slice_get learned k ≡ Some entry → slice_index_or tables k [] ≡ places_of (length graph.inputs) entry.lengths
