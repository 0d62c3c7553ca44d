-- What is told of graphs that were learned.
use Rattle.std.specs.Prelude.{ℕ, List, [], ◌∷◌, ◌++◌, Option, Some, None, codes, if◌then◌else◌}
use Rattle.std.specs.List.{flat_map}
use Rattle.std.specs.Fmt.{decimal}
use Rattle.graph_file.specs.declared.graph.Graph.{Graph}
use Rattle.graph_file.specs.declared.graph.Node.{Node}
use Rattle.graph_eval.specs.declared.learned.GraphLearned.{GraphLearned}
use Rattle.graph_eval.specs.Learned.{is_solver}

-- the number of a learning point
abbrev pub point_words : Option ℕ → List ℕ
point_words None = codes "none"
point_words (Some q) = decimal q

-- the line of a graph: where it was learned, and the length of its output
abbrev pub graph_line : Graph → GraphLearned → List ℕ
graph_line graph entry = codes "graph " ++ graph.name ++ codes " point " ++ point_words entry.point ++ codes " length " ++ decimal entry.output ++ codes "\n"

-- numbers, with a space before each
abbrev pub further : List ℕ → List ℕ
further numbers = flat_map (λ number. 32 ∷ decimal number) numbers

-- the line of a node that solves a system: its independent unknowns; nothing is told of another node
abbrev pub node_line : Node → List ℕ → List ℕ
node_line node set = if is_solver node then codes "solver " ++ node.name ++ codes " independent" ++ further set ++ codes "\n" else []

-- the lines of the nodes of a graph, each with its set
abbrev pub node_lines : List Node → List (List ℕ) → List ℕ
node_lines [] sets = []
node_lines (node ∷ nodes) [] = []
node_lines (node ∷ nodes) (set ∷ sets) = node_line node set ++ node_lines nodes sets

-- what is told of a graph
abbrev pub graph_lines : Graph → GraphLearned → List ℕ
graph_lines graph entry = graph_line graph entry ++ node_lines graph.nodes entry.sets

-- what is told of the graphs of a file, each with what was learned of it
abbrev pub lessons : List Graph → List GraphLearned → List ℕ
lessons [] learned = []
lessons (graph ∷ graphs) [] = []
lessons (graph ∷ graphs) (entry ∷ learned) = graph_lines graph entry ++ lessons graphs learned
