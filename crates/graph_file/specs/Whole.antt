-- A graph whose output has stood.
use Rattle.std.specs.Prelude.{ℕ, ◌≡◌, ◌↔◌, IsTrue, List, Some, slice_get}
use Rattle.graph_file.specs.Needed.{IsNeeded, kinds_of}
use Rattle.graph_file.specs.Says.{names_of}
use Rattle.graph_file.specs.declared.graph.Graph.{Graph}
use Rattle.graph_file.specs.declared.graph.Node.{Node}
use Rattle.graph_file.specs.declared.graph.Source.{Source}

-- the graph has this name, these variables, these nodes, each marked where it is needed, and this output
pub record IsWholeOf (name : List ℕ) (inputs : List (List ℕ)) (nodes : List Node) (output : Source) (graph : Graph) : Type 0 where
  pub name_is : graph.name ≡ name
  pub inputs_are : graph.inputs ≡ inputs
  pub names_are : names_of graph.nodes ≡ names_of nodes
  pub kinds_are : kinds_of graph.nodes ≡ kinds_of nodes
  pub output_is : graph.output ≡ output
  pub marks : (k : ℕ) (node : Node) → slice_get graph.nodes k ≡ Some node → IsTrue node.needed ↔ IsNeeded graph k
