-- What a needed node reads is needed.
use Rattle.std.proofs.Common.{◌≡◌, ℕ, ap, ◌∙◌, Some, option_map}
use Rattle.std.specs.List.{slice_get}
use Rattle.std.proofs.lemmas.Option.{slice_get-map}
use Rattle.graph_file.specs.Needed.{IsNeeded, Reads}
use Rattle.graph_file.specs.Needed.IsNeededFor.{ReadBy}
use Rattle.graph_file.specs.declared.graph.Graph.{Graph}
use Rattle.graph_file.specs.declared.graph.Node.{Node}
use Rattle.graph_file.specs.declared.graph.Source.TheVariants as source

pub needed-read : (graph : Graph) (j k : ℕ) (node : Node) → IsNeeded graph j → slice_get graph.nodes j ≡ Some node → Reads node.kind (source.Node k) → IsNeeded graph k
needed-read graph j k node needed at reads = ReadBy k j node.kind needed (slice_get-map (λ (n : Node). n.kind) graph.nodes j ∙ ap (option_map (λ (n : Node). n.kind)) at) reads
