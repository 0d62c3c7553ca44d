use Rattle.std.proofs.Common.{◌∙◌, ℕ, List, sym, ap, take}
use Rattle.graph_file.specs.Facts.{called_by}
use Rattle.graph_file.specs.Faults.{is_not_among, is_unknown_graph}
use Rattle.graph_file.proofs.TakeLemmas.{graphs-kept}
use Rattle.graph_file.proofs.faults.is_unknown_graph.Goals as goal

pub returns-in-Node : goal.returns-in-Node
returns-in-Node c = λ earlier read.
    c.is_not_among.ensures
    ∙ ap (λ n. is_not_among (take n c.args.reader.now.graph_names) (called_by c.in-Node.statement)) c.len.ensures
    ∙ ap (λ (gs : List (List ℕ)). is_not_among gs (called_by c.in-Node.statement)) (graphs-kept earlier c.args.reader.now read)
    ∙ ap (is_unknown_graph earlier) (sym c.in-Node.is)
