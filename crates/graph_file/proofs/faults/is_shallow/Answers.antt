use Rattle.std.proofs.Common.{◌∙◌, ℕ, List, sym, ap, take, nat_le}
use Rattle.std.specs.List.{slice_get}
use Rattle.graph_file.specs.Facts.{called_by, depth_over, depths_in}
use Rattle.graph_file.proofs.TakeLemmas.{earlier_graphs, graphs-kept}
use Rattle.graph_file.proofs.faults.is_shallow.Goals as goal

pub depth_over-requires-clause-low : goal.depth_over-requires-clause-low
depth_over-requires-clause-low c = λ k depth at. c.requires.read.depths_are.low k depth (ap (λ (l : List ℕ). slice_get l k) (sym c.as_slice-depths.ensures.value) ∙ at)

pub returns : goal.returns
returns c = λ earlier read. ap (λ d. nat_le d 8) (
    c.depth_over.ensures
    ∙ ap (λ n. depth_over (take n c.args.reader.now.graph_names) c.as_slice-depths.result.now (called_by c.args.statement.now)) c.len.ensures
    ∙ ap (λ (ds : List ℕ). depth_over (earlier_graphs c.args.reader.now) ds (called_by c.args.statement.now)) (c.as_slice-depths.ensures.value ∙ read.depths_are.are)
    ∙ ap (λ (gs : List (List ℕ)). depth_over gs (depths_in earlier) (called_by c.args.statement.now)) (graphs-kept earlier c.args.reader.now read)
    )
