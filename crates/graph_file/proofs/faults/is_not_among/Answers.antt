use Rattle.std.proofs.Common.{◌∙◌, sym, ap, take}
use Rattle.graph_file.specs.Facts.{called_by}
use Rattle.graph_file.specs.Faults.{is_not_among}
use Rattle.graph_file.proofs.DepthLemmas.{not-among}
use Rattle.graph_file.proofs.faults.is_not_among.Goals as goal

pub returns-in-Call : goal.returns-in-Call
returns-in-Call c =
    not-among (take c.args.count c.args.graphs.now) c.in-Call.graph c.graph_named.result c.is_none.result (sym c.is_none.ensures)
    c.graph_named.ensures
    ∙ ap (λ s. is_not_among (take c.args.count c.args.graphs.now) (called_by s)) (sym c.in-Call.is)

pub returns-in-Memo : goal.returns-in-Memo
returns-in-Memo c =
    not-among (take c.args.count c.args.graphs.now) c.in-Memo.graph c.graph_named-in-Memo.result c.is_none-in-Memo.result (sym c.is_none-in-Memo.ensures)
    c.graph_named-in-Memo.ensures
    ∙ ap (λ s. is_not_among (take c.args.count c.args.graphs.now) (called_by s)) (sym c.in-Memo.is)

pub returns-in-Map : goal.returns-in-Map
returns-in-Map c =
    not-among (take c.args.count c.args.graphs.now) c.in-Map.graph c.graph_named-in-Map.result c.is_none-in-Map.result (sym c.is_none-in-Map.ensures)
    c.graph_named-in-Map.ensures
    ∙ ap (λ s. is_not_among (take c.args.count c.args.graphs.now) (called_by s)) (sym c.in-Map.is)

pub returns-in-Laurent : goal.returns-in-Laurent
returns-in-Laurent c =
    not-among (take c.args.count c.args.graphs.now) c.in-Laurent.graph c.graph_named-in-Laurent.result c.is_none-in-Laurent.result (sym c.is_none-in-Laurent.ensures)
    c.graph_named-in-Laurent.ensures
    ∙ ap (λ s. is_not_among (take c.args.count c.args.graphs.now) (called_by s)) (sym c.in-Laurent.is)
