use Rattle.std.proofs.Common.{◌∙◌, ap, bytes_eq, position}
use Rattle.graph_file.proofs.TableLemmas.{position-flipped}
use Rattle.graph_file.proofs.table.Table.number.Goals as goal

pub returns-clause-value : goal.returns-clause-value
returns-clause-value c =
    c.get_index_of.ensures.index
    ∙ position-flipped c.args.name.now c.self.inside.names.keys
    ∙ ap (position (λ other. bytes_eq other c.args.name.now)) c.self.view_is
