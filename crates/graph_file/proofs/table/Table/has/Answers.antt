use Rattle.std.proofs.Common.{◌∙◌, ap, bytes_eq}
use Rattle.std.specs.List.{list_any}
use Rattle.graph_file.proofs.TableLemmas.{any-flipped}
use Rattle.graph_file.proofs.table.Table.has.Goals as goal

pub returns : goal.returns
returns c =
    c.contains.ensures
    ∙ any-flipped c.args.name.now c.self.inside.names.keys
    ∙ ap (list_any (λ other. bytes_eq other c.args.name.now)) c.self.view_is
