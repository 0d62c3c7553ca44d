use Rattle.std.proofs.Common.{◌≡◌, ◌∙◌, ◌++◌, ◌∷◌, [], ap, bytes_eq}
use Rattle.std.specs.List.{list_any}
use Rattle.indexmap.specs.IndexSet.{insert_key}
use Rattle.graph_file.proofs.TableLemmas.{inserted-new}
use Rattle.graph_file.proofs.table.Table.add.Goals as goal

pub returns : goal.returns
returns c =
    let same : c.in_ok-copy.copy ≡ c.args.name.now = c.in_ok-copy.ensures ∙ c.bytes.ensures in
    c.in_ok-insert.ensures.keys
    ∙ ap (λ names. insert_key bytes_eq names c.in_ok-copy.copy) c.self.view_is
    ∙ inserted-new c.in_ok-copy.copy c.args.self.now (ap (λ name. list_any (λ other. bytes_eq other name) c.args.self.now) same ∙ c.requires)
    ∙ ap (λ name. c.args.self.now ++ name ∷ []) same
