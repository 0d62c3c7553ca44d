-- No row is empty.
use Rattle.std.proofs.Common.{Some, All, List, ap, sym, ◌∙◌, subst}
use Rattle.std.specs.Prelude.{IsSome, map}
use Rattle.graph_eval.specs.GraphValue.{Outcome}
use Rattle.parallel_sampler.specs.Filled.{Filling}
use Rattle.parallel_sampler.proofs.Gathering.{rows_filled, rows_told}
use Rattle.parallel_sampler.proofs.table.Table.into_samples.Goals as goal

pub of-requires : goal.of-requires
of-requires c = rows_filled c.self.inside.rows.items (subst (λ (f : Filling). All IsSome f.rows) (sym c.self.view_is) c.requires)

pub returns : goal.returns
returns c =
    let filled = rows_filled c.self.inside.rows.items (subst (λ (f : Filling). All IsSome f.rows) (sym c.self.view_is) c.requires) in
    ap (λ (rows : List Outcome). map (λ row. Some row) rows) c.of.ensures ∙ rows_told c.self.inside.rows.items filled ∙ ap (λ (f : Filling). f.rows) c.self.view_is
