-- A job may be used by several threads at once.
use denote.Hole.{as_row}
use denote.Struct.Field.{i32-field, u32-field}
use denote.Param.Send.{IsSync, sendable}
use denote.Param.SendFields.{declared_sync, variants_sync}
use Rattle.std.proofs.Crossing.{crosses}
use Rattle.sqlite_items.specs.contracts.items.Items as Items
use Rattle.sqlite_items.proofs.boxed.Boxed.TheSendSync as boxed
use Rattle.sqlite_items.proofs.items.Items.TheSendSync as items
use Rattle.elim_core.specs.contracts.SparseRow as SparseRow
use Rattle.elim_core.proofs.SparseRow.TheSendSync as row
use Rattle.poly_maps.proofs.bound.Bounds.TheSendSync as bounds
use Rattle.poly_maps.proofs.point.Point.TheSendSync as point
use Rattle.rational_lift.proofs.coeff.Coeff.TheSendSync as coeff
use Rattle.ratfun_text.specs.contracts.expr.Expr as Expr
use Rattle.ratfun_text.proofs.expr.Expr.TheLaws.TheKnot as knot
use Rattle.ratfun_text.proofs.names.Name.TheSendSync as name
use Rattle.graph_file.specs.contracts.graph.Graph as Graph
use Rattle.graph_file.specs.contracts.graph.Node as Node
use Rattle.graph_file.specs.contracts.graph.NodeKind as NodeKind
use Rattle.graph_file.specs.contracts.graph.Source as Source
use Rattle.graph_file.proofs.graph.Source.TheSendSync as source
use Rattle.graph_file.specs.contracts.job.Job as Job
use Rattle.graph_file.proofs.job.Need.TheSendSync as need
use Rattle.graph_file.proofs.job.Special.TheSendSync as special

word_sync : IsSync (as_row u32-field)
word_sync = search sendable

order_sync : IsSync (as_row i32-field)
order_sync = search sendable

expr_sync : IsSync Expr.the_row
expr_sync = search (sendable, crosses, knot.sync-Expr, items.the_sync, boxed.the_sync) depth 40

exprs_sync : IsSync (Items.the_row Expr.the_row)
exprs_sync = items.the_sync Expr.the_row expr_sync

lists_sync : IsSync (Items.the_row Source.the_row)
lists_sync = items.the_sync Source.the_row source.the_sync

rows_sync : IsSync (Items.the_row SparseRow.the_row)
rows_sync = items.the_sync SparseRow.the_row row.the_sync

kind_sync : IsSync NodeKind.the_row
kind_sync =
    let from = source.the_sync in let word = word_sync in let order = order_sync in let lists = lists_sync in let words = items.the_sync _ word_sync in
    variants_sync NodeKind.enum (
      (from, (exprs_sync, tt)),
      (
        (search (sendable, crosses, items.the_sync) depth 20, tt),
        (
          (from, (word, (word, tt))),
          (
            (lists, tt),
            (
              (lists, tt),
              (
                (lists, tt),
                (
                  (from, (from, (word, (word, (word, tt))))),
                  (
                    (from, (word, (word, (words, tt)))),
                    (
                      (from, (word, (words, (rows_sync, tt)))),
                      (
                        (word, (lists, tt)),
                        ((word, (lists, tt)), ((word, (lists, tt)), ((word, (order, (order, (word, (word, (lists, tt)))))), tt))),
                      ),
                    ),
                  ),
                ),
              ),
            ),
          ),
        ),
      ),
    )

node_sync : IsSync Node.the_row
node_sync = declared_sync Node.the_type (search (sendable, crosses, name.the_sync, kind_sync) depth 20)

graph_sync : IsSync Graph.the_row
graph_sync = declared_sync Graph.the_type (search (sendable, crosses, name.the_sync, node_sync, source.the_sync, items.the_sync) depth 20)

pub job_sync : IsSync Job.the_row
job_sync = declared_sync Job.the_type (search (sendable, crosses, graph_sync, items.the_sync, point.the_sync, special.the_sync, bounds.the_sync, coeff.the_sync, need.the_sync) depth 20)
