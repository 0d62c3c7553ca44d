-- A job may be given to another thread.
use denote.Hole.{as_row}
use denote.Struct.Field.{i32-field, u32-field}
use denote.Param.Send.{IsSend, sendable}
use denote.Param.SendFields.{declared_send, variants_send}
use Rattle.std.proofs.Crossing.{crosses}
use Rattle.sqlite_items.specs.contracts.items.Items as Items
use Rattle.sqlite_items.proofs.boxed.Boxed.TheSendSync as boxed
use Rattle.sqlite_items.proofs.items.Items.TheSendSync as items
use Rattle.elim_core.specs.contracts.SparseRow as SparseRow
use Rattle.elim_core.proofs.SparseRow.TheSendSync as row
use Rattle.poly_maps.proofs.bound.Bounds.TheSendSync as bounds
use Rattle.poly_maps.proofs.point.Point.TheSendSync as point
use Rattle.rational_lift.proofs.coeff.Coeff.TheSendSync as coeff
use Rattle.ratfun_text.specs.contracts.expr.Expr as Expr
use Rattle.ratfun_text.proofs.expr.Expr.TheLaws.TheKnot as knot
use Rattle.ratfun_text.proofs.names.Name.TheSendSync as name
use Rattle.graph_file.specs.contracts.graph.Graph as Graph
use Rattle.graph_file.specs.contracts.graph.Node as Node
use Rattle.graph_file.specs.contracts.graph.NodeKind as NodeKind
use Rattle.graph_file.specs.contracts.graph.Source as Source
use Rattle.graph_file.proofs.graph.Source.TheSendSync as source
use Rattle.graph_file.specs.contracts.job.Job as Job
use Rattle.graph_file.proofs.job.Need.TheSendSync as need
use Rattle.graph_file.proofs.job.Special.TheSendSync as special

word_send : IsSend (as_row u32-field)
word_send = search sendable

order_send : IsSend (as_row i32-field)
order_send = search sendable

expr_send : IsSend Expr.the_row
expr_send = search (sendable, crosses, knot.send-Expr, items.the_send, boxed.the_send) depth 40

exprs_send : IsSend (Items.the_row Expr.the_row)
exprs_send = items.the_send Expr.the_row expr_send

lists_send : IsSend (Items.the_row Source.the_row)
lists_send = items.the_send Source.the_row source.the_send

rows_send : IsSend (Items.the_row SparseRow.the_row)
rows_send = items.the_send SparseRow.the_row row.the_send

kind_send : IsSend NodeKind.the_row
kind_send =
    let from = source.the_send in let word = word_send in let order = order_send in let lists = lists_send in let words = items.the_send _ word_send in
    variants_send NodeKind.enum (
      (from, (exprs_send, tt)),
      (
        (search (sendable, crosses, items.the_send) depth 20, tt),
        (
          (from, (word, (word, tt))),
          (
            (lists, tt),
            (
              (lists, tt),
              (
                (lists, tt),
                (
                  (from, (from, (word, (word, (word, tt))))),
                  (
                    (from, (word, (word, (words, tt)))),
                    (
                      (from, (word, (words, (rows_send, tt)))),
                      (
                        (word, (lists, tt)),
                        ((word, (lists, tt)), ((word, (lists, tt)), ((word, (order, (order, (word, (word, (lists, tt)))))), tt))),
                      ),
                    ),
                  ),
                ),
              ),
            ),
          ),
        ),
      ),
    )

node_send : IsSend Node.the_row
node_send = declared_send Node.the_type (search (sendable, crosses, name.the_send, kind_send) depth 20)

graph_send : IsSend Graph.the_row
graph_send = declared_send Graph.the_type (search (sendable, crosses, name.the_send, node_send, source.the_send, items.the_send) depth 20)

pub job_send : IsSend Job.the_row
job_send = declared_send Job.the_type (search (sendable, crosses, graph_send, items.the_send, point.the_send, special.the_send, bounds.the_send, coeff.the_send, need.the_send) depth 20)
