use Rattle.std.proofs.Common.{◌∙◌, sym, arith, bytes_eq}
use Rattle.graph_file.proofs.DepthLemmas.{first-none, first-past, first-within}
use Rattle.graph_file.proofs.depth.graph_named.Goals as goal

pub returns-in_default : goal.returns-in_default
returns-in_default c = sym (first-none (λ other. bytes_eq other c.args.graph.now) c.args.count c.args.graphs.now (sym c.number.ensures.value ∙ c.in_default.is))

pub returns-then-number-count : goal.returns-then-number-count
returns-then-number-count c = sym (first-past (λ other. bytes_eq other c.args.graph.now) c.args.count c.args.graphs.now c.in-Some.number (sym c.number.ensures.value ∙ c.in-Some.is) (omega (arith, c.if-number-count.true)))

pub returns : goal.returns
returns c = sym (first-within (λ other. bytes_eq other c.args.graph.now) c.args.count c.args.graphs.now c.in-Some.number (sym c.number.ensures.value ∙ c.in-Some.is) (omega (arith, c.if-number-count.false)))
