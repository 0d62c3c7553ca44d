use Rattle.std.proofs.Common.{◌∙◌, sym, []}
use Rattle.graph_file.proofs.PartLemmas.{parts-there, parts-odd}
use Rattle.graph_file.proofs.patterns.parts.Goals as goal

pub loop-rest-preserved : goal.loop-rest-preserved
loop-rest-preserved c =
    parts-there _ c.loop-rest.parts c.push.new.self c.loop-rest.rest.now (record { ref_ptr = (0, 0); now = [] }) c.in_ok-list.list c.in-Some.position
    c.loop-rest.invariant c.in-len2-up.len_at_least (sym c.size.ensures ∙ c.in-Some.is) c.in_ok-list.ensures c.in_ok-push.ensures.ok

pub returns-then-not-is_empty : goal.returns-then-not-is_empty
returns-then-not-is_empty c = parts-odd _ c.loop-rest.parts c.loop-rest.rest.now c.loop-rest.invariant c.in_default.len_below (sym c.is_empty.ensures ∙ c.if-not-is_empty.true)
