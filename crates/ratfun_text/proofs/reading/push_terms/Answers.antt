use Rattle.std.proofs.Common.{◌==◌, slice_index}
use Rattle.ratfun_text.proofs.ReadBack.{left_start, left_next, inside_next}
use Rattle.ratfun_text.proofs.reading.push_terms.Goals as goal

pub loop-rest-init : goal.loop-rest-init
loop-rest-init c = (c.requires.inside, λ p terms is. left_start c.args.names.now c.args.terms.now.items p c.args.text.now c.requires.names terms is)

pub loop-rest-preserved : goal.loop-rest-preserved
loop-rest-preserved c =
    let names = c.args.names.now in
    let now = c.loop-rest.terms.items in
    let new = c.push.new.self.items in
    let rest = c.loop-rest.rest.now in (
      inside_next names now new (slice_index rest 0 == 45) c.cut.result.0.now c.term_in.result c.loop-rest.invariant.0 c.term_in.ensures c.in_ok-push.ensures.items,
      λ p terms is. left_next names c.args.terms.now.items p now new rest c.cut.result.0.now c.cut.result.1.now c.term_in.result (c.loop-rest.invariant.1 p terms is) c.in-len2-up.len_at_least c.cut.ensures.before c.cut.ensures.behind c.term_in.ensures c.in_ok-push.ensures.items,
    )
