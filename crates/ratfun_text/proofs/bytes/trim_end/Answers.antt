use Rattle.std.proofs.Common.{arith, sym, ◌∙◌}
use Rattle.ratfun_text.proofs.Texts.{trim_end_at}
use Rattle.ratfun_text.proofs.bytes.trim_end.Goals.{then-loop-end-test+else-is_blank, else-loop-end-test}
use Rattle.ratfun_text.proofs.bytes.trim_end.Goals as goal

pub returns : goal.returns
returns c =
    trim_end_at c.args.text.now c.loop-end.end c.loop-end.invariant.0 c.loop-end.invariant.1
    (λ some. elim c.loop-end-test.branch [
      | then-loop-end-test+else-is_blank w ↦ sym w.is_blank.ensures ∙ w.if-is_blank.false
      | else-loop-end-test w ↦ absurd (omega arith)
    ])
