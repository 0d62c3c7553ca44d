use Rattle.std.proofs.Common.{◌≤◌, ◌<◌, ◌%◌, length, ap, ◌∙◌, arith}
use Rattle.prime_field.specs.Modulus.{value_of}
use Rattle.laurent_node.proofs.Products.{earlier-sum}
use Rattle.laurent_node.proofs.terms.earlier.Goals as goal
use Rattle.laurent_node.proofs.terms.earlier.Goals.{then-tail-done, else-tail-done}

pub returns-clause-sum : goal.returns-clause-sum
returns-clause-sum c =
    let within : c.loop-h.h ≤ length c.args.done.now =
    elim c.if-tail-done.branch [ then-tail-done w ↦ omega arith | else-tail-done w ↦ omega arith ] in
    let ends : c.loop-h.h < length c.args.done.now → length c.args.tail.now ≤ c.loop-h.h =
    λ low. elim c.if-tail-done.branch [ then-tail-done w ↦ omega arith | else-tail-done w ↦ omega arith ] in
    c.loop-h.invariant.value ∙
    ap (λ t. t % value_of c.args.m) (earlier-sum c.args.tail.now c.args.done.now (length c.args.done.now) c.loop-h.h within ends)
