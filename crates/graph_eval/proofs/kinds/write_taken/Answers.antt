-- One entry more is written behind those so far.
use Rattle.std.proofs.Common.{◌≡◌, ◌+◌, ◌-◌, [], ◌∷◌, length, take, drop, get_or, ◌∙◌, ap, length-take, length-drop, arith}
use Rattle.graph_file.specs.declared.graph.Source.TheVariants as source
use Rattle.graph_eval.specs.Reading.{placed}
use Rattle.graph_eval.proofs.Writing.{one_place, taken_more}
use Rattle.graph_eval.proofs.kinds.write_taken.Goals as goal

pub loop-place-preserved : goal.loop-place-preserved
loop-place-preserved c =
    let i = c.loop-place.place in
    let part = get_or c.args.parts.now i (source.Input, 0) in
    let room = drop i c.loop-place.out in
    let one : length (take (i + 1 - i) room) ≡ 1 = omega (arith, length-take (i + 1 - i) room, length-drop i c.loop-place.out) in
    taken_more (placed c.args.words.now c.args.places.now) c.args.parts.now c.loop-place.out c.take.new.out i (i + 1 - i) (source.Input, 0) c.loop-place-test.true (omega arith)
    (c.take.ensures ∙ one_place (take (i + 1 - i) room) _ one ∙ ap (λ xs. get_or xs (part.1 - 1) 0 ∷ []) c.placed-list.ensures)
    c.loop-place.invariant
