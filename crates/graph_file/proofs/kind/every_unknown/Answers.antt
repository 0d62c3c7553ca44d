use Rattle.std.proofs.Common.{◌≡◌, ◌+◌, ◌++◌, ◌∷◌, [], ap, sym, ◌∙◌, arith}
use Rattle.std.specs.List.{range_with_len}
use Rattle.std.proofs.lemmas.List.{map-id}
use Rattle.std.proofs.lemmas.List.FromFn.{map-range_with_len_more}
use Rattle.graph_file.proofs.kind.every_unknown.Goals as goal

pub loop-place-preserved : goal.loop-place-preserved
loop-place-preserved c =
    let more : range_with_len 1 (c.loop-place.place + 1) ≡ range_with_len 1 c.loop-place.place ++ (c.loop-place.place + 1) ∷ [] =
    sym (map-id (range_with_len 1 (c.loop-place.place + 1)))
    ∙ map-range_with_len_more (λ n. n) 1 c.loop-place.place (c.loop-place.place + 1) (omega arith)
    ∙ ap (λ l. l ++ (c.loop-place.place + 1) ∷ []) (map-id (range_with_len 1 c.loop-place.place)) in
    c.in_ok-push.ensures.ok ∙ ap (λ l. l ++ (c.loop-place.place + 1) ∷ []) c.loop-place.invariant ∙ sym more
