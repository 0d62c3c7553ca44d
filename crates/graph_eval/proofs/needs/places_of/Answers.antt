-- One place more stands behind those so far.
use Rattle.std.proofs.Common.{◌≡◌, ◌+◌, ◌++◌, [], ◌∷◌, get_or, sum, take, sym, ◌∙◌, ap, arith}
use Rattle.std.proofs.lemmas.List.{take_more}
use Rattle.std.proofs.lemmas.List.Sums.{sum_by_push}
use Rattle.graph_eval.specs.Reading.{places_of}
use Rattle.graph_eval.proofs.Listed.{places-push}
use Rattle.graph_eval.proofs.needs.places_of.Goals as goal

pub loop-own-preserved : goal.loop-own-preserved
loop-own-preserved c =
    let lengths = c.args.lengths.now in
    let i = c.loop-own.own-index in
    let own = get_or lengths i 0 in
    let so_far = take i lengths in
    let more : take (i + 1) lengths ≡ so_far ++ own ∷ [] = take_more lengths i 0 c.loop-own-test.true in
    let sums : sum (so_far ++ own ∷ []) ≡ sum so_far + own = sum_by_push (λ n. n) so_far own in
    let end : c.loop-own.end + own ≡ c.args.inputs + sum (take (i + 1) lengths) = omega (arith, c.loop-own.invariant.end, ap sum more, sums) in
    let pushed : c.push-in-loop-own.new.self ≡ c.loop-own.places ++ (c.loop-own.end + own) ∷ [] = c.in_ok-push-2.ensures.ok in
    record {
      places = pushed ∙ ap (λ ps. ps ++ (c.loop-own.end + own) ∷ []) c.loop-own.invariant.places
          ∙ ap (λ n. places_of c.args.inputs so_far ++ n ∷ []) (let here : c.loop-own.end + own ≡ c.args.inputs + (sum so_far + own) = omega (arith, c.loop-own.invariant.end) in here)
          ∙ sym (places-push c.args.inputs so_far own) ∙ ap (places_of c.args.inputs) (sym more);
      end = end;
      bound = omega (arith, c.loop-own.invariant.bound, (c.type_inv.lengths i).fits);
    }
