use Rattle.std.proofs.Common.{◌≡◌, ◌∙◌, ◌+◌, ℕ, List, map, take, drop, sym, ap}
use Rattle.graph_file.specs.Line.{degrees_of, den_place}
use Rattle.graph_file.proofs.DegreeLemmas.{behind, both_there, map_drop, map_take, no_den, no_num}
use Rattle.graph_file.proofs.patterns.both_degrees.Goals as goal

pub returns-in_default : goal.returns-in_default
returns-in_default c =
    let words : List (List ℕ) = map (λ word. word.now) c.args.words.now in
    let front : map (λ word. word.now) c.split_at.result.0.now ≡ take (den_place words) words = ap (map (λ word. word.now)) c.split_at.ensures.front ∙ map_take (λ word. word.now) c.den_place.result c.args.words.now ∙ ap (λ n. take n words) c.den_place.ensures.value in
    no_num words (ap degrees_of (sym front) ∙ sym c.in_ok-num.ensures ∙ c.in_default.is)

pub returns-in_default-2 : goal.returns-in_default-2
returns-in_default-2 c =
    let words : List (List ℕ) = map (λ word. word.now) c.args.words.now in
    let front : map (λ word. word.now) c.split_at.result.0.now ≡ take (den_place words) words = ap (map (λ word. word.now)) c.split_at.ensures.front ∙ map_take (λ word. word.now) c.den_place.result c.args.words.now ∙ ap (λ n. take n words) c.den_place.ensures.value in
    let back : map (λ word. word.now) c.behind_first.result.now ≡ drop (den_place words + 1) words = c.behind_first.ensures ∙ ap (λ l. drop 1 (map (λ word. word.now) l)) c.split_at.ensures.back ∙ ap (drop 1) (map_drop (λ word. word.now) c.den_place.result c.args.words.now) ∙ behind c.den_place.result words ∙ ap (λ n. drop (n + 1) words) c.den_place.ensures.value in
    no_den words c.in-Some.num (ap degrees_of (sym front) ∙ sym c.in_ok-num.ensures ∙ c.in-Some.is) (ap degrees_of (sym back) ∙ sym c.in_ok-den.ensures ∙ c.in_default-2.is)

pub returns : goal.returns
returns c =
    let words : List (List ℕ) = map (λ word. word.now) c.args.words.now in
    let front : map (λ word. word.now) c.split_at.result.0.now ≡ take (den_place words) words = ap (map (λ word. word.now)) c.split_at.ensures.front ∙ map_take (λ word. word.now) c.den_place.result c.args.words.now ∙ ap (λ n. take n words) c.den_place.ensures.value in
    let back : map (λ word. word.now) c.behind_first.result.now ≡ drop (den_place words + 1) words = c.behind_first.ensures ∙ ap (λ l. drop 1 (map (λ word. word.now) l)) c.split_at.ensures.back ∙ ap (drop 1) (map_drop (λ word. word.now) c.den_place.result c.args.words.now) ∙ behind c.den_place.result words ∙ ap (λ n. drop (n + 1) words) c.den_place.ensures.value in
    both_there words c.in-Some.num c.in-Some-2.den (ap degrees_of (sym front) ∙ sym c.in_ok-num.ensures ∙ c.in-Some.is) (ap degrees_of (sym back) ∙ sym c.in_ok-den.ensures ∙ c.in-Some-2.is)
