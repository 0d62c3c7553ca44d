-- The lists stand behind the words, which are read.
use Rattle.std.proofs.Common.{◌≡◌, ℕ, ◌-◌, ◌++◌, List, All, length, map, take, drop, sym, ◌∙◌, ap, subst}
use Rattle.std.proofs.lemmas.List.{length-replicate, take_rest}
use Rattle.word_region.specs.Board.{Board}
use Rattle.word_region.proofs.Boards.{written_whole}
use Rattle.basic_nodes.specs.Plain.{chained}
use Rattle.graph_eval.specs.Reading.{IsThere, placed}
use Rattle.graph_eval.proofs.plain.push_chain.Goals as goal

pub write_chained-requires-clause-there : goal.write_chained-requires-clause-there
write_chained-requires-clause-there c =
    let words = c.grow-out.result.0.now in
    let read : List ℕ = take (length words - c.args.base) (drop c.args.base words) in
    let read_is : read ≡ drop c.args.base c.args.stack.now.words = take_rest words c.args.base ∙ ap (drop c.args.base) c.grow-out.ensures.below in
    subst (λ (ws : List ℕ). All (IsThere ws c.args.places.now) c.args.parts.now) (sym read_is) c.requires.there

pub write_chained-requires-clause-room : goal.write_chained-requires-clause-room
write_chained-requires-clause-room c =
    let words = c.grow-out.result.0.now in
    let read : List ℕ = take (length words - c.args.base) (drop c.args.base words) in
    let read_is : read ≡ drop c.args.base c.args.stack.now.words = take_rest words c.args.base ∙ ap (drop c.args.base) c.grow-out.ensures.below in
    ap length c.grow-out.ensures.top ∙ length-replicate c.args.count 0 ∙ c.requires.count ∙ ap (λ ws. length (chained (map (placed ws c.args.places.now) c.args.parts.now))) (sym read_is)

pub returns : goal.returns
returns c =
    let below = c.args.stack.now.words in
    let words = c.grow-out.result.0.now in
    let out = c.write_chained.new.out in
    let read : List ℕ = take (length words - c.args.base) (drop c.args.base words) in
    let read_is : read ≡ drop c.args.base below = take_rest words c.args.base ∙ ap (drop c.args.base) c.grow-out.ensures.below in
    let long : length out ≡ c.args.count = c.write_chained.auto.out ∙ ap length c.grow-out.ensures.top ∙ length-replicate c.args.count 0 in
    let out_is : out ≡ chained (map (placed (drop c.args.base below) c.args.places.now) c.args.parts.now) = c.write_chained.ensures ∙ ap (λ ws. chained (map (placed ws c.args.places.now) c.args.parts.now)) read_is in
    ap (λ (ws : List ℕ). let b : Board = record c.args.stack.now { words = ws } in b) (written_whole below out c.args.count long ∙ ap (λ xs. below ++ xs) out_is)
