-- The coefficients stand behind the words, which are read.
use Rattle.std.proofs.Common.{◌≡◌, ℕ, List, ◌+◌, ◌-◌, ◌*◌, ◌^◌, ◌<◌, ◌≤◌, ◌++◌, All, Result, Ok, Err, length, take, drop, slice_index, get_or, refl, sym, ◌∙◌, ap, subst, arith, rules, length-take, length-drop, length-append}
use Rattle.std.specs.Prelude.{IfErr, OnOk}
use Rattle.std.proofs.lemmas.List.{length-replicate, take_rest}
use Rattle.std.proofs.lemmas.List.Elements.{All-same}
use Rattle.prime_field.specs.Modulus.{value_of}
use Rattle.prime_field.specs.Residue.{IsPrime}
use Rattle.word_region.proofs.Boards.{written_whole}
use Rattle.graph_eval.specs.declared.outcome.Cause.{Cause}
use Rattle.graph_eval.specs.Expanded.{FailsToExpand, IsExpandedFrom, points_of, strided}
use Rattle.graph_eval.proofs.Quotients.{pushed_ok}
use Rattle.graph_eval.proofs.expansion.push_expansion.Goals as goal

pub expand_column-requires-clause-there : goal.expand_column-requires-clause-there
expand_column-requires-clause-there c =
    let below = c.args.stack.now.words in
    let words = c.grow-out.result.0.now in
    let read : List ℕ = take (length words - c.args.base) (drop c.args.base words) in
    let read_is : read ≡ drop c.args.base below = take_rest words c.args.base ∙ ap (drop c.args.base) c.grow-out.ensures.below in
    omega (arith, ap length read_is, c.requires.there)

pub expand_column-requires-clause-residues : goal.expand_column-requires-clause-residues
expand_column-requires-clause-residues c =
    let below = c.args.stack.now.words in
    let words = c.grow-out.result.0.now in
    let read : List ℕ = take (length words - c.args.base) (drop c.args.base words) in
    let read_is : read ≡ drop c.args.base below = take_rest words c.args.base ∙ ap (drop c.args.base) c.grow-out.ensures.below in
    All-same (λ x. x < value_of c.args.m) _ _ read_is c.requires.residues

pub expand_column-requires-clause-room : goal.expand_column-requires-clause-room
expand_column-requires-clause-room c =
    ap length c.grow-out.ensures.top ∙ length-replicate c.orders.result 0 ∙ c.orders.ensures

pub returns-clause-ok : goal.returns-clause-ok
returns-clause-ok c =
    let below = c.args.stack.now.words in
    let words = c.grow-out.result.0.now in
    let read : List ℕ = take (length words - c.args.base) (drop c.args.base words) in
    let read_is : read ≡ drop c.args.base below = take_rest words c.args.base ∙ ap (drop c.args.base) c.grow-out.ensures.below in
    let m = value_of c.args.m in
    let window = c.args.window in
    let out = c.expand_column.new.out in
    let long : length out ≡ c.orders.result = c.expand_column.auto.out ∙ ap length c.grow-out.ensures.top ∙ length-replicate c.orders.result 0 in
    let values = strided (drop c.args.base below) c.args.width c.args.k (length (points_of window)) in
    pushed_ok m window values below out _ c.expand_column.result (written_whole below out c.orders.result long) (long ∙ c.orders.ensures)
    (subst (λ (ws : List ℕ). OnOk c.expand_column.result (IsPrime m → IsExpandedFrom m window (strided ws c.args.width c.args.k (length (points_of window))) out)) read_is c.expand_column.ensures.ok)
    c.expand_column.ensures.residues

pub returns-clause-err : goal.returns-clause-err
returns-clause-err c =
    let below = c.args.stack.now.words in
    let words = c.grow-out.result.0.now in
    let read : List ℕ = take (length words - c.args.base) (drop c.args.base words) in
    let read_is : read ≡ drop c.args.base below = take_rest words c.args.base ∙ ap (drop c.args.base) c.grow-out.ensures.below in
    let m = value_of c.args.m in
    let window = c.args.window in
    subst (λ (ws : List ℕ). IfErr c.expand_column.result (λ cause. IsPrime m → FailsToExpand m window (strided ws c.args.width c.args.k (length (points_of window))) cause)) read_is c.expand_column.ensures.err
