-- The column's values are those of the lists.
use Rattle.std.proofs.Common.{◌≡◌, ℕ, List, ◌+◌, ◌-◌, ◌*◌, ◌^◌, ◌<◌, ◌≤◌, ◌++◌, All, Result, Ok, Err, length, take, drop, slice_index, get_or, refl, sym, ◌∙◌, ap, subst, arith, rules, length-take, length-drop, length-append}
use Rattle.std.specs.Prelude.{IfErr, OnOk}
use Rattle.std.proofs.lemmas.List.Elements.{All-same}
use Rattle.prime_field.specs.Modulus.{value_of}
use Rattle.prime_field.specs.Residue.{IsPrime}
use Rattle.graph_eval.specs.declared.outcome.Cause.{Cause}
use Rattle.graph_eval.specs.Expanded.{FailsToExpand, IsExpandedFrom, points_of, strided}
use Rattle.graph_eval.proofs.Columns.{length-run, strided_low, value_of-wide}
use Rattle.graph_eval.proofs.expansion.expand_column.Goals as goal

pub column_of-column-requires-clause-there : goal.column_of-column-requires-clause-there
column_of-column-requires-clause-there c =
    let points : length (points_of c.args.window) ≡ c.args.window.num + c.args.window.den + 3 = length-run (2 ^ 40 + 1) (c.args.window.num + c.args.window.den + 3) in
    omega (arith, ap (λ n. n * c.args.width) (c.points-count.ensures ∙ sym points), c.requires.there)

pub write_expansion-requires-clause-residues : goal.write_expansion-requires-clause-residues
write_expansion-requires-clause-residues c =
    let m = value_of c.args.m in
    let window = c.args.window in
    let words = c.args.words.now in
    let width = c.args.width in
    let k = c.args.k in
    let points : length (points_of window) ≡ window.num + window.den + 3 = length-run (2 ^ 40 + 1) (window.num + window.den + 3) in
    let column : List ℕ = take c.points-count.result c.column_of-column.result in
    let column_is : column ≡ strided words width k (length (points_of window)) = c.column_of-column.ensures ∙ ap (λ n. strided words width k n) (c.points-count.ensures ∙ sym points) in
    All-same (λ x. x < m) _ _ column_is (strided_low m words width k (length (points_of window)) (omega (arith, value_of-wide c.args.m)) c.requires.residues)

pub returns-clause-ok : goal.returns-clause-ok
returns-clause-ok c =
    let m = value_of c.args.m in
    let window = c.args.window in
    let words = c.args.words.now in
    let width = c.args.width in
    let k = c.args.k in
    let points : length (points_of window) ≡ window.num + window.den + 3 = length-run (2 ^ 40 + 1) (window.num + window.den + 3) in
    let column : List ℕ = take c.points-count.result c.column_of-column.result in
    let column_is : column ≡ strided words width k (length (points_of window)) = c.column_of-column.ensures ∙ ap (λ n. strided words width k n) (c.points-count.ensures ∙ sym points) in
    subst (λ (values : List ℕ). OnOk c.write_expansion.result (IsPrime m → IsExpandedFrom m window values c.write_expansion.new.out)) column_is c.write_expansion.ensures.ok

pub returns-clause-err : goal.returns-clause-err
returns-clause-err c =
    let m = value_of c.args.m in
    let window = c.args.window in
    let words = c.args.words.now in
    let width = c.args.width in
    let k = c.args.k in
    let points : length (points_of window) ≡ window.num + window.den + 3 = length-run (2 ^ 40 + 1) (window.num + window.den + 3) in
    let column : List ℕ = take c.points-count.result c.column_of-column.result in
    let column_is : column ≡ strided words width k (length (points_of window)) = c.column_of-column.ensures ∙ ap (λ n. strided words width k n) (c.points-count.ensures ∙ sym points) in
    subst (λ (values : List ℕ). IfErr c.write_expansion.result (λ cause. IsPrime m → FailsToExpand m window values cause)) column_is c.write_expansion.ensures.err
