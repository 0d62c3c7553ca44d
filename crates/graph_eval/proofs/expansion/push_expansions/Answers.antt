-- One output's expansion after the other, over the lists at the points.
use Rattle.std.proofs.Common.{◌≡◌, ℕ, List, ◌+◌, ◌-◌, ◌*◌, ◌^◌, ◌<◌, ◌≤◌, ◌++◌, All, Result, Ok, Err, length, take, drop, slice_index, get_or, refl, sym, ◌∙◌, ap, subst, arith, rules, length-take, length-drop, length-append}
use lib.Seq.{drop_at, take_all}
use Rattle.prime_field.specs.Modulus.{value_of}
use Rattle.basic_nodes.specs.Plain.{chained}
use Rattle.word_region.specs.Board.{Board}
use Rattle.graph_eval.specs.Expanded.{AreExpansionsAdded, points_of, orders_of}
use Rattle.graph_eval.proofs.Columns.{length-run}
use Rattle.graph_eval.proofs.Quotients.{expansions_done, expansions_fail, expansions_more, expansions_none, expansions_residues}
use Rattle.graph_eval.proofs.expansion.push_expansions.Goals as goal

pub loop-k-init : goal.loop-k-init
loop-k-init c =
    let m = value_of c.args.m in
    let window = c.args.window in
    let base = c.args.base in
    let width = c.args.width in
    let old = c.args.stack.now.words in
    let points : length (points_of window) ≡ window.num + window.den + 3 = length-run (2 ^ 40 + 1) (window.num + window.den + 3) in
    let within : base ≤ length old = omega (arith, c.requires.words) in
    let enough : length (points_of window) * width ≤ length (drop base old) = omega (arith, c.requires.words, length-drop base old) in
    record { size = refl; kept = refl; added = expansions_none m window old base width within enough }

pub push_expansion-requires-clause-residues : goal.push_expansion-requires-clause-residues
push_expansion-requires-clause-residues c =
    let m = value_of c.args.m in
    let window = c.args.window in
    let base = c.args.base in
    let width = c.args.width in
    let old = c.args.stack.now.words in
    let points : length (points_of window) ≡ window.num + window.den + 3 = length-run (2 ^ 40 + 1) (window.num + window.den + 3) in
    let within : base ≤ length old = omega (arith, c.requires.words) in
    let enough : length (points_of window) * width ≤ length (drop base old) = omega (arith, c.requires.words, length-drop base old) in
    let k = c.loop-k.k in
    let words = c.loop-k.stack.words in
    let so_far = c.loop-k.invariant.added in
    let below : k < width = omega (arith, c.loop-k-test.true) in
    expansions_residues m window old base width within enough k words so_far below c.requires.residues

pub returns-in-Err-clause-err : goal.returns-in-Err-clause-err
returns-in-Err-clause-err c =
    let m = value_of c.args.m in
    let window = c.args.window in
    let base = c.args.base in
    let width = c.args.width in
    let old = c.args.stack.now.words in
    let points : length (points_of window) ≡ window.num + window.den + 3 = length-run (2 ^ 40 + 1) (window.num + window.den + 3) in
    let within : base ≤ length old = omega (arith, c.requires.words) in
    let enough : length (points_of window) * width ≤ length (drop base old) = omega (arith, c.requires.words, length-drop base old) in
    let k = c.loop-k.k in
    let words = c.loop-k.stack.words in
    let so_far = c.loop-k.invariant.added in
    let below : k < width = omega (arith, c.loop-k-test.true) in
    expansions_fail m window old base width within enough k words so_far below c.in-Err.cause c.in-Err.ensures.err

pub loop-k-preserved : goal.loop-k-preserved
loop-k-preserved c =
    let m = value_of c.args.m in
    let window = c.args.window in
    let base = c.args.base in
    let width = c.args.width in
    let old = c.args.stack.now.words in
    let points : length (points_of window) ≡ window.num + window.den + 3 = length-run (2 ^ 40 + 1) (window.num + window.den + 3) in
    let within : base ≤ length old = omega (arith, c.requires.words) in
    let enough : length (points_of window) * width ≤ length (drop base old) = omega (arith, c.requires.words, length-drop base old) in
    let k = c.loop-k.k in
    let words = c.loop-k.stack.words in
    let so_far = c.loop-k.invariant.added in
    let below : k < width = omega (arith, c.loop-k-test.true) in
    record {
      size = c.push_expansion.ensures.size ∙ c.loop-k.invariant.size;
      kept = c.push_expansion.ensures.kept ∙ c.loop-k.invariant.kept;
      added = expansions_more m window old base width within enough k words so_far below c.push_expansion.new.stack.words c.in-Ok.ensures.ok;
    }

pub returns-clause-ok : goal.returns-clause-ok
returns-clause-ok c =
    let m = value_of c.args.m in
    let window = c.args.window in
    let base = c.args.base in
    let width = c.args.width in
    let old = c.args.stack.now.words in
    let within : base ≤ length old = omega (arith, c.requires.words) in
    let enough : length (points_of window) * width ≤ length (drop base old) = omega (arith, c.requires.words, length-drop base old) in
    let words = c.loop-k.stack.words in
    let all : c.loop-k.k ≡ width = omega (arith, c.loop-k-test.false, c.loop-k.auto.k-end) in
    expansions_done m window old base width within enough words c.collapse.new.self.words c.len-top.result c.len-end.result
    (subst (λ (n : ℕ). AreExpansionsAdded m window (drop base old) width n old words) all c.loop-k.invariant.added) c.len-top.ensures c.len-end.ensures (ap (λ (b : Board). b.words) c.collapse.ensures)
