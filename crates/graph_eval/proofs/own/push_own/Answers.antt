-- The node reads the words that were there, and its list stands behind them.
use Rattle.std.proofs.Common.{◌≡◌, ℕ, ◌<◌, List, All, Bool, MatchBool, Some, length, sym, ◌∙◌, ap, subst, length-append, arith}
use Rattle.std.specs.Prelude.{IfErr, OnOk}
use Rattle.std.proofs.lemmas.List.Elements.{All-same}
use Rattle.prime_field.specs.Modulus.{value_of}
use Rattle.prime_field.specs.Residue.{IsPrime}
use Rattle.graph_file.specs.Needed.{sources_of}
use Rattle.graph_eval.specs.declared.outcome.Cause.TheVariants.{System}
use Rattle.graph_eval.specs.Evaluated.{no_graphs}
use Rattle.graph_eval.specs.GraphValue.{KindFails, KindGives, NodeFails, meanings}
use Rattle.graph_eval.specs.Learned.{listed_length, sets_of, sizes_of}
use Rattle.graph_eval.specs.Reading.{IsThere, placed}
use Rattle.graph_eval.proofs.Adding.{added_alone, failed_alone, told_within}
use Rattle.graph_eval.proofs.EvaluationLaws.{fails_alone}
use Rattle.graph_eval.proofs.OwnLaws.{front_kept, written_behind}
use Rattle.graph_eval.proofs.Standing.{added_here, failed_here}
use Rattle.graph_eval.proofs.own.push_own.Goals as goal

pub write_list-requires-clause-there : goal.write_list-requires-clause-there
write_list-requires-clause-there c =
    let before_is = c.split_at_mut-before.ensures.front ∙ front_kept c.args.words.now.items c.as_mut_slice.result.now _ c.len-len.result c.args.count (omega (arith, c.len-len.ensures, c.args.words.now.ok)) (c.as_mut_slice.ensures.value ∙ c.in_ok-resize.ensures.items) in
    subst (λ (ws : List ℕ). All (IsThere ws c.args.places.now) (sources_of c.args.node.now.kind)) (sym before_is) c.requires.there

pub write_list-requires-clause-residues : goal.write_list-requires-clause-residues
write_list-requires-clause-residues c =
    let before_is = c.split_at_mut-before.ensures.front ∙ front_kept c.args.words.now.items c.as_mut_slice.result.now _ c.len-len.result c.args.count (omega (arith, c.len-len.ensures, c.args.words.now.ok)) (c.as_mut_slice.ensures.value ∙ c.in_ok-resize.ensures.items) in
    All-same (λ x. x < value_of c.args.m) _ _ before_is c.requires.residues

pub write_list-requires-clause-room : goal.write_list-requires-clause-room
write_list-requires-clause-room c =
    let before_is = c.split_at_mut-before.ensures.front ∙ front_kept c.args.words.now.items c.as_mut_slice.result.now _ c.len-len.result c.args.count (omega (arith, c.len-len.ensures, c.args.words.now.ok)) (c.as_mut_slice.ensures.value ∙ c.in_ok-resize.ensures.items) in
    let long : length c.split_at_mut-before.result.1.now ≡ c.args.count = omega (arith, c.split_at_mut-before.ensures.back_len, c.as_mut_slice.ensures.len, c.in_ok-resize.ensures.len, c.len-len.ensures) in
    let has = subst (λ (b : Bool). MatchBool b (listed_length (sizes_of c.args.graphs.now c.args.learned.now) (placed c.args.words.now.items c.args.places.now) c.args.own.now.set c.args.node.now.kind ≡ Some c.args.count) (c.args.count ≡ 0)) c.if-not-node.false c.requires.room in
    ((sizes_of c.args.graphs.now c.args.learned.now), ap (λ ws. listed_length (sizes_of c.args.graphs.now c.args.learned.now) (placed ws c.args.places.now) c.as_slice-set.result.now c.args.node.now.kind) before_is ∙ ap (λ s. listed_length (sizes_of c.args.graphs.now c.args.learned.now) (placed c.args.words.now.items c.args.places.now) s c.args.node.now.kind) c.as_slice-set.ensures ∙ has ∙ ap (λ n. Some n) (sym long))

pub returns-clause-ok : goal.returns-clause-ok
returns-clause-ok c =
    let m = value_of c.args.m in
    let node = c.args.node.now in
    let set = c.args.own.now.set in
    let words = c.args.words.now.items in
    let places = c.args.places.now in
    let before_is = c.split_at_mut-before.ensures.front ∙ front_kept words c.as_mut_slice.result.now _ c.len-len.result c.args.count (omega (arith, c.len-len.ensures, c.args.words.now.ok)) (c.as_mut_slice.ensures.value ∙ c.in_ok-resize.ensures.items) in
    let out = c.write_list.new.out in
    let long : length out ≡ c.args.count = omega (arith, c.write_list.auto.out, c.split_at_mut-before.ensures.back_len, c.as_mut_slice.ensures.len, c.in_ok-resize.ensures.len, c.len-len.ensures) in
    let gives : OnOk c.write_list.result (IsPrime m → KindGives m no_graphs set (placed words places) node.kind out) =
    subst (λ (ws : List ℕ). OnOk c.write_list.result (IsPrime m → KindGives m no_graphs set (placed ws places) node.kind out)) before_is
    (subst (λ (s : List ℕ). OnOk c.write_list.result (IsPrime m → KindGives m no_graphs s (placed c.split_at_mut-before.result.0.now places) node.kind out)) c.as_slice-set.ensures c.write_list.ensures.ok) in
    added_alone m (meanings (value_of c.args.m) c.args.graphs.now (sets_of c.args.learned.now) (length c.args.learned.now)) set (placed words places) node c.args.count words _ c.write_list.result (added_here m set (placed words places) node c.args.count words _ out c.write_list.result c.if-not-node.false gives c.write_list.ensures.residues long
    (written_behind words c.split_at_mut-before.result.0.now out c.resize.new.self.items c.resize.new.self.len before_is (omega (arith, long, length-append c.split_at_mut-before.result.0.now out, c.split_at_mut-before.ensures.front_len, c.in_ok-resize.ensures.len, c.len-len.ensures))))

pub returns-clause-err : goal.returns-clause-err
returns-clause-err c =
    let m = value_of c.args.m in
    let node = c.args.node.now in
    let set = c.args.own.now.set in
    let words = c.args.words.now.items in
    let places = c.args.places.now in
    let before_is = c.split_at_mut-before.ensures.front ∙ front_kept words c.as_mut_slice.result.now _ c.len-len.result c.args.count (omega (arith, c.len-len.ensures, c.args.words.now.ok)) (c.as_mut_slice.ensures.value ∙ c.in_ok-resize.ensures.items) in
    let fails : IfErr c.write_list.result (λ cause. IsPrime m → KindFails m no_graphs set (placed words places) node.kind cause) =
    subst (λ (ws : List ℕ). IfErr c.write_list.result (λ cause. IsPrime m → KindFails m no_graphs set (placed ws places) node.kind cause)) before_is
    (subst (λ (s : List ℕ). IfErr c.write_list.result (λ cause. IsPrime m → KindFails m no_graphs s (placed c.split_at_mut-before.result.0.now places) node.kind cause)) c.as_slice-set.ensures c.write_list.ensures.err) in
    failed_alone m (meanings (value_of c.args.m) c.args.graphs.now (sets_of c.args.learned.now) (length c.args.learned.now)) set (placed words places) node c.write_list.result (failed_here m set (placed words places) node c.write_list.result c.if-not-node.false fails)

pub returns-then-not-own-clause-err : goal.returns-then-not-own-clause-err
returns-then-not-own-clause-err c = λ prime.
    let list = placed c.args.words.now.items c.args.places.now in
    let set = c.args.own.now.set in
    let count = c.args.count in
    let needed = c.requires.plan.needed c.if-not-own.true in
    let has = subst (λ (b : Bool). MatchBool b (listed_length (sizes_of c.args.graphs.now c.args.learned.now) list set c.args.node.now.kind ≡ Some count) (count ≡ 0)) needed c.requires.room in
    let at = c.requires.plan.fails c.if-not-own.true (sizes_of c.args.graphs.now c.args.learned.now) count has prime in
    (at.0, fails_alone (value_of c.args.m) (meanings (value_of c.args.m) c.args.graphs.now (sets_of c.args.learned.now) (length c.args.learned.now)) set list c.args.node.now.kind System at.1)

pub returns-then-calls-clause-err : goal.returns-then-calls-clause-err
returns-then-calls-clause-err c =
    told_within (value_of c.args.m) (λ set cause. NodeFails (value_of c.args.m) (meanings (value_of c.args.m) c.args.graphs.now (sets_of c.args.learned.now) (length c.args.learned.now)) set (placed c.args.words.now.items c.args.places.now) c.args.node.now cause) c.push_called.result c.args.own.now.set c.push_called.ensures.err
