-- Each node's rule answers on the lengths before it.
use Rattle.std.proofs.Common.{◌≡◌, ℕ, [], length, refl, sym, ◌∙◌, ap, subst, arith}
use Rattle.graph_file.specs.Sound.{IsKind}
use Rattle.graph_eval.specs.Learned.{AreEmpty, AreNone}
use Rattle.graph_eval.proofs.LengthLaws.{fails_here, fits_plain, one_more}
use Rattle.graph_eval.proofs.Places.{read_at}
use Rattle.graph_eval.proofs.ShapeLaws.{empty_set_for}
use Rattle.graph_eval.proofs.lengths.graph_lengths.Goals as goal

pub node_length-requires-clause-sound : goal.node_length-requires-clause-sound
node_length-requires-clause-sound c =
    let place = c.loop-place.place in
    let node = c.node-item.result in
    let is = read_at c.as_slice-node-items.result.now c.args.graph.now.nodes place node c.as_slice-node-items.ensures c.loop-place-test.true c.node-item.is in
    let kind = (c.requires.sound.nodes place node is).kind in
    let many : length c.as_slice.result.now ≡ place = ap length c.as_slice.ensures.value ∙ c.loop-place.invariant.many in
    subst (λ (n : ℕ). IsKind n (length c.as_slice.result.now) node.kind) (sym c.len-inputs.ensures) (subst (λ (n : ℕ). IsKind (length c.args.graph.now.inputs) n node.kind) (sym many) kind)

pub node_length-requires-clause-set : goal.node_length-requires-clause-set
node_length-requires-clause-set c = empty_set_for c.node-item.result

pub returns-in_default : goal.returns-in_default
returns-in_default c =
    let place = c.loop-place.place in
    let node = c.node-item.result in
    let is = read_at c.as_slice-node-items.result.now c.args.graph.now.nodes place node c.as_slice-node-items.ensures c.loop-place-test.true c.node-item.is in
    fails_here c.args.sizes.now c.args.graph.now c.loop-place.lengths.items place c.loop-place.total c.len-inputs.result c.as_slice.result.now node c.in_ok-own.field-0 c.loop-place.invariant is
    c.len-inputs.ensures c.as_slice.ensures.value c.in_ok-own.ensures.value c.in_default.is

pub loop-place-preserved : goal.loop-place-preserved
loop-place-preserved c =
    let place = c.loop-place.place in
    let node = c.node-item.result in
    let is = read_at c.as_slice-node-items.result.now c.args.graph.now.nodes place node c.as_slice-node-items.ensures c.loop-place-test.true c.node-item.is in
    one_more c.args.sizes.now c.args.graph.now [] c.loop-place.lengths.items place c.loop-place.total c.len-inputs.result c.as_slice.result.now [] node c.in_ok-own.field-0 c.loop-place.invariant is
    c.len-inputs.ensures c.as_slice.ensures.value refl c.in_ok-own.ensures.value c.in-Some.own c.push.new.self.items c.in-Some.is c.in_ok-own.ensures.limit c.in_ok-own.ensures.bound c.in_ok-push.ensures.items

pub returns : goal.returns
returns c =
    let all : c.loop-place.place ≡ length c.args.graph.now.nodes = omega (arith, c.loop-place-test.false, c.loop-place.auto.place-end, ap length c.as_slice-node-items.ensures) in
    let empty : AreEmpty c.len.result c.learned_of.result.sets = subst (AreEmpty c.len.result) (sym c.learned_of.ensures.sets) c.in_ok-sets.ensures in
    let none : AreNone c.len.result c.learned_of.result.plans = subst (λ (n : ℕ). AreNone n c.learned_of.result.plans) (c.len-2.ensures ∙ sym c.len.ensures) (subst (AreNone c.len-2.result) (sym c.learned_of.ensures.plans) c.in_ok-plans.ensures) in (
      c.learned_of.ensures.point,
      fits_plain c.args.sizes.now c.args.graph.now c.loop-place.lengths.items c.loop-place.place c.loop-place.total c.len-inputs.result c.len.result c.learned_of.result c.requires.plain c.loop-place.invariant all c.len-inputs.ensures c.len.ensures empty none
          c.learned_of.ensures.lengths c.learned_of.ensures.output,
    )
