-- Each node is learned on the lists, lengths and sets before it.
use Rattle.std.proofs.Common.{◌≡◌, ℕ, List, [], ◌∷◌, ◌++◌, length, refl, sym, ◌∙◌, ap, subst, arith}
use Rattle.prime_field.specs.Modulus.{value_of}
use Rattle.prime_field.specs.Residue.{IsPrime}
use Rattle.graph_file.specs.Sound.{IsKind}
use Rattle.graph_file.specs.declared.graph.NodeKind.{NodeKind}
use Rattle.graph_file.specs.declared.graph.Source.{Source}
use Rattle.graph_eval.specs.Fresh.{HasPlanOrFails, NodeLearns}
use Rattle.graph_eval.specs.GraphValue.{NodeFails, meanings, named}
use Rattle.graph_eval.specs.Learned.{AreFew, HasOwnLength, node_length, sets_of}
use Rattle.graph_eval.specs.Reading.{placed}
use Rattle.graph_eval.specs.Systems.{AreEnoughFor}
use Rattle.graph_eval.specs.declared.shapes.GraphSize.{GraphSize}
use Rattle.graph_eval.proofs.FreshLaws.{LearnedStand-more, LearnedStand-none, breaks_here, breaks_needed, learned_all, learned_fits, singular_here, stands_low, stands_named, stands_room, stands_sound, stands_there}
use Rattle.graph_eval.proofs.LengthLaws.{PlansSoFar, PlansSoFar-more, PlansSoFar-none}
use Rattle.std.proofs.lemmas.Option.{slice_get_within}
use Rattle.graph_eval.proofs.Places.{read_at}
use Rattle.graph_eval.proofs.ShapeLaws.{sizes_few}
use Rattle.graph_eval.proofs.Standing.{output_earlier}
use Rattle.graph_eval.proofs.fresh.learn_graph.Goals as goal

-- the node at hand is sound behind so many others
sound_at : (inputs variables count place : ℕ) (kind : NodeKind) → IsKind variables place kind → inputs ≡ variables → count ≡ place → IsKind inputs count kind
sound_at inputs variables count place kind sound inputs_is count_is =
    subst (λ (n : ℕ). IsKind n count kind) (sym inputs_is) (subst (λ (n : ℕ). IsKind variables n kind) (sym count_is) sound)

pub learn_node-requires-clause-sound : goal.learn_node-requires-clause-sound
learn_node-requires-clause-sound c =
    let place = c.loop-place.place in
    let node = c.node-item.result in
    let is = read_at c.as_slice-node-items.result.now c.args.graph.now.nodes place node c.as_slice-node-items.ensures c.loop-place-test.true c.node-item.is in
    stands_sound c.args.sizes.now (meanings (value_of c.args.m) c.args.graphs.now (sets_of c.args.learned.now) (length c.args.learned.now)) (value_of c.args.m) c.args.graph.now c.args.inputs.now c.loop-place.sets.items c.loop-place.lengths.items c.loop-place.words.items c.loop-place.places.items c.loop-place.place c.loop-place.total c.loop-place.invariant.stands c.as_slice.result.now c.as_slice-before.result.now c.as_slice.ensures.value c.as_slice-before.ensures.value node.kind ((c.requires.sound.graph (length c.args.learned.now) c.args.graph.now c.requires.is).nodes place node is).kind c.requires.entries

pub learn_node-requires-clause-there : goal.learn_node-requires-clause-there
learn_node-requires-clause-there c =
    let place = c.loop-place.place in
    let node = c.node-item.result in
    let is = read_at c.as_slice-node-items.result.now c.args.graph.now.nodes place node c.as_slice-node-items.ensures c.loop-place-test.true c.node-item.is in
    stands_there c.args.sizes.now (meanings (value_of c.args.m) c.args.graphs.now (sets_of c.args.learned.now) (length c.args.learned.now)) (value_of c.args.m) c.args.graph.now c.args.inputs.now c.loop-place.sets.items c.loop-place.lengths.items c.loop-place.words.items c.loop-place.places.items c.loop-place.place c.loop-place.total c.loop-place.invariant.stands c.as_slice.result.now c.as_slice-before.result.now c.as_slice.ensures.value c.as_slice-before.ensures.value node.kind ((c.requires.sound.graph (length c.args.learned.now) c.args.graph.now c.requires.is).nodes place node is).kind c.requires.entries

pub learn_node-requires-clause-work : goal.learn_node-requires-clause-work
learn_node-requires-clause-work c =
    let place = c.loop-place.place in
    let node = c.node-item.result in
    let is = read_at c.as_slice-node-items.result.now c.args.graph.now.nodes place node c.as_slice-node-items.ensures c.loop-place-test.true c.node-item.is in
    λ needed. omega (arith, (c.requires.enough.graph (length c.args.learned.now) c.args.graph.now c.requires.is).each place node is needed, c.loop-place.auto.work)

pub learn_node-requires-clause-residues : goal.learn_node-requires-clause-residues
learn_node-requires-clause-residues c = stands_low c.args.sizes.now (meanings (value_of c.args.m) c.args.graphs.now (sets_of c.args.learned.now) (length c.args.learned.now)) (value_of c.args.m) c.args.graph.now c.args.inputs.now c.loop-place.sets.items c.loop-place.lengths.items c.loop-place.words.items c.loop-place.places.items c.loop-place.place c.loop-place.total c.loop-place.invariant.stands c.as_slice.result.now c.as_slice-before.result.now c.as_slice.ensures.value c.as_slice-before.ensures.value c.requires.residues

pub node_length-requires-clause-sound : goal.node_length-requires-clause-sound
node_length-requires-clause-sound c =
    let place = c.loop-place.place in
    let node = c.node-item.result in
    let is = read_at c.as_slice-node-items.result.now c.args.graph.now.nodes place node c.as_slice-node-items.ensures c.loop-place-test.true c.node-item.is in
    sound_at _ _ _ place node.kind ((c.requires.sound.graph (length c.args.learned.now) c.args.graph.now c.requires.is).nodes place node is).kind c.requires.entries (ap length c.as_slice-earlier.ensures.value ∙ c.loop-place.invariant.stands.so_far.measured.many)

pub push_own-requires-clause-sound : goal.push_own-requires-clause-sound
push_own-requires-clause-sound c =
    let place = c.loop-place.place in
    let node = c.node-item.result in
    let is = read_at c.as_slice-node-items.result.now c.args.graph.now.nodes place node c.as_slice-node-items.ensures c.loop-place-test.true c.node-item.is in
    stands_sound c.args.sizes.now (meanings (value_of c.args.m) c.args.graphs.now (sets_of c.args.learned.now) (length c.args.learned.now)) (value_of c.args.m) c.args.graph.now c.args.inputs.now c.loop-place.sets.items c.loop-place.lengths.items c.loop-place.words.items c.loop-place.places.items c.loop-place.place c.loop-place.total c.loop-place.invariant.stands c.loop-place.words.items c.as_slice-before.result.now refl c.as_slice-before.ensures.value node.kind ((c.requires.sound.graph (length c.args.learned.now) c.args.graph.now c.requires.is).nodes place node is).kind c.requires.entries

pub push_own-requires-clause-there : goal.push_own-requires-clause-there
push_own-requires-clause-there c =
    let place = c.loop-place.place in
    let node = c.node-item.result in
    let is = read_at c.as_slice-node-items.result.now c.args.graph.now.nodes place node c.as_slice-node-items.ensures c.loop-place-test.true c.node-item.is in
    stands_there c.args.sizes.now (meanings (value_of c.args.m) c.args.graphs.now (sets_of c.args.learned.now) (length c.args.learned.now)) (value_of c.args.m) c.args.graph.now c.args.inputs.now c.loop-place.sets.items c.loop-place.lengths.items c.loop-place.words.items c.loop-place.places.items c.loop-place.place c.loop-place.total c.loop-place.invariant.stands c.loop-place.words.items c.as_slice-before.result.now refl c.as_slice-before.ensures.value node.kind ((c.requires.sound.graph (length c.args.learned.now) c.args.graph.now c.requires.is).nodes place node is).kind c.requires.entries

pub push_own-requires-clause-plan : goal.push_own-requires-clause-plan
push_own-requires-clause-plan c =
    subst (λ (ws : List ℕ). HasPlanOrFails (value_of c.args.m) (placed ws c.as_slice-before.result.now) c.node-item.result c.in_ok-own.own) c.as_slice.ensures.value c.in_ok-own.ensures.plan

pub push_own-requires-clause-work : goal.push_own-requires-clause-work
push_own-requires-clause-work c =
    let place = c.loop-place.place in
    let node = c.node-item.result in
    let is = read_at c.as_slice-node-items.result.now c.args.graph.now.nodes place node c.as_slice-node-items.ensures c.loop-place-test.true c.node-item.is in
    λ needed. omega (arith, (c.requires.enough.graph (length c.args.learned.now) c.args.graph.now c.requires.is).each place node is needed, c.loop-place.auto.work, c.learn_node.auto.work)

pub push_own-requires-clause-residues : goal.push_own-requires-clause-residues
push_own-requires-clause-residues c = stands_low c.args.sizes.now (meanings (value_of c.args.m) c.args.graphs.now (sets_of c.args.learned.now) (length c.args.learned.now)) (value_of c.args.m) c.args.graph.now c.args.inputs.now c.loop-place.sets.items c.loop-place.lengths.items c.loop-place.words.items c.loop-place.places.items c.loop-place.place c.loop-place.total c.loop-place.invariant.stands c.loop-place.words.items c.as_slice-before.result.now refl c.as_slice-before.ensures.value c.requires.residues

pub push_own-requires-clause-room : goal.push_own-requires-clause-room
push_own-requires-clause-room c =
    let node = c.node-item.result in
    let inputs = length c.args.inputs.now in
    subst (λ (sizes : List GraphSize). HasOwnLength sizes (placed c.loop-place.words.items c.as_slice-before.result.now) c.in_ok-own.own.set node c.in-Some.count) c.requires.sizes_are (stands_room c.args.sizes.now (meanings (value_of c.args.m) c.args.graphs.now (sets_of c.args.learned.now) (length c.args.learned.now)) (value_of c.args.m) c.args.graph.now c.args.inputs.now c.loop-place.sets.items c.loop-place.lengths.items c.loop-place.words.items c.loop-place.places.items c.loop-place.place c.loop-place.total c.loop-place.invariant.stands c.loop-place.words.items c.as_slice-before.result.now refl c.as_slice-before.ensures.value c.in_ok-own.own.set node c.in-Some.count
    (ap (λ ls. node_length c.args.sizes.now inputs ls c.in_ok-own.own.set node) (sym c.as_slice-earlier.ensures.value) ∙ ap (λ s. node_length c.args.sizes.now inputs c.as_slice-earlier.result.now s node) (sym c.as_slice-set.ensures) ∙ sym c.in_ok-count.ensures.value ∙ c.in-Some.is))

pub loop-place-init : goal.loop-place-init
loop-place-init c = record {
  stands = LearnedStand-none c.args.sizes.now (meanings (value_of c.args.m) c.args.graphs.now (sets_of c.args.learned.now) (length c.args.learned.now)) (value_of c.args.m) c.args.graph.now c.args.inputs.now c.new-sets.result.items c.new-lengths.result.items c.in_ok-words.words.items c.push.new.self.items c.new-sets.ensures.items c.new-lengths.ensures.items c.in_ok-words.ensures.items
      (c.in_ok-push.ensures.items ∙ ap (λ ps. ps ++ length c.args.inputs.now ∷ []) c.new-places.ensures.items);
  plans = subst (λ ps. PlansSoFar c.args.graph.now.nodes c.new-sets.result.items ps 0) (sym c.new-plans.ensures.items) (subst (λ ss. PlansSoFar c.args.graph.now.nodes ss [] 0) (sym c.new-sets.ensures.items) (PlansSoFar-none c.args.graph.now.nodes));
}

pub returns-in_default-clause-fresh : goal.returns-in_default-clause-fresh
returns-in_default-clause-fresh c =
    let m = value_of c.args.m in
    let place = c.loop-place.place in
    let node = c.node-item.result in
    let is = read_at c.as_slice-node-items.result.now c.args.graph.now.nodes place node c.as_slice-node-items.ensures c.loop-place-test.true c.node-item.is in
    let set = c.in_ok-own.own.set in
    let stands = c.loop-place.invariant.stands in
    let names = stands_named c.args.sizes.now (meanings (value_of c.args.m) c.args.graphs.now (sets_of c.args.learned.now) (length c.args.learned.now)) (value_of c.args.m) c.args.graph.now c.args.inputs.now c.loop-place.sets.items c.loop-place.lengths.items c.loop-place.words.items c.loop-place.places.items c.loop-place.place c.loop-place.total c.loop-place.invariant.stands c.as_slice.result.now c.as_slice-before.result.now c.as_slice.ensures.value c.as_slice-before.ensures.value in
    let own : IsPrime m → NodeLearns m (named c.args.inputs.now stands.lists) node set = λ prime. subst (λ (list : Source → List ℕ). NodeLearns m list node set) names (c.in_ok-own.ensures.own prime) in
    let rule = c.in_ok-count.ensures.value ∙ ap (λ s. node_length c.args.sizes.now (length c.args.inputs.now) c.as_slice-earlier.result.now s node) c.as_slice-set.ensures in
    breaks_here c.args.sizes.now (meanings (value_of c.args.m) c.args.graphs.now (sets_of c.args.learned.now) (length c.args.learned.now)) m c.args.graph.now c.args.inputs.now c.loop-place.sets.items c.loop-place.lengths.items stands.lists place c.loop-place.total node set stands.so_far is own
    (length c.args.inputs.now) c.requires.entries c.as_slice-earlier.result.now c.as_slice-earlier.ensures.value c.in_ok-count.field-0 rule c.in_default.is

pub returns-in_default-clause-fits : goal.returns-in_default-clause-fits
returns-in_default-clause-fits c =
    let m = value_of c.args.m in
    let place = c.loop-place.place in
    let node = c.node-item.result in
    let is = read_at c.as_slice-node-items.result.now c.args.graph.now.nodes place node c.as_slice-node-items.ensures c.loop-place-test.true c.node-item.is in
    let set = c.in_ok-own.own.set in
    let stands = c.loop-place.invariant.stands in
    let names = stands_named c.args.sizes.now (meanings (value_of c.args.m) c.args.graphs.now (sets_of c.args.learned.now) (length c.args.learned.now)) (value_of c.args.m) c.args.graph.now c.args.inputs.now c.loop-place.sets.items c.loop-place.lengths.items c.loop-place.words.items c.loop-place.places.items c.loop-place.place c.loop-place.total c.loop-place.invariant.stands c.as_slice.result.now c.as_slice-before.result.now c.as_slice.ensures.value c.as_slice-before.ensures.value in
    let own : IsPrime m → NodeLearns m (named c.args.inputs.now stands.lists) node set = λ prime. subst (λ (list : Source → List ℕ). NodeLearns m list node set) names (c.in_ok-own.ensures.own prime) in
    let rule = c.in_ok-count.ensures.value ∙ ap (λ s. node_length c.args.sizes.now (length c.args.inputs.now) c.as_slice-earlier.result.now s node) c.as_slice-set.ensures in
    breaks_needed c.args.sizes.now (meanings (value_of c.args.m) c.args.graphs.now (sets_of c.args.learned.now) (length c.args.learned.now)) m c.args.graph.now c.args.inputs.now c.loop-place.sets.items c.loop-place.lengths.items stands.lists place c.loop-place.total node set stands.so_far is own
    (length c.args.inputs.now) c.requires.entries c.as_slice-earlier.result.now c.as_slice-earlier.ensures.value c.in_ok-count.field-0 rule c.in_default.is

pub returns-in-Err-clause-fresh : goal.returns-in-Err-clause-fresh
returns-in-Err-clause-fresh c =
    let m = value_of c.args.m in
    let place = c.loop-place.place in
    let node = c.node-item.result in
    let is = read_at c.as_slice-node-items.result.now c.args.graph.now.nodes place node c.as_slice-node-items.ensures c.loop-place-test.true c.node-item.is in
    let set = c.in_ok-own.own.set in
    let stands = c.loop-place.invariant.stands in
    let names = stands_named c.args.sizes.now (meanings (value_of c.args.m) c.args.graphs.now (sets_of c.args.learned.now) (length c.args.learned.now)) (value_of c.args.m) c.args.graph.now c.args.inputs.now c.loop-place.sets.items c.loop-place.lengths.items c.loop-place.words.items c.loop-place.places.items c.loop-place.place c.loop-place.total c.loop-place.invariant.stands c.as_slice.result.now c.as_slice-before.result.now c.as_slice.ensures.value c.as_slice-before.ensures.value in
    let own : IsPrime m → NodeLearns m (named c.args.inputs.now stands.lists) node set = λ prime. subst (λ (list : Source → List ℕ). NodeLearns m list node set) names (c.in_ok-own.ensures.own prime) in
    let rule = c.in_ok-count.ensures.value ∙ ap (λ s. node_length c.args.sizes.now (length c.args.inputs.now) c.as_slice-earlier.result.now s node) c.as_slice-set.ensures in
    let here = stands_named c.args.sizes.now (meanings (value_of c.args.m) c.args.graphs.now (sets_of c.args.learned.now) (length c.args.learned.now)) (value_of c.args.m) c.args.graph.now c.args.inputs.now c.loop-place.sets.items c.loop-place.lengths.items c.loop-place.words.items c.loop-place.places.items c.loop-place.place c.loop-place.total c.loop-place.invariant.stands c.loop-place.words.items c.as_slice-before.result.now refl c.as_slice-before.ensures.value in
    let fails : IsPrime m → NodeFails m (meanings (value_of c.args.m) c.args.graphs.now (sets_of c.args.learned.now) (length c.args.learned.now)) set (named c.args.inputs.now stands.lists) node c.in-Err.cause = λ prime. subst (λ (list : Source → List ℕ). NodeFails m (meanings (value_of c.args.m) c.args.graphs.now (sets_of c.args.learned.now) (length c.args.learned.now)) set list node c.in-Err.cause) here ((rw c.in-Err.is at c.in_ok-cause.ensures.err) prime) in
    singular_here c.args.sizes.now (meanings (value_of c.args.m) c.args.graphs.now (sets_of c.args.learned.now) (length c.args.learned.now)) m c.args.graph.now c.args.inputs.now c.loop-place.sets.items c.loop-place.lengths.items stands.lists place c.loop-place.total node set stands.so_far is own
    (length c.args.inputs.now) c.requires.entries c.as_slice-earlier.result.now c.as_slice-earlier.ensures.value c.in_ok-count.field-0 rule c.in-Some.count c.in-Err.cause c.in-Some.is fails

pub returns-in-Err-clause-fits : goal.returns-in-Err-clause-fits
returns-in-Err-clause-fits c =
    let place = c.loop-place.place in
    let node = c.node-item.result in
    let is = read_at c.as_slice-node-items.result.now c.args.graph.now.nodes place node c.as_slice-node-items.ensures c.loop-place-test.true c.node-item.is in
    (node, is, rw c.in-Err.is at c.in_ok-cause.ensures.needed)

pub loop-place-preserved : goal.loop-place-preserved
loop-place-preserved c =
    let m = value_of c.args.m in
    let place = c.loop-place.place in
    let node = c.node-item.result in
    let is = read_at c.as_slice-node-items.result.now c.args.graph.now.nodes place node c.as_slice-node-items.ensures c.loop-place-test.true c.node-item.is in
    let set = c.in_ok-own.own.set in
    let stands = c.loop-place.invariant.stands in
    let names = stands_named c.args.sizes.now (meanings (value_of c.args.m) c.args.graphs.now (sets_of c.args.learned.now) (length c.args.learned.now)) (value_of c.args.m) c.args.graph.now c.args.inputs.now c.loop-place.sets.items c.loop-place.lengths.items c.loop-place.words.items c.loop-place.places.items c.loop-place.place c.loop-place.total c.loop-place.invariant.stands c.as_slice.result.now c.as_slice-before.result.now c.as_slice.ensures.value c.as_slice-before.ensures.value in
    let own : IsPrime m → NodeLearns m (named c.args.inputs.now stands.lists) node set = λ prime. subst (λ (list : Source → List ℕ). NodeLearns m list node set) names (c.in_ok-own.ensures.own prime) in
    let rule = c.in_ok-count.ensures.value ∙ ap (λ s. node_length c.args.sizes.now (length c.args.inputs.now) c.as_slice-earlier.result.now s node) c.as_slice-set.ensures in
    let here = stands_named c.args.sizes.now (meanings (value_of c.args.m) c.args.graphs.now (sets_of c.args.learned.now) (length c.args.learned.now)) (value_of c.args.m) c.args.graph.now c.args.inputs.now c.loop-place.sets.items c.loop-place.lengths.items c.loop-place.words.items c.loop-place.places.items c.loop-place.place c.loop-place.total c.loop-place.invariant.stands c.loop-place.words.items c.as_slice-before.result.now refl c.as_slice-before.ensures.value in
    let read = c.loop-place.words.items in
    let table = c.as_slice-before.result.now in
    let added = rw c.in_default-2.is at c.in_ok-cause.ensures.ok in
    let planned = rw c.in_default-2.is at c.in_ok-cause.ensures.planned in
    let own_here : IsPrime m → NodeLearns m (placed read table) node set = λ prime. subst (λ (ws : List ℕ). NodeLearns m (placed ws table) node set) c.as_slice.ensures.value (c.in_ok-own.ensures.own prime) in
    record {
      stands = LearnedStand-more c.args.sizes.now (meanings (value_of c.args.m) c.args.graphs.now (sets_of c.args.learned.now) (length c.args.learned.now)) m c.args.graph.now c.args.inputs.now c.loop-place.sets.items c.loop-place.lengths.items c.loop-place.words.items c.loop-place.places.items place c.loop-place.total stands node set (placed read table) is here own_here
          (length c.args.inputs.now) c.requires.entries c.as_slice-earlier.result.now c.as_slice-earlier.ensures.value c.in_ok-count.field-0 rule c.in-Some.count c.push-in-loop-place-2.new.self.items c.push-in-loop-place-4.new.self.items c.push_own.new.words.items c.push-in-loop-place.new.self.items
          c.in_ok-own.ensures.fits c.in-Some.is c.in_ok-count.ensures.limit c.in_ok-count.ensures.bound added c.in_ok-push-3.ensures.items c.in_ok-push-5.ensures.items c.in_ok-push-2.ensures.items;
      plans = PlansSoFar-more c.args.graph.now.nodes c.loop-place.sets.items c.push-in-loop-place-2.new.self.items c.loop-place.plans.items c.push-in-loop-place-3.new.self.items place node set c.in_ok-own.own.plan c.loop-place.invariant.plans stands.so_far.many is planned c.in_ok-push-3.ensures.items c.in_ok-push-4.ensures.items;
    }

pub returns-clause-fits : goal.returns-clause-fits
returns-clause-fits c =
    let stands = c.loop-place.invariant.stands in
    let all : c.loop-place.place ≡ length c.args.graph.now.nodes = omega (arith, c.loop-place-test.false, c.loop-place.auto.place-end, ap length c.as_slice-node-items.ensures) in (
      c.learned_of.ensures.point,
      learned_fits c.args.sizes.now (meanings (value_of c.args.m) c.args.graphs.now (sets_of c.args.learned.now) (length c.args.learned.now)) (value_of c.args.m) c.args.graph.now c.args.inputs.now c.loop-place.sets.items c.loop-place.plans.items c.loop-place.lengths.items stands.lists c.loop-place.place c.loop-place.total (length c.args.inputs.now) c.learned_of.result stands.so_far all c.requires.entries
          c.loop-place.invariant.plans (c.learned_of.ensures.sets ∙ c.from_vec-sets.ensures) (c.learned_of.ensures.plans ∙ c.from_vec-plans.ensures) c.learned_of.ensures.lengths c.learned_of.ensures.output,
    )

pub returns-clause-fresh : goal.returns-clause-fresh
returns-clause-fresh c =
    let stands = c.loop-place.invariant.stands in
    let all : c.loop-place.place ≡ length c.args.graph.now.nodes = omega (arith, c.loop-place-test.false, c.loop-place.auto.place-end, ap length c.as_slice-node-items.ensures) in
    learned_all c.args.sizes.now (meanings (value_of c.args.m) c.args.graphs.now (sets_of c.args.learned.now) (length c.args.learned.now)) (value_of c.args.m) c.args.graph.now c.args.inputs.now c.loop-place.sets.items c.loop-place.plans.items c.loop-place.lengths.items stands.lists c.loop-place.place c.loop-place.total (length c.args.inputs.now) c.learned_of.result stands.so_far all c.requires.entries
    c.loop-place.invariant.plans (c.learned_of.ensures.sets ∙ c.from_vec-sets.ensures) (c.learned_of.ensures.plans ∙ c.from_vec-plans.ensures) c.learned_of.ensures.lengths c.learned_of.ensures.output c.learned_of.ensures.point

pub node_length-requires-clause-sizes : goal.node_length-requires-clause-sizes
node_length-requires-clause-sizes c = subst AreFew (sym c.requires.sizes_are) (sizes_few c.args.graphs.now c.args.learned.now c.requires.sound.graph)

pub push_own-requires-clause-calls : goal.push_own-requires-clause-calls
push_own-requires-clause-calls c =
    let place = c.loop-place.place in
    let node = c.node-item.result in
    let is = read_at c.as_slice-node-items.result.now c.args.graph.now.nodes place node c.as_slice-node-items.ensures c.loop-place-test.true c.node-item.is in
    λ called at. c.requires.earlier.graph (length c.args.learned.now) c.args.graph.now c.requires.is place node called is at

pub push_own-requires-clause-enough : goal.push_own-requires-clause-enough
push_own-requires-clause-enough c =
    subst (AreEnoughFor c.args.graphs.now) (let e : length c.args.work.now ≡ length c.learn_node.new.work = omega (arith, c.loop-place.auto.work, c.learn_node.auto.work) in e) c.requires.enough

pub push_own-requires-clause-within : goal.push_own-requires-clause-within
push_own-requires-clause-within c = slice_get_within c.args.graphs.now (length c.args.learned.now) c.args.graph.now c.requires.is

pub node_length-requires-clause-few : goal.node_length-requires-clause-few
node_length-requires-clause-few c = omega (arith, c.requires.entries, (c.requires.sound.graph (length c.args.learned.now) c.args.graph.now c.requires.is).few)

pub overflow_cast-result : goal.overflow_cast-result
overflow_cast-result c = omega (arith, (c.requires.sound.graph (length c.args.learned.now) c.args.graph.now c.requires.is).bounded, c.loop-place-test.true, ap length c.as_slice-node-items.ensures)

pub overflow_cast-result-in-Err : goal.overflow_cast-result-in-Err
overflow_cast-result-in-Err c = omega (arith, (c.requires.sound.graph (length c.args.learned.now) c.args.graph.now c.requires.is).bounded, c.loop-place-test.true, ap length c.as_slice-node-items.ensures)

pub learned_of-requires-clause-there : goal.learned_of-requires-clause-there
learned_of-requires-clause-there c =
    output_earlier c.args.graph.now _ (c.requires.sound.graph (length c.args.learned.now) c.args.graph.now c.requires.is)
    (omega (arith, c.loop-place.lengths.ok, c.loop-place.invariant.stands.so_far.measured.many, c.loop-place-test.false, c.loop-place.auto.place-end, ap length c.as_slice-node-items.ensures))

pub learned_of-requires-clause-few : goal.learned_of-requires-clause-few
learned_of-requires-clause-few c = omega (arith, c.requires.entries, (c.requires.sound.graph (length c.args.learned.now) c.args.graph.now c.requires.is).few)
