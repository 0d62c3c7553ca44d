-- Every worker settles, and then every row is filled.
use Rattle.std.proofs.Common.{◌≡◌, ◌+◌, ◌*◌, ◌<◌, ℕ, All, Some, length, set, ap, sym, subst, arith}
use Rattle.std.proofs.lemmas.List.{length-map, length-set}
use Rattle.std.proofs.lemmas.List.Elements.{All-map}
use Rattle.prime_field.specs.Modulus.{value_of}
use Rattle.graph_eval.specs.GraphValue.{Outcome}
use Rattle.graph_eval.specs.Made.{IsMadeFor}
use Rattle.parallel_sampler.specs.declared.crew.Hand.{Hand}
use Rattle.parallel_sampler.specs.Filled.{blocks_of}
use Rattle.parallel_sampler.proofs.Crews.{AreFilled, IsGathered, all_filled, all_ready, gathered_more, gathered_none, none_empty, rest_is, rows_fit, values_at, whole_is}
use Rattle.parallel_sampler.proofs.sampling.sample_by.Goals as goal

pub run-requires-clause-ready : goal.run-requires-clause-ready
run-requires-clause-ready g c κs within =
    let graphs = c.args.job.now.graphs in
    let learned = c.args.learned.now in
    all_ready graphs learned c.outputs-outputs.result (length c.args.points.now) c.in_ok-board.board c.deal.new.hands c.outputs-outputs.ensures
    (subst (All (IsMadeFor graphs learned)) (sym c.deal.ensures.workers) c.requires.made) c.in_ok-deal.ensures.posts

pub loop-i-init : goal.loop-i-init
loop-i-init g c =
    let points = c.args.points.now in
    let each = blocks_of (length points) + 1 in
    let many : length c.args.hands.now ≡ length c.run.new.hands = omega (arith, c.run.auto.hands, c.deal.auto.hands) in
    let quota = length c.run.new.hands * each in
    let rest = rest_is c.in_ok-board.rest c.deal.new.rest c.in_ok-board.board quota _ c.in_ok-deal.ensures.rest c.in_ok-board.ensures
    (omega (arith, ap (λ (n : ℕ). length c.args.hands.now * n) c.draws.ensures, ap (λ (n : ℕ). n * each) many)) in
    let whole = whole_is c.in_ok-whole.whole (length points) c.outputs-outputs.result _ c.in_ok-whole.ensures c.outputs-outputs.ensures in
    gathered_none (value_of c.args.m) c.args.job.now.graphs c.args.learned.now points c.in_ok-board.board quota c.deal.new.rest c.in_ok-whole.whole c.run.new.hands rest whole c.run.ensures

pub loop-i-preserved : goal.loop-i-preserved
loop-i-preserved g c =
    let m = value_of c.args.m in
    let graphs = c.args.job.now.graphs in
    let learned = c.args.learned.now in
    let points = c.args.points.now in
    let each = blocks_of (length points) + 1 in
    let within : c.loop-i.i < length c.loop-i.hands = omega (arith, c.loop-i-test.true, c.loop-i.auto.hands) in
    let hands = set c.loop-i.hands c.loop-i.i c.settle.new.self in
    subst (λ (n : ℕ). IsGathered m graphs learned points c.in_ok-board.board (n * each) (c.loop-i.i + 1) c.settle.new.rest c.settle.new.whole hands) (sym (length-set c.loop-i.hands c.loop-i.i c.settle.new.self))
    (gathered_more m graphs learned points c.in_ok-board.board (length c.loop-i.hands * each) c.loop-i.i c.loop-i.rest c.settle.new.rest c.loop-i.whole c.settle.new.whole c.loop-i.hands c.settle.new.self _
    c.loop-i.invariant within c.settle.ensures.worker c.settle.ensures.settled)

pub into_samples-requires : goal.into_samples-requires
into_samples-requires g c =
    let m = value_of c.args.m in
    let graphs = c.args.job.now.graphs in
    let learned = c.args.learned.now in
    let points = c.args.points.now in
    let quota = length c.loop-i.hands * (blocks_of (length points) + 1) in
    let some : 0 < c.loop-i.i = omega (arith, c.requires.some, c.loop-i-test.false, c.loop-i.auto.hands) in
    none_empty m graphs learned points c.loop-i.whole.rows c.loop-i.invariant.filled.long
    (all_filled m graphs learned points c.in_ok-board.board quota c.loop-i.i c.close.result c.loop-i.rest c.loop-i.whole c.loop-i.hands c.loop-i.invariant some c.close.ensures)

pub returns-clause-made : goal.returns-clause-made
returns-clause-made g c = All-map (IsMadeFor c.args.job.now.graphs c.args.learned.now) (λ (hand : Hand). hand.worker) c.loop-i.hands c.loop-i.invariant.held

pub returns-clause-rows : goal.returns-clause-rows
returns-clause-rows g c prime =
    let m = value_of c.args.m in
    let graphs = c.args.job.now.graphs in
    let learned = c.args.learned.now in
    let points = c.args.points.now in
    let quota = length c.loop-i.hands * (blocks_of (length points) + 1) in
    let some : 0 < c.loop-i.i = omega (arith, c.requires.some, c.loop-i-test.false, c.loop-i.auto.hands) in
    let filled = all_filled m graphs learned points c.in_ok-board.board quota c.loop-i.i c.close.result c.loop-i.rest c.loop-i.whole c.loop-i.hands c.loop-i.invariant some c.close.ensures in
    let long : length c.into_samples.result ≡ length points = omega (arith, ap length c.into_samples.ensures, length-map c.into_samples.result (λ (row : Outcome). Some row), c.loop-i.invariant.filled.long) in
    values_at m graphs learned points c.into_samples.result long (subst (AreFilled m graphs learned points) (sym c.into_samples.ensures) filled) prime

pub returns-clause-fits : goal.returns-clause-fits
returns-clause-fits g c =
    let m = value_of c.args.m in
    let graphs = c.args.job.now.graphs in
    let learned = c.args.learned.now in
    let points = c.args.points.now in
    let quota = length c.loop-i.hands * (blocks_of (length points) + 1) in
    let some : 0 < c.loop-i.i = omega (arith, c.requires.some, c.loop-i-test.false, c.loop-i.auto.hands) in
    let filled = all_filled m graphs learned points c.in_ok-board.board quota c.loop-i.i c.close.result c.loop-i.rest c.loop-i.whole c.loop-i.hands c.loop-i.invariant some c.close.ensures in
    let long : length c.into_samples.result ≡ length points = omega (arith, ap length c.into_samples.ensures, length-map c.into_samples.result (λ (row : Outcome). Some row), c.loop-i.invariant.filled.long) in
    rows_fit m graphs learned points c.into_samples.result long (subst (AreFilled m graphs learned points) (sym c.into_samples.ensures) filled)
