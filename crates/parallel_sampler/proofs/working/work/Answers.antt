-- Each draw is of one block more, or of no block and then the last.
use Rattle.std.proofs.Common.{◌≡◌, ◌-◌, ◌<◌, ◌≤◌, [], ◌∷◌, ◌++◌, length, refl, sym, ◌∙◌, ap, subst, arith, rules}
use Rattle.std.proofs.lemmas.List.{length_push}
use Rattle.prime_field.specs.Modulus.{value_of}
use Rattle.parallel_sampler.specs.Board.{Sitting}
use Rattle.parallel_sampler.specs.Filled.{HasEnded, IsFilledBy, blocks_of}
use Rattle.parallel_sampler.proofs.Filling.{AreBlocks, blocks_more, draws_end, few_blocks, filled_more, filled_none, filled_same, no_blocks}
use Rattle.parallel_sampler.proofs.working.work.Goals as goal

pub loop-m-init : goal.loop-m-init
loop-m-init g c =
    let m = value_of c.args.m in
    let graphs = c.args.job.now.graphs in
    let learned = c.args.learned.now in
    let points = c.args.points.now in
    let rows = c.args.table.now.rows in (
      c.requires.made,
      refl,
      refl,
      omega (arith, ap length c.requires.fresh),
      subst (AreBlocks (blocks_of (length points))) (sym c.requires.fresh) (no_blocks (blocks_of (length points))),
      subst (λ drawn. IsFilledBy m graphs learned points drawn rows) (sym c.requires.fresh) (filled_none m graphs learned points rows c.requires.rows),
      refl,
    )

pub draw-number-requires-clause-board : goal.draw-number-requires-clause-board
draw-number-requires-clause-board g c = c.loop-m.invariant.1 ∙ c.requires.board

pub draw-number-requires-clause-left : goal.draw-number-requires-clause-left
draw-number-requires-clause-left g c = omega (arith, c.loop-m.invariant.3, few_blocks _ _ c.loop-m.invariant.4, c.requires.draws)

pub returns-then-number-blocks-clause-made : goal.returns-then-number-blocks-clause-made
returns-then-number-blocks-clause-made g c = c.loop-m.invariant.0

pub returns-then-number-blocks-clause-board : goal.returns-then-number-blocks-clause-board
returns-then-number-blocks-clause-board g c = ap (λ (s : Sitting). s.board) c.draw-number.ensures.drawn ∙ c.loop-m.invariant.1

pub returns-then-number-blocks-clause-quota : goal.returns-then-number-blocks-clause-quota
returns-then-number-blocks-clause-quota g c = ap (λ (s : Sitting). s.quota) c.draw-number.ensures.drawn ∙ c.loop-m.invariant.2

pub returns-then-number-blocks-clause-ended : goal.returns-then-number-blocks-clause-ended
returns-then-number-blocks-clause-ended g c =
    let blocks = blocks_of (length c.args.points.now) in
    let past : blocks ≤ c.draw-number.result = search rules in
    subst (λ (s : Sitting). HasEnded blocks s.drawn) (sym c.draw-number.ensures.drawn) (draws_end blocks c.loop-m.seat.drawn c.draw-number.result c.loop-m.invariant.4 past)

pub returns-then-number-blocks-clause-left : goal.returns-then-number-blocks-clause-left
returns-then-number-blocks-clause-left g c =
    let drawn = c.draw-number.ensures.drawn in
    let less : c.draw-number.new.seat.left ≡ c.loop-m.seat.left - 1 = ap (λ (s : Sitting). s.left) drawn in
    let more : length c.draw-number.new.seat.drawn ≡ length (c.loop-m.seat.drawn ++ c.draw-number.result ∷ []) = ap (λ (s : Sitting). length s.drawn) drawn in
    omega (arith, less, more, length_push c.loop-m.seat.drawn c.draw-number.result, c.loop-m.invariant.3, few_blocks _ _ c.loop-m.invariant.4, c.requires.draws)

pub returns-then-number-blocks-clause-rows : goal.returns-then-number-blocks-clause-rows
returns-then-number-blocks-clause-rows g c =
    let m = value_of c.args.m in
    let graphs = c.args.job.now.graphs in
    let learned = c.args.learned.now in
    let points = c.args.points.now in
    let rows = c.loop-m.table.rows in
    let past : blocks_of (length points) ≤ c.draw-number.result = search rules in
    subst (λ (s : Sitting). IsFilledBy m graphs learned points s.drawn rows) (sym c.draw-number.ensures.drawn) (filled_same m graphs learned points c.loop-m.seat.drawn c.draw-number.result rows c.loop-m.invariant.5 past)

pub returns-then-number-blocks-clause-room : goal.returns-then-number-blocks-clause-room
returns-then-number-blocks-clause-room g c = c.loop-m.invariant.6

pub fill-requires-clause-rows : goal.fill-requires-clause-rows
fill-requires-clause-rows g c = c.loop-m.invariant.5.long

pub fill-requires-clause-room : goal.fill-requires-clause-room
fill-requires-clause-room g c = c.loop-m.invariant.6 ∙ c.requires.room

pub fill-requires-clause-made : goal.fill-requires-clause-made
fill-requires-clause-made g c = c.loop-m.invariant.0

pub loop-m-smaller : goal.loop-m-smaller
loop-m-smaller g c =
    let less : c.draw-number.new.seat.left ≡ c.loop-m.seat.left - 1 = ap (λ (s : Sitting). s.left) c.draw-number.ensures.drawn in
    omega (arith, less, c.loop-m.invariant.3, few_blocks _ _ c.loop-m.invariant.4, c.requires.draws)

pub loop-m-preserved : goal.loop-m-preserved
loop-m-preserved g c =
    let m = value_of c.args.m in
    let graphs = c.args.job.now.graphs in
    let learned = c.args.learned.now in
    let points = c.args.points.now in
    let blocks = blocks_of (length points) in
    let drawn = c.draw-number.ensures.drawn in
    let block = c.draw-number.result in
    let is_block : block < blocks = search rules in
    let less : c.draw-number.new.seat.left ≡ c.loop-m.seat.left - 1 = ap (λ (s : Sitting). s.left) drawn in
    let more : length c.draw-number.new.seat.drawn ≡ length (c.loop-m.seat.drawn ++ block ∷ []) = ap (λ (s : Sitting). length s.drawn) drawn in (
      c.fill.ensures.made,
      ap (λ (s : Sitting). s.board) drawn ∙ c.loop-m.invariant.1,
      ap (λ (s : Sitting). s.quota) drawn ∙ c.loop-m.invariant.2,
      omega (arith, less, more, length_push c.loop-m.seat.drawn block, c.loop-m.invariant.3, few_blocks _ _ c.loop-m.invariant.4, c.requires.draws),
      subst (λ (s : Sitting). AreBlocks blocks s.drawn) (sym drawn) (blocks_more blocks c.loop-m.seat.drawn block c.loop-m.invariant.4 c.draw-number.ensures.unseen is_block),
      subst (λ (s : Sitting). IsFilledBy m graphs learned points s.drawn c.fill.new.self.rows) (sym drawn)
          (filled_more m graphs learned points c.loop-m.seat.drawn block c.loop-m.table.rows c.fill.new.self.rows c.loop-m.invariant.5 c.fill.ensures.rows),
      c.fill.ensures.room ∙ c.loop-m.invariant.6,
    )
