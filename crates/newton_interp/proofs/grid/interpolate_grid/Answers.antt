use Rattle.std.proofs.Common.{◌≡◌, suc, ◌-◌, ◌*◌, drop, length, sym, ◌∙◌, ap, arith}
use Rattle.prime_field.specs.Modulus.{value_of}
use Rattle.newton_interp.specs.Grid.{points_of, grid_size}
use Rattle.newton_interp.proofs.Columns.{at-axis, points-end, none_yet, axis-done_at, all-done}
use Rattle.newton_interp.proofs.grid.interpolate_grid.Goals as goal

pub loop-k-init : goal.loop-k-init
loop-k-init c = record {
  residues = c.requires.values;
  block = ap grid_size (sym (points-end c.args.axes.now));
  values = λ q fits. none_yet _ c.args.axes.now _;
}

pub interpolate_axis-requires : goal.interpolate_axis-requires
interpolate_axis-requires c =
    let axes = points_of c.args.axes.now in
    let points = c.points_at-points.result.now in
    let k = c.loop-k.k - 1 in
    let here = at-axis (value_of c.args.m) (length c.args.work.now) (length c.args.buffer.now) k axes points c.points_at-points.ensures c.requires.axes c.requires.fits c.requires.room in
    let next : suc k ≡ c.loop-k.k = omega arith in
    let block : grid_size (drop (suc k) axes) ≡ c.loop-k.block = ap (λ i. grid_size (drop i axes)) next ∙ sym c.loop-k.invariant.block in
    record {
      axis = here.axis;
      block = omega (arith, here.block, block);
      fits = omega (arith, here.fits, ap (λ b. length points * b) block);
      room = omega (arith, here.room);
      values = c.loop-k.invariant.residues;
    }

pub overflow_mul-block : goal.overflow_mul-block
overflow_mul-block c =
    let axes = points_of c.args.axes.now in
    let points = c.points_at-points.result.now in
    let k = c.loop-k.k - 1 in
    let here = at-axis (value_of c.args.m) (length c.args.work.now) (length c.args.buffer.now) k axes points c.points_at-points.ensures c.requires.axes c.requires.fits c.requires.room in
    let next : suc k ≡ c.loop-k.k = omega arith in
    let block : grid_size (drop (suc k) axes) ≡ c.loop-k.block = ap (λ i. grid_size (drop i axes)) next ∙ sym c.loop-k.invariant.block in
    omega (arith, here.fits, ap (λ b. length points * b) block)

pub loop-k-preserved : goal.loop-k-preserved
loop-k-preserved c =
    let axes = points_of c.args.axes.now in
    let points = c.points_at-points.result.now in
    let k = c.loop-k.k - 1 in
    let next : c.loop-k.k ≡ suc k = omega arith in
    record {
      residues = c.interpolate_axis.ensures.residues;
      block = ap (λ b. length points * b) (c.loop-k.invariant.block ∙ ap (λ i. grid_size (drop i axes)) next) ∙ sym (ap grid_size c.points_at-points.ensures);
      values = axis-done_at (value_of c.args.m) (length c.args.buffer.now) k c.loop-k.k c.loop-k.block axes points c.interpolate_axis.new.buffer c.loop-k.buffer c.args.buffer.now
          next c.points_at-points.ensures c.loop-k.invariant.block c.loop-k.invariant.values (λ q i j fits i_low j_low. c.interpolate_axis.ensures.along q i j (omega arith) i_low j_low);
    }

pub returns-clause-values : goal.returns-clause-values
returns-clause-values c =
    all-done (value_of c.args.m) (length c.args.buffer.now) c.loop-k.k c.loop-k.block (points_of c.args.axes.now) c.loop-k.buffer c.args.buffer.now (omega arith)
    c.loop-k.invariant.block c.loop-k.invariant.values
