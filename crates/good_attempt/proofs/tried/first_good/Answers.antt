-- An attempt's rows all have values, or its first gap joins the others.
use Rattle.std.proofs.Common.{◌≡◌, ℕ, ◌+◌, ◌<◌, All, List, length, length-append, [], ◌∷◌, sym, ◌∙◌, ap, subst, arith}
use Rattle.std.specs.Prelude.{slice_get}
use Rattle.std.proofs.lemmas.List.{length-map}
use Rattle.std.proofs.lemmas.List.Elements.{All-push}
use Rattle.prime_field.specs.Modulus.{value_of}
use Rattle.graph_eval.specs.GraphValue.{GraphValue, main_number}
use Rattle.graph_eval.specs.Learned.{outputs_of, sets_of}
use Rattle.ray_grid.specs.Attempt.{attempt_points}
use Rattle.ray_grid.specs.Grid.{point_count}
use Rattle.good_attempt.specs.declared.gap.Gap.{Gap}
use Rattle.good_attempt.specs.Attempts.{AreFirstGaps, IsFirstGap}
use Rattle.good_attempt.specs.Kept.{values_of}
use Rattle.good_attempt.specs.Tried.{FitsGap, HasResidues}
use Rattle.good_attempt.proofs.Trying.{first_gap_of, fits_gap, fits_rows, gaps_more, good_of}
use Rattle.good_attempt.proofs.tried.first_good.Goals as goal

pub returns-in-None-clause-sampling : goal.returns-in-None-clause-sampling
returns-in-None-clause-sampling g c = λ prime.
    let graphs = c.args.job.now.graphs in
    let low : c.loop-r.r < 8 = omega (arith, c.loop-r-test.true, c.loop-r.auto.r-end) in
    good_of (GraphValue (value_of c.args.m) graphs (sets_of c.args.learned.now) (main_number graphs)) (attempt_points c.args.grid.now) c.loop-r.gaps.items c.deref.result.now c.in_ok-samples.samples c.loop-r.r c.of.result
    (c.loop-r.invariant.1 prime) c.loop-r.invariant.0 low (c.deref.ensures.value ∙ c.in_ok-points.ensures.points) (c.in_ok-samples.ensures.rows prime) c.in-None.ensures.none c.of.ensures.number c.of.ensures.rows

pub returns-in-None-clause-fits : goal.returns-in-None-clause-fits
returns-in-None-clause-fits g c =
    let graphs = c.args.job.now.graphs in
    let rows = c.in_ok-samples.samples in
    let low : c.of.result.attempt < 8 = omega (arith, c.loop-r-test.true, c.loop-r.auto.r-end, c.of.ensures.number) in
    let many : length c.of.result.rows ≡ point_count c.args.grid.now = omega (arith, ap length c.of.ensures.rows, length-map rows values_of, c.in_ok-samples.ensures.count, c.deref.ensures.len, c.in_ok-points.ensures.count) in (
      low,
      many,
      subst (HasResidues (value_of c.args.m) (outputs_of c.args.learned.now)) (sym c.of.ensures.rows) (fits_rows (value_of c.args.m) (slice_get graphs (main_number graphs)) (outputs_of c.args.learned.now) rows c.in_ok-samples.ensures.fits c.in-None.ensures.none),
    )

pub loop-r-preserved : goal.loop-r-preserved
loop-r-preserved g c =
    let m = value_of c.args.m in
    let graphs = c.args.job.now.graphs in
    let graph = slice_get graphs (main_number graphs) in
    let meaning = GraphValue m graphs (sets_of c.args.learned.now) (main_number graphs) in
    let attempts = attempt_points c.args.grid.now in
    let gaps = c.loop-r.gaps.items in
    let gap = c.in-Some.gap in
    let rows = c.in_ok-samples.samples in
    let pushed = c.in_ok-push-in-Some.ensures.items in
    let many : length c.push.new.self.items ≡ c.loop-r.r + 1 = ap length pushed ∙ length-append gaps (gap ∷ []) ∙ ap (λ n. n + 1) c.loop-r.invariant.0 in
    let count : length rows ≡ point_count c.args.grid.now = omega (arith, c.in_ok-samples.ensures.count, c.deref.ensures.len, c.in_ok-points.ensures.count) in (
      many,
      λ prime.
          let own = first_gap_of meaning c.deref.result.now rows gap (c.in_ok-samples.ensures.rows prime) c.in-Some.ensures.some in
          let is = subst (λ (ps : List (List ℕ)). IsFirstGap meaning ps gap) (c.deref.ensures.value ∙ c.in_ok-points.ensures.points) own in
          subst (AreFirstGaps meaning attempts) (sym pushed) (gaps_more meaning attempts gaps gap c.loop-r.r (c.loop-r.invariant.1 prime) c.loop-r.invariant.0 is),
      subst (All (FitsGap graph (point_count c.args.grid.now))) (sym pushed)
          (All-push (FitsGap graph (point_count c.args.grid.now)) gaps gap c.loop-r.invariant.2 (fits_gap m graph (outputs_of c.args.learned.now) (point_count c.args.grid.now) rows gap c.in_ok-samples.ensures.fits count c.in-Some.ensures.some)),
      c.in_ok-samples.ensures.made,
    )
