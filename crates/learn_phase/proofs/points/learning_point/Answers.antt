-- The entries are those of the point, and lie below 2^60.
use Rattle.std.proofs.Common.{ℕ, ◌/◌, List, take, ◌≡◌, ◌∙◌, ap, length-set, subst, sym, arith}
use Rattle.poly_maps.specs.Point.{IsPoint}
use Rattle.learn_phase.specs.Points.{learning_point}
use Rattle.learn_phase.proofs.PointLaws.{is_point, one_more}
use Rattle.learn_phase.proofs.points.learning_point.Goals as goal

pub loop-place-preserved : goal.loop-place-preserved
loop-place-preserved c =
    let so_far = c.loop-place.invariant in
    record {
      long = length-set c.loop-place.entries c.loop-place.place _ ∙ so_far.long;
      so_far = one_more c.loop-place.place c.args.q _ c.loop-place.entries (omega (arith, so_far.long)) so_far.so_far (ap (λ w. w / 16) c.sequence.ensures);
    }

whole : (n k q : ℕ) (entries : List ℕ) → n ≡ k → take k entries ≡ learning_point k q → take n entries ≡ learning_point n q
whole n k q entries same so_far = subst (λ (j : ℕ). take j entries ≡ learning_point j q) (sym same) so_far

pub of-requires : goal.of-requires
of-requires c =
    let so_far = c.loop-place.invariant in
    let all : take c.args.variables c.loop-place.entries ≡ learning_point c.args.variables c.args.q = whole c.args.variables c.loop-place.place c.args.q c.loop-place.entries (omega arith) so_far.so_far in
    subst IsPoint (sym all) (is_point c.args.variables c.args.q c.requires.some c.requires.few)
