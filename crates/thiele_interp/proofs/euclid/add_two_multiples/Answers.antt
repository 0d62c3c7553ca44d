use Rattle.std.proofs.Common.{◌≡◌, ◌≢◌, ◌+◌, ◌*◌, ◌%◌, ◌<◌, ◌∷◌, length, slice_index, refl, ◌∙◌, ap, arith, inl, inr, add-one, get_or-set_other, get_or-set_same}
use Rattle.std.proofs.lemmas.Bool.{cases_eq}
use Rattle.prime_field.specs.Modulus.{value_of}
use Rattle.univariate.proofs.Places.{residues-set}
use Rattle.newton_interp.proofs.Words.{reduced}
use Rattle.thiele_interp.proofs.Dividing.{two-added}
use Rattle.thiele_interp.proofs.euclid.add_two_multiples.Goals as goal

pub loop-k-preserved : goal.loop-k-preserved
loop-k-preserved c =
    let m = value_of c.args.m in
    let k = c.loop-k.k in
    let so_far = c.loop-k.invariant in
    let source = c.args.source.now in
    let within : k < length c.loop-k.target = omega arith in
    let made : c.fused_two.result % m ≡ (slice_index c.args.target.now k + c.args.high * slice_index (0 ∷ source) k + c.args.low * slice_index source k) % m =
    reduced m c.fused_two.result (slice_index c.loop-k.target k + c.args.high * c.loop-k.below + c.args.low * slice_index source k) c.fused_two.ensures.sum ∙
    ap (λ t. (t + c.args.high * c.loop-k.below + c.args.low * slice_index source k) % m) (so_far.rest k (omega arith)) ∙
    ap (λ t. (slice_index c.args.target.now k + c.args.high * t + c.args.low * slice_index source k) % m) so_far.below_is in
    record {
      residues = residues-set m c.loop-k.target k c.fused_two.result so_far.residues c.fused_two.ensures.residue;
      below_low = c.requires.source_residues k;
      below_is = rw add-one refl;
      done = λ i low.
          elim (cases_eq i k) [
            | inl same ↦ rw (same, get_or-set_same) made
            | inr other ↦ rw get_or-set_other (so_far.done i (omega arith))
          ];
      rest = λ i from. let other : i ≢ k = omega arith in rw get_or-set_other (so_far.rest i (omega arith));
    }

pub returns : goal.returns
returns c =
    let m = value_of c.args.m in
    let so_far = c.loop-k.invariant in
    let source = c.args.source.now in
    let all : c.loop-k.k ≡ length source = omega arith in
    let end = length source in
    record {
      sum = two-added m c.args.low c.args.high c.fused.result c.args.target.now source c.loop-k.target (omega arith)
          (reduced m c.fused.result (slice_index c.loop-k.target end + c.args.high * c.loop-k.below) c.fused.ensures.sum ∙
          ap (λ t. (t + c.args.high * c.loop-k.below) % m) (so_far.rest end (omega arith)) ∙
          ap (λ t. (slice_index c.args.target.now end + c.args.high * t) % m) (so_far.below_is ∙ ap (slice_index (0 ∷ source)) all))
          (λ i low. so_far.done i (omega arith))
          (λ i from. so_far.rest i (omega arith));
      residues = residues-set m c.loop-k.target end c.fused.result so_far.residues c.fused.ensures.residue;
    }
