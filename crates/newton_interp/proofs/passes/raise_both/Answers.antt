use Rattle.std.proofs.Common.{◌≡◌, ◌≢◌, ◌+◌, ◌*◌, ◌%◌, ◌<◌, ◌∷◌, length, slice_index, ◌∙◌, ap, arith, inl, inr, add-one, get_or-set_other, get_or-set_same}
use Rattle.std.proofs.lemmas.Bool.{cases_eq}
use Rattle.prime_field.specs.Modulus.{value_of}
use Rattle.univariate.proofs.Places.{residues-set}
use Rattle.newton_interp.proofs.Words.{reduced, quadratic-whole, sum-whole}
use Rattle.newton_interp.proofs.passes.raise_both.Goals as goal

pub loop-i-preserved : goal.loop-i-preserved
loop-i-preserved c =
    let m = value_of c.args.m in
    let i = c.loop-i.i in
    let so_far = c.loop-i.invariant in
    let p = c.args.product.now in
    let out = c.args.out.now in
    let own = slice_index c.loop-i.product i in
    let own_is : own ≡ slice_index p i = so_far.product_rest i (omega arith) in
    let product_within : i < length c.loop-i.product = omega arith in
    let out_within : i < length c.loop-i.out = omega arith in
    let product_made : c.fused_two.result % m ≡ (slice_index (0 ∷ 0 ∷ p) i + c.args.linear * slice_index (0 ∷ p) i + c.args.constant * slice_index p i) % m =
    reduced m c.fused_two.result (c.loop-i.lower + c.args.linear * c.loop-i.below + c.args.constant * own) c.fused_two.ensures.sum ∙
    ap (λ t. (t + c.args.linear * c.loop-i.below + c.args.constant * own) % m) so_far.lower_is ∙
    ap (λ t. (slice_index (0 ∷ 0 ∷ p) i + c.args.linear * t + c.args.constant * own) % m) so_far.below_is ∙
    ap (λ t. (slice_index (0 ∷ 0 ∷ p) i + c.args.linear * slice_index (0 ∷ p) i + c.args.constant * t) % m) own_is in
    let out_made : c.fused_three.result % m ≡ (c.args.both * slice_index out i + c.args.low * slice_index p i + c.args.high * slice_index (0 ∷ p) i) % m =
    reduced m c.fused_three.result (c.args.both * slice_index c.loop-i.out i + c.args.low * own + c.args.high * c.loop-i.below) c.fused_three.ensures.sum ∙
    ap (λ t. (c.args.both * t + c.args.low * own + c.args.high * c.loop-i.below) % m) (so_far.out_rest i (omega arith)) ∙
    ap (λ t. (c.args.both * slice_index out i + c.args.low * t + c.args.high * c.loop-i.below) % m) own_is ∙
    ap (λ t. (c.args.both * slice_index out i + c.args.low * slice_index p i + c.args.high * t) % m) so_far.below_is in
    record {
      product_residues = residues-set m c.loop-i.product i c.fused_two.result so_far.product_residues c.fused_two.ensures.residue;
      out_residues = residues-set m c.loop-i.out i c.fused_three.result so_far.out_residues c.fused_three.ensures.residue;
      below_low = so_far.product_residues i;
      lower_low = so_far.below_low;
      below_is = rw add-one own_is;
      lower_is = rw add-one so_far.below_is;
      product_done = λ j low.
          elim (cases_eq j i) [
            | inl same ↦ rw (same, get_or-set_same) product_made
            | inr other ↦ rw get_or-set_other (so_far.product_done j (omega arith))
          ];
      product_rest = λ j from. let other : j ≢ i = omega arith in rw get_or-set_other (so_far.product_rest j (omega arith));
      out_done = λ j low.
          elim (cases_eq j i) [
            | inl same ↦ rw (same, get_or-set_same) out_made
            | inr other ↦ rw get_or-set_other (so_far.out_done j (omega arith))
          ];
      out_rest = λ j from. let other : j ≢ i = omega arith in rw get_or-set_other (so_far.out_rest j (omega arith));
    }

pub returns-clause-product : goal.returns-clause-product
returns-clause-product c =
    let so_far = c.loop-i.invariant in
    let all : c.loop-i.i ≡ c.args.degree + 2 = omega arith in
    quadratic-whole (value_of c.args.m) c.args.degree c.args.linear c.args.constant c.loop-i.lower c.args.product.now c.loop-i.product (omega arith) c.requires.degree
    (so_far.lower_is ∙ ap (slice_index (0 ∷ 0 ∷ c.args.product.now)) all)
    (λ j low. so_far.product_done j (omega arith)) (λ j from. so_far.product_rest j (omega arith))

pub returns-clause-out : goal.returns-clause-out
returns-clause-out c =
    let all : c.loop-i.i ≡ c.args.degree + 2 = omega arith in
    sum-whole (value_of c.args.m) c.args.degree c.args.both c.args.low c.args.high c.args.product.now c.args.out.now c.loop-i.out c.requires.degree c.requires.out_degree
    (λ j low. c.loop-i.invariant.out_done j (omega arith)) (λ j from. c.loop-i.invariant.out_rest j (omega arith))
