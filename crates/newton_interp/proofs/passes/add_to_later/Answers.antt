use Rattle.std.proofs.Common.{◌≡◌, ◌≢◌, suc, ◌+◌, ◌-◌, ◌*◌, ◌%◌, ◌<◌, length, slice_index, refl, ◌∙◌, ap, arith, inl, inr, get_or-set_other, get_or-set_same}
use Rattle.std.proofs.lemmas.Bool.{cases_eq}
use Rattle.prime_field.specs.Modulus.{value_of}
use Rattle.univariate.proofs.Places.{residues-set}
use Rattle.newton_interp.proofs.Words.{reduced, product-reduced, three-cong}
use Rattle.newton_interp.proofs.passes.add_to_later.Goals as goal

pub loop-j-preserved : goal.loop-j-preserved
loop-j-preserved c =
    let m = value_of c.args.m in
    let j = c.loop-j.j in
    let k = c.args.k in
    let next : k + 1 ≡ suc k = omega arith in
    let t = slice_index c.args.points.now in
    let spread = slice_index c.args.spread.now in
    let missing = slice_index c.args.missing.now in
    let so_far = c.loop-j.invariant in
    let spread_is : slice_index c.loop-j.spread j ≡ spread j = so_far.spread_rest j (omega arith) in
    let missing_is : slice_index c.loop-j.missing j ≡ missing j = so_far.missing_rest j (omega arith) in
    let spread_within : j < length c.loop-j.spread = omega arith in
    let missing_within : j < length c.loop-j.missing = omega arith in
    let between : c.mul-between.result % m ≡ (spread j * (t j + (m - t k))) % m =
    product-reduced m c.mul-between.result (slice_index c.loop-j.spread j) c.sub.result (spread j) (t j + (m - t k)) c.mul-between.ensures.product
    (ap (λ x. x % m) spread_is) (reduced m c.sub.result (t j + (m - t k)) c.sub.ensures.difference) in
    let spread_made : c.mul.result % m ≡ (spread j * (t j + (m - t k)) * (t j + (m - t (suc k)))) % m =
    product-reduced m c.mul.result c.mul-between.result c.sub-in-loop-j.result (spread j * (t j + (m - t k))) (t j + (m - t (suc k))) c.mul.ensures.product between
    (reduced m c.sub-in-loop-j.result (t j + (m - t (k + 1))) c.sub-in-loop-j.ensures.difference ∙ ap (λ i. (t j + (m - t i)) % m) next) in
    let missing_made : c.fused_three.result % m ≡ (c.args.both * missing j + c.args.first * spread j + c.args.second * (spread j * (t j + (m - t k)))) % m =
    reduced m c.fused_three.result (c.args.both * slice_index c.loop-j.missing j + c.args.first * slice_index c.loop-j.spread j + c.args.second * c.mul-between.result) c.fused_three.ensures.sum ∙
    ap (λ x. (c.args.both * x + c.args.first * slice_index c.loop-j.spread j + c.args.second * c.mul-between.result) % m) missing_is ∙
    ap (λ x. (c.args.both * missing j + c.args.first * x + c.args.second * c.mul-between.result) % m) spread_is ∙
    three-cong m c.args.both c.args.both c.args.first c.args.first c.args.second c.args.second (missing j) (spread j) c.mul-between.result (spread j * (t j + (m - t k))) refl refl refl between in
    record {
      spread_residues = residues-set m c.loop-j.spread j c.mul.result so_far.spread_residues c.mul.ensures.residue;
      missing_residues = residues-set m c.loop-j.missing j c.fused_three.result so_far.missing_residues c.fused_three.ensures.residue;
      spread_done = λ i from low.
          elim (cases_eq i j) [
            | inl same ↦ rw (same, get_or-set_same) spread_made
            | inr other ↦ rw get_or-set_other (so_far.spread_done i from (omega arith))
          ];
      spread_rest = λ i from. let other : i ≢ j = omega arith in rw get_or-set_other (so_far.spread_rest i (omega arith));
      missing_done = λ i from low.
          elim (cases_eq i j) [
            | inl same ↦ rw (same, get_or-set_same) missing_made
            | inr other ↦ rw get_or-set_other (so_far.missing_done i from (omega arith))
          ];
      missing_rest = λ i from. let other : i ≢ j = omega arith in rw get_or-set_other (so_far.missing_rest i (omega arith));
    }
