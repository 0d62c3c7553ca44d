use Rattle.std.proofs.Common.{◌≡◌, ℕ, suc, ◌+◌, ◌-◌, ◌*◌, ◌%◌, ◌≤◌, ◌∷◌, length, slice_index, refl, ◌∙◌, ap, arith}
use Rattle.prime_field.specs.Modulus.{value_of}
use Rattle.prime_field.proofs.Moduli.{value_of-large}
use Rattle.prime_field.proofs.Residues.{add-cong}
use Rattle.newton_interp.proofs.Points.{IsPair, pair-stage, pair-wants, pair-unit}
use Rattle.newton_interp.proofs.Words.{reduced, product-reduced, two-cong, three-cong}
use Rattle.newton_interp.proofs.form.add_pair.Goals as goal

pub returns : goal.returns
returns c =
    let m = value_of c.args.m in
    let n = length c.args.points.now in
    let k = c.args.k in
    let next : k + 1 ≡ suc k = omega arith in
    let t = slice_index c.args.points.now in
    let spread = slice_index c.args.spread.now in
    let missing = slice_index c.args.missing.now in
    let words = c.requires.words in
    let low : (j : ℕ) → t j ≤ m = λ j. omega (arith, c.requires.points j) in
    let own = spread k in
    let lack = missing k in
    let own' = c.mul-next_own.result in
    let lack' = c.fused_two-next_wanting.result in
    let both_is = c.mul-both.ensures.product in
    let here_is : c.neg-here.result % m ≡ (m - t k) % m = reduced m c.neg-here.result (m - t k) c.neg-here.ensures.negative in
    let next_is : c.neg-next.result % m ≡ (m - t (suc k)) % m =
    reduced m c.neg-next.result (m - t (k + 1)) c.neg-next.ensures.negative ∙ ap (λ i. (m - t i) % m) next in
    let opposite_is : c.neg-opposite.result % m ≡ (m - lack) % m = reduced m c.neg-opposite.result (m - lack) c.neg-opposite.ensures.negative in
    let second_is : c.neg-second.result % m ≡ (m - lack') % m = reduced m c.neg-second.result (m - lack') c.neg-second.ensures.negative in
    let first_is : c.mul-first.result % m ≡ (own' * (m - lack)) % m =
    product-reduced m c.mul-first.result own' c.neg-opposite.result own' (m - lack) c.mul-first.ensures.product refl opposite_is in
    let linear_is : c.add-linear.result % m ≡ ((m - t k) + (m - t (suc k))) % m =
    reduced m c.add-linear.result (c.neg-here.result + c.neg-next.result) c.add-linear.ensures.sum ∙
    add-cong m c.neg-here.result (m - t k) c.neg-next.result (m - t (suc k)) here_is next_is in
    let constant_is : c.mul-constant.result % m ≡ ((m - t k) * (m - t (suc k))) % m =
    product-reduced m c.mul-constant.result c.neg-here.result c.neg-next.result (m - t k) (m - t (suc k)) c.mul-constant.ensures.product here_is next_is in
    let low_is : c.fused_two-low.result % m ≡ (own' * lack + lack' * (m - t k)) % m =
    reduced m c.fused_two-low.result (0 + own' * lack + lack' * c.neg-here.result) c.fused_two-low.ensures.sum ∙
    two-cong m 0 own' own' lack' lack' lack lack c.neg-here.result (m - t k) refl refl refl here_is ∙ ap (λ x. x % m) (omega arith) in
    let pair : IsPair m n k t own lack own' lack' spread missing c.args.product.now c.args.out.now
    (slice_index c.add_to_later.new.spread) (slice_index c.add_to_later.new.missing) c.raise_both.new.product c.raise_both.new.out =
    record {
      lack_low = omega (arith, words.missing_residues k);
      lack_low' = omega (arith, c.fused_two-next_wanting.ensures.residue);
      own_is = refl;
      lack_is = refl;
      own_is' = product-reduced m own' (spread (k + 1)) c.sub.result (spread (suc k)) (t (suc k) + (m - t k)) c.mul-next_own.ensures.product
          (ap (λ i. spread i % m) next) (reduced m c.sub.result (t (k + 1) + (m - t k)) c.sub.ensures.difference ∙ ap (λ i. (t i + (m - t k)) % m) next);
      lack_is' =
          reduced m lack' (0 + own * missing (k + 1) + c.neg-opposite.result * spread (k + 1)) c.fused_two-next_wanting.ensures.sum ∙
          two-cong m 0 own own c.neg-opposite.result (m - lack) (missing (k + 1)) (missing (suc k)) (spread (k + 1)) (spread (suc k)) refl opposite_is
          (ap (λ i. missing i % m) next) (ap (λ i. spread i % m) next) ∙ ap (λ x. x % m) (omega arith);
      spread_on = λ j from below. c.add_to_later.ensures.spread j from below;
      taken = λ j from below.
          c.add_to_later.ensures.missing j from below ∙
          three-cong m c.mul-both.result (own * own') c.mul-first.result (own' * (m - lack)) c.neg-second.result (m - lack') (missing j) (spread j)
          (spread j * (t j + (m - t k))) (spread j * (t j + (m - t k))) (reduced m c.mul-both.result (own * own') both_is) first_is second_is refl;
      multiplied = λ i.
          c.raise_both.ensures.product i ∙
          two-cong m (slice_index (0 ∷ 0 ∷ c.args.product.now) i) c.add-linear.result ((m - t k) + (m - t (suc k))) c.mul-constant.result ((m - t k) * (m - t (suc k)))
          (slice_index (0 ∷ c.args.product.now) i) (slice_index (0 ∷ c.args.product.now) i) (slice_index c.args.product.now i) (slice_index c.args.product.now i) linear_is constant_is refl refl;
      added = λ i.
          c.raise_both.ensures.out i ∙
          three-cong m c.mul-both.result (own * own') c.fused_two-low.result (own' * lack + lack' * (m - t k)) lack' lack' (slice_index c.args.out.now i) (slice_index c.args.product.now i)
          (slice_index (0 ∷ c.args.product.now) i) (slice_index (0 ∷ c.args.product.now) i) (reduced m c.mul-both.result (own * own') both_is) low_is refl refl;
    } in
    record {
      residue = c.mul-both.ensures.residue;
      unit = pair-unit m n k t own lack own' lack' c.mul-both.result spread missing c.args.product.now c.args.out.now _ _ _ _ (value_of-large c.args.m) low c.requires.apart c.requires.place both_is c.requires.stage pair;
      words = record {
        spread_residues = c.add_to_later.ensures.spread_residues;
        missing_residues = c.add_to_later.ensures.missing_residues;
        product_residues = c.raise_both.ensures.product_residues;
        out_residues = c.raise_both.ensures.out_residues;
      };
      stage = pair-stage m n k t own lack own' lack' spread missing c.args.product.now c.args.out.now _ _ _ _ c.requires.stage pair;
      wants = λ v wants.
          pair-wants m n k t v own lack own' lack' c.mul-both.result spread missing c.args.product.now c.args.out.now _ _ _ _ low c.requires.place both_is c.requires.stage pair wants;
    }
