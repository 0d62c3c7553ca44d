use Rattle.std.proofs.Common.{◌≡◌, ℕ, ◌+◌, ◌-◌, ◌%◌, ◌<◌, length, slice_index, refl, subst, arith, rules}
use Rattle.std.proofs.Math.ListN.{set}
use Rattle.std.proofs.lemmas.List.{get_or-replicate}
use Rattle.prime_field.specs.Modulus.{value_of}
use Rattle.prime_field.proofs.Moduli.{value_of-large}
use Rattle.univariate.proofs.Places.{residues-set}
use Rattle.newton_interp.specs.Stage.{IsStage, Wants}
use Rattle.newton_interp.proofs.Points.{begin-even, begin-odd, replicate-low}
use Rattle.newton_interp.proofs.Words.{reduced, first-written, two-written, none-written}
use Rattle.newton_interp.proofs.form.begin.Goals as goal

pub returns-then-points-eq0 : goal.returns-then-points-eq0
returns-then-points-eq0 c =
    let m = value_of c.args.m in
    let n = length c.args.points.now in
    let t = slice_index c.args.points.now in
    let v = slice_index c.args.values.now in
    let spread = c.fill-then-points-eq0.new.self in
    let missing = c.copy_from_slice.new.self in
    let out_is = c.fill.ensures.after (search rules) in
    let product_is = c.fill-2.ensures.after (search rules) in
    let spread_is = c.fill-then-points-eq0.ensures.after (search rules) in
    let product_alike = first-written m (length c.args.product.now) 1 1 (omega arith) refl in
    let out_alike = none-written m (length c.args.out.now) in
    let both : IsStage m n 0 t (slice_index spread) (set c.fill-2.new.self 0 1) c.fill.new.self × Wants m n 0 t v (slice_index missing) c.fill.new.self =
    begin-even m n t v (slice_index spread) (slice_index missing) (set c.fill-2.new.self 0 1) c.fill.new.self
    (λ j below. rw (spread_is, get_or-replicate {A = ℕ} (length c.args.spread.now) j 1 0 (omega arith)) refl)
    (λ j below. rw c.copy_from_slice.ensures.after refl)
    (λ i. rw product_is (product_alike i))
    (λ i. rw out_is (out_alike i)) in
    let none : 0 ≡ n % 2 = omega arith in
    record {
      words = record {
        spread_residues = λ k. rw spread_is (replicate-low m (length c.args.spread.now) 1 k (value_of-large c.args.m));
        missing_residues = λ k. rw c.copy_from_slice.ensures.after (c.requires.values k);
        product_residues = residues-set m c.fill-2.new.self 0 1 (λ k. rw product_is (replicate-low m (length c.args.product.now) 0 k (omega (arith, value_of-large c.args.m)))) (value_of-large c.args.m);
        out_residues = λ k. rw out_is (replicate-low m (length c.args.out.now) 0 k (omega (arith, value_of-large c.args.m)));
      };
      stage = subst (λ (k : ℕ). IsStage m n k t (slice_index spread) (set c.fill-2.new.self 0 1) c.fill.new.self) none both.0;
      wants = subst (λ (k : ℕ). Wants m n k t v (slice_index missing) c.fill.new.self) none both.1;
    }

pub returns-else-points-eq0 : goal.returns-else-points-eq0
returns-else-points-eq0 c =
    let m = value_of c.args.m in
    let n = length c.args.points.now in
    let some : 0 < n = omega arith in
    let t = slice_index c.args.points.now in
    let v = slice_index c.args.values.now in
    let spread = c.take_first.new.out in
    let missing = c.take_first-else-points-eq0.new.out in
    let out_is = c.fill.ensures.after (search rules) in
    let product_is = c.fill-2.ensures.after (search rules) in
    let product = set (set c.fill-2.new.self 0 c.neg.result) 1 1 in
    let out = set c.fill.new.self 0 (v 0) in
    let product_alike = two-written m (length c.args.product.now) c.neg.result (m - t 0) 1 (omega arith) (reduced m c.neg.result (m - t 0) c.neg.ensures.negative) in
    let out_alike = first-written m (length c.args.out.now) (v 0) (v 0) (omega arith) refl in
    let both : IsStage m n 1 t (slice_index spread) product out × Wants m n 1 t v (slice_index missing) out =
    begin-odd m n t v (slice_index spread) (slice_index missing) product out (value_of-large c.args.m) some (λ j. omega (arith, c.requires.points j)) (omega (arith, c.requires.values 0))
    (λ j below. reduced m (slice_index spread j) (t j + (m - t 0)) (c.take_first.ensures.differences j below))
    (λ j below. reduced m (slice_index missing j) (v j + (m - v 0)) (c.take_first-else-points-eq0.ensures.differences j (omega arith)))
    (λ i. rw product_is (product_alike i))
    (λ i. rw out_is (out_alike i)) in
    let one : 1 ≡ n % 2 = omega arith in
    record {
      words = record {
        spread_residues = c.take_first.ensures.residues;
        missing_residues = c.take_first-else-points-eq0.ensures.residues;
        product_residues = residues-set m (set c.fill-2.new.self 0 c.neg.result) 1 1
            (residues-set m c.fill-2.new.self 0 c.neg.result (λ k. rw product_is (replicate-low m (length c.args.product.now) 0 k (omega (arith, value_of-large c.args.m)))) c.neg.ensures.residue)
            (value_of-large c.args.m);
        out_residues = residues-set m c.fill.new.self 0 (v 0) (λ k. rw out_is (replicate-low m (length c.args.out.now) 0 k (omega (arith, value_of-large c.args.m)))) (c.requires.values 0);
      };
      stage = subst (λ (k : ℕ). IsStage m n k t (slice_index spread) product out) one both.0;
      wants = subst (λ (k : ℕ). Wants m n k t v (slice_index missing) out) one both.1;
    }
