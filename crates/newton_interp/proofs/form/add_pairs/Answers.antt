use Rattle.std.proofs.Common.{◌≡◌, ℕ, suc, ◌+◌, ◌*◌, ◌%◌, length, slice_index, sym, ap, subst, arith}
use Rattle.std.proofs.Math.Nat.{mod-eq_of_lt}
use Rattle.prime_field.specs.Modulus.{value_of}
use Rattle.prime_field.proofs.Moduli.{value_of-large}
use Rattle.prime_field.proofs.Units.{unit-cong, unit-mul}
use Rattle.newton_interp.specs.Stage.{IsStage, Wants}
use Rattle.newton_interp.proofs.Points.{wants-alike, wants-product}
use Rattle.newton_interp.proofs.Words.{reduced}
use Rattle.newton_interp.proofs.form.add_pairs.Goals as goal

pub loop-pair-init : goal.loop-pair-init
loop-pair-init c =
    let m = value_of c.args.m in
    let n = length c.args.points.now in
    let t = slice_index c.args.points.now in
    let start : n % 2 ≡ n % 2 + 2 * 0 = omega arith in
    record {
      residue = value_of-large c.args.m;
      unit = (1, value_of-large c.args.m, mod-eq_of_lt (value_of-large c.args.m));
      words = c.requires.words;
      stage = subst (λ (k : ℕ). IsStage m n k t (slice_index c.args.spread.now) c.args.product.now c.args.out.now) start c.requires.stage;
      wants = λ v wants.
          wants-alike m n (n % 2 + 2 * 0) t v (λ i. 1 * v i) (slice_index c.args.missing.now) c.args.out.now (λ i. ap (λ x. x % m) (omega arith))
          (subst (λ (k : ℕ). Wants m n k t v (slice_index c.args.missing.now) c.args.out.now) start wants);
    }

pub loop-pair-preserved : goal.loop-pair-preserved
loop-pair-preserved c =
    let m = value_of c.args.m in
    let n = length c.args.points.now in
    let t = slice_index c.args.points.now in
    let made = c.add_pair in
    let k = n % 2 + 2 * c.loop-pair.pair in
    let next : suc (suc k) ≡ n % 2 + 2 * (c.loop-pair.pair + 1) = omega arith in
    record {
      residue = c.mul-factor.ensures.residue;
      unit = unit-cong m (made.result * c.loop-pair.factor) c.mul-factor.result (sym (reduced m c.mul-factor.result (made.result * c.loop-pair.factor) c.mul-factor.ensures.product))
          (unit-mul m made.result c.loop-pair.factor made.ensures.unit c.loop-pair.invariant.unit);
      words = made.ensures.words;
      stage = subst (λ (i : ℕ). IsStage m n i t (slice_index made.new.spread) made.new.product made.new.out) next made.ensures.stage;
      wants = λ v first.
          subst (λ (i : ℕ). Wants m n i t (λ i. c.mul-factor.result * v i) (slice_index made.new.missing) made.new.out) next
          (wants-product m n (suc (suc k)) t v (slice_index made.new.missing) made.new.out made.result c.loop-pair.factor c.mul-factor.result c.mul-factor.ensures.product
          (made.ensures.wants (λ i. c.loop-pair.factor * v i) (c.loop-pair.invariant.wants v first)));
    }

pub returns : goal.returns
returns c =
    let m = value_of c.args.m in
    let n = length c.args.points.now in
    let t = slice_index c.args.points.now in
    let so_far = c.loop-pair.invariant in
    let all : n % 2 + 2 * c.loop-pair.pair ≡ n = omega arith in
    record {
      residue = so_far.residue;
      unit = so_far.unit;
      words = so_far.words;
      stage = subst (λ (k : ℕ). IsStage m n k t (slice_index c.loop-pair.spread) c.loop-pair.product c.loop-pair.out) all so_far.stage;
      wants = λ v first.
          subst (λ (k : ℕ). Wants m n k t (λ i. c.loop-pair.factor * v i) (slice_index c.loop-pair.missing) c.loop-pair.out) all (so_far.wants v first);
    }
