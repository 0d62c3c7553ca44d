use Rattle.std.proofs.Common.{◌≡◌, ℕ, suc, ◌+◌, ◌-◌, ◌/◌, [], ◌∷◌, slice_index, sym, subst, arith}
use Rattle.prime_field.specs.Modulus.{value_of}
use Rattle.univariate.specs.Coefficients.{sum_of, multiple, product_of, Alike}
use Rattle.univariate.proofs.Degrees.{below-alike}
use Rattle.thiele_interp.specs.Thiele.{thiele_part}
use Rattle.thiele_interp.proofs.Forms.{part-below, constant-below, nothing-below}
use Rattle.thiele_interp.proofs.Advanced.{part-next}
use Rattle.thiele_interp.proofs.thiele.write_form.Goals as goal

pub advance-requires-clause-before_degree : goal.advance-requires-clause-before_degree
advance-requires-clause-before_degree c i from =
    let m = value_of c.args.m in
    let t = slice_index c.args.points.now in
    let r = slice_index c.args.coefficients.now in
    let k = c.loop-k.k in
    below-alike m (suc (k / 2)) c.loop-k.earlier_num (thiele_part m t r (1 ∷ []) (r 0 ∷ []) k) c.loop-k.invariant.earlier_num
    (part-below m t r (1 ∷ []) (r 0 ∷ []) (constant-below m 1) (constant-below m (r 0)) k (k / 2) (omega arith)) i (omega arith)

pub advance-requires-clause-last_degree : goal.advance-requires-clause-last_degree
advance-requires-clause-last_degree c i from =
    let m = value_of c.args.m in
    let t = slice_index c.args.points.now in
    let r = slice_index c.args.coefficients.now in
    let k = c.loop-k.k in
    below-alike m (suc (suc (k / 2))) c.loop-k.num (thiele_part m t r (1 ∷ []) (r 0 ∷ []) (suc k)) c.loop-k.invariant.num
    (part-below m t r (1 ∷ []) (r 0 ∷ []) (constant-below m 1) (constant-below m (r 0)) (suc k) (suc (k / 2)) (omega arith)) i (omega arith)

pub advance-requires-in-loop-k-clause-before_degree : goal.advance-requires-in-loop-k-clause-before_degree
advance-requires-in-loop-k-clause-before_degree c i from =
    let m = value_of c.args.m in
    let t = slice_index c.args.points.now in
    let r = slice_index c.args.coefficients.now in
    let k = c.loop-k.k in
    below-alike m (suc (k / 2)) c.loop-k.earlier_den (thiele_part m t r [] (1 ∷ []) k) c.loop-k.invariant.earlier_den
    (part-below m t r [] (1 ∷ []) (nothing-below m) (constant-below m 1) k (k / 2) (omega arith)) i (omega arith)

pub advance-requires-in-loop-k-clause-last_degree : goal.advance-requires-in-loop-k-clause-last_degree
advance-requires-in-loop-k-clause-last_degree c i from =
    let m = value_of c.args.m in
    let t = slice_index c.args.points.now in
    let r = slice_index c.args.coefficients.now in
    let k = c.loop-k.k in
    below-alike m (suc (suc (k / 2))) c.loop-k.den (thiele_part m t r [] (1 ∷ []) (suc k)) c.loop-k.invariant.den
    (part-below m t r [] (1 ∷ []) (nothing-below m) (constant-below m 1) (suc k) (suc (k / 2)) (omega arith)) i (omega arith)

pub loop-k-preserved : goal.loop-k-preserved
loop-k-preserved c =
    let m = value_of c.args.m in
    let t = slice_index c.args.points.now in
    let r = slice_index c.args.coefficients.now in
    let k = c.loop-k.k in
    let so_far = c.loop-k.invariant in
    let upper = c.advance in
    let lower = c.advance-in-loop-k in
    let next : suc k ≡ k + 1 = omega arith in
    record {
      num_residues = upper.ensures.residues;
      earlier_num_residues = rw upper.ensures.before so_far.num_residues;
      den_residues = lower.ensures.residues;
      earlier_den_residues = rw lower.ensures.before so_far.den_residues;
      num = subst (λ (j : ℕ). Alike m upper.new.last (thiele_part m t r (1 ∷ []) (r 0 ∷ []) (suc j))) next
          (part-next m t r (1 ∷ []) (r 0 ∷ []) k c.loop-k.earlier_num c.loop-k.num upper.new.last so_far.earlier_num so_far.num
          (subst (λ (j : ℕ). Alike m upper.new.last (sum_of (product_of ((m - t k) ∷ 1 ∷ []) c.loop-k.earlier_num) (multiple (r j) c.loop-k.num))) (sym next) upper.ensures.last));
      earlier_num = rw upper.ensures.before (subst (λ (j : ℕ). Alike m c.loop-k.num (thiele_part m t r (1 ∷ []) (r 0 ∷ []) j)) next so_far.num);
      den = subst (λ (j : ℕ). Alike m lower.new.last (thiele_part m t r [] (1 ∷ []) (suc j))) next
          (part-next m t r [] (1 ∷ []) k c.loop-k.earlier_den c.loop-k.den lower.new.last so_far.earlier_den so_far.den
          (subst (λ (j : ℕ). Alike m lower.new.last (sum_of (product_of ((m - t k) ∷ 1 ∷ []) c.loop-k.earlier_den) (multiple (r j) c.loop-k.den))) (sym next) lower.ensures.last));
      earlier_den = rw lower.ensures.before (subst (λ (j : ℕ). Alike m c.loop-k.den (thiele_part m t r [] (1 ∷ []) j)) next so_far.den);
    }
