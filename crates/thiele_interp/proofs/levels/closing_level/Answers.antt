use Rattle.std.proofs.Common.{◌≡◌, ℕ, ◌<◌, length, slice_index, sym, ◌∙◌, subst, arith, inl, inr, add-one}
use Rattle.std.proofs.lemmas.Bool.{cases_eq, OnTrue_at}
use Rattle.prime_field.specs.Modulus.{value_of}
use Rattle.thiele_interp.specs.Thiele.{inverse_difference}
use Rattle.thiele_interp.proofs.Rising.{part-is, same-from, at-unit, open-up_to, open-after, units-more, next-difference}
use Rattle.thiele_interp.proofs.levels.closing_level.Goals as goal

pub returns-then-is_constant-clause-closes : goal.returns-then-is_constant-clause-closes
returns-then-is_constant-clause-closes c =
    let m = value_of c.args.m in
    let t = slice_index c.args.points.now in
    let v = slice_index c.args.values.now in
    let k = c.loop-level.level in
    let so_far = c.loop-level.invariant in
    record {
      within = omega arith;
      units = so_far.units;
      closed = same-from k (length c.args.points.now) c.loop-level.differences (inverse_difference m t v k) (omega arith) so_far.later so_far.lengths
          (subst (λ part. (i : ℕ) → i < length part → slice_index part i ≡ slice_index part 0) (part-is k c.loop-level.differences) (c.is_constant.ensures.0 c.if-is_constant.true));
    }

pub returns-then-not-next_level-clause-none : goal.returns-then-not-next_level-clause-none
returns-then-not-next_level-clause-none c e low closes =
    let m = value_of c.args.m in
    let n = length c.args.points.now in
    let t = slice_index c.args.points.now in
    let v = slice_index c.args.values.now in
    let k = c.loop-level.level in
    let so_far = c.loop-level.invariant in
    open-after m k n t v c.loop-level.differences (omega arith) so_far.later
    (λ units. absurd (cc (c.next_level.ensures.units.1 units, c.if-not-next_level.true)))
    (open-up_to m k n t v c.loop-level.differences (omega arith) so_far.later so_far.lengths
    (λ same.
    absurd (cc (
      c.is_constant.ensures.1 (subst (λ part. (i : ℕ) → i < length part → slice_index part i ≡ slice_index part 0) (sym (part-is k c.loop-level.differences)) same),
      c.if-is_constant.false,
    )))
    so_far.open_before)
    e closes

pub loop-level-preserved : goal.loop-level-preserved
loop-level-preserved c =
    let m = value_of c.args.m in
    let n = length c.args.points.now in
    let t = slice_index c.args.points.now in
    let v = slice_index c.args.values.now in
    let k = c.loop-level.level in
    let so_far = c.loop-level.invariant in
    let made = c.next_level in
    let inside : k < n = omega arith in
    record {
      lengths = omega (arith, so_far.lengths);
      residues = made.ensures.residues;
      units = λ i j low.
          units-more m k n t v so_far.units
          (λ p after within.
          at-unit m k n c.loop-level.differences (inverse_difference m t v k) inside so_far.later p after within (made.ensures.units.0 c.if-not-next_level.false p after within))
          i j (omega arith);
      done = λ i low.
          elim (cases_eq i k) [
            | inl same ↦ rw same (made.ensures.earlier k (omega arith) ∙ so_far.later k (omega arith) inside)
            | inr earlier ↦ made.ensures.earlier i (omega arith) ∙ so_far.done i (omega arith)
          ];
      later = λ j from within.
          rw add-one
          (next-difference m k n t v c.loop-level.differences made.new.differences inside so_far.later (OnTrue_at c.if-not-next_level.false made.ensures.later) j (omega arith) within);
      open_before = λ e low.
          open-up_to m k n t v c.loop-level.differences inside so_far.later so_far.lengths
          (λ same.
          absurd (cc (
            c.is_constant.ensures.1 (subst (λ part. (i : ℕ) → i < length part → slice_index part i ≡ slice_index part 0) (sym (part-is k c.loop-level.differences)) same),
            c.if-is_constant.false,
          )))
          so_far.open_before e (omega arith);
    }

pub returns-else-level-points-clause-none : goal.returns-else-level-points-clause-none
returns-else-level-points-clause-none c e low closes =
    let within = closes.within in
    c.loop-level.invariant.open_before e (omega arith) closes

pub returns-after-loop-level-clause-none : goal.returns-after-loop-level-clause-none
returns-after-loop-level-clause-none c e low closes = c.loop-level.invariant.open_before e (omega arith) closes
