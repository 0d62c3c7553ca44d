use Rattle.std.proofs.Common.{arith}
use Rattle.elim_core.proofs.Columns.{Empty-skip, Empty-more, taken-ascending, taken-all, taken-only, EmptySoFar}
use Rattle.std.proofs.Common.{◌≡◌, ℕ, subst, length}
use Rattle.elim_core.proofs.solver.list_empty.Goals as goal
use Rattle.elim_core.proofs.solver.list_empty.Goals.{then-ends-place-eq0, else-ends-place-eq0}

pub loop-place-preserved : goal.loop-place-preserved
loop-place-preserved c =
    elim c.if-ends-place-eq0.branch [
      | then-ends-place-eq0 w ↦
          rw (w.out-is, w.count-is)
          (Empty-more _ _ _ _ c.loop-place.invariant w.if-ends-place-eq0.true (omega arith))
      | else-ends-place-eq0 w ↦
          rw (w.out-is, w.count-is)
          (Empty-skip _ _ _ _ c.loop-place.invariant w.if-ends-place-eq0.false)
    ]

pub returns-clause-ascending : goal.returns-clause-ascending
returns-clause-ascending c =
    let whole : c.loop-place.place ≡ c.args.unknowns = omega arith in
    let s = subst (λ (x : ℕ). EmptySoFar c.args.ends.now c.loop-place.out c.loop-place.count x) whole c.loop-place.invariant in
    let room : length c.loop-place.out ≡ c.args.unknowns = omega arith in
    taken-ascending _ _ _ _ s room

pub returns-clause-all : goal.returns-clause-all
returns-clause-all c =
    let whole : c.loop-place.place ≡ c.args.unknowns = omega arith in
    let s = subst (λ (x : ℕ). EmptySoFar c.args.ends.now c.loop-place.out c.loop-place.count x) whole c.loop-place.invariant in
    let room : length c.loop-place.out ≡ c.args.unknowns = omega arith in
    taken-all _ _ _ _ s room

pub returns-clause-only : goal.returns-clause-only
returns-clause-only c =
    let whole : c.loop-place.place ≡ c.args.unknowns = omega arith in
    let s = subst (λ (x : ℕ). EmptySoFar c.args.ends.now c.loop-place.out c.loop-place.count x) whole c.loop-place.invariant in
    let room : length c.loop-place.out ≡ c.args.unknowns = omega arith in
    taken-only _ _ _ _ s room
