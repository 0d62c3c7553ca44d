use Rattle.std.proofs.Common.{ℕ, inl, inr, sym, ◌∙◌, subst, arith}
use Rattle.std.proofs.lemmas.Bool.{cases_eq}
use Rattle.sparse_solver.specs.Steps.{IsTurn}
use Rattle.sparse_solver.proofs.learned.are_turns.Goals as goal

pub loop-turn-preserved : goal.loop-turn-preserved
loop-turn-preserved c = record {
  room = c.is_turn.ensures.room ∙ c.loop-turn.invariant.room;
  below = c.is_turn.ensures.below;
  each = λ t low.
      elim (cases_eq t c.loop-turn.turn) [
        | inl last ↦ subst (λ (n : ℕ). IsTurn c.args.rows.now c.args.steps.now n) (sym last) c.if-not-is_turn.ensures.turn
        | inr other ↦ c.loop-turn.invariant.each t (omega (arith, other))
      ];
}

pub returns : goal.returns
returns c = record { each = λ t low. c.loop-turn.invariant.each t (omega arith) }
