use Rattle.std.proofs.Common.{◌∙◌, rules}
use Rattle.prime_field.proofs.Powers.{even_turn, odd_turn}
use Rattle.ratfun_text.proofs.arithmetic.pow.Goals as goal
use Rattle.ratfun_text.proofs.arithmetic.pow.Goals.{then-rest-eq1, else-rest-eq1}

pub loop-rest-preserved : goal.loop-rest-preserved
loop-rest-preserved g c =
    elim c.if-rest-eq1.branch [
      | then-rest-eq1 w ↦ record {
        power_low = search rules;
        square_low = search rules;
        same = rw (w.power-is, w.mul-power.ensures.product, c.mul-square.ensures.product)
            (odd_turn _ _ _ _ w.if-rest-eq1.true ∙ c.loop-rest.invariant.same);
      }
      | else-rest-eq1 w ↦ record {
        power_low = search rules;
        square_low = search rules;
        same = rw (w.power-is, c.mul-square.ensures.product)
            (even_turn _ _ _ _ w.if-rest-eq1.false ∙ c.loop-rest.invariant.same);
      }
    ]
