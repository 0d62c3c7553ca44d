use Rattle.std.proofs.Common.{◌<◌, sym, ◌∙◌, subst, arith}
use Rattle.prime_field.specs.Modulus.{value_of}
use Rattle.poly_maps.proofs.PowerLemmas.{mono_more, mono_skipped}
use Rattle.poly_maps.proofs.monomial_plan.value_by_powers.Goals as goal
use Rattle.poly_maps.proofs.monomial_plan.value_by_powers.Goals.{then-exponents-i-gt0, else-exponents-i-gt0}

pub loop-i-preserved : goal.loop-i-preserved
loop-i-preserved c =
    elim c.if-exponents-i-gt0.branch [
      | then-exponents-i-gt0 w ↦
          let made = w.product-is ∙ w.mul-product.ensures.product in (
            subst (λ n. n < value_of c.args.m) (sym w.product-is) w.mul-product.ensures.residue,
            mono_more _ c.exponents-exponents.result.now c.args.entries.now c.loop-i.i c.loop-i.product w.pow.result c.if-exponents-i-gt0.product (omega arith) (omega arith) w.pow.ensures.power made c.loop-i.invariant.1,
          )
      | else-exponents-i-gt0 w ↦ (
        subst (λ n. n < value_of c.args.m) (sym w.product-is) c.loop-i.invariant.0,
        mono_skipped _ c.exponents-exponents.result.now c.args.entries.now c.loop-i.i c.if-exponents-i-gt0.product (omega arith) (omega arith) (omega arith) (rw w.product-is c.loop-i.invariant.1),
      )
    ]
