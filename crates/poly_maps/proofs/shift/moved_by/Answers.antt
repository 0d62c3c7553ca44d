use Rattle.std.proofs.Common.{◌%◌, ◌∙◌, sym, ap, arith}
use Rattle.prime_field.specs.Modulus.{value_of}
use Rattle.poly_maps.specs.Polynomial.{coefficient}
use Rattle.poly_maps.proofs.Moves.{moved-nothing}
use Rattle.poly_maps.proofs.Expanding.{coefficient-further}
use Rattle.poly_maps.proofs.shift.moved_by.Goals as goal

pub loop-i-init : goal.loop-i-init
loop-i-init c = (
  c.in_ok-moved.ensures.residues,
  λ e.
      c.in_ok-moved.ensures.sum e ∙
      ap (λ p. coefficient e p % value_of c.args.m) c.in_ok-from_slice.ensures.items ∙
      ap (λ v. v % value_of c.args.m) (sym (moved-nothing 8 c.args.terms.now c.requires.polynomial.1 e)),
)

pub loop-i-preserved : goal.loop-i-preserved
loop-i-preserved c = (
  c.in_ok-moved-2.ensures.residues,
  λ e.
      c.in_ok-moved-2.ensures.coefficients e ∙
      coefficient-further (value_of c.args.m) c.loop-i.i c.args.s.now c.args.terms.now c.loop-i.moved c.requires.polynomial (omega arith) c.loop-i.invariant.1 e,
)
