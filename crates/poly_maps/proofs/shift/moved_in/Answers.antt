use Rattle.std.proofs.Common.{◌%◌, ◌∙◌, sym, ap, arith}
use Rattle.prime_field.specs.Modulus.{value_of}
use Rattle.prime_field.proofs.Moduli.{value_of-large}
use Rattle.poly_maps.specs.Polynomial.{coefficient}
use Rattle.poly_maps.specs.Moved.{moved}
use Rattle.poly_maps.specs.Expansion.{alone}
use Rattle.poly_maps.proofs.Expanding.{coefficient-unmoved}
use Rattle.poly_maps.proofs.shift.moved_in.Goals as goal

pub returns-then-a-eq0-clause-coefficients : goal.returns-then-a-eq0-clause-coefficients
returns-then-a-eq0-clause-coefficients c e =
    coefficient-unmoved (value_of c.args.m) c.args.i c.args.poly (omega (arith, value_of-large c.args.m)) c.terms-terms.ensures.polynomial c.requires.residues e ∙
    ap (λ a. coefficient e (moved (alone c.args.i a) c.args.poly) % value_of c.args.m) (sym c.if-a-eq0.true)
