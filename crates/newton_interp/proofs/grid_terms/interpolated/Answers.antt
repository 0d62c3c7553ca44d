use Rattle.std.proofs.Common.{length, slice_index, sym, ◌∙◌, subst, arith}
use Rattle.std.proofs.Math.Nat.{mod-eq_of_lt}
use Rattle.prime_field.specs.Modulus.{value_of}
use Rattle.poly_maps.specs.Polynomial.{AreResidues, Supported}
use Rattle.poly_maps.proofs.Moves.{Supported-coefficients}
use Rattle.newton_interp.specs.GridPoints.{IsOnAxes}
use Rattle.newton_interp.proofs.Monomials.{residues-terms, supported-terms, terms-values}
use Rattle.newton_interp.proofs.grid_terms.interpolated.Goals as goal

pub from_terms-requires : goal.from_terms-requires
from_terms-requires c =
    let m = value_of c.args.m in
    let made = c.interpolate_grid.new.buffer in
    subst (AreResidues m) (sym c.in_ok-terms.ensures) (residues-terms m c.args.axes.now (slice_index made) (length made) c.interpolate_grid.ensures.residues)

pub returns-clause-degrees : goal.returns-clause-degrees
returns-clause-degrees c =
    let made = c.interpolate_grid.new.buffer in
    let axes = c.args.axes.now in
    Supported-coefficients (IsOnAxes axes) (value_of c.args.m) c.in_ok-polynomial.polynomial c.in_ok-terms.terms.items c.in_ok-polynomial.ensures.polynomial.0 c.in_ok-polynomial.ensures.sum
    (subst (Supported (IsOnAxes axes)) (sym c.in_ok-terms.ensures) (supported-terms axes (slice_index made) (length made) c.requires.named (omega arith)))

pub returns-clause-values : goal.returns-clause-values
returns-clause-values c = λ i low.
    let made = c.interpolate_grid.new.buffer in
    terms-values (value_of c.args.m) (length made) c.args.axes.now made c.args.buffer.now c.in_ok-polynomial.polynomial c.in_ok-terms.terms.items c.requires.named (omega arith)
    (λ q fits. c.interpolate_grid.ensures.values q (omega arith)) c.in_ok-terms.ensures c.in_ok-polynomial.ensures.sum i (omega arith) ∙
    mod-eq_of_lt (c.requires.values i)
