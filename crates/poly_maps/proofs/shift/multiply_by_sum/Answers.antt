use Rattle.std.proofs.Common.{◌∙◌, ap, arith, ◌+◌, ◌%◌}
use Rattle.prime_field.specs.Modulus.{value_of}
use Rattle.prime_field.proofs.Moduli.{value_of-large}
use Rattle.poly_maps.proofs.Expanding.{IsMultiplied-start, IsMultiplied-next, IsMultiplied-end}
use Rattle.poly_maps.proofs.shift.multiply_by_sum.Goals as goal

pub loop-entry-init : goal.loop-entry-init
loop-entry-init c =
    IsMultiplied-start (value_of c.args.m) c.args.a c.args.row.now (omega (arith, value_of-large c.args.m)) c.requires.residues

pub mul-requires-clause-right : goal.mul-requires-clause-right
mul-requires-clause-right c = c.loop-entry.invariant.rest c.loop-entry.entry-index (omega arith) (omega arith)

pub add-requires-clause-left : goal.add-requires-clause-left
add-requires-clause-left c = c.loop-entry.invariant.low

pub loop-entry-preserved : goal.loop-entry-preserved
loop-entry-preserved c =
    IsMultiplied-next (value_of c.args.m) c.args.a c.loop-entry.below c.loop-entry.entry-index c.add.result c.loop-entry.row c.args.row.now c.loop-entry.invariant (omega arith)
    (c.add.ensures.sum ∙ ap (λ v. (c.loop-entry.below + v) % value_of c.args.m) c.mul.ensures.product)

pub returns : goal.returns
returns c = record {
  product = IsMultiplied-end (value_of c.args.m) c.args.a c.loop-entry.below c.loop-entry.entry-index c.loop-entry.row c.args.row.now c.loop-entry.invariant (omega arith);
}
