use Rattle.std.proofs.Common.{◌≡◌, suc, ◌+◌, length, arith}
use Rattle.std.proofs.lemmas.Bool.{OnTrue_at, OnTrue_from}
use Rattle.prime_field.specs.Modulus.{value_of}
use Rattle.thiele_interp.proofs.Rising.{units-of_all, all-of_units, later-quotients}
use Rattle.thiele_interp.proofs.levels.next_level.Goals as goal

pub returns-then-are_units-clause-units : goal.returns-then-are_units-clause-units
returns-then-are_units-clause-units c =
    let m = value_of c.args.m in
    let n = length c.args.points.now in
    let lengths : suc c.args.k + length c.write_divisors.new.divisors ≡ n = omega arith in (
      λ is. units-of_all m c.args.k n c.args.differences.now c.write_divisors.new.divisors lengths c.write_divisors.ensures.divisors (c.inv_all-are_units.ensures.units.0 is),
      λ units. c.if-are_units.true,
    )

pub returns-then-are_units-clause-later : goal.returns-then-are_units-clause-later
returns-then-are_units-clause-later c =
    let m = value_of c.args.m in
    let n = length c.args.points.now in
    let lengths : suc c.args.k + length c.write_divisors.new.divisors ≡ n = omega arith in
    OnTrue_from c.inv_all-are_units.result _
    (λ is.
    later-quotients m c.args.k n c.args.points.now c.args.differences.now c.write_divisors.new.divisors c.inv_all-are_units.new.xs c.write_quotients.new.differences lengths
    (OnTrue_at is c.inv_all-are_units.ensures.inverted) c.write_divisors.ensures.divisors c.write_quotients.ensures.later)

pub returns-else-are_units-clause-units : goal.returns-else-are_units-clause-units
returns-else-are_units-clause-units c =
    let m = value_of c.args.m in
    let n = length c.args.points.now in
    let lengths : suc c.args.k + length c.write_divisors.new.divisors ≡ n = omega arith in (
      λ is. units-of_all m c.args.k n c.args.differences.now c.write_divisors.new.divisors lengths c.write_divisors.ensures.divisors (c.inv_all-are_units.ensures.units.0 is),
      λ units. c.inv_all-are_units.ensures.units.1 (all-of_units m c.args.k n c.args.differences.now c.write_divisors.new.divisors lengths c.write_divisors.ensures.divisors units),
    )
