-- The first number of the list is that of an independent unknown.
use Rattle.std.proofs.Common.{◌-◌, ◌<◌, length, take, get_or, arith}
use Rattle.std.proofs.lemmas.List.{get_or-take, length-take}
use Rattle.elim_core.proofs.Choices.{index-has_number}
use Rattle.elim_core.proofs.tests.by_the_first.Goals as goal

pub coefficient-requires-clause-within : goal.coefficient-requires-clause-within
coefficient-requires-clause-within c =
    let list = take c.independents.result c.independents.new.out in
    let some : 0 < length list = omega (arith, length-take c.independents.result c.independents.new.out, c.independents.auto.out, c.if-independents-eq0.false, c.independents.ensures.count, c.requires.three) in
    let first = get_or-take c.independents.result c.independents.new.out 0 0 (omega (arith, c.if-independents-eq0.false)) in
    omega (arith, first, (c.independents.ensures.numbers 0 some).1)

pub coefficient-requires-clause-independent : goal.coefficient-requires-clause-independent
coefficient-requires-clause-independent c some_number =
    let list = take c.independents.result c.independents.new.out in
    let some : 0 < length list = omega (arith, length-take c.independents.result c.independents.new.out, c.independents.auto.out, c.if-independents-eq0.false, c.independents.ensures.count, c.requires.three) in
    let first = get_or-take c.independents.result c.independents.new.out 0 0 (omega (arith, c.if-independents-eq0.false)) in
    let number = c.independents.ensures.numbers 0 some in
    (c.independents.ensures.listed (get_or c.independents.new.out 0 0 - 1) (omega (arith, first, number.0, number.1))).0
    (index-has_number list 0 _ some (omega (arith, first, number.0)))
