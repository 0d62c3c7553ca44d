-- Each row is kept behind those taken before it, until one leaves no solution.
use Rattle.std.proofs.Common.{refl}
use Rattle.prime_field.specs.Modulus.{value_of}
use Rattle.sparse_solver.proofs.Absorbed.{absorbed_all, absorbed_more, absorbed_none}
use Rattle.sparse_solver.proofs.absorption.absorb_rows.Goals as goal

pub returns-in-Contradiction-clause-unsolvable : goal.returns-in-Contradiction-clause-unsolvable
returns-in-Contradiction-clause-unsolvable c =
    absorbed_none (value_of c.args.m) c.args.unknowns c.args.rows.now c.args.values.now c.args.order.now _ _ _ _ c.loop-number.number-index _ _ c.loop-number-test.true refl
    c.loop-number.invariant c.absorb_row-rank.ensures.absorbed c.requires.order c.in-Contradiction.is

pub loop-number-preserved : goal.loop-number-preserved
loop-number-preserved c =
    absorbed_more (value_of c.args.m) c.args.unknowns c.args.rows.now c.args.values.now c.args.order.now _ _ _ _ c.loop-number.number-index _ _ c.loop-number-test.true refl
    c.loop-number.invariant c.absorb_row-rank.ensures.absorbed c.absorb_row-rank.ensures.belongs c.absorb_row-rank.ensures.kind c.in_default.not-Contradiction

pub returns-clause-kept : goal.returns-clause-kept
returns-clause-kept c =
    absorbed_all (value_of c.args.m) c.args.unknowns c.args.rows.now c.args.values.now c.args.order.now _ _ c.loop-number.number-index c.requires.order c.loop-number-test.false c.loop-number.invariant
