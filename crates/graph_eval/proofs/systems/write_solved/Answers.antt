-- What is solved over the kept rows is solved over all.
use Rattle.std.proofs.Common.{arith}
use Rattle.prime_field.specs.Modulus.{value_of}
use Rattle.prime_field.proofs.Moduli.{value_of-large}
use Rattle.graph_eval.specs.Systems.{rows_in}
use Rattle.elim_core.proofs.KeptRows.{solved_kept, undefined_kept, residues_kept}
use Rattle.elim_core.proofs.SameSolutions.{value_solvable}
use Rattle.graph_eval.proofs.systems.write_solved.Goals as goal

pub returns-in-Some-clause-solved : goal.returns-in-Some-clause-solved
returns-in-Some-clause-solved c =
    solved_kept _ _ (value_of c.args.m) c.args.unknowns (rows_in c.args.rows c.args.unknowns c.args.list.now) c.in-Some.ensures.kept c.args.set.now c.args.want.now c.solve_over.new.out c.solve_over.result
    c.requires.set c.requires.want (omega (arith, c.requires.room)) c.solve_over.ensures.solved

pub returns-in-Some-clause-undefined : goal.returns-in-Some-clause-undefined
returns-in-Some-clause-undefined c =
    undefined_kept _ _ (value_of c.args.m) c.args.unknowns (rows_in c.args.rows c.args.unknowns c.args.list.now) c.in-Some.ensures.kept c.args.set.now c.solve_over.result c.solve_over.ensures.undefined

pub returns-in-Some-clause-residues : goal.returns-in-Some-clause-residues
returns-in-Some-clause-residues c =
    residues_kept _ _ (value_of c.args.m) c.args.unknowns (rows_in c.args.rows c.args.unknowns c.args.list.now) c.in-Some.ensures.kept c.args.set.now c.args.want.now c.solve_over.new.out c.solve_over.result
    c.requires.set c.requires.want (omega (arith, c.requires.room)) c.solve_over.ensures.solved

pub returns-in-None-clause-undefined : goal.returns-in-None-clause-undefined
returns-in-None-clause-undefined c = λ prime has.
    c.in-None.ensures.unsolvable prime (value_solvable (value_of c.args.m) c.args.unknowns (rows_in c.args.rows c.args.unknowns c.args.list.now) c.args.set.now (value_of-large c.args.m) has)
