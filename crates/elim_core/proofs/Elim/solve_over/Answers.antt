use Rattle.elim_core.specs.Solver.{HasSolverValue, IsSolverList}
use Rattle.elim_core.proofs.Choices.{on_true, on_false, true_of, false_of}
use Rattle.elim_core.proofs.Solvers.{failed_untold, solutions_same, solved_solver, untold_solver}
use Rattle.prime_field.specs.Modulus.{value_of}
use Rattle.prime_field.specs.Residue.{IsPrime}
use Rattle.elim_core.specs.Kept.{kept_rows}
use Rattle.elim_core.proofs.Elim.solve_over.Goals as goal

pub returns-then-self-clause-undefined : goal.returns-then-self-clause-undefined
returns-then-self-clause-undefined c prime = failed_untold _ _ _ c.if-self.true

pub returns-clause-solutions : goal.returns-clause-solutions
returns-clause-solutions c = solutions_same _ _ c.if-self.false _ c.solve_loaned.ensures.same

pub returns-clause-solved : goal.returns-clause-solved
returns-clause-solved c =
    let e = c.args.self.now in
    on_true c.solve_loaned.result (IsSolverList (value_of e.modulus) e.unknowns (kept_rows e c.args.words.now) c.args.set.now c.args.want.now c.solve_loaned.new.out)
    (λ is. solved_solver _ _ c.if-self.false _ _ _ (true_of c.solve_loaned.result _ c.solve_loaned.ensures.solved is))

pub returns-clause-undefined : goal.returns-clause-undefined
returns-clause-undefined c =
    let e = c.args.self.now in
    on_false c.solve_loaned.result (IsPrime (value_of e.modulus) → HasSolverValue (value_of e.modulus) e.unknowns (kept_rows e c.args.words.now) c.args.set.now → ⊥)
    (λ is prime. untold_solver _ _ c.if-self.false _ (false_of c.solve_loaned.result _ c.solve_loaned.ensures.undefined is prime))
