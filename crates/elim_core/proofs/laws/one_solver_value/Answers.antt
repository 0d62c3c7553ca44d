use Rattle.elim_core.proofs.Solvers.{solver_constant, solver_multiple}
use Rattle.elim_core.proofs.laws.one_solver_value.Goals as goal

pub returns-clause-multiples : goal.returns-clause-multiples
returns-clause-multiples c = solver_multiple

pub returns-clause-constants : goal.returns-clause-constants
returns-clause-constants c = solver_constant
