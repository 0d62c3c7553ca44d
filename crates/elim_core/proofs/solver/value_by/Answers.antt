use Rattle.std.proofs.Common.{◌+◌, ◌∙◌, get_or, rules}
use Rattle.elim_core.specs.Rows.{chosen_value}
use Rattle.elim_core.proofs.Solvers.{value_alone}
use Rattle.elim_core.proofs.solver.value_by.Goals as goal

pub returns-clause-value : goal.returns-clause-value
returns-clause-value c z low met free =
    value_alone _ _ _ _ (λ k. get_or c.back_substitute.new.values k 0) (λ k. chosen_value c.args.chosen (k + 1)) z c.args.place c.requires.laid_out c.requires.place
    c.back_substitute.ensures.residues c.back_substitute.ensures.met
    (λ k k_low none. c.back_substitute.ensures.free k k_low none ∙ c.write_choice.ensures.chosen k (search rules)) low met free
