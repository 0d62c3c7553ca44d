-- What a text of results promises follows from the laws of attempts and of the results of one output.
use Rattle.ray_grid.specs.Grid.{bound_of}
use Rattle.graph_file.specs.Says.{grid_of}
use Rattle.reconstruction.specs.Form.{functions_of}
use Rattle.reconstruction.proofs.Forms.{FormLaws, sound}
use Rattle.reconstruction.proofs.Printed.{all_well, attempts, quotients, unique}
use Rattle.reconstruction.proofs.Sound.{Laws}
use Rattle.reconstruction.proofs.laws.functions_are_printed.Goals as goal

pub returns-clause-quotients : goal.returns-clause-quotients
returns-clause-quotients c =
    let forms : FormLaws = record {
      one_sampling = c.one_sampling.ensures.once;
      shown = c.results_are_shown.ensures;
      forcing = c.attempts_are_forcing.ensures;
      bounds = c.said_bounds.ensures;
      covers = c.said_grid.ensures;
      names = c.said_names.ensures;
    } in
    let laws : Laws = record {
      one_result = c.one_result.ensures;
      quotient_is_found = c.quotient_is_found.ensures.only;
      agreeing_are_cross_equal = c.agreeing_are_cross_equal.ensures;
      printed_is_found = c.printed_is_found.ensures;
      found_is_printed = c.found_is_printed.ensures;
    } in
    λ bytes form learned reports results prime asked found. quotients laws (functions_of form learned) (bound_of (grid_of form)) (sound forms bytes form learned asked) prime reports results found

pub returns-clause-unique : goal.returns-clause-unique
returns-clause-unique c =
    let forms : FormLaws = record {
      one_sampling = c.one_sampling.ensures.once;
      shown = c.results_are_shown.ensures;
      forcing = c.attempts_are_forcing.ensures;
      bounds = c.said_bounds.ensures;
      covers = c.said_grid.ensures;
      names = c.said_names.ensures;
    } in
    let laws : Laws = record {
      one_result = c.one_result.ensures;
      quotient_is_found = c.quotient_is_found.ensures.only;
      agreeing_are_cross_equal = c.agreeing_are_cross_equal.ensures;
      printed_is_found = c.printed_is_found.ensures;
      found_is_printed = c.found_is_printed.ensures;
    } in
    λ bytes form learned reports results asked found. unique laws (functions_of form learned) (bound_of (grid_of form)) (sound forms bytes form learned asked) reports results found

pub returns-clause-taken : goal.returns-clause-taken
returns-clause-taken c =
    let forms : FormLaws = record {
      one_sampling = c.one_sampling.ensures.once;
      shown = c.results_are_shown.ensures;
      forcing = c.attempts_are_forcing.ensures;
      bounds = c.said_bounds.ensures;
      covers = c.said_grid.ensures;
      names = c.said_names.ensures;
    } in
    let laws : Laws = record {
      one_result = c.one_result.ensures;
      quotient_is_found = c.quotient_is_found.ensures.only;
      agreeing_are_cross_equal = c.agreeing_are_cross_equal.ensures;
      printed_is_found = c.printed_is_found.ensures;
      found_is_printed = c.found_is_printed.ensures;
    } in
    λ bytes form learned reports results asked found. attempts laws (functions_of form learned) (bound_of (grid_of form)) (sound forms bytes form learned asked) reports results found

pub returns-clause-found : goal.returns-clause-found
returns-clause-found c =
    let forms : FormLaws = record {
      one_sampling = c.one_sampling.ensures.once;
      shown = c.results_are_shown.ensures;
      forcing = c.attempts_are_forcing.ensures;
      bounds = c.said_bounds.ensures;
      covers = c.said_grid.ensures;
      names = c.said_names.ensures;
    } in
    let laws : Laws = record {
      one_result = c.one_result.ensures;
      quotient_is_found = c.quotient_is_found.ensures.only;
      agreeing_are_cross_equal = c.agreeing_are_cross_equal.ensures;
      printed_is_found = c.printed_is_found.ensures;
      found_is_printed = c.found_is_printed.ensures;
    } in
    λ bytes form learned results taken prime asked found are well. all_well laws (functions_of form learned) (bound_of (grid_of form)) (sound forms bytes form learned asked) prime results found taken are well
