-- The laws of what is found follow from those of attempts and of the results of one output.
use Rattle.ray_grid.specs.Grid.{bound_of}
use Rattle.graph_file.specs.Says.{grid_of}
use Rattle.reconstruction.specs.Form.{functions_of}
use Rattle.reconstruction.proofs.Forms.{FormLaws, sound}
use Rattle.reconstruction.proofs.Once.{findings_once, found_where_taken, reports_once}
use Rattle.reconstruction.proofs.Sound.{Laws}
use Rattle.reconstruction.proofs.laws.one_finding.Goals as goal

pub returns-clause-once : goal.returns-clause-once
returns-clause-once c =
    let forms : FormLaws = record {
      one_sampling = c.one_sampling.ensures.once;
      shown = c.results_are_shown.ensures;
      forcing = c.attempts_are_forcing.ensures;
      bounds = c.said_bounds.ensures;
      covers = c.said_grid.ensures;
      names = c.said_names.ensures;
    } in
    let laws : Laws = record {
      one_result = c.one_result.ensures;
      quotient_is_found = c.quotient_is_found.ensures.only;
      agreeing_are_cross_equal = c.agreeing_are_cross_equal.ensures;
      printed_is_found = c.printed_is_found.ensures;
      found_is_printed = c.found_is_printed.ensures;
    } in
    λ bytes form learned a b asked first second. findings_once laws (functions_of form learned) (bound_of (grid_of form)) (sound forms bytes form learned asked) a b first second

pub returns-clause-taken : goal.returns-clause-taken
returns-clause-taken c =
    let forms : FormLaws = record {
      one_sampling = c.one_sampling.ensures.once;
      shown = c.results_are_shown.ensures;
      forcing = c.attempts_are_forcing.ensures;
      bounds = c.said_bounds.ensures;
      covers = c.said_grid.ensures;
      names = c.said_names.ensures;
    } in
    let laws : Laws = record {
      one_result = c.one_result.ensures;
      quotient_is_found = c.quotient_is_found.ensures.only;
      agreeing_are_cross_equal = c.agreeing_are_cross_equal.ensures;
      printed_is_found = c.printed_is_found.ensures;
      found_is_printed = c.found_is_printed.ensures;
    } in
    λ bytes form learned taken m gaps asked are found. found_where_taken laws (functions_of form learned) (bound_of (grid_of form)) (sound forms bytes form learned asked) taken m gaps are found

pub returns-clause-reported : goal.returns-clause-reported
returns-clause-reported c =
    let forms : FormLaws = record {
      one_sampling = c.one_sampling.ensures.once;
      shown = c.results_are_shown.ensures;
      forcing = c.attempts_are_forcing.ensures;
      bounds = c.said_bounds.ensures;
      covers = c.said_grid.ensures;
      names = c.said_names.ensures;
    } in
    let laws : Laws = record {
      one_result = c.one_result.ensures;
      quotient_is_found = c.quotient_is_found.ensures.only;
      agreeing_are_cross_equal = c.agreeing_are_cross_equal.ensures;
      printed_is_found = c.printed_is_found.ensures;
      found_is_printed = c.found_is_printed.ensures;
    } in
    λ bytes form learned r s results asked first second. reports_once c.one_report.ensures laws (functions_of form learned) (bound_of (grid_of form)) (sound forms bytes form learned asked) r s results first second
