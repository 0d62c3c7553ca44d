-- What is found rests on what trying the attempts gave, and on each output's samples.
use Rattle.std.proofs.Common.{◌∙◌, ap, arith}
use Rattle.std.specs.Prelude.{slice_get}
use Rattle.prime_field.specs.Modulus.{value_of}
use Rattle.prime_field.specs.declared.Modulus.TheVariants.{First, Second}
use Rattle.ray_grid.specs.Grid.{point_count}
use Rattle.graph_file.specs.Says.{form, grid_of}
use Rattle.graph_eval.specs.GraphValue.{main_number}
use Rattle.graph_eval.specs.Learned.{outputs_of}
use Rattle.good_attempt.specs.Attempts.{Exhausted, Good}
use Rattle.good_attempt.specs.Tried.{sampling_of}
use Rattle.reconstruction.specs.Found.{result_told}
use Rattle.reconstruction.specs.Form.{variables_of}
use Rattle.reconstruction.proofs.Assembled.{all_shown, many_mapped}
use Rattle.reconstruction.proofs.Sampled.{all_found_over, all_reported_over, column_of_good, names_count, sampling_moved, small_outputs}
use Rattle.reconstruction.proofs.findings.reconstruct.Goals as goal

pub returns-in-Exhausted-clause-found : goal.returns-in-Exhausted-clause-found
returns-in-Exhausted-clause-found g c = λ prime.
    sampling_moved (form c.args.job.now) c.args.learned.now First c.grid-grid.result (sampling_of c.in_ok-first.field-0) (Exhausted c.in-Exhausted.gaps.items)
    c.grid-grid.ensures.value (ap sampling_of c.in-Exhausted.is) (c.in_ok-first.ensures.sampling (prime First))

pub returns-in-Exhausted-2-clause-found : goal.returns-in-Exhausted-2-clause-found
returns-in-Exhausted-2-clause-found g c = λ prime.
    let first = sampling_moved (form c.args.job.now) c.args.learned.now First c.grid-grid.result (sampling_of c.in_ok-first.field-0) (Good c.in-Good.first)
    c.grid-grid.ensures.value (ap sampling_of c.in-Good.is) (c.in_ok-first.ensures.sampling (prime First)) in (
      (c.in-Good.first, first),
      sampling_moved (form c.args.job.now) c.args.learned.now Second c.grid-grid.result (sampling_of c.in_ok-second.field-0) (Exhausted c.in-Exhausted-2.gaps.items)
          c.grid-grid.ensures.value (ap sampling_of c.in-Exhausted-2.is) (c.in_ok-second.ensures.sampling (prime Second)),
    )

pub find_outputs-requires-clause-few : goal.find_outputs-requires-clause-few
find_outputs-requires-clause-few g c =
    let small = small_outputs (grid_of (form c.args.job.now)) (outputs_of c.args.learned.now) c.requires.room in
    omega (arith, small, c.outputs-outputs.ensures)

pub find_outputs-requires-clause-first : goal.find_outputs-requires-clause-first
find_outputs-requires-clause-first g c = λ k low.
    column_of_good (value_of First) (point_count c.grid-grid.result) (outputs_of c.args.learned.now) k (slice_get c.args.job.now.graphs (main_number c.args.job.now.graphs)) (sampling_of c.in_ok-first.field-0) c.in-Good.first
    (ap sampling_of c.in-Good.is) (omega (arith, low, c.outputs-outputs.ensures)) c.in_ok-first.ensures.fits

pub find_outputs-requires-clause-second : goal.find_outputs-requires-clause-second
find_outputs-requires-clause-second g c = λ k low.
    column_of_good (value_of Second) (point_count c.grid-grid.result) (outputs_of c.args.learned.now) k (slice_get c.args.job.now.graphs (main_number c.args.job.now.graphs)) (sampling_of c.in_ok-second.field-0) c.in-Good-2.second
    (ap sampling_of c.in-Good-2.is) (omega (arith, low, c.outputs-outputs.ensures)) c.in_ok-second.ensures.fits

pub returns-clause-found : goal.returns-clause-found
returns-clause-found g c = λ prime.
    let said = form c.args.job.now in
    let names = variables_of (slice_get said.graphs (main_number said.graphs)) in
    all_found_over said c.args.learned.now c.in-Good.first c.in-Good-2.second names c.in_ok-find_outputs.field-0.items c.outputs-outputs.result prime c.outputs-outputs.ensures
    (sampling_moved said c.args.learned.now First c.grid-grid.result (sampling_of c.in_ok-first.field-0) (Good c.in-Good.first) c.grid-grid.ensures.value (ap sampling_of c.in-Good.is) (c.in_ok-first.ensures.sampling (prime First)))
    (sampling_moved said c.args.learned.now Second c.grid-grid.result (sampling_of c.in_ok-second.field-0) (Good c.in-Good-2.second) c.grid-grid.ensures.value (ap sampling_of c.in-Good-2.is) (c.in_ok-second.ensures.sampling (prime Second)))
    (c.in_ok-find_outputs.ensures names (names_count said c.grid-grid.result c.grid-grid.ensures.value))

pub returns-clause-reported : goal.returns-clause-reported
returns-clause-reported g c = λ prime.
    let said = form c.args.job.now in
    let names = variables_of (slice_get said.graphs (main_number said.graphs)) in
    all_reported_over said c.args.learned.now c.in-Good.first c.in-Good-2.second names c.in_ok-find_outputs.field-0.items c.outputs-outputs.result prime
    (sampling_moved said c.args.learned.now First c.grid-grid.result (sampling_of c.in_ok-first.field-0) (Good c.in-Good.first) c.grid-grid.ensures.value (ap sampling_of c.in-Good.is) (c.in_ok-first.ensures.sampling (prime First)))
    (sampling_moved said c.args.learned.now Second c.grid-grid.result (sampling_of c.in_ok-second.field-0) (Good c.in-Good-2.second) c.grid-grid.ensures.value (ap sampling_of c.in-Good-2.is) (c.in_ok-second.ensures.sampling (prime Second)))
    (c.in_ok-find_outputs.ensures names (names_count said c.grid-grid.result c.grid-grid.ensures.value))

pub returns-clause-told : goal.returns-clause-told
returns-clause-told g c =
    let said = form c.args.job.now in
    let names = variables_of (slice_get said.graphs (main_number said.graphs)) in
    all_shown names c.in_ok-find_outputs.field-0.items (c.in_ok-find_outputs.ensures names (names_count said c.grid-grid.result c.grid-grid.ensures.value)).shown

pub returns-clause-fits : goal.returns-clause-fits
returns-clause-fits g c =
    let said = form c.args.job.now in
    let names = variables_of (slice_get said.graphs (main_number said.graphs)) in
    many_mapped result_told c.in_ok-find_outputs.field-0.items ∙ (c.in_ok-find_outputs.ensures names (names_count said c.grid-grid.result c.grid-grid.ensures.value)).many ∙ c.outputs-outputs.ensures
