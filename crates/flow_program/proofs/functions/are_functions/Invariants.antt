-- All are functions where those that are left are.
use Rattle.std.proofs.Common.{◌≡◌, drop, map}
use Rattle.output_result.specs.Texts.{all_found}
use Rattle.reconstruction.specs.Found.{result_told}
use Rattle.flow_program.proofs.functions.are_functions.Given as goal

abbrev pub invariant-loop-told : goal.invariant-loop-told
invariant-loop-told l = all_found (map result_told l.outputs) ≡ all_found (map result_told (drop l.told-index l.outputs))
