-- With the lines of the outputs that are left, all lines would be there.
use Rattle.std.proofs.Common.{◌≡◌, ◌+◌, ◌++◌, drop, map}
use Rattle.output_result.specs.Texts.{lines_from}
use Rattle.reconstruction.specs.Found.{reports_in, result_told}
use Rattle.flow_program.specs.Reconstructed.{told_reports}
use Rattle.flow_program.proofs.functions.lines_of.Given as goal

abbrev pub invariant-loop-k : goal.invariant-loop-k
invariant-loop-k l =
    l.text.items ++ lines_from l.names (told_reports l.report (reports_in l.outputs)) (l.k + 1) (map result_told (drop l.k l.outputs)) ≡ lines_from l.names (told_reports l.report (reports_in l.outputs)) 1 (map result_told l.outputs)
