use Rattle.output_result.proofs.Shown.{report_once}
use Rattle.output_result.proofs.laws.one_report.Goals as goal

pub returns : goal.returns
returns c = report_once
