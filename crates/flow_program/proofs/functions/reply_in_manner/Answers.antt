-- What is found answers the file.
use Rattle.graph_file.specs.Says.{form}
use Rattle.reconstruction.specs.Found.{findings_of, reports_of}
use Rattle.flow_program.specs.Reconstructed.{asks_reports, telling_of}
use Rattle.flow_program.proofs.Ends.{each_prime}
use Rattle.flow_program.proofs.FunctionLaws.{few_found, job_names, told_functions}
use Rattle.flow_program.proofs.functions.reply_in_manner.Goals as goal

pub reply_to_findings-requires-clause-names : goal.reply_to_findings-requires-clause-names
reply_to_findings-requires-clause-names g c = job_names c.args.job.now.graphs c.args.job.now.points c.main_graph.result.now c.args.job.now.sound c.main_graph.ensures

pub reply_to_findings-requires-clause-few : goal.reply_to_findings-requires-clause-few
reply_to_findings-requires-clause-few g c =
    few_found c.args.job.now.need (form c.args.job.now) c.args.learned.now (findings_of c.in_ok-findings.findings) c.requires.need c.requires.fits c.in_ok-findings.ensures.fits

pub returns-clause-answer : goal.returns-clause-answer
returns-clause-answer g c =
    told_functions (asks_reports c.args.manner) (telling_of c.args.manner) c.reply_to_findings.result (form c.args.job.now) c.args.learned.now c.main_graph.result.now (findings_of c.in_ok-findings.findings) (reports_of c.in_ok-findings.findings)
    c.main_graph.ensures (λ prime. c.in_ok-findings.ensures.found (each_prime prime)) (λ prime. c.in_ok-findings.ensures.reported (each_prime prime)) c.reply_to_findings.ensures.answer
