-- The law follows from those of the definitions below.
use Rattle.flow_program.proofs.OneAnswer.{Laws, one_run}
use Rattle.flow_program.proofs.laws.one_answer.Goals as goal

pub returns : goal.returns
returns c =
    let laws : Laws = record {
      one_outcome = c.one_outcome.ensures;
      one_lesson = c.one_lesson.ensures;
      one_told = c.one_fault.ensures;
      told_or_nothing = λ need bytes n a bad good. c.no_fault.ensures need bytes n a good bad;
      one_finding = c.one_finding.ensures.once;
      one_report = c.one_finding.ensures.reported;
      one_form = c.one_form.ensures;
    } in one_run laws
