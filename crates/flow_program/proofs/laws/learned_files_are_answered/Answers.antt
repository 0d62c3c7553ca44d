-- The law follows from those of the definitions below.
use Rattle.flow_program.proofs.LearnedFiles.{Laws, answered_well}
use Rattle.flow_program.proofs.laws.learned_files_are_answered.Goals as goal

pub returns : goal.returns
returns c =
    let laws : Laws = record {
      one_lesson = c.one_lesson.ensures;
      told_or_nothing = c.no_fault.ensures;
      one_form = c.one_form.ensures;
    } in answered_well laws
