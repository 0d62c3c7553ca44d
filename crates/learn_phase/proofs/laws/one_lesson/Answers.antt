-- The law follows from those of the definitions below.
use Rattle.learn_phase.specs.LearnedSets.{MeetsNeed}
use Rattle.learn_phase.proofs.OneLesson.{Laws, lesson_once}
use Rattle.learn_phase.proofs.laws.one_lesson.Goals as goal

pub returns : goal.returns
returns c =
    let laws : Laws = record {
      one_fresh = c.one_fresh.ensures;
      lengths = c.one_length.ensures.lengths;
      output = c.one_length.ensures.output;
      plans = c.one_length.ensures.plans;
      sets = c.one_length.ensures.sets;
      either = c.one_length.ensures.either;
      node = c.one_length.ensures.node;
    } in
    λ need form a b first second. lesson_once laws form.graphs (MeetsNeed need form) a b first second
