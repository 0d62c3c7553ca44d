-- The next graph's lines are written.
use Rattle.graph_eval.proofs.Places.{read_at}
use Rattle.flow_program.specs.Lessons.{lessons}
use Rattle.flow_program.proofs.LessonLaws.{lessons-more}
use Rattle.flow_program.proofs.lessons.lessons.Goals as goal

pub push_lesson-requires : goal.push_lesson-requires
push_lesson-requires c =
    let graphs = c.args.job.now.graphs in
    let place = c.loop-place.place in
    (c.requires.each place c.graph-item.result c.graph.result.now (read_at c.as_slice-graph-items.result.now graphs place c.graph-item.result c.as_slice-graph-items.ensures c.loop-place-test.true c.graph-item.is) c.graph.ensures).many

pub loop-place-preserved : goal.loop-place-preserved
loop-place-preserved c =
    let graphs = c.args.job.now.graphs in
    let place = c.loop-place.place in
    lessons-more graphs c.args.learned.now place c.graph-item.result c.graph.result.now c.loop-place.text.items c.push_lesson.new.text.items (lessons graphs c.args.learned.now)
    (read_at c.as_slice-graph-items.result.now graphs place c.graph-item.result c.as_slice-graph-items.ensures c.loop-place-test.true c.graph-item.is) c.graph.ensures c.loop-place.invariant c.in_ok-push_lesson.ensures
