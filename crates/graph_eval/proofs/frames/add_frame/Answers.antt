-- One memo more, or none.
use Rattle.std.proofs.Common.{arith}
use Rattle.graph_eval.proofs.Framed.{frames_more}
use Rattle.graph_eval.proofs.frames.add_frame.Goals as goal

pub returns-clause-frames : goal.returns-clause-frames
returns-clause-frames c =
    let frame = c.in-Some.frame in
    frames_more c.args.graphs.now c.args.learned.now c.args.frames.now.items c.push.new.self.items c.args.at _ frame c.requires.before c.in-Some.ensures.at (omega (arith, c.in-Some.ensures.at)) c.in-Some.ensures.fits c.in_ok-push.ensures.items
