-- How the run ends follows from what it worked out and what was taken of it.
use Rattle.std.proofs.Common.{refl, inl, inr, lit≤}
use Rattle.flow_program.specs.Outside.{Tells, TellsAnswerFront, outside}
use Rattle.flow_program.specs.Status.{code_of}
use Rattle.flow_program.specs.declared.status.Status.TheVariants.{WriteFault}
use Rattle.flow_program.specs.Reply.{answer_of}
use Rattle.flow_program.specs.Words.{texts}
use Rattle.flow_program.proofs.Ends.{FunctionLaws, fault_runs, nothing_stands, read_faulted, told_runs}
use Rattle.flow_program.proofs.top.run.Goals as goal

pub returns-in-Ok-deliver : goal.returns-in-Ok-deliver
returns-in-Ok-deliver g c =
    let laws : FunctionLaws = record {
      taken = c.one_finding.ensures.taken;
      quotients = c.functions_are_printed.ensures.quotients;
      unique = c.functions_are_printed.ensures.unique;
      attempts = c.functions_are_printed.ensures.taken;
      found = c.functions_are_printed.ensures.found;
    } in
    let before = outside (g.H.Shelf.view c.args.shelf.now) (g.O.Sink.view c.args.out.now) (g.E.Sink.view c.args.err.now) in
    let after = outside (g.H.Shelf.view c.work_out.new.shelf) (g.O.Sink.view c.deliver.new.out) (g.E.Sink.view c.deliver.new.err) in
    let words = texts c.args.words.now in
    let answer = answer_of c.in-Ok.reply in
    let tells : Tells words (code_of c.in-Ok.reply.status) before after = record {
      answer = answer;
      is_right = c.in-Ok.ensures.right;
      status_told = refl;
      out_told = c.in-Ok-deliver.ensures.out;
      err_told = c.in-Ok-deliver.ensures.err;
    } in
    told_runs laws words before after c.in-Ok.reply.status answer c.in-Ok.ensures.status tells refl c.in-Ok-deliver.ensures.out c.in-Ok.ensures.learned c.in-Ok.ensures.words
    (λ wish asks none. absurd (nothing_stands words before.shelf answer wish c.in-Ok.ensures.right asks none))

pub returns-in-Ok : goal.returns-in-Ok
returns-in-Ok g c =
    let before = outside (g.H.Shelf.view c.args.shelf.now) (g.O.Sink.view c.args.out.now) (g.E.Sink.view c.args.err.now) in
    let after = outside (g.H.Shelf.view c.work_out.new.shelf) (g.O.Sink.view c.deliver.new.out) (g.E.Sink.view c.deliver.new.err) in
    let words = texts c.args.words.now in
    let front : TellsAnswerFront words before after = record { answer = answer_of c.in-Ok.reply; is_right = c.in-Ok.ensures.right; out_told = c.in-Err.ensures.out_front; err_told = c.in-Err.ensures.err_front } in
    fault_runs words before after WriteFault (lit≤ tt) (λ fine. absurd (fine (inr c.in-Err.ensures.failed))) (λ is. cc) (λ is. (c.in-Err.ensures.failed, inl front)) (λ is. cc)

pub returns-in-Err-ReadFault : goal.returns-in-Err-ReadFault
returns-in-Err-ReadFault g c =
    read_faulted (texts c.args.words.now) (g.H.Shelf.view c.args.shelf.now) (g.H.Shelf.view c.work_out.new.shelf) (g.O.Sink.view c.args.out.now) (g.E.Sink.view c.args.err.now) (g.E.Sink.view c.tell.new.err) c.tell.result
    (c.in-Err-ReadFault.ensures.failed (cc)) c.tell.ensures.either c.tell.ensures.told c.tell.ensures.front c.tell.ensures.failed
