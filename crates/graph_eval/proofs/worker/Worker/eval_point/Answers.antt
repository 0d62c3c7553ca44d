-- The point's entries are the main graph's inputs, on an empty stack with room for all that it needs.
use Rattle.std.proofs.Common.{◌≡◌, ℕ, ◌-◌, ◌<◌, List, Option, ◌++◌, length, sym, ◌∙◌, ap, subst, arith}
use Rattle.std.specs.Prelude.{slice_get}
use Rattle.std.proofs.lemmas.List.Elements.{All-same}
use Rattle.word_region.specs.Board.{Board}
use Rattle.prime_field.specs.Modulus.{value_of}
use Rattle.graph_file.specs.declared.graph.Graph.{Graph}
use Rattle.graph_eval.specs.declared.learned.GraphLearned.{GraphLearned}
use Rattle.graph_eval.specs.Evaluated.{IsNeededAt}
use Rattle.graph_eval.specs.GraphValue.{GraphValue, SingularAt, Value, main_number}
use Rattle.graph_eval.specs.Learned.{AreGraphs, CallEarlier, sets_of}
use Rattle.graph_eval.specs.Memos.{AreKept, FitFrames}
use Rattle.graph_eval.specs.Needs.{AreTables}
use Rattle.graph_eval.specs.declared.memos.MemoFrame.{MemoFrame}
use Rattle.prime_field.specs.declared.Modulus.{Modulus}
use lib.Seq.{take_at}
use Rattle.graph_eval.specs.Stacked.{IsReady}
use Rattle.graph_eval.specs.Systems.{AreEnoughFor}
use Rattle.graph_eval.proofs.Fitting.{fits_known}
use Rattle.graph_eval.proofs.Working.{fits_defined, fits_singular, kept_same, point_ready}
use Rattle.graph_eval.proofs.worker.Worker.eval_point.Goals as goal

pub evaluate-requires-clause-sound : goal.evaluate-requires-clause-sound
evaluate-requires-clause-sound c = subst AreGraphs (sym c.as_slice-graphs.ensures) (record { graph = c.args.job.now.sound.graph })

pub evaluate-requires-clause-earlier : goal.evaluate-requires-clause-earlier
evaluate-requires-clause-earlier c = subst CallEarlier (sym c.as_slice-graphs.ensures) (record { graph = c.args.job.now.sound.calls })

pub evaluate-requires-clause-fits : goal.evaluate-requires-clause-fits
evaluate-requires-clause-fits c = fits_known c.args.job.now.graphs c.args.learned.now c.as_slice-graphs.result.now c.all.result.now c.as_slice-graphs.ensures c.all.ensures c.requires.fits

pub evaluate-requires-clause-known : goal.evaluate-requires-clause-known
evaluate-requires-clause-known c = omega (arith, ap length c.as_slice-graphs.ensures, ap length c.all.ensures, c.requires.fits.many, c.args.job.now.sound.main)

pub evaluate-requires-clause-frames : goal.evaluate-requires-clause-frames
evaluate-requires-clause-frames c =
    subst (λ (gs : List Graph). FitFrames gs c.all.result.now c.as_slice-3.result.now) (sym c.as_slice-graphs.ensures)
    (subst (λ (ls : List GraphLearned). FitFrames c.args.job.now.graphs ls c.as_slice-3.result.now) (sym c.all.ensures)
    (subst (FitFrames c.args.job.now.graphs c.args.learned.now) (sym c.as_slice-3.ensures.value) c.requires.made.frames))

pub evaluate-requires-clause-ready : goal.evaluate-requires-clause-ready
evaluate-requires-clause-ready c =
    let graphs = c.args.job.now.graphs in
    let ready = point_ready c.args.m graphs c.args.learned.now (main_number graphs) c.args.self.now.stack c.push.new.self c.entries.result.now c.args.point.now c.requires.made.size c.requires.made.empty c.push.ensures c.entries.ensures.value c.entries.ensures.point c.requires.entries in
    subst (λ (gs : List Graph). IsReady (value_of c.args.m) gs c.all.result.now (length gs - 1) 0 c.push.new.self) (sym c.as_slice-graphs.ensures)
    (subst (λ (ls : List GraphLearned). IsReady (value_of c.args.m) graphs ls (main_number graphs) 0 c.push.new.self) (sym c.all.ensures) ready)

pub evaluate-requires-clause-tables : goal.evaluate-requires-clause-tables
evaluate-requires-clause-tables c =
    subst (λ (gs : List Graph). AreTables gs c.all.result.now c.as_slice.result.now) (sym c.as_slice-graphs.ensures)
    (subst (λ (ls : List GraphLearned). AreTables c.args.job.now.graphs ls c.as_slice.result.now) (sym c.all.ensures)
    (subst (AreTables c.args.job.now.graphs c.args.learned.now) (sym c.as_slice.ensures) c.requires.made.tables))

pub evaluate-requires-clause-work : goal.evaluate-requires-clause-work
evaluate-requires-clause-work c =
    subst (λ (gs : List Graph). AreEnoughFor gs (length c.as_mut_slice-3.result.now)) (sym c.as_slice-graphs.ensures) (subst (AreEnoughFor c.args.job.now.graphs) (sym c.as_mut_slice-3.ensures.len) c.requires.made.work)

pub returns-in-Ok-clause-value : goal.returns-in-Ok-clause-value
returns-in-Ok-clause-value c = λ prime.
    let m = value_of c.args.m in
    let graphs = c.args.job.now.graphs in
    let learned = c.args.learned.now in
    let replaced = c.in-Ok.ensures.ok in
    let values = replaced.values in
    let pushed : c.push.new.self.words ≡ c.args.point.now = ap (λ (b : Board). b.words) c.push.ensures ∙ ap (λ ws. ws ++ c.entries.result.now) c.requires.made.empty ∙ c.entries.ensures.value in
    let written : c.copy_from_slice.new.self ≡ values = c.copy_from_slice.ensures.after ∙ c.words.ensures ∙ replaced.words in
    subst (λ (vs : List ℕ). GraphValue m graphs (sets_of learned) (main_number graphs) c.args.point.now (Value vs)) (sym written)
    (subst (λ (p : List ℕ). GraphValue m graphs (sets_of learned) (main_number graphs) p (Value values)) pushed
    (subst (λ (ls : List GraphLearned). GraphValue m graphs (sets_of ls) (main_number graphs) c.push.new.self.words (Value values)) c.all.ensures
    (subst (λ (gs : List Graph). GraphValue m gs (sets_of c.all.result.now) (length gs - 1) c.push.new.self.words (Value values)) c.as_slice-graphs.ensures (replaced.value prime))))

pub returns-in-Ok-clause-made : goal.returns-in-Ok-clause-made
returns-in-Ok-clause-made c =
    let graphs = c.args.job.now.graphs in
    let learned = c.args.learned.now in
    let sets = sets_of learned in
    let moduli = c.evaluate.new.moduli in
    let told = subst (λ (fs : List MemoFrame). AreKept graphs sets fs moduli c.evaluate.new.stack.kept) c.as_slice-3.ensures.value
    (subst (λ (ls : List GraphLearned). AreKept graphs (sets_of ls) c.as_slice-3.result.now moduli c.evaluate.new.stack.kept) c.all.ensures
    (subst (λ (gs : List Graph). AreKept gs (sets_of c.all.result.now) c.as_slice-3.result.now moduli c.evaluate.new.stack.kept) c.as_slice-graphs.ensures c.evaluate.ensures.memos)) in
    record {
      kept = ap length (ap (λ (b : Board). b.kept) c.cut.ensures) ∙ c.evaluate.ensures.kept ∙ ap length (ap (λ (b : Board). b.kept) c.push.ensures) ∙ c.requires.made.kept;
      size = ap (λ (b : Board). b.size) c.cut.ensures ∙ c.evaluate.ensures.size ∙ ap (λ (b : Board). b.size) c.push.ensures ∙ c.requires.made.size;
      empty = ap (λ (b : Board). b.words) c.cut.ensures;
      work = c.requires.made.work;
      tables = c.requires.made.tables;
      frames = c.requires.made.frames;
      memos = kept_same graphs sets c.args.self.now.frames.items moduli _ c.evaluate.new.stack.kept _ (sym (take_at moduli _ _ (c.evaluate.auto.moduli ∙ c.as_mut_slice.ensures.len))) (sym (ap (λ (b : Board). b.kept) c.cut.ensures)) told;
    }

pub returns-in-Ok-clause-fits : goal.returns-in-Ok-clause-fits
returns-in-Ok-clause-fits c =
    let m = value_of c.args.m in
    let graphs = c.args.job.now.graphs in
    let replaced = c.in-Ok.ensures.ok in
    let written : c.copy_from_slice.new.self ≡ replaced.values = c.copy_from_slice.ensures.after ∙ c.words.ensures ∙ replaced.words in
    fits_defined m (slice_get graphs (main_number graphs)) c.args.point.now c.copy_from_slice.new.self c.requires.entries (All-same (λ x. x < m) _ _ written replaced.low)

pub returns-in-Err-clause-value : goal.returns-in-Err-clause-value
returns-in-Err-clause-value c = λ prime.
    let m = value_of c.args.m in
    let graphs = c.args.job.now.graphs in
    let learned = c.args.learned.now in
    let outcome = SingularAt c.in-Err.singular.node c.in-Err.singular.cause in
    let pushed : c.push.new.self.words ≡ c.args.point.now = ap (λ (b : Board). b.words) c.push.ensures ∙ ap (λ ws. ws ++ c.entries.result.now) c.requires.made.empty ∙ c.entries.ensures.value in
    subst (λ (p : List ℕ). GraphValue m graphs (sets_of learned) (main_number graphs) p outcome) pushed
    (subst (λ (ls : List GraphLearned). GraphValue m graphs (sets_of ls) (main_number graphs) c.push.new.self.words outcome) c.all.ensures
    (subst (λ (gs : List Graph). GraphValue m gs (sets_of c.all.result.now) (length gs - 1) c.push.new.self.words outcome) c.as_slice-graphs.ensures (c.in-Err.ensures.err prime)))

pub returns-in-Err-clause-made : goal.returns-in-Err-clause-made
returns-in-Err-clause-made c =
    let graphs = c.args.job.now.graphs in
    let learned = c.args.learned.now in
    let sets = sets_of learned in
    let moduli = c.evaluate.new.moduli in
    let told = subst (λ (fs : List MemoFrame). AreKept graphs sets fs moduli c.evaluate.new.stack.kept) c.as_slice-3.ensures.value
    (subst (λ (ls : List GraphLearned). AreKept graphs (sets_of ls) c.as_slice-3.result.now moduli c.evaluate.new.stack.kept) c.all.ensures
    (subst (λ (gs : List Graph). AreKept gs (sets_of c.all.result.now) c.as_slice-3.result.now moduli c.evaluate.new.stack.kept) c.as_slice-graphs.ensures c.evaluate.ensures.memos)) in
    record {
      kept = ap length (ap (λ (b : Board). b.kept) c.cut-in-Err.ensures) ∙ c.evaluate.ensures.kept ∙ ap length (ap (λ (b : Board). b.kept) c.push.ensures) ∙ c.requires.made.kept;
      size = ap (λ (b : Board). b.size) c.cut-in-Err.ensures ∙ c.evaluate.ensures.size ∙ ap (λ (b : Board). b.size) c.push.ensures ∙ c.requires.made.size;
      empty = ap (λ (b : Board). b.words) c.cut-in-Err.ensures;
      work = c.requires.made.work;
      tables = c.requires.made.tables;
      frames = c.requires.made.frames;
      memos = kept_same graphs sets c.args.self.now.frames.items moduli _ c.evaluate.new.stack.kept _ (sym (take_at moduli _ _ (c.evaluate.auto.moduli ∙ c.as_mut_slice.ensures.len))) (sym (ap (λ (b : Board). b.kept) c.cut-in-Err.ensures)) told;
    }

pub returns-in-Err-clause-fits : goal.returns-in-Err-clause-fits
returns-in-Err-clause-fits c =
    let graphs = c.args.job.now.graphs in
    fits_singular (value_of c.args.m) (slice_get graphs (main_number graphs)) c.args.out.now c.in-Err.singular
    (subst (λ (gs : List Graph). IsNeededAt (slice_get gs (length gs - 1)) c.in-Err.singular.node) c.as_slice-graphs.ensures c.in-Err.ensures.needed)

pub evaluate-requires-clause-memos : goal.evaluate-requires-clause-memos
evaluate-requires-clause-memos c =
    let graphs = c.args.job.now.graphs in
    let learned = c.args.learned.now in
    let kept = c.push.new.self.kept in
    subst (λ (gs : List Graph). AreKept gs (sets_of c.all.result.now) c.as_slice-3.result.now c.as_mut_slice.result.now kept) (sym c.as_slice-graphs.ensures)
    (subst (λ (ls : List GraphLearned). AreKept graphs (sets_of ls) c.as_slice-3.result.now c.as_mut_slice.result.now kept) (sym c.all.ensures)
    (subst (λ (fs : List MemoFrame). AreKept graphs (sets_of learned) fs c.as_mut_slice.result.now kept) (sym c.as_slice-3.ensures.value)
    (subst (λ (ms : List (Option Modulus)). AreKept graphs (sets_of learned) c.args.self.now.frames.items ms kept) (sym c.as_mut_slice.ensures.value)
    (subst (AreKept graphs (sets_of learned) c.args.self.now.frames.items c.args.self.now.moduli.items) (sym (ap (λ (b : Board). b.kept) c.push.ensures)) c.requires.made.memos))))
