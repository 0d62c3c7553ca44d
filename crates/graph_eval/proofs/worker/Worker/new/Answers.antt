-- Each graph of a job is sound and calls earlier ones, and the memos have their places among the kept words.
use Rattle.std.proofs.Common.{◌≡◌, ℕ, ◌-◌, List, None, length, replicate, sym, ◌∙◌, ap, subst, arith}
use Rattle.graph_file.specs.declared.graph.Graph.{Graph}
use Rattle.graph_eval.specs.declared.learned.GraphLearned.{GraphLearned}
use Rattle.std.specs.Prelude.{vec_len}
use Rattle.std.proofs.lemmas.List.{length-replicate}
use Rattle.word_region.specs.Board.{Board}
use Rattle.graph_eval.specs.GraphValue.{main_number}
use Rattle.graph_eval.specs.Learned.{AreGraphs, CallEarlier, sets_of}
use Rattle.graph_eval.specs.Memos.{AreFrames, FramesStand}
use Rattle.graph_eval.specs.Needs.{AreTables, kept_words, words_for}
use Rattle.graph_eval.specs.Systems.{AreEnoughFor}
use Rattle.graph_eval.proofs.Fitting.{fits_known}
use Rattle.graph_eval.proofs.Remembered.{none_kept}
use Rattle.graph_eval.proofs.worker.Worker.new.Goals as goal

pub frames_of-requires-clause-sound : goal.frames_of-requires-clause-sound
frames_of-requires-clause-sound c = subst AreGraphs (sym c.as_slice-graphs.ensures) (record { graph = c.args.job.now.sound.graph })

pub frames_of-requires-clause-earlier : goal.frames_of-requires-clause-earlier
frames_of-requires-clause-earlier c = subst CallEarlier (sym c.as_slice-graphs.ensures) (record { graph = c.args.job.now.sound.calls })

pub frames_of-requires-clause-few : goal.frames_of-requires-clause-few
frames_of-requires-clause-few c = omega (arith, ap length c.as_slice-graphs.ensures, c.args.job.now.sound.bounded)

pub frames_of-requires-clause-known : goal.frames_of-requires-clause-known
frames_of-requires-clause-known c = ap length c.all-known.ensures ∙ c.requires.many ∙ sym (ap length c.as_slice-graphs.ensures)

pub kept_words-requires-clause-sound : goal.kept_words-requires-clause-sound
kept_words-requires-clause-sound c = subst AreGraphs (sym c.as_slice-graphs.ensures) (record { graph = c.args.job.now.sound.graph })

pub kept_words-requires-clause-earlier : goal.kept_words-requires-clause-earlier
kept_words-requires-clause-earlier c = subst CallEarlier (sym c.as_slice-graphs.ensures) (record { graph = c.args.job.now.sound.calls })

pub kept_words-requires-clause-few : goal.kept_words-requires-clause-few
kept_words-requires-clause-few c = omega (arith, ap length c.as_slice-graphs.ensures, c.args.job.now.sound.bounded)

pub kept_words-requires-clause-known : goal.kept_words-requires-clause-known
kept_words-requires-clause-known c = ap length c.all-known.ensures ∙ c.requires.many ∙ sym (ap length c.as_slice-graphs.ensures)

pub tables_of-requires-clause-sound : goal.tables_of-requires-clause-sound
tables_of-requires-clause-sound c = subst AreGraphs (sym c.as_slice-graphs.ensures) (record { graph = c.args.job.now.sound.graph })

pub tables_of-requires-clause-within : goal.tables_of-requires-clause-within
tables_of-requires-clause-within c = omega (arith, ap length c.all-known.ensures, c.requires.many, ap length c.as_slice-graphs.ensures)

pub tables_of-requires-clause-fits : goal.tables_of-requires-clause-fits
tables_of-requires-clause-fits c = fits_known c.args.job.now.graphs c.args.learned.now c.as_slice-graphs.result.now c.all-known.result.now c.as_slice-graphs.ensures c.all-known.ensures c.requires

pub work_for-requires : goal.work_for-requires
work_for-requires c = subst AreGraphs (sym c.as_slice-graphs.ensures) (record { graph = c.args.job.now.sound.graph })

pub returns : goal.returns
returns c =
    let graphs = c.args.job.now.graphs in
    let learned = c.args.learned.now in
    let shown = c.as_slice-graphs.result.now in
    let known = c.all-known.result.now in
    let kept : c.kept_words.result ≡ kept_words graphs learned = c.kept_words.ensures.words ∙ ap (λ gs. kept_words gs known) c.as_slice-graphs.ensures ∙ ap (kept_words graphs) c.all-known.ensures in
    let board = c.in_ok-new.ensures in
    let frames = c.in_ok-slots.frames.items in
    let zeros : length c.in_ok-new.field-0.kept ≡ kept_words graphs learned = ap (λ (b : Board). length b.kept) board ∙ length-replicate {A = ℕ} c.kept_words.result 0 ∙ kept in
    let made = subst (λ (gs : List Graph). AreFrames gs known frames (kept_words gs known)) c.as_slice-graphs.ensures c.in_ok-slots.ensures in
    let are = subst (λ (ls : List GraphLearned). AreFrames graphs ls frames (kept_words graphs ls)) c.all-known.ensures made in
    let none : c.in_ok-moduli.moduli.items ≡ replicate (length frames) None = c.in_ok-moduli.ensures ∙ ap (λ n. replicate n None) (let e : c.len.result ≡ length frames = omega (arith, c.len.ensures, c.in_ok-slots.frames.ok) in e) in
    record {
      kept = zeros;
      size = ap (λ (b : Board). b.size) board ∙ (let e : c.words_needed-words.result - c.kept_words.result ≡ words_for graphs learned (main_number graphs) = omega (arith, kept, c.words_needed-words.ensures) in e);
      empty = ap (λ (b : Board). b.words) board;
      work = subst (λ (gs : List Graph). AreEnoughFor gs (vec_len c.in_ok-work_for.field-0)) c.as_slice-graphs.ensures c.in_ok-work_for.ensures;
      tables = subst (λ (ls : List GraphLearned). AreTables graphs ls c.in_ok-tables_of.field-0) c.all-known.ensures (subst (λ (gs : List Graph). AreTables gs known c.in_ok-tables_of.field-0) c.as_slice-graphs.ensures c.in_ok-tables_of.ensures);
      frames = are.fit;
      memos = none_kept graphs (sets_of learned) frames c.in_ok-moduli.moduli.items c.in_ok-new.field-0.kept (subst (FramesStand frames) (sym zeros) are.stand) none;
    }
