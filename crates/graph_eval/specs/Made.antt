-- What a worker is made for.
use Rattle.std.specs.Prelude.{◌≡◌, List, [], length, vec_len}
use Rattle.graph_file.specs.declared.graph.Graph.{Graph}
use Rattle.graph_eval.specs.declared.learned.GraphLearned.{GraphLearned}
use Rattle.graph_eval.specs.declared.worker.Worker.{Worker}
use Rattle.graph_eval.specs.GraphValue.{main_number}
use Rattle.graph_eval.specs.Learned.{sets_of}
use Rattle.graph_eval.specs.Memos.{AreKept, FitFrames}
use Rattle.graph_eval.specs.Needs.{AreTables, kept_words, words_for}
use Rattle.graph_eval.specs.Systems.{AreEnoughFor}

-- The worker's region has the words that are kept and those that the main graph needs, of which none is in use; its block
-- has words enough for each system, its tables are those of the learned lengths, and what its
-- memos keep holds.
pub record IsMadeFor (graphs : List Graph) (learned : List GraphLearned) (worker : Worker) : Type 0 where
  pub kept : length worker.stack.kept ≡ kept_words graphs learned
  pub size : worker.stack.size ≡ words_for graphs learned (main_number graphs)
  pub empty : worker.stack.words ≡ []
  pub work : AreEnoughFor graphs (vec_len worker.work)
  pub tables : AreTables graphs learned worker.tables
  pub frames : FitFrames graphs learned worker.frames.items
  pub memos : AreKept graphs (sets_of learned) worker.frames.items worker.moduli.items worker.stack.kept
