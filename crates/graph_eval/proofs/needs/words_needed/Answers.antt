-- Each graph of a job is sound and calls earlier ones.
use Rattle.std.proofs.Common.{sym, subst}
use Rattle.graph_eval.specs.Learned.{AreGraphs, CallEarlier}
use Rattle.graph_eval.proofs.needs.words_needed.Goals as goal

pub kept_words-requires-clause-sound : goal.kept_words-requires-clause-sound
kept_words-requires-clause-sound c = subst AreGraphs (sym c.as_slice.ensures) (record { graph = c.args.job.now.sound.graph })

pub kept_words-requires-clause-earlier : goal.kept_words-requires-clause-earlier
kept_words-requires-clause-earlier c = subst CallEarlier (sym c.as_slice.ensures) (record { graph = c.args.job.now.sound.calls })
