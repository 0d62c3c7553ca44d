use Rattle.graph_file.proofs.CutLemmas.{after_word-is, take-drop}
use Rattle.graph_file.proofs.lines.after_word.Goals as goal

pub returns : goal.returns
returns c = after_word-is c.args.line.now _ c.word_start.result c.word_end.result c.word_start.ensures.value (take-drop c.word_start.result c.args.line.now) c.word_end.ensures.value
