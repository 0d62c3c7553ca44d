use Rattle.std.proofs.Common.{arith}
use Rattle.graph_file.proofs.PartLemmas.{sides-other}
use Rattle.graph_file.proofs.patterns.sides.Goals as goal

pub returns-in_default : goal.returns-in_default
returns-in_default c = sides-other c.args.words.now (λ three. omega arith)
