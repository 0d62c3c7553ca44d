use Rattle.std.proofs.Common.{◌∷◌, sym, subst}
use Rattle.graph_file.specs.declared.line.Line.{Line}
use Rattle.graph_file.specs.Read.{IsRead}
use Rattle.graph_file.proofs.reader.Reader.take_in.Goals as goal

pub returns-in-Flow : goal.returns-in-Flow
returns-in-Flow c = λ earlier read. subst (λ (l : Line). IsRead (l ∷ earlier) c.flow.new.self) (sym c.in-Flow.is) (c.flow.ensures earlier c.in-Flow._version read)
