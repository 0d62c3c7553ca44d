use Rattle.graph_file.specs.File.{said}
use Rattle.graph_file.specs.Lines.{lines}
use Rattle.graph_file.proofs.SaidBounds.{good-file-lines}
use Rattle.graph_file.proofs.read.read_graphs.Goals as goal

pub finish-requires : goal.finish-requires
finish-requires c = record {
  all = said (lines c.args.bytes.now);
  read = c.in_ok-reader.ensures.1;
  good = good-file-lines c.args.need c.args.bytes.now c.in_ok-reader.ensures.0;
  complete = c.in_ok-reader.ensures.0.complete;
}

pub returns-in-Ok-clause-ok : goal.returns-in-Ok-clause-ok
returns-in-Ok-clause-ok c = (c.in_ok-reader.ensures.0, c.in-Ok.ensures.said c.args.bytes.now c.in_ok-reader.ensures.1)
