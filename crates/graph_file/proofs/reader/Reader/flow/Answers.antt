use Rattle.std.proofs.Common.{refl}
use Rattle.graph_file.specs.declared.line.Line.TheVariants.{Flow}
use Rattle.graph_file.proofs.GraphLemmas.{AreBehind-kept}
use Rattle.graph_file.proofs.Passes.{stands-flow}
use Rattle.graph_file.proofs.SoundLemmas.{IsSound-flow}
use Rattle.graph_file.proofs.TakeLemmas.{stands-next}
use Rattle.graph_file.proofs.reader.Reader.flow.Goals as goal

pub returns : goal.returns
returns c = λ earlier version read. record {
  last_is = refl;
  depths_are = record { are = read.depths_are.are; low = read.depths_are.low };
  graphs_are = AreBehind-kept (Flow version) earlier _ _ refl read.graphs_are;
  name_is = read.name_is;
  variables_are = read.variables_are;
  names_are = read.names_are;
  unknowns_are = read.unknowns_are;
  entries_are = read.entries_are;
  kinds_are = read.kinds_are;
  output_is = read.output_is;
  points_are = read.points_are;
  all_is = read.all_is;
  special_are = read.special_are;
  coeff_is = read.coeff_is;
  widest_is = read.widest_is;
  sound = IsSound-flow _ _ _ _ _ _ _ _ _ read.sound (stands-flow c.args.self.now.stood c.requires.passes.0 (stands-next c.args.self.now (Flow c.requires.passes.0) c.requires.passes.1));
}
