use Rattle.std.proofs.Common.{refl}
use Rattle.graph_file.proofs.StepLemmas.{input-fits}
use Rattle.graph_file.specs.declared.line.Line.TheVariants as line
use Rattle.graph_file.proofs.GraphLemmas.{AreBehind-kept}
use Rattle.graph_file.proofs.reader.Reader.input.Goals as goal

pub returns : goal.returns
returns c = λ earlier read. record {
  last_is = refl;
  depths_are = record { are = read.depths_are.are; low = read.depths_are.low };
  graphs_are = AreBehind-kept (line.Input c.args.names) earlier _ _ refl read.graphs_are;
  name_is = read.name_is;
  variables_are = refl;
  names_are = read.names_are;
  unknowns_are = read.unknowns_are;
  entries_are = read.entries_are;
  kinds_are = read.kinds_are;
  output_is = read.output_is;
  points_are = read.points_are;
  all_is = read.all_is;
  special_are = read.special_are;
  coeff_is = read.coeff_is;
  widest_is = read.widest_is;
  sound = input-fits c.args.self.now c.args.names c.requires.formed c.requires.passes;
}
