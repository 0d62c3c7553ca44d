use Rattle.std.proofs.Common.{◌≡◌, ◌∙◌, Some, ap, refl, sym}
use Rattle.graph_file.specs.Says.{source_named}
use Rattle.graph_file.proofs.StepLemmas.{output-fits}
use Rattle.graph_file.proofs.TakeLemmas.{output-there}
use Rattle.graph_file.specs.declared.line.Line.TheVariants as line
use Rattle.graph_file.proofs.GraphLemmas.{AreBehind-kept}
use Rattle.graph_file.proofs.reader.Reader.output.Goals as goal

pub unreachable-requires : goal.unreachable-requires
unreachable-requires c = output-there c.args.self.now c.args.list.now c.requires.passes (sym c.source_named-output.ensures ∙ c.in_default.is)

pub returns : goal.returns
returns c =
    let is : source_named c.args.self.now.table c.args.list.now ≡ Some c.in-Some.output = sym c.source_named-output.ensures ∙ c.in-Some.is in
    λ earlier read. record {
      last_is = refl;
      depths_are = record { are = read.depths_are.are; low = read.depths_are.low };
      graphs_are = AreBehind-kept (line.Output c.args.list.now) earlier _ _ refl read.graphs_are;
      name_is = read.name_is;
      variables_are = read.variables_are;
      names_are = read.names_are;
      unknowns_are = read.unknowns_are;
      entries_are = read.entries_are;
      kinds_are = read.kinds_are;
      output_is = sym is ∙ ap (λ names. source_named names c.args.list.now) read.names_are;
      points_are = read.points_are;
      all_is = read.all_is;
      special_are = read.special_are;
      coeff_is = read.coeff_is;
      widest_is = read.widest_is;
      sound = output-fits c.args.self.now c.args.list.now c.in-Some.output c.requires.passes is;
    }
