use Rattle.std.proofs.Common.{◌≡◌, ◌∙◌, ◌++◌, ◌∷◌, [], ap, refl}
use Rattle.graph_file.proofs.StepLemmas.{point-fits}
use Rattle.graph_file.specs.declared.line.Line.TheVariants as line
use Rattle.graph_file.proofs.GraphLemmas.{AreBehind-kept}
use Rattle.graph_file.proofs.reader.Reader.point.Goals as goal

pub returns : goal.returns
returns c =
    let more : c.push.new.self ≡ c.args.self.now.asked.points ++ c.args.entries.now ∷ [] = c.in_ok-push.ensures.ok ∙ ap (λ p. c.args.self.now.asked.points ++ p ∷ []) c.of.ensures in
    λ earlier read. record {
      last_is = refl;
      depths_are = record { are = read.depths_are.are; low = read.depths_are.low };
      graphs_are = AreBehind-kept (line.Point c.args.entries.now) earlier _ _ refl read.graphs_are;
      name_is = read.name_is;
      variables_are = read.variables_are;
      names_are = read.names_are;
      unknowns_are = read.unknowns_are;
      entries_are = read.entries_are;
      kinds_are = read.kinds_are;
      output_is = read.output_is;
      points_are = more ∙ ap (λ l. l ++ c.args.entries.now ∷ []) read.points_are;
      all_is = read.all_is;
      special_are = read.special_are;
      coeff_is = read.coeff_is;
      widest_is = read.widest_is;
      sound = point-fits c.args.self.now c.args.entries.now c.push.new.self c.requires.passes more;
    }
