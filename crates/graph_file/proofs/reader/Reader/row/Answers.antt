use Rattle.std.proofs.Common.{◌≡◌, ◌+◌, ◌∙◌, ◌++◌, ◌∷◌, [], List, ap, refl}
use Rattle.graph_file.specs.declared.graph.Node.{Node}
use Rattle.graph_file.specs.declared.graph.NodeKind.{NodeKind}
use Rattle.graph_file.specs.Needed.{kinds_of}
use Rattle.graph_file.specs.Says.{with_row}
use Rattle.graph_file.proofs.SoundLemmas.{kinds_with_row}
use Rattle.graph_file.proofs.StepLemmas.{row-fits, rows-open}
use Rattle.graph_file.specs.declared.line.Line.TheVariants as line
use Rattle.graph_file.proofs.GraphLemmas.{AreBehind-kept}
use Rattle.graph_file.proofs.reader.Reader.row.Goals as goal

pub add_row-requires : goal.add_row-requires
add_row-requires c = rows-open c.args.self.now c.args.columns c.requires.passes c.pop-last.new.self.items c.in-Some.node c.in-Some.ensures.items

pub returns : goal.returns
returns c =
    let front : List Node = c.pop-last.new.self.items in
    let node : Node = c.in-Some.node in
    let more : c.push.new.self.items ≡ front ++ (record { name = node.name; kind = with_row (record { columns = c.args.columns }) node.kind; needed = node.needed }) ∷ [] = c.in_ok-push.ensures.items ∙ ap (λ (k : NodeKind). front ++ (record { name = node.name; kind = k; needed = node.needed }) ∷ []) c.in_ok-add_row.ensures in
    let next : Node = record { name = node.name; kind = with_row (record { columns = c.args.columns }) node.kind; needed = node.needed } in
    λ earlier read. record {
      last_is = refl;
      depths_are = record { are = read.depths_are.are; low = read.depths_are.low };
      graphs_are = AreBehind-kept (line.Row c.args.columns) earlier _ _ refl read.graphs_are;
      name_is = read.name_is;
      variables_are = read.variables_are;
      names_are = read.names_are;
      unknowns_are = read.unknowns_are;
      entries_are = ap (λ n. c.args.self.now.entries + n) c.len.ensures ∙ ap (λ n. n + Rattle.std.proofs.Common.length c.args.columns) read.entries_are;
      kinds_are = (kinds_of c.args.self.now.nodes.items, (kinds_with_row (record { columns = c.args.columns }) front c.args.self.now.nodes.items c.push.new.self.items node next c.in-Some.ensures.items more refl, read.kinds_are));
      output_is = read.output_is;
      points_are = read.points_are;
      all_is = read.all_is;
      special_are = read.special_are;
      coeff_is = read.coeff_is;
      widest_is = read.widest_is;
      sound = row-fits c.args.self.now c.args.columns front node c.push.new.self.items _ c.requires.formed c.requires.passes c.in-Some.ensures.items more (ap (λ n. c.args.self.now.entries + n) c.len.ensures);
    }
