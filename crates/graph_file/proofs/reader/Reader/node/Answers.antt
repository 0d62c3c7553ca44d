use Rattle.std.proofs.Common.{◌≡◌, ◌∙◌, ℕ, ◌++◌, ◌∷◌, [], ◌≤◌, List, Some, ap, refl, sym, subst, take}
use Rattle.std.proofs.lemmas.List.{map-append}
use Rattle.graph_file.specs.declared.graph.Node.{Node as NodeOf}
use Rattle.graph_file.specs.Needed.{kinds_of}
use Rattle.graph_file.specs.Says.{kind_of}
use Rattle.graph_file.proofs.KindLemmas.{IsOf, kind_is_of}
use Rattle.graph_file.proofs.StepLemmas.{node-fits}
use Rattle.graph_file.specs.Facts.{called_by, depth_over}
use Rattle.graph_file.proofs.DepthLemmas.{AreDepths-node}
use Rattle.graph_file.proofs.TakeLemmas.{earlier_graphs, graphs-kept, kind-said, node-new, node-shallow, node-there}
use Rattle.graph_file.specs.declared.line.Line.TheVariants as line
use Rattle.graph_file.proofs.GraphLemmas.{AreBehind-kept}
use Rattle.graph_file.proofs.reader.Reader.node.Goals as goal

pub unreachable-requires : goal.unreachable-requires
unreachable-requires c = node-there c.args.self.now c.args.name c.args.statement.now c.requires.passes c.args.exprs (ap (λ n. kind_of (take n c.args.self.now.graph_names) c.args.self.now.table c.args.exprs c.args.statement.now) (sym c.len-count.ensures) ∙ sym c.in_ok-kind.ensures ∙ c.in_default.is)

pub add-requires : goal.add-requires
add-requires c = node-new c.args.self.now c.args.name c.args.statement.now c.requires.passes

pub returns : goal.returns
returns c =
    let is : kind_of (earlier_graphs c.args.self.now) c.args.self.now.table c.args.exprs c.args.statement.now ≡ Some c.in-Some.kind = ap (λ n. kind_of (take n c.args.self.now.graph_names) c.args.self.now.table c.args.exprs c.args.statement.now) (sym c.len-count.ensures) ∙ sym c.in_ok-kind.ensures ∙ c.in-Some.is in
    let of : IsOf c.args.statement.now c.in-Some.kind = kind_is_of (earlier_graphs c.args.self.now) c.args.self.now.table c.args.exprs c.args.statement.now c.in-Some.kind is in
    let names : c.add.new.self ≡ c.args.self.now.table ++ c.args.name ∷ [] = c.in_ok-add.ensures in
    let depth_is : c.depth_over-depth.result ≡ depth_over (earlier_graphs c.args.self.now) c.args.self.now.depths.items (called_by c.args.statement.now) =
    c.depth_over-depth.ensures
    ∙ ap (λ n. depth_over (take n c.args.self.now.graph_names) c.as_slice.result.now (called_by c.args.statement.now)) c.len-count.ensures
    ∙ ap (λ ds. depth_over (earlier_graphs c.args.self.now) ds (called_by c.args.statement.now)) c.as_slice.ensures.value
    in
    let low : c.depth_over-depth.result ≤ 8 = subst (λ d. d ≤ 8) (sym depth_is) (node-shallow c.args.self.now c.args.name c.args.statement.now c.requires.passes) in
    λ earlier read. record {
      last_is = c.stood_after-self.ensures ∙ of.stood;
      depths_are = AreDepths-node c.args.name c.args.statement.now earlier c.args.self.now.depths.items c.raise_last.new.depths.items c.depth_over-depth.result read.depths_are low (depth_is ∙ ap (λ (gs : List (List ℕ)). depth_over gs c.args.self.now.depths.items (called_by c.args.statement.now)) (graphs-kept earlier c.args.self.now read)) c.in_ok-raise_last.ensures;
      graphs_are = AreBehind-kept (line.Node c.args.name c.args.statement.now) earlier _ _ refl read.graphs_are;
      name_is = read.name_is;
      variables_are = read.variables_are;
      names_are = names ∙ ap (λ l. l ++ c.args.name ∷ []) read.names_are;
      unknowns_are = c.unknowns_of-self.ensures ∙ of.unknowns;
      entries_are = refl;
      kinds_are = (kinds_of c.args.self.now.nodes.items, (c.in-Some.kind, (ap kinds_of c.in_ok-push.ensures.items ∙ map-append (λ (n : NodeOf). n.kind) c.args.self.now.nodes.items _, read.kinds_are, kind-said earlier c.args.self.now c.args.name c.args.statement.now c.args.exprs c.in-Some.kind read is c.requires.trees)));
      output_is = read.output_is;
      points_are = read.points_are;
      all_is = read.all_is;
      special_are = read.special_are;
      coeff_is = read.coeff_is;
      widest_is = read.widest_is;
      sound = node-fits c.args.self.now c.args.name c.args.statement.now c.args.exprs c.in-Some.kind c.stood_after-self.result c.add.new.self c.push.new.self.items c.unknowns_of-self.result c.requires.formed c.requires.passes is c.requires.trees c.requires.arguments c.stood_after-self.ensures names c.in_ok-push.ensures.items c.unknowns_of-self.ensures;
    }
