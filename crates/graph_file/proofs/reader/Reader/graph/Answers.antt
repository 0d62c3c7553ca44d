use Rattle.std.proofs.Common.{◌≡◌, ◌∙◌, ◌++◌, ◌∷◌, [], ap, refl, bytes_eq, Vec, ℕ}
use Rattle.std.specs.List.{list_any}
use Rattle.ratfun_text.specs.declared.names.Names.TheVariants.{Listed}
use Rattle.graph_file.specs.declared.asked.Asked.{Asked}
use Rattle.graph_file.specs.declared.line.Line.TheVariants as line
use Rattle.graph_file.specs.Needed.{kinds_of}
use Rattle.std.specs.Global.{Global}
use Rattle.graph_file.proofs.DepthLemmas.{AreDepths-graph}
use Rattle.graph_file.proofs.GraphLemmas.{AreBehind-graph}
use Rattle.graph_file.proofs.Passes.{stands-graph}
use Rattle.graph_file.proofs.StepLemmas.{graph-fits, graph-new, graph-room}
use Rattle.graph_file.proofs.TakeLemmas.{stands-next}
use Rattle.graph_file.proofs.reader.Reader.graph.Goals as goal

pub finish_graph-requires-clause-whole : goal.finish_graph-requires-clause-whole
finish_graph-requires-clause-whole c = stands-graph c.args.self.now.stood c.args.name (stands-next c.args.self.now (line.Graph c.args.name) c.requires.passes)

pub add-requires : goal.add-requires
add-requires c =
    ap (list_any (λ other. bytes_eq other c.args.name)) c.in_ok-finish_graph.ensures.names
    ∙ graph-new c.args.self.now c.args.name c.requires.passes

pub returns : goal.returns
returns c =
    let none : Listed c.new.result ≡ Listed [] = ap (λ names. Listed names) c.new.ensures in
    let more : c.add.new.self ≡ c.args.self.now.graph_names ++ c.args.name ∷ [] =
    c.in_ok-add.ensures ∙ ap (λ names. names ++ c.args.name ∷ []) c.in_ok-finish_graph.ensures.names
    in
    λ earlier read. record {
      last_is = refl;
      depths_are = AreDepths-graph c.args.name earlier c.args.self.now.depths.items c.push.new.self.items read.depths_are (c.in_ok-push.ensures.items ∙ ap (λ (v : Vec ℕ Global). v.items ++ 1 ∷ []) c.in_ok-finish_graph.ensures.depths);
      graphs_are = AreBehind-graph c.args.name earlier c.args.self.now.graph_names c.add.new.self c.finish_graph.new.self.graphs c.args.self.now.graphs read.graphs_are (c.in_ok-finish_graph.ensures.graphs earlier read) (graph-new c.args.self.now c.args.name c.requires.passes) (graph-room c.args.self.now c.args.name c.requires.passes) more;
      name_is = refl;
      variables_are = none;
      names_are = c.new-2.ensures;
      unknowns_are = refl;
      entries_are = refl;
      kinds_are = ap kinds_of c.new-3.ensures.items;
      output_is = refl;
      points_are = ap (λ (a : Asked). a.points) c.in_ok-finish_graph.ensures.asked ∙ read.points_are;
      all_is = ap (λ (a : Asked). a.all) c.in_ok-finish_graph.ensures.asked ∙ read.all_is;
      special_are = ap (λ (a : Asked). a.special) c.in_ok-finish_graph.ensures.asked ∙ read.special_are;
      coeff_is = ap (λ (a : Asked). a.coeff) c.in_ok-finish_graph.ensures.asked ∙ read.coeff_is;
      widest_is = ap (λ (a : Asked). a.widest) c.in_ok-finish_graph.ensures.asked ∙ read.widest_is;
      sound = graph-fits c.args.self.now c.args.name (Listed c.new.result) c.new-2.result c.new-3.result.items c.finish_graph.new.self.asked.points c.requires.formed c.requires.passes none c.new-2.ensures c.new-3.ensures.items (ap (λ (a : Asked). a.points) c.in_ok-finish_graph.ensures.asked);
    }
