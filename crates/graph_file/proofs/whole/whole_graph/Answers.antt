use Rattle.std.proofs.Common.{◌≡◌, ◌∙◌, List, refl, sym, ap, subst}
use Rattle.std.specs.List.{slice_get}
use Rattle.graph_file.specs.declared.graph.Node.{Node}
use Rattle.graph_file.specs.Marks.{AreMarkedFrom, ReadEarlier}
use Rattle.graph_file.specs.Needed.{kinds_of}
use Rattle.graph_file.specs.Says.{names_of}
use Rattle.graph_file.proofs.JobLemmas.{marks-are}
use Rattle.graph_file.proofs.whole.whole_graph.Goals as goal

pub marks-requires-clause-earlier : goal.marks-requires-clause-earlier
marks-requires-clause-earlier c = subst (λ (l : List Node). ReadEarlier (kinds_of l)) (sym c.as_slice.ensures.value) c.requires.earlier

pub returns : goal.returns
returns c =
    let kinds : kinds_of c.from_vec.result ≡ kinds_of c.args.nodes.items = ap kinds_of c.from_vec.ensures ∙ c.marked_nodes-nodes.ensures.kinds in
    let marks : AreMarkedFrom (kinds_of c.args.nodes.items) c.args.output 0 c.in_ok-flags.flags.items = subst (λ (l : List Node). AreMarkedFrom (kinds_of l) c.args.output 0 c.in_ok-flags.flags.items) c.as_slice.ensures.value c.in_ok-flags.ensures in
    record {
      name_is = refl;
      inputs_are = c.listed.ensures;
      names_are = ap names_of c.from_vec.ensures ∙ c.marked_nodes-nodes.ensures.names;
      kinds_are = kinds;
      output_is = refl;
      marks = marks-are (kinds_of c.args.nodes.items) (kinds_of c.from_vec.result) c.from_vec.result c.args.output c.in_ok-flags.flags.items kinds marks
          (λ k node at. ap (λ l. slice_get l k) (sym c.as_slice-2.ensures.value) ∙ c.marked_nodes-nodes.ensures.marks k node (ap (λ (l : List Node). slice_get l k) (sym c.from_vec.ensures) ∙ at));
    }
