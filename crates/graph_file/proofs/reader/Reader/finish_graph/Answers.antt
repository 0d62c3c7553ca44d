use Rattle.std.proofs.Common.{◌≡◌, ◌∙◌, true, sym, ap, subst, Vec}
use Rattle.std.specs.Global.{Global}
use Rattle.ratfun_text.specs.Names.{names_of as variables_of}
use Rattle.ratfun_text.specs.declared.names.Names.{Names}
use Rattle.graph_file.specs.declared.graph.Node.{Node}
use Rattle.graph_file.specs.Reader.{is_ended}
use Rattle.graph_file.specs.Whole.{IsWholeOf}
use Rattle.graph_file.proofs.JobLemmas.{all-with, all-without, ended-with-name, read-earlier}
use Rattle.graph_file.proofs.reader.Reader.finish_graph.Goals as goal

pub returns-in_default-clause-graphs : goal.returns-in_default-clause-graphs
returns-in_default-clause-graphs c = all-without c.args.self.now (sym c.take-name.ensures.value ∙ c.in_default.is)

pub whole_graph-requires-clause-earlier : goal.whole_graph-requires-clause-earlier
whole_graph-requires-clause-earlier c =
    let ended : is_ended c.args.self.now.stood ≡ true = ended-with-name c.args.self.now c.requires.fits c.in-Some.name (sym c.take-name.ensures.value ∙ c.in-Some.is) c.requires.whole in
    read-earlier c.args.self.now c.requires.fits c.replace-nodes.result.items ended (ap (λ (v : Vec Node Global). v.items) c.replace-nodes.ensures.value)

pub returns-clause-graphs : goal.returns-clause-graphs
returns-clause-graphs c =
    let ended : is_ended c.args.self.now.stood ≡ true = ended-with-name c.args.self.now c.requires.fits c.in-Some.name (sym c.take-name.ensures.value ∙ c.in-Some.is) c.requires.whole in
    let whole : IsWholeOf c.in-Some.name (variables_of c.args.self.now.variables) c.args.self.now.nodes.items c.in-Some-output.output c.in_ok-graph.graph =
    subst (λ (v : Names). IsWholeOf c.in-Some.name (variables_of v) c.args.self.now.nodes.items c.in-Some-output.output c.in_ok-graph.graph) c.replace-variables.ensures.value
    (subst (λ (n : Vec Node Global). IsWholeOf c.in-Some.name (variables_of c.replace-variables.result) n.items c.in-Some-output.output c.in_ok-graph.graph) c.replace-nodes.ensures.value c.in_ok-graph.ensures)
    in
    all-with c.args.self.now c.requires.fits c.in-Some.name c.in-Some-output.output c.in_ok-graph.graph whole c.push.new.self ended (sym c.take-name.ensures.value ∙ c.in-Some.is) c.in-Some-output.is c.in_ok-push.ensures.ok
