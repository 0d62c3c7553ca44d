-- Three texts one behind the other.
use Rattle.std.proofs.Common.{ℕ, List, ◌++◌, ap, ◌∙◌, append_assoc}
use Rattle.std.specs.Prelude.{codes}
use Rattle.flow_program.proofs.refusals.push_graph.Goals as goal

pub returns : goal.returns
returns c =
    let old : List ℕ = c.args.text.now.items in
    let name : List ℕ = c.args.graph.now.name in
    let before : List ℕ = codes "flow: graph " in
    let behind : List ℕ = codes " node " in
    c.in_ok-extend_from_slice-3.ensures.items
    ∙ ap (λ (t : List ℕ). t ++ behind) (c.in_ok-extend_from_slice-2.ensures.items ∙ ap (λ (t : List ℕ). t ++ c.bytes.result.now) c.in_ok-extend_from_slice.ensures.items ∙ ap (λ (n : List ℕ). (old ++ before) ++ n) c.bytes.ensures)
    ∙ append_assoc (old ++ before) name behind
    ∙ append_assoc old before (name ++ behind)
