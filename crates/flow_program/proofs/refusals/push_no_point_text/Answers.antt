-- Four texts one behind the other.
use Rattle.std.proofs.Common.{ℕ, List, ◌++◌, ap, sym, ◌∙◌, append_assoc}
use Rattle.std.specs.Prelude.{codes}
use Rattle.flow_program.specs.Refusals.{node_names, point_lines}
use Rattle.flow_program.proofs.refusals.push_no_point_text.Goals as goal

pub returns : goal.returns
returns c =
    let old : List ℕ = c.args.text.now.items in
    let name : List ℕ = c.args.graph.now.name in
    let before : List ℕ = codes "flow: graph " in
    let behind : List ℕ = codes " has no learning point\n" in
    let lines : List ℕ = point_lines (node_names c.args.graph.now) 0 c.args.first.now in
    c.in_ok-push_point_lines.ensures
    ∙ ap (λ (t : List ℕ). t ++ lines) (c.in_ok-extend_from_slice-3.ensures.items
    ∙ ap (λ (t : List ℕ). t ++ behind) (c.in_ok-extend_from_slice-2.ensures.items ∙ ap (λ (t : List ℕ). t ++ c.bytes.result.now) c.in_ok-extend_from_slice.ensures.items ∙ ap (λ (n : List ℕ). (old ++ before) ++ n) c.bytes.ensures))
    ∙ append_assoc ((old ++ before) ++ name) behind lines
    ∙ append_assoc (old ++ before) name (behind ++ lines)
    ∙ append_assoc old before (name ++ (behind ++ lines))
    ∙ ap (λ (t : List ℕ). old ++ (before ++ t)) (sym (append_assoc name behind lines))
