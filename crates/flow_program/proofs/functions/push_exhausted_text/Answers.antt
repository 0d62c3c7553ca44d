-- Four texts one behind the other.
use Rattle.std.proofs.Common.{ℕ, List, ◌++◌, ap, sym, ◌∙◌, append_assoc}
use Rattle.std.specs.Prelude.{codes, decimal}
use Rattle.prime_field.specs.Modulus.{number_of}
use Rattle.flow_program.specs.Reconstructed.{attempt_lines}
use Rattle.flow_program.specs.Refusals.{node_names}
use Rattle.flow_program.proofs.functions.push_exhausted_text.Goals as goal

pub returns : goal.returns
returns c =
    let old : List ℕ = c.args.text.now.items in
    let number : List ℕ = decimal (number_of c.args.modulus) in
    let before : List ℕ = codes "flow: modulus " in
    let behind : List ℕ = codes " exhausted\n" in
    let lines : List ℕ = attempt_lines (node_names c.args.graph.now) 0 c.args.gaps.now in
    c.in_ok-push_attempt_lines.ensures
    ∙ ap (λ (t : List ℕ). t ++ lines) (c.in_ok-extend_from_slice-2.ensures.items
    ∙ ap (λ (t : List ℕ). t ++ behind) (c.in_ok-push_number.ensures ∙ ap (λ (t : List ℕ). t ++ decimal c.from.result) c.in_ok-extend_from_slice.ensures.items ∙ ap (λ (n : ℕ). (old ++ before) ++ decimal n) (c.from.ensures ∙ c.number.ensures)))
    ∙ append_assoc ((old ++ before) ++ number) behind lines
    ∙ append_assoc (old ++ before) number (behind ++ lines)
    ∙ append_assoc old before (number ++ (behind ++ lines))
    ∙ ap (λ (t : List ℕ). old ++ (before ++ t)) (sym (append_assoc number behind lines))
