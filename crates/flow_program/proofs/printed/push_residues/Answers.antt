-- The first residue, and the further ones, are all of them.
use Rattle.std.proofs.Common.{◌-◌, ◌++◌, ◌∷◌, ℕ, List, length, take, drop, get_or, append_assoc, ap, sym, ◌∙◌}
use Rattle.std.specs.List.{flat_map}
use Rattle.std.specs.Fmt.{decimal}
use Rattle.flow_program.proofs.JoinLaws.{joined_at}
use Rattle.flow_program.proofs.printed.push_residues.Goals as goal

pub returns-in_ok-push_further-in-len1-up : goal.returns-in_ok-push_further-in-len1-up
returns-in_ok-push_further-in-len1-up c =
    let residues = c.args.residues.now in
    let further = flat_map (λ (residue : ℕ). 32 ∷ decimal residue) (take (length residues - 1) (drop 1 residues)) in
    c.in_ok-push_further-in-len1-up.ensures
    ∙ ap (λ (t : List ℕ). t ++ further) c.in_ok-push_number-in-len1-up.ensures
    ∙ append_assoc c.args.text.now.items (decimal (get_or residues 0 0)) further
    ∙ ap (λ (t : List ℕ). c.args.text.now.items ++ t) (sym (joined_at 32 decimal residues c.in-len1-up.len_at_least))
