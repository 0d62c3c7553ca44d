-- The residues so far stand behind the text.
use Rattle.std.proofs.Common.{◌≡◌, ◌++◌, ◌∷◌, take}
use Rattle.std.specs.List.{flat_map}
use Rattle.std.specs.Fmt.{decimal}
use Rattle.flow_program.proofs.printed.push_further.Given as goal

abbrev pub invariant-loop-residue : goal.invariant-loop-residue
invariant-loop-residue l = l.text.items ≡ l.initial.text.items ++ flat_map (λ residue. 32 ∷ decimal residue) (take l.residue-index l.residues)
