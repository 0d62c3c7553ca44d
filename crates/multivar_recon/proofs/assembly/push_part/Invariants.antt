use Rattle.std.proofs.Common.{slice_index}
use Rattle.multivar_recon.specs.Parts.{AddsPart, IsLowRow}
use Rattle.multivar_recon.proofs.assembly.push_part.Given as goal

abbrev pub invariant-loop-place : goal.invariant-loop-place
invariant-loop-place l =
    AddsPart l.axes l.k (slice_index l.row) l.place l.initial.terms.items l.terms.items × IsLowRow l.axes l.k (slice_index l.row) l.place
