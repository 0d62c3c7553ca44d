use Rattle.std.proofs.Common.{◌≡◌, ℕ, ◌+◌, ◌*◌, ◌<◌, ◌≤◌, slice_index, take}
use Rattle.univariate.specs.Coefficients.{AreResidues}
use Rattle.multivar_recon.specs.Tables.{IsColumnWritten}
use Rattle.multivar_recon.proofs.ray_tables.write_column.Given as goal

abbrev pub invariant-loop-k : goal.invariant-loop-k
invariant-loop-k l = record {
  written : IsColumnWritten (take l.k l.numbers) l.column l.width l.initial.table l.table;
  residues : (m : ℕ) → AreResidues m l.numbers → AreResidues m l.initial.table → AreResidues m l.table;
}
