use Rattle.std.proofs.Common.{◌≡◌, ◌+◌, ◌*◌, length}
use Rattle.prime_field.specs.Modulus.{value_of}
use Rattle.multivar_recon.proofs.Tables.{AreBegun}
use Rattle.multivar_recon.proofs.ray_tables.scaled_pairs.Given as goal

abbrev pub invariant-loop-d : goal.invariant-loop-d
invariant-loop-d l = record {
  begun : AreBegun (value_of l.m) l.a l.b l.d l.width l.per_ray l.values l.nums.items l.dens.items l.degrees.items;
  work : length l.work.items ≡ 12 * (l.per_ray + 2);
}
