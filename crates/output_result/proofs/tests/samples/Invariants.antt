use Rattle.std.proofs.Common.{◌≡◌, ◌<◌, All, vec_len}
use Rattle.prime_field.specs.Modulus.{value_of}
use Rattle.output_result.proofs.tests.samples.Given as goal

abbrev pub invariant-loop-point : goal.invariant-loop-point
invariant-loop-point l = record {
  count : vec_len l.values ≡ l.point-index;
  residues : All (λ v. v < value_of l.m) l.values.items;
}
