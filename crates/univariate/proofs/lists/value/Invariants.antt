use Rattle.std.proofs.Common.{◌≡◌, ◌%◌, ◌<◌, drop}
use Rattle.prime_field.specs.Modulus.{value_of}
use Rattle.univariate.specs.Univariate.{univariate_value}
use Rattle.univariate.proofs.lists.value.Given as goal

abbrev pub invariant-loop-i : goal.invariant-loop-i
invariant-loop-i l = record {
  residue : l.sum < value_of l.m;
  value : l.sum ≡ univariate_value (drop l.i l.coefficients) l.x % value_of l.m;
}
