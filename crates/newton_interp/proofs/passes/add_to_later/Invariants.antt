use Rattle.std.proofs.Common.{◌≡◌, ℕ, suc, ◌+◌, ◌-◌, ◌*◌, ◌%◌, ◌<◌, ◌≤◌, slice_index}
use Rattle.prime_field.specs.Modulus.{value_of}
use Rattle.univariate.specs.Coefficients.{AreResidues}
use Rattle.newton_interp.proofs.passes.add_to_later.Given as goal

abbrev pub invariant-loop-j : goal.invariant-loop-j
invariant-loop-j l = record {
  spread_residues : AreResidues (value_of l.m) l.spread;
  missing_residues : AreResidues (value_of l.m) l.missing;
  spread_done : (i : ℕ) → suc l.k < i → i < l.j → slice_index l.spread i % value_of l.m ≡
      (slice_index l.initial.spread i * (slice_index l.points i + (value_of l.m - slice_index l.points l.k)) *
      (slice_index l.points i + (value_of l.m - slice_index l.points (suc l.k)))) % value_of l.m;
  spread_rest : (i : ℕ) → l.j ≤ i → slice_index l.spread i ≡ slice_index l.initial.spread i;
  missing_done : (i : ℕ) → suc l.k < i → i < l.j → slice_index l.missing i % value_of l.m ≡
      (l.both * slice_index l.initial.missing i + l.first * slice_index l.initial.spread i +
      l.second * (slice_index l.initial.spread i * (slice_index l.points i + (value_of l.m - slice_index l.points l.k)))) % value_of l.m;
  missing_rest : (i : ℕ) → l.j ≤ i → slice_index l.missing i ≡ slice_index l.initial.missing i;
}
