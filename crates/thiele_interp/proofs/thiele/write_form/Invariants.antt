use Rattle.std.proofs.Common.{suc, [], ◌∷◌, slice_index}
use Rattle.prime_field.specs.Modulus.{value_of}
use Rattle.univariate.specs.Coefficients.{Alike, AreResidues}
use Rattle.thiele_interp.specs.Thiele.{thiele_part}
use Rattle.thiele_interp.proofs.thiele.write_form.Given as goal

abbrev pub invariant-loop-k : goal.invariant-loop-k
invariant-loop-k l = record {
  num_residues : AreResidues (value_of l.m) l.num;
  earlier_num_residues : AreResidues (value_of l.m) l.earlier_num;
  den_residues : AreResidues (value_of l.m) l.den;
  earlier_den_residues : AreResidues (value_of l.m) l.earlier_den;
  num : Alike (value_of l.m) l.num
      (thiele_part (value_of l.m) (slice_index l.points) (slice_index l.coefficients) (1 ∷ []) (slice_index l.coefficients 0 ∷ []) (suc l.k));
  earlier_num : Alike (value_of l.m) l.earlier_num
      (thiele_part (value_of l.m) (slice_index l.points) (slice_index l.coefficients) (1 ∷ []) (slice_index l.coefficients 0 ∷ []) l.k);
  den : Alike (value_of l.m) l.den (thiele_part (value_of l.m) (slice_index l.points) (slice_index l.coefficients) [] (1 ∷ []) (suc l.k));
  earlier_den : Alike (value_of l.m) l.earlier_den (thiele_part (value_of l.m) (slice_index l.points) (slice_index l.coefficients) [] (1 ∷ []) l.k);
}
