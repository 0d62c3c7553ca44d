use Rattle.std.proofs.Common.{◌≡◌, ℕ, ◌*◌, ◌%◌, List, take}
use Rattle.prime_field.specs.Modulus.{value_of}
use Rattle.poly_maps.specs.Polynomial.{coefficient, AreResidues}
use Rattle.multivar_recon.proofs.monic.multiple.Given as goal

abbrev pub invariant-loop-term : goal.invariant-loop-term
invariant-loop-term l = record {
  coefficients : (e : List ℕ) → coefficient e l.terms.items % value_of l.m ≡ (l.factor * coefficient e (take l.term-index l.poly)) % value_of l.m;
  residues : AreResidues (value_of l.m) l.terms.items;
}
