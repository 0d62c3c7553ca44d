use Rattle.prime_field.specs.Modulus.{value_of}
use Rattle.multivar_recon.proofs.RowParts.{HasRows}
use Rattle.multivar_recon.proofs.assembly.assemble.Given as goal

abbrev pub invariant-loop-k : goal.invariant-loop-k
invariant-loop-k l = HasRows (value_of l.m) l.axes l.table l.k l.terms.items
