use Rattle.std.proofs.Common.{◌≡◌, slice_index, take}
use Rattle.multivar_recon.specs.Vectors.{with_numbers}
use Rattle.multivar_recon.proofs.pairs.gather.Given as goal

abbrev pub invariant-loop-k : goal.invariant-loop-k
invariant-loop-k l = l.terms.items ≡ with_numbers (take l.k l.monos) (slice_index l.numbers)
