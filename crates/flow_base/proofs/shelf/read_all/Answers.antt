-- At an early return the bytes that were kept and those of the last read are taken, one after the other.
use Rattle.std.proofs.lemmas.Result.{err_from_is_err_and}
use Rattle.flow_base.proofs.ShelfLemmas.{Takes-more}
use Rattle.std.proofs.Common.{arith, length-append, length-take}
use Rattle.flow_base.proofs.shelf.read_all.Goals as goal

pub returns-then-count-limit-clause-err : goal.returns-then-count-limit-clause-err
returns-then-count-limit-clause-err g c = (_, Takes-more _ _ _ _ _ c.read.invariant.taken c.in-Ok.ensures.bytes)

pub returns-then-count-limit-clause-too_long : goal.returns-then-count-limit-clause-too_long
returns-then-count-limit-clause-too_long g c = λ is. (_, Takes-more _ _ _ _ _ c.read.invariant.taken c.in-Ok.ensures.bytes, grind (arith, length-append, length-take))

pub returns-in_err-extend_from_slice-clause-err : goal.returns-in_err-extend_from_slice-clause-err
returns-in_err-extend_from_slice-clause-err g c =
    let is = err_from_is_err_and c.from_residual.result c.from_residual.ensures.1 in
    rw is.1 (_, Takes-more _ _ _ _ _ c.read.invariant.taken c.in-Ok.ensures.bytes)
