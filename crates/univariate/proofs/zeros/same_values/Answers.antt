use Rattle.std.proofs.Common.{◌≡◌, ◌-◌, suc, arith}
use Rattle.univariate.proofs.Counting.{alike_of_values}
use Rattle.univariate.proofs.zeros.same_values.Goals as goal

pub returns : goal.returns
returns c m n f p q some = let predecessor : suc (m - 1) ≡ m = omega arith in alike_of_values m (m - 1) n f p q predecessor
