use Rattle.std.proofs.Common.{arith}
use Rattle.std.proofs.lemmas.List.{take_rest}
use Rattle.ray_grid.proofs.Counted.{last_share}
use Rattle.ray_grid.proofs.counting.+count_exponents.Goals as goal

pub returns-then-count-most : goal.returns-then-count-most
returns-then-count-most t c =
    last_share c.args.entries.now _ c.args.left c.loop-k.k c.loop-k.count c.count_exponents-count.result c.args.most c.in-len1-up.len_at_least
    (take_rest c.args.entries.now 1) (omega arith) c.loop-k.invariant c.count_exponents-count.ensures c.if-count-most.true
