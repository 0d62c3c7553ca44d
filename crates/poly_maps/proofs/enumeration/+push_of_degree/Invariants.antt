use Rattle.std.proofs.Common.{◌≡◌, ◌+◌, ◌-◌, ◌++◌, take, drop}
use Rattle.poly_maps.specs.Enumeration.{of_degree, prefixed, starting}
use Rattle.poly_maps.proofs.enumeration.+push_of_degree.Given as goal

abbrev pub decreases-push_of_degree : goal.decreases-push_of_degree
decreases-push_of_degree l = 8 - l.i

abbrev pub invariant-loop-k : goal.invariant-loop-k
invariant-loop-k l =
    l.found.items ≡ l.initial.found.items ++ prefixed (take l.i l.exponents) (starting l.k (λ k. of_degree (drop (l.i + 1) l.each) (l.degree - k)))
