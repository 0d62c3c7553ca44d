use Rattle.std.proofs.Common.{◌+◌, ◌-◌, ◌++◌, drop, take, ap, sym, ◌∙◌, append-nil, arith}
use Rattle.poly_maps.specs.Enumeration.{of_degree, prefixed}
use Rattle.poly_maps.proofs.Enumerated.{of_degree-none, starting_more}
use Rattle.poly_maps.proofs.enumeration.+push_of_degree.Goals as goal

pub returns-then-degree-room : goal.returns-then-degree-room
returns-then-degree-room t c =
    let none = of_degree-none (drop c.args.i c.args.each.now) c.args.degree (omega (arith, c.room.ensures)) in
    sym (append-nil c.args.found.now.items) ∙ ap (λ es. c.args.found.now.items ++ prefixed (take c.args.i c.args.exponents) es) (sym none)

pub loop-k-preserved : goal.loop-k-preserved
loop-k-preserved t c =
    starting_more c.loop-k.found.items c.args.found.now.items c.push_of_degree.new.found.items c.args.exponents c.args.i c.loop-k.k (λ k. of_degree (drop (c.args.i + 1) c.args.each.now) (c.args.degree - k)) (omega arith) c.loop-k.invariant c.in_ok-push_of_degree.ensures
