use Rattle.std.proofs.Common.{◌≡◌, ◌+◌, ◌*◌, ◌≤◌, drop}
use Rattle.poly_maps.specs.Mono.{degree}
use Rattle.poly_maps.proofs.mono.Mono.total.Given as goal

abbrev pub invariant-loop-i : goal.invariant-loop-i
invariant-loop-i l =
    (l.total ≤ 65535 * l.i) × (l.total + degree (drop l.i l.self-inside.exponents) ≡ degree l.self-inside.exponents)
