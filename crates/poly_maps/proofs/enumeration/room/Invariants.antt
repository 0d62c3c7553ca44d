use Rattle.std.proofs.Common.{◌≡◌, ◌+◌, ◌*◌, ◌≤◌, drop}
use Rattle.poly_maps.specs.Mono.{degree}
use Rattle.poly_maps.proofs.enumeration.room.Given as goal

abbrev pub invariant-loop-k : goal.invariant-loop-k
invariant-loop-k l = (l.room ≤ 4294967295 * l.k) × (l.room + degree (drop l.k l.each) ≡ degree (drop l.i l.each))
