-- All bytes that were taken are kept, and they are within the limit.
use Rattle.std.proofs.Common.{◌≡◌, ◌+◌, ◌-◌, ◌≤◌, length}
use Rattle.flow_base.specs.Shelf.{Takes}
use Rattle.flow_base.proofs.shelf.read_all.Given as goal

abbrev pub invariant-read : goal.invariant-read
invariant-read g l = record {
  taken : Takes (g.H.Shelf.view l.initial.shelf) (g.H.Shelf.view l.shelf) l.all.items;
  fits : length l.all.items ≤ l.limit;
  room : length l.piece ≡ 4096;
}

abbrev pub decreases-read : goal.decreases-read
decreases-read g l = l.limit + 1 - length l.all.items
