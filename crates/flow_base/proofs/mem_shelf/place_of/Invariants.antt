-- No file that was passed has the name.
use Rattle.std.proofs.Common.{◌≡◌, drop}
use Rattle.flow_base.specs.Files.{bytes_under}
use Rattle.flow_base.proofs.mem_shelf.place_of.Given as goal

abbrev pub invariant-loop-place : goal.invariant-loop-place
invariant-loop-place l = bytes_under l.files l.name ≡ bytes_under (drop l.place l.files) l.name
