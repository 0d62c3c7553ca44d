-- What is done is appended.
use Rattle.std.proofs.Common.{◌-◌, ◌≤◌, length, take}
use Rattle.flow_base.specs.Sink.{Adds}
use Rattle.flow_base.proofs.sink.write_all_of.Given as goal

abbrev pub invariant-write : goal.invariant-write
invariant-write g l = record {
  added : Adds (g.S.Sink.view l.initial.sink) (g.S.Sink.view l.sink) (take l.done l.bytes);
  within : l.done ≤ length l.bytes;
}

abbrev pub decreases-write : goal.decreases-write
decreases-write g l = length l.bytes - l.done
