use Rattle.std.proofs.Common.{◌≡◌, ◌≤◌, ◌+◌, length, take, drop}
use Rattle.graph_file.specs.Cut.{pieces_behind, size_behind}
use Rattle.graph_file.specs.File.{AreGood, said}
use Rattle.graph_file.specs.Lines.{lines}
use Rattle.graph_file.specs.Read.{IsRead}
use Rattle.graph_file.proofs.read.read_lines.Given as goal

-- nothing is wrong with the lines before the place, and the reader keeps them
abbrev pub invariant-loop-rest : goal.invariant-loop-rest
invariant-loop-rest l = record {
  left : drop l.place (lines l.bytes) ≡ pieces_behind 10 l.rest;
  size : l.place + size_behind l.rest ≤ length l.bytes + 1;
  within : l.place ≤ length (lines l.bytes);
  good : AreGood (lines l.bytes) l.place;
  read : IsRead (said (take l.place (lines l.bytes))) l.reader;
}

-- the bytes that are left
abbrev pub decreases-loop-rest : goal.decreases-loop-rest
decreases-loop-rest l = size_behind l.rest
