-- The entries of the parts so far are written.
use Rattle.std.proofs.Common.{◌≡◌, map, take}
use Rattle.basic_nodes.specs.Plain.{taken}
use Rattle.graph_eval.specs.Reading.{placed}
use Rattle.graph_eval.proofs.kinds.write_taken.Given as goal

abbrev pub invariant-loop-place : goal.invariant-loop-place
invariant-loop-place l = take l.place l.out ≡ taken (map (λ part. placed l.words l.places part.0) (take l.place l.parts)) (map (λ part. part.1) (take l.place l.parts))
