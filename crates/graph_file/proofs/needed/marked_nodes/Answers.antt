use Rattle.std.proofs.Common.{◌<◌, ap, ◌∙◌, length, arith, false}
use Rattle.std.proofs.Math.Seq.{map-set_same}
use Rattle.std.proofs.lemmas.List.{length-set}
use Rattle.std.proofs.lemmas.Option.{slice_get-get_or, slice_get_within}
use Rattle.graph_file.specs.declared.graph.Node.{Node}
use Rattle.graph_file.proofs.MarkLemmas.{marked-next}
use Rattle.graph_file.proofs.needed.marked_nodes.Goals as goal

pub loop-place-preserved : goal.loop-place-preserved
loop-place-preserved c =
    let within : c.loop-place.place < length c.loop-place.nodes.items = omega (arith, c.loop-place.invariant.counted, c.requires) in
    record {
      counted = length-set c.loop-place.nodes.items c.loop-place.place _ ∙ c.loop-place.invariant.counted;
      names = map-set_same (λ (node : Node). node.name) c.loop-place.nodes.items c.loop-place.place _ c.index_mut.result.now (ap (λ (node : Node). node.name) c.index_mut.ensures.value) ∙ c.loop-place.invariant.names;
      kinds = map-set_same (λ (node : Node). node.kind) c.loop-place.nodes.items c.loop-place.place _ c.index_mut.result.now (ap (λ (node : Node). node.kind) c.index_mut.ensures.value) ∙ c.loop-place.invariant.kinds;
      marks = marked-next c.loop-place.nodes.items c.args.nodes.items c.args.flags.now c.loop-place.place c.index_mut.result.now c.index_mut.result.now _ within c.index_mut.ensures.value (slice_get-get_or c.args.flags.now c.loop-place.place false c.loop-place-test.true) c.loop-place.invariant.marks;
    }

pub returns-clause-marks : goal.returns-clause-marks
returns-clause-marks c = λ k node at. c.loop-place.invariant.marks k node (let within : k < length c.loop-place.nodes.items = slice_get_within c.loop-place.nodes.items k node at in omega (arith, c.loop-place.invariant.counted, c.requires)) at
