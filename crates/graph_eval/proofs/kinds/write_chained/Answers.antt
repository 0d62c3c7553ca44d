-- The next list finds room behind those so far, and stands there then.
use Rattle.std.proofs.Common.{◌++◌, ◌+◌, length, map, take, get_or, sym, ◌∙◌, ap, length-append, arith}
use Rattle.basic_nodes.specs.Plain.{chained}
use Rattle.basic_nodes.proofs.Pieces.{chain_more}
use Rattle.graph_file.specs.declared.graph.Source.TheVariants as source
use Rattle.graph_eval.specs.Reading.{placed}
use Rattle.graph_eval.proofs.Writing.{chained_room, chained_step}
use Rattle.graph_eval.proofs.kinds.write_chained.Goals as goal

pub chain_into-requires : goal.chain_into-requires
chain_into-requires c =
    let room = chained_room (placed c.args.words.now c.args.places.now) c.args.parts.now c.loop-part.part-index source.Input c.loop-part-test.true in
    omega (arith, room, c.loop-part.invariant.at, ap length c.placed-list.ensures, c.requires.room)

pub loop-part-preserved : goal.loop-part-preserved
loop-part-preserved c =
    let list = placed c.args.words.now c.args.places.now in
    let room = chained_room list c.args.parts.now c.loop-part.part-index source.Input c.loop-part-test.true in
    let more = chained_step list c.args.parts.now c.loop-part.part-index source.Input c.loop-part-test.true in
    record {
      at = omega (arith, ap length more, length-append (chained (map list (take c.loop-part.part-index c.args.parts.now))) (list (get_or c.args.parts.now c.loop-part.part-index source.Input)), ap length c.placed-list.ensures, c.loop-part.invariant.at);
      written =
          ap (take (c.loop-part.at + length c.placed-list.result.now)) c.chain_into.ensures
          ∙ chain_more c.loop-part.out _ c.placed-list.result.now c.loop-part.at (omega (arith, room, c.loop-part.invariant.at, ap length c.placed-list.ensures, c.requires.room)) c.loop-part.invariant.written
          ∙ ap (λ t. chained (map list (take c.loop-part.part-index c.args.parts.now)) ++ t) c.placed-list.ensures
          ∙ sym more;
    }
