-- A graph is evaluated node by node, and an earlier graph above the lists so far.
use Rattle.std.proofs.Common.{All, Bool, Err, List, MatchBool, Ok, Option, Some, [], ◌∷◌, ap, append_assoc, arith, inl, drop, if◌then◌else◌, length, length-append, length-drop, length-take, map, refl, subst, sym, take, take-append-drop, ℕ, ◌*◌, ◌++◌, ◌+◌, ◌<◌, ◌∙◌, ◌≡◌, ◌≤◌}
use Rattle.prime_field.specs.Modulus.{value_of}
use Rattle.word_region.specs.Board.{Board}
use Rattle.basic_nodes.specs.Plain.{chained}
use Rattle.basic_nodes.proofs.Pieces.{chained_residues}
use Rattle.graph_file.specs.declared.graph.Graph.{Graph}
use Rattle.graph_eval.specs.Learned.{FitsNode, listed_length, sets_of, size_at, sizes_of}
use Rattle.graph_eval.specs.Memos.{AreKept, kept_output}
use Rattle.graph_eval.specs.Reading.{AreListed, HasLength, IsThere, placed, places_of}
use Rattle.graph_eval.proofs.Calling.{behind_low, called_err, called_more, called_none, called_ok, called_ready, called_stopped, front_both, inputs_fit, lists_same, part_chain, part_input, part_low, part_stands, parts_stand, run_behind_both, run_between}
use Rattle.graph_eval.specs.declared.expansion.Window.{Window}
use Rattle.graph_eval.specs.declared.learned.GraphLearned.{GraphLearned}
use Rattle.graph_eval.specs.Expanded.{IsWindow, expansion_inputs, orders_of, window_of}
use Rattle.graph_eval.proofs.Columns.{value_of-wide}
use Rattle.graph_eval.proofs.ExpandedCall.{call_room, room_left, expansions_err, expansions_low, expansions_ok, expansions_words, input_at, many_inputs}
use Rattle.graph_eval.proofs.Quotients.{window_told}
use Rattle.graph_eval.proofs.ShapeLaws.{has_window}
use Rattle.graph_eval.proofs.Places.{index_at, read_at, stands}
use Rattle.graph_eval.proofs.Writing.{parts_residues}
use Rattle.std.specs.Prelude.{IfErr, OnOk, slice_get, slice_index, slice_index_or, slice_range}
use Rattle.std.proofs.Math.Nat.{mul-le-mul_right}
use Rattle.std.proofs.lemmas.List.{length-map}
use Rattle.std.proofs.lemmas.List.Elements.{All-cons, All-get_or, All-same}
use Rattle.graph_file.specs.declared.graph.Source.TheVariants as source
use Rattle.graph_eval.specs.Stacked.{AreCalled, IsAdded, IsCalled, IsExpandedCall}
use Rattle.std.proofs.lemmas.Option.{slice_get-get_or, slice_get_within}
use lib.Seq.{drop_at, take_at}
use Rattle.prime_field.specs.declared.Modulus.{Modulus}
use Rattle.prime_field.specs.Residue.{IsPrime}
use Rattle.word_region.specs.Words.{written_at}
use Rattle.word_region.proofs.Written.{length-written_at}
use Rattle.graph_eval.specs.GraphValue.{GraphValue, IsNotExpanded, NodeFails, SingularAt, meanings}
use Rattle.graph_eval.proofs.Memoing.{hit_called}
use Rattle.graph_eval.proofs.Remembered.{remembered}
use Rattle.graph_file.specs.declared.graph.Source.{Source}
use Rattle.graph_eval.specs.Evaluated.{IsNeededAt}
use Rattle.graph_eval.proofs.EvaluationLaws.{graph_value}
use Rattle.graph_eval.proofs.Listed.{first_place, length-places, run_placed, run_there}
use Rattle.graph_eval.proofs.Standing.{cut_places, fits_node, node_room, output_stands, pushed_room, pushed_there, ready_below, ready_inputs, replaced, stands_end, stands_listed, stands_low, stands_more, stands_none, stands_stop}
use Rattle.graph_file.specs.Needed.{sources_of}
use Rattle.graph_file.specs.Sound.{IsKind, called_graph}
use Rattle.graph_file.specs.declared.graph.NodeKind.TheVariants.{Call, Laurent, Map, Memo}
use Rattle.graph_eval.specs.declared.shapes.GraphSize.{GraphSize}
use Rattle.graph_eval.specs.Needs.{expansion_words, extra_of, node_extra, output_at, words_for}
use Rattle.graph_eval.proofs.Adding.{added_alone, added_call, added_laurent, added_map, added_memo, failed_alone, failed_call, failed_laurent, failed_map, failed_memo, size_known, told_fails, told_ruled}
use Rattle.graph_eval.proofs.Room.{call_inputs, call_outputs, laurent_inputs, laurent_outputs, map_inputs, map_outputs}
use Rattle.graph_eval.specs.Systems.{AreEnoughFor}
use Rattle.graph_eval.proofs.evaluation.+evaluation.Goals as goal

pub write_call-evaluate-requires : goal.write_call-evaluate-requires
write_call-evaluate-requires t c = (
  omega arith,
  (
    c.requires.sound,
    (
      c.requires.earlier,
      (
        c.requires.fits,
        (
          c.requires.tables,
          (
            c.requires.work,
            (
              c.requires.frames,
              (
                (
                    subst (AreKept c.args.graphs.now (sets_of c.args.learned.now) c.args.frames.now c.args.moduli.now) (sym (ap (λ (b : Board). b.kept) c.push_chain.ensures)) c.requires.memos),
                (
                  c.requires.called,
                  (
                    c.requires.known,
                    ((
                        let m = value_of c.args.m in
                        let old = c.args.stack.now.words in
                        let above = drop c.args.base old in
                        let lists = map (placed above c.args.places.now) c.args.parts.now in
                        let middle = c.push_chain.new.stack in
                        let size = ap (λ (b : Board). b.size) c.push_chain.ensures in
                        called_ready m c.args.graphs.now c.args.learned.now c.args.called c.len-top.result old (chained lists) middle (ap (λ (b : Board). b.words) c.push_chain.ensures) (sym c.len-top.ensures) c.requires.inputs (omega (arith, size, c.requires.room))
                        (chained_residues m lists (parts_residues m above c.args.places.now (λ part. part) c.args.parts.now c.requires.residues)))),
                  ),
                ),
              ),
            ),
          ),
        ),
      ),
    ),
  ),
)

pub write_map-write_call-requires : goal.write_map-write_call-requires
write_map-write_call-requires t c = (
  omega arith,
  (
    c.requires.sound,
    (
      c.requires.earlier,
      (
        c.requires.fits,
        (
          c.requires.tables,
          (
            subst (AreEnoughFor c.args.graphs.now) (let e : length c.args.work.now ≡ length c.loop-k.work = omega (arith, c.loop-k.auto.work) in e) c.requires.work,
            (
              c.requires.frames,
              (
                c.loop-k.invariant.memos,
                (
                  c.requires.called,
                  (
                    c.requires.known,
                    (
                      (
                          let m = value_of c.args.m in
                          let graphs = c.args.graphs.now in
                          let learned = c.args.learned.now in
                          let old = c.args.stack.now.words in
                          let base = c.args.base in
                          let places = c.args.places.now in
                          let parts = c.args.parts.now in
                          let k = c.loop-k.k in
                          let words = c.loop-k.stack.words in
                          let so_far = c.loop-k.invariant.called in
                          let more = chained so_far.outs in
                          let below : k < length parts = omega (arith, c.loop-k-test.true) in
                          omega (arith, ap length so_far.words, length-append old more, c.requires.base)),
                      (
                        (
                            let m = value_of c.args.m in
                            let graphs = c.args.graphs.now in
                            let learned = c.args.learned.now in
                            let old = c.args.stack.now.words in
                            let base = c.args.base in
                            let places = c.args.places.now in
                            let parts = c.args.parts.now in
                            let k = c.loop-k.k in
                            let words = c.loop-k.stack.words in
                            let so_far = c.loop-k.invariant.called in
                            let more = chained so_far.outs in
                            let below : k < length parts = omega (arith, c.loop-k-test.true) in
                            part_stands base old more words places parts k c.requires.base so_far.words below c.requires.there),
                        (
                          (
                              let m = value_of c.args.m in
                              let graphs = c.args.graphs.now in
                              let learned = c.args.learned.now in
                              let old = c.args.stack.now.words in
                              let base = c.args.base in
                              let places = c.args.places.now in
                              let parts = c.args.parts.now in
                              let k = c.loop-k.k in
                              let words = c.loop-k.stack.words in
                              let so_far = c.loop-k.invariant.called in
                              let more = chained so_far.outs in
                              let below : k < length parts = omega (arith, c.loop-k-test.true) in
                              λ graph is. ap length (part_chain base old more words places parts k c.requires.base so_far.words below c.requires.there) ∙ All-get_or (HasLength (drop base old) places (length graph.inputs)) parts k source.Input below (c.requires.inputs graph is)),
                          (
                            (
                                let m = value_of c.args.m in
                                let graphs = c.args.graphs.now in
                                let learned = c.args.learned.now in
                                let old = c.args.stack.now.words in
                                let base = c.args.base in
                                let places = c.args.places.now in
                                let parts = c.args.parts.now in
                                let k = c.loop-k.k in
                                let words = c.loop-k.stack.words in
                                let so_far = c.loop-k.invariant.called in
                                let more = chained so_far.outs in
                                let below : k < length parts = omega (arith, c.loop-k-test.true) in
                                let entry = stands learned c.args.called c.requires.known in
                                let long = so_far.long entry.0 entry.1 in
                                let product = mul-le-mul_right {m = k} {n = length parts} entry.0.output (omega (arith, below)) in
                                omega (arith, ap length so_far.words, length-append old more, c.requires.room entry.0 entry.1, c.loop-k.invariant.size)),
                            ((
                                let m = value_of c.args.m in
                                let graphs = c.args.graphs.now in
                                let learned = c.args.learned.now in
                                let old = c.args.stack.now.words in
                                let base = c.args.base in
                                let places = c.args.places.now in
                                let parts = c.args.parts.now in
                                let k = c.loop-k.k in
                                let words = c.loop-k.stack.words in
                                let so_far = c.loop-k.invariant.called in
                                let more = chained so_far.outs in
                                let below : k < length parts = omega (arith, c.loop-k-test.true) in
                                part_low base old more words places parts k c.requires.base so_far.words below c.requires.there m c.requires.residues (chained_residues m so_far.outs so_far.low))),
                          ),
                        ),
                      ),
                    ),
                  ),
                ),
              ),
            ),
          ),
        ),
      ),
    ),
  ),
)

pub write_memo-evaluate-requires : goal.write_memo-evaluate-requires
write_memo-evaluate-requires t c = (
  omega arith,
  (
    c.requires.sound,
    (
      c.requires.earlier,
      (
        c.requires.fits,
        (
          c.requires.tables,
          (
            c.requires.work,
            (
              c.requires.frames,
              (
                (
                    subst (AreKept c.args.graphs.now (sets_of c.args.learned.now) c.args.frames.now c.args.moduli.now) (sym (c.recall.ensures.kept ∙ ap (λ (b : Board). b.kept) c.push_chain.ensures)) c.requires.memos),
                (
                  (
                      let m = value_of c.args.m in
                      let graphs = c.args.graphs.now in
                      let learned = c.args.learned.now in
                      let frames = c.args.frames.now in
                      let slot = c.args.slot in
                      let frame = c.args.frame in
                      let is = c.requires.frame in
                      let fits = c.requires.memo in
                      let low_slot = slice_get_within frames slot frame is in
                      let base = c.args.base in
                      let old = c.args.stack.now.words in
                      let places = c.args.places.now in
                      let parts = c.args.parts.now in
                      let lists = map (placed (drop base old) places) parts in
                      let chain = chained lists in
                      let many = c.requires.inputs in
                      let room = c.requires.room in
                      let graph = stands graphs frame.graph fits.called in
                      let entry = stands learned frame.graph fits.known in
                      let inputs = inputs_fit graphs learned frame.graph graph.0 entry.0 graph.1 entry.1 in
                      let own = fits.inputs graph.0 graph.1 in
                      fits.called),
                  (
                    c.requires.memo.known,
                    ((
                        let m = value_of c.args.m in
                        let graphs = c.args.graphs.now in
                        let learned = c.args.learned.now in
                        let frames = c.args.frames.now in
                        let slot = c.args.slot in
                        let frame = c.args.frame in
                        let is = c.requires.frame in
                        let fits = c.requires.memo in
                        let low_slot = slice_get_within frames slot frame is in
                        let base = c.args.base in
                        let old = c.args.stack.now.words in
                        let places = c.args.places.now in
                        let parts = c.args.parts.now in
                        let lists = map (placed (drop base old) places) parts in
                        let chain = chained lists in
                        let many = c.requires.inputs in
                        let room = c.requires.room in
                        let graph = stands graphs frame.graph fits.called in
                        let entry = stands learned frame.graph fits.known in
                        let inputs = inputs_fit graphs learned frame.graph graph.0 entry.0 graph.1 entry.1 in
                        let own = fits.inputs graph.0 graph.1 in
                        let first = c.push_chain.new.stack in
                        let first_words : first.words ≡ old ++ chain = ap (λ (b : Board). b.words) c.push_chain.ensures in
                        let first_size = ap (λ (b : Board). b.size) c.push_chain.ensures in
                        let first_kept = ap (λ (b : Board). b.kept) c.push_chain.ensures in
                        let first_long = ap length first_words in
                        let chain_long = length-append old chain in
                        let middle = c.recall.new.stack in
                        let middle_words : middle.words ≡ old ++ chain = c.recall.ensures.miss c.if-recall.false ∙ first_words in
                        called_ready m graphs learned frame.graph c.len-top.result old chain middle middle_words (sym c.len-top.ensures) (λ g g_is. many ∙ fits.inputs g g_is) (omega (arith, room, c.recall.ensures.size, first_size))
                        (chained_residues m lists (parts_residues m (drop base old) places (λ part. part) parts c.requires.residues)))),
                  ),
                ),
              ),
            ),
          ),
        ),
      ),
    ),
  ),
)

pub evaluate-push_node-requires : goal.evaluate-push_node-requires
evaluate-push_node-requires t c = (
  omega arith,
  (
    c.requires.sound,
    (
      c.requires.earlier,
      (
        c.requires.fits,
        (
          c.requires.tables,
          (
            subst (AreEnoughFor c.args.graphs.now) (let e : length c.args.work.now ≡ length c.loop-place.work = omega (arith, c.loop-place.auto.work) in e) c.requires.work,
            (
              c.requires.frames,
              (
                c.loop-place.invariant.memos,
                (
                  c.requires.there,
                  (
                    c.requires.known,
                    (
                      (
                          let graphs = c.args.graphs.now in
                          let graph = c.index-graphs-number.result in
                          let is = read_at graphs graphs c.args.number graph refl c.requires.there c.index-graphs-number.is in
                          let node = c.node-item.result in
                          let place = c.loop-place.place in
                          let node_is = read_at c.as_slice-node-items.result.now graph.nodes place node c.as_slice-node-items.ensures c.loop-place-test.true c.node-item.is in
                          λ called at. c.requires.earlier.graph c.args.number graph is place node called node_is at),
                      (
                        (
                            let graphs = c.args.graphs.now in
                            let learned = c.args.learned.now in
                            let graph = c.index-graphs-number.result in
                            let entry = c.index-learned-number.result in
                            let places = c.as_slice-places.result.now in
                            let is = read_at graphs graphs c.args.number graph refl c.requires.there c.index-graphs-number.is in
                            let entry_is = read_at learned learned c.args.number entry refl c.requires.known c.index-learned-number.is in
                            let sound = c.requires.sound.graph c.args.number graph is in
                            let fits = c.requires.fits.each c.args.number graph entry is entry_is in
                            let table = index_at c.args.tables.now c.args.tables.now c.args.number c.index-tables-number.result [] refl (omega (arith, c.requires.known, c.requires.tables.many)) c.index-tables-number.is in
                            let places_are = c.as_slice-places.ensures ∙ sym table ∙ c.requires.tables.each c.args.number graph entry is entry_is in
                            let first : slice_index places 0 ≡ length graph.inputs = ap (λ ps. slice_index ps 0) places_are ∙ first_place (length graph.inputs) entry.lengths in
                            let node = c.node-item.result in
                            let place = c.loop-place.place in
                            let node_is = read_at c.as_slice-node-items.result.now graph.nodes place node c.as_slice-node-items.ensures c.loop-place-test.true c.node-item.is in
                            subst (λ (n : ℕ). FitsNode (sizes_of graphs (take c.args.number learned)) n entry place node) (sym first) (fits_node (sizes_of graphs (take c.args.number learned)) graph entry place node sound fits node_is)),
                        (
                          (
                              let graphs = c.args.graphs.now in
                              let learned = c.args.learned.now in
                              let graph = c.index-graphs-number.result in
                              let entry = c.index-learned-number.result in
                              let places = c.as_slice-places.result.now in
                              let is = read_at graphs graphs c.args.number graph refl c.requires.there c.index-graphs-number.is in
                              let entry_is = read_at learned learned c.args.number entry refl c.requires.known c.index-learned-number.is in
                              let table = index_at c.args.tables.now c.args.tables.now c.args.number c.index-tables-number.result [] refl (omega (arith, c.requires.known, c.requires.tables.many)) c.index-tables-number.is in
                              let places_are = c.as_slice-places.ensures ∙ sym table ∙ c.requires.tables.each c.args.number graph entry is entry_is in
                              let first : slice_index places 0 ≡ length graph.inputs = ap (λ ps. slice_index ps 0) places_are ∙ first_place (length graph.inputs) entry.lengths in
                              places_are ∙ ap (λ n. places_of n entry.lengths) (sym first)),
                          (
                            (
                                let m = value_of c.args.m in
                                let graphs = c.args.graphs.now in
                                let learned = c.args.learned.now in
                                let graph = c.index-graphs-number.result in
                                let entry = c.index-learned-number.result in
                                let is = read_at graphs graphs c.args.number graph refl c.requires.there c.index-graphs-number.is in
                                let entry_is = read_at learned learned c.args.number entry refl c.requires.known c.index-learned-number.is in
                                let place = c.loop-place.place in
                                let called = meanings m graphs (sets_of learned) c.args.number in
                                let old = c.args.stack.now in
                                let last = c.loop-place.stack in
                                let below = ready_below m graphs learned c.args.number c.args.base graph entry old is entry_is c.requires.ready in
                                let inputs = ready_inputs m graphs learned c.args.number c.args.base graph entry old is entry_is c.requires.ready in
                                omega (arith, stands_end m called graph entry (take c.args.base old.words) (drop c.args.base old.words) last.words place c.args.base (length graph.inputs) c.loop-place.invariant.stands below inputs)),
                            (
                              (
                                  let m = value_of c.args.m in
                                  let graphs = c.args.graphs.now in
                                  let learned = c.args.learned.now in
                                  let graph = c.index-graphs-number.result in
                                  let entry = c.index-learned-number.result in
                                  let places = c.as_slice-places.result.now in
                                  let is = read_at graphs graphs c.args.number graph refl c.requires.there c.index-graphs-number.is in
                                  let entry_is = read_at learned learned c.args.number entry refl c.requires.known c.index-learned-number.is in
                                  let table = index_at c.args.tables.now c.args.tables.now c.args.number c.index-tables-number.result [] refl (omega (arith, c.requires.known, c.requires.tables.many)) c.index-tables-number.is in
                                  let places_are = c.as_slice-places.ensures ∙ sym table ∙ c.requires.tables.each c.args.number graph entry is entry_is in
                                  let first : slice_index places 0 ≡ length graph.inputs = ap (λ ps. slice_index ps 0) places_are ∙ first_place (length graph.inputs) entry.lengths in
                                  let place = c.loop-place.place in
                                  let called = meanings m graphs (sets_of learned) c.args.number in
                                  let old = c.args.stack.now in
                                  let last = c.loop-place.stack in
                                  let below = ready_below m graphs learned c.args.number c.args.base graph entry old is entry_is c.requires.ready in
                                  let inputs = ready_inputs m graphs learned c.args.number c.args.base graph entry old is entry_is c.requires.ready in
                                  subst (λ (n : ℕ). AreListed n (take place entry.lengths) (drop c.args.base last.words)) (sym first) (stands_listed m called graph entry (take c.args.base old.words) (drop c.args.base old.words) last.words place c.args.base (length graph.inputs) c.loop-place.invariant.stands below inputs)),
                              (
                                (
                                    let graphs = c.args.graphs.now in
                                    let graph = c.index-graphs-number.result in
                                    let is = read_at graphs graphs c.args.number graph refl c.requires.there c.index-graphs-number.is in
                                    let node = c.node-item.result in
                                    let place = c.loop-place.place in
                                    let node_is = read_at c.as_slice-node-items.result.now graph.nodes place node c.as_slice-node-items.ensures c.loop-place-test.true c.node-item.is in
                                    λ needed. omega (arith, (c.requires.work.graph c.args.number graph is).each place node node_is needed, c.loop-place.auto.work)),
                                (
                                  (
                                      let m = value_of c.args.m in
                                      let graphs = c.args.graphs.now in
                                      let learned = c.args.learned.now in
                                      let graph = c.index-graphs-number.result in
                                      let entry = c.index-learned-number.result in
                                      let is = read_at graphs graphs c.args.number graph refl c.requires.there c.index-graphs-number.is in
                                      let entry_is = read_at learned learned c.args.number entry refl c.requires.known c.index-learned-number.is in
                                      let place = c.loop-place.place in
                                      let called = meanings m graphs (sets_of learned) c.args.number in
                                      let old = c.args.stack.now in
                                      let last = c.loop-place.stack in
                                      let below = ready_below m graphs learned c.args.number c.args.base graph entry old is entry_is c.requires.ready in
                                      let inputs = ready_inputs m graphs learned c.args.number c.args.base graph entry old is entry_is c.requires.ready in
                                      stands_low m called graph entry (take c.args.base old.words) (drop c.args.base old.words) last.words place c.args.base (length graph.inputs) c.loop-place.invariant.stands below inputs c.requires.ready.low),
                                  ((
                                      let m = value_of c.args.m in
                                      let graphs = c.args.graphs.now in
                                      let learned = c.args.learned.now in
                                      let graph = c.index-graphs-number.result in
                                      let entry = c.index-learned-number.result in
                                      let places = c.as_slice-places.result.now in
                                      let is = read_at graphs graphs c.args.number graph refl c.requires.there c.index-graphs-number.is in
                                      let entry_is = read_at learned learned c.args.number entry refl c.requires.known c.index-learned-number.is in
                                      let sound = c.requires.sound.graph c.args.number graph is in
                                      let fits = c.requires.fits.each c.args.number graph entry is entry_is in
                                      let table = index_at c.args.tables.now c.args.tables.now c.args.number c.index-tables-number.result [] refl (omega (arith, c.requires.known, c.requires.tables.many)) c.index-tables-number.is in
                                      let places_are = c.as_slice-places.ensures ∙ sym table ∙ c.requires.tables.each c.args.number graph entry is entry_is in
                                      let node = c.node-item.result in
                                      let place = c.loop-place.place in
                                      let node_is = read_at c.as_slice-node-items.result.now graph.nodes place node c.as_slice-node-items.ensures c.loop-place-test.true c.node-item.is in
                                      let old = c.args.stack.now in
                                      let last = c.loop-place.stack in
                                      node_room m graphs learned c.args.number c.args.base graph entry old is entry_is c.requires.ready (sizes_of graphs (take c.args.number learned)) last places place sound fits places_are c.loop-place.invariant.stands node node_is (c.requires.earlier.graph c.args.number graph is) c.loop-place.invariant.size)),
                                ),
                              ),
                            ),
                          ),
                        ),
                      ),
                    ),
                  ),
                ),
              ),
            ),
          ),
        ),
      ),
    ),
  ),
)

pub write_call-push_chain-requires-clause-count : goal.write_call-push_chain-requires-clause-count
write_call-push_chain-requires-clause-count t c =
    let graphs = c.args.graphs.now in
    let graph = c.index-graphs-called.result in
    let is = read_at graphs graphs c.args.called graph refl c.requires.called c.index-graphs-called.is in
    let count : c.len.result ≡ length graph.inputs = c.len.ensures ∙ ap (λ (g : Graph). length g.inputs) (sym c.index-graphs-called.is) in
    count ∙ sym (c.requires.inputs graph is)

pub write_call-push_chain-requires-clause-room : goal.write_call-push_chain-requires-clause-room
write_call-push_chain-requires-clause-room t c =
    let graphs = c.args.graphs.now in
    let learned = c.args.learned.now in
    let graph = c.index-graphs-called.result in
    let is = read_at graphs graphs c.args.called graph refl c.requires.called c.index-graphs-called.is in
    let entry = stands learned c.args.called c.requires.known in
    let count : c.len.result ≡ length graph.inputs = c.len.ensures ∙ ap (λ (g : Graph). length g.inputs) (sym c.index-graphs-called.is) in
    omega (arith, count, inputs_fit graphs learned c.args.called graph entry.0 is entry.1, c.requires.room)

pub write_call-returns-clause-ok : goal.write_call-returns-clause-ok
write_call-returns-clause-ok t c =
    let old = c.args.stack.now.words in
    let chain = chained (map (placed (drop c.args.base old) c.args.places.now) c.args.parts.now) in
    called_ok (value_of c.args.m) c.args.graphs.now c.args.learned.now c.args.called c.len-top.result old chain c.push_chain.new.stack (ap (λ (b : Board). b.words) c.push_chain.ensures) (sym c.len-top.ensures) c.evaluate.result c.evaluate.new.stack c.evaluate.ensures.ok

pub write_call-returns-clause-err : goal.write_call-returns-clause-err
write_call-returns-clause-err t c =
    let old = c.args.stack.now.words in
    let chain = chained (map (placed (drop c.args.base old) c.args.places.now) c.args.parts.now) in
    called_err (value_of c.args.m) c.args.graphs.now c.args.learned.now c.args.called c.len-top.result old chain c.push_chain.new.stack (ap (λ (b : Board). b.words) c.push_chain.ensures) (sym c.len-top.ensures) c.evaluate.result c.evaluate.ensures.err

pub write_call-returns-clause-kept : goal.write_call-returns-clause-kept
write_call-returns-clause-kept t c =
    c.evaluate.ensures.kept ∙ ap length (ap (λ (b : Board). b.kept) c.push_chain.ensures)

pub write_map-loop-k-init : goal.write_map-loop-k-init
write_map-loop-k-init t c =
    record {
      size = refl;
      kept = refl;
      memos = c.requires.memos;
      called = called_none (value_of c.args.m) c.args.graphs.now c.args.learned.now c.args.called (map (placed (drop c.args.base c.args.stack.now.words) c.args.places.now) c.args.parts.now) c.args.stack.now.words;
    }

pub write_map-returns-in-Err-clause-err : goal.write_map-returns-in-Err-clause-err
write_map-returns-in-Err-clause-err t c =
    let m = value_of c.args.m in
    let graphs = c.args.graphs.now in
    let learned = c.args.learned.now in
    let old = c.args.stack.now.words in
    let base = c.args.base in
    let places = c.args.places.now in
    let parts = c.args.parts.now in
    let k = c.loop-k.k in
    let words = c.loop-k.stack.words in
    let so_far = c.loop-k.invariant.called in
    let more = chained so_far.outs in
    let below : k < length parts = omega (arith, c.loop-k-test.true) in
    let ins = map (placed (drop base old) places) parts in
    let chain = chained (map (placed (drop base words) places) (slice_range parts k (k + 1))) in
    let low_ins : k < length ins = omega (arith, below, length-map parts (placed (drop base old) places)) in
    let input = part_input base old more words places parts k c.requires.base so_far.words below c.requires.there in
    called_stopped m graphs learned c.args.called ins old k words chain so_far low_ins input c.in-Err.singular c.in-Err.ensures.err

pub write_map-loop-k-preserved : goal.write_map-loop-k-preserved
write_map-loop-k-preserved t c =
    let m = value_of c.args.m in
    let graphs = c.args.graphs.now in
    let learned = c.args.learned.now in
    let old = c.args.stack.now.words in
    let base = c.args.base in
    let places = c.args.places.now in
    let parts = c.args.parts.now in
    let k = c.loop-k.k in
    let words = c.loop-k.stack.words in
    let so_far = c.loop-k.invariant.called in
    let more = chained so_far.outs in
    let below : k < length parts = omega (arith, c.loop-k-test.true) in
    let ins = map (placed (drop base old) places) parts in
    let chain = chained (map (placed (drop base words) places) (slice_range parts k (k + 1))) in
    let low_ins : k < length ins = omega (arith, below, length-map parts (placed (drop base old) places)) in
    let input = part_input base old more words places parts k c.requires.base so_far.words below c.requires.there in
    record {
      size = c.write_call.ensures.size ∙ c.loop-k.invariant.size;
      kept = c.write_call.ensures.kept ∙ c.loop-k.invariant.kept;
      memos = c.write_call.ensures.memos;
      called = called_more m graphs learned c.args.called ins old k words chain so_far low_ins input c.write_call.new.stack.words c.in-Ok.ensures.ok;
    }

pub write_map-returns-clause-ok : goal.write_map-returns-clause-ok
write_map-returns-clause-ok t c =
    let all : c.loop-k.k ≡ length c.args.parts.now = omega (arith, c.loop-k-test.false, c.loop-k.auto.k-end) in
    subst (λ (n : ℕ). AreCalled (value_of c.args.m) c.args.graphs.now c.args.learned.now c.args.called (map (placed (drop c.args.base c.args.stack.now.words) c.args.places.now) c.args.parts.now) n c.args.stack.now.words c.loop-k.stack.words) all c.loop-k.invariant.called

pub write_memo-push_chain-requires-clause-count : goal.write_memo-push_chain-requires-clause-count
write_memo-push_chain-requires-clause-count t c =
    let m = value_of c.args.m in
    let graphs = c.args.graphs.now in
    let learned = c.args.learned.now in
    let frames = c.args.frames.now in
    let slot = c.args.slot in
    let frame = c.args.frame in
    let is = c.requires.frame in
    let fits = c.requires.memo in
    let low_slot = slice_get_within frames slot frame is in
    let base = c.args.base in
    let old = c.args.stack.now.words in
    let places = c.args.places.now in
    let parts = c.args.parts.now in
    let lists = map (placed (drop base old) places) parts in
    let chain = chained lists in
    let many = c.requires.inputs in
    let room = c.requires.room in
    let graph = stands graphs frame.graph fits.called in
    let entry = stands learned frame.graph fits.known in
    let inputs = inputs_fit graphs learned frame.graph graph.0 entry.0 graph.1 entry.1 in
    let own = fits.inputs graph.0 graph.1 in
    sym many

pub write_memo-push_chain-requires-clause-room : goal.write_memo-push_chain-requires-clause-room
write_memo-push_chain-requires-clause-room t c =
    let m = value_of c.args.m in
    let graphs = c.args.graphs.now in
    let learned = c.args.learned.now in
    let frames = c.args.frames.now in
    let slot = c.args.slot in
    let frame = c.args.frame in
    let is = c.requires.frame in
    let fits = c.requires.memo in
    let low_slot = slice_get_within frames slot frame is in
    let base = c.args.base in
    let old = c.args.stack.now.words in
    let places = c.args.places.now in
    let parts = c.args.parts.now in
    let lists = map (placed (drop base old) places) parts in
    let chain = chained lists in
    let many = c.requires.inputs in
    let room = c.requires.room in
    let graph = stands graphs frame.graph fits.called in
    let entry = stands learned frame.graph fits.known in
    let inputs = inputs_fit graphs learned frame.graph graph.0 entry.0 graph.1 entry.1 in
    let own = fits.inputs graph.0 graph.1 in
    omega (arith, room, own, inputs, many)

pub write_memo-recall-requires-clause-inputs : goal.write_memo-recall-requires-clause-inputs
write_memo-recall-requires-clause-inputs t c =
    let m = value_of c.args.m in
    let graphs = c.args.graphs.now in
    let learned = c.args.learned.now in
    let frames = c.args.frames.now in
    let slot = c.args.slot in
    let frame = c.args.frame in
    let is = c.requires.frame in
    let fits = c.requires.memo in
    let low_slot = slice_get_within frames slot frame is in
    let base = c.args.base in
    let old = c.args.stack.now.words in
    let places = c.args.places.now in
    let parts = c.args.parts.now in
    let lists = map (placed (drop base old) places) parts in
    let chain = chained lists in
    let many = c.requires.inputs in
    let room = c.requires.room in
    let graph = stands graphs frame.graph fits.called in
    let entry = stands learned frame.graph fits.known in
    let inputs = inputs_fit graphs learned frame.graph graph.0 entry.0 graph.1 entry.1 in
    let own = fits.inputs graph.0 graph.1 in
    let first = c.push_chain.new.stack in
    let first_words : first.words ≡ old ++ chain = ap (λ (b : Board). b.words) c.push_chain.ensures in
    let first_size = ap (λ (b : Board). b.size) c.push_chain.ensures in
    let first_kept = ap (λ (b : Board). b.kept) c.push_chain.ensures in
    let first_long = ap length first_words in
    let chain_long = length-append old chain in
    omega (arith, first_long, chain_long, many, c.len-top.ensures)

pub write_memo-recall-requires-clause-there : goal.write_memo-recall-requires-clause-there
write_memo-recall-requires-clause-there t c =
    let m = value_of c.args.m in
    let graphs = c.args.graphs.now in
    let learned = c.args.learned.now in
    let frames = c.args.frames.now in
    let slot = c.args.slot in
    let frame = c.args.frame in
    let is = c.requires.frame in
    let fits = c.requires.memo in
    let low_slot = slice_get_within frames slot frame is in
    let base = c.args.base in
    let old = c.args.stack.now.words in
    let places = c.args.places.now in
    let parts = c.args.parts.now in
    let lists = map (placed (drop base old) places) parts in
    let chain = chained lists in
    let many = c.requires.inputs in
    let room = c.requires.room in
    let graph = stands graphs frame.graph fits.called in
    let entry = stands learned frame.graph fits.known in
    let inputs = inputs_fit graphs learned frame.graph graph.0 entry.0 graph.1 entry.1 in
    let own = fits.inputs graph.0 graph.1 in
    let first = c.push_chain.new.stack in
    let first_words : first.words ≡ old ++ chain = ap (λ (b : Board). b.words) c.push_chain.ensures in
    let first_size = ap (λ (b : Board). b.size) c.push_chain.ensures in
    let first_kept = ap (λ (b : Board). b.kept) c.push_chain.ensures in
    let first_long = ap length first_words in
    let chain_long = length-append old chain in
    omega (arith, c.requires.memos.stand.within slot frame is, ap length first_kept)

pub write_memo-recall-requires-clause-room : goal.write_memo-recall-requires-clause-room
write_memo-recall-requires-clause-room t c =
    let m = value_of c.args.m in
    let graphs = c.args.graphs.now in
    let learned = c.args.learned.now in
    let frames = c.args.frames.now in
    let slot = c.args.slot in
    let frame = c.args.frame in
    let is = c.requires.frame in
    let fits = c.requires.memo in
    let low_slot = slice_get_within frames slot frame is in
    let base = c.args.base in
    let old = c.args.stack.now.words in
    let places = c.args.places.now in
    let parts = c.args.parts.now in
    let lists = map (placed (drop base old) places) parts in
    let chain = chained lists in
    let many = c.requires.inputs in
    let room = c.requires.room in
    let graph = stands graphs frame.graph fits.called in
    let entry = stands learned frame.graph fits.known in
    let inputs = inputs_fit graphs learned frame.graph graph.0 entry.0 graph.1 entry.1 in
    let own = fits.inputs graph.0 graph.1 in
    let first = c.push_chain.new.stack in
    let first_words : first.words ≡ old ++ chain = ap (λ (b : Board). b.words) c.push_chain.ensures in
    let first_size = ap (λ (b : Board). b.size) c.push_chain.ensures in
    let first_kept = ap (λ (b : Board). b.kept) c.push_chain.ensures in
    let first_long = ap length first_words in
    let chain_long = length-append old chain in
    omega (arith, room, first_size, c.len-top.ensures)

pub write_memo-returns-then-recall-clause-ok : goal.write_memo-returns-then-recall-clause-ok
write_memo-returns-then-recall-clause-ok t c =
    let m = value_of c.args.m in
    let graphs = c.args.graphs.now in
    let learned = c.args.learned.now in
    let frames = c.args.frames.now in
    let slot = c.args.slot in
    let frame = c.args.frame in
    let is = c.requires.frame in
    let fits = c.requires.memo in
    let low_slot = slice_get_within frames slot frame is in
    let base = c.args.base in
    let old = c.args.stack.now.words in
    let places = c.args.places.now in
    let parts = c.args.parts.now in
    let lists = map (placed (drop base old) places) parts in
    let chain = chained lists in
    let many = c.requires.inputs in
    let room = c.requires.room in
    let graph = stands graphs frame.graph fits.called in
    let entry = stands learned frame.graph fits.known in
    let inputs = inputs_fit graphs learned frame.graph graph.0 entry.0 graph.1 entry.1 in
    let own = fits.inputs graph.0 graph.1 in
    let first = c.push_chain.new.stack in
    let first_words : first.words ≡ old ++ chain = ap (λ (b : Board). b.words) c.push_chain.ensures in
    let first_size = ap (λ (b : Board). b.size) c.push_chain.ensures in
    let first_kept = ap (λ (b : Board). b.kept) c.push_chain.ensures in
    let top = c.len-top.result in
    let top_is : length old ≡ top = sym c.len-top.ensures in
    let yes = c.if-recall.true in
    let there = subst (AreKept graphs (sets_of learned) frames c.args.moduli.now) (sym first_kept) c.requires.memos in
    let by : slice_get c.args.moduli.now slot ≡ Some (Some c.args.m) = slice_get-get_or c.args.moduli.now slot _ (omega (arith, low_slot, c.requires.memos.many)) ∙ ap (λ o. Some o) (c.recall.ensures.by yes) in
    let same = c.recall.ensures.same yes ∙ ap (drop top) first_words ∙ drop_at old chain top top_is in
    let words = c.recall.ensures.hit yes ∙ ap (λ ws. ws ++ kept_output first.kept frame) (ap (take top) first_words ∙ take_at old chain top top_is) in
    (hit_called c.args.m graphs learned frames c.args.moduli.now first.kept slot frame old chain c.recall.new.stack.words there is fits by same words)

pub write_memo-returns-then-recall-clause-memos : goal.write_memo-returns-then-recall-clause-memos
write_memo-returns-then-recall-clause-memos t c =
    let m = value_of c.args.m in
    let graphs = c.args.graphs.now in
    let learned = c.args.learned.now in
    let frames = c.args.frames.now in
    let slot = c.args.slot in
    let frame = c.args.frame in
    let is = c.requires.frame in
    let fits = c.requires.memo in
    let low_slot = slice_get_within frames slot frame is in
    let base = c.args.base in
    let old = c.args.stack.now.words in
    let places = c.args.places.now in
    let parts = c.args.parts.now in
    let lists = map (placed (drop base old) places) parts in
    let chain = chained lists in
    let many = c.requires.inputs in
    let room = c.requires.room in
    let graph = stands graphs frame.graph fits.called in
    let entry = stands learned frame.graph fits.known in
    let inputs = inputs_fit graphs learned frame.graph graph.0 entry.0 graph.1 entry.1 in
    let own = fits.inputs graph.0 graph.1 in
    let first = c.push_chain.new.stack in
    let first_words : first.words ≡ old ++ chain = ap (λ (b : Board). b.words) c.push_chain.ensures in
    let first_size = ap (λ (b : Board). b.size) c.push_chain.ensures in
    let first_kept = ap (λ (b : Board). b.kept) c.push_chain.ensures in
    let top = c.len-top.result in
    let top_is : length old ≡ top = sym c.len-top.ensures in
    subst (AreKept graphs (sets_of learned) frames c.args.moduli.now) (sym (c.recall.ensures.kept ∙ first_kept)) c.requires.memos

pub write_memo-returns-in-Err-clause-err : goal.write_memo-returns-in-Err-clause-err
write_memo-returns-in-Err-clause-err t c =
    let m = value_of c.args.m in
    let graphs = c.args.graphs.now in
    let learned = c.args.learned.now in
    let frames = c.args.frames.now in
    let slot = c.args.slot in
    let frame = c.args.frame in
    let is = c.requires.frame in
    let fits = c.requires.memo in
    let low_slot = slice_get_within frames slot frame is in
    let base = c.args.base in
    let old = c.args.stack.now.words in
    let places = c.args.places.now in
    let parts = c.args.parts.now in
    let lists = map (placed (drop base old) places) parts in
    let chain = chained lists in
    let many = c.requires.inputs in
    let room = c.requires.room in
    let graph = stands graphs frame.graph fits.called in
    let entry = stands learned frame.graph fits.known in
    let inputs = inputs_fit graphs learned frame.graph graph.0 entry.0 graph.1 entry.1 in
    let own = fits.inputs graph.0 graph.1 in
    let first = c.push_chain.new.stack in
    let first_words : first.words ≡ old ++ chain = ap (λ (b : Board). b.words) c.push_chain.ensures in
    let first_size = ap (λ (b : Board). b.size) c.push_chain.ensures in
    let first_kept = ap (λ (b : Board). b.kept) c.push_chain.ensures in
    let top = c.len-top.result in
    let top_is : length old ≡ top = sym c.len-top.ensures in
    let middle = c.recall.new.stack in
    let middle_words : middle.words ≡ old ++ chain = c.recall.ensures.miss c.if-recall.false ∙ first_words in
    (called_err m graphs learned frame.graph top old chain middle middle_words top_is (Err c.in-Err.singular) c.in-Err.ensures.err)

pub write_memo-returns-in-Err-clause-memos : goal.write_memo-returns-in-Err-clause-memos
write_memo-returns-in-Err-clause-memos t c =
    c.evaluate.ensures.memos

pub write_memo-returns-in-Err-clause-kept : goal.write_memo-returns-in-Err-clause-kept
write_memo-returns-in-Err-clause-kept t c =
    c.evaluate.ensures.kept ∙ ap length (c.recall.ensures.kept ∙ ap (λ (b : Board). b.kept) c.push_chain.ensures)

pub write_memo-push_chain-requires-2-clause-base : goal.write_memo-push_chain-requires-2-clause-base
write_memo-push_chain-requires-2-clause-base t c =
    let m = value_of c.args.m in
    let graphs = c.args.graphs.now in
    let learned = c.args.learned.now in
    let frames = c.args.frames.now in
    let slot = c.args.slot in
    let frame = c.args.frame in
    let is = c.requires.frame in
    let fits = c.requires.memo in
    let low_slot = slice_get_within frames slot frame is in
    let base = c.args.base in
    let old = c.args.stack.now.words in
    let places = c.args.places.now in
    let parts = c.args.parts.now in
    let lists = map (placed (drop base old) places) parts in
    let chain = chained lists in
    let many = c.requires.inputs in
    let room = c.requires.room in
    let graph = stands graphs frame.graph fits.called in
    let entry = stands learned frame.graph fits.known in
    let inputs = inputs_fit graphs learned frame.graph graph.0 entry.0 graph.1 entry.1 in
    let own = fits.inputs graph.0 graph.1 in
    let first = c.push_chain.new.stack in
    let first_words : first.words ≡ old ++ chain = ap (λ (b : Board). b.words) c.push_chain.ensures in
    let first_size = ap (λ (b : Board). b.size) c.push_chain.ensures in
    let first_kept = ap (λ (b : Board). b.kept) c.push_chain.ensures in
    let top = c.len-top.result in
    let top_is : length old ≡ top = sym c.len-top.ensures in
    let middle = c.recall.new.stack in
    let middle_words : middle.words ≡ old ++ chain = c.recall.ensures.miss c.if-recall.false ∙ first_words in
    let one = called_ok m graphs learned frame.graph top old chain middle middle_words top_is (Ok tt) c.evaluate.new.stack c.in-Ok.ensures.ok in
    let values = one.values in
    let words = c.evaluate.new.stack.words in
    let values_long = one.long entry.0 entry.1 ∙ sym (fits.outputs entry.0 entry.1) in
    let last_size = c.evaluate.ensures.size ∙ c.recall.ensures.size ∙ first_size in
    let last_kept = c.evaluate.ensures.kept ∙ ap length (c.recall.ensures.kept ∙ first_kept) in
    let last_long = ap length one.words in
    let both_long = length-append old values in
    omega (arith, last_long, both_long, c.requires.base)

pub write_memo-push_chain-requires-2-clause-there : goal.write_memo-push_chain-requires-2-clause-there
write_memo-push_chain-requires-2-clause-there t c =
    let m = value_of c.args.m in
    let graphs = c.args.graphs.now in
    let learned = c.args.learned.now in
    let frames = c.args.frames.now in
    let slot = c.args.slot in
    let frame = c.args.frame in
    let is = c.requires.frame in
    let fits = c.requires.memo in
    let low_slot = slice_get_within frames slot frame is in
    let base = c.args.base in
    let old = c.args.stack.now.words in
    let places = c.args.places.now in
    let parts = c.args.parts.now in
    let lists = map (placed (drop base old) places) parts in
    let chain = chained lists in
    let many = c.requires.inputs in
    let room = c.requires.room in
    let graph = stands graphs frame.graph fits.called in
    let entry = stands learned frame.graph fits.known in
    let inputs = inputs_fit graphs learned frame.graph graph.0 entry.0 graph.1 entry.1 in
    let own = fits.inputs graph.0 graph.1 in
    let first = c.push_chain.new.stack in
    let first_words : first.words ≡ old ++ chain = ap (λ (b : Board). b.words) c.push_chain.ensures in
    let first_size = ap (λ (b : Board). b.size) c.push_chain.ensures in
    let first_kept = ap (λ (b : Board). b.kept) c.push_chain.ensures in
    let top = c.len-top.result in
    let top_is : length old ≡ top = sym c.len-top.ensures in
    let middle = c.recall.new.stack in
    let middle_words : middle.words ≡ old ++ chain = c.recall.ensures.miss c.if-recall.false ∙ first_words in
    let one = called_ok m graphs learned frame.graph top old chain middle middle_words top_is (Ok tt) c.evaluate.new.stack c.in-Ok.ensures.ok in
    let values = one.values in
    let words = c.evaluate.new.stack.words in
    let values_long = one.long entry.0 entry.1 ∙ sym (fits.outputs entry.0 entry.1) in
    let last_size = c.evaluate.ensures.size ∙ c.recall.ensures.size ∙ first_size in
    let last_kept = c.evaluate.ensures.kept ∙ ap length (c.recall.ensures.kept ∙ first_kept) in
    let last_long = ap length one.words in
    let both_long = length-append old values in
    parts_stand base old values words places parts c.requires.base one.words c.requires.there

pub write_memo-push_chain-requires-2-clause-count : goal.write_memo-push_chain-requires-2-clause-count
write_memo-push_chain-requires-2-clause-count t c =
    let m = value_of c.args.m in
    let graphs = c.args.graphs.now in
    let learned = c.args.learned.now in
    let frames = c.args.frames.now in
    let slot = c.args.slot in
    let frame = c.args.frame in
    let is = c.requires.frame in
    let fits = c.requires.memo in
    let low_slot = slice_get_within frames slot frame is in
    let base = c.args.base in
    let old = c.args.stack.now.words in
    let places = c.args.places.now in
    let parts = c.args.parts.now in
    let lists = map (placed (drop base old) places) parts in
    let chain = chained lists in
    let many = c.requires.inputs in
    let room = c.requires.room in
    let graph = stands graphs frame.graph fits.called in
    let entry = stands learned frame.graph fits.known in
    let inputs = inputs_fit graphs learned frame.graph graph.0 entry.0 graph.1 entry.1 in
    let own = fits.inputs graph.0 graph.1 in
    let first = c.push_chain.new.stack in
    let first_words : first.words ≡ old ++ chain = ap (λ (b : Board). b.words) c.push_chain.ensures in
    let first_size = ap (λ (b : Board). b.size) c.push_chain.ensures in
    let first_kept = ap (λ (b : Board). b.kept) c.push_chain.ensures in
    let top = c.len-top.result in
    let top_is : length old ≡ top = sym c.len-top.ensures in
    let middle = c.recall.new.stack in
    let middle_words : middle.words ≡ old ++ chain = c.recall.ensures.miss c.if-recall.false ∙ first_words in
    let one = called_ok m graphs learned frame.graph top old chain middle middle_words top_is (Ok tt) c.evaluate.new.stack c.in-Ok.ensures.ok in
    let values = one.values in
    let words = c.evaluate.new.stack.words in
    let values_long = one.long entry.0 entry.1 ∙ sym (fits.outputs entry.0 entry.1) in
    let last_size = c.evaluate.ensures.size ∙ c.recall.ensures.size ∙ first_size in
    let last_kept = c.evaluate.ensures.kept ∙ ap length (c.recall.ensures.kept ∙ first_kept) in
    let last_long = ap length one.words in
    let both_long = length-append old values in
    sym (ap (λ ls. length (chained ls)) (lists_same base old values words places parts c.requires.base one.words c.requires.there) ∙ many)

pub write_memo-push_chain-requires-2-clause-room : goal.write_memo-push_chain-requires-2-clause-room
write_memo-push_chain-requires-2-clause-room t c =
    let m = value_of c.args.m in
    let graphs = c.args.graphs.now in
    let learned = c.args.learned.now in
    let frames = c.args.frames.now in
    let slot = c.args.slot in
    let frame = c.args.frame in
    let is = c.requires.frame in
    let fits = c.requires.memo in
    let low_slot = slice_get_within frames slot frame is in
    let base = c.args.base in
    let old = c.args.stack.now.words in
    let places = c.args.places.now in
    let parts = c.args.parts.now in
    let lists = map (placed (drop base old) places) parts in
    let chain = chained lists in
    let many = c.requires.inputs in
    let room = c.requires.room in
    let graph = stands graphs frame.graph fits.called in
    let entry = stands learned frame.graph fits.known in
    let inputs = inputs_fit graphs learned frame.graph graph.0 entry.0 graph.1 entry.1 in
    let own = fits.inputs graph.0 graph.1 in
    let first = c.push_chain.new.stack in
    let first_words : first.words ≡ old ++ chain = ap (λ (b : Board). b.words) c.push_chain.ensures in
    let first_size = ap (λ (b : Board). b.size) c.push_chain.ensures in
    let first_kept = ap (λ (b : Board). b.kept) c.push_chain.ensures in
    let top = c.len-top.result in
    let top_is : length old ≡ top = sym c.len-top.ensures in
    let middle = c.recall.new.stack in
    let middle_words : middle.words ≡ old ++ chain = c.recall.ensures.miss c.if-recall.false ∙ first_words in
    let one = called_ok m graphs learned frame.graph top old chain middle middle_words top_is (Ok tt) c.evaluate.new.stack c.in-Ok.ensures.ok in
    let values = one.values in
    let words = c.evaluate.new.stack.words in
    let values_long = one.long entry.0 entry.1 ∙ sym (fits.outputs entry.0 entry.1) in
    let last_size = c.evaluate.ensures.size ∙ c.recall.ensures.size ∙ first_size in
    let last_kept = c.evaluate.ensures.kept ∙ ap length (c.recall.ensures.kept ∙ first_kept) in
    let last_long = ap length one.words in
    let both_long = length-append old values in
    omega (arith, last_long, both_long, values_long, last_size, room, own, inputs)

pub write_memo-remember-requires-clause-slot : goal.write_memo-remember-requires-clause-slot
write_memo-remember-requires-clause-slot t c =
    omega (arith, slice_get_within c.args.frames.now c.args.slot c.args.frame c.requires.frame, c.evaluate.ensures.memos.many)

pub write_memo-remember-requires-clause-words : goal.write_memo-remember-requires-clause-words
write_memo-remember-requires-clause-words t c =
    let m = value_of c.args.m in
    let graphs = c.args.graphs.now in
    let learned = c.args.learned.now in
    let frames = c.args.frames.now in
    let slot = c.args.slot in
    let frame = c.args.frame in
    let is = c.requires.frame in
    let fits = c.requires.memo in
    let low_slot = slice_get_within frames slot frame is in
    let base = c.args.base in
    let old = c.args.stack.now.words in
    let places = c.args.places.now in
    let parts = c.args.parts.now in
    let lists = map (placed (drop base old) places) parts in
    let chain = chained lists in
    let many = c.requires.inputs in
    let room = c.requires.room in
    let graph = stands graphs frame.graph fits.called in
    let entry = stands learned frame.graph fits.known in
    let inputs = inputs_fit graphs learned frame.graph graph.0 entry.0 graph.1 entry.1 in
    let own = fits.inputs graph.0 graph.1 in
    let first = c.push_chain.new.stack in
    let first_words : first.words ≡ old ++ chain = ap (λ (b : Board). b.words) c.push_chain.ensures in
    let first_size = ap (λ (b : Board). b.size) c.push_chain.ensures in
    let first_kept = ap (λ (b : Board). b.kept) c.push_chain.ensures in
    let top = c.len-top.result in
    let top_is : length old ≡ top = sym c.len-top.ensures in
    let middle = c.recall.new.stack in
    let middle_words : middle.words ≡ old ++ chain = c.recall.ensures.miss c.if-recall.false ∙ first_words in
    let one = called_ok m graphs learned frame.graph top old chain middle middle_words top_is (Ok tt) c.evaluate.new.stack c.in-Ok.ensures.ok in
    let values = one.values in
    let words = c.evaluate.new.stack.words in
    let values_long = one.long entry.0 entry.1 ∙ sym (fits.outputs entry.0 entry.1) in
    let last_size = c.evaluate.ensures.size ∙ c.recall.ensures.size ∙ first_size in
    let last_kept = c.evaluate.ensures.kept ∙ ap length (c.recall.ensures.kept ∙ first_kept) in
    let last_long = ap length one.words in
    let both_long = length-append old values in
    let again = lists_same base old values words places parts c.requires.base one.words c.requires.there in
    let pushed = c.push_chain-2.new.stack in
    let pushed_words : pushed.words ≡ (old ++ values) ++ chain = ap (λ (b : Board). b.words) c.push_chain-2.ensures ∙ ap (λ ls. words ++ chained ls) again ∙ ap (λ ws. ws ++ chain) one.words in
    let pushed_size = ap (λ (b : Board). b.size) c.push_chain-2.ensures in
    let pushed_kept = ap (λ (b : Board). b.kept) c.push_chain-2.ensures in
    let pushed_long = ap length pushed_words in let all_long = length-append (old ++ values) chain in omega (arith, pushed_long, all_long, both_long, values_long, many, top_is)

pub write_memo-remember-requires-clause-there : goal.write_memo-remember-requires-clause-there
write_memo-remember-requires-clause-there t c =
    let m = value_of c.args.m in
    let graphs = c.args.graphs.now in
    let learned = c.args.learned.now in
    let frames = c.args.frames.now in
    let slot = c.args.slot in
    let frame = c.args.frame in
    let is = c.requires.frame in
    let fits = c.requires.memo in
    let low_slot = slice_get_within frames slot frame is in
    let base = c.args.base in
    let old = c.args.stack.now.words in
    let places = c.args.places.now in
    let parts = c.args.parts.now in
    let lists = map (placed (drop base old) places) parts in
    let chain = chained lists in
    let many = c.requires.inputs in
    let room = c.requires.room in
    let graph = stands graphs frame.graph fits.called in
    let entry = stands learned frame.graph fits.known in
    let inputs = inputs_fit graphs learned frame.graph graph.0 entry.0 graph.1 entry.1 in
    let own = fits.inputs graph.0 graph.1 in
    let first = c.push_chain.new.stack in
    let first_words : first.words ≡ old ++ chain = ap (λ (b : Board). b.words) c.push_chain.ensures in
    let first_size = ap (λ (b : Board). b.size) c.push_chain.ensures in
    let first_kept = ap (λ (b : Board). b.kept) c.push_chain.ensures in
    let top = c.len-top.result in
    let top_is : length old ≡ top = sym c.len-top.ensures in
    let middle = c.recall.new.stack in
    let middle_words : middle.words ≡ old ++ chain = c.recall.ensures.miss c.if-recall.false ∙ first_words in
    let one = called_ok m graphs learned frame.graph top old chain middle middle_words top_is (Ok tt) c.evaluate.new.stack c.in-Ok.ensures.ok in
    let values = one.values in
    let words = c.evaluate.new.stack.words in
    let values_long = one.long entry.0 entry.1 ∙ sym (fits.outputs entry.0 entry.1) in
    let last_size = c.evaluate.ensures.size ∙ c.recall.ensures.size ∙ first_size in
    let last_kept = c.evaluate.ensures.kept ∙ ap length (c.recall.ensures.kept ∙ first_kept) in
    let last_long = ap length one.words in
    let both_long = length-append old values in
    let again = lists_same base old values words places parts c.requires.base one.words c.requires.there in
    let pushed = c.push_chain-2.new.stack in
    let pushed_words : pushed.words ≡ (old ++ values) ++ chain = ap (λ (b : Board). b.words) c.push_chain-2.ensures ∙ ap (λ ls. words ++ chained ls) again ∙ ap (λ ws. ws ++ chain) one.words in
    let pushed_size = ap (λ (b : Board). b.size) c.push_chain-2.ensures in
    let pushed_kept = ap (λ (b : Board). b.kept) c.push_chain-2.ensures in
    omega (arith, c.requires.memos.stand.within slot frame is, ap length pushed_kept, last_kept)

pub write_memo-returns-clause-ok : goal.write_memo-returns-clause-ok
write_memo-returns-clause-ok t c =
    let m = value_of c.args.m in
    let graphs = c.args.graphs.now in
    let learned = c.args.learned.now in
    let frames = c.args.frames.now in
    let slot = c.args.slot in
    let frame = c.args.frame in
    let is = c.requires.frame in
    let fits = c.requires.memo in
    let low_slot = slice_get_within frames slot frame is in
    let base = c.args.base in
    let old = c.args.stack.now.words in
    let places = c.args.places.now in
    let parts = c.args.parts.now in
    let lists = map (placed (drop base old) places) parts in
    let chain = chained lists in
    let many = c.requires.inputs in
    let room = c.requires.room in
    let graph = stands graphs frame.graph fits.called in
    let entry = stands learned frame.graph fits.known in
    let inputs = inputs_fit graphs learned frame.graph graph.0 entry.0 graph.1 entry.1 in
    let own = fits.inputs graph.0 graph.1 in
    let first = c.push_chain.new.stack in
    let first_words : first.words ≡ old ++ chain = ap (λ (b : Board). b.words) c.push_chain.ensures in
    let first_size = ap (λ (b : Board). b.size) c.push_chain.ensures in
    let first_kept = ap (λ (b : Board). b.kept) c.push_chain.ensures in
    let top = c.len-top.result in
    let top_is : length old ≡ top = sym c.len-top.ensures in
    let middle = c.recall.new.stack in
    let middle_words : middle.words ≡ old ++ chain = c.recall.ensures.miss c.if-recall.false ∙ first_words in
    let one = called_ok m graphs learned frame.graph top old chain middle middle_words top_is (Ok tt) c.evaluate.new.stack c.in-Ok.ensures.ok in
    let values = one.values in
    let words = c.evaluate.new.stack.words in
    let values_long = one.long entry.0 entry.1 ∙ sym (fits.outputs entry.0 entry.1) in
    let last_size = c.evaluate.ensures.size ∙ c.recall.ensures.size ∙ first_size in
    let last_kept = c.evaluate.ensures.kept ∙ ap length (c.recall.ensures.kept ∙ first_kept) in
    let last_long = ap length one.words in
    let both_long = length-append old values in
    let again = lists_same base old values words places parts c.requires.base one.words c.requires.there in
    let pushed = c.push_chain-2.new.stack in
    let pushed_words : pushed.words ≡ (old ++ values) ++ chain = ap (λ (b : Board). b.words) c.push_chain-2.ensures ∙ ap (λ ls. words ++ chained ls) again ∙ ap (λ ws. ws ++ chain) one.words in
    let pushed_size = ap (λ (b : Board). b.size) c.push_chain-2.ensures in
    let pushed_kept = ap (λ (b : Board). b.kept) c.push_chain-2.ensures in
    (record {
      values = values;
      words = c.remember.ensures.words ∙ front_both old values chain pushed.words top frame.outputs pushed_words top_is values_long;
      value = one.value;
      low = one.low;
      long = one.long;
    })

pub write_memo-returns-clause-memos : goal.write_memo-returns-clause-memos
write_memo-returns-clause-memos t c =
    let m = value_of c.args.m in
    let graphs = c.args.graphs.now in
    let learned = c.args.learned.now in
    let frames = c.args.frames.now in
    let slot = c.args.slot in
    let frame = c.args.frame in
    let is = c.requires.frame in
    let fits = c.requires.memo in
    let low_slot = slice_get_within frames slot frame is in
    let base = c.args.base in
    let old = c.args.stack.now.words in
    let places = c.args.places.now in
    let parts = c.args.parts.now in
    let lists = map (placed (drop base old) places) parts in
    let chain = chained lists in
    let many = c.requires.inputs in
    let room = c.requires.room in
    let graph = stands graphs frame.graph fits.called in
    let entry = stands learned frame.graph fits.known in
    let inputs = inputs_fit graphs learned frame.graph graph.0 entry.0 graph.1 entry.1 in
    let own = fits.inputs graph.0 graph.1 in
    let first = c.push_chain.new.stack in
    let first_words : first.words ≡ old ++ chain = ap (λ (b : Board). b.words) c.push_chain.ensures in
    let first_size = ap (λ (b : Board). b.size) c.push_chain.ensures in
    let first_kept = ap (λ (b : Board). b.kept) c.push_chain.ensures in
    let top = c.len-top.result in
    let top_is : length old ≡ top = sym c.len-top.ensures in
    let middle = c.recall.new.stack in
    let middle_words : middle.words ≡ old ++ chain = c.recall.ensures.miss c.if-recall.false ∙ first_words in
    let one = called_ok m graphs learned frame.graph top old chain middle middle_words top_is (Ok tt) c.evaluate.new.stack c.in-Ok.ensures.ok in
    let values = one.values in
    let words = c.evaluate.new.stack.words in
    let values_long = one.long entry.0 entry.1 ∙ sym (fits.outputs entry.0 entry.1) in
    let last_size = c.evaluate.ensures.size ∙ c.recall.ensures.size ∙ first_size in
    let last_kept = c.evaluate.ensures.kept ∙ ap length (c.recall.ensures.kept ∙ first_kept) in
    let last_long = ap length one.words in
    let both_long = length-append old values in
    let again = lists_same base old values words places parts c.requires.base one.words c.requires.there in
    let pushed = c.push_chain-2.new.stack in
    let pushed_words : pushed.words ≡ (old ++ values) ++ chain = ap (λ (b : Board). b.words) c.push_chain-2.ensures ∙ ap (λ ls. words ++ chained ls) again ∙ ap (λ ws. ws ++ chain) one.words in
    let pushed_size = ap (λ (b : Board). b.size) c.push_chain-2.ensures in
    let pushed_kept = ap (λ (b : Board). b.kept) c.push_chain-2.ensures in
    let kept = pushed.kept in
    let there = subst (AreKept graphs (sets_of learned) frames c.evaluate.new.moduli) (sym pushed_kept) c.evaluate.ensures.memos in
    let below : slot < length c.evaluate.new.moduli = omega (arith, slice_get_within c.args.frames.now c.args.slot c.args.frame c.requires.frame, c.evaluate.ensures.memos.many) in
    let done = remembered graphs (sets_of learned) frames c.evaluate.new.moduli kept chain values slot frame c.args.m there is below many values_long one.value one.low in
    let outs_are = run_between old values chain pushed.words top frame.outputs pushed_words top_is values_long in
    let ins_are = run_behind_both old values chain pushed.words top frame.outputs pushed_words top_is values_long in
    let kept_is = c.remember.ensures.kept ∙ ap (λ vs. written_at (frame.at + frame.inputs) vs (written_at frame.at (drop (top + frame.outputs) pushed.words) kept)) outs_are ∙ ap (λ xs. written_at (frame.at + frame.inputs) values (written_at frame.at xs kept)) ins_are in
    subst (λ (k : List ℕ). AreKept graphs (sets_of learned) frames c.remember.new.moduli k) (sym kept_is)
    (subst (λ (ms : List (Option Modulus)). AreKept graphs (sets_of learned) frames ms (written_at (frame.at + frame.inputs) values (written_at frame.at chain kept))) (sym c.remember.ensures.moduli) done)

pub write_memo-returns-clause-kept : goal.write_memo-returns-clause-kept
write_memo-returns-clause-kept t c =
    let m = value_of c.args.m in
    let graphs = c.args.graphs.now in
    let learned = c.args.learned.now in
    let frames = c.args.frames.now in
    let slot = c.args.slot in
    let frame = c.args.frame in
    let is = c.requires.frame in
    let fits = c.requires.memo in
    let low_slot = slice_get_within frames slot frame is in
    let base = c.args.base in
    let old = c.args.stack.now.words in
    let places = c.args.places.now in
    let parts = c.args.parts.now in
    let lists = map (placed (drop base old) places) parts in
    let chain = chained lists in
    let many = c.requires.inputs in
    let room = c.requires.room in
    let graph = stands graphs frame.graph fits.called in
    let entry = stands learned frame.graph fits.known in
    let inputs = inputs_fit graphs learned frame.graph graph.0 entry.0 graph.1 entry.1 in
    let own = fits.inputs graph.0 graph.1 in
    let first = c.push_chain.new.stack in
    let first_words : first.words ≡ old ++ chain = ap (λ (b : Board). b.words) c.push_chain.ensures in
    let first_size = ap (λ (b : Board). b.size) c.push_chain.ensures in
    let first_kept = ap (λ (b : Board). b.kept) c.push_chain.ensures in
    let top = c.len-top.result in
    let top_is : length old ≡ top = sym c.len-top.ensures in
    let middle = c.recall.new.stack in
    let middle_words : middle.words ≡ old ++ chain = c.recall.ensures.miss c.if-recall.false ∙ first_words in
    let one = called_ok m graphs learned frame.graph top old chain middle middle_words top_is (Ok tt) c.evaluate.new.stack c.in-Ok.ensures.ok in
    let values = one.values in
    let words = c.evaluate.new.stack.words in
    let values_long = one.long entry.0 entry.1 ∙ sym (fits.outputs entry.0 entry.1) in
    let last_size = c.evaluate.ensures.size ∙ c.recall.ensures.size ∙ first_size in
    let last_kept = c.evaluate.ensures.kept ∙ ap length (c.recall.ensures.kept ∙ first_kept) in
    let last_long = ap length one.words in
    let both_long = length-append old values in
    let again = lists_same base old values words places parts c.requires.base one.words c.requires.there in
    let pushed = c.push_chain-2.new.stack in
    let pushed_words : pushed.words ≡ (old ++ values) ++ chain = ap (λ (b : Board). b.words) c.push_chain-2.ensures ∙ ap (λ ls. words ++ chained ls) again ∙ ap (λ ws. ws ++ chain) one.words in
    let pushed_size = ap (λ (b : Board). b.size) c.push_chain-2.ensures in
    let pushed_kept = ap (λ (b : Board). b.kept) c.push_chain-2.ensures in
    ap length c.remember.ensures.kept ∙ length-written_at (frame.at + frame.inputs) _ _ ∙ length-written_at frame.at _ _ ∙ ap length pushed_kept ∙ last_kept

pub evaluate-loop-place-init : goal.evaluate-loop-place-init
evaluate-loop-place-init t c =
    let m = value_of c.args.m in
    let words = c.args.stack.now.words in
    record {
      size = refl;
      kept = refl;
      memos = c.requires.memos;
      stands = stands_none m (meanings m c.args.graphs.now (sets_of c.args.learned.now) c.args.number) c.index-graphs-number.result c.index-learned-number.result (take c.args.base words) (drop c.args.base words) words (sym (take-append-drop c.args.base words));
    }

pub evaluate-loop-place-preserved : goal.evaluate-loop-place-preserved
evaluate-loop-place-preserved t c =
    let m = value_of c.args.m in
    let graphs = c.args.graphs.now in
    let learned = c.args.learned.now in
    let graph = c.index-graphs-number.result in
    let entry = c.index-learned-number.result in
    let places = c.as_slice-places.result.now in
    let is = read_at graphs graphs c.args.number graph refl c.requires.there c.index-graphs-number.is in
    let entry_is = read_at learned learned c.args.number entry refl c.requires.known c.index-learned-number.is in
    let sound = c.requires.sound.graph c.args.number graph is in
    let fits = c.requires.fits.each c.args.number graph entry is entry_is in
    let table = index_at c.args.tables.now c.args.tables.now c.args.number c.index-tables-number.result [] refl (omega (arith, c.requires.known, c.requires.tables.many)) c.index-tables-number.is in
    let places_are = c.as_slice-places.ensures ∙ sym table ∙ c.requires.tables.each c.args.number graph entry is entry_is in
    let first : slice_index places 0 ≡ length graph.inputs = ap (λ ps. slice_index ps 0) places_are ∙ first_place (length graph.inputs) entry.lengths in
    let node = c.node-item.result in
    let place = c.loop-place.place in
    let node_is = read_at c.as_slice-node-items.result.now graph.nodes place node c.as_slice-node-items.ensures c.loop-place-test.true c.node-item.is in
    let called = meanings m graphs (sets_of learned) c.args.number in
    let old = c.args.stack.now in
    let last = c.loop-place.stack in
    let below = ready_below m graphs learned c.args.number c.args.base graph entry old is entry_is c.requires.ready in
    let inputs = ready_inputs m graphs learned c.args.number c.args.base graph entry old is entry_is c.requires.ready in
    let cut = cut_places (length graph.inputs) place entry places places_are (fits_node (sizes_of graphs (take c.args.number learned)) graph entry place node sound fits node_is) in
    let added = subst (λ (list : Source → List ℕ). IsAdded m called (slice_index_or entry.sets place []) list node (slice_index entry.lengths place) last.words c.push_node.new.stack.words) (ap (placed (drop c.args.base last.words)) cut) c.in_default.ensures.ok in
    record {
      size = c.push_node.ensures.size ∙ c.loop-place.invariant.size;
      kept = c.push_node.ensures.kept ∙ c.loop-place.invariant.kept;
      memos = c.push_node.ensures.memos;
      stands = stands_more m called graph entry (take c.args.base old.words) (drop c.args.base old.words) last.words place c.args.base (length graph.inputs) c.loop-place.invariant.stands below inputs node c.push_node.new.stack.words node_is (fits_node (sizes_of graphs (take c.args.number learned)) graph entry place node sound fits node_is).many_lengths added;
    }

pub evaluate-overflow_cast-result : goal.evaluate-overflow_cast-result
evaluate-overflow_cast-result t c =
    let graphs = c.args.graphs.now in
    let graph = c.index-graphs-number.result in
    let is = read_at graphs graphs c.args.number graph refl c.requires.there c.index-graphs-number.is in
    let sound = c.requires.sound.graph c.args.number graph is in
    omega (arith, sound.bounded, c.loop-place-test.true, ap length c.as_slice-node-items.ensures)

pub evaluate-returns-in-Err-clause-err : goal.evaluate-returns-in-Err-clause-err
evaluate-returns-in-Err-clause-err t c =
    let m = value_of c.args.m in
    let graphs = c.args.graphs.now in
    let learned = c.args.learned.now in
    let graph = c.index-graphs-number.result in
    let entry = c.index-learned-number.result in
    let places = c.as_slice-places.result.now in
    let is = read_at graphs graphs c.args.number graph refl c.requires.there c.index-graphs-number.is in
    let entry_is = read_at learned learned c.args.number entry refl c.requires.known c.index-learned-number.is in
    let sound = c.requires.sound.graph c.args.number graph is in
    let fits = c.requires.fits.each c.args.number graph entry is entry_is in
    let table = index_at c.args.tables.now c.args.tables.now c.args.number c.index-tables-number.result [] refl (omega (arith, c.requires.known, c.requires.tables.many)) c.index-tables-number.is in
    let places_are = c.as_slice-places.ensures ∙ sym table ∙ c.requires.tables.each c.args.number graph entry is entry_is in
    let node = c.node-item.result in
    let place = c.loop-place.place in
    let node_is = read_at c.as_slice-node-items.result.now graph.nodes place node c.as_slice-node-items.ensures c.loop-place-test.true c.node-item.is in
    let called = meanings m graphs (sets_of learned) c.args.number in
    let old = c.args.stack.now in
    let last = c.loop-place.stack in
    let below = ready_below m graphs learned c.args.number c.args.base graph entry old is entry_is c.requires.ready in
    let inputs = ready_inputs m graphs learned c.args.number c.args.base graph entry old is entry_is c.requires.ready in
    let cut = cut_places (length graph.inputs) place entry places places_are (fits_node (sizes_of graphs (take c.args.number learned)) graph entry place node sound fits node_is) in
    λ prime. graph_value m graphs learned c.args.number graph entry (drop c.args.base old.words) (SingularAt place c.in-Err.cause) is entry_is
    (stands_stop m called graph entry (take c.args.base old.words) (drop c.args.base old.words) last.words place c.args.base (length graph.inputs) c.loop-place.invariant.stands below inputs node c.in-Err.cause node_is
    (λ prime. subst (λ (list : Source → List ℕ). NodeFails m called (slice_index_or entry.sets place []) list node c.in-Err.cause) (ap (placed (drop c.args.base last.words)) cut) (c.in-Err.ensures.err prime)) prime)

pub evaluate-returns-in-Err-clause-needed : goal.evaluate-returns-in-Err-clause-needed
evaluate-returns-in-Err-clause-needed t c =
    let graphs = c.args.graphs.now in
    let graph = c.index-graphs-number.result in
    let is = read_at graphs graphs c.args.number graph refl c.requires.there c.index-graphs-number.is in
    let node = c.node-item.result in
    let place = c.loop-place.place in
    let node_is = read_at c.as_slice-node-items.result.now graph.nodes place node c.as_slice-node-items.ensures c.loop-place-test.true c.node-item.is in
    subst (λ o. IsNeededAt o place) (sym is) (node, node_is, c.in-Err.ensures.needed)

pub evaluate-run_of-start-requires : goal.evaluate-run_of-start-requires
evaluate-run_of-start-requires t c =
    let m = value_of c.args.m in
    let graphs = c.args.graphs.now in
    let learned = c.args.learned.now in
    let graph = c.index-graphs-number.result in
    let entry = c.index-learned-number.result in
    let places = c.as_slice-places.result.now in
    let is = read_at graphs graphs c.args.number graph refl c.requires.there c.index-graphs-number.is in
    let entry_is = read_at learned learned c.args.number entry refl c.requires.known c.index-learned-number.is in
    let sound = c.requires.sound.graph c.args.number graph is in
    let fits = c.requires.fits.each c.args.number graph entry is entry_is in
    let table = index_at c.args.tables.now c.args.tables.now c.args.number c.index-tables-number.result [] refl (omega (arith, c.requires.known, c.requires.tables.many)) c.index-tables-number.is in
    let places_are = c.as_slice-places.ensures ∙ sym table ∙ c.requires.tables.each c.args.number graph entry is entry_is in
    let place = c.loop-place.place in
    let old = c.args.stack.now in
    let last = c.loop-place.stack in
    let all : c.loop-place.place ≡ length graph.nodes = omega (arith, c.loop-place-test.false, c.loop-place.auto.place-end, ap length c.as_slice-node-items.ensures) in
    run_placed (drop c.args.base last.words) places graph.output (output_stands m graphs learned c.args.number c.args.base graph entry old is entry_is c.requires.ready (sizes_of graphs (take c.args.number learned)) last places place sound fits places_are c.loop-place.invariant.stands all)

pub evaluate-overflow_add-base : goal.evaluate-overflow_add-base
evaluate-overflow_add-base t c =
    let m = value_of c.args.m in
    let graphs = c.args.graphs.now in
    let learned = c.args.learned.now in
    let graph = c.index-graphs-number.result in
    let entry = c.index-learned-number.result in
    let places = c.as_slice-places.result.now in
    let is = read_at graphs graphs c.args.number graph refl c.requires.there c.index-graphs-number.is in
    let entry_is = read_at learned learned c.args.number entry refl c.requires.known c.index-learned-number.is in
    let sound = c.requires.sound.graph c.args.number graph is in
    let fits = c.requires.fits.each c.args.number graph entry is entry_is in
    let table = index_at c.args.tables.now c.args.tables.now c.args.number c.index-tables-number.result [] refl (omega (arith, c.requires.known, c.requires.tables.many)) c.index-tables-number.is in
    let places_are = c.as_slice-places.ensures ∙ sym table ∙ c.requires.tables.each c.args.number graph entry is entry_is in
    let place = c.loop-place.place in
    let old = c.args.stack.now in
    let last = c.loop-place.stack in
    let all : c.loop-place.place ≡ length graph.nodes = omega (arith, c.loop-place-test.false, c.loop-place.auto.place-end, ap length c.as_slice-node-items.ensures) in
    let called = meanings m graphs (sets_of learned) c.args.number in
    let below = ready_below m graphs learned c.args.number c.args.base graph entry old is entry_is c.requires.ready in
    let inputs = ready_inputs m graphs learned c.args.number c.args.base graph entry old is entry_is c.requires.ready in
    let end = stands_end m called graph entry (take c.args.base old.words) (drop c.args.base old.words) last.words place c.args.base (length graph.inputs) c.loop-place.invariant.stands below inputs in
    let base_within : c.args.base ≤ length last.words = omega (arith, end) in
    let there = run_there (drop c.args.base last.words) places graph.output (output_stands m graphs learned c.args.number c.args.base graph entry old is entry_is c.requires.ready (sizes_of graphs (take c.args.number learned)) last places place sound fits places_are c.loop-place.invariant.stands all) in
    omega (arith, there.0, there.1, c.run_of-start.ensures.start, c.run_of-start.ensures.stop, c.len-top.ensures, length-drop c.args.base last.words, base_within)

pub evaluate-overflow_add-base-2 : goal.evaluate-overflow_add-base-2
evaluate-overflow_add-base-2 t c =
    let m = value_of c.args.m in
    let graphs = c.args.graphs.now in
    let learned = c.args.learned.now in
    let graph = c.index-graphs-number.result in
    let entry = c.index-learned-number.result in
    let places = c.as_slice-places.result.now in
    let is = read_at graphs graphs c.args.number graph refl c.requires.there c.index-graphs-number.is in
    let entry_is = read_at learned learned c.args.number entry refl c.requires.known c.index-learned-number.is in
    let sound = c.requires.sound.graph c.args.number graph is in
    let fits = c.requires.fits.each c.args.number graph entry is entry_is in
    let table = index_at c.args.tables.now c.args.tables.now c.args.number c.index-tables-number.result [] refl (omega (arith, c.requires.known, c.requires.tables.many)) c.index-tables-number.is in
    let places_are = c.as_slice-places.ensures ∙ sym table ∙ c.requires.tables.each c.args.number graph entry is entry_is in
    let place = c.loop-place.place in
    let old = c.args.stack.now in
    let last = c.loop-place.stack in
    let all : c.loop-place.place ≡ length graph.nodes = omega (arith, c.loop-place-test.false, c.loop-place.auto.place-end, ap length c.as_slice-node-items.ensures) in
    let called = meanings m graphs (sets_of learned) c.args.number in
    let below = ready_below m graphs learned c.args.number c.args.base graph entry old is entry_is c.requires.ready in
    let inputs = ready_inputs m graphs learned c.args.number c.args.base graph entry old is entry_is c.requires.ready in
    let end = stands_end m called graph entry (take c.args.base old.words) (drop c.args.base old.words) last.words place c.args.base (length graph.inputs) c.loop-place.invariant.stands below inputs in
    let base_within : c.args.base ≤ length last.words = omega (arith, end) in
    let there = run_there (drop c.args.base last.words) places graph.output (output_stands m graphs learned c.args.number c.args.base graph entry old is entry_is c.requires.ready (sizes_of graphs (take c.args.number learned)) last places place sound fits places_are c.loop-place.invariant.stands all) in
    omega (arith, there.0, there.1, c.run_of-start.ensures.start, c.run_of-start.ensures.stop, c.len-top.ensures, length-drop c.args.base last.words, base_within)

pub evaluate-collapse-requires-clause-order : goal.evaluate-collapse-requires-clause-order
evaluate-collapse-requires-clause-order t c =
    let m = value_of c.args.m in
    let graphs = c.args.graphs.now in
    let learned = c.args.learned.now in
    let graph = c.index-graphs-number.result in
    let entry = c.index-learned-number.result in
    let places = c.as_slice-places.result.now in
    let is = read_at graphs graphs c.args.number graph refl c.requires.there c.index-graphs-number.is in
    let entry_is = read_at learned learned c.args.number entry refl c.requires.known c.index-learned-number.is in
    let sound = c.requires.sound.graph c.args.number graph is in
    let fits = c.requires.fits.each c.args.number graph entry is entry_is in
    let table = index_at c.args.tables.now c.args.tables.now c.args.number c.index-tables-number.result [] refl (omega (arith, c.requires.known, c.requires.tables.many)) c.index-tables-number.is in
    let places_are = c.as_slice-places.ensures ∙ sym table ∙ c.requires.tables.each c.args.number graph entry is entry_is in
    let place = c.loop-place.place in
    let old = c.args.stack.now in
    let last = c.loop-place.stack in
    let all : c.loop-place.place ≡ length graph.nodes = omega (arith, c.loop-place-test.false, c.loop-place.auto.place-end, ap length c.as_slice-node-items.ensures) in
    let called = meanings m graphs (sets_of learned) c.args.number in
    let below = ready_below m graphs learned c.args.number c.args.base graph entry old is entry_is c.requires.ready in
    let inputs = ready_inputs m graphs learned c.args.number c.args.base graph entry old is entry_is c.requires.ready in
    let end = stands_end m called graph entry (take c.args.base old.words) (drop c.args.base old.words) last.words place c.args.base (length graph.inputs) c.loop-place.invariant.stands below inputs in
    let base_within : c.args.base ≤ length last.words = omega (arith, end) in
    let there = run_there (drop c.args.base last.words) places graph.output (output_stands m graphs learned c.args.number c.args.base graph entry old is entry_is c.requires.ready (sizes_of graphs (take c.args.number learned)) last places place sound fits places_are c.loop-place.invariant.stands all) in
    omega (arith, there.0, there.1, c.run_of-start.ensures.start, c.run_of-start.ensures.stop, c.len-top.ensures, length-drop c.args.base last.words, base_within)

pub evaluate-collapse-requires-clause-there : goal.evaluate-collapse-requires-clause-there
evaluate-collapse-requires-clause-there t c =
    let m = value_of c.args.m in
    let graphs = c.args.graphs.now in
    let learned = c.args.learned.now in
    let graph = c.index-graphs-number.result in
    let entry = c.index-learned-number.result in
    let places = c.as_slice-places.result.now in
    let is = read_at graphs graphs c.args.number graph refl c.requires.there c.index-graphs-number.is in
    let entry_is = read_at learned learned c.args.number entry refl c.requires.known c.index-learned-number.is in
    let sound = c.requires.sound.graph c.args.number graph is in
    let fits = c.requires.fits.each c.args.number graph entry is entry_is in
    let table = index_at c.args.tables.now c.args.tables.now c.args.number c.index-tables-number.result [] refl (omega (arith, c.requires.known, c.requires.tables.many)) c.index-tables-number.is in
    let places_are = c.as_slice-places.ensures ∙ sym table ∙ c.requires.tables.each c.args.number graph entry is entry_is in
    let place = c.loop-place.place in
    let old = c.args.stack.now in
    let last = c.loop-place.stack in
    let all : c.loop-place.place ≡ length graph.nodes = omega (arith, c.loop-place-test.false, c.loop-place.auto.place-end, ap length c.as_slice-node-items.ensures) in
    let called = meanings m graphs (sets_of learned) c.args.number in
    let below = ready_below m graphs learned c.args.number c.args.base graph entry old is entry_is c.requires.ready in
    let inputs = ready_inputs m graphs learned c.args.number c.args.base graph entry old is entry_is c.requires.ready in
    let end = stands_end m called graph entry (take c.args.base old.words) (drop c.args.base old.words) last.words place c.args.base (length graph.inputs) c.loop-place.invariant.stands below inputs in
    let base_within : c.args.base ≤ length last.words = omega (arith, end) in
    let there = run_there (drop c.args.base last.words) places graph.output (output_stands m graphs learned c.args.number c.args.base graph entry old is entry_is c.requires.ready (sizes_of graphs (take c.args.number learned)) last places place sound fits places_are c.loop-place.invariant.stands all) in
    omega (arith, there.0, there.1, c.run_of-start.ensures.start, c.run_of-start.ensures.stop, c.len-top.ensures, length-drop c.args.base last.words, base_within)

pub evaluate-returns-clause-ok : goal.evaluate-returns-clause-ok
evaluate-returns-clause-ok t c =
    let m = value_of c.args.m in
    let graphs = c.args.graphs.now in
    let learned = c.args.learned.now in
    let graph = c.index-graphs-number.result in
    let entry = c.index-learned-number.result in
    let places = c.as_slice-places.result.now in
    let is = read_at graphs graphs c.args.number graph refl c.requires.there c.index-graphs-number.is in
    let entry_is = read_at learned learned c.args.number entry refl c.requires.known c.index-learned-number.is in
    let sound = c.requires.sound.graph c.args.number graph is in
    let fits = c.requires.fits.each c.args.number graph entry is entry_is in
    let table = index_at c.args.tables.now c.args.tables.now c.args.number c.index-tables-number.result [] refl (omega (arith, c.requires.known, c.requires.tables.many)) c.index-tables-number.is in
    let places_are = c.as_slice-places.ensures ∙ sym table ∙ c.requires.tables.each c.args.number graph entry is entry_is in
    let place = c.loop-place.place in
    let old = c.args.stack.now in
    let last = c.loop-place.stack in
    let all : c.loop-place.place ≡ length graph.nodes = omega (arith, c.loop-place-test.false, c.loop-place.auto.place-end, ap length c.as_slice-node-items.ensures) in
    replaced m graphs learned c.args.number c.args.base graph entry old is entry_is c.requires.ready (sizes_of graphs (take c.args.number learned)) last places place sound fits places_are c.loop-place.invariant.stands all c.collapse.new.self c.run_of-start.result.0 c.run_of-start.result.1 c.run_of-start.ensures.start c.run_of-start.ensures.stop (ap (λ (b : Board). b.words) c.collapse.ensures)

pub evaluate-returns-clause-kept : goal.evaluate-returns-clause-kept
evaluate-returns-clause-kept t c =
    ap length (ap (λ (b : Board). b.kept) c.collapse.ensures) ∙ c.loop-place.invariant.kept

pub evaluate-returns-clause-memos : goal.evaluate-returns-clause-memos
evaluate-returns-clause-memos t c =
    subst (AreKept c.args.graphs.now (sets_of c.args.learned.now) c.args.frames.now c.loop-place.moduli) (sym (ap (λ (b : Board). b.kept) c.collapse.ensures)) c.loop-place.invariant.memos

pub evaluate-returns-in-Err-clause-memos : goal.evaluate-returns-in-Err-clause-memos
evaluate-returns-in-Err-clause-memos t c =
    c.push_node.ensures.memos

pub evaluate-returns-in-Err-clause-kept : goal.evaluate-returns-in-Err-clause-kept
evaluate-returns-in-Err-clause-kept t c =
    c.push_node.ensures.kept ∙ c.loop-place.invariant.kept

pub push_call-write_call-requires : goal.push_call-write_call-requires
push_call-write_call-requires t c =
    let m = value_of c.args.m in
    let graphs = c.args.graphs.now in
    let learned = c.args.learned.now in
    let number = c.args.number in
    let node = c.args.node.now in
    let places = c.args.places.now in
    let base = c.args.base in
    let old = c.args.stack.now.words in
    let above : List ℕ = drop base old in
    let called = c.in-Call.graph in
    let parts = c.in-Call.parts in
    let shown = c.as_slice.result.now in
    let shown_is : shown ≡ parts = c.as_slice.ensures in
    let kind : node.kind ≡ Call called parts = c.in-Call.is in
    let below : called < number = c.requires.calls called (ap called_graph kind) in
    let learnt = stands learned called (omega (arith, below, c.requires.known)) in
    let graph = stands graphs called (omega (arith, below, c.requires.there)) in
    let sizes = sizes_of graphs (take number learned) in
    let wanted = words_for graphs learned in
    let extra : extra_of wanted learned node.kind ≡ wanted called = ap (extra_of wanted learned) kind in
    let has : listed_length sizes (placed above places) c.requires.room.set (Call called parts) ≡ Some c.requires.room.own = ap (listed_length sizes (placed above places) c.requires.room.set) (sym kind) ∙ c.requires.room.ruled in (
      omega (arith, below),
      (
        c.requires.sound,
        (
          c.requires.earlier,
          (
            c.requires.fits,
            (
              c.requires.tables,
              (
                c.requires.work,
                (
                  c.requires.frames,
                  (
                    c.requires.memos,
                    (
                      omega (arith, below, c.requires.there),
                      (
                        omega (arith, below, c.requires.known),
                        (
                          c.requires.base,
                          (
                            All-same (IsThere above places) _ _ (shown_is ∙ ap sources_of (sym kind)) c.requires.lists,
                            (
                              λ g at. ap (λ ps. length (chained (map (placed above places) ps))) shown_is ∙ call_inputs sizes above places c.requires.room.set called parts c.requires.room.own has ∙ ap (λ (s : GraphSize). s.inputs) (size_known graphs learned number called g learnt.0 below at learnt.1),
                              (
                                omega (arith, extra, c.requires.room.room),
                                (c.requires.residues),
                              ),
                            ),
                          ),
                        ),
                      ),
                    ),
                  ),
                ),
              ),
            ),
          ),
        ),
      ),
    )

pub push_call-returns-in-Call-clause-ok : goal.push_call-returns-in-Call-clause-ok
push_call-returns-in-Call-clause-ok t c =
    let m = value_of c.args.m in
    let graphs = c.args.graphs.now in
    let learned = c.args.learned.now in
    let number = c.args.number in
    let node = c.args.node.now in
    let places = c.args.places.now in
    let base = c.args.base in
    let old = c.args.stack.now.words in
    let above : List ℕ = drop base old in
    let called = c.in-Call.graph in
    let parts = c.in-Call.parts in
    let shown = c.as_slice.result.now in
    let shown_is : shown ≡ parts = c.as_slice.ensures in
    let kind : node.kind ≡ Call called parts = c.in-Call.is in
    let below : called < number = c.requires.calls called (ap called_graph kind) in
    let learnt = stands learned called (omega (arith, below, c.requires.known)) in
    let graph = stands graphs called (omega (arith, below, c.requires.there)) in
    let sizes = sizes_of graphs (take number learned) in
    let wanted = words_for graphs learned in
    let extra : extra_of wanted learned node.kind ≡ wanted called = ap (extra_of wanted learned) kind in
    added_call m graphs learned number called (placed above places) node old c.write_call.new.stack.words below c.requires.needed parts shown shown_is (λ set own. listed_length sizes (placed above places) set node.kind ≡ Some own) c.cause_told.result c.write_call.result c.cause_told.ensures kind learnt.0 learnt.1 (λ set own ruled. call_outputs sizes above places set called parts own (ap (listed_length sizes (placed above places) set) (sym kind) ∙ ruled) ∙ ap (λ (s : GraphSize). s.outputs) (size_known graphs learned number called graph.0 learnt.0 below graph.1 learnt.1)) c.write_call.ensures.ok

pub push_call-returns-in-Call-clause-err : goal.push_call-returns-in-Call-clause-err
push_call-returns-in-Call-clause-err t c =
    let m = value_of c.args.m in
    let graphs = c.args.graphs.now in
    let learned = c.args.learned.now in
    let number = c.args.number in
    let node = c.args.node.now in
    let places = c.args.places.now in
    let base = c.args.base in
    let old = c.args.stack.now.words in
    let above : List ℕ = drop base old in
    let called = c.in-Call.graph in
    let parts = c.in-Call.parts in
    let shown = c.as_slice.result.now in
    let shown_is : shown ≡ parts = c.as_slice.ensures in
    let kind : node.kind ≡ Call called parts = c.in-Call.is in
    let below : called < number = c.requires.calls called (ap called_graph kind) in
    let learnt = stands learned called (omega (arith, below, c.requires.known)) in
    let graph = stands graphs called (omega (arith, below, c.requires.there)) in
    let sizes = sizes_of graphs (take number learned) in
    let wanted = words_for graphs learned in
    let extra : extra_of wanted learned node.kind ≡ wanted called = ap (extra_of wanted learned) kind in
    failed_call m graphs learned number called (placed above places) node old c.write_call.new.stack.words below c.requires.needed parts shown shown_is (λ set own. listed_length sizes (placed above places) set node.kind ≡ Some own) c.cause_told.result c.write_call.result c.cause_told.ensures kind c.write_call.ensures.err

pub push_call-write_again-requires : goal.push_call-write_again-requires
push_call-write_again-requires t c =
    let m = value_of c.args.m in
    let graphs = c.args.graphs.now in
    let learned = c.args.learned.now in
    let number = c.args.number in
    let node = c.args.node.now in
    let places = c.args.places.now in
    let base = c.args.base in
    let old = c.args.stack.now.words in
    let above : List ℕ = drop base old in
    let called = c.in-Memo.graph in
    let parts = c.in-Memo.parts in
    let shown = c.as_slice-in-Memo.result.now in
    let shown_is : shown ≡ parts = c.as_slice-in-Memo.ensures in
    let kind : node.kind ≡ Memo called parts = c.in-Memo.is in
    let below : called < number = c.requires.calls called (ap called_graph kind) in
    let learnt = stands learned called (omega (arith, below, c.requires.known)) in
    let graph = stands graphs called (omega (arith, below, c.requires.there)) in
    let sizes = sizes_of graphs (take number learned) in
    let wanted = words_for graphs learned in
    let extra : extra_of wanted learned node.kind ≡ wanted called = ap (extra_of wanted learned) kind in
    let has : listed_length sizes (placed above places) c.requires.room.set (Memo called parts) ≡ Some c.requires.room.own = ap (listed_length sizes (placed above places) c.requires.room.set) (sym kind) ∙ c.requires.room.ruled in (
      omega (arith, below),
      (
        c.requires.sound,
        (
          c.requires.earlier,
          (
            c.requires.fits,
            (
              c.requires.tables,
              (
                c.requires.work,
                (
                  c.requires.frames,
                  (
                    c.requires.memos,
                    (
                      omega (arith, below, c.requires.there),
                      (
                        omega (arith, below, c.requires.known),
                        (
                          c.requires.base,
                          (
                            All-same (IsThere above places) _ _ (shown_is ∙ ap sources_of (sym kind)) c.requires.lists,
                            (
                              λ g at. ap (λ ps. length (chained (map (placed above places) ps))) shown_is ∙ call_inputs sizes above places c.requires.room.set called parts c.requires.room.own has ∙ ap (λ (s : GraphSize). s.inputs) (size_known graphs learned number called g learnt.0 below at learnt.1),
                              (
                                λ e at. let long : c.requires.room.own ≡ e.output = call_outputs sizes above places c.requires.room.set called parts c.requires.room.own has ∙ ap (λ (s : GraphSize). s.outputs) (size_known graphs learned number called graph.0 e below graph.1 at) in omega (arith, extra, c.requires.room.room, long),
                                (c.requires.residues),
                              ),
                            ),
                          ),
                        ),
                      ),
                    ),
                  ),
                ),
              ),
            ),
          ),
        ),
      ),
    )

pub push_call-returns-in-Memo-clause-ok : goal.push_call-returns-in-Memo-clause-ok
push_call-returns-in-Memo-clause-ok t c =
    let m = value_of c.args.m in
    let graphs = c.args.graphs.now in
    let learned = c.args.learned.now in
    let number = c.args.number in
    let node = c.args.node.now in
    let places = c.args.places.now in
    let base = c.args.base in
    let old = c.args.stack.now.words in
    let above : List ℕ = drop base old in
    let called = c.in-Memo.graph in
    let parts = c.in-Memo.parts in
    let shown = c.as_slice-in-Memo.result.now in
    let shown_is : shown ≡ parts = c.as_slice-in-Memo.ensures in
    let kind : node.kind ≡ Memo called parts = c.in-Memo.is in
    let below : called < number = c.requires.calls called (ap called_graph kind) in
    let learnt = stands learned called (omega (arith, below, c.requires.known)) in
    let graph = stands graphs called (omega (arith, below, c.requires.there)) in
    let sizes = sizes_of graphs (take number learned) in
    let wanted = words_for graphs learned in
    let extra : extra_of wanted learned node.kind ≡ wanted called = ap (extra_of wanted learned) kind in
    added_memo m graphs learned number called (placed above places) node old c.write_again.new.stack.words below c.requires.needed parts shown shown_is (λ set own. listed_length sizes (placed above places) set node.kind ≡ Some own) c.cause_told-in-Memo.result c.write_again.result c.cause_told-in-Memo.ensures kind learnt.0 learnt.1 (λ set own ruled. call_outputs sizes above places set called parts own (ap (listed_length sizes (placed above places) set) (sym kind) ∙ ruled) ∙ ap (λ (s : GraphSize). s.outputs) (size_known graphs learned number called graph.0 learnt.0 below graph.1 learnt.1)) c.write_again.ensures.ok

pub push_call-returns-in-Memo-clause-err : goal.push_call-returns-in-Memo-clause-err
push_call-returns-in-Memo-clause-err t c =
    let m = value_of c.args.m in
    let graphs = c.args.graphs.now in
    let learned = c.args.learned.now in
    let number = c.args.number in
    let node = c.args.node.now in
    let places = c.args.places.now in
    let base = c.args.base in
    let old = c.args.stack.now.words in
    let above : List ℕ = drop base old in
    let called = c.in-Memo.graph in
    let parts = c.in-Memo.parts in
    let shown = c.as_slice-in-Memo.result.now in
    let shown_is : shown ≡ parts = c.as_slice-in-Memo.ensures in
    let kind : node.kind ≡ Memo called parts = c.in-Memo.is in
    let below : called < number = c.requires.calls called (ap called_graph kind) in
    let learnt = stands learned called (omega (arith, below, c.requires.known)) in
    let graph = stands graphs called (omega (arith, below, c.requires.there)) in
    let sizes = sizes_of graphs (take number learned) in
    let wanted = words_for graphs learned in
    let extra : extra_of wanted learned node.kind ≡ wanted called = ap (extra_of wanted learned) kind in
    failed_memo m graphs learned number called (placed above places) node old c.write_again.new.stack.words below c.requires.needed parts shown shown_is (λ set own. listed_length sizes (placed above places) set node.kind ≡ Some own) c.cause_told-in-Memo.result c.write_again.result c.cause_told-in-Memo.ensures kind c.write_again.ensures.err

pub push_call-write_map-requires : goal.push_call-write_map-requires
push_call-write_map-requires t c =
    let m = value_of c.args.m in
    let graphs = c.args.graphs.now in
    let learned = c.args.learned.now in
    let number = c.args.number in
    let node = c.args.node.now in
    let places = c.args.places.now in
    let base = c.args.base in
    let old = c.args.stack.now.words in
    let above : List ℕ = drop base old in
    let called = c.in-Map.graph in
    let parts = c.in-Map.parts in
    let shown = c.as_slice-in-Map.result.now in
    let shown_is : shown ≡ parts = c.as_slice-in-Map.ensures in
    let kind : node.kind ≡ Map called parts = c.in-Map.is in
    let below : called < number = c.requires.calls called (ap called_graph kind) in
    let learnt = stands learned called (omega (arith, below, c.requires.known)) in
    let graph = stands graphs called (omega (arith, below, c.requires.there)) in
    let sizes = sizes_of graphs (take number learned) in
    let wanted = words_for graphs learned in
    let extra : extra_of wanted learned node.kind ≡ wanted called = ap (extra_of wanted learned) kind in
    let has : listed_length sizes (placed above places) c.requires.room.set (Map called parts) ≡ Some c.requires.room.own = ap (listed_length sizes (placed above places) c.requires.room.set) (sym kind) ∙ c.requires.room.ruled in (
      omega (arith, below),
      (
        c.requires.sound,
        (
          c.requires.earlier,
          (
            c.requires.fits,
            (
              c.requires.tables,
              (
                c.requires.work,
                (
                  c.requires.frames,
                  (
                    c.requires.memos,
                    (
                      omega (arith, below, c.requires.there),
                      (
                        omega (arith, below, c.requires.known),
                        (
                          c.requires.base,
                          (
                            All-same (IsThere above places) _ _ (shown_is ∙ ap sources_of (sym kind)) c.requires.lists,
                            (
                              λ g at. let many : (size_at sizes called).inputs ≡ length g.inputs = ap (λ (s : GraphSize). s.inputs) (size_known graphs learned number called g learnt.0 below at learnt.1) in subst (λ (n : ℕ). All (HasLength above places n) shown) many (All-same (HasLength above places (size_at sizes called).inputs) _ _ shown_is (map_inputs sizes above places c.requires.room.set called parts c.requires.room.own has)),
                              (
                                λ e at. let long : c.requires.room.own ≡ length shown * e.output = map_outputs sizes above places c.requires.room.set called parts c.requires.room.own has ∙ ap (λ n. length parts * n) (ap (λ (s : GraphSize). s.outputs) (size_known graphs learned number called graph.0 e below graph.1 at)) ∙ ap (λ ps. length ps * e.output) (sym shown_is) in omega (arith, extra, c.requires.room.room, long),
                                (c.requires.residues),
                              ),
                            ),
                          ),
                        ),
                      ),
                    ),
                  ),
                ),
              ),
            ),
          ),
        ),
      ),
    )

pub push_call-returns-in-Map-clause-ok : goal.push_call-returns-in-Map-clause-ok
push_call-returns-in-Map-clause-ok t c =
    let m = value_of c.args.m in
    let graphs = c.args.graphs.now in
    let learned = c.args.learned.now in
    let number = c.args.number in
    let node = c.args.node.now in
    let places = c.args.places.now in
    let base = c.args.base in
    let old = c.args.stack.now.words in
    let above : List ℕ = drop base old in
    let called = c.in-Map.graph in
    let parts = c.in-Map.parts in
    let shown = c.as_slice-in-Map.result.now in
    let shown_is : shown ≡ parts = c.as_slice-in-Map.ensures in
    let kind : node.kind ≡ Map called parts = c.in-Map.is in
    let below : called < number = c.requires.calls called (ap called_graph kind) in
    let learnt = stands learned called (omega (arith, below, c.requires.known)) in
    let graph = stands graphs called (omega (arith, below, c.requires.there)) in
    let sizes = sizes_of graphs (take number learned) in
    let wanted = words_for graphs learned in
    let extra : extra_of wanted learned node.kind ≡ wanted called = ap (extra_of wanted learned) kind in
    added_map m graphs learned number called (placed above places) node old c.write_map.new.stack.words below c.requires.needed parts shown shown_is (λ set own. listed_length sizes (placed above places) set node.kind ≡ Some own) c.cause_told-in-Map.result c.write_map.result c.cause_told-in-Map.ensures kind learnt.0 learnt.1 (λ set own ruled. map_outputs sizes above places set called parts own (ap (listed_length sizes (placed above places) set) (sym kind) ∙ ruled) ∙ ap (λ n. length parts * n) (ap (λ (s : GraphSize). s.outputs) (size_known graphs learned number called graph.0 learnt.0 below graph.1 learnt.1))) c.write_map.ensures.ok

pub push_call-returns-in-Map-clause-err : goal.push_call-returns-in-Map-clause-err
push_call-returns-in-Map-clause-err t c =
    let m = value_of c.args.m in
    let graphs = c.args.graphs.now in
    let learned = c.args.learned.now in
    let number = c.args.number in
    let node = c.args.node.now in
    let places = c.args.places.now in
    let base = c.args.base in
    let old = c.args.stack.now.words in
    let above : List ℕ = drop base old in
    let called = c.in-Map.graph in
    let parts = c.in-Map.parts in
    let shown = c.as_slice-in-Map.result.now in
    let shown_is : shown ≡ parts = c.as_slice-in-Map.ensures in
    let kind : node.kind ≡ Map called parts = c.in-Map.is in
    let below : called < number = c.requires.calls called (ap called_graph kind) in
    let learnt = stands learned called (omega (arith, below, c.requires.known)) in
    let graph = stands graphs called (omega (arith, below, c.requires.there)) in
    let sizes = sizes_of graphs (take number learned) in
    let wanted = words_for graphs learned in
    let extra : extra_of wanted learned node.kind ≡ wanted called = ap (extra_of wanted learned) kind in
    failed_map m graphs learned number called (placed above places) node old c.write_map.new.stack.words below c.requires.needed parts shown shown_is (λ set own. listed_length sizes (placed above places) set node.kind ≡ Some own) c.cause_told-in-Map.result c.write_map.result c.cause_told-in-Map.ensures kind c.write_map.ensures.err

pub push_node-push_call-requires : goal.push_node-push_call-requires
push_node-push_call-requires t c =
    let m = value_of c.args.m in
    let graphs = c.args.graphs.now in
    let learned = c.args.learned.now in
    let number = c.args.number in
    let node = c.args.node.now in
    let entry = c.args.entry.now in
    let place = c.args.place in
    let places = c.args.places.now in
    let base = c.args.base in
    let above : List ℕ = drop base c.args.stack.now.words in
    let table : List ℕ = take (place + 1) places in
    let sizes = sizes_of graphs (take number learned) in
    let set : List ℕ = slice_index_or entry.sets place [] in
    let own : ℕ = slice_index entry.lengths place in
    let means = meanings m graphs (sets_of learned) number in
    let has_own = pushed_room sizes (slice_index places 0) place entry node above above places table c.requires.node c.requires.places c.requires.listed refl refl in
    let has : listed_length sizes (placed above table) set node.kind ≡ Some own = subst (λ (b : Bool). MatchBool b (listed_length sizes (placed above table) set node.kind ≡ Some own) (own ≡ 0)) c.if-not-node.false has_own in
    let wanted = words_for graphs learned in
    let extra : node_extra wanted learned node ≡ extra_of wanted learned node.kind = ap (λ (b : Bool). if b then extra_of wanted learned node.kind else 0) c.if-not-node.false in (
      omega arith,
      (
        c.requires.sound,
        (
          c.requires.earlier,
          (
            c.requires.fits,
            (
              c.requires.tables,
              (
                c.requires.work,
                (
                  c.requires.frames,
                  (
                    c.requires.memos,
                    (
                      c.requires.there,
                      (
                        omega (arith, c.requires.known),
                        (
                          (slice_index places 0, place, c.requires.node.sound),
                          (
                            c.if-not-node.false,
                            (
                              rw c.if-not-calls.false at c.calls.ensures.yes,
                              (
                                c.requires.calls,
                                (
                                  c.requires.base,
                                  (
                                    pushed_there sizes (slice_index places 0) place entry node above above places table c.requires.node c.requires.places c.requires.listed refl refl,
                                    (
                                      c.requires.residues,
                                      (
                                          record { set = set; own = own; ruled = has; room = omega (arith, extra, c.requires.room) }),
                                    ),
                                  ),
                                ),
                              ),
                            ),
                          ),
                        ),
                      ),
                    ),
                  ),
                ),
              ),
            ),
          ),
        ),
      ),
    )

pub push_node-returns-clause-ok : goal.push_node-returns-clause-ok
push_node-returns-clause-ok t c =
    let m = value_of c.args.m in
    let graphs = c.args.graphs.now in
    let learned = c.args.learned.now in
    let number = c.args.number in
    let node = c.args.node.now in
    let entry = c.args.entry.now in
    let place = c.args.place in
    let places = c.args.places.now in
    let base = c.args.base in
    let above : List ℕ = drop base c.args.stack.now.words in
    let table : List ℕ = take (place + 1) places in
    let sizes = sizes_of graphs (take number learned) in
    let set : List ℕ = slice_index_or entry.sets place [] in
    let own : ℕ = slice_index entry.lengths place in
    let means = meanings m graphs (sets_of learned) number in
    let has_own = pushed_room sizes (slice_index places 0) place entry node above above places table c.requires.node c.requires.places c.requires.listed refl refl in
    let has : listed_length sizes (placed above table) set node.kind ≡ Some own = subst (λ (b : Bool). MatchBool b (listed_length sizes (placed above table) set node.kind ≡ Some own) (own ≡ 0)) c.if-not-node.false has_own in
    told_ruled (λ set own. listed_length sizes (placed above table) set node.kind ≡ Some own) (λ set own. IsAdded m means set (placed above table) node own c.args.stack.now.words c.push_call.new.stack.words) c.push_call.result set own has c.push_call.ensures.ok

pub push_node-returns-clause-err : goal.push_node-returns-clause-err
push_node-returns-clause-err t c =
    let m = value_of c.args.m in
    let graphs = c.args.graphs.now in
    let learned = c.args.learned.now in
    let number = c.args.number in
    let node = c.args.node.now in
    let entry = c.args.entry.now in
    let place = c.args.place in
    let places = c.args.places.now in
    let base = c.args.base in
    let above : List ℕ = drop base c.args.stack.now.words in
    let table : List ℕ = take (place + 1) places in
    let sizes = sizes_of graphs (take number learned) in
    let set : List ℕ = slice_index_or entry.sets place [] in
    let own : ℕ = slice_index entry.lengths place in
    let means = meanings m graphs (sets_of learned) number in
    told_fails m (λ set cause. NodeFails m means set (placed above table) node cause) c.push_call.result set c.push_call.ensures.err

pub push_node-returns-then-not-calls-clause-ok : goal.push_node-returns-then-not-calls-clause-ok
push_node-returns-then-not-calls-clause-ok t c =
    let m = value_of c.args.m in
    let graphs = c.args.graphs.now in
    let learned = c.args.learned.now in
    let number = c.args.number in
    let node = c.args.node.now in
    let entry = c.args.entry.now in
    let place = c.args.place in
    let places = c.args.places.now in
    let base = c.args.base in
    let above : List ℕ = drop base c.args.stack.now.words in
    let table : List ℕ = take (place + 1) places in
    let sizes = sizes_of graphs (take number learned) in
    let set : List ℕ = slice_index_or entry.sets place [] in
    let own : ℕ = slice_index entry.lengths place in
    let means = meanings m graphs (sets_of learned) number in
    added_alone m means set (placed above table) node own c.args.stack.now.words c.push_plain.new.stack.words c.push_plain.result c.push_plain.ensures.ok

pub push_node-returns-then-not-calls-clause-err : goal.push_node-returns-then-not-calls-clause-err
push_node-returns-then-not-calls-clause-err t c =
    let m = value_of c.args.m in
    let graphs = c.args.graphs.now in
    let learned = c.args.learned.now in
    let number = c.args.number in
    let node = c.args.node.now in
    let entry = c.args.entry.now in
    let place = c.args.place in
    let places = c.args.places.now in
    let base = c.args.base in
    let above : List ℕ = drop base c.args.stack.now.words in
    let table : List ℕ = take (place + 1) places in
    let sizes = sizes_of graphs (take number learned) in
    let set : List ℕ = slice_index_or entry.sets place [] in
    let own : ℕ = slice_index entry.lengths place in
    let means = meanings m graphs (sets_of learned) number in
    failed_alone m means set (placed above table) node c.push_plain.result c.push_plain.ensures.err

pub push_node-push_plain-requires-clause-fits : goal.push_node-push_plain-requires-clause-fits
push_node-push_plain-requires-clause-fits t c = (sizes_of c.args.graphs.now (take c.args.number c.args.learned.now), c.requires.node)

-- what a memo gives is what its graph gives
pub write_again-write_memo-requires : goal.write_again-write_memo-requires
write_again-write_memo-requires t c =
    let frame = c.in-Some.frame in
    let is = c.in-Some.ensures.there in
    let fits = c.requires.frames.each c.in-Some.slot frame is in
    let same : frame.graph ≡ c.args.called = c.in-Some.ensures.called in
    let graph = stands c.args.graphs.now frame.graph fits.called in
    let entry = stands c.args.learned.now frame.graph fits.known in
    let old = c.args.stack.now.words in (
      omega (arith, same),
      (
        c.requires.sound,
        (
          c.requires.earlier,
          (
            c.requires.fits,
            (
              c.requires.tables,
              (
                c.requires.work,
                (
                  c.requires.frames,
                  (
                    c.requires.memos,
                    (
                      is,
                      (
                        fits,
                        (
                          c.requires.base,
                          (
                            c.requires.there,
                            (
                              c.requires.inputs graph.0 (ap (slice_get c.args.graphs.now) (sym same) ∙ graph.1) ∙ sym (fits.inputs graph.0 graph.1),
                              (
                                omega (arith, c.requires.room entry.0 (ap (slice_get c.args.learned.now) (sym same) ∙ entry.1), fits.outputs entry.0 entry.1, ap (words_for c.args.graphs.now c.args.learned.now) same),
                                c.requires.residues,
                              ),
                            ),
                          ),
                        ),
                      ),
                    ),
                  ),
                ),
              ),
            ),
          ),
        ),
      ),
    )

pub write_again-write_call-requires : goal.write_again-write_call-requires
write_again-write_call-requires t c =
    let entry = stands c.args.learned.now c.args.called c.requires.known in
    (omega arith, (c.requires.sound, (c.requires.earlier, (c.requires.fits, (c.requires.tables, (c.requires.work, (c.requires.frames, (c.requires.memos, (c.requires.called, (c.requires.known, (c.requires.base, (c.requires.there, (c.requires.inputs, (omega (arith, c.requires.room entry.0 entry.1), c.requires.residues))))))))))))))

pub write_again-returns-in-Some-clause-ok : goal.write_again-returns-in-Some-clause-ok
write_again-returns-in-Some-clause-ok t c =
    let frame = c.in-Some.frame in
    let is = c.in-Some.ensures.there in
    let old = c.args.stack.now.words in
    subst (λ (n : ℕ). OnOk c.write_memo.result (IsCalled (value_of c.args.m) c.args.graphs.now c.args.learned.now n (chained (map (placed (drop c.args.base old) c.args.places.now) c.args.parts.now)) old c.write_memo.new.stack.words)) (c.in-Some.ensures.called) c.write_memo.ensures.ok

pub write_again-returns-in-Some-clause-err : goal.write_again-returns-in-Some-clause-err
write_again-returns-in-Some-clause-err t c =
    let frame = c.in-Some.frame in
    let is = c.in-Some.ensures.there in
    let old = c.args.stack.now.words in
    subst (λ (n : ℕ). IfErr c.write_memo.result (λ singular. IsPrime (value_of c.args.m) → GraphValue (value_of c.args.m) c.args.graphs.now (sets_of c.args.learned.now) n (chained (map (placed (drop c.args.base old) c.args.places.now) c.args.parts.now)) (SingularAt singular.node singular.cause))) (c.in-Some.ensures.called) c.write_memo.ensures.err

pub push_node-overflow_add-before : goal.push_node-overflow_add-before
push_node-overflow_add-before t c =
    omega (arith, c.requires.node.many_lengths, ap length c.requires.places, length-places (slice_index c.args.places.now 0) c.args.entry.now.lengths, c.len-end.ensures)

pub push_node-slice_bounds-before-end : goal.push_node-slice_bounds-before-end
push_node-slice_bounds-before-end t c =
    omega (arith, c.requires.node.many_lengths, ap length c.requires.places, length-places (slice_index c.args.places.now 0) c.args.entry.now.lengths, length-take (c.args.place + 1) c.args.places.now)

pub write_at-push-requires : goal.write_at-push-requires
write_at-push-requires t c =
    let graph = stands c.args.graphs.now c.args.called c.requires.called in
    let entry = stands c.args.learned.now c.args.called c.requires.known in
    omega (arith, c.requires.inputs graph.0 graph.1, inputs_fit c.args.graphs.now c.args.learned.now c.args.called graph.0 entry.0 graph.1 entry.1, c.requires.room)

pub write_at-push_chain-requires-clause-base : goal.write_at-push_chain-requires-clause-base
write_at-push_chain-requires-clause-base t c =
    let m = value_of c.args.m in
    let graphs = c.args.graphs.now in
    let learned = c.args.learned.now in
    let called = c.args.called in
    let point = c.args.point in
    let base = c.args.base in
    let places = c.args.places.now in
    let parts = c.args.parts.now in
    let old = c.args.stack.now.words in
    let above : List ℕ = drop base old in
    let rest : List ℕ = chained (map (placed above places) parts) in
    let pushed = c.push.new.self.words in
    let pushed_is : pushed ≡ old ++ point ∷ [] = ap (λ (b : Board). b.words) c.push.ensures in
    let lists = lists_same base old (point ∷ []) pushed places parts c.requires.base pushed_is c.requires.there in
    omega (arith, ap length pushed_is, length-append old (point ∷ []), c.requires.base)

pub write_at-push_chain-requires-clause-there : goal.write_at-push_chain-requires-clause-there
write_at-push_chain-requires-clause-there t c =
    let m = value_of c.args.m in
    let graphs = c.args.graphs.now in
    let learned = c.args.learned.now in
    let called = c.args.called in
    let point = c.args.point in
    let base = c.args.base in
    let places = c.args.places.now in
    let parts = c.args.parts.now in
    let old = c.args.stack.now.words in
    let above : List ℕ = drop base old in
    let rest : List ℕ = chained (map (placed above places) parts) in
    let pushed = c.push.new.self.words in
    let pushed_is : pushed ≡ old ++ point ∷ [] = ap (λ (b : Board). b.words) c.push.ensures in
    let lists = lists_same base old (point ∷ []) pushed places parts c.requires.base pushed_is c.requires.there in
    parts_stand base old (point ∷ []) pushed places parts c.requires.base pushed_is c.requires.there

pub write_at-push_chain-requires-clause-count : goal.write_at-push_chain-requires-clause-count
write_at-push_chain-requires-clause-count t c =
    let m = value_of c.args.m in
    let graphs = c.args.graphs.now in
    let learned = c.args.learned.now in
    let called = c.args.called in
    let point = c.args.point in
    let base = c.args.base in
    let places = c.args.places.now in
    let parts = c.args.parts.now in
    let old = c.args.stack.now.words in
    let above : List ℕ = drop base old in
    let rest : List ℕ = chained (map (placed above places) parts) in
    let pushed = c.push.new.self.words in
    let pushed_is : pushed ≡ old ++ point ∷ [] = ap (λ (b : Board). b.words) c.push.ensures in
    let lists = lists_same base old (point ∷ []) pushed places parts c.requires.base pushed_is c.requires.there in
    let graph = c.index-graphs-called.result in
    let is = read_at graphs graphs called graph refl c.requires.called c.index-graphs-called.is in
    let count : c.len.result ≡ length graph.inputs = c.len.ensures ∙ ap (λ (g : Graph). length g.inputs) (sym c.index-graphs-called.is) in
    omega (arith, count, c.requires.inputs graph is, ap (λ ls. length (chained ls)) lists)

pub write_at-push_chain-requires-clause-room : goal.write_at-push_chain-requires-clause-room
write_at-push_chain-requires-clause-room t c =
    let m = value_of c.args.m in
    let graphs = c.args.graphs.now in
    let learned = c.args.learned.now in
    let called = c.args.called in
    let point = c.args.point in
    let base = c.args.base in
    let places = c.args.places.now in
    let parts = c.args.parts.now in
    let old = c.args.stack.now.words in
    let above : List ℕ = drop base old in
    let rest : List ℕ = chained (map (placed above places) parts) in
    let pushed = c.push.new.self.words in
    let pushed_is : pushed ≡ old ++ point ∷ [] = ap (λ (b : Board). b.words) c.push.ensures in
    let lists = lists_same base old (point ∷ []) pushed places parts c.requires.base pushed_is c.requires.there in
    let graph = c.index-graphs-called.result in
    let is = read_at graphs graphs called graph refl c.requires.called c.index-graphs-called.is in
    let entry = stands learned called c.requires.known in
    let count : c.len.result ≡ length graph.inputs = c.len.ensures ∙ ap (λ (g : Graph). length g.inputs) (sym c.index-graphs-called.is) in
    let size = ap (λ (b : Board). b.size) c.push.ensures in
    omega (arith, count, size, ap length pushed_is, length-append old (point ∷ []), c.requires.inputs graph is, inputs_fit graphs learned called graph entry.0 is entry.1, c.requires.room)

pub write_at-evaluate-requires : goal.write_at-evaluate-requires
write_at-evaluate-requires t c =
    let m = value_of c.args.m in
    let graphs = c.args.graphs.now in
    let learned = c.args.learned.now in
    let called = c.args.called in
    let point = c.args.point in
    let base = c.args.base in
    let places = c.args.places.now in
    let parts = c.args.parts.now in
    let old = c.args.stack.now.words in
    let above : List ℕ = drop base old in
    let rest : List ℕ = chained (map (placed above places) parts) in
    let pushed = c.push.new.self.words in
    let pushed_is : pushed ≡ old ++ point ∷ [] = ap (λ (b : Board). b.words) c.push.ensures in
    let lists = lists_same base old (point ∷ []) pushed places parts c.requires.base pushed_is c.requires.there in
    let middle = c.push_chain.new.stack in
    let size = ap (λ (b : Board). b.size) c.push_chain.ensures ∙ ap (λ (b : Board). b.size) c.push.ensures in
    let words_are : middle.words ≡ old ++ point ∷ rest =
    ap (λ (b : Board). b.words) c.push_chain.ensures ∙ ap (λ ls. pushed ++ chained ls) lists ∙ ap (λ ws. ws ++ rest) pushed_is ∙ append_assoc old (point ∷ []) rest in (
      omega arith,
      (
        c.requires.sound,
        (
          c.requires.earlier,
          (
            c.requires.fits,
            (
              c.requires.tables,
              (
                c.requires.work,
                (
                  c.requires.frames,
                  (
                    subst (AreKept graphs (sets_of learned) c.args.frames.now c.args.moduli.now) (sym (ap (λ (b : Board). b.kept) c.push_chain.ensures ∙ ap (λ (b : Board). b.kept) c.push.ensures)) c.requires.memos,
                    (
                      c.requires.called,
                      (
                        c.requires.known,
                        (called_ready m graphs learned called c.len-top.result old (point ∷ rest) middle words_are (sym c.len-top.ensures)
                            (λ graph is. let long = c.requires.inputs graph is in omega (arith, long)) (omega (arith, size, c.requires.room))
                            (All-cons (λ x. x < m) point rest c.requires.point (chained_residues m (map (placed above places) parts) (parts_residues m above places (λ part. part) parts c.requires.residues)))),
                      ),
                    ),
                  ),
                ),
              ),
            ),
          ),
        ),
      ),
    )

pub write_at-returns-clause-ok : goal.write_at-returns-clause-ok
write_at-returns-clause-ok t c =
    let m = value_of c.args.m in
    let graphs = c.args.graphs.now in
    let learned = c.args.learned.now in
    let called = c.args.called in
    let point = c.args.point in
    let base = c.args.base in
    let places = c.args.places.now in
    let parts = c.args.parts.now in
    let old = c.args.stack.now.words in
    let above : List ℕ = drop base old in
    let rest : List ℕ = chained (map (placed above places) parts) in
    let pushed = c.push.new.self.words in
    let pushed_is : pushed ≡ old ++ point ∷ [] = ap (λ (b : Board). b.words) c.push.ensures in
    let lists = lists_same base old (point ∷ []) pushed places parts c.requires.base pushed_is c.requires.there in
    let middle = c.push_chain.new.stack in
    let size = ap (λ (b : Board). b.size) c.push_chain.ensures ∙ ap (λ (b : Board). b.size) c.push.ensures in
    let words_are : middle.words ≡ old ++ point ∷ rest =
    ap (λ (b : Board). b.words) c.push_chain.ensures ∙ ap (λ ls. pushed ++ chained ls) lists ∙ ap (λ ws. ws ++ rest) pushed_is ∙ append_assoc old (point ∷ []) rest in
    called_ok m graphs learned called c.len-top.result old (point ∷ rest) middle words_are (sym c.len-top.ensures) c.evaluate.result c.evaluate.new.stack c.evaluate.ensures.ok

pub write_at-returns-clause-err : goal.write_at-returns-clause-err
write_at-returns-clause-err t c =
    let m = value_of c.args.m in
    let graphs = c.args.graphs.now in
    let learned = c.args.learned.now in
    let called = c.args.called in
    let point = c.args.point in
    let base = c.args.base in
    let places = c.args.places.now in
    let parts = c.args.parts.now in
    let old = c.args.stack.now.words in
    let above : List ℕ = drop base old in
    let rest : List ℕ = chained (map (placed above places) parts) in
    let pushed = c.push.new.self.words in
    let pushed_is : pushed ≡ old ++ point ∷ [] = ap (λ (b : Board). b.words) c.push.ensures in
    let lists = lists_same base old (point ∷ []) pushed places parts c.requires.base pushed_is c.requires.there in
    let middle = c.push_chain.new.stack in
    let size = ap (λ (b : Board). b.size) c.push_chain.ensures ∙ ap (λ (b : Board). b.size) c.push.ensures in
    let words_are : middle.words ≡ old ++ point ∷ rest =
    ap (λ (b : Board). b.words) c.push_chain.ensures ∙ ap (λ ls. pushed ++ chained ls) lists ∙ ap (λ ws. ws ++ rest) pushed_is ∙ append_assoc old (point ∷ []) rest in
    called_err m graphs learned called c.len-top.result old (point ∷ rest) middle words_are (sym c.len-top.ensures) c.evaluate.result c.evaluate.ensures.err

pub write_at-returns-clause-kept : goal.write_at-returns-clause-kept
write_at-returns-clause-kept t c =
    c.evaluate.ensures.kept ∙ ap length (ap (λ (b : Board). b.kept) c.push_chain.ensures ∙ ap (λ (b : Board). b.kept) c.push.ensures)

pub write_expanded-loop-number-init : goal.write_expanded-loop-number-init
write_expanded-loop-number-init t c =
    record {
      size = refl;
      kept = refl;
      memos = c.requires.memos;
      called = called_none (value_of c.args.m) c.args.graphs.now c.args.learned.now c.args.called (expansion_inputs c.args.window (chained (map (placed (drop c.args.base c.args.stack.now.words) c.args.places.now) c.args.parts.now))) c.args.stack.now.words;
    }

pub write_expanded-point_at-requires : goal.write_expanded-point_at-requires
write_expanded-point_at-requires t c =
    omega (arith, c.loop-number-test.true, c.points-points.ensures, c.requires.window.num, c.requires.window.den)

pub write_expanded-write_at-requires : goal.write_expanded-write_at-requires
write_expanded-write_at-requires t c =
    let m = value_of c.args.m in
    let graphs = c.args.graphs.now in
    let learned = c.args.learned.now in
    let called = c.args.called in
    let window = c.args.window in
    let base = c.args.base in
    let places = c.args.places.now in
    let parts = c.args.parts.now in
    let old = c.args.stack.now.words in
    let above : List ℕ = drop base old in
    let rest : List ℕ = chained (map (placed above places) parts) in
    let k = c.loop-number.number in
    let words = c.loop-number.stack.words in
    let so_far = c.loop-number.invariant.called in
    let more = chained so_far.outs in
    let below : k < window.num + window.den + 3 = omega (arith, c.loop-number-test.true, c.points-points.ensures) in
    let lists = lists_same base old more words places parts c.requires.base so_far.words c.requires.there in
    let entry = stands learned called c.requires.known in
    let long = so_far.long entry.0 entry.1 in
    let product = mul-le-mul_right {m = k} {n = window.num + window.den + 3} entry.0.output (omega (arith, below)) in (
      omega arith,
      (
        c.requires.sound,
        (
          c.requires.earlier,
          (
            c.requires.fits,
            (
              c.requires.tables,
              (
                subst (AreEnoughFor graphs) (let e : length c.args.work.now ≡ length c.loop-number.work = omega (arith, c.loop-number.auto.work) in e) c.requires.work,
                (
                  c.requires.frames,
                  (
                    c.loop-number.invariant.memos,
                    (
                      c.requires.called,
                      (
                        c.requires.known,
                        (
                          omega (arith, c.point_at.ensures, below, c.requires.window.num, c.requires.window.den, value_of-wide c.args.m),
                          (
                            omega (arith, ap length so_far.words, length-append old more, c.requires.base),
                            (
                              parts_stand base old more words places parts c.requires.base so_far.words c.requires.there,
                              (
                                λ graph is. ap (λ ls. length (chained ls) + 1) lists ∙ c.requires.inputs graph is,
                                (
                                  omega (arith, ap length so_far.words, length-append old more, c.requires.room entry.0 entry.1, c.loop-number.invariant.size),
                                  (behind_low base old more words places parts c.requires.base so_far.words c.requires.there m c.requires.residues (chained_residues m so_far.outs so_far.low)),
                                ),
                              ),
                            ),
                          ),
                        ),
                      ),
                    ),
                  ),
                ),
              ),
            ),
          ),
        ),
      ),
    )

pub write_expanded-loop-number-preserved : goal.write_expanded-loop-number-preserved
write_expanded-loop-number-preserved t c =
    let m = value_of c.args.m in
    let graphs = c.args.graphs.now in
    let learned = c.args.learned.now in
    let called = c.args.called in
    let window = c.args.window in
    let base = c.args.base in
    let places = c.args.places.now in
    let parts = c.args.parts.now in
    let old = c.args.stack.now.words in
    let above : List ℕ = drop base old in
    let rest : List ℕ = chained (map (placed above places) parts) in
    let k = c.loop-number.number in
    let words = c.loop-number.stack.words in
    let so_far = c.loop-number.invariant.called in
    let more = chained so_far.outs in
    let below : k < window.num + window.den + 3 = omega (arith, c.loop-number-test.true, c.points-points.ensures) in
    let lists = lists_same base old more words places parts c.requires.base so_far.words c.requires.there in
    let point = c.point_at.result in
    let chain = point ∷ chained (map (placed (drop base words) places) parts) in
    let low_ins : k < length (expansion_inputs window rest) = omega (arith, below, many_inputs window rest) in
    let input : slice_index_or (expansion_inputs window rest) k [] ≡ chain =
    input_at window rest k below ∙ ap (λ p. p ∷ rest) (sym c.point_at.ensures) ∙ ap (λ ls. point ∷ chained ls) (sym lists) in
    record {
      size = c.write_at.ensures.size ∙ c.loop-number.invariant.size;
      kept = c.write_at.ensures.kept ∙ c.loop-number.invariant.kept;
      memos = c.write_at.ensures.memos;
      called = called_more m graphs learned called (expansion_inputs window rest) old k words chain so_far low_ins input c.write_at.new.stack.words c.in-Ok.ensures.ok;
    }

pub write_expanded-returns-in-Err-clause-err : goal.write_expanded-returns-in-Err-clause-err
write_expanded-returns-in-Err-clause-err t c =
    let m = value_of c.args.m in
    let graphs = c.args.graphs.now in
    let learned = c.args.learned.now in
    let called = c.args.called in
    let window = c.args.window in
    let base = c.args.base in
    let places = c.args.places.now in
    let parts = c.args.parts.now in
    let old = c.args.stack.now.words in
    let above : List ℕ = drop base old in
    let rest : List ℕ = chained (map (placed above places) parts) in
    let k = c.loop-number.number in
    let words = c.loop-number.stack.words in
    let so_far = c.loop-number.invariant.called in
    let more = chained so_far.outs in
    let below : k < window.num + window.den + 3 = omega (arith, c.loop-number-test.true, c.points-points.ensures) in
    let lists = lists_same base old more words places parts c.requires.base so_far.words c.requires.there in
    let point = c.point_at.result in
    let chain = point ∷ chained (map (placed (drop base words) places) parts) in
    let low_ins : k < length (expansion_inputs window rest) = omega (arith, below, many_inputs window rest) in
    let input : slice_index_or (expansion_inputs window rest) k [] ≡ chain =
    input_at window rest k below ∙ ap (λ p. p ∷ rest) (sym c.point_at.ensures) ∙ ap (λ ls. point ∷ chained ls) (sym lists) in
    λ prime. inl (called_stopped m graphs learned called (expansion_inputs window rest) old k words chain so_far low_ins input c.in-Err.singular c.in-Err.ensures.err prime)

pub write_expanded-push_expansions-requires-clause-words : goal.write_expanded-push_expansions-requires-clause-words
write_expanded-push_expansions-requires-clause-words t c =
    let m = value_of c.args.m in
    let graphs = c.args.graphs.now in
    let learned = c.args.learned.now in
    let called = c.args.called in
    let window = c.args.window in
    let base = c.args.base in
    let places = c.args.places.now in
    let parts = c.args.parts.now in
    let old = c.args.stack.now.words in
    let above : List ℕ = drop base old in
    let rest : List ℕ = chained (map (placed above places) parts) in
    let k = c.loop-number.number in
    let words = c.loop-number.stack.words in
    let so_far = c.loop-number.invariant.called in
    let more = chained so_far.outs in
    let entry = slice_index_or learned called c.index-learned-called.result in
    let entry_is : slice_get learned called ≡ Some entry = read_at learned learned called c.index-learned-called.result refl c.requires.known c.index-learned-called.is ∙ ap (λ (e : GraphLearned). Some e) c.index-learned-called.is in
    let all : k ≡ window.num + window.den + 3 = omega (arith, c.loop-number-test.false, c.loop-number.auto.number-end, c.points-points.ensures) in
    let top = c.len-top.result in
    let top_is : length old ≡ top = sym c.len-top.ensures in
    expansions_words m graphs learned called window rest old words top k entry entry_is top_is all so_far

pub write_expanded-push_expansions-requires-clause-residues : goal.write_expanded-push_expansions-requires-clause-residues
write_expanded-push_expansions-requires-clause-residues t c =
    let m = value_of c.args.m in
    let graphs = c.args.graphs.now in
    let learned = c.args.learned.now in
    let called = c.args.called in
    let window = c.args.window in
    let base = c.args.base in
    let places = c.args.places.now in
    let parts = c.args.parts.now in
    let old = c.args.stack.now.words in
    let above : List ℕ = drop base old in
    let rest : List ℕ = chained (map (placed above places) parts) in
    let k = c.loop-number.number in
    let words = c.loop-number.stack.words in
    let so_far = c.loop-number.invariant.called in
    let more = chained so_far.outs in
    let entry = slice_index_or learned called c.index-learned-called.result in
    let entry_is : slice_get learned called ≡ Some entry = read_at learned learned called c.index-learned-called.result refl c.requires.known c.index-learned-called.is ∙ ap (λ (e : GraphLearned). Some e) c.index-learned-called.is in
    let all : k ≡ window.num + window.den + 3 = omega (arith, c.loop-number-test.false, c.loop-number.auto.number-end, c.points-points.ensures) in
    let top = c.len-top.result in
    let top_is : length old ≡ top = sym c.len-top.ensures in
    expansions_low m graphs learned called window rest old words top k entry entry_is top_is all so_far

pub write_expanded-push_expansions-requires-clause-room : goal.write_expanded-push_expansions-requires-clause-room
write_expanded-push_expansions-requires-clause-room t c =
    let m = value_of c.args.m in
    let graphs = c.args.graphs.now in
    let learned = c.args.learned.now in
    let called = c.args.called in
    let window = c.args.window in
    let base = c.args.base in
    let places = c.args.places.now in
    let parts = c.args.parts.now in
    let old = c.args.stack.now.words in
    let above : List ℕ = drop base old in
    let rest : List ℕ = chained (map (placed above places) parts) in
    let k = c.loop-number.number in
    let words = c.loop-number.stack.words in
    let so_far = c.loop-number.invariant.called in
    let more = chained so_far.outs in
    let entry = slice_index_or learned called c.index-learned-called.result in
    let entry_is : slice_get learned called ≡ Some entry = read_at learned learned called c.index-learned-called.result refl c.requires.known c.index-learned-called.is ∙ ap (λ (e : GraphLearned). Some e) c.index-learned-called.is in
    let all : k ≡ window.num + window.den + 3 = omega (arith, c.loop-number-test.false, c.loop-number.auto.number-end, c.points-points.ensures) in
    let top = c.len-top.result in
    let top_is : length old ≡ top = sym c.len-top.ensures in
    let long = so_far.long entry entry_is in
    let product : k * entry.output ≡ (window.num + window.den + 3) * entry.output = ap (λ n. n * entry.output) all in
    let words_are : length words ≡ length old + (window.num + window.den + 3) * entry.output = ap length so_far.words ∙ length-append old more ∙ ap (λ n. length old + n) (long ∙ product) in
    room_left (length words) (length old) ((window.num + window.den + 3) * entry.output) (entry.output * orders_of window) (words_for graphs learned called) c.args.stack.now.size c.loop-number.stack.size words_are (c.requires.room entry entry_is) c.loop-number.invariant.size

pub write_expanded-returns-clause-ok : goal.write_expanded-returns-clause-ok
write_expanded-returns-clause-ok t c =
    let m = value_of c.args.m in
    let graphs = c.args.graphs.now in
    let learned = c.args.learned.now in
    let called = c.args.called in
    let window = c.args.window in
    let base = c.args.base in
    let places = c.args.places.now in
    let parts = c.args.parts.now in
    let old = c.args.stack.now.words in
    let above : List ℕ = drop base old in
    let rest : List ℕ = chained (map (placed above places) parts) in
    let k = c.loop-number.number in
    let words = c.loop-number.stack.words in
    let so_far = c.loop-number.invariant.called in
    let more = chained so_far.outs in
    let entry = slice_index_or learned called c.index-learned-called.result in
    let entry_is : slice_get learned called ≡ Some entry = read_at learned learned called c.index-learned-called.result refl c.requires.known c.index-learned-called.is ∙ ap (λ (e : GraphLearned). Some e) c.index-learned-called.is in
    let all : k ≡ window.num + window.den + 3 = omega (arith, c.loop-number-test.false, c.loop-number.auto.number-end, c.points-points.ensures) in
    let top = c.len-top.result in
    let top_is : length old ≡ top = sym c.len-top.ensures in
    expansions_ok m graphs learned called window rest old words top k entry entry_is top_is all so_far c.push_expansions.result c.push_expansions.new.stack.words c.push_expansions.ensures.ok

pub write_expanded-returns-clause-err : goal.write_expanded-returns-clause-err
write_expanded-returns-clause-err t c =
    let m = value_of c.args.m in
    let graphs = c.args.graphs.now in
    let learned = c.args.learned.now in
    let called = c.args.called in
    let window = c.args.window in
    let base = c.args.base in
    let places = c.args.places.now in
    let parts = c.args.parts.now in
    let old = c.args.stack.now.words in
    let above : List ℕ = drop base old in
    let rest : List ℕ = chained (map (placed above places) parts) in
    let k = c.loop-number.number in
    let words = c.loop-number.stack.words in
    let so_far = c.loop-number.invariant.called in
    let more = chained so_far.outs in
    let entry = slice_index_or learned called c.index-learned-called.result in
    let entry_is : slice_get learned called ≡ Some entry = read_at learned learned called c.index-learned-called.result refl c.requires.known c.index-learned-called.is ∙ ap (λ (e : GraphLearned). Some e) c.index-learned-called.is in
    let all : k ≡ window.num + window.den + 3 = omega (arith, c.loop-number-test.false, c.loop-number.auto.number-end, c.points-points.ensures) in
    let top = c.len-top.result in
    let top_is : length old ≡ top = sym c.len-top.ensures in
    expansions_err m graphs learned called window rest old words top k entry entry_is top_is all so_far c.push_expansions.result c.push_expansions.ensures.err

pub write_expanded-returns-clause-kept : goal.write_expanded-returns-clause-kept
write_expanded-returns-clause-kept t c =
    ap length c.push_expansions.ensures.kept ∙ c.loop-number.invariant.kept

pub write_expanded-returns-clause-memos : goal.write_expanded-returns-clause-memos
write_expanded-returns-clause-memos t c =
    subst (AreKept c.args.graphs.now (sets_of c.args.learned.now) c.args.frames.now c.loop-number.moduli) (sym c.push_expansions.ensures.kept) c.loop-number.invariant.memos

pub push_call-write_expanded-requires : goal.push_call-write_expanded-requires
push_call-write_expanded-requires t c =
    let m = value_of c.args.m in
    let graphs = c.args.graphs.now in
    let learned = c.args.learned.now in
    let number = c.args.number in
    let node = c.args.node.now in
    let places = c.args.places.now in
    let base = c.args.base in
    let old = c.args.stack.now.words in
    let above : List ℕ = drop base old in
    let called = c.in-Laurent.graph in
    let lo = c.in-Laurent.lo in
    let hi = c.in-Laurent.hi in
    let num = c.in-Laurent.num in
    let den = c.in-Laurent.den in
    let parts = c.in-Laurent.parts in
    let shown = c.as_slice-in-Laurent.result.now in
    let shown_is : shown ≡ parts = c.as_slice-in-Laurent.ensures in
    let kind : node.kind ≡ Laurent called lo hi num den parts = c.in-Laurent.is in
    let below : called < number = c.requires.calls called (ap called_graph kind) in
    let learnt = stands learned called (omega (arith, below, c.requires.known)) in
    let graph = stands graphs called (omega (arith, below, c.requires.there)) in
    let sizes = sizes_of graphs (take number learned) in
    let sound = subst (IsKind c.requires.kind.0 c.requires.kind.1) kind c.requires.kind.2 in
    let window = c.window_of.result in
    let window_is : window ≡ window_of lo hi num den = c.window_of.ensures ∙ window_told lo hi num den sound.lowest sound.ordered sound.highest in
    let wanted = words_for graphs learned in
    let extra : extra_of wanted learned node.kind ≡ wanted called + expansion_words (num + den + 3) (output_at (slice_get learned called)) = ap (extra_of wanted learned) kind in
    let has : listed_length sizes (placed above places) c.requires.room.set (Laurent called lo hi num den parts) ≡ Some c.requires.room.own = ap (listed_length sizes (placed above places) c.requires.room.set) (sym kind) ∙ c.requires.room.ruled in (
      omega (arith, below),
      (
        c.requires.sound,
        (
          c.requires.earlier,
          (
            c.requires.fits,
            (
              c.requires.tables,
              (
                c.requires.work,
                (
                  c.requires.frames,
                  (
                    c.requires.memos,
                    (
                      omega (arith, below, c.requires.there),
                      (
                        omega (arith, below, c.requires.known),
                        (
                          subst IsWindow (sym window_is) (has_window c.requires.kind.0 c.requires.kind.1 (Laurent called lo hi num den parts) sound),
                          (
                            c.requires.base,
                            (
                              All-same (IsThere above places) _ _ (shown_is ∙ ap sources_of (sym kind)) c.requires.lists,
                              (
                                λ g at. ap (λ ps. length (chained (map (placed above places) ps)) + 1) shown_is ∙ laurent_inputs sizes above places c.requires.room.set called lo hi num den parts c.requires.room.own has ∙ ap (λ (s : GraphSize). s.inputs) (size_known graphs learned number called g learnt.0 below at learnt.1),
                                (
                                  λ e at.
                                      let outputs : (size_at sizes called).outputs ≡ e.output = ap (λ (s : GraphSize). s.outputs) (size_known graphs learned number called graph.0 e below graph.1 at) in
                                      let orders : orders_of window ≡ orders_of (window_of lo hi num den) = ap orders_of window_is in
                                      let own : c.requires.room.own ≡ e.output * orders_of window = laurent_outputs sizes above places c.requires.room.set called lo hi num den parts c.requires.room.own has ∙ ap (λ n. n * orders_of (window_of lo hi num den)) outputs ∙ ap (λ n. e.output * n) (sym orders) in
                                      let points : (window.num + window.den + 3) * e.output ≡ (num + den + 3) * e.output = ap (λ (w : Window). (w.num + w.den + 3) * e.output) window_is in
                                      let product : (num + den + 3) * output_at (slice_get learned called) ≡ (num + den + 3) * e.output = ap (λ (o : Option GraphLearned). (num + den + 3) * output_at o) at in
                                      call_room (length old) c.requires.room.own (e.output * orders_of window) (extra_of wanted learned node.kind) (wanted called) (12 * (num + den + 3 + 2)) ((num + den + 3) * output_at (slice_get learned called)) ((window.num + window.den + 3) * e.output) c.args.stack.now.size own extra (product ∙ sym points) c.requires.room.room,
                                  (c.requires.residues),
                                ),
                              ),
                            ),
                          ),
                        ),
                      ),
                    ),
                  ),
                ),
              ),
            ),
          ),
        ),
      ),
    )

pub push_call-returns-in-Laurent-clause-ok : goal.push_call-returns-in-Laurent-clause-ok
push_call-returns-in-Laurent-clause-ok t c =
    let m = value_of c.args.m in
    let graphs = c.args.graphs.now in
    let learned = c.args.learned.now in
    let number = c.args.number in
    let node = c.args.node.now in
    let places = c.args.places.now in
    let base = c.args.base in
    let old = c.args.stack.now.words in
    let above : List ℕ = drop base old in
    let called = c.in-Laurent.graph in
    let lo = c.in-Laurent.lo in
    let hi = c.in-Laurent.hi in
    let num = c.in-Laurent.num in
    let den = c.in-Laurent.den in
    let parts = c.in-Laurent.parts in
    let shown = c.as_slice-in-Laurent.result.now in
    let shown_is : shown ≡ parts = c.as_slice-in-Laurent.ensures in
    let kind : node.kind ≡ Laurent called lo hi num den parts = c.in-Laurent.is in
    let below : called < number = c.requires.calls called (ap called_graph kind) in
    let learnt = stands learned called (omega (arith, below, c.requires.known)) in
    let graph = stands graphs called (omega (arith, below, c.requires.there)) in
    let sizes = sizes_of graphs (take number learned) in
    let sound = subst (IsKind c.requires.kind.0 c.requires.kind.1) kind c.requires.kind.2 in
    let window = c.window_of.result in
    let window_is : window ≡ window_of lo hi num den = c.window_of.ensures ∙ window_told lo hi num den sound.lowest sound.ordered sound.highest in
    added_laurent m graphs learned number called (placed above places) node old c.write_expanded.new.stack.words below c.requires.needed parts shown shown_is (λ set own. listed_length sizes (placed above places) set node.kind ≡ Some own) lo hi num den c.write_expanded.result kind learnt.0 learnt.1
    (λ set own ruled. laurent_outputs sizes above places set called lo hi num den parts own (ap (listed_length sizes (placed above places) set) (sym kind) ∙ ruled) ∙ ap (λ n. n * orders_of (window_of lo hi num den)) (ap (λ (s : GraphSize). s.outputs) (size_known graphs learned number called graph.0 learnt.0 below graph.1 learnt.1)))
    (subst (λ (w : Window). OnOk c.write_expanded.result (IsExpandedCall m graphs learned called w (chained (map (placed above places) shown)) old c.write_expanded.new.stack.words)) window_is c.write_expanded.ensures.ok)

pub push_call-returns-in-Laurent-clause-err : goal.push_call-returns-in-Laurent-clause-err
push_call-returns-in-Laurent-clause-err t c =
    let m = value_of c.args.m in
    let graphs = c.args.graphs.now in
    let learned = c.args.learned.now in
    let number = c.args.number in
    let node = c.args.node.now in
    let places = c.args.places.now in
    let base = c.args.base in
    let old = c.args.stack.now.words in
    let above : List ℕ = drop base old in
    let called = c.in-Laurent.graph in
    let lo = c.in-Laurent.lo in
    let hi = c.in-Laurent.hi in
    let num = c.in-Laurent.num in
    let den = c.in-Laurent.den in
    let parts = c.in-Laurent.parts in
    let shown = c.as_slice-in-Laurent.result.now in
    let shown_is : shown ≡ parts = c.as_slice-in-Laurent.ensures in
    let kind : node.kind ≡ Laurent called lo hi num den parts = c.in-Laurent.is in
    let below : called < number = c.requires.calls called (ap called_graph kind) in
    let learnt = stands learned called (omega (arith, below, c.requires.known)) in
    let graph = stands graphs called (omega (arith, below, c.requires.there)) in
    let sizes = sizes_of graphs (take number learned) in
    let sound = subst (IsKind c.requires.kind.0 c.requires.kind.1) kind c.requires.kind.2 in
    let window = c.window_of.result in
    let window_is : window ≡ window_of lo hi num den = c.window_of.ensures ∙ window_told lo hi num den sound.lowest sound.ordered sound.highest in
    failed_laurent m graphs learned number called (placed above places) node old c.write_expanded.new.stack.words below c.requires.needed parts shown shown_is (λ set own. listed_length sizes (placed above places) set node.kind ≡ Some own) lo hi num den c.write_expanded.result kind
    (subst (λ (w : Window). IfErr c.write_expanded.result (λ cause. IsPrime m → IsNotExpanded m w (GraphValue m graphs (sets_of learned) called) (chained (map (placed above places) shown)) cause)) window_is c.write_expanded.ensures.err)
