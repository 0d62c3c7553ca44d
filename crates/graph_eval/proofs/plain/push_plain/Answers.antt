-- The node reads the lists of those before it, whose lengths are the learned ones.
use Rattle.std.proofs.Common.{◌≡◌, ℕ, ◌+◌, ◌-◌, ◌<◌, List, [], Bool, MatchBool, if◌then◌else◌, Some, None, length, take, drop, refl, sym, ◌∙◌, ap, subst, length-take, arith}
use Rattle.std.specs.Prelude.{OnOk, IfErr, slice_index, slice_index_or}
use Rattle.std.proofs.lemmas.List.{length-replicate, take_rest}
use Rattle.std.proofs.lemmas.List.Elements.{All-same}
use Rattle.prime_field.specs.Modulus.{value_of}
use Rattle.prime_field.specs.Residue.{IsPrime}
use Rattle.word_region.proofs.Boards.{written_whole}
use Rattle.graph_file.specs.declared.graph.Source.{Source}
use Rattle.graph_eval.specs.Evaluated.{no_graphs}
use Rattle.graph_eval.specs.GraphValue.{KindFails, KindGives}
use Rattle.graph_eval.specs.Learned.{IsKindSet, IsSetFor, kind_plan, listed_length, plan_of}
use Rattle.graph_eval.specs.Reading.{placed}
use Rattle.graph_eval.proofs.Listed.{length-places}
use Rattle.graph_eval.proofs.Places.{index_at}
use Rattle.graph_eval.proofs.Standing.{added_here, failed_here, pushed_room, pushed_same, pushed_sound, pushed_there}
use Rattle.graph_eval.proofs.plain.push_plain.Goals as goal

pub slice_bounds-write_list-end-2 : goal.slice_bounds-write_list-end-2
slice_bounds-write_list-end-2 c =
    omega (arith, c.requires.fits.1.many_lengths, ap length c.requires.places, length-places (slice_index c.args.places.now 0) c.args.learned.now.lengths, length-take (c.args.place + 1) c.args.places.now)

pub write_list-requires-clause-sound : goal.write_list-requires-clause-sound
write_list-requires-clause-sound c =
    let node = c.args.node.now in
    let learned = c.args.learned.now in
    let place = c.args.place in
    let places = c.args.places.now in
    let words = c.grow-out.result.0.now in
    let read = take (length words - c.args.base) (drop c.args.base words) in
    let table = take (place + 1) places in
    let above = drop c.args.base c.args.stack.now.words in
    let read_is : read ≡ above = take_rest words c.args.base ∙ ap (drop c.args.base) c.grow-out.ensures.below in
    pushed_sound c.requires.fits.0 (slice_index places 0) place learned node above read places table c.requires.fits.1 c.requires.places c.requires.listed read_is refl

pub write_list-requires-clause-there : goal.write_list-requires-clause-there
write_list-requires-clause-there c =
    let node = c.args.node.now in
    let learned = c.args.learned.now in
    let place = c.args.place in
    let places = c.args.places.now in
    let words = c.grow-out.result.0.now in
    let read = take (length words - c.args.base) (drop c.args.base words) in
    let table = take (place + 1) places in
    let above = drop c.args.base c.args.stack.now.words in
    let read_is : read ≡ above = take_rest words c.args.base ∙ ap (drop c.args.base) c.grow-out.ensures.below in
    pushed_there c.requires.fits.0 (slice_index places 0) place learned node above read places table c.requires.fits.1 c.requires.places c.requires.listed read_is refl

pub write_list-requires-clause-set : goal.write_list-requires-clause-set
write_list-requires-clause-set c =
    let node = c.args.node.now in
    let learned = c.args.learned.now in
    let place = c.args.place in
    let set_is : slice_index_or learned.sets place [] ≡ c.as_slice-set.result.now = index_at c.as_slice.result.now learned.sets place c.index-as_slice-place.result [] c.as_slice.ensures (omega (arith, c.requires.fits.1.many_sets, ap length c.as_slice.ensures)) c.index-as_slice-place.is ∙ sym c.as_slice-set.ensures in
    subst (λ (b : Bool). MatchBool b (IsKindSet node.kind c.as_slice-set.result.now) (c.as_slice-set.result.now ≡ [])) c.if-not-node.false (subst (IsSetFor node) set_is c.requires.fits.1.set)

pub write_list-requires-clause-plan : goal.write_list-requires-clause-plan
write_list-requires-clause-plan c =
    let node = c.args.node.now in
    let learned = c.args.learned.now in
    let place = c.args.place in
    let set_is : slice_index_or learned.sets place [] ≡ c.as_slice-set.result.now = index_at c.as_slice.result.now learned.sets place c.index-as_slice-place.result [] c.as_slice.ensures (omega (arith, c.requires.fits.1.many_sets, ap length c.as_slice.ensures)) c.index-as_slice-place.is ∙ sym c.as_slice-set.ensures in
    let plan_is = index_at c.as_slice-2.result.now learned.plans place c.index-as_slice-place-2.result None c.as_slice-2.ensures (omega (arith, c.requires.fits.1.many_plans, ap length c.as_slice-2.ensures)) c.index-as_slice-place-2.is in
    c.as_ref-plan.ensures.value ∙ sym plan_is ∙ c.requires.fits.1.plan ∙ ap (λ s. plan_of s node) set_is ∙ ap (λ (b : Bool). if b then kind_plan c.as_slice-set.result.now node.kind else None) c.if-not-node.false

pub write_list-requires-clause-work : goal.write_list-requires-clause-work
write_list-requires-clause-work c = c.requires.work c.if-not-node.false

pub write_list-requires-clause-residues : goal.write_list-requires-clause-residues
write_list-requires-clause-residues c =
    let m = value_of c.args.m in
    let words = c.grow-out.result.0.now in
    let read = take (length words - c.args.base) (drop c.args.base words) in
    let above = drop c.args.base c.args.stack.now.words in
    let read_is : read ≡ above = take_rest words c.args.base ∙ ap (drop c.args.base) c.grow-out.ensures.below in
    All-same (λ x. x < m) _ _ read_is c.requires.residues

pub write_list-requires-clause-room : goal.write_list-requires-clause-room
write_list-requires-clause-room c =
    let node = c.args.node.now in
    let learned = c.args.learned.now in
    let place = c.args.place in
    let places = c.args.places.now in
    let words = c.grow-out.result.0.now in
    let read = take (length words - c.args.base) (drop c.args.base words) in
    let table = take (place + 1) places in
    let above = drop c.args.base c.args.stack.now.words in
    let read_is : read ≡ above = take_rest words c.args.base ∙ ap (drop c.args.base) c.grow-out.ensures.below in
    let set_is : slice_index_or learned.sets place [] ≡ c.as_slice-set.result.now = index_at c.as_slice.result.now learned.sets place c.index-as_slice-place.result [] c.as_slice.ensures (omega (arith, c.requires.fits.1.many_sets, ap length c.as_slice.ensures)) c.index-as_slice-place.is ∙ sym c.as_slice-set.ensures in
    let own = slice_index learned.lengths place in
    let has : listed_length c.requires.fits.0 (placed read table) (slice_index_or learned.sets place []) node.kind ≡ Some own =
    subst (λ (b : Bool). MatchBool b (listed_length c.requires.fits.0 (placed read table) (slice_index_or learned.sets place []) node.kind ≡ Some own) (own ≡ 0)) c.if-not-node.false (pushed_room c.requires.fits.0 (slice_index places 0) place learned node above read places table c.requires.fits.1 c.requires.places c.requires.listed read_is refl) in
    let long : length c.grow-out.result.1.now ≡ slice_index c.as_slice-3.result.now place = ap length c.grow-out.ensures.top ∙ length-replicate (slice_index c.as_slice-3.result.now place) 0 in
    (c.requires.fits.0, ap (λ s. listed_length c.requires.fits.0 (placed read table) s node.kind) (sym set_is) ∙ has ∙ ap (λ ls. Some (slice_index ls place)) (sym c.as_slice-3.ensures) ∙ ap (λ n. Some n) (sym long))

pub returns-clause-ok : goal.returns-clause-ok
returns-clause-ok c =
    let m = value_of c.args.m in
    let node = c.args.node.now in
    let learned = c.args.learned.now in
    let place = c.args.place in
    let places = c.args.places.now in
    let words = c.grow-out.result.0.now in
    let read = take (length words - c.args.base) (drop c.args.base words) in
    let table = take (place + 1) places in
    let above = drop c.args.base c.args.stack.now.words in
    let read_is : read ≡ above = take_rest words c.args.base ∙ ap (drop c.args.base) c.grow-out.ensures.below in
    let set_is : slice_index_or learned.sets place [] ≡ c.as_slice-set.result.now = index_at c.as_slice.result.now learned.sets place c.index-as_slice-place.result [] c.as_slice.ensures (omega (arith, c.requires.fits.1.many_sets, ap length c.as_slice.ensures)) c.index-as_slice-place.is ∙ sym c.as_slice-set.ensures in
    let set = slice_index_or learned.sets place [] in
    let own = slice_index c.as_slice-3.result.now place in
    let values = c.write_list.new.out in
    let long : length values ≡ own = c.write_list.auto.out ∙ ap length c.grow-out.ensures.top ∙ length-replicate own 0 in
    let gives : OnOk c.write_list.result (IsPrime m → KindGives m no_graphs set (placed above table) node.kind values) =
    subst (λ (list : Source → List ℕ). OnOk c.write_list.result (IsPrime m → KindGives m no_graphs set list node.kind values)) (pushed_same c.requires.fits.0 (slice_index places 0) place learned node above read places table c.requires.fits.1 c.requires.places c.requires.listed read_is refl)
    (subst (λ (s : List ℕ). OnOk c.write_list.result (IsPrime m → KindGives m no_graphs s (placed read table) node.kind values)) (sym set_is) c.write_list.ensures.ok) in
    added_here m set (placed above table) node (slice_index learned.lengths place) c.args.stack.now.words _ values c.write_list.result c.if-not-node.false gives c.write_list.ensures.residues
    (long ∙ ap (λ ls. slice_index ls place) c.as_slice-3.ensures) (written_whole c.args.stack.now.words values own long)

pub returns-clause-err : goal.returns-clause-err
returns-clause-err c =
    let m = value_of c.args.m in
    let node = c.args.node.now in
    let learned = c.args.learned.now in
    let place = c.args.place in
    let places = c.args.places.now in
    let words = c.grow-out.result.0.now in
    let read = take (length words - c.args.base) (drop c.args.base words) in
    let table = take (place + 1) places in
    let above = drop c.args.base c.args.stack.now.words in
    let read_is : read ≡ above = take_rest words c.args.base ∙ ap (drop c.args.base) c.grow-out.ensures.below in
    let set_is : slice_index_or learned.sets place [] ≡ c.as_slice-set.result.now = index_at c.as_slice.result.now learned.sets place c.index-as_slice-place.result [] c.as_slice.ensures (omega (arith, c.requires.fits.1.many_sets, ap length c.as_slice.ensures)) c.index-as_slice-place.is ∙ sym c.as_slice-set.ensures in
    let set = slice_index_or learned.sets place [] in
    let fails : IfErr c.write_list.result (λ cause. IsPrime m → KindFails m no_graphs set (placed above table) node.kind cause) =
    subst (λ (list : Source → List ℕ). IfErr c.write_list.result (λ cause. IsPrime m → KindFails m no_graphs set list node.kind cause)) (pushed_same c.requires.fits.0 (slice_index places 0) place learned node above read places table c.requires.fits.1 c.requires.places c.requires.listed read_is refl)
    (subst (λ (s : List ℕ). IfErr c.write_list.result (λ cause. IsPrime m → KindFails m no_graphs s (placed read table) node.kind cause)) (sym set_is) c.write_list.ensures.err) in
    failed_here m set (placed above table) node c.write_list.result c.if-not-node.false fails
