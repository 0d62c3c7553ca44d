-- The length of the list says what each kind asks of the lists that it names.
use Rattle.std.proofs.Common.{ℕ, ◌-◌, ◌<◌, ◌≤◌, List, [], ◌∷◌, All, length, map, sym, ◌∙◌, ap, subst, arith}
use Rattle.std.specs.Prelude.{slice_index}
use Rattle.std.proofs.lemmas.List.Elements.{All-same}
use Rattle.prime_field.specs.Modulus.{value_of}
use Rattle.prime_field.proofs.Moduli.{value_of-large}
use Rattle.elim_core.specs.Solver.{AreUnknowns}
use Rattle.ratfun_text.specs.Value.{greatest}
use Rattle.basic_nodes.specs.Plain.{chained}
use Rattle.basic_nodes.proofs.Pieces.{chained_residues, taken_residues}
use Rattle.graph_file.specs.Needed.{sources_of}
use Rattle.graph_file.specs.Sound.{IsKind}
use Rattle.graph_file.specs.declared.graph.NodeKind.{NodeKind}
use Rattle.graph_file.proofs.KindFacts.{sound-dense}
use Rattle.graph_eval.specs.Learned.{listed_length}
use Rattle.graph_eval.specs.Reading.{HasLength, IsEntry, IsThere, placed}
use Rattle.graph_eval.proofs.Room.{chain_room, eval_enough, eval_fails, eval_gives, first_there, product_same, second_there, sum_same, take_entries}
use Rattle.graph_eval.proofs.Writing.{placed_residues, parts_residues}
use Rattle.graph_eval.proofs.plain.write_list.Goals as goal

pub placed-arguments-requires : goal.placed-arguments-requires
placed-arguments-requires c = first_there c.args.words.now c.args.places.now c.args.kind.now c.in-Eval.from [] (ap sources_of c.in-Eval.is) c.requires.there

pub write_values-requires-clause-enough : goal.write_values-requires-clause-enough
write_values-requires-clause-enough c =
    let has = ap (listed_length c.requires.room.0 (placed c.args.words.now c.args.places.now) c.args.set.now) (sym c.in-Eval.is) ∙ c.requires.room.1 in
    let enough = eval_enough c.requires.room.0 c.args.words.now c.args.places.now c.args.set.now c.in-Eval.from c.in-Eval.exprs (length c.args.out.now) has in
    subst (λ (xs : List ℕ). All (λ expr. greatest expr ≤ length xs) c.as_slice.result.now) (sym c.placed-arguments.ensures)
    (All-same (λ expr. greatest expr ≤ length (placed c.args.words.now c.args.places.now c.in-Eval.from)) _ _ c.as_slice.ensures enough)

pub returns-in-Eval-clause-ok : goal.returns-in-Eval-clause-ok
returns-in-Eval-clause-ok c =
    eval_gives (value_of c.args.m) c.args.set.now (placed c.args.words.now c.args.places.now) c.args.kind.now c.in-Eval.from c.in-Eval.exprs c.as_slice.result.now c.placed-arguments.result.now c.write_values.new.out c.write_values.result
    c.in-Eval.is c.placed-arguments.ensures c.as_slice.ensures c.write_values.ensures.ok

pub returns-in-Eval-clause-err : goal.returns-in-Eval-clause-err
returns-in-Eval-clause-err c =
    eval_fails (value_of c.args.m) c.args.set.now (placed c.args.words.now c.args.places.now) c.args.kind.now c.in-Eval.from c.in-Eval.exprs c.as_slice.result.now c.placed-arguments.result.now c.write_values.result
    c.in-Eval.is c.placed-arguments.ensures c.as_slice.ensures c.write_values.ensures.err

pub write_taken-requires-clause-entries : goal.write_taken-requires-clause-entries
write_taken-requires-clause-entries c =
    let has = ap (listed_length c.requires.room.0 (placed c.args.words.now c.args.places.now) c.args.set.now) (sym c.in-Take.is) ∙ c.requires.room.1 in
    All-same (IsEntry c.args.words.now c.args.places.now) _ _ c.as_slice-in-Take.ensures
    (take_entries c.requires.room.0 c.args.words.now c.args.places.now c.args.set.now c.in-Take.parts (length c.args.out.now) has (slice_index c.args.places.now 0) (length c.args.places.now - 1) (subst (IsKind (slice_index c.args.places.now 0) (length c.args.places.now - 1)) c.in-Take.is c.requires.sound) (subst (λ (kind : NodeKind). All (IsThere c.args.words.now c.args.places.now) (sources_of kind)) c.in-Take.is c.requires.there))

pub write_chained-requires-clause-there : goal.write_chained-requires-clause-there
write_chained-requires-clause-there c =
    All-same (IsThere c.args.words.now c.args.places.now) _ _ (c.as_slice-in-Chain.ensures ∙ ap sources_of (sym c.in-Chain.is)) c.requires.there

pub write_chained-requires-clause-room : goal.write_chained-requires-clause-room
write_chained-requires-clause-room c =
    let has = ap (listed_length c.requires.room.0 (placed c.args.words.now c.args.places.now) c.args.set.now) (sym c.in-Chain.is) ∙ c.requires.room.1 in
    chain_room c.requires.room.0 c.args.words.now c.args.places.now c.args.set.now c.in-Chain.parts (length c.args.out.now) has
    ∙ ap (λ parts. length (chained (map (placed c.args.words.now c.args.places.now) parts))) (sym c.as_slice-in-Chain.ensures)

pub write_sum-requires-clause-there : goal.write_sum-requires-clause-there
write_sum-requires-clause-there c =
    All-same (IsThere c.args.words.now c.args.places.now) _ _ (c.as_slice-in-Sum.ensures ∙ ap sources_of (sym c.in-Sum.is)) c.requires.there

pub write_sum-requires-clause-same : goal.write_sum-requires-clause-same
write_sum-requires-clause-same c =
    let has = ap (listed_length c.requires.room.0 (placed c.args.words.now c.args.places.now) c.args.set.now) (sym c.in-Sum.is) ∙ c.requires.room.1 in
    All-same (HasLength c.args.words.now c.args.places.now (length c.args.out.now)) _ _ c.as_slice-in-Sum.ensures (sum_same c.requires.room.0 c.args.words.now c.args.places.now c.args.set.now c.in-Sum.parts (length c.args.out.now) has)

pub write_product-requires-clause-there : goal.write_product-requires-clause-there
write_product-requires-clause-there c =
    All-same (IsThere c.args.words.now c.args.places.now) _ _ (c.as_slice-in-Product.ensures ∙ ap sources_of (sym c.in-Product.is)) c.requires.there

pub write_product-requires-clause-same : goal.write_product-requires-clause-same
write_product-requires-clause-same c =
    let has = ap (listed_length c.requires.room.0 (placed c.args.words.now c.args.places.now) c.args.set.now) (sym c.in-Product.is) ∙ c.requires.room.1 in
    All-same (HasLength c.args.words.now c.args.places.now (length c.args.out.now)) _ _ c.as_slice-in-Product.ensures (product_same c.requires.room.0 c.args.words.now c.args.places.now c.args.set.now c.in-Product.parts (length c.args.out.now) has)

pub placed-list-requires : goal.placed-list-requires
placed-list-requires c = first_there c.args.words.now c.args.places.now c.args.kind.now c.in-Dense.from [] (ap sources_of c.in-Dense.is) c.requires.there

pub write_solved-requires-clause-few : goal.write_solved-requires-clause-few
write_solved-requires-clause-few c =
    omega (arith, (sound-dense (slice_index c.args.places.now 0) (length c.args.places.now - 1) c.args.kind.now c.requires.sound c.in-Dense.from c.in-Dense.rows c.in-Dense.unknowns c.in-Dense.want c.in-Dense.is).unknowns_high)

pub write_solved-requires-clause-want : goal.write_solved-requires-clause-want
write_solved-requires-clause-want c =
    subst (AreUnknowns c.in-Dense.unknowns) (sym c.as_slice-in-Dense.ensures) (sound-dense (slice_index c.args.places.now 0) (length c.args.places.now - 1) c.args.kind.now c.requires.sound c.in-Dense.from c.in-Dense.rows c.in-Dense.unknowns c.in-Dense.want c.in-Dense.is).wanted

pub placed-requires-in-Matmul : goal.placed-requires-in-Matmul
placed-requires-in-Matmul c = first_there c.args.words.now c.args.places.now c.args.kind.now c.in-Matmul.left (c.in-Matmul.right ∷ []) (ap sources_of c.in-Matmul.is) c.requires.there

pub placed-requires-in-Matmul-2 : goal.placed-requires-in-Matmul-2
placed-requires-in-Matmul-2 c = second_there c.args.words.now c.args.places.now c.args.kind.now c.in-Matmul.left c.in-Matmul.right (ap sources_of c.in-Matmul.is) c.requires.there

pub matmul-requires-clause-right_residues : goal.matmul-requires-clause-right_residues
matmul-requires-clause-right_residues c =
    All-same (λ x. x < value_of c.args.m) _ _ c.placed-in-Matmul-2.ensures (placed_residues (value_of c.args.m) c.args.words.now c.args.places.now c.in-Matmul.right c.requires.residues)

pub returns-in-Take-clause-residues : goal.returns-in-Take-clause-residues
returns-in-Take-clause-residues c =
    let m = value_of c.args.m in
    let parts = c.as_slice-in-Take.result.now in
    All-same (λ x. x < m) _ _ c.write_taken.ensures
    (taken_residues m (map (λ part. placed c.args.words.now c.args.places.now part.0) parts) (map (λ part. part.1) parts) (omega (arith, value_of-large c.args.m))
    (parts_residues m c.args.words.now c.args.places.now (λ part. part.0) parts c.requires.residues))

pub returns-in-Chain-clause-residues : goal.returns-in-Chain-clause-residues
returns-in-Chain-clause-residues c =
    let m = value_of c.args.m in
    let parts = c.as_slice-in-Chain.result.now in
    All-same (λ x. x < m) _ _ c.write_chained.ensures
    (chained_residues m (map (placed c.args.words.now c.args.places.now) parts) (parts_residues m c.args.words.now c.args.places.now (λ part. part) parts c.requires.residues))
