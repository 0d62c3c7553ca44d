-- The graph is evaluated on a stack that holds the lists so far, and what it gives is taken from its top.
use Rattle.std.proofs.Common.{◌≡◌, ℕ, ◌<◌, List, ◌++◌, All, Some, length, take, drop, sym, ◌∙◌, ap, subst, length-append, arith}
use Rattle.std.specs.Prelude.{slice_index}
use Rattle.std.proofs.Math.Path.{fun_ext}
use Rattle.std.proofs.lemmas.List.{take_rest}
use Rattle.std.proofs.lemmas.List.Elements.{All-same}
use lib.Seq.{take_all}
use Rattle.prime_field.specs.Modulus.{value_of}
use Rattle.word_region.specs.Board.{Board}
use Rattle.graph_file.specs.Needed.{sources_of}
use Rattle.graph_eval.specs.declared.learned.GraphLearned.{GraphLearned}
use Rattle.graph_eval.specs.GraphValue.{NodeFails, meanings}
use Rattle.graph_eval.specs.Learned.{listed_length, sets_of, sizes_of}
use Rattle.graph_eval.specs.Needs.{extra_of, words_below, words_for}
use Rattle.graph_eval.specs.Reading.{IsThere, placed}
use Rattle.graph_eval.specs.Stacked.{IsAdded}
use Rattle.graph_eval.proofs.Adding.{added_behind}
use Rattle.graph_eval.proofs.Remembered.{no_memos}
use Rattle.graph_eval.proofs.ShapeLaws.{few_unknowns, has_window}
use Rattle.graph_eval.proofs.Wanted.{extra_bound, extra_same, outputs_low}
use Rattle.graph_eval.proofs.own.push_called.Goals as goal

pub extra_of-extra-requires-clause-few : goal.extra_of-extra-requires-clause-few
extra_of-extra-requires-clause-few c =
    few_unknowns c.requires.kind.0 c.requires.kind.1 c.args.node.now.kind c.requires.kind.2

pub extra_of-extra-requires-clause-window : goal.extra_of-extra-requires-clause-window
extra_of-extra-requires-clause-window c =
    has_window c.requires.kind.0 c.requires.kind.1 c.args.node.now.kind c.requires.kind.2

pub extra_of-extra-requires-clause-there : goal.extra_of-extra-requires-clause-there
extra_of-extra-requires-clause-there c =
    λ called at. let below = c.requires.calls called at in omega (arith, below, c.requires.many)

pub overflow_add-size : goal.overflow_add-size
overflow_add-size c =
    let bound = extra_bound (slice_index c.args.wanted.now) c.args.learned.now 1152921504606846976 (omega arith) c.requires.bound (outputs_low c.args.graphs.now c.args.learned.now c.requires.sound_graphs c.requires.fits (omega (arith, c.requires.within))) c.requires.kind.0 c.requires.kind.1 c.args.node.now.kind c.requires.kind.2 in
    omega (arith, bound, c.extra_of-extra.ensures, c.len-len.ensures, c.args.words.now.ok, c.requires.count)

pub overflow_add-size-2 : goal.overflow_add-size-2
overflow_add-size-2 c =
    let bound = extra_bound (slice_index c.args.wanted.now) c.args.learned.now 1152921504606846976 (omega arith) c.requires.bound (outputs_low c.args.graphs.now c.args.learned.now c.requires.sound_graphs c.requires.fits (omega (arith, c.requires.within))) c.requires.kind.0 c.requires.kind.1 c.args.node.now.kind c.requires.kind.2 in
    omega (arith, bound, c.extra_of-extra.ensures, c.len-len.ensures, c.args.words.now.ok, c.requires.count)

pub push-requires : goal.push-requires
push-requires c =
    let size = ap (λ (b : Board). b.size) c.in_ok-stack.ensures in
    let none = ap (λ (b : Board). length b.words) c.in_ok-stack.ensures in
    omega (arith, size, none, ap length c.as_slice.ensures.value, c.len-len.ensures)

pub push_call-requires-clause-frames : goal.push_call-requires-clause-frames
push_call-requires-clause-frames c =
    record { each = λ i frame is. cc }

pub push_call-requires-clause-memos : goal.push_call-requires-clause-memos
push_call-requires-clause-memos c =
    let graphs = c.args.graphs.now in
    let learned = c.args.learned.now in
    let node = c.args.node.now in
    let words = c.args.words.now.items in
    let places = c.args.places.now in
    let stack = c.push.new.self in
    let stands : stack.words ≡ words = ap (λ (b : Board). b.words) c.push.ensures ∙ ap (λ ws. ws ++ c.as_slice.result.now) (ap (λ (b : Board). b.words) c.in_ok-stack.ensures) ∙ c.as_slice.ensures.value in
    let all : take (length learned) learned ≡ learned = take_all (length learned) learned (omega arith) in
    no_memos graphs (sets_of learned) c.push.new.self.kept

pub push_call-requires-clause-lists : goal.push_call-requires-clause-lists
push_call-requires-clause-lists c =
    let graphs = c.args.graphs.now in
    let learned = c.args.learned.now in
    let node = c.args.node.now in
    let words = c.args.words.now.items in
    let places = c.args.places.now in
    let stack = c.push.new.self in
    let stands : stack.words ≡ words = ap (λ (b : Board). b.words) c.push.ensures ∙ ap (λ ws. ws ++ c.as_slice.result.now) (ap (λ (b : Board). b.words) c.in_ok-stack.ensures) ∙ c.as_slice.ensures.value in
    let all : take (length learned) learned ≡ learned = take_all (length learned) learned (omega arith) in
    subst (λ (ws : List ℕ). All (IsThere ws places) (sources_of node.kind)) (sym stands) c.requires.there

pub push_call-requires-clause-residues : goal.push_call-requires-clause-residues
push_call-requires-clause-residues c =
    let graphs = c.args.graphs.now in
    let learned = c.args.learned.now in
    let node = c.args.node.now in
    let words = c.args.words.now.items in
    let places = c.args.places.now in
    let stack = c.push.new.self in
    let stands : stack.words ≡ words = ap (λ (b : Board). b.words) c.push.ensures ∙ ap (λ ws. ws ++ c.as_slice.result.now) (ap (λ (b : Board). b.words) c.in_ok-stack.ensures) ∙ c.as_slice.ensures.value in
    let all : take (length learned) learned ≡ learned = take_all (length learned) learned (omega arith) in
    All-same (λ x. x < value_of c.args.m) _ _ stands c.requires.residues

pub push_call-requires-clause-room : goal.push_call-requires-clause-room
push_call-requires-clause-room c =
    let graphs = c.args.graphs.now in
    let learned = c.args.learned.now in
    let node = c.args.node.now in
    let words = c.args.words.now.items in
    let places = c.args.places.now in
    let stack = c.push.new.self in
    let stands : stack.words ≡ words = ap (λ (b : Board). b.words) c.push.ensures ∙ ap (λ ws. ws ++ c.as_slice.result.now) (ap (λ (b : Board). b.words) c.in_ok-stack.ensures) ∙ c.as_slice.ensures.value in
    let all : take (length learned) learned ≡ learned = take_all (length learned) learned (omega arith) in
    let wanted : slice_index c.args.wanted.now ≡ words_below graphs learned (length learned) = fun_ext c.requires.wanted in
    let extra : c.extra_of-extra.result ≡ extra_of (words_for graphs learned) learned node.kind = c.extra_of-extra.ensures ∙ ap (λ (w : ℕ → ℕ). extra_of w learned node.kind) wanted ∙ sym (extra_same graphs learned (length learned) node.kind c.requires.calls) in
    let size = ap (λ (b : Board). b.size) c.push.ensures ∙ ap (λ (b : Board). b.size) c.in_ok-stack.ensures in
    record {
      set = c.requires.room.0;
      own = c.args.count;
      ruled = ap (λ (ls : List GraphLearned). listed_length (sizes_of graphs ls) (placed stack.words places) c.requires.room.0 node.kind) all ∙ ap (λ ws. listed_length (sizes_of graphs learned) (placed ws places) c.requires.room.0 node.kind) stands ∙ c.requires.room.1;
      room = omega (arith, size, extra, ap length stands, c.len-len.ensures);
    }

pub slice_bounds-extend_from_slice-count : goal.slice_bounds-extend_from_slice-count
slice_bounds-extend_from_slice-count c =
    let graphs = c.args.graphs.now in
    let learned = c.args.learned.now in
    let node = c.args.node.now in
    let words = c.args.words.now.items in
    let places = c.args.places.now in
    let stack = c.push.new.self in
    let stands : stack.words ≡ words = ap (λ (b : Board). b.words) c.push.ensures ∙ ap (λ ws. ws ++ c.as_slice.result.now) (ap (λ (b : Board). b.words) c.in_ok-stack.ensures) ∙ c.as_slice.ensures.value in
    let all : take (length learned) learned ≡ learned = take_all (length learned) learned (omega arith) in
    let here : listed_length (sizes_of graphs (take (length learned) learned)) (placed stack.words places) c.requires.room.0 node.kind ≡ Some c.args.count =
    ap (λ (ls : List GraphLearned). listed_length (sizes_of graphs ls) (placed stack.words places) c.requires.room.0 node.kind) all ∙ ap (λ ws. listed_length (sizes_of graphs learned) (placed ws places) c.requires.room.0 node.kind) stands ∙ c.requires.room.1 in
    let added = c.in-Ok.ensures.ok c.requires.room.0 c.args.count here in
    omega (arith, ap length added.words, length-append stack.words added.values, ap length stands, c.len-len.ensures, c.args.words.now.ok, ap length c.words.ensures)

pub slice_bounds-extend_from_slice-start : goal.slice_bounds-extend_from_slice-start
slice_bounds-extend_from_slice-start c =
    let graphs = c.args.graphs.now in
    let learned = c.args.learned.now in
    let node = c.args.node.now in
    let words = c.args.words.now.items in
    let places = c.args.places.now in
    let stack = c.push.new.self in
    let stands : stack.words ≡ words = ap (λ (b : Board). b.words) c.push.ensures ∙ ap (λ ws. ws ++ c.as_slice.result.now) (ap (λ (b : Board). b.words) c.in_ok-stack.ensures) ∙ c.as_slice.ensures.value in
    let all : take (length learned) learned ≡ learned = take_all (length learned) learned (omega arith) in
    let here : listed_length (sizes_of graphs (take (length learned) learned)) (placed stack.words places) c.requires.room.0 node.kind ≡ Some c.args.count =
    ap (λ (ls : List GraphLearned). listed_length (sizes_of graphs ls) (placed stack.words places) c.requires.room.0 node.kind) all ∙ ap (λ ws. listed_length (sizes_of graphs learned) (placed ws places) c.requires.room.0 node.kind) stands ∙ c.requires.room.1 in
    let added = c.in-Ok.ensures.ok c.requires.room.0 c.args.count here in
    omega (arith, ap length added.words, length-append stack.words added.values, ap length stands, c.len-len.ensures, c.args.words.now.ok, ap length c.words.ensures)

pub returns-clause-ok : goal.returns-clause-ok
returns-clause-ok c =
    let graphs = c.args.graphs.now in
    let learned = c.args.learned.now in
    let node = c.args.node.now in
    let words = c.args.words.now.items in
    let places = c.args.places.now in
    let stack = c.push.new.self in
    let stands : stack.words ≡ words = ap (λ (b : Board). b.words) c.push.ensures ∙ ap (λ ws. ws ++ c.as_slice.result.now) (ap (λ (b : Board). b.words) c.in_ok-stack.ensures) ∙ c.as_slice.ensures.value in
    let all : take (length learned) learned ≡ learned = take_all (length learned) learned (omega arith) in
    let means = meanings (value_of c.args.m) graphs (sets_of learned) (length learned) in
    let new = c.push_call.new.stack.words in
    let len_is : c.len-len.result ≡ length words = omega (arith, c.len-len.ensures, c.args.words.now.ok) in
    let longer_is : c.extend_from_slice.new.self.items ≡ words ++ drop (length words) new = c.in_ok-extend_from_slice.ensures.items ∙ ap (λ xs. words ++ xs) (take_rest c.words.result.now c.len-len.result ∙ ap (drop c.len-len.result) c.words.ensures ∙ ap (λ n. drop n new) len_is) in
    λ set own ruled.
    let here : listed_length (sizes_of graphs (take (length learned) learned)) (placed stack.words places) set node.kind ≡ Some own =
    ap (λ (ls : List GraphLearned). listed_length (sizes_of graphs ls) (placed stack.words places) set node.kind) all ∙ ap (λ ws. listed_length (sizes_of graphs learned) (placed ws places) set node.kind) stands ∙ ruled in
    added_behind (value_of c.args.m) means set (placed words places) node own words new c.extend_from_slice.new.self.items longer_is
    (subst (λ (ws : List ℕ). IsAdded (value_of c.args.m) means set (placed ws places) node own ws new) stands (c.in-Ok.ensures.ok set own here))

pub returns-in-Err-clause-err : goal.returns-in-Err-clause-err
returns-in-Err-clause-err c =
    let graphs = c.args.graphs.now in
    let learned = c.args.learned.now in
    let node = c.args.node.now in
    let words = c.args.words.now.items in
    let places = c.args.places.now in
    let stack = c.push.new.self in
    let stands : stack.words ≡ words = ap (λ (b : Board). b.words) c.push.ensures ∙ ap (λ ws. ws ++ c.as_slice.result.now) (ap (λ (b : Board). b.words) c.in_ok-stack.ensures) ∙ c.as_slice.ensures.value in
    let all : take (length learned) learned ≡ learned = take_all (length learned) learned (omega arith) in
    λ prime set. subst (λ (ws : List ℕ). NodeFails (value_of c.args.m) (meanings (value_of c.args.m) graphs (sets_of learned) (length learned)) set (placed ws places) node c.in-Err.cause) stands (c.in-Err.ensures.err prime set)
