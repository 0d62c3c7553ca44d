-- The lists of a graph's first nodes on a stack: above what was there stand the inputs, and then the lists.
use Rattle.std.proofs.Common.{◌≡◌, ℕ, ◌+◌, ◌-◌, ◌<◌, ◌≤◌, List, [], ◌∷◌, ◌++◌, All, Result, Ok, Err, Bool, true, false, MatchBool, length, take, drop, sum, Some, refl, sym, ◌∙◌, ap, subst, append-nil, append_assoc, length-append, length-drop, arith}
use Rattle.std.specs.Prelude.{IfErr, OnOk, slice_get, slice_index, slice_index_or, slice_range}
use Rattle.std.proofs.Math.Path.{fun_ext}
use Rattle.std.proofs.lemmas.Option.{slice_get_within}
use Rattle.std.proofs.lemmas.List.Elements.{All-append, All-nil, All-same}
use lib.Seq.{drop-drop, drop_at, length-take-le, take_all, take_at}
use Rattle.prime_field.specs.Residue.{IsPrime}
use Rattle.word_region.specs.Board.{Board}
use Rattle.basic_nodes.specs.Plain.{chained}
use Rattle.basic_nodes.proofs.Pieces.{chained-more, chained_residues, length-chained}
use Rattle.graph_file.specs.Needed.{sources_of}
use Rattle.graph_file.specs.Sound.{CallsEarlier, IsEarlier, IsGraph, IsKind}
use Rattle.graph_file.specs.declared.graph.Graph.{Graph}
use Rattle.graph_file.specs.declared.graph.Node.{Node}
use Rattle.graph_file.specs.declared.graph.Source.{Source}
use Rattle.graph_file.specs.declared.graph.Source.TheVariants as source
use Rattle.graph_eval.specs.declared.learned.GraphLearned.{GraphLearned}
use Rattle.graph_eval.specs.declared.outcome.Cause.{Cause}
use Rattle.graph_eval.specs.Evaluated.{no_graphs}
use Rattle.graph_eval.specs.GraphValue.{GraphMeans, KindFails, KindGives, Meaning, meanings, NodeFails, NodeGives, SingularAt, Value, named}
use Rattle.graph_eval.specs.Learned.{FitsGraph, FitsNode, HasOwnLength, listed_length, sets_of}
use Rattle.graph_eval.specs.Needs.{greatest_extra, node_extra, words_at, words_below, words_for}
use Rattle.graph_eval.specs.Reading.{AreListed, IsThere, placed, places_of, start_of, stop_of}
use Rattle.graph_eval.specs.Stacked.{IsAdded, IsReady, IsReplaced}
use Rattle.graph_eval.proofs.EvaluationLaws.{FirstLists-none, ListsSoFar, goes_on, graph_value, stops}
use Rattle.graph_eval.proofs.Listed.{named_placed, room_is, source_there, sum_to, table_room, table_sound, table_there, take-places}
use Rattle.graph_eval.proofs.Wanted.{greatest_at, node_extra_same}
use Rattle.graph_eval.proofs.Writing.{placed_residues}
use Rattle.graph_eval.specs.declared.shapes.GraphSize.{GraphSize}

-- what was learned of a graph fits each of its nodes
pub fits_node : (sizes : List GraphSize) (graph : Graph) (learned : GraphLearned) (place : ℕ) (node : Node) → IsGraph graph → FitsGraph sizes graph learned → slice_get graph.nodes place ≡ Some node → FitsNode sizes (length graph.inputs) learned place node
fits_node sizes graph learned place node sound fits is =
    let below = slice_get_within graph.nodes place node is in
    record {
      sound = (sound.nodes place node is).kind;
      many_sets = omega (arith, fits.many);
      many_plans = omega (arith, fits.plans.many);
      many_lengths = omega (arith, fits.all);
      set = fits.sets place node is;
      plan = fits.plans.each place node is;
      long = fits.first.each place node (omega (arith, fits.all)) is;
    }

-- the node at this place reads the words above a place, and the first part of the table
module _ (sizes : List GraphSize) (variables place : ℕ) (learned : GraphLearned) (node : Node) (above read places table : List ℕ) (fits : FitsNode sizes variables learned place node) (places_are : places ≡ places_of variables learned.lengths) (listed : AreListed variables (take place learned.lengths) above) (read_is : read ≡ above) (table_is : table ≡ take (place + 1) places) where
  here : length (take place learned.lengths) ≡ place
  here = let within = fits.many_lengths in length-take-le place learned.lengths (omega arith)

  cut : table ≡ places_of variables (take place learned.lengths)
  cut = let within = fits.many_lengths in table_is ∙ ap (take (place + 1)) places_are ∙ take-places variables learned.lengths place (omega arith)

  listed_read : AreListed variables (take place learned.lengths) read
  listed_read = subst (AreListed variables (take place learned.lengths)) (sym read_is) listed

  sound_here : IsKind variables (length (take place learned.lengths)) node.kind
  sound_here = subst (λ (n : ℕ). IsKind variables n node.kind) (sym here) fits.sound

  pub pushed_sound : IsKind (slice_index table 0) (length table - 1) node.kind
  pushed_sound = table_sound read table variables (take place learned.lengths) listed_read cut node.kind sound_here

  pub pushed_there : All (IsThere read table) (sources_of node.kind)
  pushed_there = table_there read table variables (take place learned.lengths) listed_read cut node.kind sound_here

  pub pushed_room : HasOwnLength sizes (placed read table) (slice_index_or learned.sets place []) node (slice_index learned.lengths place)
  pushed_room = table_room read table variables (take place learned.lengths) listed_read cut sizes (slice_index_or learned.sets place []) node (slice_index learned.lengths place) fits.long

  pub pushed_same : placed read table ≡ placed above (take (place + 1) places)
  pushed_same = ap (λ ws. placed ws table) read_is ∙ ap (placed above) table_is

-- what a needed node gave stands behind the words, and a node that isn't needed leaves them
pub added_here : (m : ℕ) (set : List ℕ) (list : Source → List ℕ) (node : Node) (own : ℕ) (old new values : List ℕ) (answer : Result (Unit {0}) Cause) → node.needed ≡ true → OnOk answer (IsPrime m → KindGives m no_graphs set list node.kind values) → OnOk answer (All (λ x. x < m) values) → length values ≡ own → new ≡ old ++ values
    → OnOk answer (IsAdded m no_graphs set list node own old new)
added_here m set list node own old new values (Err cause) needed gives low long are = tt
added_here m set list node own old new values (Ok done) needed gives low long are = record {
  values = values;
  words = are;
  gives = λ prime. subst (λ (b : Bool). MatchBool b (KindGives m no_graphs set list node.kind values) (values ≡ [])) (sym needed) (gives prime);
  low = low;
  long = long;
}

pub added_none : (m : ℕ) (called : ℕ → Meaning) (sizes : List GraphSize) (set : List ℕ) (list : Source → List ℕ) (node : Node) (own : ℕ) (words : List ℕ) → node.needed ≡ false → HasOwnLength sizes list set node own → IsAdded m called set list node own words words
added_none m called sizes set list node own words left_out has = record {
  values = [];
  words = sym (append-nil words);
  gives = λ prime. subst (λ (b : Bool). MatchBool b (KindGives m called set list node.kind []) (◌≡◌ {A = List ℕ} [] [])) (sym left_out) refl;
  low = All-nil (λ x. x < m);
  long = sym (subst (λ (b : Bool). MatchBool b (listed_length sizes list set node.kind ≡ Some own) (own ≡ 0)) left_out has);
}

pub failed_here : (m : ℕ) (set : List ℕ) (list : Source → List ℕ) (node : Node) (answer : Result (Unit {0}) Cause) → node.needed ≡ true → IfErr answer (λ cause. IsPrime m → KindFails m no_graphs set list node.kind cause) → IfErr answer (λ cause. IsPrime m → NodeFails m no_graphs set list node cause)
failed_here m set list node (Ok done) needed fails = tt
failed_here m set list node (Err cause) needed fails = λ prime. (needed, fails prime)

-- the first part of the table has the places of the lists so far
pub cut_places : {sizes : List GraphSize} (variables place : ℕ) (learned : GraphLearned) (places : List ℕ) {node : Node} → places ≡ places_of variables learned.lengths → FitsNode sizes variables learned place node → take (place + 1) places ≡ places_of variables (take place learned.lengths)
cut_places variables place learned places places_are fits = let within = fits.many_lengths in ap (take (place + 1)) places_are ∙ take-places variables learned.lengths place (omega arith)

-- the lists of the first so many nodes stand above the inputs, and these above the words below
pub record ListsStand (m : ℕ) (called : ℕ → Meaning) (graph : Graph) (learned : GraphLearned) (below inputs words : List ℕ) (count : ℕ) : Type 0 where
  pub lists : List (List ℕ)
  pub so_far : ListsSoFar m called graph.nodes inputs learned.sets learned.lengths lists count
  pub words_are : words ≡ below ++ (inputs ++ chained lists)

pub stands_none : (m : ℕ) (called : ℕ → Meaning) (graph : Graph) (learned : GraphLearned) (below inputs words : List ℕ) → words ≡ below ++ inputs → ListsStand m called graph learned below inputs words 0
stands_none m called graph learned below inputs words are = record {
  lists = [];
  so_far = record {
    first = λ prime. FirstLists-none m called learned.sets graph.nodes inputs;
    many = refl;
    residues = All-nil (λ list. All (λ x. x < m) list);
    rooms = refl;
  };
  words_are = are ∙ ap (λ xs. below ++ xs) (sym (append-nil inputs));
}

-- the run from a place behind some words
pub run_behind : (words : List ℕ) (base start stop : ℕ) → slice_range words (base + start) (base + stop) ≡ slice_range (drop base words) start stop
run_behind words base start stop =
    ap (λ n. take n (drop (base + start) words)) (omega arith) ∙ ap (take (stop - start)) (sym (drop-drop start base words))

module _ (m : ℕ) (called : ℕ → Meaning) (graph : Graph) (learned : GraphLearned) (below inputs words : List ℕ) (count base variables : ℕ) (stands : ListsStand m called graph learned below inputs words count) (base_is : length below ≡ base) (many : length inputs ≡ variables) where
  pub stands_above : drop base words ≡ inputs ++ chained stands.lists
  stands_above = ap (drop base) stands.words_are ∙ drop_at below (inputs ++ chained stands.lists) base base_is

  pub stands_below : take base words ≡ below
  stands_below = ap (take base) stands.words_are ∙ take_at below (inputs ++ chained stands.lists) base base_is

  pub stands_listed : AreListed variables (take count learned.lengths) (drop base words)
  stands_listed = record { entries = inputs; lists = stands.lists; many = many; long = stands.so_far.rooms; words_are = stands_above }

  pub stands_named : placed (drop base words) (places_of variables (take count learned.lengths)) ≡ named inputs stands.lists
  stands_named = ap (λ ls. placed (drop base words) (places_of variables ls)) (sym stands.so_far.rooms) ∙ fun_ext (named_placed (drop base words) inputs stands.lists variables stands_above many)

  pub stands_low : All (λ x. x < m) inputs → All (λ x. x < m) (drop base words)
  stands_low low = All-same (λ x. x < m) _ _ stands_above (All-append (λ x. x < m) inputs (chained stands.lists) low (chained_residues m stands.lists stands.so_far.residues))

  pub stands_end : length words ≡ base + (variables + sum (take count learned.lengths))
  stands_end =
      let all = ap length stands.words_are in let one = length-append below (inputs ++ chained stands.lists) in let two = length-append inputs (chained stands.lists) in
      let three = length-chained stands.lists ∙ ap sum stands.so_far.rooms in
      omega arith

  pub stands_stop : (node : Node) (cause : Cause) → slice_get graph.nodes count ≡ Some node
      → (IsPrime m → NodeFails m called (slice_index_or learned.sets count []) (placed (drop base words) (places_of variables (take count learned.lengths))) node cause) → IsPrime m → GraphMeans m called learned.sets graph inputs (SingularAt count cause)
  stands_stop node cause is fails =
      let set : List ℕ = slice_index_or learned.sets count [] in
      stops m called graph inputs learned.sets learned.lengths stands.lists count set node cause stands.so_far is refl
      (λ prime. subst (λ (list : Source → List ℕ). NodeFails m called set list node cause) stands_named (fails prime))

  pub stands_more : (node : Node) (new : List ℕ) → slice_get graph.nodes count ≡ Some node → count < length learned.lengths
      → IsAdded m called (slice_index_or learned.sets count []) (placed (drop base words) (places_of variables (take count learned.lengths))) node (slice_index learned.lengths count) words new → ListsStand m called graph learned below inputs new (count + 1)
  stands_more node new is room added =
      let set : List ℕ = slice_index_or learned.sets count [] in
      let values : List ℕ = added.values in
      record {
        lists = stands.lists ++ values ∷ [];
        so_far = goes_on m called graph.nodes inputs learned.sets learned.lengths stands.lists (stands.lists ++ values ∷ []) count (slice_index learned.lengths count) set node values stands.so_far is refl
            (λ prime. subst (λ (list : Source → List ℕ). NodeGives m called set list node values) stands_named (added.gives prime))
            added.low added.long room refl refl;
        words_are = added.words ∙ ap (λ xs. xs ++ values) stands.words_are ∙ append_assoc below (inputs ++ chained stands.lists) values
            ∙ ap (λ xs. below ++ xs) (append_assoc inputs (chained stands.lists) values ∙ ap (λ xs. inputs ++ xs) (sym (chained-more stands.lists values)));
      }

  pub stands_value : (values : List ℕ) → count ≡ length graph.nodes → length learned.lengths ≡ length graph.nodes → values ≡ placed (drop base words) (places_of variables learned.lengths) graph.output → IsPrime m → GraphMeans m called learned.sets graph inputs (Value values)
  stands_value values all long is prime =
      let whole : take count learned.lengths ≡ learned.lengths = take_all count learned.lengths (omega arith) in
      record {
        lists = stands.lists;
        first = stands.so_far.first prime;
        all = stands.so_far.many ∙ all;
        output = is ∙ ap (λ ls. placed (drop base words) (places_of variables ls) graph.output) (sym whole) ∙ ap (λ (list : Source → List ℕ). list graph.output) stands_named;
      }

-- the output of a graph is there
pub output_earlier : (graph : Graph) (count : ℕ) → IsGraph graph → count ≡ length graph.nodes → IsEarlier count graph.output
output_earlier graph count sound all = at graph.output refl
  where
    at : (from : Source) → graph.output ≡ from → IsEarlier count from
    at source.Input is = tt
    at (source.Node k) is = omega (arith, sound.output k is)

-- with every list, the output stands among the words
module _ (sizes : List GraphSize) (graph : Graph) (learned : GraphLearned) (words places : List ℕ) (sound : IsGraph graph) (fits : FitsGraph sizes graph learned) (listed : AreListed (length graph.inputs) learned.lengths words) (places_are : places ≡ places_of (length graph.inputs) learned.lengths) where
  pub output_there : IsThere words places graph.output
  output_there = subst (λ (ps : List ℕ). IsThere words ps graph.output) (sym places_are) (source_there words (length graph.inputs) learned.lengths listed graph.output (output_earlier graph (length learned.lengths) sound fits.all))

  pub output_long : length (placed words places graph.output) ≡ learned.output
  output_long = ap (λ ps. length (placed words ps graph.output)) places_are ∙ sym (room_is words (length graph.inputs) learned.lengths listed graph.output) ∙ sym fits.output

-- a graph whose inputs are on top
module _ (m : ℕ) (graphs : List Graph) (learned : List GraphLearned) (number base : ℕ) (graph : Graph) (entry : GraphLearned) (old : Board) (is : slice_get graphs number ≡ Some graph) (entry_is : slice_get learned number ≡ Some entry) (ready : IsReady m graphs learned number base old) where
  pub ready_below : length (take base old.words) ≡ base
  ready_below = let long = ready.inputs graph is in length-take-le base old.words (omega arith)

  pub ready_inputs : length (drop base old.words) ≡ length graph.inputs
  ready_inputs = let long = ready.inputs graph is in let rest = length-drop base old.words in omega arith

  pub ready_room : base + (length graph.inputs + sum entry.lengths + greatest_extra (words_below graphs learned number) learned graph.nodes) ≤ old.size
  ready_room =
      let words : words_for graphs learned number ≡ length graph.inputs + sum entry.lengths + greatest_extra (words_below graphs learned number) learned graph.nodes =
      ap (λ o. words_at (words_below graphs learned number) learned o (slice_get learned number)) is ∙ ap (words_at (words_below graphs learned number) learned (Some graph)) entry_is in
      let room = ready.room in
      omega arith

  module _ (sizes : List GraphSize) (last : Board) (places : List ℕ) (count : ℕ) (sound : IsGraph graph) (fits : FitsGraph sizes graph entry) (places_are : places ≡ places_of (length graph.inputs) entry.lengths)
      (stands : ListsStand m (meanings m graphs (sets_of learned) number) graph entry (take base old.words) (drop base old.words) last.words count) where
    -- the next node has room
    pub node_room : (node : Node) → slice_get graph.nodes count ≡ Some node → CallsEarlier number graph → last.size ≡ old.size → length last.words + slice_index entry.lengths count + node_extra (words_for graphs learned) learned node ≤ last.size
    node_room node node_is earlier same =
        let extra = node_extra_same graphs learned number node (λ other at. earlier count node other node_is at) in
        let most = greatest_at (words_below graphs learned number) learned graph.nodes count node node_is in
        let below = slice_get_within graph.nodes count node node_is in
        let end = stands_end m (meanings m graphs (sets_of learned) number) graph entry (take base old.words) (drop base old.words) last.words count base (length graph.inputs) stands ready_below ready_inputs in
        let sums = sum_to entry.lengths count (omega (arith, fits.all)) in
        let room = ready_room in
        omega arith

    module _ (all : count ≡ length graph.nodes) where
      listed_all : AreListed (length graph.inputs) entry.lengths (drop base last.words)
      listed_all =
          subst (λ (ls : List ℕ). AreListed (length graph.inputs) ls (drop base last.words)) (take_all count entry.lengths (omega (arith, fits.all)))
          (stands_listed m (meanings m graphs (sets_of learned) number) graph entry (take base old.words) (drop base old.words) last.words count base (length graph.inputs) stands ready_below ready_inputs)

      -- the output is there
      pub output_stands : IsThere (drop base last.words) places graph.output
      output_stands = output_there sizes graph entry (drop base last.words) places sound fits listed_all places_are

      -- and moved down it replaces the inputs
      pub replaced : (new : Board) (start stop : ℕ) → start ≡ start_of places graph.output → stop ≡ stop_of places graph.output → new.words ≡ take base last.words ++ slice_range last.words (base + start) (base + stop) → IsReplaced m graphs learned number base old new
      replaced new start stop start_is stop_is words_are =
          let called = meanings m graphs (sets_of learned) number in
          let above : List ℕ = drop base last.words in
          let values : List ℕ = slice_range last.words (base + start) (base + stop) in
          let values_are : values ≡ placed above places graph.output = run_behind last.words base start stop ∙ ap (λ n. slice_range above n stop) start_is ∙ ap (slice_range above (start_of places graph.output)) stop_is in
          let low = stands_low m called graph entry (take base old.words) (drop base old.words) last.words count base (length graph.inputs) stands ready_below ready_inputs ready.low in
          record {
            values = values;
            words = words_are ∙ ap (λ xs. xs ++ values) (stands_below m called graph entry (take base old.words) (drop base old.words) last.words count base (length graph.inputs) stands ready_below ready_inputs);
            value = λ prime. graph_value m graphs learned number graph entry (drop base old.words) (Value values) is entry_is
                (stands_value m called graph entry (take base old.words) (drop base old.words) last.words count base (length graph.inputs) stands ready_below ready_inputs values all fits.all
                (values_are ∙ ap (λ ps. placed above ps graph.output) places_are) prime);
            low = All-same (λ x. x < m) _ _ values_are (placed_residues m above places graph.output low);
            long = λ other other_is.
                let both : Some entry ≡ Some other = sym entry_is ∙ other_is in
                let same : entry ≡ other = cc in
                ap length values_are ∙ output_long sizes graph entry above places sound fits listed_all places_are ∙ ap (λ (e : GraphLearned). e.output) same;
          }
