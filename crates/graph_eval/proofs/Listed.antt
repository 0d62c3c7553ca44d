-- Lists that stand in one run of words, and the places where they end.
use Rattle.std.proofs.Common.{◌≡◌, ℕ, zero, suc, ◌+◌, ◌-◌, ◌<◌, ◌≤◌, List, [], ◌∷◌, ◌++◌, All, length, map, take, drop, get_or, sum, Option, Some, None, Bool, true, false, MatchBool, if◌then◌else◌, refl, sym, ◌∙◌, ap, subst, add-one, append_assoc, length-append, arith}
use Rattle.std.specs.Prelude.{nat_le, option_and_then, slice_index, slice_index_or, slice_range}
use Rattle.std.proofs.Math.Path.{fun_ext}
use Rattle.std.proofs.Math.Seq.{drop-cons}
use Rattle.std.proofs.lemmas.List.{length-map}
use Rattle.std.proofs.lemmas.List.Sums.{sum_by-cons, sum_by-take-drop}
use lib.ListN.{get_or-map as get_or-map_default}
use lib.Seq.{take_at, drop_at}
use Rattle.basic_nodes.specs.Lengths.{length_rule}
use Rattle.basic_nodes.specs.Plain.{chained}
use Rattle.graph_file.specs.Needed.{sources_of}
use Rattle.graph_file.specs.Sound.{IsEarlier, IsKind}
use Rattle.graph_file.proofs.KindFacts.{sources_earlier}
use Rattle.graph_file.specs.declared.graph.Node.{Node}
use Rattle.graph_file.specs.declared.graph.NodeKind.{NodeKind}
use Rattle.graph_file.specs.declared.graph.Source.{Source}
use Rattle.graph_file.specs.declared.graph.Source.TheVariants as source
use Rattle.graph_eval.specs.GraphValue.{named}
use Rattle.graph_eval.specs.Learned.{HasOwnLength, joined_length, kind_length, listed_length, named_length, node_length, shape_of}
use Rattle.graph_eval.specs.Reading.{AreListed, HasPlaces, IsThere, placed, places_of, start_of, stop_of}
use Rattle.graph_eval.proofs.ShapeLaws.{All-from_get}
use Rattle.graph_eval.specs.declared.shapes.GraphSize.{GraphSize}

-- a table begins with the number of inputs, and has one place more than there are lists
pub first_place : (inputs : ℕ) (lengths : List ℕ) → slice_index (places_of inputs lengths) 0 ≡ inputs
first_place inputs [] = refl
first_place inputs (own ∷ lengths) = refl

pub length-places : (inputs : ℕ) (lengths : List ℕ) → length (places_of inputs lengths) ≡ length lengths + 1
length-places inputs [] = refl
length-places inputs (own ∷ lengths) = let rest = length-places (inputs + own) lengths in omega arith

-- the table of the first lists is the first part of the table
take-places-suc : (inputs : ℕ) (lengths : List ℕ) (k : ℕ) → k ≤ length lengths → take (suc k) (places_of inputs lengths) ≡ places_of inputs (take k lengths)
take-places-suc inputs [] zero within = refl
take-places-suc inputs [] (suc k) within = absurd (omega arith)
take-places-suc inputs (own ∷ lengths) zero within = refl
take-places-suc inputs (own ∷ lengths) (suc k) within = ap (λ places. inputs ∷ places) (take-places-suc (inputs + own) lengths k (omega arith))

pub take-places : (inputs : ℕ) (lengths : List ℕ) (k : ℕ) → k ≤ length lengths → take (k + 1) (places_of inputs lengths) ≡ places_of inputs (take k lengths)
take-places inputs lengths k within = ap (λ n. take n (places_of inputs lengths)) (add-one k) ∙ take-places-suc inputs lengths k within

-- one list more
pub places-push : (inputs : ℕ) (lengths : List ℕ) (own : ℕ) → places_of inputs (lengths ++ own ∷ []) ≡ places_of inputs lengths ++ (inputs + (sum lengths + own)) ∷ []
places-push inputs [] own = ap (λ n. inputs ∷ n ∷ []) (omega arith)
places-push inputs (first ∷ lengths) own =
    let more = sum_by-cons (λ (n : ℕ). n) first lengths in
    ap (λ places. inputs ∷ places) (places-push (inputs + first) lengths own) ∙ ap (λ n. inputs ∷ (places_of (inputs + first) lengths ++ n ∷ [])) (omega arith)

-- the lists so far and the next one are not more than all
pub sum_to : (lengths : List ℕ) (k : ℕ) → k < length lengths → sum (take k lengths) + slice_index lengths k ≤ sum lengths
sum_to lengths k below =
    let parts = sum_by-take-drop (λ (n : ℕ). n) lengths k in let next = ap sum (drop-cons lengths k 0 below) in let one = sum_by-cons (λ (n : ℕ). n) (get_or lengths k 0) (drop (suc k) lengths) in
    omega arith

-- a length that joins others is that length
joined : (lengths : List ℕ) (own n : ℕ) → joined_length lengths n ≡ Some own → Some n ≡ Some own
joined lengths own n has = when (nat_le (sum lengths + n) 2097152) has
  where
    when : (fits : Bool) → (if fits then Some n else None) ≡ Some own → Some n ≡ Some own
    when true has = has
    when false none = let never : None ≡ Some own = none in cc

-- words that are some inputs and lists behind them
module _ (words : List ℕ) where
  -- the list at a place
  at : (front : List ℕ) (lists : List (List ℕ)) (start k : ℕ) → words ≡ front ++ chained lists → length front ≡ start → slice_range words (slice_index (places_of start (map (λ list. length list) lists)) k) (slice_index (places_of start (map (λ list. length list) lists)) (suc k)) ≡ slice_index_or lists k []
  at front [] start zero are long = ap (λ n. take n (drop start words)) (let none : 0 - start ≡ 0 = omega arith in none)
  at front [] start (suc k) are long = refl
  at front (list ∷ lists) start zero are long =
      ap (λ n. take (n - start) (drop start words)) (first_place (start + length list) (map (λ xs. length xs) lists))
      ∙ ap (λ n. take n (drop start words)) (let own : start + length list - start ≡ length list = omega arith in own)
      ∙ ap (λ ws. take (length list) (drop start ws)) are
      ∙ ap (take (length list)) (drop_at front (list ++ chained lists) start long)
      ∙ take_at list (chained lists) (length list) refl
  at front (list ∷ lists) start (suc k) are long =
      at (front ++ list) lists (start + length list) k (are ∙ sym (append_assoc front list (chained lists))) (length-append front list ∙ ap (λ n. n + length list) long)

  there_at : (front : List ℕ) (lists : List (List ℕ)) (start k : ℕ) → words ≡ front ++ chained lists → length front ≡ start → k < length lists
      → (slice_index (places_of start (map (λ list. length list) lists)) k ≤ slice_index (places_of start (map (λ list. length list) lists)) (suc k)) × (slice_index (places_of start (map (λ list. length list) lists)) (suc k) ≤ length words)
  there_at front [] start k are long below = absurd (omega arith)
  there_at front (list ∷ lists) start zero are long below =
      let next = first_place (start + length list) (map (λ xs. length xs) lists) in
      let whole = ap length are in let one = length-append front (list ++ chained lists) in let two = length-append list (chained lists) in
      (omega arith, omega arith)
  there_at front (list ∷ lists) start (suc k) are long below =
      there_at (front ++ list) lists (start + length list) k (are ∙ sym (append_assoc front list (chained lists))) (length-append front list ∙ ap (λ n. n + length list) long) (omega arith)

  -- what a source names
  pub named_placed : (entries : List ℕ) (lists : List (List ℕ)) (inputs : ℕ) → words ≡ entries ++ chained lists → length entries ≡ inputs → (from : Source) → placed words (places_of inputs (map (λ list. length list) lists)) from ≡ named entries lists from
  named_placed entries lists inputs are many source.Input =
      ap (λ n. take (n - 0) words) (first_place inputs (map (λ xs. length xs) lists)) ∙ ap (λ n. take n words) (let own : inputs - 0 ≡ inputs = omega arith in own) ∙ ap (take inputs) are ∙ take_at entries (chained lists) inputs many
  named_placed entries lists inputs are many (source.Node k) =
      ap (λ n. slice_range words (slice_index (places_of inputs (map (λ list. length list) lists)) k) (slice_index (places_of inputs (map (λ list. length list) lists)) n)) (add-one k) ∙ at entries lists inputs k are many

  there_source : (entries : List ℕ) (lists : List (List ℕ)) (inputs : ℕ) → words ≡ entries ++ chained lists → length entries ≡ inputs → (from : Source) → IsEarlier (length lists) from → IsThere words (places_of inputs (map (λ list. length list) lists)) from
  there_source entries lists inputs are many source.Input earlier =
      let table = length-places inputs (map (λ xs. length xs) lists) in let first = first_place inputs (map (λ xs. length xs) lists) in let whole = ap length are in let one = length-append entries (chained lists) in
      (omega arith, omega arith)
  there_source entries lists inputs are many (source.Node k) earlier =
      let table = length-places inputs (map (λ xs. length xs) lists) in let rooms = length-map lists (λ xs. length xs) in
      let there = there_at entries lists inputs k are many earlier in
      let next = add-one k in (
        omega arith,
        subst (λ (n : ℕ). slice_index (places_of inputs (map (λ list. length list) lists)) k ≤ slice_index (places_of inputs (map (λ list. length list) lists)) n) (sym next) there.0,
        subst (λ (n : ℕ). slice_index (places_of inputs (map (λ list. length list) lists)) n ≤ length words) (sym next) there.1,
      )

  -- the same by the lengths of the lists
  module _ (inputs : ℕ) (lengths : List ℕ) (listed : AreListed inputs lengths words) where
    pub placed_named : placed words (places_of inputs lengths) ≡ named listed.entries listed.lists
    placed_named = ap (λ ls. placed words (places_of inputs ls)) (sym listed.long) ∙ fun_ext (named_placed listed.entries listed.lists inputs listed.words_are listed.many)

    pub source_there : (from : Source) → IsEarlier (length lengths) from → IsThere words (places_of inputs lengths) from
    source_there from earlier =
        let count : length lengths ≡ length listed.lists = ap length (sym listed.long) ∙ length-map listed.lists (λ xs. length xs) in
        subst (λ (ls : List ℕ). IsThere words (places_of inputs ls) from) listed.long (there_source listed.entries listed.lists inputs listed.words_are listed.many from (subst (λ (n : ℕ). IsEarlier n from) count earlier))

    -- all lists that a sound node names are there
    pub sources_there : (variables : ℕ) (kind : NodeKind) → IsKind variables (length lengths) kind → All (IsThere words (places_of inputs lengths)) (sources_of kind)
    sources_there variables kind is = All-from_get (IsThere words (places_of inputs lengths)) (sources_of kind) (λ k from here. source_there from (sources_earlier variables (length lengths) kind is k from here))

    -- the length that goes with a source is that of its list
    room_of : (from : Source) → named_length inputs lengths from ≡ length (named listed.entries listed.lists from)
    room_of source.Input = sym listed.many
    room_of (source.Node k) = ap (λ ls. slice_index ls k) (sym listed.long) ∙ get_or-map_default (λ (xs : List ℕ). length xs) listed.lists k []

    pub room_is : (from : Source) → named_length inputs lengths from ≡ length (placed words (places_of inputs lengths) from)
    room_is from = room_of from ∙ ap (λ (list : Source → List ℕ). length (list from)) (sym placed_named)

    pub rooms_are : (sizes : List GraphSize) (set : List ℕ) (kind : NodeKind) → kind_length sizes inputs lengths set kind ≡ listed_length sizes (placed words (places_of inputs lengths)) set kind
    rooms_are sizes set kind = ap (λ (room : Source → ℕ). length_rule (shape_of sizes set kind) (map room (sources_of kind))) (fun_ext room_is)

    -- a node has its own length by the rule on the lists
    pub own_length : (sizes : List GraphSize) (set : List ℕ) (node : Node) (own : ℕ) → node_length sizes inputs lengths set node ≡ Some own → HasOwnLength sizes (placed words (places_of inputs lengths)) set node own
    own_length sizes set node own has = when node.needed has
      where
        some : (o : Option ℕ) → option_and_then (joined_length lengths) o ≡ Some own → o ≡ Some own
        some None none = let never : None ≡ Some own = none in cc
        some (Some n) has = joined lengths own n has

        when : (needed : Bool) → (if needed then option_and_then (joined_length lengths) (kind_length sizes inputs lengths set node.kind) else Some 0) ≡ Some own → MatchBool needed (listed_length sizes (placed words (places_of inputs lengths)) set node.kind ≡ Some own) (own ≡ 0)
        when true has = sym (rooms_are sizes set node.kind) ∙ some (kind_length sizes inputs lengths set node.kind) has
        when false has = let same : Some 0 ≡ Some own = has in cc

-- the same with a table that is read
module _ (words table : List ℕ) (inputs : ℕ) (lengths : List ℕ) (listed : AreListed inputs lengths words) (table_is : table ≡ places_of inputs lengths) where
  pub table_sound : (kind : NodeKind) → IsKind inputs (length lengths) kind → IsKind (slice_index table 0) (length table - 1) kind
  table_sound kind sound =
      let first : slice_index table 0 ≡ inputs = ap (λ ps. slice_index ps 0) table_is ∙ first_place inputs lengths in
      let long = ap length table_is ∙ length-places inputs lengths in
      let last : length table - 1 ≡ length lengths = omega arith in
      subst (λ (n : ℕ). IsKind n (length table - 1) kind) (sym first) (subst (λ (n : ℕ). IsKind inputs n kind) (sym last) sound)

  pub table_there : (kind : NodeKind) → IsKind inputs (length lengths) kind → All (IsThere words table) (sources_of kind)
  table_there kind sound = subst (λ (ps : List ℕ). All (IsThere words ps) (sources_of kind)) (sym table_is) (sources_there words inputs lengths listed inputs kind sound)

  pub table_room : (sizes : List GraphSize) (set : List ℕ) (node : Node) (own : ℕ) → node_length sizes inputs lengths set node ≡ Some own → HasOwnLength sizes (placed words table) set node own
  table_room sizes set node own has = subst (λ (ps : List ℕ). HasOwnLength sizes (placed words ps) set node own) (sym table_is) (own_length words inputs lengths listed sizes set node own has)

-- what stands in the words has places, which are in order and within the words
pub run_placed : (words places : List ℕ) (from : Source) → IsThere words places from → HasPlaces places from
run_placed words places source.Input there = there.0
run_placed words places (source.Node k) there = there.0

pub run_there : (words places : List ℕ) (from : Source) → IsThere words places from → (start_of places from ≤ stop_of places from) × (stop_of places from ≤ length words)
run_there words places source.Input there = (omega arith, there.1)
run_there words places (source.Node k) there = (there.1, there.2)
