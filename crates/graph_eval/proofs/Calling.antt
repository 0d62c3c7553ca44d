-- Evaluating an earlier graph on top of lists.
use Rattle.std.proofs.Common.{◌≡◌, ℕ, ◌+◌, ◌-◌, ◌*◌, ◌<◌, ◌≤◌, List, [], ◌∷◌, ◌++◌, All, Result, Ok, Err, length, map, take, drop, sum, get_or, Some, inl, inr, refl, sym, ◌∙◌, ap, subst, append-nil, append_assoc, length-append, length-drop, arith}
use Rattle.std.specs.Prelude.{IfErr, OnOk, slice_get, slice_index_or, slice_range}
use Rattle.std.proofs.lemmas.Bool.{cases_eq}
use Rattle.std.proofs.lemmas.List.{take-append-le, drop-append-le, get_or-map}
use Rattle.std.proofs.lemmas.List.Elements.{All-append, All-get_or, All-head, All-nil, All-push, All-same, All-tail, All-weaker}
use Rattle.std.proofs.Math.Seq.{drop-cons, get_or-append_seam}
use Rattle.std.proofs.Math.ListN.{get_or-append}
use lib.Seq.{drop_at, take_at}
use Rattle.prime_field.specs.Residue.{IsPrime}
use Rattle.word_region.specs.Board.{Board}
use Rattle.basic_nodes.specs.Plain.{chained}
use Rattle.basic_nodes.proofs.Pieces.{chained-more}
use Rattle.graph_file.specs.declared.graph.Graph.{Graph}
use Rattle.graph_file.specs.declared.graph.Source.{Source}
use Rattle.graph_file.specs.declared.graph.Source.TheVariants as source
use Rattle.graph_eval.specs.declared.learned.GraphLearned.{GraphLearned}
use Rattle.graph_eval.specs.declared.outcome.Singular.{Singular}
use Rattle.graph_eval.specs.GraphValue.{GraphValue, IsStopped, SingularAt, Value}
use Rattle.graph_eval.specs.Learned.{sets_of}
use Rattle.graph_eval.specs.Needs.{greatest_extra, words_at, words_below, words_for}
use Rattle.graph_eval.specs.Reading.{IsThere, placed, start_of, stop_of}
use Rattle.graph_eval.specs.Stacked.{AreCalled, IsCalled, IsReady, IsReplaced}
use Rattle.graph_eval.proofs.Listed.{run_there}

-- lists that are there stay where they are where more words stand behind them
run_grown : (words more : List ℕ) (from to : ℕ) → from ≤ to → to ≤ length words → slice_range (words ++ more) from to ≡ slice_range words from to
run_grown words more from to order within =
    ap (take (to - from)) (drop-append-le from words more (omega arith)) ∙ take-append-le (to - from) (drop from words) more (omega (arith, length-drop from words))

pub there_grown : (words more places : List ℕ) (from : Source) → IsThere words places from → IsThere (words ++ more) places from
there_grown words more places source.Input there = let long = length-append words more in (there.0, omega (arith, there.1))
there_grown words more places (source.Node k) there = let long = length-append words more in (there.0, there.1, omega (arith, there.2))

pub placed_grown : (words more places : List ℕ) (from : Source) → IsThere words places from → placed (words ++ more) places from ≡ placed words places from
placed_grown words more places from there = let run = run_there words places from there in run_grown words more (start_of places from) (stop_of places from) run.0 run.1

pub all_grown : (words more places : List ℕ) (parts : List Source) → All (IsThere words places) parts → All (IsThere (words ++ more) places) parts
all_grown words more places parts there = All-weaker (IsThere words places) (IsThere (words ++ more) places) (λ from here. there_grown words more places from here) parts there

pub lists_grown : (words more places : List ℕ) (parts : List Source) → All (IsThere words places) parts → map (placed (words ++ more) places) parts ≡ map (placed words places) parts
lists_grown words more places [] there = refl
lists_grown words more places (part ∷ parts) there =
    ap (λ xs. xs ∷ map (placed (words ++ more) places) parts) (placed_grown words more places part (All-head (IsThere words places) part parts there))
    ∙ ap (λ ls. placed words places part ∷ ls) (lists_grown words more places parts (All-tail (IsThere words places) part parts there))

-- one part
pub one_part : {X : Type 0} (parts : List X) (k : ℕ) (d : X) → k < length parts → slice_range parts k (k + 1) ≡ get_or parts k d ∷ []
one_part parts k d below =
    ap (λ n. take n (drop k parts)) (let one : k + 1 - k ≡ 1 = omega arith in one) ∙ ap (take 1) (drop-cons parts k d below)

-- a graph's inputs are among the words that it needs
pub inputs_fit : (graphs : List Graph) (learned : List GraphLearned) (number : ℕ) (graph : Graph) (entry : GraphLearned) → slice_get graphs number ≡ Some graph → slice_get learned number ≡ Some entry → length graph.inputs ≤ words_for graphs learned number
inputs_fit graphs learned number graph entry is entry_is =
    let words : words_for graphs learned number ≡ length graph.inputs + sum entry.lengths + greatest_extra (words_below graphs learned number) learned graph.nodes =
    ap (λ o. words_at (words_below graphs learned number) learned o (slice_get learned number)) is ∙ ap (words_at (words_below graphs learned number) learned (Some graph)) entry_is in
    omega arith

-- with its inputs on top the graph is ready, and what it then gives stands behind the words below
module _ (m : ℕ) (graphs : List Graph) (learned : List GraphLearned) (called top : ℕ) (old chain : List ℕ) (middle : Board) (words_are : middle.words ≡ old ++ chain) (top_is : length old ≡ top) where
  above : drop top middle.words ≡ chain
  above = ap (drop top) words_are ∙ drop_at old chain top top_is

  pub called_ready : ((graph : Graph) → slice_get graphs called ≡ Some graph → length chain ≡ length graph.inputs) → length old + words_for graphs learned called ≤ middle.size → All (λ x. x < m) chain → IsReady m graphs learned called top middle
  called_ready many room low = record {
    inputs = λ graph is. let long = many graph is in let all = ap length words_are in let parts = length-append old chain in omega arith;
    room = omega arith;
    low = All-same (λ x. x < m) _ _ above low;
  }

  pub called_ok : (answer : Result (Unit {0}) Singular) (new : Board) → OnOk answer (IsReplaced m graphs learned called top middle new) → OnOk answer (IsCalled m graphs learned called chain old new.words)
  called_ok (Err singular) new replaced = tt
  called_ok (Ok done) new replaced = record {
    values = replaced.values;
    words = replaced.words ∙ ap (λ xs. xs ++ replaced.values) (ap (take top) words_are ∙ take_at old chain top top_is);
    value = λ prime. subst (λ (xs : List ℕ). GraphValue m graphs (sets_of learned) called xs (Value replaced.values)) above (replaced.value prime);
    low = replaced.low;
    long = replaced.long;
  }

  pub called_err : (answer : Result (Unit {0}) Singular) → IfErr answer (λ singular. IsPrime m → GraphValue m graphs (sets_of learned) called (drop top middle.words) (SingularAt singular.node singular.cause))
      → IfErr answer (λ singular. IsPrime m → GraphValue m graphs (sets_of learned) called chain (SingularAt singular.node singular.cause))
  called_err (Ok done) fails = tt
  called_err (Err singular) fails = λ prime. subst (λ (xs : List ℕ). GraphValue m graphs (sets_of learned) called xs (SingularAt singular.node singular.cause)) above (fails prime)

-- the same on one list after the other
module _ (m : ℕ) (graphs : List Graph) (learned : List GraphLearned) (called : ℕ) (ins : List (List ℕ)) (old : List ℕ) where
  pub called_none : AreCalled m graphs learned called ins 0 old old
  called_none = record {
    outs = [];
    many = refl;
    words = sym (append-nil old);
    first = λ prime. record { within = omega arith; each = λ n below. absurd (omega arith) };
    low = All-nil (All (λ x. x < m));
    long = λ entry is. omega arith;
    even = λ entry is. All-nil (λ (out : List ℕ). length out ≡ entry.output);
  }

  module _ (count : ℕ) (words chain : List ℕ) (so_far : AreCalled m graphs learned called ins count old words) (below : count < length ins) (input : slice_index_or ins count [] ≡ chain) where
    here : slice_index_or ins (length so_far.outs) [] ≡ chain
    here = ap (λ n. slice_index_or ins n []) so_far.many ∙ input

    pub called_more : (new : List ℕ) → IsCalled m graphs learned called chain words new → AreCalled m graphs learned called ins (count + 1) old new
    called_more new one =
        let outs : List (List ℕ) = so_far.outs in
        let values : List ℕ = one.values in
        record {
          outs = outs ++ values ∷ [];
          many = length-append outs (values ∷ []) ∙ ap (λ n. n + 1) so_far.many;
          words = one.words ∙ ap (λ xs. xs ++ values) so_far.words ∙ append_assoc old (chained outs) values ∙ ap (λ xs. old ++ xs) (sym (chained-more outs values));
          first = λ prime. record {
            within = omega (arith, length-append outs (values ∷ []), so_far.many);
            each = λ n within. elim (cases_eq n (length outs)) [
              | inl e ↦
                  let given : GraphValue m graphs (sets_of learned) called (slice_index_or ins (length outs) []) (Value (slice_index_or (outs ++ values ∷ []) (length outs) [])) =
                  subst (λ (xs : List ℕ). GraphValue m graphs (sets_of learned) called xs (Value (slice_index_or (outs ++ values ∷ []) (length outs) []))) (sym here)
                  (subst (λ (vs : List ℕ). GraphValue m graphs (sets_of learned) called chain (Value vs)) (sym (get_or-append_seam outs values [] [])) (one.value prime)) in
                  subst (λ (k : ℕ). GraphValue m graphs (sets_of learned) called (slice_index_or ins k []) (Value (slice_index_or (outs ++ values ∷ []) k []))) (sym e) given
              | inr ne ↦
                  let earlier : n < length outs = omega (arith, length-append outs (values ∷ [])) in
                  subst (λ (vs : List ℕ). GraphValue m graphs (sets_of learned) called (slice_index_or ins n []) (Value vs)) (sym (get_or-append outs (values ∷ []) [] n earlier)) ((so_far.first prime).each n earlier)
            ];
          };
          low = All-push (All (λ x. x < m)) outs values so_far.low one.low;
          long = λ entry is.
              let all = ap length (chained-more outs values) ∙ length-append (chained outs) values in
              let before = so_far.long entry is in
              let own = one.long entry is in
              let product : (count + 1) * entry.output ≡ count * entry.output + entry.output = grind arith in
              omega arith;
          even = λ entry is. All-push (λ (out : List ℕ). length out ≡ entry.output) outs values (so_far.even entry is) (one.long entry is);
        }

    pub called_stopped : (singular : Singular) → (IsPrime m → GraphValue m graphs (sets_of learned) called chain (SingularAt singular.node singular.cause)) → IsPrime m → IsStopped (GraphValue m graphs (sets_of learned) called) ins singular.cause
    called_stopped singular fails prime = record {
      outs = so_far.outs;
      first = so_far.first prime;
      before = omega (arith, so_far.many);
      node = singular.node;
      singular = subst (λ (xs : List ℕ). GraphValue m graphs (sets_of learned) called xs (SingularAt singular.node singular.cause)) (sym here) (fails prime);
    }

-- one part's list, where more words stand behind
module _ (base : ℕ) (old more words places : List ℕ) (parts : List Source) (k : ℕ) (within : base ≤ length old) (words_are : words ≡ old ++ more) (below : k < length parts) (there : All (IsThere (drop base old) places) parts) where
  abbrev part : Source
  part = get_or parts k source.Input

  grown : drop base words ≡ drop base old ++ more
  grown = ap (drop base) words_are ∙ drop-append-le base old more within

  part_there : IsThere (drop base old) places part
  part_there = All-get_or (IsThere (drop base old) places) parts k source.Input below there

  list_same : placed (drop base words) places part ≡ placed (drop base old) places part
  list_same = ap (λ ws. placed ws places part) grown ∙ placed_grown (drop base old) more places part part_there

  pub part_stands : All (IsThere (drop base words) places) (slice_range parts k (k + 1))
  part_stands =
      All-same (IsThere (drop base words) places) _ _ (one_part parts k source.Input below)
      (All-push (IsThere (drop base words) places) [] part (All-nil (IsThere (drop base words) places)) (subst (λ (ws : List ℕ). IsThere ws places part) (sym grown) (there_grown (drop base old) more places part part_there)))

  pub part_chain : chained (map (placed (drop base words) places) (slice_range parts k (k + 1))) ≡ placed (drop base old) places part
  part_chain = ap (λ ps. chained (map (placed (drop base words) places) ps)) (one_part parts k source.Input below) ∙ append-nil (placed (drop base words) places part) ∙ list_same

  pub part_input : slice_index_or (map (placed (drop base old) places) parts) k [] ≡ chained (map (placed (drop base words) places) (slice_range parts k (k + 1)))
  part_input = get_or-map (placed (drop base old) places) parts k source.Input [] below ∙ sym part_chain

  pub part_low : (m : ℕ) → All (λ x. x < m) (drop base old) → All (λ x. x < m) more → All (λ x. x < m) (drop base words)
  part_low m low more_low = All-same (λ x. x < m) _ _ grown (All-append (λ x. x < m) (drop base old) more low more_low)

-- all parts' lists, where more words stand behind
module _ (base : ℕ) (old more words places : List ℕ) (parts : List Source) (within : base ≤ length old) (words_are : words ≡ old ++ more) (there : All (IsThere (drop base old) places) parts) where
  above_grown : drop base words ≡ drop base old ++ more
  above_grown = ap (drop base) words_are ∙ drop-append-le base old more within

  pub parts_stand : All (IsThere (drop base words) places) parts
  parts_stand = subst (λ (ws : List ℕ). All (IsThere ws places) parts) (sym above_grown) (all_grown (drop base old) more places parts there)

  pub lists_same : map (placed (drop base words) places) parts ≡ map (placed (drop base old) places) parts
  lists_same = ap (λ ws. map (placed ws places) parts) above_grown ∙ lists_grown (drop base old) more places parts there

  pub behind_low : (m : ℕ) → All (λ x. x < m) (drop base old) → All (λ x. x < m) more → All (λ x. x < m) (drop base words)
  behind_low m low more_low = All-same (λ x. x < m) _ _ above_grown (All-append (λ x. x < m) (drop base old) more low more_low)

-- a list that stands between others, and the one behind it
module _ (old values chain words : List ℕ) (top count : ℕ) (words_are : words ≡ (old ++ values) ++ chain) (top_is : length old ≡ top) (count_is : length values ≡ count) where
  pub run_between : slice_range words top (top + count) ≡ values
  run_between =
      ap (λ n. take n (drop top words)) (let own : top + count - top ≡ count = omega arith in own)
      ∙ ap (λ ws. take count (drop top ws)) (words_are ∙ append_assoc old values chain)
      ∙ ap (take count) (drop_at old (values ++ chain) top top_is)
      ∙ take_at values chain count count_is

  pub run_behind_both : drop (top + count) words ≡ chain
  run_behind_both = ap (drop (top + count)) words_are ∙ drop_at (old ++ values) chain (top + count) (length-append old values ∙ ap (λ n. n + length values) top_is ∙ ap (λ n. top + n) count_is)

  pub front_both : take (top + count) words ≡ old ++ values
  front_both = ap (take (top + count)) words_are ∙ take_at (old ++ values) chain (top + count) (length-append old values ∙ ap (λ n. n + length values) top_is ∙ ap (λ n. top + n) count_is)
