-- The expansions of an earlier graph's outputs, from what it gives at the points.
use Rattle.std.proofs.Common.{◌≡◌, ℕ, ◌+◌, ◌*◌, ◌<◌, ◌≤◌, List, [], ◌∷◌, ◌++◌, All, Result, Ok, Err, length, map, take, drop, get_or, Some, inl, inr, refl, sym, ◌∙◌, ap, subst, arith, length-append}
use Rattle.std.specs.Prelude.{IfErr, OnOk, slice_get, slice_index_or, ◌^◌}
use Rattle.std.proofs.lemmas.List.{get_or-map, length-map}
use Rattle.std.proofs.lemmas.List.Elements.{All-get_or, All-same}
use lib.Seq.{drop_at, take_at}
use Rattle.prime_field.specs.Residue.{IsPrime}
use Rattle.basic_nodes.specs.Plain.{chained}
use Rattle.basic_nodes.proofs.Pieces.{chained_residues}
use Rattle.graph_file.specs.declared.graph.Graph.{Graph}
use Rattle.graph_eval.specs.declared.expansion.Window.{Window}
use Rattle.graph_eval.specs.declared.learned.GraphLearned.{GraphLearned}
use Rattle.graph_eval.specs.declared.outcome.Cause.{Cause}
use Rattle.graph_eval.specs.Expanded.{AreExpansionsAdded, AreNotExpanded, FailsToExpand, IsExpandedFrom, column, expansion_inputs, orders_of, points_of, strided, width_of}
use Rattle.graph_eval.specs.GraphValue.{GraphValue, IsNotExpanded}
use Rattle.graph_eval.specs.Learned.{sets_of}
use Rattle.graph_eval.specs.Stacked.{AreCalled, IsExpandedCall}
use Rattle.graph_eval.proofs.Columns.{length-run, run_at, some_inputs, strided_chained}

-- the room that is left behind the values at the points
pub room_left : (now old values own wanted size after : ℕ) → now ≡ old + values → old + own + (wanted + values) ≤ size → after ≡ size → now + own ≤ after
room_left now old values own wanted size after now_is room same = omega arith

-- the room that a node has
pub call_room : (used own list extra wanted work product values size : ℕ) → own ≡ list → extra ≡ wanted + (product + work) → product ≡ values → used + own + extra ≤ size → used + list + (wanted + values) ≤ size
call_room used own list extra wanted work product values size own_is extra_is product_is room = omega arith

-- a graph's inputs at a point
pub input_at : (window : Window) (rest : List ℕ) (k : ℕ) → k < window.num + window.den + 3 → slice_index_or (expansion_inputs window rest) k [] ≡ (2 ^ 40 + 1 + k) ∷ rest
input_at window rest k below =
    get_or-map (λ (point : ℕ). point ∷ rest) (points_of window) k 0 [] (omega (arith, length-run (2 ^ 40 + 1) (window.num + window.den + 3)))
    ∙ ap (λ point. point ∷ rest) (run_at (2 ^ 40 + 1) (window.num + window.den + 3) k below)

pub many_inputs : (window : Window) (rest : List ℕ) → length (expansion_inputs window rest) ≡ window.num + window.den + 3
many_inputs window rest = length-map (points_of window) (λ point. point ∷ rest) ∙ length-run (2 ^ 40 + 1) (window.num + window.den + 3)

module _ (m : ℕ) (graphs : List Graph) (learned : List GraphLearned) (called : ℕ) (window : Window) (rest old words : List ℕ) (top count : ℕ) (entry : GraphLearned) (entry_is : slice_get learned called ≡ Some entry) (top_is : length old ≡ top)
    (count_is : count ≡ window.num + window.den + 3) (given : AreCalled m graphs learned called (expansion_inputs window rest) count old words) where
  points_are : length (points_of window) ≡ count
  points_are = length-run (2 ^ 40 + 1) (window.num + window.den + 3) ∙ sym count_is

  above : drop top words ≡ chained given.outs
  above = ap (drop top) given.words ∙ drop_at old (chained given.outs) top top_is

  front : take top words ≡ old
  front = ap (take top) given.words ∙ take_at old (chained given.outs) top top_is

  all_points : length given.outs ≡ length (expansion_inputs window rest)
  all_points = given.many ∙ count_is ∙ sym (many_inputs window rest)

  columns : (k : ℕ) → k < entry.output → strided (drop top words) entry.output k (length (points_of window)) ≡ column k given.outs
  columns k below =
      ap (λ ws. strided ws entry.output k (length (points_of window))) above
      ∙ ap (λ n. strided (chained given.outs) entry.output k n) (points_are ∙ sym given.many)
      ∙ strided_chained given.outs entry.output k below (given.even entry entry_is)

  width : width_of given.outs ≡ entry.output
  width = All-get_or (λ (out : List ℕ). length out ≡ entry.output) given.outs 0 [] (omega (arith, all_points, some_inputs window rest)) (given.even entry entry_is)

  pub expansions_words : length words ≡ top + length (points_of window) * entry.output
  expansions_words =
      let long = given.long entry entry_is in
      let all = ap length given.words ∙ length-append old (chained given.outs) in
      all ∙ ap (λ n. n + length (chained given.outs)) top_is ∙ ap (λ n. top + n) long ∙ ap (λ n. top + n * entry.output) (sym points_are)

  pub expansions_low : All (λ x. x < m) (drop top words)
  expansions_low = All-same (λ x. x < m) _ _ above (chained_residues m given.outs given.low)

  pub expansions_ok : (answer : Result (Unit {0}) Cause) (new : List ℕ) → OnOk answer (AreExpansionsAdded m window (drop top words) entry.output entry.output (take top words) new) → OnOk answer (IsExpandedCall m graphs learned called window rest old new)
  expansions_ok (Err cause) new added = tt
  expansions_ok (Ok done) new added = record {
    values = chained added.lists;
    words = added.words ∙ ap (λ ws. ws ++ chained added.lists) front;
    value = λ prime. record {
      outs = given.outs;
      first = given.first prime;
      all = all_points;
      lists = added.lists;
      many = added.many ∙ sym width;
      each = λ k below. subst (λ (values : List ℕ). IsExpandedFrom m window values (slice_index_or added.lists k [])) (columns k (omega (arith, added.many))) (added.each prime k below);
      values_are = refl;
    };
    low = chained_residues m added.lists added.low;
    long = λ other other_is. let both : Some entry ≡ Some other = sym entry_is ∙ other_is in let same : entry ≡ other = cc in added.long ∙ ap (λ (e : GraphLearned). e.output * orders_of window) same;
  }

  pub expansions_err : (answer : Result (Unit {0}) Cause) → IfErr answer (λ cause. IsPrime m → AreNotExpanded m window (drop top words) entry.output cause) → IfErr answer (λ cause. IsPrime m → IsNotExpanded m window (GraphValue m graphs (sets_of learned) called) rest cause)
  expansions_err (Ok done) fails = tt
  expansions_err (Err cause) fails = λ prime.
      let none = fails prime in
      inr (record {
        outs = given.outs;
        first = given.first prime;
        all = all_points;
        lists = none.lists;
        each = λ k below. subst (λ (values : List ℕ). IsExpandedFrom m window values (slice_index_or none.lists k [])) (columns k (omega (arith, none.before))) (none.each k below);
        before = omega (arith, none.before, width);
        fails = subst (λ (values : List ℕ). FailsToExpand m window values cause) (columns (length none.lists) none.before) none.fails;
      })
