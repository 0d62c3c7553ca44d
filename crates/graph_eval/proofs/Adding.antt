-- What an earlier graph gives is the list of the node that calls it.
use Rattle.std.proofs.Common.{◌≡◌, ℕ, ℤ, zero, suc, ◌*◌, ◌<◌, ◌++◌, List, [], ◌∷◌, Result, Ok, Err, Bool, true, MatchBool, length, map, take, drop, Some, inl, inr, refl, sym, ◌∙◌, ap, subst, arith}
use Rattle.std.specs.Prelude.{IfErr, IfOk, OnOk, slice_get, slice_index_or}
use Rattle.std.proofs.lemmas.List.{length-map}
use Rattle.std.proofs.lemmas.Option.{slice_get_within}
use lib.Seq.{drop_at}
use Rattle.prime_field.specs.Residue.{IsPrime}
use Rattle.basic_nodes.specs.Plain.{chained}
use Rattle.basic_nodes.proofs.Pieces.{chained_residues}
use Rattle.graph_file.specs.declared.graph.Graph.{Graph}
use Rattle.graph_file.specs.declared.graph.Node.{Node}
use Rattle.graph_file.specs.declared.graph.NodeKind.{NodeKind}
use Rattle.graph_file.specs.declared.graph.NodeKind.TheVariants.{Call, Memo, Map, Laurent}
use Rattle.graph_file.specs.declared.graph.Source.{Source}
use Rattle.graph_eval.specs.declared.learned.GraphLearned.{GraphLearned}
use Rattle.graph_eval.specs.declared.outcome.Cause.{Cause}
use Rattle.graph_eval.specs.declared.outcome.Singular.{Singular}
use Rattle.graph_eval.specs.Evaluated.{cause_told, no_graphs}
use Rattle.graph_eval.specs.declared.expansion.Window.{Window}
use Rattle.graph_eval.specs.Expanded.{expansion_inputs, orders_of, window_of}
use Rattle.graph_eval.specs.GraphValue.{GivesFirst, GraphValue, IsExpanded, IsNotExpanded, IsStopped, KindFails, KindGives, Meaning, NodeFails, NodeGives, SingularAt, Value, meanings}
use Rattle.graph_eval.specs.Learned.{sets_of, size_at, size_of, sizes_of}
use Rattle.graph_eval.specs.Stacked.{AreCalled, IsAdded, IsCalled, IsExpandedCall}
use Rattle.graph_eval.proofs.EvaluationLaws.{alone, fails_alone}
use Rattle.graph_eval.proofs.Meanings.{earlier_means}

-- the size of an earlier graph
pub size_known : (graphs : List Graph) (learned : List GraphLearned) (number called : ℕ) (graph : Graph) (entry : GraphLearned) → called < number → slice_get graphs called ≡ Some graph → slice_get learned called ≡ Some entry → size_at (sizes_of graphs (take number learned)) called ≡ size_of graph entry
size_known graphs [] number called graph entry below is entry_is = absurd (omega (arith, slice_get_within [] called entry entry_is))
size_known [] (first ∷ learned) number called graph entry below is entry_is = absurd (omega (arith, slice_get_within [] called graph is))
size_known (front ∷ graphs) (first ∷ learned) zero called graph entry below is entry_is = absurd (omega arith)
size_known (front ∷ graphs) (first ∷ learned) (suc number) zero graph entry below is entry_is =
    let same : front ≡ graph = cc in
    let entries : first ≡ entry = cc in
    ap (λ g. size_of g first) same ∙ ap (size_of graph) entries
size_known (front ∷ graphs) (first ∷ learned) (suc number) (suc called) graph entry below is entry_is = size_known graphs learned number called graph entry (omega arith) is entry_is

-- a node that calls no graph rests on none
pub added_alone : (m : ℕ) (means : ℕ → Meaning) (set : List ℕ) (list : Source → List ℕ) (node : Node) (own : ℕ) (old new : List ℕ) (answer : Result (Unit {0}) Cause) → OnOk answer (IsAdded m no_graphs set list node own old new) → OnOk answer (IsAdded m means set list node own old new)
added_alone m means set list node own old new (Err cause) added = tt
added_alone m means set list node own old new (Ok done) added = record {
  values = added.values;
  words = added.words;
  gives = λ prime. alone m means set list node added.values (added.gives prime);
  low = added.low;
  long = added.long;
}

pub failed_alone : (m : ℕ) (means : ℕ → Meaning) (set : List ℕ) (list : Source → List ℕ) (node : Node) (answer : Result (Unit {0}) Cause) → IfErr answer (λ cause. IsPrime m → NodeFails m no_graphs set list node cause) → IfErr answer (λ cause. IsPrime m → NodeFails m means set list node cause)
failed_alone m means set list node (Ok done) fails = tt
failed_alone m means set list node (Err cause) fails = λ prime. let at = fails prime in (at.0, fails_alone m means set list node.kind cause at.1)

module _ (m : ℕ) (graphs : List Graph) (learned : List GraphLearned) (number called : ℕ) (list : Source → List ℕ) (node : Node) (old new : List ℕ) (below : called < number) (needed : node.needed ≡ true) (parts shown : List Source) (shown_is : shown ≡ parts) (Ruled : List ℕ → ℕ → Type 0) where
  abbrev means : ℕ → Meaning
  means = meanings m graphs (sets_of learned) number

  abbrev chain : List ℕ
  chain = chained (map list parts)

  node_gives : (set values : List ℕ) → KindGives m means set list node.kind values → NodeGives m means set list node values
  node_gives set values gives = subst (λ (b : Bool). MatchBool b (KindGives m means set list node.kind values) (values ≡ [])) (sym needed) gives

  -- on the lists as one
  module _ (gives : (set values : List ℕ) → means called chain (Value values) → KindGives m means set list node.kind values) (fails : (set : List ℕ) (n : ℕ) (cause : Cause) → means called chain (SingularAt n cause) → KindFails m means set list node.kind cause) where
    call_ok : (answer : Result (Unit {0}) Singular) → (entry : GraphLearned) → slice_get learned called ≡ Some entry → ((set : List ℕ) (own : ℕ) → Ruled set own → own ≡ entry.output) → OnOk answer (IsCalled m graphs learned called (chained (map list shown)) old new) → OnOk (cause_told answer) ((set : List ℕ) (own : ℕ) → Ruled set own → IsAdded m means set list node own old new)
    call_ok (Err singular) entry entry_is own_is is = tt
    call_ok (Ok done) entry entry_is own_is is = λ set own ruled. record {
      values = is.values;
      words = is.words;
      gives = λ prime. node_gives set is.values (gives set is.values (earlier_means m graphs (sets_of learned) number called chain (Value is.values) below
          (subst (λ (ps : List Source). GraphValue m graphs (sets_of learned) called (chained (map list ps)) (Value is.values)) shown_is (is.value prime))));
      low = is.low;
      long = is.long entry entry_is ∙ sym (own_is set own ruled);
    }

    call_err : (answer : Result (Unit {0}) Singular) → IfErr answer (λ singular. IsPrime m → GraphValue m graphs (sets_of learned) called (chained (map list shown)) (SingularAt singular.node singular.cause)) → IfErr (cause_told answer) (λ cause. IsPrime m → (set : List ℕ) → NodeFails m means set list node cause)
    call_err (Ok done) is = tt
    call_err (Err singular) is = λ prime set. (
      needed,
      fails set singular.node singular.cause (earlier_means m graphs (sets_of learned) number called chain (SingularAt singular.node singular.cause) below
          (subst (λ (ps : List Source). GraphValue m graphs (sets_of learned) called (chained (map list ps)) (SingularAt singular.node singular.cause)) shown_is (is prime))),
    )

  module _ (told : Result (Unit {0}) Cause) (answer : Result (Unit {0}) Singular) (told_is : told ≡ cause_told answer) where
    pub added_call : node.kind ≡ Call called parts → (entry : GraphLearned) → slice_get learned called ≡ Some entry → ((set : List ℕ) (own : ℕ) → Ruled set own → own ≡ entry.output) → OnOk answer (IsCalled m graphs learned called (chained (map list shown)) old new) → OnOk told ((set : List ℕ) (own : ℕ) → Ruled set own → IsAdded m means set list node own old new)
    added_call kind entry entry_is own_is is =
        subst (λ (t : Result (Unit {0}) Cause). OnOk t ((set : List ℕ) (own : ℕ) → Ruled set own → IsAdded m means set list node own old new)) (sym told_is)
        (call_ok (λ set values v. subst (λ (k : NodeKind). KindGives m means set list k values) (sym kind) v) (λ set n cause v. subst (λ (k : NodeKind). KindFails m means set list k cause) (sym kind) (n, v)) answer entry entry_is own_is is)

    pub failed_call : node.kind ≡ Call called parts → IfErr answer (λ singular. IsPrime m → GraphValue m graphs (sets_of learned) called (chained (map list shown)) (SingularAt singular.node singular.cause)) → IfErr told (λ cause. IsPrime m → (set : List ℕ) → NodeFails m means set list node cause)
    failed_call kind is =
        subst (λ (t : Result (Unit {0}) Cause). IfErr t (λ cause. IsPrime m → (set : List ℕ) → NodeFails m means set list node cause)) (sym told_is)
        (call_err (λ set values v. subst (λ (k : NodeKind). KindGives m means set list k values) (sym kind) v) (λ set n cause v. subst (λ (k : NodeKind). KindFails m means set list k cause) (sym kind) (n, v)) answer is)

    pub added_memo : node.kind ≡ Memo called parts → (entry : GraphLearned) → slice_get learned called ≡ Some entry → ((set : List ℕ) (own : ℕ) → Ruled set own → own ≡ entry.output) → OnOk answer (IsCalled m graphs learned called (chained (map list shown)) old new) → OnOk told ((set : List ℕ) (own : ℕ) → Ruled set own → IsAdded m means set list node own old new)
    added_memo kind entry entry_is own_is is =
        subst (λ (t : Result (Unit {0}) Cause). OnOk t ((set : List ℕ) (own : ℕ) → Ruled set own → IsAdded m means set list node own old new)) (sym told_is)
        (call_ok (λ set values v. subst (λ (k : NodeKind). KindGives m means set list k values) (sym kind) v) (λ set n cause v. subst (λ (k : NodeKind). KindFails m means set list k cause) (sym kind) (n, v)) answer entry entry_is own_is is)

    pub failed_memo : node.kind ≡ Memo called parts → IfErr answer (λ singular. IsPrime m → GraphValue m graphs (sets_of learned) called (chained (map list shown)) (SingularAt singular.node singular.cause)) → IfErr told (λ cause. IsPrime m → (set : List ℕ) → NodeFails m means set list node cause)
    failed_memo kind is =
        subst (λ (t : Result (Unit {0}) Cause). IfErr t (λ cause. IsPrime m → (set : List ℕ) → NodeFails m means set list node cause)) (sym told_is)
        (call_err (λ set values v. subst (λ (k : NodeKind). KindGives m means set list k values) (sym kind) v) (λ set n cause v. subst (λ (k : NodeKind). KindFails m means set list k cause) (sym kind) (n, v)) answer is)

    -- on each list
    map_ok : (result : Result (Unit {0}) Singular) → node.kind ≡ Map called parts → (entry : GraphLearned) → slice_get learned called ≡ Some entry → ((set : List ℕ) (own : ℕ) → Ruled set own → own ≡ length parts * entry.output) → OnOk result (AreCalled m graphs learned called (map list parts) (length parts) old new) → OnOk (cause_told result) ((set : List ℕ) (own : ℕ) → Ruled set own → IsAdded m means set list node own old new)
    map_ok (Err singular) kind entry entry_is own_is is = tt
    map_ok (Ok done) kind entry entry_is own_is is = λ set own ruled. record {
      values = chained is.outs;
      words = is.words;
      gives = λ prime. node_gives set (chained is.outs) (subst (λ (k : NodeKind). KindGives m means set list k (chained is.outs)) (sym kind) (record {
        outs = is.outs;
        first = record {
          within = (is.first prime).within;
          each = λ n within. earlier_means m graphs (sets_of learned) number called (slice_index_or (map list parts) n []) (Value (slice_index_or is.outs n [])) below ((is.first prime).each n within);
        };
        all = is.many ∙ sym (length-map parts list);
        values_are = refl;
      }));
      low = chained_residues m is.outs is.low;
      long = is.long entry entry_is ∙ sym (own_is set own ruled);
    }

    map_err : (result : Result (Unit {0}) Singular) → node.kind ≡ Map called parts → IfErr result (λ singular. IsPrime m → IsStopped (GraphValue m graphs (sets_of learned) called) (map list parts) singular.cause) → IfErr (cause_told result) (λ cause. IsPrime m → (set : List ℕ) → NodeFails m means set list node cause)
    map_err (Ok done) kind is = tt
    map_err (Err singular) kind is = λ prime set.
        let stopped = is prime in (
          needed,
          subst (λ (k : NodeKind). KindFails m means set list k singular.cause) (sym kind) (record {
            outs = stopped.outs;
            first = record {
              within = stopped.first.within;
              each = λ n within. earlier_means m graphs (sets_of learned) number called (slice_index_or (map list parts) n []) (Value (slice_index_or stopped.outs n [])) below (stopped.first.each n within);
            };
            before = stopped.before;
            node = stopped.node;
            singular = earlier_means m graphs (sets_of learned) number called (slice_index_or (map list parts) (length stopped.outs) []) (SingularAt stopped.node singular.cause) below stopped.singular;
          }),
        )

    pub added_map : node.kind ≡ Map called parts → (entry : GraphLearned) → slice_get learned called ≡ Some entry → ((set : List ℕ) (own : ℕ) → Ruled set own → own ≡ length parts * entry.output) → OnOk answer (AreCalled m graphs learned called (map list shown) (length shown) old new) → OnOk told ((set : List ℕ) (own : ℕ) → Ruled set own → IsAdded m means set list node own old new)
    added_map kind entry entry_is own_is is =
        subst (λ (t : Result (Unit {0}) Cause). OnOk t ((set : List ℕ) (own : ℕ) → Ruled set own → IsAdded m means set list node own old new)) (sym told_is)
        (map_ok answer kind entry entry_is own_is (subst (λ (ps : List Source). OnOk answer (AreCalled m graphs learned called (map list ps) (length ps) old new)) shown_is is))

    pub failed_map : node.kind ≡ Map called parts → IfErr answer (λ singular. IsPrime m → IsStopped (GraphValue m graphs (sets_of learned) called) (map list shown) singular.cause) → IfErr told (λ cause. IsPrime m → (set : List ℕ) → NodeFails m means set list node cause)
    failed_map kind is =
        subst (λ (t : Result (Unit {0}) Cause). IfErr t (λ cause. IsPrime m → (set : List ℕ) → NodeFails m means set list node cause)) (sym told_is)
        (map_err answer kind (subst (λ (ps : List Source). IfErr answer (λ singular. IsPrime m → IsStopped (GraphValue m graphs (sets_of learned) called) (map list ps) singular.cause)) shown_is is))

  -- on the points of an expansion
  module _ (window : Window) (gives : (set values : List ℕ) → IsExpanded m window (means called) chain values → KindGives m means set list node.kind values) (fails : (set : List ℕ) (cause : Cause) → IsNotExpanded m window (means called) chain cause → KindFails m means set list node.kind cause) where
    abbrev value : Meaning
    value = GraphValue m graphs (sets_of learned) called

    first_means : (outs : List (List ℕ)) → GivesFirst value (expansion_inputs window chain) outs → GivesFirst (means called) (expansion_inputs window chain) outs
    first_means outs first = record {
      within = first.within;
      each = λ n within. earlier_means m graphs (sets_of learned) number called (slice_index_or (expansion_inputs window chain) n []) (Value (slice_index_or outs n [])) below (first.each n within);
    }

    expanded_means : (values : List ℕ) → IsExpanded m window value chain values → IsExpanded m window (means called) chain values
    expanded_means values is = record { outs = is.outs; first = first_means is.outs is.first; all = is.all; lists = is.lists; many = is.many; each = is.each; values_are = is.values_are }

    not_expanded_means : (cause : Cause) → IsNotExpanded m window value chain cause → IsNotExpanded m window (means called) chain cause
    not_expanded_means cause (inl stopped) = inl (record {
      outs = stopped.outs;
      first = first_means stopped.outs stopped.first;
      before = stopped.before;
      node = stopped.node;
      singular = earlier_means m graphs (sets_of learned) number called (slice_index_or (expansion_inputs window chain) (length stopped.outs) []) (SingularAt stopped.node cause) below stopped.singular;
    })
    not_expanded_means cause (inr none) = inr (record { outs = none.outs; first = first_means none.outs none.first; all = none.all; lists = none.lists; each = none.each; before = none.before; fails = none.fails })

    expanded_ok : (told : Result (Unit {0}) Cause) (entry : GraphLearned) → slice_get learned called ≡ Some entry → ((set : List ℕ) (own : ℕ) → Ruled set own → own ≡ entry.output * orders_of window) → OnOk told (IsExpandedCall m graphs learned called window (chained (map list shown)) old new) → OnOk told ((set : List ℕ) (own : ℕ) → Ruled set own → IsAdded m means set list node own old new)
    expanded_ok (Err cause) entry entry_is own_is is = tt
    expanded_ok (Ok done) entry entry_is own_is is = λ set own ruled. record {
      values = is.values;
      words = is.words;
      gives = λ prime. node_gives set is.values (gives set is.values (expanded_means is.values (subst (λ (ps : List Source). IsExpanded m window value (chained (map list ps)) is.values) shown_is (is.value prime))));
      low = is.low;
      long = is.long entry entry_is ∙ sym (own_is set own ruled);
    }

    expanded_err : (told : Result (Unit {0}) Cause) → IfErr told (λ cause. IsPrime m → IsNotExpanded m window value (chained (map list shown)) cause) → IfErr told (λ cause. IsPrime m → (set : List ℕ) → NodeFails m means set list node cause)
    expanded_err (Ok done) is = tt
    expanded_err (Err cause) is = λ prime set. (needed, fails set cause (not_expanded_means cause (subst (λ (ps : List Source). IsNotExpanded m window value (chained (map list ps)) cause) shown_is (is prime))))

  module _ (lo hi : ℤ) (num den : ℕ) (answer : Result (Unit {0}) Cause) (kind : node.kind ≡ Laurent called lo hi num den parts) where
    kind_gives : (set values : List ℕ) → IsExpanded m (window_of lo hi num den) (means called) chain values → KindGives m means set list node.kind values
    kind_gives set values is = subst (λ (k : NodeKind). KindGives m means set list k values) (sym kind) is

    kind_fails : (set : List ℕ) (cause : Cause) → IsNotExpanded m (window_of lo hi num den) (means called) chain cause → KindFails m means set list node.kind cause
    kind_fails set cause is = subst (λ (k : NodeKind). KindFails m means set list k cause) (sym kind) is

    pub added_laurent : (entry : GraphLearned) → slice_get learned called ≡ Some entry → ((set : List ℕ) (own : ℕ) → Ruled set own → own ≡ entry.output * orders_of (window_of lo hi num den)) → OnOk answer (IsExpandedCall m graphs learned called (window_of lo hi num den) (chained (map list shown)) old new) → OnOk answer ((set : List ℕ) (own : ℕ) → Ruled set own → IsAdded m means set list node own old new)
    added_laurent entry entry_is own_is is = expanded_ok (window_of lo hi num den) kind_gives kind_fails answer entry entry_is own_is is

    pub failed_laurent : IfErr answer (λ cause. IsPrime m → IsNotExpanded m (window_of lo hi num den) (GraphValue m graphs (sets_of learned) called) (chained (map list shown)) cause) → IfErr answer (λ cause. IsPrime m → (set : List ℕ) → NodeFails m means set list node cause)
    failed_laurent is = expanded_err (window_of lo hi num den) kind_gives kind_fails answer is

-- of any rule that holds
pub told_ruled : (Ruled Added : List ℕ → ℕ → Type 0) (answer : Result (Unit {0}) Cause) (set : List ℕ) (own : ℕ) → Ruled set own → OnOk answer ((set : List ℕ) (own : ℕ) → Ruled set own → Added set own) → OnOk answer (Added set own)
told_ruled Ruled Added (Err cause) set own ruled added = tt
told_ruled Ruled Added (Ok done) set own ruled added = added set own ruled

pub told_fails : (m : ℕ) (Fails : List ℕ → Cause → Type 0) (answer : Result (Unit {0}) Cause) (set : List ℕ) → IfErr answer (λ cause. IsPrime m → (set : List ℕ) → Fails set cause) → IfErr answer (λ cause. IsPrime m → Fails set cause)
told_fails m Fails (Ok done) set fails = tt
told_fails m Fails (Err cause) set fails = λ prime. fails prime set

-- a list that stands on another stack, copied behind the same words
pub added_behind : (m : ℕ) (means : ℕ → Meaning) (set : List ℕ) (list : Source → List ℕ) (node : Node) (own : ℕ) (words new longer : List ℕ) → longer ≡ words ++ drop (length words) new → IsAdded m means set list node own words new → IsAdded m means set list node own words longer
added_behind m means set list node own words new longer longer_is added = record {
  values = added.values;
  words = longer_is ∙ ap (λ ws. words ++ drop (length words) ws) added.words ∙ ap (λ xs. words ++ xs) (drop_at words added.values (length words) refl);
  gives = added.gives;
  low = added.low;
  long = added.long;
}

pub told_within : {E : Type 0} (m : ℕ) (Fails : List ℕ → Cause → Type 0) (result : Result (Result (Unit {0}) Cause) E) (set : List ℕ) → IfOk result (λ answer. IfErr answer (λ cause. IsPrime m → (set : List ℕ) → Fails set cause)) → IfOk result (λ answer. IfErr answer (λ cause. IsPrime m → Fails set cause))
told_within m Fails (Err e) set fails = tt
told_within m Fails (Ok answer) set fails = told_fails m Fails answer set fails
