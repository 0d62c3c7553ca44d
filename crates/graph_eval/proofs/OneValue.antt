-- A graph has at most one outcome at a point.
use Rattle.std.proofs.Common.{◌≡◌, ℕ, zero, suc, ◌<◌, ◌≤◌, ◌==◌, Bool, true, false, IsTrue, MatchBool, List, [], ◌∷◌, ◌++◌, length, map, take, get_or, Option, Some, None, refl, sym, ◌∙◌, ap, subst, arith}
use Rattle.std.specs.Prelude.{slice_get, slice_index_or}
use Rattle.std.proofs.lemmas.Bool.{false≢true}
use Rattle.std.proofs.lemmas.Option.{slice_get_within}
use Rattle.std.proofs.Math.Seq.{take-suc, take-length}
use Rattle.elim_core.specs.Sparse.{rows_with}
use Rattle.elim_core.proofs.OwnSets.{solved_once}
use Rattle.graph_file.specs.declared.graph.Graph.{Graph}
use Rattle.graph_file.specs.declared.graph.Node.{Node}
use Rattle.graph_file.specs.declared.graph.NodeKind.{NodeKind}
use Rattle.graph_file.specs.declared.graph.NodeKind.TheVariants.{Eval, Take, Slice, Chain, Sum, Product, Matmul, Dense, Sparse, Call, Memo, Map, Laurent}
use Rattle.graph_file.specs.declared.graph.Source.{Source}
use Rattle.graph_eval.specs.declared.outcome.Cause.{Cause}
use Rattle.graph_eval.specs.Systems.{rows_in}
use Rattle.basic_nodes.specs.Plain.{chained}
use Rattle.graph_eval.specs.Expanded.{window_of}
use Rattle.graph_eval.proofs.Expanding.{expanded_once, expanded_or_not, not_expanded_once}
use Rattle.graph_eval.proofs.Mapped.{mapped_once, mapped_or_stopped, stopped_once}
use Rattle.graph_eval.proofs.Places.{stands}
use Rattle.graph_eval.specs.GraphValue.{IsOnce, Meaning, Outcome, Value, SingularAt, choose, named, KindGives, KindFails, NodeGives, NodeFails, FirstLists, IsValue, IsSingular, GraphMeans, GraphValue, MeansAt, meanings}

-- a node of one kind gives one list, or fails for one cause, and never both
kind_gives : (m : ℕ) (called : ℕ → Meaning) (learned : List ℕ) (list : Source → List ℕ) (kind : NodeKind) (xs ys : List ℕ) → 1 < m → ((k : ℕ) → IsOnce (called k)) → KindGives m called learned list kind xs → KindGives m called learned list kind ys → xs ≡ ys
kind_gives m called learned list (Eval from exprs) xs ys large once first second = let both : Some xs ≡ Some ys = sym first ∙ second in cc
kind_gives m called learned list (Take parts) xs ys large once first second = first ∙ sym second
kind_gives m called learned list (Slice from first_place last) xs ys large once first second = first ∙ sym second
kind_gives m called learned list (Chain parts) xs ys large once first second = first ∙ sym second
kind_gives m called learned list (Sum parts) xs ys large once first second = first ∙ sym second
kind_gives m called learned list (Product parts) xs ys large once first second = first ∙ sym second
kind_gives m called learned list (Matmul left right rows mid cols) xs ys large once first second = first ∙ sym second
kind_gives m called learned list (Dense from rows unknowns want) xs ys large once first second = solved_once m unknowns (rows_in rows unknowns (list from)) learned want xs ys large first second
kind_gives m called learned list (Sparse from unknowns want rows) xs ys large once first second = solved_once m unknowns (rows_with unknowns rows (list from)) learned want xs ys large first second
kind_gives m called learned list (Call graph parts) xs ys large once first second = let both : Value xs ≡ Value ys = (once graph).once (chained (map list parts)) _ _ first second in cc
kind_gives m called learned list (Memo graph parts) xs ys large once first second = let both : Value xs ≡ Value ys = (once graph).once (chained (map list parts)) _ _ first second in cc
kind_gives m called learned list (Map graph parts) xs ys large once first second = mapped_once (called graph) (map list parts) (once graph) xs ys first second
kind_gives m called learned list (Laurent graph lo hi num den parts) xs ys large once first second = expanded_once m (window_of lo hi num den) large (called graph) (chained (map list parts)) (once graph) xs ys first second

pub kind_fails : (m : ℕ) (called : ℕ → Meaning) (learned : List ℕ) (list : Source → List ℕ) (kind : NodeKind) (a b : Cause) → 1 < m → ((k : ℕ) → IsOnce (called k)) → KindFails m called learned list kind a → KindFails m called learned list kind b → a ≡ b
kind_fails m called learned list (Eval from exprs) a b large once first second = first.1 ∙ sym second.1
kind_fails m called learned list (Take parts) a b large once first second = absurd first
kind_fails m called learned list (Slice from first_place last) a b large once first second = absurd first
kind_fails m called learned list (Chain parts) a b large once first second = absurd first
kind_fails m called learned list (Sum parts) a b large once first second = absurd first
kind_fails m called learned list (Product parts) a b large once first second = absurd first
kind_fails m called learned list (Matmul left right rows mid cols) a b large once first second = absurd first
kind_fails m called learned list (Dense from rows unknowns want) a b large once first second = first.1 ∙ sym second.1
kind_fails m called learned list (Sparse from unknowns want rows) a b large once first second = first.1 ∙ sym second.1
kind_fails m called learned list (Call graph parts) a b large once first second = let both : SingularAt first.0 a ≡ SingularAt second.0 b = (once graph).once (chained (map list parts)) _ _ first.1 second.1 in cc
kind_fails m called learned list (Memo graph parts) a b large once first second = let both : SingularAt first.0 a ≡ SingularAt second.0 b = (once graph).once (chained (map list parts)) _ _ first.1 second.1 in cc
kind_fails m called learned list (Map graph parts) a b large once first second = stopped_once (called graph) (map list parts) (once graph) a b first second
kind_fails m called learned list (Laurent graph lo hi num den parts) a b large once first second = not_expanded_once m (window_of lo hi num den) large (called graph) (chained (map list parts)) (once graph) a b first second

kind_clash : (m : ℕ) (called : ℕ → Meaning) (learned : List ℕ) (list : Source → List ℕ) (kind : NodeKind) (xs : List ℕ) (cause : Cause) → 1 < m → ((k : ℕ) → IsOnce (called k)) → KindGives m called learned list kind xs → KindFails m called learned list kind cause → ⊥
kind_clash m called learned list (Eval from exprs) xs cause large once gives fails = let both : Some xs ≡ None = sym gives ∙ fails.0 in cc
kind_clash m called learned list (Take parts) xs cause large once gives fails = absurd fails
kind_clash m called learned list (Slice from first_place last) xs cause large once gives fails = absurd fails
kind_clash m called learned list (Chain parts) xs cause large once gives fails = absurd fails
kind_clash m called learned list (Sum parts) xs cause large once gives fails = absurd fails
kind_clash m called learned list (Product parts) xs cause large once gives fails = absurd fails
kind_clash m called learned list (Matmul left right rows mid cols) xs cause large once gives fails = absurd fails
kind_clash m called learned list (Dense from rows unknowns want) xs cause large once gives fails = fails.0 (record { multiples = gives.solved.c; constant = gives.solved.d; tells = gives.solved.tells })
kind_clash m called learned list (Sparse from unknowns want rows) xs cause large once gives fails = fails.0 (record { multiples = gives.solved.c; constant = gives.solved.d; tells = gives.solved.tells })
kind_clash m called learned list (Call graph parts) xs cause large once gives fails = let both : Value xs ≡ SingularAt fails.0 cause = (once graph).once (chained (map list parts)) _ _ gives fails.1 in cc
kind_clash m called learned list (Memo graph parts) xs cause large once gives fails = let both : Value xs ≡ SingularAt fails.0 cause = (once graph).once (chained (map list parts)) _ _ gives fails.1 in cc
kind_clash m called learned list (Map graph parts) xs cause large once gives fails = mapped_or_stopped (called graph) (map list parts) (once graph) xs cause gives fails
kind_clash m called learned list (Laurent graph lo hi num den parts) xs cause large once gives fails = expanded_or_not m (window_of lo hi num den) large (called graph) (chained (map list parts)) (once graph) xs cause gives fails

pub node_gives : (m : ℕ) (called : ℕ → Meaning) (learned : List ℕ) (list : Source → List ℕ) (kind : NodeKind) (needed : Bool) (xs ys : List ℕ) → 1 < m → ((k : ℕ) → IsOnce (called k)) → MatchBool needed (KindGives m called learned list kind xs) (xs ≡ []) → MatchBool needed (KindGives m called learned list kind ys) (ys ≡ []) → xs ≡ ys
node_gives m called learned list kind true xs ys large once first second = kind_gives m called learned list kind xs ys large once first second
node_gives m called learned list kind false xs ys large once first second = first ∙ sym second

pub node_clash : (m : ℕ) (called : ℕ → Meaning) (learned : List ℕ) (list : Source → List ℕ) (kind : NodeKind) (needed : Bool) (xs : List ℕ) (cause : Cause) → 1 < m → ((k : ℕ) → IsOnce (called k)) → MatchBool needed (KindGives m called learned list kind xs) (xs ≡ []) → IsTrue needed → KindFails m called learned list kind cause → ⊥
node_clash m called learned list kind true xs cause large once gives needed fails = kind_clash m called learned list kind xs cause large once gives fails
node_clash m called learned list kind false xs cause large once gives needed fails = false≢true needed

-- two lists of what the first nodes give agree as far as both go
module _ (m : ℕ) (called : ℕ → Meaning) (learned : List (List ℕ)) (nodes : List Node) (inputs : List ℕ) (large : 1 < m) (once : (k : ℕ) → IsOnce (called k)) where
  agree : (lists others : List (List ℕ)) → FirstLists m called learned nodes inputs lists → FirstLists m called learned nodes inputs others → (n : ℕ) → n ≤ length lists → n ≤ length others → take n lists ≡ take n others
  agree lists others first second zero within within_others = refl
  agree lists others first second (suc n) within within_others =
      let below : n < length lists = omega arith in
      let below_others : n < length others = omega arith in
      let node = stands nodes n (omega (arith, first.within)) in
      let before : take n lists ≡ take n others = agree lists others first second n (omega arith) (omega arith) in
      let here = first.each n node.0 below node.1 in
      let there = subst (λ (ls : List (List ℕ)). NodeGives m called (slice_index_or learned n []) (named inputs ls) node.0 (slice_index_or others n [])) (sym before) (second.each n node.0 below_others node.1) in
      let same : get_or lists n [] ≡ get_or others n [] = node_gives m called (slice_index_or learned n []) (named inputs (take n lists)) node.0.kind node.0.needed (slice_index_or lists n []) (slice_index_or others n []) large once here there in
      take-suc lists n [] below ∙ ap (λ ls. ls ++ get_or lists n [] ∷ []) before ∙ ap (λ x. take n others ++ x ∷ []) same ∙ sym (take-suc others n [] below_others)

  -- lists that go past a place give that node's list, so that it doesn't fail there
  no_clash : (lists others : List (List ℕ)) (node : Node) (cause : Cause) → FirstLists m called learned nodes inputs lists → FirstLists m called learned nodes inputs others → length others < length lists
      → slice_get nodes (length others) ≡ Some node → NodeFails m called (slice_index_or learned (length others) []) (named inputs others) node cause → ⊥
  no_clash lists others node cause first second longer is fails =
      let n = length others in
      let before : take n lists ≡ others = agree lists others first second n (omega arith) (omega arith) ∙ take-length others in
      let gives = subst (λ (ls : List (List ℕ)). NodeGives m called (slice_index_or learned n []) (named inputs ls) node (slice_index_or lists n [])) before (first.each n node longer is) in
      node_clash m called (slice_index_or learned n []) (named inputs others) node.kind node.needed (slice_index_or lists n []) cause large once gives fails.0 fails.1

  same_lists : (lists others : List (List ℕ)) → FirstLists m called learned nodes inputs lists → FirstLists m called learned nodes inputs others → length lists ≡ length others → lists ≡ others
  same_lists lists others first second same =
      sym (take-length lists) ∙ agree lists others first second (length lists) (omega arith) (omega arith) ∙ ap (λ n. take n others) same ∙ take-length others

module _ (m : ℕ) (called : ℕ → Meaning) (learned : List (List ℕ)) (graph : Graph) (inputs : List ℕ) (large : 1 < m) (once : (k : ℕ) → IsOnce (called k)) where
  value_once : (xs ys : List ℕ) → IsValue m called learned graph inputs xs → IsValue m called learned graph inputs ys → xs ≡ ys
  value_once xs ys first second =
      let same = same_lists m called learned graph.nodes inputs large once first.lists second.lists first.first second.first (first.all ∙ sym second.all) in
      first.output ∙ ap (λ ls. named inputs ls graph.output) same ∙ sym second.output

  value_or_singular : (xs : List ℕ) (n : ℕ) (cause : Cause) → IsValue m called learned graph inputs xs → IsSingular m called learned graph inputs n cause → ⊥
  value_or_singular xs n cause first second =
      let is : slice_get graph.nodes (length second.lists) ≡ Some second.node = ap (slice_get graph.nodes) second.before ∙ second.is_node in
      let within : length second.lists < length graph.nodes = slice_get_within graph.nodes (length second.lists) second.node is in
      let fails = subst (λ (k : ℕ). NodeFails m called (slice_index_or learned k []) (named inputs second.lists) second.node cause) (sym second.before) second.fails in
      no_clash m called learned graph.nodes inputs large once first.lists second.lists second.node cause first.first second.first (omega (arith, first.all)) is fails

  -- of two nodes without a value the later one isn't the first
  not_later : (n k : ℕ) (a b : Cause) → IsSingular m called learned graph inputs n a → IsSingular m called learned graph inputs k b → k < n → ⊥
  not_later n k a b first second earlier =
      let is : slice_get graph.nodes (length second.lists) ≡ Some second.node = ap (slice_get graph.nodes) second.before ∙ second.is_node in
      let fails = subst (λ (j : ℕ). NodeFails m called (slice_index_or learned j []) (named inputs second.lists) second.node b) (sym second.before) second.fails in
      no_clash m called learned graph.nodes inputs large once first.lists second.lists second.node b first.first second.first (omega (arith, first.before, second.before)) is fails

  same_cause : (n : ℕ) (a b : Cause) → IsSingular m called learned graph inputs n a → IsSingular m called learned graph inputs n b → a ≡ b
  same_cause n a b first second =
      let same = same_lists m called learned graph.nodes inputs large once first.lists second.lists first.first second.first (first.before ∙ sym second.before) in
      let nodes : Some first.node ≡ Some second.node = sym first.is_node ∙ second.is_node in
      let node : first.node ≡ second.node = cc in
      let fails = subst (λ (o : Node). NodeFails m called (slice_index_or learned n []) (named inputs first.lists) o b) (sym node) (subst (λ (ls : List (List ℕ)). NodeFails m called (slice_index_or learned n []) (named inputs ls) second.node b) (sym same) second.fails) in
      kind_fails m called (slice_index_or learned n []) (named inputs first.lists) first.node.kind a b large once first.fails.1 fails.1

  means_once : (one other : Outcome) → GraphMeans m called learned graph inputs one → GraphMeans m called learned graph inputs other → one ≡ other
  means_once (Value xs) (Value ys) first second = ap Value (value_once xs ys first second)
  means_once (Value xs) (SingularAt n cause) first second = absurd (value_or_singular xs n cause first second)
  means_once (SingularAt n cause) (Value ys) first second = absurd (value_or_singular ys n cause second first)
  means_once (SingularAt n a) (SingularAt k b) first second =
      let lower : k < n → ⊥ = not_later n k a b first second in
      let upper : n < k → ⊥ = not_later k n b a second first in
      let same : n ≡ k = omega (arith, lower, upper) in
      let cause : a ≡ b = same_cause n a b first (subst (λ (j : ℕ). IsSingular m called learned graph inputs j b) (sym same) second) in
      ap (λ j. SingularAt j a) same ∙ ap (SingularAt k) cause

means_at_once : (m : ℕ) (called : ℕ → Meaning) (learned : List (List ℕ)) (graph : Option Graph) → 1 < m → ((k : ℕ) → IsOnce (called k)) → IsOnce (MeansAt m called learned graph)
means_at_once m called learned None large once = record { once = λ inputs one other first second. absurd first }
means_at_once m called learned (Some graph) large once = record { once = λ inputs one other first second. means_once m called learned graph inputs large once one other first second }

chosen_once : (here : Bool) (first second : Meaning) → IsOnce first → IsOnce second → IsOnce (choose here first second)
chosen_once true first second one other = one
chosen_once false first second one other = other

-- each of the first graphs of a file has one outcome at most, since those that it calls have
pub meanings_once : (m : ℕ) (graphs : List Graph) (learned : List (List (List ℕ))) → 1 < m → (count number : ℕ) → IsOnce (meanings m graphs learned count number)
meanings_once m graphs learned large zero number = record { once = λ inputs one other first second. absurd first }
meanings_once m graphs learned large (suc count) number =
    chosen_once (number == count) (MeansAt m (meanings m graphs learned count) (slice_index_or learned count []) (slice_get graphs count)) (meanings m graphs learned count number)
    (means_at_once m (meanings m graphs learned count) (slice_index_or learned count []) (slice_get graphs count) large (meanings_once m graphs learned large count))
    (meanings_once m graphs learned large count number)

pub one_outcome : (m : ℕ) (graphs : List Graph) (learned : List (List (List ℕ))) (number : ℕ) (inputs : List ℕ) (one other : Outcome) → 1 < m → GraphValue m graphs learned number inputs one → GraphValue m graphs learned number inputs other → one ≡ other
one_outcome m graphs learned number inputs one other large first second =
    (means_at_once m (meanings m graphs learned number) (slice_index_or learned number []) (slice_get graphs number) large (meanings_once m graphs learned large number)).once inputs one other first second
