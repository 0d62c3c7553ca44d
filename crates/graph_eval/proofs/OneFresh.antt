-- Learning a graph at a point has at most one answer.
use Rattle.std.proofs.Common.{◌≡◌, ℕ, zero, suc, ◌+◌, ◌*◌, ◌<◌, ◌≤◌, ◌==◌, Bool, true, false, MatchBool, List, [], ◌∷◌, ◌++◌, length, take, get_or, Some, None, refl, sym, ◌∙◌, ap, subst, arith}
use Rattle.std.specs.Prelude.{slice_index_or}
use Rattle.std.proofs.lemmas.Option.{slice_get_within}
use Rattle.std.proofs.Math.Seq.{take-suc, take-length}
use Rattle.elim_core.specs.Solved.{IsOwnSet}
use Rattle.elim_core.specs.Sparse.{entries_of, rows_with}
use Rattle.elim_core.proofs.OwnSets.{own_set_once}
use Rattle.graph_file.specs.declared.graph.Graph.{Graph}
use Rattle.graph_file.specs.declared.graph.Node.{Node}
use Rattle.graph_file.specs.declared.graph.NodeKind.{NodeKind}
use Rattle.graph_file.specs.declared.graph.NodeKind.TheVariants.{Eval, Take, Slice, Chain, Sum, Product, Matmul, Dense, Sparse, Call, Memo, Map, Laurent}
use Rattle.graph_file.specs.declared.graph.Source.{Source}
use Rattle.graph_eval.specs.declared.fresh.Fresh.{Fresh}
use Rattle.graph_eval.specs.declared.fresh.Fresh.TheVariants as fresh
use Rattle.graph_eval.specs.declared.learned.GraphLearned.{GraphLearned}
use Rattle.graph_eval.specs.declared.outcome.Cause.{Cause}
use Rattle.graph_eval.specs.declared.outcome.Singular.{Singular}
use Rattle.graph_eval.specs.Fresh.{BreaksLength, FirstLearned, HasNoValue, IsFresh, IsFreshAt, IsLearned, IsReached, KindLearns, NodeLearns}
use Rattle.graph_eval.specs.GraphValue.{IsOnce, Meaning, NodeFails, NodeGives, meanings, named}
use Rattle.graph_eval.specs.Learned.{named_length, node_length, sets_of, sizes_of}
use Rattle.graph_eval.specs.Systems.{rows_in}
use Rattle.graph_eval.proofs.OneLength.{learned_same, plans_same}
use Rattle.graph_eval.proofs.OneValue.{kind_fails, meanings_once, node_clash, node_gives}
use Rattle.graph_eval.proofs.Places.{stands}
use Rattle.graph_eval.specs.declared.shapes.GraphSize.{GraphSize}

-- a node learns one set
own_of_once : (m u : ℕ) (rows : List (List ℕ)) (whole : Bool) (a b : List ℕ) → MatchBool whole (IsOwnSet m u rows a) (a ≡ []) → MatchBool whole (IsOwnSet m u rows b) (b ≡ []) → a ≡ b
own_of_once m u rows true a b first second = own_set_once m u rows a b first second
own_of_once m u rows false a b first second = first ∙ sym second

kind_learns : (m : ℕ) (list : Source → List ℕ) (kind : NodeKind) (a b : List ℕ) → KindLearns m list kind a → KindLearns m list kind b → a ≡ b
kind_learns m list (Eval from exprs) a b first second = first ∙ sym second
kind_learns m list (Take parts) a b first second = first ∙ sym second
kind_learns m list (Slice from first_place last) a b first second = first ∙ sym second
kind_learns m list (Chain parts) a b first second = first ∙ sym second
kind_learns m list (Sum parts) a b first second = first ∙ sym second
kind_learns m list (Product parts) a b first second = first ∙ sym second
kind_learns m list (Matmul left right rows mid cols) a b first second = first ∙ sym second
kind_learns m list (Call graph parts) a b first second = first ∙ sym second
kind_learns m list (Memo graph parts) a b first second = first ∙ sym second
kind_learns m list (Map graph parts) a b first second = first ∙ sym second
kind_learns m list (Laurent graph lo hi num den parts) a b first second = first ∙ sym second
kind_learns m list (Dense from rows unknowns want) a b first second = own_of_once m unknowns (rows_in rows unknowns (list from)) (length (list from) == rows * (unknowns + 1)) a b first second
kind_learns m list (Sparse from unknowns want rows) a b first second = own_of_once m unknowns (rows_with unknowns rows (list from)) (length (list from) == entries_of rows) a b first second

node_learns : (m : ℕ) (list : Source → List ℕ) (kind : NodeKind) (needed : Bool) (a b : List ℕ) → MatchBool needed (KindLearns m list kind a) (a ≡ []) → MatchBool needed (KindLearns m list kind b) (b ≡ []) → a ≡ b
node_learns m list kind true a b first second = kind_learns m list kind a b first second
node_learns m list kind false a b first second = first ∙ sym second

module _ (sizes : List GraphSize) where
  -- what was learned of the first nodes
  record Walk (m : ℕ) (called : ℕ → Meaning) (graph : Graph) (inputs : List ℕ) : Type 0 where
    sets : List (List ℕ)
    lengths : List ℕ
    lists : List (List ℕ)
    first : FirstLearned m called sizes graph inputs sets lengths lists

  -- two of them agree on the first n nodes
  record Agree (m : ℕ) (called : ℕ → Meaning) (graph : Graph) (inputs : List ℕ) (one other : Walk m called graph inputs) (n : ℕ) : Type 0 where
    sets : take n one.sets ≡ take n other.sets
    lengths : take n one.lengths ≡ take n other.lengths
    lists : take n one.lists ≡ take n other.lists

  one_further : {X : Type 0} (xs ys : List X) (n : ℕ) (d : X) → n < length xs → n < length ys → take n xs ≡ take n ys → get_or xs n d ≡ get_or ys n d → take (suc n) xs ≡ take (suc n) ys
  one_further xs ys n d below below_other before same =
      take-suc xs n d below ∙ ap (λ l. l ++ get_or xs n d ∷ []) before ∙ ap (λ x. take n ys ++ x ∷ []) same ∙ sym (take-suc ys n d below_other)

  module _ (m : ℕ) (called : ℕ → Meaning) (graph : Graph) (inputs : List ℕ) (large : 1 < m) (once : (k : ℕ) → IsOnce (called k)) where
    agree : (one other : Walk m called graph inputs) (n : ℕ) → n ≤ length one.lists → n ≤ length other.lists → Agree m called graph inputs one other n
    agree one other zero within within_other = record { sets = refl; lengths = refl; lists = refl }
    agree one other (suc n) within within_other =
        let below : n < length one.lists = omega arith in
        let below_other : n < length other.lists = omega arith in
        let node = stands graph.nodes n (omega (arith, one.first.given.within)) in
        let before = agree one other n (omega arith) (omega arith) in
        let own = subst (λ (ls : List (List ℕ)). NodeLearns m (named inputs ls) node.0 (slice_index_or other.sets n [])) (sym before.lists) (other.first.own n node.0 below_other node.1) in
        let set : slice_index_or one.sets n [] ≡ slice_index_or other.sets n [] = node_learns m (named inputs (take n one.lists)) node.0.kind node.0.needed _ _ (one.first.own n node.0 below node.1) own in
        let here : node_length sizes (length graph.inputs) (take n one.lengths) (slice_index_or one.sets n []) node.0 ≡ Some (get_or one.lengths n 0) = one.first.measured.each n node.0 (omega (arith, one.first.many_lengths)) node.1 in
        let there : node_length sizes (length graph.inputs) (take n one.lengths) (slice_index_or one.sets n []) node.0 ≡ Some (get_or other.lengths n 0) =
        ap (λ ls. node_length sizes (length graph.inputs) ls (slice_index_or one.sets n []) node.0) before.lengths ∙ ap (λ s. node_length sizes (length graph.inputs) (take n other.lengths) s node.0) set ∙ other.first.measured.each n node.0 (omega (arith, other.first.many_lengths)) node.1 in
        let both : Some (get_or one.lengths n 0) ≡ Some (get_or other.lengths n 0) = sym here ∙ there in
        let same_length : get_or one.lengths n 0 ≡ get_or other.lengths n 0 = cc in
        let gives = subst (λ (ls : List (List ℕ)). NodeGives m called (slice_index_or one.sets n []) (named inputs ls) node.0 (slice_index_or other.lists n [])) (sym before.lists)
        (subst (λ (s : List ℕ). NodeGives m called s (named inputs (take n other.lists)) node.0 (slice_index_or other.lists n [])) (sym set) (other.first.given.each n node.0 below_other node.1)) in
        let same_list : get_or one.lists n [] ≡ get_or other.lists n [] =
        node_gives m called (slice_index_or one.sets n []) (named inputs (take n one.lists)) node.0.kind node.0.needed (slice_index_or one.lists n []) (slice_index_or other.lists n []) large once (one.first.given.each n node.0 below node.1) gives in
        record {
          sets = one_further one.sets other.sets n [] (omega (arith, one.first.many_sets)) (omega (arith, other.first.many_sets)) before.sets set;
          lengths = one_further one.lengths other.lengths n 0 (omega (arith, one.first.many_lengths)) (omega (arith, other.first.many_lengths)) before.lengths same_length;
          lists = one_further one.lists other.lists n [] below below_other before.lists same_list;
        }

    walk : (n : ℕ) → IsReached m called sizes graph inputs n → Walk m called graph inputs
    walk n reached = record { sets = reached.sets; lengths = reached.lengths; lists = reached.lists; first = reached.first }

    whole : (learned : GraphLearned) → IsLearned m called sizes graph inputs learned → Walk m called graph inputs
    whole learned is = record { sets = learned.sets; lengths = learned.lengths; lists = is.lists; first = is.first }

    -- what goes past a node has for it what was reached there
    record Passed (one : Walk m called graph inputs) (n : ℕ) (reached : IsReached m called sizes graph inputs n) : Type 0 where
      length_is : node_length sizes (length graph.inputs) reached.lengths reached.set reached.node ≡ Some (get_or one.lengths n 0)
      gives : NodeGives m called reached.set (named inputs reached.lists) reached.node (slice_index_or one.lists n [])

    passed : (one : Walk m called graph inputs) (n : ℕ) (reached : IsReached m called sizes graph inputs n) → n < length one.lists → Passed one n reached
    unfolding walk
    passed one n reached below =
        let same = agree one (walk n reached) n (omega arith) (omega (arith, reached.before)) in
        let lists : take n one.lists ≡ reached.lists = same.lists ∙ ap (λ k. take k reached.lists) (sym reached.before) ∙ take-length reached.lists in
        let lengths : take n one.lengths ≡ reached.lengths = same.lengths ∙ ap (λ k. take k reached.lengths) (sym (reached.first.many_lengths ∙ reached.before)) ∙ take-length reached.lengths in
        let own = subst (λ (ls : List (List ℕ)). NodeLearns m (named inputs ls) reached.node (slice_index_or one.sets n [])) lists (one.first.own n reached.node below reached.is_node) in
        let set : slice_index_or one.sets n [] ≡ reached.set = node_learns m (named inputs reached.lists) reached.node.kind reached.node.needed _ _ own reached.own in
        record {
          length_is = ap (λ ls. node_length sizes (length graph.inputs) ls reached.set reached.node) (sym lengths) ∙ ap (λ s. node_length sizes (length graph.inputs) (take n one.lengths) s reached.node) (sym set)
              ∙ one.first.measured.each n reached.node (omega (arith, one.first.many_lengths)) reached.is_node;
          gives = subst (λ (s : List ℕ). NodeGives m called s (named inputs reached.lists) reached.node (slice_index_or one.lists n [])) set
              (subst (λ (ls : List (List ℕ)). NodeGives m called (slice_index_or one.sets n []) (named inputs ls) reached.node (slice_index_or one.lists n [])) lists (one.first.given.each n reached.node below reached.is_node));
        }

    -- so that no node before its end fails
    not_broken : (one : Walk m called graph inputs) (n : ℕ) → n < length one.lists → BreaksLength m called sizes graph inputs n → ⊥
    not_broken one n below is = let both : None ≡ Some (get_or one.lengths n 0) = sym is.breaks ∙ (passed one n is.reached below).length_is in cc

    not_singular : (one : Walk m called graph inputs) (n : ℕ) (cause : Cause) → n < length one.lists → HasNoValue m called sizes graph inputs n cause → ⊥
    not_singular one n cause below is =
        node_clash m called is.reached.set (named inputs is.reached.lists) is.reached.node.kind is.reached.node.needed (slice_index_or one.lists n []) cause large once (passed one n is.reached below).gives is.fails.0 is.fails.1

    reached_low : (n : ℕ) → IsReached m called sizes graph inputs n → n < length graph.nodes
    reached_low n reached = slice_get_within graph.nodes n reached.node reached.is_node

    -- what was reached at one node is the same
    record Same (n : ℕ) (one other : IsReached m called sizes graph inputs n) : Type 0 where
      lengths : one.lengths ≡ other.lengths
      lists : one.lists ≡ other.lists
      node : one.node ≡ other.node
      set : one.set ≡ other.set

    same_reached : (n : ℕ) (one other : IsReached m called sizes graph inputs n) → Same n one other
    unfolding walk
    same_reached n one other =
        let same = agree (walk n one) (walk n other) n (omega (arith, one.before)) (omega (arith, other.before)) in
        let lists : one.lists ≡ other.lists = sym (take-length one.lists) ∙ ap (λ k. take k one.lists) one.before ∙ same.lists ∙ ap (λ k. take k other.lists) (sym other.before) ∙ take-length other.lists in
        let nodes : Some one.node ≡ Some other.node = sym one.is_node ∙ other.is_node in
        let node : one.node ≡ other.node = cc in
        let own = subst (λ (o : Node). NodeLearns m (named inputs one.lists) o other.set) (sym node) (subst (λ (ls : List (List ℕ)). NodeLearns m (named inputs ls) other.node other.set) (sym lists) other.own) in
        record {
          lengths = sym (take-length one.lengths) ∙ ap (λ k. take k one.lengths) (one.first.many_lengths ∙ one.before) ∙ same.lengths ∙ ap (λ k. take k other.lengths) (sym (other.first.many_lengths ∙ other.before)) ∙ take-length other.lengths;
          lists = lists;
          node = node;
          set = node_learns m (named inputs one.lists) one.node.kind one.node.needed one.set other.set one.own own;
        }

    -- a node fails in one way
    breaks_or_singular : (n : ℕ) (cause : Cause) → BreaksLength m called sizes graph inputs n → HasNoValue m called sizes graph inputs n cause → ⊥
    breaks_or_singular n cause breaks singular =
        let same = same_reached n breaks.reached singular.reached in
        let both : None ≡ Some singular.own_length = sym breaks.breaks
        ∙ ap (λ ls. node_length sizes (length graph.inputs) ls breaks.reached.set breaks.reached.node) same.lengths
        ∙ ap (λ s. node_length sizes (length graph.inputs) singular.reached.lengths s breaks.reached.node) same.set
        ∙ ap (λ o. node_length sizes (length graph.inputs) singular.reached.lengths singular.reached.set o) same.node
        ∙ singular.measured in
        cc

    one_cause : (n : ℕ) (a b : Cause) → HasNoValue m called sizes graph inputs n a → HasNoValue m called sizes graph inputs n b → a ≡ b
    one_cause n a b first second =
        let same = same_reached n first.reached second.reached in
        let fails = subst (λ (o : Node). NodeFails m called first.reached.set (named inputs first.reached.lists) o b) (sym same.node)
        (subst (λ (ls : List (List ℕ)). NodeFails m called first.reached.set (named inputs ls) second.reached.node b) (sym same.lists)
        (subst (λ (s : List ℕ). NodeFails m called s (named inputs second.reached.lists) second.reached.node b) (sym same.set) second.fails)) in
        kind_fails m called first.reached.set (named inputs first.reached.lists) first.reached.node.kind a b large once first.fails.1 fails.1

    -- the first node that fails is one
    at_once : (n k : ℕ) → (k < n → ⊥) → (n < k → ⊥) → n ≡ k
    at_once n k lower upper = omega (arith, lower, upper)

    before_is : (n k : ℕ) (reached : IsReached m called sizes graph inputs n) → k < n → k < length reached.lists
    before_is n k reached below = omega (arith, reached.before)

    learned_once : (a b : GraphLearned) → IsLearned m called sizes graph inputs a → IsLearned m called sizes graph inputs b → a ≡ b
    unfolding whole
    learned_once a b first second =
        let n = length graph.nodes in
        let same = agree (whole a first) (whole b second) n (omega (arith, first.all)) (omega (arith, second.all)) in
        let lengths : a.lengths ≡ b.lengths = sym (take-length a.lengths) ∙ ap (λ k. take k a.lengths) (first.first.many_lengths ∙ first.all) ∙ same.lengths ∙ ap (λ k. take k b.lengths) (sym (second.first.many_lengths ∙ second.all)) ∙ take-length b.lengths in
        let sets : a.sets ≡ b.sets = sym (take-length a.sets) ∙ ap (λ k. take k a.sets) (first.first.many_sets ∙ first.all) ∙ same.sets ∙ ap (λ k. take k b.sets) (sym (second.first.many_sets ∙ second.all)) ∙ take-length b.sets in
        learned_same a b (first.point ∙ sym second.point) (first.output ∙ ap (λ ls. named_length (length graph.inputs) ls graph.output) lengths ∙ sym second.output) lengths sets
        (plans_same graph.nodes a.sets b.sets a.plans b.plans sets first.plans second.plans)

    singular_same : (a b : Singular) → a.node ≡ b.node → a.cause ≡ b.cause → a ≡ b
    singular_same a b node cause =
        ap (λ n. let s : Singular = record { node = n; cause = a.cause } in s) node ∙ ap (λ c. let s : Singular = record { node = b.node; cause = c } in s) cause

    all_past : (learned : GraphLearned) (is : IsLearned m called sizes graph inputs learned) (n : ℕ) → IsReached m called sizes graph inputs n → n < length (whole learned is).lists
    unfolding whole
    all_past learned is n reached = omega (arith, is.all, reached_low n reached)

    walk_past : (n k : ℕ) (reached : IsReached m called sizes graph inputs n) → k < n → k < length (walk n reached).lists
    unfolding walk
    walk_past n k reached below = omega (arith, reached.before)

    broken_once : (n k : ℕ) → BreaksLength m called sizes graph inputs n → BreaksLength m called sizes graph inputs k → n ≡ k
    broken_once n k first second =
        at_once n k (λ below. not_broken (walk n first.reached) k (walk_past n k first.reached below) second) (λ below. not_broken (walk k second.reached) n (walk_past k n second.reached below) first)

    broken_or_singular : (n k : ℕ) (cause : Cause) → BreaksLength m called sizes graph inputs n → HasNoValue m called sizes graph inputs k cause → ⊥
    broken_or_singular n k cause breaks singular =
        let same : n ≡ k = at_once n k (λ below. not_singular (walk n breaks.reached) k cause (walk_past n k breaks.reached below) singular) (λ below. not_broken (walk k singular.reached) n (walk_past k n singular.reached below) breaks) in
        breaks_or_singular n cause breaks (subst (λ (j : ℕ). HasNoValue m called sizes graph inputs j cause) (sym same) singular)

    singular_once : (a b : Singular) → HasNoValue m called sizes graph inputs a.node a.cause → HasNoValue m called sizes graph inputs b.node b.cause → a ≡ b
    singular_once a b first second =
        let same : a.node ≡ b.node = at_once a.node b.node
        (λ below. not_singular (walk a.node first.reached) b.node b.cause (walk_past a.node b.node first.reached below) second)
        (λ below. not_singular (walk b.node second.reached) a.node a.cause (walk_past b.node a.node second.reached below) first) in
        singular_same a b same (one_cause a.node a.cause b.cause first (subst (λ (j : ℕ). HasNoValue m called sizes graph inputs j b.cause) (sym same) second))

    pub fresh_once : (a b : Fresh) → IsFresh m called sizes graph inputs a → IsFresh m called sizes graph inputs b → a ≡ b
    fresh_once (fresh.Learned a) (fresh.Learned b) first second = ap fresh.Learned (learned_once a b first second)
    fresh_once (fresh.Learned a) (fresh.Singular b) first second = absurd (not_singular (whole a first) b.node b.cause (all_past a first b.node second.reached) second)
    fresh_once (fresh.Learned a) (fresh.Length n) first second = absurd (not_broken (whole a first) n (all_past a first n second.reached) second)
    fresh_once (fresh.Singular a) (fresh.Learned b) first second = absurd (not_singular (whole b second) a.node a.cause (all_past b second a.node first.reached) first)
    fresh_once (fresh.Singular a) (fresh.Singular b) first second = ap fresh.Singular (singular_once a b first second)
    fresh_once (fresh.Singular a) (fresh.Length n) first second = absurd (broken_or_singular n a.node a.cause second first)
    fresh_once (fresh.Length n) (fresh.Learned b) first second = absurd (not_broken (whole b second) n (all_past b second n first.reached) first)
    fresh_once (fresh.Length n) (fresh.Singular b) first second = absurd (broken_or_singular n b.node b.cause first second)
    fresh_once (fresh.Length n) (fresh.Length k) first second = ap fresh.Length (broken_once n k first second)

pub one_fresh : (m : ℕ) (graphs : List Graph) (learned : List GraphLearned) (number : ℕ) (inputs : List ℕ) (a b : Fresh) → 1 < m → IsFreshAt m graphs learned number inputs a → IsFreshAt m graphs learned number inputs b → a ≡ b
one_fresh m graphs learned number inputs a b large first second =
    let graphs_same : Some first.0 ≡ Some second.0 = sym first.1 ∙ second.1 in
    let graph : first.0 ≡ second.0 = cc in
    fresh_once (sizes_of graphs learned) m (meanings m graphs (sets_of learned) number) first.0 inputs large (meanings_once m graphs (sets_of learned) large number) a b first.2 (subst (λ (g : Graph). IsFresh m (meanings m graphs (sets_of learned) number) (sizes_of graphs learned) g inputs b) (sym graph) second.2)
