-- The lists of a graph have at most one length each.
use Rattle.std.proofs.Common.{◌≡◌, ℕ, zero, suc, ◌<◌, ◌≤◌, ◌&&◌, Bool, true, false, MatchBool, List, [], ◌∷◌, ◌++◌, length, take, get_or, Option, Some, None, inl, inr, refl, sym, ◌∙◌, ap, subst, arith}
use Rattle.std.specs.Prelude.{slice_get, slice_index_or}
use Rattle.std.proofs.lemmas.Bool.{cases_lt, false≢true}
use Rattle.std.proofs.lemmas.List.{get_or_past}
use Rattle.std.proofs.lemmas.Option.{slice_get_within}
use Rattle.std.proofs.Math.Seq.{take-suc, take-length}
use Rattle.sparse_solver.specs.Plan.{Plan}
use Rattle.graph_file.specs.declared.graph.Graph.{Graph}
use Rattle.graph_file.specs.declared.graph.Node.{Node}
use Rattle.graph_file.specs.declared.graph.NodeKind.{NodeKind}
use Rattle.graph_file.specs.declared.graph.NodeKind.TheVariants.{Eval, Take, Slice, Chain, Sum, Product, Matmul, Dense, Sparse, Call, Memo, Map, Laurent}
use Rattle.graph_eval.specs.declared.fresh.Fresh.{Fresh}
use Rattle.graph_eval.specs.declared.fresh.Fresh.TheVariants as fresh
use Rattle.graph_eval.specs.declared.learned.GraphLearned.{GraphLearned}
use Rattle.graph_eval.specs.Fresh.{IsMeasured, IsMeasuredAt}
use Rattle.graph_eval.specs.Learned.{ArePlans, FirstLengths, FitsGraph, FailsLength, IsKindSet, IsPlainAt, has_solver, is_system, named_length, node_length, plan_of, sizes_of}
use Rattle.graph_eval.proofs.LengthLaws.{FirstLengths-sets, no_solver}
use Rattle.graph_eval.proofs.Places.{stands}
use Rattle.graph_eval.specs.declared.shapes.GraphSize.{GraphSize}

-- where no needed node is a solver, no node has a set
plain_set : (needed : Bool) (kind : NodeKind) (set : List ℕ) → (needed && is_system kind) ≡ false → MatchBool needed (IsKindSet kind set) (set ≡ []) → set ≡ []
plain_set false kind set plain none = none
plain_set true (Eval from exprs) set plain none = none
plain_set true (Take parts) set plain none = none
plain_set true (Slice from first last) set plain none = none
plain_set true (Chain parts) set plain none = none
plain_set true (Sum parts) set plain none = none
plain_set true (Product parts) set plain none = none
plain_set true (Matmul left right rows mid cols) set plain none = none
plain_set true (Call graph parts) set plain none = none
plain_set true (Memo graph parts) set plain none = none
plain_set true (Map graph parts) set plain none = none
plain_set true (Laurent graph lo hi num den parts) set plain none = none
plain_set true (Dense from rows unknowns want) set plain learned = absurd (false≢true (sym plain))
plain_set true (Sparse from unknowns want rows) set plain learned = absurd (false≢true (sym plain))

-- lists with the same at each place are one
same_at : {X : Type 0} (d : X) (xs ys : List X) → length xs ≡ length ys → ((n : ℕ) → n < length xs → slice_index_or xs n d ≡ slice_index_or ys n d) → xs ≡ ys
same_at d [] [] same each = refl
same_at d [] (y ∷ ys) same each = absurd (omega arith)
same_at d (x ∷ xs) [] same each = absurd (omega arith)
same_at d (x ∷ xs) (y ∷ ys) same each =
    ap (λ z. z ∷ xs) (each 0 (omega arith)) ∙ ap (λ zs. y ∷ zs) (same_at d xs ys (omega arith) (λ n below. each (suc n) (omega arith)))

-- the plans of nodes over the same sets are one
pub plans_same : (nodes : List Node) (sets others : List (List ℕ)) (plans more : List (Option Plan)) → sets ≡ others → ArePlans nodes sets plans → ArePlans nodes others more → plans ≡ more
plans_same nodes sets others plans more same first second = same_at None plans more (first.many ∙ sym second.many) (λ n below.
    let node = stands nodes n (omega (arith, first.many)) in
    first.each n node.0 node.1 ∙ ap (λ ss. plan_of (slice_index_or ss n []) node.0) same ∙ sym (second.each n node.0 node.1))

-- two entries with the same in them are one
pub learned_same : (a b : GraphLearned) → a.point ≡ b.point → a.output ≡ b.output → a.lengths ≡ b.lengths → a.sets ≡ b.sets → a.plans ≡ b.plans → a ≡ b
learned_same a b point output lengths sets plans =
    ap (λ p. record a { point = p }) point ∙ ap (λ o. record a { point = b.point; output = o }) output
    ∙ ap (λ ls. record a { point = b.point; output = b.output; lengths = ls }) lengths
    ∙ ap (λ ss. record b { sets = ss; plans = a.plans }) sets
    ∙ ap (λ ps. record b { plans = ps }) plans

module _ (sizes : List GraphSize) where
  module _ (graph : Graph) (sets : List (List ℕ)) where
    -- two lists of the first nodes' lengths agree as far as both go
    agree : (lengths others : List ℕ) → FirstLengths sizes graph sets lengths → FirstLengths sizes graph sets others → (n : ℕ) → n ≤ length lengths → n ≤ length others → take n lengths ≡ take n others
    agree lengths others first second zero within within_others = refl
    agree lengths others first second (suc n) within within_others =
        let below : n < length lengths = omega arith in
        let below_others : n < length others = omega arith in
        let node = stands graph.nodes n (omega (arith, first.within)) in
        let before : take n lengths ≡ take n others = agree lengths others first second n (omega arith) (omega arith) in
        let here : node_length sizes (length graph.inputs) (take n lengths) (slice_index_or sets n []) node.0 ≡ Some (get_or lengths n 0) = first.each n node.0 below node.1 in
        let there : node_length sizes (length graph.inputs) (take n lengths) (slice_index_or sets n []) node.0 ≡ Some (get_or others n 0) = ap (λ ls. node_length sizes (length graph.inputs) ls (slice_index_or sets n []) node.0) before ∙ second.each n node.0 below_others node.1 in
        let both : Some (get_or lengths n 0) ≡ Some (get_or others n 0) = sym here ∙ there in
        let same : get_or lengths n 0 ≡ get_or others n 0 = cc in
        take-suc lengths n 0 below ∙ ap (λ ls. ls ++ get_or lengths n 0 ∷ []) before ∙ ap (λ x. take n others ++ x ∷ []) same ∙ sym (take-suc others n 0 below_others)

    -- lengths that go past a node have one for it, so that its rule doesn't fail
    no_clash : (lengths others : List ℕ) (node : Node) → FirstLengths sizes graph sets lengths → FirstLengths sizes graph sets others → length others < length lengths → slice_get graph.nodes (length others) ≡ Some node → node_length sizes (length graph.inputs) others (slice_index_or sets (length others) []) node ≡ None → ⊥
    no_clash lengths others node first second longer is fails =
        let n = length others in
        let before : take n lengths ≡ others = agree lengths others first second n (omega arith) (omega arith) ∙ take-length others in
        let gives : node_length sizes (length graph.inputs) (take n lengths) (slice_index_or sets n []) node ≡ Some (get_or lengths n 0) = first.each n node longer is in
        let both : None ≡ Some (get_or lengths n 0) = sym fails ∙ ap (λ ls. node_length sizes (length graph.inputs) ls (slice_index_or sets n []) node) (sym before) ∙ gives in
        cc

  module _ (graph : Graph) where
    pub lengths_once : (a b : GraphLearned) → a.sets ≡ b.sets → FitsGraph sizes graph a → FitsGraph sizes graph b → a.lengths ≡ b.lengths
    lengths_once a b sets first second =
        let same : length a.lengths ≡ length b.lengths = first.all ∙ sym second.all in
        let others = subst (λ (ss : List (List ℕ)). FirstLengths sizes graph ss b.lengths) (sym sets) second.first in
        sym (take-length a.lengths) ∙ agree graph a.sets a.lengths b.lengths first.first others (length a.lengths) (omega arith) (omega arith) ∙ ap (λ n. take n b.lengths) same ∙ take-length b.lengths

    pub output_once : (a b : GraphLearned) → a.sets ≡ b.sets → FitsGraph sizes graph a → FitsGraph sizes graph b → a.output ≡ b.output
    output_once a b sets first second = first.output ∙ ap (λ ls. named_length (length graph.inputs) ls graph.output) (lengths_once a b sets first second) ∙ sym second.output

    pub plans_once : (a b : GraphLearned) → a.sets ≡ b.sets → FitsGraph sizes graph a → FitsGraph sizes graph b → a.plans ≡ b.plans
    plans_once a b sets first second = plans_same graph.nodes a.sets b.sets a.plans b.plans sets first.plans second.plans

    -- the node whose rule fails stands where the lengths before it end
    fails_at : (n : ℕ) (is : FailsLength sizes graph n) → slice_get graph.nodes (length is.lengths) ≡ Some is.node
    fails_at n is = ap (slice_get graph.nodes) is.before ∙ is.is_node

    -- of two nodes whose rules fail the later one isn't the first
    not_later : (n k : ℕ) → FailsLength sizes graph n → FailsLength sizes graph k → k < n → ⊥
    not_later n k first second earlier = no_clash graph [] first.lengths second.lengths second.node first.first second.first (omega (arith, first.before, second.before)) (fails_at k second) second.fails

    pub failure_once : (n k : ℕ) → FailsLength sizes graph n → FailsLength sizes graph k → n ≡ k
    failure_once n k first second =
        let lower : k < n → ⊥ = not_later n k first second in
        let upper : n < k → ⊥ = not_later k n second first in
        omega (arith, lower, upper)

    -- where no needed node is a solver, nothing is learned for any node
    module _ (plain : has_solver graph ≡ false) where
      none_learned : (a : GraphLearned) → FitsGraph sizes graph a → (n : ℕ) → slice_index_or a.sets n [] ≡ []
      none_learned a fits n =
          elim (cases_lt n (length a.sets)) [
            | inl below ↦
                let node = stands graph.nodes n (omega (arith, fits.many)) in
                plain_set node.0.needed node.0.kind (slice_index_or a.sets n []) (no_solver graph n node.0 plain node.1) (fits.sets n node.0 node.1)
            | inr past ↦ get_or_past a.sets n [] past
          ]

      pub sets_once : (a b : GraphLearned) → FitsGraph sizes graph a → FitsGraph sizes graph b → a.sets ≡ b.sets
      sets_once a b first second =
          same_at [] a.sets b.sets (first.many ∙ sym second.many) (λ n below. none_learned a first n ∙ sym (none_learned b second n))

      pub fits_or_fails : (a : GraphLearned) (n : ℕ) → FitsGraph sizes graph a → FailsLength sizes graph n → ⊥
      fits_or_fails a n first second =
          let within : length second.lengths < length graph.nodes = slice_get_within graph.nodes (length second.lengths) second.node (fails_at n second) in
          no_clash graph [] a.lengths second.lengths second.node (FirstLengths-sets sizes graph a.sets [] a.lengths (λ k below. none_learned a first k) first.first) second.first (omega (arith, first.all)) (fails_at n second) second.fails

      -- so that the rules alone give one answer
      entry_once : (a b : GraphLearned) → (a.point ≡ None) × FitsGraph sizes graph a → (b.point ≡ None) × FitsGraph sizes graph b → a ≡ b
      entry_once a b first second =
          let sets : a.sets ≡ b.sets = sets_once a b first.1 second.1 in
          learned_same a b (first.0 ∙ sym second.0) (output_once a b sets first.1 second.1) (lengths_once a b sets first.1 second.1) sets (plans_once a b sets first.1 second.1)

      measured_once : (a b : Fresh) → IsMeasured sizes graph a → IsMeasured sizes graph b → a ≡ b
      measured_once (fresh.Learned a) (fresh.Learned b) first second = ap fresh.Learned (entry_once a b first second)
      measured_once (fresh.Learned a) (fresh.Singular b) first second = absurd second
      measured_once (fresh.Learned a) (fresh.Length n) first second = absurd (fits_or_fails a n first.1 second)
      measured_once (fresh.Singular a) other first second = absurd first
      measured_once (fresh.Length n) (fresh.Learned b) first second = absurd (fits_or_fails b n second.1 first)
      measured_once (fresh.Length n) (fresh.Singular b) first second = absurd second
      measured_once (fresh.Length n) (fresh.Length k) first second = ap fresh.Length (failure_once n k first second)

pub one_measured : (graphs : List Graph) (learned : List GraphLearned) (number : ℕ) (a b : Fresh) → IsPlainAt graphs number → IsMeasuredAt graphs learned number a → IsMeasuredAt graphs learned number b → a ≡ b
one_measured graphs learned number a b plain first second =
    let graphs_same : Some first.0 ≡ Some second.0 = sym first.1 ∙ second.1 in
    let graph : first.0 ≡ second.0 = cc in
    measured_once (sizes_of graphs learned) first.0 (plain first.0 first.1) a b first.2 (subst (λ (g : Graph). IsMeasured (sizes_of graphs learned) g b) (sym graph) second.2)
