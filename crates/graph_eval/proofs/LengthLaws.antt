-- The lengths of a graph's lists, one node after the other.
use Rattle.std.proofs.Common.{◌≡◌, ℕ, ◌+◌, ◌<◌, ◌≤◌, ◌&&◌, Bool, true, false, if◌then◌else◌, List, [], ◌∷◌, ◌++◌, All, length, take, get_or, sum, Option, Some, None, refl, sym, ◌∙◌, ap, subst, length-append, arith, inl, inr}
use Rattle.std.specs.Prelude.{slice_get, slice_index_or, IfSome}
use Rattle.graph_eval.specs.declared.learned.GraphLearned.{GraphLearned}
use Rattle.std.specs.List.{list_any}
use Rattle.std.proofs.lemmas.Bool.{cases_eq, false≢true}
use Rattle.std.proofs.lemmas.List.Folds.{list_any_at}
use Rattle.std.proofs.lemmas.Option.{get_or_from_slice_get, slice_get_within}
use Rattle.std.proofs.lemmas.List.{take-append-le}
use Rattle.std.proofs.Math.Seq.{take-append_seam, get_or-append_seam}
use Rattle.std.proofs.Math.ListN.{get_or-append}
use Rattle.std.proofs.lemmas.List.Elements.{All-nil, All-push, All-same}
use Rattle.std.proofs.lemmas.List.Sums.{sum_by_push}
use Rattle.elim_core.proofs.Told.{bool_cases}
use Rattle.sparse_solver.specs.Plan.{Plan}
use Rattle.graph_file.specs.declared.graph.Graph.{Graph}
use Rattle.graph_file.specs.declared.graph.Node.{Node}
use Rattle.graph_file.specs.declared.graph.NodeKind.{NodeKind}
use Rattle.graph_file.specs.declared.graph.NodeKind.TheVariants.{Eval, Take, Slice, Chain, Sum, Product, Matmul, Dense, Sparse, Call, Memo, Map, Laurent}
use Rattle.graph_eval.specs.Learned.{AreEmpty, AreNone, ArePlans, FirstLengths, FitsGraph, FailsLength, IsSetFor, has_solver, is_solver, is_system, kind_plan, named_length, node_length, plan_of}
use Rattle.graph_eval.proofs.ShapeLaws.{empty_set_for}
use Rattle.graph_eval.specs.declared.shapes.GraphSize.{GraphSize}

module _ (sizes : List GraphSize) where
  -- no length yet
  pub FirstLengths-none : (graph : Graph) (sets : List (List ℕ)) → FirstLengths sizes graph sets []
  FirstLengths-none graph sets = record { within = omega arith; each = λ n node below is. absurd (omega arith) }

  -- one more length: that of the next node behind those before it
  FirstLengths-more : (graph : Graph) (sets : List (List ℕ)) (lengths : List ℕ) (node : Node) (own : ℕ) → FirstLengths sizes graph sets lengths → length lengths < length graph.nodes → slice_get graph.nodes (length lengths) ≡ Some node
      → node_length sizes (length graph.inputs) lengths (slice_index_or sets (length lengths) []) node ≡ Some own → FirstLengths sizes graph sets (lengths ++ own ∷ [])
  FirstLengths-more graph sets lengths node own first below is has = record {
    within = omega (arith, length-append lengths (own ∷ []));
    each = λ n other at other_is. elim (cases_eq n (length lengths)) [
      | inl e ↦
          let same_node : Some other ≡ Some node = sym other_is ∙ ap (slice_get graph.nodes) e ∙ is in
          let same : other ≡ node = cc in
          ap (λ k. node_length sizes (length graph.inputs) (take k (lengths ++ own ∷ [])) (slice_index_or sets k []) other) e
          ∙ ap (λ before. node_length sizes (length graph.inputs) before (slice_index_or sets (length lengths) []) other) (take-append_seam lengths (own ∷ []))
          ∙ ap (node_length sizes (length graph.inputs) lengths (slice_index_or sets (length lengths) [])) same
          ∙ has
          ∙ ap (λ v. Some v) (sym (get_or-append_seam lengths own [] 0))
          ∙ ap (λ k. Some (get_or (lengths ++ own ∷ []) k 0)) (sym e)
      | inr ne ↦
          let earlier : n < length lengths = omega (arith, length-append lengths (own ∷ [])) in
          ap (λ before. node_length sizes (length graph.inputs) before (slice_index_or sets n []) other) (take-append-le n lengths (own ∷ []) (omega arith))
          ∙ first.each n other earlier other_is
          ∙ ap (λ v. Some v) (sym (get_or-append lengths (own ∷ []) 0 n earlier))
    ];
  }

  -- the sets of later nodes don't count
  pub FirstLengths-sets : (graph : Graph) (sets others : List (List ℕ)) (lengths : List ℕ) → ((n : ℕ) → n < length lengths → slice_index_or sets n [] ≡ slice_index_or others n []) → FirstLengths sizes graph sets lengths → FirstLengths sizes graph others lengths
  FirstLengths-sets graph sets others lengths same first = record {
    within = first.within;
    each = λ n node below is. ap (λ set. node_length sizes (length graph.inputs) (take n lengths) set node) (sym (same n below)) ∙ first.each n node below is;
  }

  -- the first so many nodes have these lengths, which are within the limits
  pub record LengthsSoFar (graph : Graph) (sets : List (List ℕ)) (lengths : List ℕ) (count total : ℕ) : Type 0 where
    pub first : FirstLengths sizes graph sets lengths
    pub many : length lengths ≡ count
    pub total_is : total ≡ sum lengths
    pub bound : total ≤ 2097152
    pub within : All (λ n. n ≤ 262144) lengths

  pub LengthsSoFar-none : (graph : Graph) (sets : List (List ℕ)) → LengthsSoFar graph sets [] 0 0
  LengthsSoFar-none graph sets = record { first = FirstLengths-none graph sets; many = refl; total_is = refl; bound = omega arith; within = All-nil (λ n. n ≤ 262144) }

  pub LengthsSoFar-sets : (graph : Graph) (sets others : List (List ℕ)) (lengths : List ℕ) (count total : ℕ) → ((n : ℕ) → n < count → slice_index_or sets n [] ≡ slice_index_or others n []) → LengthsSoFar graph sets lengths count total → LengthsSoFar graph others lengths count total
  LengthsSoFar-sets graph sets others lengths count total same so_far = record {
    first = FirstLengths-sets graph sets others lengths (λ n below. same n (omega (arith, so_far.many))) so_far.first;
    many = so_far.many;
    total_is = so_far.total_is;
    bound = so_far.bound;
    within = so_far.within;
  }

  -- what the rule answered, on the graph's inputs and the lengths so far
  module _ (graph : Graph) (sets : List (List ℕ)) (lengths : List ℕ) (place total inputs : ℕ) (earlier set : List ℕ) (node : Node) (answer : Option ℕ) (so_far : LengthsSoFar graph sets lengths place total) (is : slice_get graph.nodes place ≡ Some node)
      (inputs_is : inputs ≡ length graph.inputs) (earlier_is : earlier ≡ lengths) (set_is : slice_index_or sets place [] ≡ set) (answer_is : answer ≡ node_length sizes inputs earlier set node) where
    pub answered : node_length sizes (length graph.inputs) lengths set node ≡ answer
    answered = ap (λ n. node_length sizes n lengths set node) (sym inputs_is) ∙ ap (λ ls. node_length sizes inputs ls set node) (sym earlier_is) ∙ sym answer_is

    -- one length more
    pub one_more : (own : ℕ) (more : List ℕ) → answer ≡ Some own → IfSome answer (λ n. n ≤ 262144) → IfSome answer (λ n. total + n ≤ 2097152) → more ≡ lengths ++ own ∷ [] → LengthsSoFar graph sets more (place + 1) (total + own)
    one_more own more some small bound joined =
        let at_length : slice_get graph.nodes (length lengths) ≡ Some node = ap (slice_get graph.nodes) so_far.many ∙ is in
        let within : length lengths < length graph.nodes = slice_get_within graph.nodes (length lengths) node at_length in
        let has : node_length sizes (length graph.inputs) lengths (slice_index_or sets (length lengths) []) node ≡ Some own =
        ap (λ n. node_length sizes (length graph.inputs) lengths (slice_index_or sets n []) node) so_far.many ∙ ap (λ s. node_length sizes (length graph.inputs) lengths s node) set_is ∙ answered ∙ some in
        record {
          first = subst (FirstLengths sizes graph sets) (sym joined) (FirstLengths-more graph sets lengths node own so_far.first within at_length has);
          many = ap length joined ∙ length-append lengths (own ∷ []) ∙ ap (λ n. n + 1) so_far.many;
          total_is = ap (λ n. n + own) so_far.total_is ∙ sym (sum_by_push (λ n. n) lengths own) ∙ ap sum (sym joined);
          bound = subst (λ (o : Option ℕ). IfSome o (λ n. total + n ≤ 2097152)) some bound;
          within = All-same (λ n. n ≤ 262144) _ _ joined (All-push (λ n. n ≤ 262144) lengths own so_far.within (subst (λ (o : Option ℕ). IfSome o (λ n. n ≤ 262144)) some small));
        }

  -- where nothing is learned for any node, a node whose rule fails
  pub fails_here : (graph : Graph) (lengths : List ℕ) (place total inputs : ℕ) (earlier : List ℕ) (node : Node) (answer : Option ℕ) → LengthsSoFar graph [] lengths place total → slice_get graph.nodes place ≡ Some node
      → inputs ≡ length graph.inputs → earlier ≡ lengths → answer ≡ node_length sizes inputs earlier [] node → answer ≡ None → FailsLength sizes graph place
  fails_here graph lengths place total inputs earlier node answer so_far is inputs_is earlier_is answer_is none = record {
    lengths = lengths;
    first = so_far.first;
    before = so_far.many;
    node = node;
    is_node = is;
    fails = answered graph [] lengths place total inputs earlier [] node answer so_far is inputs_is earlier_is refl answer_is ∙ none;
  }

  -- with every node's set and length, and the output's length
  pub fits_graph : (graph : Graph) (sets : List (List ℕ)) (lengths : List ℕ) (place total inputs : ℕ) (learned : GraphLearned) → LengthsSoFar graph sets lengths place total → place ≡ length graph.nodes → inputs ≡ length graph.inputs
      → length sets ≡ place → ((n : ℕ) (node : Node) → n < place → slice_get graph.nodes n ≡ Some node → IsSetFor node (slice_index_or sets n []))
      → ArePlans graph.nodes sets learned.plans → learned.sets ≡ sets → learned.lengths ≡ lengths → learned.output ≡ named_length inputs lengths graph.output → FitsGraph sizes graph learned
  fits_graph graph sets lengths place total inputs learned so_far all inputs_is many each plans sets_is lengths_is output_is = record {
    many = ap length sets_is ∙ many ∙ all;
    sets = λ n node is. subst (λ (ss : List (List ℕ)). IsSetFor node (slice_index_or ss n [])) (sym sets_is) (each n node (omega (arith, all, slice_get_within graph.nodes n node is)) is);
    plans = subst (λ (ss : List (List ℕ)). ArePlans graph.nodes ss learned.plans) (sym sets_is) plans;
    first = subst (λ (ss : List (List ℕ)). FirstLengths sizes graph ss learned.lengths) (sym sets_is) (subst (FirstLengths sizes graph sets) (sym lengths_is) so_far.first);
    all = ap length lengths_is ∙ so_far.many ∙ all;
    output = output_is ∙ ap (λ n. named_length n lengths graph.output) inputs_is ∙ ap (λ ls. named_length (length graph.inputs) ls graph.output) (sym lengths_is);
  }

-- where no needed node is a solver, none is one
any_false : {X : Type 0} (test : X → Bool) (xs : List X) → list_any test xs ≡ false → (n : ℕ) (x : X) → slice_get xs n ≡ Some x → test x ≡ false
any_false test xs none n x at =
    elim (bool_cases (test x)) [
      | inl holds ↦ absurd (false≢true (sym none ∙ list_any_at test xs n x (slice_get_within xs n x at) (ap test (get_or_from_slice_get xs n x x at) ∙ holds)))
      | inr fails ↦ fails
    ]

pub no_solver : (graph : Graph) (n : ℕ) (node : Node) → has_solver graph ≡ false → slice_get graph.nodes n ≡ Some node → is_solver node ≡ false
no_solver graph n node plain is = any_false is_solver graph.nodes plain n node is

-- where no needed node is a solver, no node has a plan
plain_plan : (needed : Bool) (kind : NodeKind) (set : List ℕ) → (needed && is_system kind) ≡ false → (if needed then kind_plan set kind else None) ≡ None
plain_plan false kind set plain = refl
plain_plan true (Eval from exprs) set plain = refl
plain_plan true (Take parts) set plain = refl
plain_plan true (Slice from first last) set plain = refl
plain_plan true (Chain parts) set plain = refl
plain_plan true (Sum parts) set plain = refl
plain_plan true (Product parts) set plain = refl
plain_plan true (Matmul left right rows mid cols) set plain = refl
plain_plan true (Call graph parts) set plain = refl
plain_plan true (Memo graph parts) set plain = refl
plain_plan true (Map graph parts) set plain = refl
plain_plan true (Laurent graph lo hi num den parts) set plain = refl
plain_plan true (Dense from rows unknowns want) set plain = refl
plain_plan true (Sparse from unknowns want rows) set plain = absurd (false≢true (sym plain))

plain_plans : (graph : Graph) (sets : List (List ℕ)) (plans : List (Option Plan)) → has_solver graph ≡ false → length plans ≡ length graph.nodes → ((n : ℕ) → slice_index_or plans n None ≡ None) → ArePlans graph.nodes sets plans
plain_plans graph sets plans plain many none = record {
  many = many;
  each = λ n node is. none n ∙ sym (plain_plan node.needed node.kind (slice_index_or sets n []) (no_solver graph n node plain is));
}

module _ (sizes : List GraphSize) where
  -- the same where nothing is learned for any node
  pub fits_plain : (graph : Graph) (lengths : List ℕ) (place total inputs count : ℕ) (learned : GraphLearned) → has_solver graph ≡ false → LengthsSoFar sizes graph [] lengths place total → place ≡ length graph.nodes → inputs ≡ length graph.inputs → count ≡ length graph.nodes
      → AreEmpty count learned.sets → AreNone count learned.plans → learned.lengths ≡ lengths → learned.output ≡ named_length inputs lengths graph.output → FitsGraph sizes graph learned
  fits_plain graph lengths place total inputs count learned plain so_far all inputs_is count_is empty none =
      fits_graph sizes graph learned.sets lengths place total inputs learned (LengthsSoFar-sets sizes graph [] learned.sets lengths place total (λ n below. sym (empty.each n)) so_far) all inputs_is (empty.many ∙ count_is ∙ sym all)
      (λ n node below is. subst (IsSetFor node) (sym (empty.each n)) (empty_set_for node)) (plain_plans graph learned.sets learned.plans plain (none.many ∙ count_is) none.each) refl

-- the plans of the first so many nodes
pub record PlansSoFar (nodes : List Node) (sets : List (List ℕ)) (plans : List (Option Plan)) (count : ℕ) : Type 0 where
  pub many : length plans ≡ count
  pub each : (n : ℕ) (node : Node) → n < count → slice_get nodes n ≡ Some node → slice_index_or plans n None ≡ plan_of (slice_index_or sets n []) node

pub PlansSoFar-none : (nodes : List Node) → PlansSoFar nodes [] [] 0
PlansSoFar-none nodes = record { many = refl; each = λ n node below is. absurd (omega arith) }

-- one more plan
pub PlansSoFar-more : (nodes : List Node) (sets more_sets : List (List ℕ)) (plans more : List (Option Plan)) (count : ℕ) (node : Node) (set : List ℕ) (plan : Option Plan) → PlansSoFar nodes sets plans count → length sets ≡ count → slice_get nodes count ≡ Some node
    → plan ≡ plan_of set node → more_sets ≡ sets ++ set ∷ [] → more ≡ plans ++ plan ∷ [] → PlansSoFar nodes more_sets more (count + 1)
PlansSoFar-more nodes sets more_sets plans more count node set plan so_far sets_many is planned sets_joined joined = record {
  many = ap length joined ∙ length-append plans (plan ∷ []) ∙ ap (λ n. n + 1) so_far.many;
  each = λ n other below at. elim (cases_eq n count) [
    | inl e ↦
        let both : Some node ≡ Some other = sym is ∙ ap (slice_get nodes) (sym e) ∙ at in
        let same : node ≡ other = cc in
        let here : slice_index_or more n None ≡ plan = ap (λ ps. slice_index_or ps n None) joined ∙ ap (λ k. slice_index_or (plans ++ plan ∷ []) k None) (e ∙ sym so_far.many) ∙ get_or-append_seam plans plan [] None in
        let set_here : slice_index_or more_sets n [] ≡ set = ap (λ ss. slice_index_or ss n []) sets_joined ∙ ap (λ k. slice_index_or (sets ++ set ∷ []) k []) (e ∙ sym sets_many) ∙ get_or-append_seam sets set [] [] in
        here ∙ planned ∙ ap (plan_of set) same ∙ ap (λ s. plan_of s other) (sym set_here)
    | inr ne ↦
        let earlier : n < count = omega arith in
        let here : slice_index_or more n None ≡ slice_index_or plans n None = ap (λ ps. slice_index_or ps n None) joined ∙ get_or-append plans (plan ∷ []) None n (omega (arith, so_far.many)) in
        let set_here : slice_index_or more_sets n [] ≡ slice_index_or sets n [] = ap (λ ss. slice_index_or ss n []) sets_joined ∙ get_or-append sets (set ∷ []) [] n (omega (arith, sets_many)) in
        here ∙ so_far.each n other earlier at ∙ ap (λ s. plan_of s other) (sym set_here)
  ];
}

-- with every node's plan
pub plans_all : (nodes : List Node) (sets : List (List ℕ)) (plans : List (Option Plan)) (count : ℕ) → PlansSoFar nodes sets plans count → count ≡ length nodes → ArePlans nodes sets plans
plans_all nodes sets plans count so_far all = record { many = so_far.many ∙ all; each = λ n node is. so_far.each n node (omega (arith, slice_get_within nodes n node is)) is }
