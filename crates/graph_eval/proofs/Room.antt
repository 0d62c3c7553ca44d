-- What a node's length says of the lists that it names.
use Rattle.std.proofs.Common.{◌≡◌, Result, Ok, Err, ℕ, ℤ, zero, suc, ◌+◌, ◌-◌, ◌*◌, ◌<◌, ◌≤◌, Bool, true, false, IsTrue, if◌then◌else◌, List, [], ◌∷◌, All, length, map, get_or, sum, Some, None, refl, sym, ◌∙◌, ap, subst, arith, inl, inr}
use Rattle.std.specs.Prelude.{◌&&◌, ◌==◌, IfErr, OnOk, max, nat_le, option_map, slice_get}
use Rattle.std.proofs.Math.Nat.{le-max_left, le-max_right, max-le, mul-le-mul_left, mul-le-mul_right}
use Rattle.std.proofs.lemmas.Bool.{cases_eq, eqb-true, leb-true, false≢true}
use Rattle.std.proofs.lemmas.List.{length-map, get_or-map}
use Rattle.std.proofs.lemmas.List.Elements.{All-nil, All-cons, All-head, All-tail, All-get_or, All-from_get_or}
use Rattle.std.proofs.lemmas.Option.{get_or_from_slice_get, slice_get-get_or, slice_get-map, slice_get_within}
use Rattle.std.proofs.lemmas.List.Sums.{AllPass-from_list_all}
use Rattle.prime_field.specs.Residue.{IsPrime}
use Rattle.elim_core.specs.Sparse.{entries_of}
use Rattle.elim_core.specs.declared.SparseRow.{SparseRow}
use Rattle.ratfun_text.specs.Value.{greatest, value}
use Rattle.ratfun_text.specs.declared.expr.Expr.{Expr}
use Rattle.basic_nodes.specs.Lengths.{are_all, are_equal, are_within}
use Rattle.basic_nodes.specs.Plain.{chained}
use Rattle.basic_nodes.proofs.LengthRules.{ruled_some, are_equal_at, are_within_at}
use Rattle.basic_nodes.proofs.Pieces.{length-chained}
use Rattle.graph_file.specs.Line.{all_of}
use Rattle.graph_file.specs.Needed.{sources_of}
use Rattle.graph_file.specs.Sound.{IsGraph, IsKind}
use Rattle.graph_file.specs.declared.graph.Graph.{Graph}
use Rattle.graph_file.specs.declared.graph.Node.{Node}
use Rattle.graph_file.specs.declared.graph.NodeKind.{NodeKind}
use Rattle.graph_file.specs.declared.graph.NodeKind.TheVariants.{Eval, Take, Slice, Chain, Sum, Product, Matmul, Dense, Sparse, Call, Memo, Map, Laurent}
use Rattle.graph_file.specs.declared.graph.Source.{Source}
use Rattle.graph_file.specs.declared.graph.Source.TheVariants as source
use Rattle.graph_eval.specs.Expanded.{orders_of, window_of}
use Rattle.graph_eval.specs.Evaluated.{no_graphs}
use Rattle.graph_eval.specs.GraphValue.{KindFails, KindGives}
use Rattle.graph_eval.specs.declared.outcome.Cause.{Cause}
use Rattle.graph_eval.specs.declared.outcome.Cause.TheVariants.{Division}
use Rattle.graph_eval.specs.Learned.{greatest_among, listed_length, size_at}
use Rattle.graph_eval.specs.Reading.{HasLength, IsEntry, IsThere, placed}
use Rattle.graph_eval.specs.Systems.{AreEnough, AreEnoughFor, greatest_work, words_of, work_of}
use Rattle.graph_eval.specs.declared.shapes.GraphSize.{GraphSize}

-- no expression uses a position past the greatest
greatest_each : (exprs : List Expr) (bound : ℕ) → greatest_among exprs ≤ bound → All (λ expr. greatest expr ≤ bound) exprs
greatest_each [] bound within = All-nil (λ expr. greatest expr ≤ bound)
greatest_each (expr ∷ rest) bound within =
    All-cons (λ e. greatest e ≤ bound) expr rest
    (omega (arith, le-max_left (greatest expr) (greatest_among rest)))
    (greatest_each rest bound (omega (arith, le-max_right (greatest expr) (greatest_among rest))))

both_true : (a b : Bool) → (a && b) ≡ true → (a ≡ true) × (b ≡ true)
both_true true b both = (refl, both)
both_true false b both = absurd (false≢true both)

all_get : {X : Type 0} (P : X → Type 0) (xs : List X) (k : ℕ) (x : X) → slice_get xs k ≡ Some x → All P xs → P x
all_get P xs k x at all = subst P (get_or_from_slice_get xs k x x at) (All-get_or P xs k x (slice_get_within xs k x at) all)

-- the first list that a node names is there, and the second
pub first_there : (words places : List ℕ) (kind : NodeKind) (from : Source) (rest : List Source) → sources_of kind ≡ from ∷ rest → All (IsThere words places) (sources_of kind) → IsThere words places from
first_there words places kind from rest names there = All-head (IsThere words places) from rest (subst (All (IsThere words places)) names there)

pub second_there : (words places : List ℕ) (kind : NodeKind) (first second : Source) → sources_of kind ≡ first ∷ second ∷ [] → All (IsThere words places) (sources_of kind) → IsThere words places second
second_there words places kind first second names there =
    All-head (IsThere words places) second [] (All-tail (IsThere words places) first (second ∷ []) (subst (All (IsThere words places)) names there))

-- a node that evaluates expressions gives their values, and fails where one has none
pub eval_gives : (m : ℕ) (set : List ℕ) (list : Source → List ℕ) (kind : NodeKind) (from : Source) (exprs shown : List Expr) (arguments values : List ℕ) (answer : Result (Unit {0}) Cause) → kind ≡ Eval from exprs → arguments ≡ list from → shown ≡ exprs
    → OnOk answer (all_of (map (value m arguments) shown) ≡ Some values) → OnOk answer (IsPrime m → KindGives m no_graphs set list kind values)
eval_gives m set list kind from exprs shown arguments values (Err cause) is arguments_is shown_is gives = tt
eval_gives m set list kind from exprs shown arguments values (Ok done) is arguments_is shown_is gives = λ prime.
    subst (λ (k : NodeKind). KindGives m no_graphs set list k values) (sym is)
    (ap (λ xs. all_of (map (value m xs) exprs)) (sym arguments_is) ∙ ap (λ es. all_of (map (value m arguments) es)) (sym shown_is) ∙ gives)

pub eval_fails : (m : ℕ) (set : List ℕ) (list : Source → List ℕ) (kind : NodeKind) (from : Source) (exprs shown : List Expr) (arguments : List ℕ) (answer : Result (Unit {0}) Cause) → kind ≡ Eval from exprs → arguments ≡ list from → shown ≡ exprs
    → IfErr answer (λ cause. (all_of (map (value m arguments) shown) ≡ None) × (cause ≡ Division)) → IfErr answer (λ cause. IsPrime m → KindFails m no_graphs set list kind cause)
eval_fails m set list kind from exprs shown arguments (Ok done) is arguments_is shown_is fails = tt
eval_fails m set list kind from exprs shown arguments (Err cause) is arguments_is shown_is fails = λ prime.
    subst (λ (k : NodeKind). KindFails m no_graphs set list k cause) (sym is)
    (ap (λ xs. all_of (map (value m xs) exprs)) (sym arguments_is) ∙ ap (λ es. all_of (map (value m arguments) es)) (sym shown_is) ∙ fails.0, fails.1)

rooms_are : (list : Source → List ℕ) (parts : List Source) → map (λ from. length (list from)) parts ≡ map (λ xs. length xs) (map list parts)
rooms_are list [] = refl
rooms_are list (from ∷ parts) = ap (λ ns. length (list from) ∷ ns) (rooms_are list parts)

module _ (sizes : List GraphSize) (words places set : List ℕ) where
  abbrev room : Source → ℕ
  room from = length (placed words places from)

  module _ (from : Source) (exprs : List Expr) (own : ℕ) (has : listed_length sizes (placed words places) set (Eval from exprs) ≡ Some own) where
    pub eval_room : length exprs ≡ own
    eval_room = (ruled_some (nat_le (greatest_among exprs) (room from)) (length exprs) own has).1

    pub eval_enough : All (λ expr. greatest expr ≤ length (placed words places from)) exprs
    eval_enough =
        let within : greatest_among exprs ≤ room from = leb-true _ _ (ruled_some (nat_le (greatest_among exprs) (room from)) (length exprs) own has).0 in
        greatest_each exprs (length (placed words places from)) (omega arith)

  module _ (parts : List (Source × ℕ)) (own : ℕ) (has : listed_length sizes (placed words places) set (Take parts) ≡ Some own) where
    pub take_room : length parts ≡ own
    take_room = sym (length-map parts (λ part. part.1)) ∙ (ruled_some (are_within (map (λ part. part.1) parts) (map room (map (λ part. part.0) parts))) (length (map (λ part. part.1) parts)) own has).1

    pub take_entries : (variables number : ℕ) → IsKind variables number (Take parts) → All (IsThere words places) (sources_of (Take parts)) → All (IsEntry words places) parts
    take_entries variables number is there = All-from_get_or (IsEntry words places) parts (source.Input, 0) (λ i below.
        let part = get_or parts i (source.Input, 0) in
        let at : slice_get parts i ≡ Some part = slice_get-get_or parts i (source.Input, 0) below in
        let position = is.positions i part at in
        let within : get_or (map (λ p. p.1) parts) i 0 ≤ get_or (map room (map (λ p. p.0) parts)) i 0 =
        are_within_at (map (λ p. p.1) parts) (map room (map (λ p. p.0) parts)) (ruled_some (are_within (map (λ p. p.1) parts) (map room (map (λ p. p.0) parts))) (length (map (λ p. p.1) parts)) own has).0 i (omega (arith, length-map parts (λ p. p.1))) in
        let mine : get_or (map (λ p. p.1) parts) i 0 ≡ part.1 = get_or-map (λ (p : Source × ℕ). p.1) parts i (source.Input, 0) 0 below in
        let source_at : get_or (map (λ p. p.0) parts) i source.Input ≡ part.0 = get_or-map (λ (p : Source × ℕ). p.0) parts i (source.Input, 0) source.Input below in
        let theirs : get_or (map room (map (λ p. p.0) parts)) i 0 ≡ room part.0 = get_or-map room (map (λ p. p.0) parts) i source.Input 0 (omega (arith, length-map parts (λ p. p.0))) ∙ ap room source_at in
        let among_at : slice_get (map (λ p. p.0) parts) i ≡ Some part.0 = slice_get-map (λ (p : Source × ℕ). p.0) parts i ∙ ap (λ o. option_map (λ (p : Source × ℕ). p.0) o) at in
        record {
          there = all_get (IsThere words places) (map (λ p. p.0) parts) i part.0 among_at there;
          first = position.first;
          last = omega (arith, within, mine, theirs);
        })

  module _ (from : Source) (first last own : ℕ) (has : listed_length sizes (placed words places) set (Slice from first last) ≡ Some own) where
    pub slice_room : last + 1 - first ≡ own
    slice_room = (ruled_some (nat_le last (room from)) (last + 1 - first) own has).1

    pub slice_within : last ≤ length (placed words places from)
    slice_within =
        let within : last ≤ room from = leb-true _ _ (ruled_some (nat_le last (room from)) (last + 1 - first) own has).0 in
        omega arith

  pub chain_room : (parts : List Source) (own : ℕ) → listed_length sizes (placed words places) set (Chain parts) ≡ Some own → own ≡ length (chained (map (placed words places) parts))
  chain_room parts own has =
      sym (ruled_some true (sum (map room parts)) own has).1
      ∙ ap sum (rooms_are (placed words places) parts)
      ∙ sym (length-chained (map (placed words places) parts))

  -- lists of equal lengths all have the length of the first
  same_room : (parts : List Source) (own : ℕ) → are_equal (map room parts) ≡ true → get_or (map room parts) 0 0 ≡ own → All (HasLength words places own) parts
  same_room parts own equal is = All-from_get_or (HasLength words places own) parts source.Input (λ i below.
      let same = are_equal_at (map room parts) equal i (omega (arith, length-map parts room)) in
      let at : get_or (map room parts) i 0 ≡ room (get_or parts i source.Input) = get_or-map room parts i source.Input 0 below in
      sym at ∙ same ∙ is)

  pub sum_same : (parts : List Source) (own : ℕ) → listed_length sizes (placed words places) set (Sum parts) ≡ Some own → All (HasLength words places own) parts
  sum_same parts own has = let rule = ruled_some (are_equal (map room parts)) (get_or (map room parts) 0 0) own has in same_room parts own rule.0 rule.1

  pub product_same : (parts : List Source) (own : ℕ) → listed_length sizes (placed words places) set (Product parts) ≡ Some own → All (HasLength words places own) parts
  product_same parts own has = let rule = ruled_some (are_equal (map room parts)) (get_or (map room parts) 0 0) own has in same_room parts own rule.0 rule.1

  module _ (left right : Source) (rows mid cols own : ℕ) (has : listed_length sizes (placed words places) set (Matmul left right rows mid cols) ≡ Some own) where
    fits : ((room left == rows * mid) ≡ true) × ((room right == mid * cols) ≡ true)
    fits = both_true (room left == rows * mid) (room right == mid * cols) (ruled_some (room left == rows * mid && room right == mid * cols) (rows * cols) own has).0

    pub matmul_room : own ≡ rows * cols
    matmul_room = sym (ruled_some (room left == rows * mid && room right == mid * cols) (rows * cols) own has).1

    pub matmul_left : length (placed words places left) ≡ rows * mid
    matmul_left = eqb-true (room left) (rows * mid) fits.0

    pub matmul_right : length (placed words places right) ≡ mid * cols
    matmul_right = eqb-true (room right) (mid * cols) fits.1

  module _ (from : Source) (rows unknowns : ℕ) (want : List ℕ) (own : ℕ) (has : listed_length sizes (placed words places) set (Dense from rows unknowns want) ≡ Some own) where
    pub dense_room : own ≡ length want * (length set + 1)
    dense_room = sym (ruled_some (room from == rows * (unknowns + 1)) (length want * (length set + 1)) own has).1

    pub dense_entries : length (placed words places from) ≡ rows * (unknowns + 1)
    dense_entries = eqb-true (room from) (rows * (unknowns + 1)) (ruled_some (room from == rows * (unknowns + 1)) (length want * (length set + 1)) own has).0

  module _ (from : Source) (unknowns : ℕ) (want : List ℕ) (rows : List SparseRow) (own : ℕ) (has : listed_length sizes (placed words places) set (Sparse from unknowns want rows) ≡ Some own) where
    pub sparse_room : own ≡ length want * (length set + 1)
    sparse_room = sym (ruled_some (room from == entries_of rows) (length want * (length set + 1)) own has).1

    pub sparse_entries : length (placed words places from) ≡ entries_of rows
    sparse_entries = eqb-true (room from) (entries_of rows) (ruled_some (room from == entries_of rows) (length want * (length set + 1)) own has).0

  -- a node that calls a graph has its inputs, and its list is the graph's output
  module _ (graph : ℕ) (parts : List Source) (own : ℕ) where
    abbrev size : GraphSize
    size = size_at sizes graph

    module _ (has : listed_length sizes (placed words places) set (Call graph parts) ≡ Some own) where
      pub call_inputs : length (chained (map (placed words places) parts)) ≡ (size_at sizes graph).inputs
      call_inputs =
          length-chained (map (placed words places) parts) ∙ sym (ap sum (rooms_are (placed words places) parts))
          ∙ eqb-true (sum (map room parts)) size.inputs (ruled_some (sum (map room parts) == size.inputs) size.outputs own has).0

      pub call_outputs : own ≡ (size_at sizes graph).outputs
      call_outputs = sym (ruled_some (sum (map room parts) == size.inputs) size.outputs own has).1

    module _ (has : listed_length sizes (placed words places) set (Map graph parts) ≡ Some own) where
      pub map_inputs : All (HasLength words places (size_at sizes graph).inputs) parts
      map_inputs = All-from_get_or (HasLength words places size.inputs) parts source.Input (λ i below.
          let all = (ruled_some (are_all size.inputs (map room parts)) (length (map room parts) * size.outputs) own has).0 in
          let at : get_or (map room parts) i 0 ≡ room (get_or parts i source.Input) = get_or-map room parts i source.Input 0 below in
          sym at ∙ eqb-true _ _ (All-get_or (λ n. (n == size.inputs) ≡ true) (map room parts) i 0 (omega (arith, length-map parts room)) (AllPass-from_list_all (λ n. n == size.inputs) (map room parts) all)))

      pub map_outputs : own ≡ length parts * (size_at sizes graph).outputs
      map_outputs = sym (ruled_some (are_all size.inputs (map room parts)) (length (map room parts) * size.outputs) own has).1 ∙ ap (λ n. n * size.outputs) (length-map parts room)

  -- a node that expands a graph has its inputs but the first, and its list has so many coefficients for each of its outputs
  module _ (graph : ℕ) (lo hi : ℤ) (num den : ℕ) (parts : List Source) (own : ℕ) (has : listed_length sizes (placed words places) set (Laurent graph lo hi num den parts) ≡ Some own) where
    abbrev orders : ℕ
    orders = orders_of (window_of lo hi num den)

    pub laurent_inputs : length (chained (map (placed words places) parts)) + 1 ≡ (size_at sizes graph).inputs
    laurent_inputs =
        ap (λ n. n + 1) (length-chained (map (placed words places) parts) ∙ sym (ap sum (rooms_are (placed words places) parts)))
        ∙ eqb-true (sum (map room parts) + 1) (size_at sizes graph).inputs (ruled_some (sum (map room parts) + 1 == (size_at sizes graph).inputs) ((size_at sizes graph).outputs * orders) own has).0

    pub laurent_outputs : own ≡ (size_at sizes graph).outputs * orders_of (window_of lo hi num den)
    laurent_outputs = sym (ruled_some (sum (map room parts) + 1 == (size_at sizes graph).inputs) ((size_at sizes graph).outputs * orders) own has).1

-- the greatest work is enough for each node
greatest_each_work : (nodes : List Node) (n : ℕ) (node : Node) → slice_get nodes n ≡ Some node → work_of node ≤ greatest_work nodes
greatest_each_work [] n node is = absurd (omega (arith, slice_get_within [] n node is))
greatest_each_work (first ∷ nodes) zero node is =
    let same : first ≡ node = cc in
    omega (arith, le-max_left (work_of first) (greatest_work nodes), ap work_of same)
greatest_each_work (first ∷ nodes) (suc n) node is = omega (arith, le-max_right (work_of first) (greatest_work nodes), greatest_each_work nodes n node is)

work_needed : (node : Node) → IsTrue node.needed → work_of node ≡ words_of node.kind
work_needed node needed = ap (λ (b : Bool). if b then words_of node.kind else 0) needed

pub enough_greatest : (nodes : List Node) (words : ℕ) → greatest_work nodes ≤ words → AreEnough nodes words
enough_greatest nodes words most = record { each = λ n node is needed. omega (arith, work_needed node needed, greatest_each_work nodes n node is) }

-- so many words are enough for the systems of the first so many graphs
pub record EnoughSoFar (graphs : List Graph) (count words : ℕ) : Type 0 where
  pub each : (n : ℕ) (graph : Graph) → n < count → slice_get graphs n ≡ Some graph → greatest_work graph.nodes ≤ words

pub EnoughSoFar-more : (graphs : List Graph) (count words own more : ℕ) (graph : Graph) → EnoughSoFar graphs count words → slice_get graphs count ≡ Some graph → own ≡ greatest_work graph.nodes → more ≡ max own words → EnoughSoFar graphs (count + 1) more
EnoughSoFar-more graphs count words own more graph so_far is own_is more_is = record {
  each = λ n other below at. elim (cases_eq n count) [
    | inl e ↦
        let both : Some graph ≡ Some other = sym is ∙ ap (slice_get graphs) (sym e) ∙ at in
        let same : graph ≡ other = cc in
        omega (arith, le-max_left own words, ap (λ (g : Graph). greatest_work g.nodes) same)
    | inr ne ↦ omega (arith, le-max_right own words, so_far.each n other (omega arith) at)
  ];
}

pub enough_all : (graphs : List Graph) (count words enough : ℕ) → EnoughSoFar graphs count words → length graphs ≤ count → enough ≡ words → AreEnoughFor graphs enough
enough_all graphs count words enough so_far all same = record { graph = λ n graph is. enough_greatest graph.nodes enough (omega (arith, so_far.each n graph (omega (arith, slice_get_within graphs n graph is)) is)) }

-- a graph's systems want few words
work_bound : (variables place : ℕ) (node : Node) → IsKind variables place node.kind → work_of node ≤ 16801800
work_bound variables place node is = when node.needed
  where
    product : (u : ℕ) → u ≤ 4096 → (u + 4) * (u + 2) ≤ 16801800
    product u few = let one = mul-le-mul_right {m = u + 4} {n = 4100} (u + 2) (omega arith) in let two = mul-le-mul_left {m = u + 2} {n = 4098} 4100 (omega arith) in omega arith

    wants : (kind : NodeKind) → IsKind variables place kind → words_of kind ≤ 16801800
    wants (Eval from exprs) is = omega arith
    wants (Take parts) is = omega arith
    wants (Slice from first last) is = omega arith
    wants (Chain parts) is = omega arith
    wants (Sum parts) is = omega arith
    wants (Product parts) is = omega arith
    wants (Matmul left right rows mid cols) is = omega arith
    wants (Call graph parts) is = omega arith
    wants (Memo graph parts) is = omega arith
    wants (Map graph parts) is = omega arith
    wants (Laurent graph lo hi num den parts) is = omega arith
    wants (Dense from rows unknowns want) is = product unknowns (omega (arith, is.unknowns_high))
    wants (Sparse from unknowns want rows) is = product unknowns is.unknowns_high

    when : (needed : Bool) → (if needed then words_of node.kind else 0) ≤ 16801800
    when true = wants node.kind is
    when false = omega arith

greatest_within : (nodes : List Node) (bound : ℕ) → ((n : ℕ) (node : Node) → slice_get nodes n ≡ Some node → work_of node ≤ bound) → greatest_work nodes ≤ bound
greatest_within [] bound each = omega arith
greatest_within (node ∷ nodes) bound each = let here = each 0 node refl in let rest = greatest_within nodes bound (λ n other at. each (suc n) other at) in max-le here rest

pub greatest_bound : (graph : Graph) → IsGraph graph → greatest_work graph.nodes ≤ 16801800
greatest_bound graph sound = greatest_within graph.nodes 16801800 (λ n node at. work_bound (length graph.inputs) n node (sound.nodes n node at).kind)
