-- How many words graphs need, each over those before it.
use Rattle.std.proofs.Common.{◌≡◌, ℕ, zero, suc, ◌+◌, ◌<◌, ◌≤◌, Bool, true, false, if◌then◌else◌, List, [], ◌∷◌, length, take, replicate, set, sum, get_or, Option, Some, None, inl, inr, refl, sym, ◌∙◌, ap, add-one, arith}
use Rattle.std.specs.Prelude.{nat_le, option_and_then, slice_get, slice_index, slice_index_or}
use Rattle.std.proofs.Math.Nat.{le-max_left, le-max_right, max-le, mul-le-mul_left, mul-le-mul_right}
use Rattle.std.proofs.Math.Path.{fun_ext}
use Rattle.std.proofs.lemmas.Bool.{cases_lt, leb-true}
use Rattle.std.proofs.lemmas.Bool.Decides.{eqb_tells}
use Rattle.std.proofs.lemmas.Option.{slice_get_within}
use Rattle.graph_file.specs.Sound.{IsGraph, IsKind, called_graph}
use Rattle.graph_file.specs.declared.graph.Graph.{Graph}
use Rattle.graph_file.specs.declared.graph.Node.{Node}
use Rattle.graph_file.specs.declared.graph.NodeKind.{NodeKind}
use Rattle.graph_file.specs.declared.graph.NodeKind.TheVariants.{Eval, Take, Slice, Chain, Sum, Product, Matmul, Dense, Sparse, Call, Memo, Map, Laurent}
use Rattle.graph_eval.specs.declared.learned.GraphLearned.{GraphLearned}
use Rattle.graph_file.specs.declared.graph.Source.{Source}
use Rattle.graph_file.specs.declared.graph.Source.TheVariants as source
use Rattle.graph_eval.specs.declared.shapes.GraphSize.{GraphSize}
use Rattle.graph_eval.specs.Learned.{AreGraphs, FitsFirst, FitsGraph, joined_length, kind_length, named_length, sizes_of}
use Rattle.graph_eval.proofs.Places.{stands}
use Rattle.graph_eval.specs.Needs.{expansion_words, extra_of, graph_words, greatest_extra, node_extra, output_at, words_at, words_below, words_for}

module _ (graphs : List Graph) (learned : List GraphLearned) where
  -- an earlier graph needs what it needs
  pub words_earlier : (count number : ℕ) → number < count → words_below graphs learned count number ≡ words_for graphs learned number
  words_earlier zero number below = absurd (omega arith)
  words_earlier (suc count) number below =
      elim (eqb_tells number count) [
        | inl same ↦
            ap (λ (here : Bool). if here then words_at (words_below graphs learned count) learned (slice_get graphs count) (slice_get learned count) else words_below graphs learned count number) same.0
            ∙ ap (words_for graphs learned) (sym same.1)
        | inr other ↦
            let apart = other.1 in
            let before : number < count = omega (arith, apart) in
            ap (λ (here : Bool). if here then words_at (words_below graphs learned count) learned (slice_get graphs count) (slice_get learned count) else words_below graphs learned count number) other.0
            ∙ words_earlier count number before
      ]

  -- so that a node that calls earlier graphs alone wants as many
  pub extra_same : (number : ℕ) (kind : NodeKind) → ((called : ℕ) → called_graph kind ≡ Some called → called < number) → extra_of (words_for graphs learned) learned kind ≡ extra_of (words_below graphs learned number) learned kind
  extra_same number (Eval from exprs) earlier = refl
  extra_same number (Take parts) earlier = refl
  extra_same number (Slice from first last) earlier = refl
  extra_same number (Chain parts) earlier = refl
  extra_same number (Sum parts) earlier = refl
  extra_same number (Product parts) earlier = refl
  extra_same number (Matmul left right rows mid cols) earlier = refl
  extra_same number (Dense from rows unknowns want) earlier = refl
  extra_same number (Sparse from unknowns want rows) earlier = refl
  extra_same number (Call graph parts) earlier = sym (words_earlier number graph (earlier graph refl))
  extra_same number (Memo graph parts) earlier = sym (words_earlier number graph (earlier graph refl))
  extra_same number (Map graph parts) earlier = sym (words_earlier number graph (earlier graph refl))
  extra_same number (Laurent graph lo hi num den parts) earlier = ap (λ n. n + expansion_words (num + den + 3) (output_at (slice_get learned graph))) (sym (words_earlier number graph (earlier graph refl)))

  pub node_extra_same : (number : ℕ) (node : Node) → ((called : ℕ) → called_graph node.kind ≡ Some called → called < number) → node_extra (words_for graphs learned) learned node ≡ node_extra (words_below graphs learned number) learned node
  node_extra_same number node earlier = ap (λ n. if node.needed then n else 0) (extra_same number node.kind earlier)

-- no node wants more than the most
pub greatest_at : (words : ℕ → ℕ) (learned : List GraphLearned) (nodes : List Node) (n : ℕ) (node : Node) → slice_get nodes n ≡ Some node → node_extra words learned node ≤ greatest_extra words learned nodes
greatest_at words learned [] n node is = absurd (omega (arith, slice_get_within [] n node is))
greatest_at words learned (first ∷ nodes) zero node is =
    let same : first ≡ node = cc in
    omega (arith, le-max_left (node_extra words learned first) (greatest_extra words learned nodes), ap (node_extra words learned) same)
greatest_at words learned (first ∷ nodes) (suc n) node is = omega (arith, le-max_right (node_extra words learned first) (greatest_extra words learned nodes), greatest_at words learned nodes n node is)

-- an expansion wants few words
expansion_bound : (points outputs : ℕ) → points ≤ 131 → outputs ≤ 4294967295 → expansion_words points outputs ≤ 562640717241
expansion_bound points outputs few low =
    let one = mul-le-mul_right {m = points} {n = 131} outputs few in
    let two = mul-le-mul_left {m = outputs} {n = 4294967295} 131 low in
    omega arith

-- a graph's nodes want no more than the most of what systems and earlier graphs want
module _ (words : ℕ → ℕ) (learned : List GraphLearned) (limit : ℕ) (large : 16801800 ≤ limit) (each : (k : ℕ) → words k ≤ limit) (low : (k : ℕ) → output_at (slice_get learned k) ≤ 4294967295) where
  pub extra_bound : (variables place : ℕ) (kind : NodeKind) → IsKind variables place kind → extra_of words learned kind ≤ limit + 562640717241
  extra_bound variables place (Eval from exprs) is = omega arith
  extra_bound variables place (Take parts) is = omega arith
  extra_bound variables place (Slice from first last) is = omega arith
  extra_bound variables place (Chain parts) is = omega arith
  extra_bound variables place (Sum parts) is = omega arith
  extra_bound variables place (Product parts) is = omega arith
  extra_bound variables place (Matmul left right rows mid cols) is = omega arith
  extra_bound variables place (Dense from rows unknowns want) is =
      let one = mul-le-mul_right {m = unknowns + 4} {n = 4100} (unknowns + 2) (omega (arith, is.unknowns_high)) in
      let two = mul-le-mul_left {m = unknowns + 2} {n = 4098} 4100 (omega (arith, is.unknowns_high)) in
      omega (arith, large)
  extra_bound variables place (Sparse from unknowns want rows) is =
      let one = mul-le-mul_right {m = unknowns + 4} {n = 4100} (unknowns + 2) (omega (arith, is.unknowns_high)) in
      let two = mul-le-mul_left {m = unknowns + 2} {n = 4098} 4100 (omega (arith, is.unknowns_high)) in
      omega (arith, large)
  extra_bound variables place (Call graph parts) is = omega (arith, each graph)
  extra_bound variables place (Memo graph parts) is = omega (arith, each graph)
  extra_bound variables place (Map graph parts) is = omega (arith, each graph)
  extra_bound variables place (Laurent graph lo hi num den parts) is = omega (arith, each graph, expansion_bound (num + den + 3) (output_at (slice_get learned graph)) (omega (arith, is.num_low, is.den_low)) (low graph))

  node_bound : (needed : Bool) (extra : ℕ) → extra ≤ limit + 562640717241 → (if needed then extra else 0) ≤ limit + 562640717241
  node_bound true extra within = within
  node_bound false extra within = omega arith

  nodes_bound : (nodes : List Node) → ((n : ℕ) (node : Node) → slice_get nodes n ≡ Some node → node_extra words learned node ≤ limit + 562640717241) → greatest_extra words learned nodes ≤ limit + 562640717241
  nodes_bound [] all = omega arith
  nodes_bound (node ∷ nodes) all = let here = all 0 node refl in let rest = nodes_bound nodes (λ n other at. all (suc n) other at) in max-le here rest

  pub greatest_extra_bound : (graph : Graph) → IsGraph graph → greatest_extra words learned graph.nodes ≤ limit + 562640717241
  greatest_extra_bound graph sound = nodes_bound graph.nodes (λ n node at. node_bound node.needed (extra_of words learned node.kind) (extra_bound (length graph.inputs) n node.kind (sound.nodes n node at).kind))

-- one graph's words more
index_set_same : (xs : List ℕ) (i v : ℕ) → i < length xs → get_or (set xs i v) i 0 ≡ v
index_set_same [] i v below = absurd (omega arith)
index_set_same (x ∷ xs) zero v below = refl
index_set_same (x ∷ xs) (suc i) v below = index_set_same xs i v (omega arith)

index_set_other : (xs : List ℕ) (i j v : ℕ) → (j ≡ i → ⊥) → get_or (set xs i v) j 0 ≡ get_or xs j 0
index_set_other [] i j v other = refl
index_set_other (x ∷ xs) zero zero v other = absurd (other refl)
index_set_other (x ∷ xs) zero (suc j) v other = refl
index_set_other (x ∷ xs) (suc i) zero v other = refl
index_set_other (x ∷ xs) (suc i) (suc j) v other = index_set_other xs i j v (λ same. other (ap suc same))

module _ (graphs : List Graph) (learned : List GraphLearned) (words : List ℕ) (number v : ℕ) (graph : Graph) (entry : GraphLearned) (is : slice_get graphs number ≡ Some graph) (entry_is : slice_get learned number ≡ Some entry) (within : number < length words) (each : (k : ℕ) → slice_index words k ≡ words_below graphs learned number k) where
  words_same : slice_index words ≡ words_below graphs learned number
  words_same = fun_ext each

  pub words_more : v ≡ graph_words (slice_index words) learned graph entry → (k : ℕ) → slice_index (set words number v) k ≡ words_below graphs learned (number + 1) k
  words_more v_is k =
      let step : words_below graphs learned (number + 1) k ≡ words_below graphs learned (suc number) k = ap (λ n. words_below graphs learned n k) (add-one number) in
      elim (eqb_tells k number) [
        | inl same ↦
            ap (λ n. slice_index (set words number v) n) same.1
            ∙ index_set_same words number v within
            ∙ v_is
            ∙ ap (λ (w : ℕ → ℕ). graph_words w learned graph entry) words_same
            ∙ sym (ap (λ o. words_at (words_below graphs learned number) learned o (slice_get learned number)) is ∙ ap (words_at (words_below graphs learned number) learned (Some graph)) entry_is)
            ∙ sym (ap (λ (here : Bool). if here then words_at (words_below graphs learned number) learned (slice_get graphs number) (slice_get learned number) else words_below graphs learned number k) same.0)
            ∙ sym step
        | inr other ↦
            index_set_other words number k v other.1
            ∙ each k
            ∙ sym (ap (λ (here : Bool). if here then words_at (words_below graphs learned number) learned (slice_get graphs number) (slice_get learned number) else words_below graphs learned number k) other.0)
            ∙ sym step
      ]

-- what stands among numbers of which one is replaced is within what bounds all
pub set_bound : (xs : List ℕ) (i v limit : ℕ) → v ≤ limit → ((k : ℕ) → get_or xs k 0 ≤ limit) → (k : ℕ) → get_or (set xs i v) k 0 ≤ limit
set_bound [] i v limit own each k = each k
set_bound (x ∷ xs) zero v limit own each zero = own
set_bound (x ∷ xs) zero v limit own each (suc k) = each (suc k)
set_bound (x ∷ xs) (suc i) v limit own each zero = each zero
set_bound (x ∷ xs) (suc i) v limit own each (suc k) = set_bound xs i v limit own (λ j. each (suc j)) k

-- nothing but zeros
pub index_none : (n k : ℕ) → ◌≡◌ {A = ℕ} (get_or (replicate n 0) k 0) 0
index_none zero k = refl
index_none (suc n) zero = refl
index_none (suc n) (suc k) = index_none n k

-- the outputs of graphs of which something was learned are no longer than the lists of a graph may be together
module _ (graphs : List Graph) (learned : List GraphLearned) (sound : AreGraphs graphs) (fits : FitsFirst graphs learned (length learned)) (within : length learned ≤ length graphs) where
  own_low : (needed : Bool) (earlier : List ℕ) (own : Option ℕ) (n : ℕ) → (if needed then option_and_then (joined_length earlier) own else Some 0) ≡ Some n → n ≤ 2097152
  own_low true earlier None n is = cc
  own_low true earlier (Some own) n is = small (nat_le (sum earlier + own) 2097152) refl is
    where
      small : (b : Bool) → nat_le (sum earlier + own) 2097152 ≡ b → (if b then Some own else None) ≡ Some n → n ≤ 2097152
      small true low at = let same : own ≡ n = cc in let bound = leb-true _ _ low in omega (arith, bound, same)
      small false low at = let never : None ≡ Some n = at in cc
  own_low false earlier own n is = let same : 0 ≡ n = cc in omega (arith, same)

  listed_low : (graph : Graph) (entry : GraphLearned) (sizes : List GraphSize) → IsGraph graph → FitsGraph sizes graph entry → (from : Source) → named_length (length graph.inputs) entry.lengths from ≤ 2097152
  listed_low graph entry sizes is fit source.Input = omega (arith, is.few)
  listed_low graph entry sizes is fit (source.Node k) = elim (cases_lt k (length entry.lengths)) [
    | inl below ↦
        let node = stands graph.nodes k (omega (arith, fit.all)) in
        own_low node.0.needed (take k entry.lengths) (kind_length sizes (length graph.inputs) (take k entry.lengths) (slice_index_or entry.sets k []) node.0.kind) (slice_index entry.lengths k) (fit.first.each k node.0 below node.1)
    | inr past ↦ omega (arith, past_end entry.lengths k past)
  ]
    where
      past_end : (xs : List ℕ) (j : ℕ) → length xs ≤ j → ◌≡◌ {A = ℕ} (get_or xs j 0) 0
      past_end [] j past = refl
      past_end (x ∷ xs) zero past = absurd (omega arith)
      past_end (x ∷ xs) (suc j) past = past_end xs j (omega arith)

  pub outputs_low : (k : ℕ) → output_at (slice_get learned k) ≤ 4294967295
  outputs_low k = at (slice_get learned k) refl
    where
      at : (o : Option GraphLearned) → slice_get learned k ≡ o → output_at o ≤ 4294967295
      at None is = omega arith
      at (Some entry) is =
          let graph = stands graphs k (omega (arith, slice_get_within learned k entry is)) in
          let fit = fits.each k graph.0 entry graph.1 is in
          omega (arith, fit.output, listed_low graph.0 entry (sizes_of graphs (take k learned)) (sound.graph k graph.0 graph.1) fit graph.0.output)
