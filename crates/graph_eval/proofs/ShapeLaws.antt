-- What a sound node says of its length's rule.
use Rattle.std.proofs.Common.{◌≡◌, ℕ, zero, suc, ◌<◌, ◌≤◌, Bool, true, false, MatchBool, List, [], ◌∷◌, All, length, map, get_or, Some, refl, sym, ◌∙◌, arith, inl, inr}
use Rattle.std.specs.Prelude.{slice_get}
use Rattle.std.proofs.lemmas.Bool.{cases_lt}
use Rattle.std.proofs.lemmas.List.{length-map, get_or_past}
use Rattle.std.proofs.lemmas.List.Elements.{All-nil, All-cons, All-head, All-tail, All-map, All-get_or, All-from_get_or}
use Rattle.basic_nodes.specs.Lengths.{IsShape, HasLists, IsPosition}
use Rattle.elim_core.specs.Solver.{AreUnknowns, IsAscending}
use Rattle.graph_file.specs.Needed.{sources_of}
use Rattle.graph_file.specs.Sound.{IsEarlier, IsGraph, IsKind}
use Rattle.graph_file.proofs.KindFacts.{sources_earlier}
use Rattle.graph_file.specs.declared.graph.Graph.{Graph}
use Rattle.graph_file.specs.declared.graph.Node.{Node}
use Rattle.graph_file.specs.declared.graph.NodeKind.{NodeKind}
use Rattle.graph_file.specs.declared.graph.NodeKind.TheVariants.{Eval, Take, Slice, Chain, Sum, Product, Matmul, Dense, Sparse, Call, Memo, Map, Laurent}
use Rattle.graph_file.specs.declared.graph.Source.{Source}
use Rattle.graph_file.specs.declared.graph.Source.TheVariants as source
use Rattle.graph_eval.specs.declared.learned.GraphLearned.{GraphLearned}
use Rattle.graph_eval.specs.Learned.{AreFew, IsKindSet, IsSetFor, named_length, shape_of, size_at, size_of, sizes_of}
use Rattle.graph_eval.specs.Systems.{HasFewEntries, HasFewUnknowns, HasWindow}
use Rattle.graph_eval.specs.declared.shapes.GraphSize.{GraphSize}

-- what holds of what stands at each place holds of all
pub All-from_get : {X : Type 0} (P : X → Type 0) (xs : List X) → ((k : ℕ) (x : X) → slice_get xs k ≡ Some x → P x) → All P xs
All-from_get P [] each = All-nil P
All-from_get P (x ∷ xs) each = All-cons P x xs (each 0 x refl) (All-from_get P xs (λ k y is. each (suc k) y is))

-- the set of a solver has no more numbers than there are unknowns
ascending_at : (set : List ℕ) → IsAscending set → (u : ℕ) → AreUnknowns u set → (i : ℕ) → i < length set → i < get_or set i 0
ascending_at set ascending u numbers zero low = (numbers 0 low).0
ascending_at set ascending u numbers (suc i) low =
    let before = ascending_at set ascending u numbers i (omega arith) in
    omega (arith, before, ascending i (suc i) (omega arith) low)

pub set_small : (u : ℕ) (set : List ℕ) → IsAscending set → AreUnknowns u set → length set ≤ u
set_small u [] ascending numbers = omega arith
set_small u (x ∷ set) ascending numbers =
    let last = ascending_at (x ∷ set) ascending u numbers (length set) (omega arith) in
    omega (arith, last, (numbers (length set) (omega arith)).1)

-- nothing is learned for a node that is no solver, and may be learned for each node
pub empty_kind_set : (kind : NodeKind) → IsKindSet kind []
empty_kind_set (Eval from exprs) = refl
empty_kind_set (Take parts) = refl
empty_kind_set (Slice from first last) = refl
empty_kind_set (Chain parts) = refl
empty_kind_set (Sum parts) = refl
empty_kind_set (Product parts) = refl
empty_kind_set (Matmul left right rows mid cols) = refl
empty_kind_set (Call graph parts) = refl
empty_kind_set (Memo graph parts) = refl
empty_kind_set (Map graph parts) = refl
empty_kind_set (Laurent graph lo hi num den parts) = refl
empty_kind_set (Dense from rows unknowns want) = (λ i j order low. absurd (omega arith), λ i low. absurd (omega arith))
empty_kind_set (Sparse from unknowns want rows) = (λ i j order low. absurd (omega arith), λ i low. absurd (omega arith))

set_when : (needed : Bool) (kind : NodeKind) → MatchBool needed (IsKindSet kind []) (◌≡◌ {A = List ℕ} [] [])
set_when true kind = empty_kind_set kind
set_when false kind = refl

pub empty_set_for : (node : Node) → IsSetFor node []
empty_set_for node = set_when node.needed node.kind

-- graphs have few inputs
few_at : (sizes : List GraphSize) (number : ℕ) → AreFew sizes → (size_at sizes number).inputs ≤ 8
few_at [] number few = omega arith
few_at (size ∷ sizes) zero few = All-head (λ s. s.inputs ≤ 8) size sizes few
few_at (size ∷ sizes) (suc number) few = few_at sizes number (All-tail (λ s. s.inputs ≤ 8) size sizes few)

pub sizes_few : (graphs : List Graph) (learned : List GraphLearned) → ((k : ℕ) (graph : Graph) → slice_get graphs k ≡ Some graph → IsGraph graph) → AreFew (sizes_of graphs learned)
sizes_few graphs [] sound = All-nil (λ s. s.inputs ≤ 8)
sizes_few [] (entry ∷ learned) sound = All-nil (λ s. s.inputs ≤ 8)
sizes_few (graph ∷ graphs) (entry ∷ learned) sound = All-cons (λ s. s.inputs ≤ 8) (size_of graph entry) (sizes_of graphs learned) (sound 0 graph refl).few (sizes_few graphs learned (λ k other at. sound (suc k) other at))

-- the numbers of a sound node are in their ranges
pub shape_sound : (variables number : ℕ) (sizes : List GraphSize) (set : List ℕ) (kind : NodeKind) → AreFew sizes → IsKind variables number kind → IsKindSet kind set → IsShape (shape_of sizes set kind)
shape_sound variables number sizes set (Eval from exprs) few is learned = tt
shape_sound variables number sizes set (Take parts) few is learned =
    All-map IsPosition (λ part. part.1) parts (All-from_get (λ part. IsPosition part.1) parts (λ k part at. let position = is.positions k part at in (position.first, position.last)))
shape_sound variables number sizes set (Slice from first last) few is learned = (is.low, is.order, is.high)
shape_sound variables number sizes set (Chain parts) few is learned = tt
shape_sound variables number sizes set (Sum parts) few is learned = tt
shape_sound variables number sizes set (Product parts) few is learned = tt
shape_sound variables number sizes set (Matmul left right rows mid cols) few is learned =
    let sides = is.sides in
    record { rows_low = sides.height.first; mid_low = sides.depth.first; cols_low = sides.width.first; left = sides.left; right = sides.right; result = sides.whole }
shape_sound variables number sizes set (Dense from rows unknowns want) few is learned =
    let small = set_small unknowns set learned.0 learned.1 in
    omega (arith, is.unknowns_high, small)
shape_sound variables number sizes set (Sparse from unknowns want rows) few is learned =
    let small = set_small unknowns set learned.0 learned.1 in
    omega (arith, is.unknowns_high, small)
shape_sound variables number sizes set (Call graph parts) few is learned = omega (arith, few_at sizes graph few)
shape_sound variables number sizes set (Memo graph parts) few is learned = omega (arith, few_at sizes graph few)
shape_sound variables number sizes set (Map graph parts) few is learned = tt
shape_sound variables number sizes set (Laurent graph lo hi num den parts) few is learned = omega (arith, few_at sizes graph few)

-- a sound node names as many lists as its kind wants
pub lists_sound : (variables number : ℕ) (sizes : List GraphSize) (set : List ℕ) (kind : NodeKind) → IsKind variables number kind → HasLists (shape_of sizes set kind) (length (sources_of kind))
lists_sound variables number sizes set (Eval from exprs) is = refl
lists_sound variables number sizes set (Take parts) is = length-map parts (λ part. part.0) ∙ sym (length-map parts (λ part. part.1))
lists_sound variables number sizes set (Slice from first last) is = refl
lists_sound variables number sizes set (Chain parts) is = tt
lists_sound variables number sizes set (Sum parts) is = is.some
lists_sound variables number sizes set (Product parts) is = is.some
lists_sound variables number sizes set (Matmul left right rows mid cols) is = refl
lists_sound variables number sizes set (Call graph parts) is = tt
lists_sound variables number sizes set (Memo graph parts) is = tt
lists_sound variables number sizes set (Map graph parts) is = tt
lists_sound variables number sizes set (Laurent graph lo hi num den parts) is = tt
lists_sound variables number sizes set (Dense from rows unknowns want) is = refl
lists_sound variables number sizes set (Sparse from unknowns want rows) is = refl

-- the lists that a sound node names are there
pub sources_sound : (variables number : ℕ) (kind : NodeKind) → IsKind variables number kind → All (IsEarlier number) (sources_of kind)
sources_sound variables number kind is = All-from_get (IsEarlier number) (sources_of kind) (sources_earlier variables number kind is)

-- a list that a source names is within the limit where the inputs and the lists so far are
pub named_within : (inputs : ℕ) (lengths : List ℕ) (from : Source) → inputs ≤ 8 → All (λ n. n ≤ 262144) lengths → named_length inputs lengths from ≤ 262144
named_within inputs lengths source.Input few within = omega arith
named_within inputs lengths (source.Node k) few within =
    elim (cases_lt k (length lengths)) [
      | inl below ↦ All-get_or (λ n. n ≤ 262144) lengths k 0 below within
      | inr past ↦ omega (arith, get_or_past lengths k 0 past)
    ]

pub all_within : (inputs : ℕ) (lengths : List ℕ) (sources : List Source) → inputs ≤ 8 → All (λ n. n ≤ 262144) lengths → All (λ n. n ≤ 262144) (map (named_length inputs lengths) sources)
all_within inputs lengths sources few within =
    All-map (λ n. n ≤ 262144) (named_length inputs lengths) sources
    (All-from_get_or (λ from. named_length inputs lengths from ≤ 262144) sources source.Input (λ i below. named_within inputs lengths (get_or sources i source.Input) few within))

-- a sound system has few unknowns
pub few_unknowns : (variables number : ℕ) (kind : NodeKind) → IsKind variables number kind → HasFewUnknowns kind
few_unknowns variables number (Eval from exprs) is = tt
few_unknowns variables number (Take parts) is = tt
few_unknowns variables number (Slice from first last) is = tt
few_unknowns variables number (Chain parts) is = tt
few_unknowns variables number (Sum parts) is = tt
few_unknowns variables number (Product parts) is = tt
few_unknowns variables number (Matmul left right rows mid cols) is = tt
few_unknowns variables number (Call graph parts) is = tt
few_unknowns variables number (Memo graph parts) is = tt
few_unknowns variables number (Map graph parts) is = tt
few_unknowns variables number (Laurent graph lo hi num den parts) is = tt
few_unknowns variables number (Dense from rows unknowns want) is = omega (arith, is.unknowns_high)
few_unknowns variables number (Sparse from unknowns want rows) is = is.unknowns_high

-- and few values in sparse rows
pub few_entries : (variables number : ℕ) (kind : NodeKind) → IsKind variables number kind → HasFewEntries kind
few_entries variables number (Eval from exprs) is = tt
few_entries variables number (Take parts) is = tt
few_entries variables number (Slice from first last) is = tt
few_entries variables number (Chain parts) is = tt
few_entries variables number (Sum parts) is = tt
few_entries variables number (Product parts) is = tt
few_entries variables number (Matmul left right rows mid cols) is = tt
few_entries variables number (Call graph parts) is = tt
few_entries variables number (Memo graph parts) is = tt
few_entries variables number (Map graph parts) is = tt
few_entries variables number (Laurent graph lo hi num den parts) is = tt
few_entries variables number (Dense from rows unknowns want) is = tt
few_entries variables number (Sparse from unknowns want rows) is = is.filled.bounded

-- and small degrees and orders
pub has_window : (variables number : ℕ) (kind : NodeKind) → IsKind variables number kind → HasWindow kind
has_window variables number (Eval from exprs) is = tt
has_window variables number (Take parts) is = tt
has_window variables number (Slice from first last) is = tt
has_window variables number (Chain parts) is = tt
has_window variables number (Sum parts) is = tt
has_window variables number (Product parts) is = tt
has_window variables number (Matmul left right rows mid cols) is = tt
has_window variables number (Call graph parts) is = tt
has_window variables number (Memo graph parts) is = tt
has_window variables number (Map graph parts) is = tt
has_window variables number (Dense from rows unknowns want) is = tt
has_window variables number (Sparse from unknowns want rows) is = tt
has_window variables number (Laurent graph lo hi num den parts) is = record { num = is.num_low; den = is.den_low; lowest = is.lowest; ordered = is.ordered; highest = is.highest }
