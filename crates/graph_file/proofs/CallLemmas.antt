-- A graph calls earlier ones alone.
use Rattle.std.proofs.Common.{◌≡◌, ◌<◌, ◌≤◌, ◌+◌, ◌-◌, ℕ, zero, suc, Bool, true, false, cond, refl, sym, ap, subst, ◌∙◌, List, [], ◌∷◌, length, map, take, Some, None, arith, nat_le, option_map, bytes_eq}
use mathlib.Core.Logic.{⊎_elim}
use Rattle.std.specs.List.{slice_get}
use Rattle.std.proofs.lemmas.Bool.Decides.{nat_tests}
use Rattle.std.proofs.lemmas.List.{length-take}
use Rattle.std.proofs.lemmas.List.Quantifiers.{position-Some}
use Rattle.std.proofs.lemmas.Option.{slice_get-map}
use Rattle.elim_core.specs.declared.SparseRow.{SparseRow}
use Rattle.ratfun_text.specs.declared.expr.Expr.{Expr}
use Rattle.graph_file.specs.declared.graph.Graph.{Graph}
use Rattle.graph_file.specs.declared.graph.Node.{Node}
use Rattle.graph_file.specs.declared.graph.NodeKind.{NodeKind}
use Rattle.graph_file.specs.declared.graph.NodeKind.TheVariants as node
use Rattle.graph_file.specs.declared.graph.Source.{Source}
use Rattle.graph_file.specs.declared.line.Line.{Line}
use Rattle.graph_file.specs.declared.line.Line.TheVariants as line
use Rattle.graph_file.specs.declared.line.Statement.{Statement}
use Rattle.graph_file.specs.declared.line.Statement.TheVariants.{Eval, Take, Slice, Chain, Sum, Product, Matmul, Dense, Sparse, Call, Memo, Map, Laurent}
use Rattle.graph_file.specs.Facts.{earlier_names_in, graph_named, graph_names_in}
use Rattle.graph_file.specs.Line.{all_of}
use Rattle.graph_file.specs.Needed.{kinds_of}
use Rattle.graph_file.specs.Says.{AreKinds, SaysGraph, call_parts, kind_of, last_with_row, lines_through, part_named, source_named, wanted, with_row}
use Rattle.graph_file.specs.Sound.{CallsEarlier, called_graph}
use Rattle.graph_file.proofs.DepthLemmas.{earlier-names}
use Rattle.graph_file.proofs.KindLemmas.{IsMade, call_made, made_of, matmul_made}
use Rattle.graph_file.proofs.SoundLemmas.{at_push, nothing_at}

-- a kind that calls nothing
calls_nothing : (made kind : NodeKind) (called n : ℕ) → made ≡ kind → called_graph made ≡ None → called_graph kind ≡ Some called → called < n
calls_nothing made kind called n is none some = let never : Some called ≡ None = sym some ∙ ap called_graph (sym is) ∙ none in cc

-- a kind that calls a graph
calls_named : (graphs : List (List ℕ)) (graph : List ℕ) (number called : ℕ) → graph_named graphs graph ≡ Some number → Some number ≡ Some called → called < length graphs
calls_named graphs graph number called is same =
    let equal : number ≡ called = cc in
    subst (λ (n : ℕ). n < length graphs) equal (position-Some (λ other. bytes_eq other graph) graphs number [] is).0

called-named : (graphs names : List (List ℕ)) (exprs : List Expr) (statement : Statement) (kind : NodeKind) (called : ℕ) → kind_of graphs names exprs statement ≡ Some kind → called_graph kind ≡ Some called → called < length graphs
called-named graphs names exprs (Eval from texts) kind called e some = calls_nothing _ kind called (length graphs) (made_of (λ f. node.Eval f exprs) (source_named names from) kind e).is refl some
called-named graphs names exprs (Take parts) kind called e some = calls_nothing _ kind called (length graphs) (made_of node.Take (all_of (map (part_named names) parts)) kind e).is refl some
called-named graphs names exprs (Slice from first last) kind called e some = calls_nothing _ kind called (length graphs) (made_of (λ f. node.Slice f first last) (source_named names from) kind e).is refl some
called-named graphs names exprs (Chain parts) kind called e some = calls_nothing _ kind called (length graphs) (made_of node.Chain (all_of (map (source_named names) parts)) kind e).is refl some
called-named graphs names exprs (Sum parts) kind called e some = calls_nothing _ kind called (length graphs) (made_of node.Sum (all_of (map (source_named names) parts)) kind e).is refl some
called-named graphs names exprs (Product parts) kind called e some = calls_nothing _ kind called (length graphs) (made_of node.Product (all_of (map (source_named names) parts)) kind e).is refl some
called-named graphs names exprs (Matmul left right rows mid cols) kind called e some = calls_nothing _ kind called (length graphs) (matmul_made names (source_named names left) (source_named names right) rows mid cols kind e).is refl some
called-named graphs names exprs (Dense from rows unknowns want) kind called e some = calls_nothing _ kind called (length graphs) (made_of (λ f. node.Dense f rows unknowns (wanted unknowns want)) (source_named names from) kind e).is refl some
called-named graphs names exprs (Sparse from unknowns want) kind called e some = calls_nothing _ kind called (length graphs) (made_of (λ f. node.Sparse f unknowns (wanted unknowns want) []) (source_named names from) kind e).is refl some
called-named graphs names exprs (Call graph parts) kind called e some =
    let made : IsMade (λ (call : ℕ × List Source). node.Call call.0 call.1) (call_parts graphs names graph parts) kind = made_of (λ (call : ℕ × List Source). node.Call call.0 call.1) (call_parts graphs names graph parts) kind e in
    calls_named graphs graph made.from.0 called (call_made (graph_named graphs graph) (all_of (map (source_named names) parts)) made.from made.there).0 (ap called_graph made.is ∙ some)
called-named graphs names exprs (Memo graph parts) kind called e some =
    let made : IsMade (λ (call : ℕ × List Source). node.Memo call.0 call.1) (call_parts graphs names graph parts) kind = made_of (λ (call : ℕ × List Source). node.Memo call.0 call.1) (call_parts graphs names graph parts) kind e in
    calls_named graphs graph made.from.0 called (call_made (graph_named graphs graph) (all_of (map (source_named names) parts)) made.from made.there).0 (ap called_graph made.is ∙ some)
called-named graphs names exprs (Map graph parts) kind called e some =
    let made : IsMade (λ (call : ℕ × List Source). node.Map call.0 call.1) (call_parts graphs names graph parts) kind = made_of (λ (call : ℕ × List Source). node.Map call.0 call.1) (call_parts graphs names graph parts) kind e in
    calls_named graphs graph made.from.0 called (call_made (graph_named graphs graph) (all_of (map (source_named names) parts)) made.from made.there).0 (ap called_graph made.is ∙ some)
called-named graphs names exprs (Laurent graph expansion parts) kind called e some =
    let made : IsMade (λ (call : ℕ × List Source). node.Laurent call.0 expansion.lo expansion.hi expansion.num expansion.den call.1) (call_parts graphs names graph parts) kind = made_of (λ (call : ℕ × List Source). node.Laurent call.0 expansion.lo expansion.hi expansion.num expansion.den call.1) (call_parts graphs names graph parts) kind e in
    calls_named graphs graph made.from.0 called (call_made (graph_named graphs graph) (all_of (map (source_named names) parts)) made.from made.there).0 (ap called_graph made.is ∙ some)

-- one more row changes no call
row_calls : (row : SparseRow) (kind : NodeKind) → called_graph (with_row row kind) ≡ called_graph kind
row_calls row (node.Eval from exprs) = refl
row_calls row (node.Take parts) = refl
row_calls row (node.Slice from first last) = refl
row_calls row (node.Chain parts) = refl
row_calls row (node.Sum parts) = refl
row_calls row (node.Product parts) = refl
row_calls row (node.Matmul left right rows mid cols) = refl
row_calls row (node.Dense from rows unknowns want) = refl
row_calls row (node.Sparse from unknowns want rows) = refl
row_calls row (node.Call graph parts) = refl
row_calls row (node.Memo graph parts) = refl
row_calls row (node.Map graph parts) = refl
row_calls row (node.Laurent graph lo hi num den parts) = refl

-- the calls of some kinds are below a number
AreBelow : ℕ → List NodeKind → Type 0
AreBelow n kinds = (k : ℕ) (kind : NodeKind) (called : ℕ) → slice_get kinds k ≡ Some kind → called_graph kind ≡ Some called → called < n

rows_below : (n : ℕ) (row : SparseRow) (kinds : List NodeKind) → AreBelow n kinds → AreBelow n (last_with_row row kinds)
unfolding AreBelow
rows_below n row [] below k kind called at some = cc
rows_below n row (last ∷ []) below zero kind called at some =
    let same : with_row row last ≡ kind = cc in
    below 0 last called refl (sym (row_calls row last) ∙ ap called_graph same ∙ some)
rows_below n row (last ∷ []) below (suc k) kind called at some = cc
rows_below n row (a ∷ b ∷ kinds) below zero kind called at some = below 0 kind called at some
rows_below n row (a ∷ b ∷ kinds) below (suc k) kind called at some = rows_below n row (b ∷ kinds) (λ j other c is e. below (suc j) other c is e) k kind called at some

none_below : (n : ℕ) (kinds : List NodeKind) → kinds ≡ [] → AreBelow n kinds
unfolding AreBelow
none_below n kinds none k kind called at some = absurd (nothing_at kinds k kind none at)

kinds_below : (all : List Line) (kinds : List NodeKind) → AreKinds all kinds → AreBelow (length (earlier_names_in all)) kinds
unfolding AreBelow
kinds_below [] kinds are = none_below 0 kinds are
kinds_below (line.Flow version ∷ before) kinds are = kinds_below before kinds are
kinds_below (line.Graph name ∷ before) kinds are = none_below (length (graph_names_in before)) kinds are
kinds_below (line.Input names ∷ before) kinds are = kinds_below before kinds are
kinds_below (line.Node name statement ∷ before) kinds are = λ k kind called at some. ⊎_elim
    (λ (early : slice_get are.0 k ≡ Some kind). kinds_below before are.0 are.1.1.1 k kind called early some)
    (λ (here : (k ≡ length are.0) × (are.1.0 ≡ kind)).
    called-named (earlier_names_in before) (Rattle.graph_file.specs.Facts.node_names_in before) are.1.1.2.exprs statement are.1.0 called are.1.1.2.kind_is (ap called_graph here.1 ∙ some))
    (at_push are.0 are.1.0 k kind (ap (λ (l : List NodeKind). slice_get l k) (sym are.1.1.0) ∙ at))
kinds_below (line.Row columns ∷ before) kinds are = subst (AreBelow (length (earlier_names_in before))) (sym are.1.0) (rows_below (length (earlier_names_in before)) (record { columns = columns }) are.0 (kinds_below before are.0 are.1.1))
kinds_below (line.Output list ∷ before) kinds are = kinds_below before kinds are
kinds_below (line.Point entries ∷ before) kinds are = kinds_below before kinds are
kinds_below (line.Bounds outputs num den ∷ before) kinds are = kinds_below before kinds are
kinds_below (line.Coeff num den ∷ before) kinds are = kinds_below before kinds are

-- the lines through a graph have no later one
through_few : (k : ℕ) (all : List Line) → length (graph_names_in (lines_through k all)) ≤ k + 1
through_few k [] = omega arith
through_few k (next ∷ before) = from (through_few k before) (nat_le (length (graph_names_in (next ∷ before))) (k + 1)) refl
  where
    from : length (graph_names_in (lines_through k before)) ≤ k + 1 → (b : Bool) → nat_le (length (graph_names_in (next ∷ before))) (k + 1) ≡ b → length (graph_names_in (cond b (next ∷ before) (lines_through k before))) ≤ k + 1
    from few true test = grind (arith, nat_tests)
    from few false test = few

-- a graph that lines say calls graphs before it
pub calls-said : (k : ℕ) (all : List Line) (graph : Graph) → SaysGraph (lines_through k all) graph → CallsEarlier k graph
unfolding AreBelow
calls-said k all graph says i node called at some =
    let through : List Line = lines_through k all in
    let below : called < length (earlier_names_in through) = kinds_below through (kinds_of graph.nodes) says.kinds i node.kind called (slice_get-map (λ (n : Node). n.kind) graph.nodes i ∙ ap (option_map (λ (n : Node). n.kind)) at) some in
    let count : length (take (length (graph_names_in through) - 1) (graph_names_in through)) ≡ length (earlier_names_in through) = ap length (earlier-names through) in
    omega (arith, below, count, length-take (length (graph_names_in through) - 1) (graph_names_in through), through_few k all)
