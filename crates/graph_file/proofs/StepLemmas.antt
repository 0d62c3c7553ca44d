-- What a reader keeps fits together after one more line.
use Rattle.std.proofs.Common.{◌≡◌, ◌≤◌, ◌<◌, ◌+◌, ◌∙◌, ℕ, true, false, List, [], ◌∷◌, ◌++◌, length, Some, None, All, refl, sym, ap, subst, arith, bytes_eq}
use Rattle.std.specs.List.{list_any}
use Rattle.elim_core.specs.Sparse.{IsSparseRow}
use Rattle.elim_core.specs.declared.SparseRow.{SparseRow}
use Rattle.ratfun_text.specs.Names.{names_of as variables_of, last_argument}
use Rattle.ratfun_text.specs.Value.{greatest}
use Rattle.ratfun_text.specs.declared.expr.Expr.{Expr}
use Rattle.ratfun_text.specs.declared.names.Names.{Names}
use Rattle.ratfun_text.specs.declared.names.Names.TheVariants.{Listed}
use Rattle.graph_file.specs.declared.graph.Node.{Node as NodeOf}
use Rattle.graph_file.specs.declared.graph.NodeKind.{NodeKind}
use Rattle.graph_file.specs.declared.graph.Source.{Source}
use Rattle.graph_file.specs.declared.line.Degrees.{Degrees}
use Rattle.graph_file.specs.declared.line.Last.{Last}
use Rattle.graph_file.specs.declared.line.Last.TheVariants as last
use Rattle.graph_file.specs.declared.line.Line.TheVariants.{Graph, Input, Node, Row, Output, Point, Bounds, Coeff}
use Rattle.graph_file.specs.declared.line.Statement.{Statement}
use Rattle.graph_file.specs.declared.line.Which.{Which}
use Rattle.graph_file.specs.declared.reader.Reader.{Reader}
use Rattle.graph_file.specs.Facts.{unknowns_in, variables_in}
use Rattle.graph_file.specs.Faults.{names_for}
use Rattle.graph_file.specs.Formed.{IsFormed}
use Rattle.graph_file.specs.Line.{texts_of}
use Rattle.graph_file.specs.Read.{IsNextTo}
use Rattle.graph_file.specs.Reader.{AreVariables, IsOpen, IsSound, has_name, has_input, is_ended, kind_stood, kind_unknowns}
use Rattle.graph_file.specs.Says.{AreTrees, kind_of, source_named, with_row}
use Rattle.graph_file.proofs.KindLemmas.{kind_is_of, source-earlier}
use Rattle.graph_file.proofs.Passes.{graph-passed, graphs-passed, point-passed, room-passed, row-passed, stands-bounds, stands-coeff, stands-input, stands-node, stands-output, stands-point, stands-row, unasked-behind, variables-passed, whole-node, whole-output}
use Rattle.graph_file.proofs.SoundLemmas.{IsSound-graph, IsSound-input, IsSound-job, IsSound-node, IsSound-output, IsSound-point, IsSound-row, input_with_output}
use Rattle.graph_file.proofs.TakeLemmas.{earlier_graphs, names_count, node-few, node-new, node-sound, passed, stands-next, variables-kept}

module _ (reader : Reader) where
  pub graph-fits : (name : List ℕ) (none : Names) (no_names : List (List ℕ)) (no_nodes : List NodeOf) (points : List (List ℕ)) → ((most : ℕ) × IsFormed most (Graph name)) → IsNextTo reader (Graph name) → none ≡ Listed [] → no_names ≡ [] → no_nodes ≡ [] → points ≡ reader.asked.points → IsSound last.Graph (Some name) none no_names no_nodes 0 0 None points
  graph-fits name none no_names no_nodes points formed next none_is names_are nodes_are same =
      subst (IsSound last.Graph (Some name) none no_names no_nodes 0 0 None) (sym same)
      (IsSound-graph _ _ _ _ _ _ _ _ _ next.read.sound name none no_names no_nodes (unasked-behind reader.stood (Graph name) refl (stands-next reader (Graph name) next)) formed.1 (graph-passed _ name (passed reader (Graph name) next)) none_is names_are nodes_are)

  pub graph-room : (name : List ℕ) → IsNextTo reader (Graph name) → length reader.graph_names < 64
  graph-room name next = subst (λ (l : List (List ℕ)). length l < 64) (sym next.read.graphs_are.names_are) (graphs-passed next.earlier name (passed reader (Graph name) next))

  pub graph-new : (name : List ℕ) → IsNextTo reader (Graph name) → list_any (λ other. bytes_eq other name) reader.graph_names ≡ false
  graph-new name next = ap (list_any (λ other. bytes_eq other name)) next.read.graphs_are.names_are ∙ (passed reader (Graph name) next).is_new

  pub input-fits : (names : List (List ℕ)) → ((most : ℕ) × IsFormed most (Input names)) → IsNextTo reader (Input names) → IsSound last.Input reader.name (Listed names) reader.table reader.nodes.items reader.unknowns reader.entries reader.output reader.asked.points
  input-fits names formed next =
      let stands : (has_name reader.stood ≡ true) × (has_input reader.stood ≡ false) = stands-input reader.stood names (stands-next reader (Input names) next) in
      IsSound-input _ _ _ _ _ _ _ _ _ next.read.sound names stands.0 stands.1 (variables-passed _ names (passed reader (Input names) next) formed.1.0 formed.1.1)

  pub rows-open : (columns : List ℕ) → IsNextTo reader (Row columns) → (front : List NodeOf) (node : NodeOf) → reader.nodes.items ≡ front ++ node ∷ [] → (unknowns entries : ℕ) × IsOpen unknowns entries node.kind
  rows-open columns next front node split = (reader.unknowns, reader.entries, next.read.sound.opened (stands-row reader.stood columns (stands-next reader (Row columns) next)) front node split)

  pub row-fits : (columns : List ℕ) (front : List NodeOf) (node : NodeOf) (nodes' : List NodeOf) (entries' : ℕ) → ((most : ℕ) × IsFormed most (Row columns)) → IsNextTo reader (Row columns) → reader.nodes.items ≡ front ++ node ∷ [] → nodes' ≡ front ++ (record { name = node.name; kind = with_row (record { columns = columns }) node.kind; needed = node.needed }) ∷ [] → entries' ≡ reader.entries + length columns → IsSound last.Row reader.name reader.variables reader.table nodes' reader.unknowns entries' reader.output reader.asked.points
  row-fits columns front node nodes' entries' formed next split more_nodes more_entries =
      let row : SparseRow = record { columns = columns } in
      let small : unknowns_in next.earlier ≤ 4096 = subst (λ (n : ℕ). n ≤ 4096) next.read.unknowns_are next.read.sound.few_unknowns in
      let over : IsSparseRow reader.unknowns row = subst (λ (n : ℕ). IsSparseRow n row) (sym next.read.unknowns_are) (row-passed next.earlier columns (passed reader (Row columns) next) small formed.1.1).0 in
      let room : reader.entries + length columns ≤ 65536 = subst (λ (n : ℕ). n + length columns ≤ 65536) (sym next.read.entries_are) (row-passed next.earlier columns (passed reader (Row columns) next) small formed.1.1).1 in
      IsSound-row _ _ _ _ reader.nodes.items reader.unknowns reader.entries _ _ next.read.sound front node row nodes' entries' split (unasked-behind reader.stood (Row columns) refl (stands-next reader (Row columns) next)) (stands-row reader.stood columns (stands-next reader (Row columns) next)) formed.1.0 over room more_nodes more_entries

  pub output-fits : (list : List ℕ) (output : Source) → IsNextTo reader (Output list) → source_named reader.table list ≡ Some output → IsSound last.Output reader.name reader.variables reader.table reader.nodes.items reader.unknowns reader.entries (Some output) reader.asked.points
  output-fits list output next is =
      let stands = stands-next reader (Output list) next in
      IsSound-output _ _ _ _ reader.nodes.items _ _ _ _ next.read.sound output (unasked-behind reader.stood (Output list) refl stands) (stands-output reader.stood list stands) (whole-output reader.stood list stands) (λ k same.
      let below : k < length reader.table = source-earlier reader.table list k (is ∙ ap (λ (s : Source). Some s) same) in
      omega (arith, below, names_count reader next.read.sound))

  pub point-fits : (entries : List ℕ) (points' : List (List ℕ)) → IsNextTo reader (Point entries) → points' ≡ reader.asked.points ++ entries ∷ [] → IsSound last.Job reader.name reader.variables reader.table reader.nodes.items reader.unknowns reader.entries reader.output points'
  point-fits entries points' next more =
      let ended : is_ended reader.stood ≡ true = stands-point reader.stood entries (stands-next reader (Point entries) next) in
      let variables : AreVariables (variables_of reader.variables) = next.read.sound.inputs (input_with_output reader.stood ended) in
      let same : length (variables_of reader.variables) ≡ length (variables_in next.earlier) = variables-kept next.earlier reader next.read in
      let room : length reader.asked.points < 65536 = subst (λ (l : List (List ℕ)). length l < 65536) (sym next.read.points_are) (room-passed _ entries (passed reader (Point entries) next)) in
      let fits : length entries ≡ length (variables_of reader.variables) = (point-passed next.earlier entries (passed reader (Point entries) next) (omega (arith, variables.some, same), omega (arith, variables.few, same))).0 ∙ sym same in
      IsSound-point _ _ _ _ _ _ _ _ reader.asked.points next.read.sound entries points' ended room fits more

  pub bounds-fits : (outputs : Which) (num den : Degrees) (points' : List (List ℕ)) → IsNextTo reader (Bounds outputs num den) → points' ≡ reader.asked.points → IsSound last.Job reader.name reader.variables reader.table reader.nodes.items reader.unknowns reader.entries reader.output points'
  bounds-fits outputs num den points' next same =
      subst (λ (points : List (List ℕ)). IsSound last.Job reader.name reader.variables reader.table reader.nodes.items reader.unknowns reader.entries reader.output points) (sym same)
      (IsSound-job _ _ _ _ _ _ _ _ _ next.read.sound (stands-bounds reader.stood outputs num den (stands-next reader (Bounds outputs num den) next)))

  pub coeff-fits : (num den : ℕ) → IsNextTo reader (Coeff num den) → IsSound last.Job reader.name reader.variables reader.table reader.nodes.items reader.unknowns reader.entries reader.output reader.asked.points
  coeff-fits num den next = IsSound-job _ _ _ _ _ _ _ _ _ next.read.sound (stands-coeff reader.stood num den (stands-next reader (Coeff num den) next))

  pub node-fits : (name : List ℕ) (statement : Statement) (exprs : List Expr) (kind : NodeKind) (stood' : Last) (names' : List (List ℕ)) (nodes' : List NodeOf) (unknowns' : ℕ) → ((most : ℕ) × IsFormed most (Node name statement)) → IsNextTo reader (Node name statement) → kind_of (earlier_graphs reader) reader.table exprs statement ≡ Some kind → AreTrees (names_for reader.variables statement) (texts_of statement) exprs → All (λ expr. greatest expr ≤ last_argument (names_for reader.variables statement)) exprs → stood' ≡ kind_stood kind → names' ≡ reader.table ++ name ∷ [] → nodes' ≡ reader.nodes.items ++ (record { name = name; kind = kind; needed = false }) ∷ [] → unknowns' ≡ kind_unknowns kind → IsSound stood' reader.name reader.variables names' nodes' unknowns' 0 reader.output reader.asked.points
  node-fits name statement exprs kind stood' names' nodes' unknowns' formed next is trees arguments more_stood more_names more_nodes more_unknowns =
      let stands = stands-next reader (Node name statement) next in
      IsSound-node _ _ _ _ reader.nodes.items _ _ _ _ next.read.sound (record { name = name; kind = kind; needed = false }) stood' names' nodes' unknowns' (unasked-behind reader.stood (Node name statement) refl stands) (stands-node reader.stood name statement stands) (whole-node reader.stood name statement stands) (node-few reader name statement next) (node-new reader name statement next) (node-sound reader name statement next exprs kind formed is trees arguments) (kind_is_of (earlier_graphs reader) reader.table exprs statement kind is).no_rows more_stood more_names more_nodes more_unknowns
