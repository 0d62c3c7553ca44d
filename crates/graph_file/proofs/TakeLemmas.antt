-- One line is read.
use Rattle.std.proofs.Common.{◌≡◌, ◌≢◌, ◌<◌, ◌≤◌, ◌-◌, ℕ, take, nat_le, Bool, true, false, not, ◌&&◌, cond, refl, sym, ap, subst, ◌∙◌, List, ◌∷◌, length, Option, Some, None, Ok, Err, arith, bytes_eq, codes, nat_lt, All, IfSome}
use Rattle.std.specs.List.{list_all, list_any}
use Rattle.std.proofs.lemmas.Bool.Decides.{nat_tests}
use Rattle.std.proofs.lemmas.List.{length-map}
use Rattle.std.proofs.lemmas.Slice.Eq.{bytes_eq-Decides}
use Rattle.ratfun_text.specs.Names.{names_of as variables_of, last_argument}
use Rattle.ratfun_text.specs.Value.{greatest}
use Rattle.ratfun_text.specs.declared.expr.Expr.{Expr}
use Rattle.ratfun_text.specs.declared.names.Names.{Names}
use Rattle.ratfun_text.specs.declared.names.Names.TheVariants.{Listed}
use Rattle.graph_file.specs.declared.error.FileKind.{FileKind}
use Rattle.graph_file.specs.declared.error.FileKind.TheVariants as kind
use Rattle.graph_file.specs.declared.graph.Node.{Node}
use Rattle.graph_file.specs.declared.graph.NodeKind.{NodeKind}
use Rattle.graph_file.specs.declared.line.Last.{Last}
use Rattle.graph_file.specs.declared.line.Line.{Line}
use Rattle.graph_file.specs.declared.line.Line.TheVariants as line
use Rattle.graph_file.specs.declared.line.Statement.{Statement}
use Rattle.graph_file.specs.declared.reader.Reader.{Reader}
use Rattle.graph_file.specs.Faults.{AreFaultless, fault, fault_after, is_in_range, is_known, is_limit, is_not_among, is_repeated, is_residue, is_shallow, is_short, is_syntax, is_unknown_graph, is_unknown_node, is_version, lists_in, may_stand, names_for, names_in}
use Rattle.graph_file.specs.Facts.{called_by, depth_over, depths_in, earlier_names_in, graph_names_in, variables_in}
use Rattle.graph_file.proofs.DepthLemmas.{earlier-names}
use Rattle.graph_file.specs.Formed.{IsFormed}
use Rattle.graph_file.specs.Line.{line_of, texts_in, texts_of}
use Rattle.graph_file.specs.Parsed.{AreParsed}
use Rattle.graph_file.specs.Read.{FitsTogether, IsNextTo, IsRead, IsReadOn}
use Rattle.graph_file.specs.Says.{AreTrees, IsKindOf, kind_of, source_named}
use Rattle.graph_file.specs.Reader.{IsBegun, IsBegunNode, stands_behind}
use Rattle.graph_file.proofs.KindLemmas.{kind-there, kind_sound, source-known}
use Rattle.graph_file.proofs.Passes.{Passes, at_most_32, both, neither, not_false, passes, stands_of}

pub passed : (reader : Reader) (said : Line) → (next : IsNextTo reader said) → Passes next.earlier said
passed reader said next = passes next.earlier said next.passes

pub stands-next : (reader : Reader) (said : Line) → IsNextTo reader said → stands_behind reader.stood said ≡ true
stands-next reader said next = subst (λ (s : Last). stands_behind s said ≡ true) (sym next.read.last_is) (sym (stands_of next.earlier said) ∙ (passed reader said next).stands)

pub variables-kept : (earlier : List Line) (reader : Reader) → IsRead earlier reader → length (variables_of reader.variables) ≡ length (variables_in earlier)
variables-kept earlier reader read = ap (λ (v : Names). length (variables_of v)) read.variables_are

pub names_count : (reader : Reader) → FitsTogether reader → length reader.table ≡ length reader.nodes.items
names_count reader sound = ap length (sym sound.names_are) ∙ length-map reader.nodes.items (λ (node : Node). node.name)

-- the names of the graphs before the one in hand
abbrev pub earlier_graphs : Reader → List (List ℕ)
earlier_graphs reader = take (length reader.graphs) reader.graph_names

pub graphs-kept : (earlier : List Line) (reader : Reader) → IsRead earlier reader → earlier_graphs reader ≡ earlier_names_in earlier
graphs-kept earlier reader read =
    let count : length reader.graphs ≡ length (graph_names_in earlier) - 1 = read.graphs_are.counted ∙ ap (λ (l : List (List ℕ)). length l - 1) read.graphs_are.names_are in
    ap (λ n. take n reader.graph_names) count ∙ ap (take (length (graph_names_in earlier) - 1)) read.graphs_are.names_are ∙ earlier-names earlier

-- a node's line
module _ (reader : Reader) (name : List ℕ) (statement : Statement) (next : IsNextTo reader (line.Node name statement)) where
  all_limits : ((is_short name && nat_lt (length reader.table) 4096 && is_in_range statement) ≡ true) × (is_shallow next.earlier statement ≡ true)
  all_limits = both _ _ (subst (λ (ns : List (List ℕ)). (is_short name && nat_lt (length ns) 4096 && is_in_range statement && is_shallow next.earlier statement) ≡ true) (sym next.read.names_are) (not_false _ (passed reader (line.Node name statement) next).limits))

  limits : ((is_short name && nat_lt (length reader.table) 4096 && is_in_range statement) ≡ true)
  limits = all_limits.0

  pub node-shallow : depth_over (earlier_graphs reader) reader.depths.items (called_by statement) ≤ 8
  node-shallow =
      let shallow : nat_le (depth_over (earlier_names_in next.earlier) (depths_in next.earlier) (called_by statement)) 8 ≡ true = all_limits.1 in
      let low : depth_over (earlier_names_in next.earlier) (depths_in next.earlier) (called_by statement) ≤ 8 = grind (arith, nat_tests) in
      subst (λ (gs : List (List ℕ)). depth_over gs reader.depths.items (called_by statement) ≤ 8) (sym (graphs-kept next.earlier reader next.read))
      (subst (λ (ds : List ℕ). depth_over (earlier_names_in next.earlier) ds (called_by statement) ≤ 8) (sym next.read.depths_are.are) low)

  unlike : (bytes_eq name (codes "input") ≡ false) × (list_any (λ other. bytes_eq other name) reader.table ≡ false)
  unlike = subst (λ (ns : List (List ℕ)). (bytes_eq name (codes "input") ≡ false) × (list_any (λ other. bytes_eq other name) ns ≡ false)) (sym next.read.names_are) (neither (bytes_eq name (codes "input")) _ (passed reader (line.Node name statement) next).is_new)

  pub node-few : length reader.nodes.items < 4096
  node-few =
      let two : ((is_short name && nat_lt (length reader.table) 4096) ≡ true) × (is_in_range statement ≡ true) = both _ _ limits in
      let count : nat_lt (length reader.table) 4096 ≡ true = (both (is_short name) _ two.0).1 in
      let below : length reader.table < 4096 = grind (arith, nat_tests) in
      omega (arith, names_count reader next.read.sound)

  pub node-new : list_any (λ other. bytes_eq other name) reader.table ≡ false
  node-new = unlike.1

  no_input : name ≢ codes "input"
  no_input same =
      let like : bytes_eq name (codes "input") ≡ true = (bytes_eq-Decides name (codes "input")).1 same in
      let never : true ≡ false = sym like ∙ unlike.0 in cc

  pub node-there : (exprs : List Expr) → kind_of (earlier_graphs reader) reader.table exprs statement ≡ None → ⊥
  node-there exprs none = kind-there (earlier_graphs reader) reader.table exprs statement (subst (λ (gs : List (List ℕ)). is_not_among gs (called_by statement) ≡ false) (sym (graphs-kept next.earlier reader next.read)) (passed reader (line.Node name statement) next).graphs) (subst (λ (ns : List (List ℕ)). list_all (is_known ns) (lists_in statement) ≡ true) (sym next.read.names_are) (not_false _ (passed reader (line.Node name statement) next).lists)) none

  pub node-sound : (exprs : List Expr) (computed : NodeKind) → ((most : ℕ) × IsFormed most (line.Node name statement)) → kind_of (earlier_graphs reader) reader.table exprs statement ≡ Some computed → AreTrees (names_for reader.variables statement) (texts_of statement) exprs → All (λ expr. greatest expr ≤ last_argument (names_for reader.variables statement)) exprs → IsBegunNode (length (variables_of reader.variables)) (length reader.nodes.items) (record { name = name; kind = computed; needed = false })
  node-sound exprs computed formed is trees arguments =
      let ranges : is_in_range statement ≡ true = (both _ (is_in_range statement) limits).1 in
      let vs : List (List ℕ) = variables_of reader.variables in
      let listed_trees : AreTrees (names_for (Listed vs) statement) (texts_of statement) exprs = subst (λ (v : Names). AreTrees (names_for v statement) (texts_of statement) exprs) next.read.sound.listed trees in
      let listed_arguments : All (λ expr. greatest expr ≤ last_argument (names_for (Listed vs) statement)) exprs = subst (λ (v : Names). All (λ (expr : Expr). greatest expr ≤ last_argument (names_for v statement)) exprs) next.read.sound.listed arguments in
      let sound : IsBegun (length vs) (length reader.table) computed = kind_sound (earlier_graphs reader) reader.table vs exprs name statement computed formed.0 is formed.1.1 ranges listed_trees listed_arguments in
      record {
        named = formed.1.0;
        short = at_most_32 name (both (is_short name) _ (both _ (is_in_range statement) limits).0).0;
        no_input = no_input;
        kind = subst (λ (n : ℕ). IsBegun (length vs) n computed) (names_count reader next.read.sound) sound;
      }

-- what the node of a line computes
pub kind-said : (earlier : List Line) (reader : Reader) (name : List ℕ) (statement : Statement) (exprs : List Expr) (computed : NodeKind) → IsRead earlier reader → kind_of (earlier_graphs reader) reader.table exprs statement ≡ Some computed → AreTrees (names_for reader.variables statement) (texts_of statement) exprs → IsKindOf earlier name statement computed
kind-said earlier reader name statement exprs computed read is trees = record {
  exprs = exprs;
  trees = subst (λ (v : Names). AreTrees (names_for v statement) (texts_of statement) exprs) read.variables_are trees;
  kind_is = ap (λ names. kind_of (earlier_names_in earlier) names exprs statement) (sym read.names_are) ∙ ap (λ graphs. kind_of graphs reader.table exprs statement) (sym (graphs-kept earlier reader read)) ∙ is;
}

-- an output's line
pub output-there : (reader : Reader) (list : List ℕ) → IsNextTo reader (line.Output list) → source_named reader.table list ≡ None → ⊥
output-there reader list next none = source-known reader.table list (subst (λ (ns : List (List ℕ)). is_known ns list ≡ true) (sym next.read.names_are) (not_false _ (passed reader (line.Output list) next).lists)) none

skip : (b : Bool) (told other : FileKind) (later : Option FileKind) → (Some told ≡ Some other → ⊥) → cond b (Some told) later ≡ Some other → later ≡ Some other
skip true told other later differs e = absurd (differs e)
skip false told other later differs e = e

never_expr : (about : List Line) (said : Line) (number : ℕ) (error : Rattle.ratfun_text.specs.declared.parse.ExprError.ExprError) → fault_after about said ≡ Some (kind.Expr number error) → ⊥
never_expr about said number error e =
    let a = skip (is_syntax about said) kind.Syntax (kind.Expr number error) _ (λ f. cc) e in
    let b = skip (is_version said) kind.Version (kind.Expr number error) _ (λ f. cc) a in
    let c = skip (is_repeated about said) kind.Repeated (kind.Expr number error) _ (λ f. cc) b in
    let h = skip (is_unknown_graph about said) kind.UnknownGraph (kind.Expr number error) _ (λ f. cc) c in
    let d = skip (is_unknown_node about said) kind.UnknownNode (kind.Expr number error) _ (λ f. cc) h in
    let f = skip (is_residue said) kind.Residue (kind.Expr number error) _ (λ f. cc) d in
    let g : None ≡ Some (kind.Expr number error) = skip (is_limit about said) kind.Limit (kind.Expr number error) None (λ f. cc) f in
    cc

pub never_missing : (about : List Line) (said : Line) → fault_after about said ≡ Some kind.Missing → ⊥
never_missing about said e =
    let a = skip (is_syntax about said) kind.Syntax kind.Missing _ (λ f. cc) e in
    let b = skip (is_version said) kind.Version kind.Missing _ (λ f. cc) a in
    let c = skip (is_repeated about said) kind.Repeated kind.Missing _ (λ f. cc) b in
    let h = skip (is_unknown_graph about said) kind.UnknownGraph kind.Missing _ (λ f. cc) c in
    let d = skip (is_unknown_node about said) kind.UnknownNode kind.Missing _ (λ f. cc) h in
    let f = skip (is_residue said) kind.Residue kind.Missing _ (λ f. cc) d in
    let g : None ≡ Some kind.Missing = skip (is_limit about said) kind.Limit kind.Missing None (λ f. cc) f in
    cc

-- a line that fits no pattern
pub read-none : (earlier : List Line) (after : Reader) (bytes : List ℕ) → None ≡ line_of bytes → IsReadOn earlier (line_of bytes) after (Err kind.Syntax)
read-none earlier after bytes is = subst (λ (o : Option Line). IsReadOn earlier o after (Err kind.Syntax)) is refl

-- a line with which something is wrong
told_of : (earlier : List Line) (after : Reader) (said : Line) (told : FileKind) → fault_after earlier said ≡ Some told → IsReadOn earlier (Some said) after (Err told)
told_of earlier after said kind.Syntax e = e
told_of earlier after said kind.Version e = e
told_of earlier after said kind.Repeated e = e
told_of earlier after said kind.UnknownGraph e = e
told_of earlier after said kind.UnknownNode e = e
told_of earlier after said kind.Residue e = e
told_of earlier after said kind.Limit e = e
told_of earlier after said (kind.Expr number error) e = absurd (never_expr earlier said number error e)
told_of earlier after said kind.Missing e = e
told_of earlier after said kind.NoMemory e = tt

pub read-fault : (earlier : List Line) (after : Reader) (bytes : List ℕ) (said : Line) (told : FileKind) → Some said ≡ line_of bytes → fault_after earlier said ≡ Some told → IsReadOn earlier (line_of bytes) after (Err told)
read-fault earlier after bytes said told is e = subst (λ (o : Option Line). IsReadOn earlier o after (Err told)) is (told_of earlier after said told e)

-- a line with an expression that is refused
refused_of : (earlier : List Line) (after : Reader) (said : Line) (told : FileKind) → fault earlier (Some said) ≡ None → AreParsed (names_in (Listed (variables_in earlier)) said) (texts_in said) (Err told) → IsReadOn earlier (Some said) after (Err told)
refused_of earlier after said kind.Syntax none parsed = absurd parsed
refused_of earlier after said kind.Version none parsed = absurd parsed
refused_of earlier after said kind.Repeated none parsed = absurd parsed
refused_of earlier after said kind.UnknownGraph none parsed = absurd parsed
refused_of earlier after said kind.UnknownNode none parsed = absurd parsed
refused_of earlier after said kind.Residue none parsed = absurd parsed
refused_of earlier after said kind.Limit none parsed = absurd parsed
refused_of earlier after said (kind.Expr number error) none parsed = (none, parsed)
refused_of earlier after said kind.Missing none parsed = absurd parsed
refused_of earlier after said kind.NoMemory none parsed = tt

pub read-refused : (earlier : List Line) (reader after : Reader) (bytes : List ℕ) (said : Line) (told : FileKind) → IsRead earlier reader → Some said ≡ line_of bytes → fault_after earlier said ≡ None → AreParsed (names_in reader.variables said) (texts_in said) (Err told) → IsReadOn earlier (line_of bytes) after (Err told)
read-refused earlier reader after bytes said told read is pass parsed =
    subst (λ (o : Option Line). IsReadOn earlier o after (Err told)) is
    (refused_of earlier after said told (pass) (subst (λ (v : Names). AreParsed (names_in v said) (texts_in said) (Err told)) read.variables_are parsed))

-- a line with which nothing is wrong
pub read-kept : (earlier : List Line) (reader next : Reader) (bytes : List ℕ) (said : Line) (exprs : List Expr) → IsRead earlier reader → Some said ≡ line_of bytes → fault_after earlier said ≡ None → AreParsed (names_in reader.variables said) (texts_in said) (Ok exprs) → IsRead (said ∷ earlier) next → IsReadOn earlier (line_of bytes) next (Ok tt)
read-kept earlier reader next bytes said exprs read is pass parsed kept =
    subst (λ (o : Option Line). IsReadOn earlier o next (Ok tt)) is
    ((pass, subst (λ (v : Names). AreFaultless (names_in v said) (texts_in said)) read.variables_are parsed.1), kept)

-- what a line says is formed
pub formed-of : (o : Option Line) (said : Line) (most : ℕ) → o ≡ Some said → IfSome o (IsFormed most) → (n : ℕ) × IsFormed n said
formed-of o said most is formed = (most, subst (λ (x : Option Line). IfSome x (IsFormed most)) is formed)

-- a line that may stand behind the lines that the reader keeps
pub stands-kept : (earlier : List Line) (reader : Reader) (said : Line) → IsRead earlier reader → is_syntax earlier said ≡ false → stands_behind reader.stood said ≡ true
stands-kept earlier reader said read none =
    let stands : may_stand earlier said ≡ true = not_false _ (neither (not (may_stand earlier said)) _ none).0 in
    subst (λ (s : Last). stands_behind s said ≡ true) (sym read.last_is) (sym (stands_of earlier said) ∙ stands)
