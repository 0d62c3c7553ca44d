-- What holds of a line with which nothing is wrong, its expressions apart.
use Rattle.std.proofs.Common.{◌≡◌, ◌<◌, ◌≤◌, ◌+◌, ◌-◌, ◌^◌, ℕ, zero, suc, Bool, true, false, not, ◌&&◌, ◌||◌, cond, refl, sym, ap, subst, ◌∙◌, List, [], ◌∷◌, ◌++◌, length, Option, Some, None, arith, bytes_eq, nat_le, nat_lt, ◌==◌}
use Rattle.std.specs.List.{slice_get, slice_index, list_any, list_all}
use Rattle.std.proofs.lemmas.Bool.Decides.{nat_tests}
use Rattle.std.proofs.lemmas.Option.{slice_get-get_or}
use Rattle.std.proofs.lemmas.Slice.Eq.{bytes_eq-Decides}
use Rattle.ratfun_text.specs.Bytes.{is_name}
use Rattle.graph_file.specs.declared.error.FileKind.{FileKind}
use Rattle.graph_file.specs.declared.error.FileKind.TheVariants.{Syntax, Version, Repeated, UnknownGraph, UnknownNode, Residue, Limit}
use Rattle.graph_file.specs.declared.line.Last.{Last}
use Rattle.graph_file.specs.declared.line.Last.TheVariants as last
use Rattle.graph_file.specs.declared.line.Line.{Line}
use Rattle.graph_file.specs.declared.line.Degrees.{Degrees}
use Rattle.graph_file.specs.declared.line.Which.{Which}
use Rattle.graph_file.specs.declared.line.Line.TheVariants.{Flow, Graph, Input, Node, Row, Output, Point, Bounds, Coeff}
use Rattle.graph_file.specs.declared.line.Statement.{Statement}
use Rattle.graph_file.specs.declared.line.Statement.TheVariants.{Eval, Take, Slice, Chain, Sum, Product, Matmul, Dense, Sparse, Call, Memo, Map, Laurent}
use Rattle.graph_file.specs.Facts.{entries_in, graph_names_in, has_output, is_job_line, points_in, unknowns_in, variables_in}
use Rattle.graph_file.specs.Faults.{are_columns, are_new, fault_after, fits, goes_on, is_entry, is_limit, is_repeated, is_residue, is_row_line, is_short, is_syntax, is_unknown_graph, is_unknown_node, is_version, may_stand, takes_rows}
use Rattle.poly_maps.specs.Point.{IsPoint}
use Rattle.elim_core.specs.Solver.{IsAscending}
use Rattle.elim_core.specs.Sparse.{IsSparseRow}
use Rattle.graph_file.specs.Formed.{Ascend}
use Rattle.graph_file.specs.Reader.{AreVariables, has_input, has_name, has_rows, is_asked, is_ended, last_of, node_stood, stands_behind}

pub both : (a b : Bool) → (a && b) ≡ true → (a ≡ true) × (b ≡ true)
both true b e = (refl, e)
both false b e = cc

pub neither : (a b : Bool) → (a || b) ≡ false → (a ≡ false) × (b ≡ false)
neither true b e = cc
neither false b e = (refl, e)

pub not_false : (b : Bool) → not b ≡ false → b ≡ true
not_false true e = refl
not_false false e = cc

pub next : (b : Bool) (kind : FileKind) (later : Option FileKind) → cond b (Some kind) later ≡ None → (b ≡ false) × (later ≡ None)
next true kind later e = cc
next false kind later e = (refl, e)

-- each test is passed
pub record Passes (earlier : List Line) (line : Line) : Type 0 where
  pub stands : may_stand earlier line ≡ true
  pub fitting : fits earlier line ≡ true
  pub first : is_version line ≡ false
  pub is_new : is_repeated earlier line ≡ false
  pub graphs : is_unknown_graph earlier line ≡ false
  pub lists : is_unknown_node earlier line ≡ false
  pub residues : is_residue line ≡ false
  pub limits : is_limit earlier line ≡ false

pub passes : (earlier : List Line) (line : Line) → fault_after earlier line ≡ None → Passes earlier line
passes earlier line e =
    let (syntax, after_syntax) = next (is_syntax earlier line) Syntax _ e in
    let (version, after_version) = next (is_version line) Version _ after_syntax in
    let (repeated, after_repeated) = next (is_repeated earlier line) Repeated _ after_version in
    let (graph, after_graph) = next (is_unknown_graph earlier line) UnknownGraph _ after_repeated in
    let (unknown, after_unknown) = next (is_unknown_node earlier line) UnknownNode _ after_graph in
    let (residue, after_residue) = next (is_residue line) Residue _ after_unknown in
    let (limit, _) = next (is_limit earlier line) Limit None after_residue in
    let parts : (not (may_stand earlier line) ≡ false) × (not (fits earlier line) ≡ false) = neither _ _ syntax in
    record {
      stands = not_false _ parts.0;
      fitting = not_false _ parts.1;
      first = version;
      is_new = repeated;
      graphs = graph;
      lists = unknown;
      residues = residue;
      limits = limit;
    }

-- a line may stand behind lines where it may stand behind the last one's kind
of_statement : (statement : Statement) (line : Line) → (cond (takes_rows statement) (is_row_line line) (goes_on line)) ≡ stands_behind (node_stood statement) line
of_statement (Eval from texts) line = refl
of_statement (Take parts) line = refl
of_statement (Slice from first last) line = refl
of_statement (Chain parts) line = refl
of_statement (Sum parts) line = refl
of_statement (Product parts) line = refl
of_statement (Matmul left right rows mid cols) line = refl
of_statement (Dense from rows unknowns want) line = refl
of_statement (Sparse from unknowns want) line = refl
of_statement (Call graph parts) line = refl
of_statement (Memo graph parts) line = refl
of_statement (Map graph parts) line = refl
of_statement (Laurent graph expansion parts) line = refl

pub stands_of : (earlier : List Line) (line : Line) → may_stand earlier line ≡ stands_behind (last_of earlier) line
stands_of [] line = refl
stands_of (Flow version ∷ before) line = refl
stands_of (Graph name ∷ before) line = refl
stands_of (Input names ∷ before) line = refl
stands_of (Node name statement ∷ before) line = of_statement statement line
stands_of (Row columns ∷ before) line = refl
stands_of (Output list ∷ before) line = refl
stands_of (Point entries ∷ before) line = refl
stands_of (Bounds outputs num den ∷ before) line = refl
stands_of (Coeff num den ∷ before) line = refl

ended_statement : (statement : Statement) → false ≡ is_ended (node_stood statement)
ended_statement (Eval from texts) = refl
ended_statement (Take parts) = refl
ended_statement (Slice from first last) = refl
ended_statement (Chain parts) = refl
ended_statement (Sum parts) = refl
ended_statement (Product parts) = refl
ended_statement (Matmul left right rows mid cols) = refl
ended_statement (Dense from rows unknowns want) = refl
ended_statement (Sparse from unknowns want) = refl
ended_statement (Call graph parts) = refl
ended_statement (Memo graph parts) = refl
ended_statement (Map graph parts) = refl
ended_statement (Laurent graph expansion parts) = refl

pub ended_of : (earlier : List Line) → has_output earlier ≡ is_ended (last_of earlier)
ended_of [] = refl
ended_of (Flow version ∷ before) = refl
ended_of (Graph name ∷ before) = refl
ended_of (Input names ∷ before) = refl
ended_of (Node name statement ∷ before) = ended_statement statement
ended_of (Row columns ∷ before) = refl
ended_of (Output list ∷ before) = refl
ended_of (Point entries ∷ before) = refl
ended_of (Bounds outputs num den ∷ before) = refl
ended_of (Coeff num den ∷ before) = refl

-- where lines may stand
pub stands-flow : (stood : Last) (version : ℕ) → stands_behind stood (Flow version) ≡ true → has_name stood ≡ false
stands-flow last.Start version e = refl
stands-flow last.Flow version e = cc
stands-flow last.Graph version e = cc
stands-flow last.Input version e = cc
stands-flow last.Node version e = cc
stands-flow last.Sparse version e = cc
stands-flow last.Row version e = cc
stands-flow last.Output version e = cc
stands-flow last.Job version e = cc

-- a graph begins behind no other or behind a whole one
pub stands-graph : (stood : Last) (name : List ℕ) → stands_behind stood (Graph name) ≡ true → has_name stood ≡ true → is_ended stood ≡ true
stands-graph last.Start name e is = cc
stands-graph last.Flow name e is = cc
stands-graph last.Graph name e is = cc
stands-graph last.Input name e is = cc
stands-graph last.Node name e is = cc
stands-graph last.Sparse name e is = cc
stands-graph last.Row name e is = cc
stands-graph last.Output name e is = refl
stands-graph last.Job name e is = refl

-- behind a line of the job only such lines stand
pub unasked-behind : (stood : Last) (line : Line) → is_job_line line ≡ false → stands_behind stood line ≡ true → is_asked stood ≡ false
unasked-behind last.Start line other e = refl
unasked-behind last.Flow line other e = refl
unasked-behind last.Graph line other e = refl
unasked-behind last.Input line other e = refl
unasked-behind last.Node line other e = refl
unasked-behind last.Sparse line other e = refl
unasked-behind last.Row line other e = refl
unasked-behind last.Output line other e = refl
unasked-behind last.Job line other e = let never : true ≡ false = sym e ∙ other in cc

pub stands-input : (stood : Last) (names : List (List ℕ)) → stands_behind stood (Input names) ≡ true → (has_name stood ≡ true) × (has_input stood ≡ false)
stands-input last.Start names e = cc
stands-input last.Flow names e = cc
stands-input last.Graph names e = (refl, refl)
stands-input last.Input names e = cc
stands-input last.Node names e = cc
stands-input last.Sparse names e = cc
stands-input last.Row names e = cc
stands-input last.Output names e = cc
stands-input last.Job names e = cc

pub stands-node : (stood : Last) (name : List ℕ) (statement : Statement) → stands_behind stood (Node name statement) ≡ true → has_input stood ≡ true
stands-node last.Start name statement e = cc
stands-node last.Flow name statement e = cc
stands-node last.Graph name statement e = cc
stands-node last.Input name statement e = refl
stands-node last.Node name statement e = refl
stands-node last.Sparse name statement e = cc
stands-node last.Row name statement e = refl
stands-node last.Output name statement e = cc
stands-node last.Job name statement e = cc

pub stands-row : (stood : Last) (columns : List ℕ) → stands_behind stood (Row columns) ≡ true → has_rows stood ≡ true
stands-row last.Start columns e = cc
stands-row last.Flow columns e = cc
stands-row last.Graph columns e = cc
stands-row last.Input columns e = cc
stands-row last.Node columns e = cc
stands-row last.Sparse columns e = refl
stands-row last.Row columns e = refl
stands-row last.Output columns e = cc
stands-row last.Job columns e = cc

-- behind a sparse node without rows no node and no output stand
pub whole-node : (stood : Last) (name : List ℕ) (statement : Statement) → stands_behind stood (Node name statement) ≡ true → stood ≡ last.Sparse → ⊥
whole-node stood name statement e is = let told : stands_behind last.Sparse (Node name statement) ≡ true = subst (λ (s : Last). stands_behind s (Node name statement) ≡ true) is e in cc

pub whole-output : (stood : Last) (list : List ℕ) → stands_behind stood (Output list) ≡ true → stood ≡ last.Sparse → ⊥
whole-output stood list e is = let told : stands_behind last.Sparse (Output list) ≡ true = subst (λ (s : Last). stands_behind s (Output list) ≡ true) is e in cc

pub stands-output : (stood : Last) (list : List ℕ) → stands_behind stood (Output list) ≡ true → has_input stood ≡ true
stands-output last.Start list e = cc
stands-output last.Flow list e = cc
stands-output last.Graph list e = cc
stands-output last.Input list e = refl
stands-output last.Node list e = refl
stands-output last.Sparse list e = cc
stands-output last.Row list e = refl
stands-output last.Output list e = cc
stands-output last.Job list e = cc

pub stands-point : (stood : Last) (entries : List ℕ) → stands_behind stood (Point entries) ≡ true → is_ended stood ≡ true
stands-point last.Start entries e = cc
stands-point last.Flow entries e = cc
stands-point last.Graph entries e = cc
stands-point last.Input entries e = cc
stands-point last.Node entries e = cc
stands-point last.Sparse entries e = cc
stands-point last.Row entries e = cc
stands-point last.Output entries e = refl
stands-point last.Job entries e = refl

pub stands-bounds : (stood : Last) (outputs : Which) (num den : Degrees) → stands_behind stood (Bounds outputs num den) ≡ true → is_ended stood ≡ true
stands-bounds last.Start outputs num den e = cc
stands-bounds last.Flow outputs num den e = cc
stands-bounds last.Graph outputs num den e = cc
stands-bounds last.Input outputs num den e = cc
stands-bounds last.Node outputs num den e = cc
stands-bounds last.Sparse outputs num den e = cc
stands-bounds last.Row outputs num den e = cc
stands-bounds last.Output outputs num den e = refl
stands-bounds last.Job outputs num den e = refl

pub stands-coeff : (stood : Last) (num den : ℕ) → stands_behind stood (Coeff num den) ≡ true → is_ended stood ≡ true
stands-coeff last.Start num den e = cc
stands-coeff last.Flow num den e = cc
stands-coeff last.Graph num den e = cc
stands-coeff last.Input num den e = cc
stands-coeff last.Node num den e = cc
stands-coeff last.Sparse num den e = cc
stands-coeff last.Row num den e = cc
stands-coeff last.Output num den e = refl
stands-coeff last.Job num den e = refl

-- what passes for each element passes for the one at a place
pub list_all-at : {X : Type 0} (test : X → Bool) (xs : List X) → list_all test xs ≡ true → (k : ℕ) (x : X) → slice_get xs k ≡ Some x → test x ≡ true
list_all-at test [] all k x at = cc
list_all-at test (y ∷ ys) all zero x at = let same : y ≡ x = cc in subst (λ z. test z ≡ true) same (both (test y) _ all).0
list_all-at test (y ∷ ys) all (suc k) x at = list_all-at test ys (both (test y) _ all).1 k x at

-- a name that stands at a place is among the names
pub among : (names : List (List ℕ)) (k : ℕ) (name : List ℕ) → slice_get names k ≡ Some name → list_any (λ other. bytes_eq other name) names ≡ true
among [] k name at = cc
among (other ∷ names) zero name at = let same : other ≡ name = cc in ap (λ b. b || list_any (λ x. bytes_eq x name) names) ((bytes_eq-Decides other name).1 same)
among (other ∷ names) (suc k) name at = either (bytes_eq other name) _ (among names k name at)
  where
    either : (a b : Bool) → b ≡ true → (a || b) ≡ true
    either true b e = refl
    either false b e = e

-- a name that is among those before is not new
never_new : (before later : List (List ℕ)) (name : List ℕ) → list_any (λ other. bytes_eq other name) before ≡ true → (j : ℕ) → slice_get later j ≡ Some name → are_new before later ≡ true → ⊥
never_new before [] name there j at fresh = cc
never_new before (head ∷ later) name there zero at fresh =
    let same : head ≡ name = cc in
    let first : not (list_any (λ other. bytes_eq other head) before) ≡ true = (both _ (are_new (before ++ head ∷ []) later) fresh).0 in
    let known : list_any (λ other. bytes_eq other head) before ≡ true = subst (λ l. list_any (λ other. bytes_eq other l) before ≡ true) (sym same) there in
    let never : not true ≡ true = subst (λ b. not b ≡ true) known first in
    cc
never_new before (head ∷ later) name there (suc j) at fresh =
    never_new (before ++ head ∷ []) later name (kept before) j at (both _ (are_new (before ++ head ∷ []) later) fresh).1
  where
    either : (a b : Bool) → b ≡ true → (a || b) ≡ true
    either true b e = refl
    either false b e = e

    onto : (names : List (List ℕ)) → list_any (λ other. bytes_eq other name) names ≡ true → list_any (λ other. bytes_eq other name) (names ++ head ∷ []) ≡ true
    onto [] e = cc
    onto (x ∷ xs) e = step (bytes_eq x name) _ _ e (onto xs)
      where
        step : (a b c : Bool) → (a || b) ≡ true → (b ≡ true → c ≡ true) → (a || c) ≡ true
        step true b c f g = refl
        step false b c f g = g f

    kept : (names : List (List ℕ)) → list_any (λ other. bytes_eq other name) (before ++ head ∷ []) ≡ true
    kept names = onto before there

at_end : (before : List (List ℕ)) (name : List ℕ) → list_any (λ other. bytes_eq other name) (before ++ name ∷ []) ≡ true
at_end [] name = ap (λ b. b || false) ((bytes_eq-Decides name name).1 refl)
at_end (x ∷ xs) name = either (bytes_eq x name) _ (at_end xs name)
  where
    either : (a b : Bool) → b ≡ true → (a || b) ≡ true
    either true b e = refl
    either false b e = e

-- names that are new stand at one place each
distinct_at : (before names : List (List ℕ)) → are_new before names ≡ true → (i j : ℕ) (name : List ℕ) → slice_get names i ≡ Some name → slice_get names j ≡ Some name → i ≡ j
distinct_at before [] fresh i j name first second = cc
distinct_at before (head ∷ later) fresh zero zero name first second = refl
distinct_at before (head ∷ later) fresh zero (suc j) name first second =
    let same : head ≡ name = cc in
    absurd (never_new (before ++ head ∷ []) later name (subst (λ l. list_any (λ other. bytes_eq other l) (before ++ head ∷ []) ≡ true) same (at_end before head)) j second (both _ (are_new (before ++ head ∷ []) later) fresh).1)
distinct_at before (head ∷ later) fresh (suc i) zero name first second =
    let same : head ≡ name = cc in
    absurd (never_new (before ++ head ∷ []) later name (subst (λ l. list_any (λ other. bytes_eq other l) (before ++ head ∷ []) ≡ true) same (at_end before head)) i first (both _ (are_new (before ++ head ∷ []) later) fresh).1)
distinct_at before (head ∷ later) fresh (suc i) (suc j) name first second =
    ap suc (distinct_at (before ++ head ∷ []) later (both _ (are_new (before ++ head ∷ []) later) fresh).1 i j name first second)

pub at_most_32 : (name : List ℕ) → is_short name ≡ true → length name ≤ 32
at_most_32 name short = let within : nat_le (length name) 32 ≡ true = short in grind (arith, nat_tests)

-- the name of a `graph` line is short
pub graph-passed : (earlier : List Line) (name : List ℕ) → Passes earlier (Graph name) → length name ≤ 32
graph-passed earlier name pass = at_most_32 name (both (is_short name) _ (not_false _ pass.limits)).0

-- there is room for its graph
pub graphs-passed : (earlier : List Line) (name : List ℕ) → Passes earlier (Graph name) → length (graph_names_in earlier) < 64
graphs-passed earlier name pass = let within : nat_lt (length (graph_names_in earlier)) 64 ≡ true = (both (is_short name) _ (not_false _ pass.limits)).1 in grind (arith, nat_tests)

-- there is room for the point of a `point` line
pub room-passed : (earlier : List Line) (entries : List ℕ) → Passes earlier (Point entries) → length (points_in earlier) < 65536
room-passed earlier entries pass = let within : nat_lt (length (points_in earlier)) 65536 ≡ true = not_false _ pass.limits in grind (arith, nat_tests)

-- the names of an `input` line are variables
pub variables-passed : (earlier : List Line) (names : List (List ℕ)) → Passes earlier (Input names) → list_all is_name names ≡ true → 1 ≤ length names → AreVariables names
variables-passed earlier names pass are some =
    let limits : (list_all is_short names && nat_le (length names) 8) ≡ true = not_false _ pass.limits in
    let count : nat_le (length names) 8 ≡ true = (both _ _ limits).1 in
    record {
      some = some;
      few = grind (arith, nat_tests);
      are_names = record {
        named = λ k name at. list_all-at is_name names are k name at;
        short = λ k name at. at_most_32 name (list_all-at is_short names (both _ _ limits).0 k name at);
        distinct = distinct_at [] names (not_false _ pass.is_new);
      };
    }

-- the entries of a `point` line are those of a point
pub point-passed : (earlier : List Line) (entries : List ℕ) → Passes earlier (Point entries) → (1 ≤ length (variables_in earlier)) × (length (variables_in earlier) ≤ 8) → (length entries ≡ length (variables_in earlier)) × IsPoint entries
point-passed earlier entries pass within =
    let count : (length entries == length (variables_in earlier)) ≡ true = pass.fitting in
    let same : length entries ≡ length (variables_in earlier) = grind (arith, nat_tests) in
    let residues : list_all is_entry entries ≡ true = not_false _ pass.residues in (
      same,
      record {
        some = omega (arith, within.0);
        few = omega (arith, within.1);
        below = λ k inside. let below : is_entry (slice_index entries k) ≡ true = list_all-at is_entry entries residues k (slice_index entries k) (slice_get-get_or entries k 0 inside) in grind (arith, nat_tests);
      },
    )

-- columns that ascend below a limit
below_each : (most m : ℕ) (later : List ℕ) → most < 2 ^ 32 - 1 → are_columns most later ≡ true → Ascend (m ∷ later) → (j : ℕ) → j < length later → m < slice_index later j
below_each most m [] small within ascend j inside = absurd (omega arith)
below_each most m (n ∷ later) small within ascend j inside =
    let head : nat_le n most ≡ true = (both _ (are_columns most later) within).0 in
    let under : n ≤ most = grind (arith, nat_tests, head) in
    let least : m < n = ascend.0 (omega (arith, under, small)) in
    from (below_each most n later small (both _ (are_columns most later) within).1 ascend.1) j inside least
  where
    from : ((i : ℕ) → i < length later → n < slice_index later i) → (j : ℕ) → j < length (n ∷ later) → m < n → m < slice_index (n ∷ later) j
    from above zero inside least = least
    from above (suc j) inside least = let later_below : n < slice_index later j = above j (omega (arith, inside)) in omega (arith, least, later_below)

ascending_from : (most : ℕ) (columns : List ℕ) → most < 2 ^ 32 - 1 → are_columns most columns ≡ true → Ascend columns → IsAscending columns
ascending_from most [] small within ascend i j order inside = absurd (omega arith)
ascending_from most (m ∷ []) small within ascend i j order inside = absurd (omega arith)
ascending_from most (m ∷ n ∷ later) small within ascend zero zero order inside = absurd (omega arith)
ascending_from most (m ∷ n ∷ later) small within ascend zero (suc j) order inside = below_each most m (n ∷ later) small (both _ (are_columns most (n ∷ later)) within).1 ascend j (omega arith)
ascending_from most (m ∷ n ∷ later) small within ascend (suc i) zero order inside = absurd (omega arith)
ascending_from most (m ∷ n ∷ later) small within ascend (suc i) (suc j) order inside = ascending_from most (n ∷ later) small (both _ (are_columns most (n ∷ later)) within).1 ascend.1 i j (omega arith) (omega arith)

-- the columns of a `row` line are those of a row, and there is room for them
pub row-passed : (earlier : List Line) (columns : List ℕ) → Passes earlier (Row columns) → (unknowns_in earlier) ≤ 4096 → Ascend columns → IsSparseRow (unknowns_in earlier) (record { columns = columns }) × ((entries_in earlier) + length columns ≤ 65536)
row-passed earlier columns pass small ascend =
    let parts : (are_columns (unknowns_in earlier) columns ≡ true) × (nat_le ((entries_in earlier) + length columns) 65536 ≡ true) = both _ _ (not_false _ pass.limits) in
    let room : nat_le ((entries_in earlier) + length columns) 65536 ≡ true = parts.1 in (
      record {
        ascending = ascending_from (unknowns_in earlier) columns (omega arith) parts.0 ascend;
        within = λ i inside. let below : nat_le (slice_index columns i) (unknowns_in earlier) ≡ true = list_all-at (λ column. nat_le column (unknowns_in earlier)) columns parts.0 i (slice_index columns i) (slice_get-get_or columns i 0 inside) in grind (arith, nat_tests);
      },
      grind (arith, nat_tests, room),
    )
