-- What is kept stays sound with each line.
use Rattle.std.proofs.Common.{◌≡◌, ◌≢◌, ◌<◌, ◌≤◌, ◌+◌, ℕ, zero, suc, Bool, true, false, refl, sym, ap, subst, ◌∙◌, List, [], ◌∷◌, ◌++◌, length, map, Option, Some, None, arith, ◌⊎◌, inl, inr, bytes_eq, length-append, IsTrue}
use mathlib.Core.Logic.{⊎_elim}
use Rattle.std.specs.List.{slice_get, list_any}
use Rattle.std.proofs.lemmas.List.{map-append}
use Rattle.std.proofs.lemmas.Slice.Eq.{bytes_eq-Decides}
use Rattle.ratfun_text.specs.declared.names.Names.{Names}
use Rattle.ratfun_text.specs.declared.names.Names.TheVariants.{Listed}
use Rattle.ratfun_text.specs.Names.{names_of as variables_of}
use Rattle.graph_file.specs.declared.graph.Node.{Node}
use Rattle.graph_file.specs.declared.graph.Source.{Source}
use Rattle.graph_file.specs.declared.graph.Source.TheVariants as source
use Rattle.graph_file.specs.declared.line.Last.{Last}
use Rattle.graph_file.specs.declared.line.Last.TheVariants as last
use Rattle.graph_file.specs.Reader.{is_asked, is_ended}
use Rattle.graph_file.specs.Reader.{AreDistinct, AreVariables, HasNoRows, HasRows, IsBegun, IsBegunNode, IsOpen, IsSound, has_input, has_name, has_rows, kind_stood, kind_unknowns}
use Rattle.graph_file.specs.Needed.{kinds_of}
use Rattle.graph_file.specs.Says.{last_with_row, names_of, with_row}
use Rattle.graph_file.specs.Sound.{AreFewRows, IsKind}
use Rattle.elim_core.specs.Sparse.{IsSparseRow, entries_of}
use Rattle.elim_core.specs.declared.SparseRow.{SparseRow}
use Rattle.ratfun_text.specs.Bytes.{is_name}
use Rattle.std.proofs.lemmas.Option.{slice_get_within}
use Rattle.graph_file.specs.declared.graph.NodeKind.{NodeKind}
use Rattle.graph_file.specs.declared.graph.NodeKind.TheVariants as node

pub named_with_input : (stood : Last) → has_input stood ≡ true → has_name stood ≡ true
named_with_input last.Start e = cc
named_with_input last.Flow e = cc
named_with_input last.Graph e = cc
named_with_input last.Input e = refl
named_with_input last.Node e = refl
named_with_input last.Sparse e = refl
named_with_input last.Row e = refl
named_with_input last.Output e = refl
named_with_input last.Job e = refl

no_input_without_name : (stood : Last) → has_name stood ≡ false → has_input stood ≡ false
no_input_without_name last.Start e = refl
no_input_without_name last.Flow e = refl
no_input_without_name last.Graph e = cc
no_input_without_name last.Input e = cc
no_input_without_name last.Node e = cc
no_input_without_name last.Sparse e = cc
no_input_without_name last.Row e = cc
no_input_without_name last.Output e = cc
no_input_without_name last.Job e = cc

pub input_with_output : (stood : Last) → is_ended stood ≡ true → has_input stood ≡ true
input_with_output last.Start e = cc
input_with_output last.Flow e = cc
input_with_output last.Graph e = cc
input_with_output last.Input e = cc
input_with_output last.Node e = cc
input_with_output last.Sparse e = cc
input_with_output last.Row e = cc
input_with_output last.Output e = refl
input_with_output last.Job e = refl

-- no line of the job stood behind a graph without variables
unasked_without_input : (stood : Last) → has_input stood ≡ false → is_asked stood ≡ false
unasked_without_input last.Start e = refl
unasked_without_input last.Flow e = refl
unasked_without_input last.Graph e = refl
unasked_without_input last.Input e = refl
unasked_without_input last.Node e = refl
unasked_without_input last.Sparse e = refl
unasked_without_input last.Row e = refl
unasked_without_input last.Output e = refl
unasked_without_input last.Job e = cc

-- what stands at a place of a list with one more element
pub at_push : {X : Type 0} (xs : List X) (x : X) (k : ℕ) (y : X) → slice_get (xs ++ x ∷ []) k ≡ Some y → (slice_get xs k ≡ Some y) ⊎ ((k ≡ length xs) × (x ≡ y))
at_push [] x zero y at = inr (refl, cc)
at_push [] x (suc k) y at = cc
at_push (z ∷ zs) x zero y at = inl at
at_push (z ∷ zs) x (suc k) y at = ⊎_elim (λ before. inl before) (λ (here : (k ≡ length zs) × (x ≡ y)). inr (ap suc here.0, here.1)) (at_push zs x k y at)

-- a name that is not among the names stands at none of their places
pub not_at : (names : List (List ℕ)) (name : List ℕ) → list_any (λ other. bytes_eq other name) names ≡ false → (k : ℕ) → slice_get names k ≡ Some name → ⊥
not_at [] name none k at = cc
not_at (other ∷ names) name none zero at =
    let same : other ≡ name = cc in
    from (bytes_eq other name) none ((bytes_eq-Decides other name).1 same)
  where
    from : (b : Bool) → (Rattle.std.proofs.Common.◌||◌ b (list_any (λ o. bytes_eq o name) names)) ≡ false → b ≡ true → ⊥
    from true e is = cc
    from false e is = cc
not_at (other ∷ names) name none (suc k) at = not_at names name (from (bytes_eq other name) none) k at
  where
    from : (b : Bool) → (Rattle.std.proofs.Common.◌||◌ b (list_any (λ o. bytes_eq o name) names)) ≡ false → list_any (λ o. bytes_eq o name) names ≡ false
    from true e = cc
    from false e = e

pub AreDistinct-push : (names : List (List ℕ)) (name : List ℕ) → AreDistinct names → list_any (λ other. bytes_eq other name) names ≡ false → AreDistinct (names ++ name ∷ [])
AreDistinct-push names name distinct fresh i j other first second = ⊎_elim
    (λ (at : slice_get names i ≡ Some other). ⊎_elim
    (λ (again : slice_get names j ≡ Some other). distinct i j other at again)
    (λ (last : (j ≡ length names) × (name ≡ other)). absurd (not_at names name fresh i (at ∙ ap (λ n. Some n) (sym last.1))))
    (at_push names name j other second))
    (λ (at : (i ≡ length names) × (name ≡ other)). ⊎_elim
    (λ (again : slice_get names j ≡ Some other). absurd (not_at names name fresh j (again ∙ ap (λ n. Some n) (sym at.1))))
    (λ (last : (j ≡ length names) × (name ≡ other)). at.0 ∙ sym last.0)
    (at_push names name j other second))
    (at_push names name i other first)

pub nothing_at : {X : Type 0} (xs : List X) (k : ℕ) (x : X) → xs ≡ [] → slice_get xs k ≡ Some x → ⊥
nothing_at {X} xs k x none at = let told : slice_get {X = X} [] k ≡ Some x = ap (λ (l : List X). slice_get l k) (sym none) ∙ at in cc

-- the output stands behind no sparse node without rows
pub whole_with_output : (stood : Last) → is_ended stood ≡ true → stood ≡ last.Sparse → ⊥
whole_with_output stood e is = let told : is_ended last.Sparse ≡ true = subst (λ (s : Last). is_ended s ≡ true) is e in cc

pub input_with_rows : (stood : Last) → has_rows stood ≡ true → has_input stood ≡ true
input_with_rows last.Start e = cc
input_with_rows last.Flow e = cc
input_with_rows last.Graph e = cc
input_with_rows last.Input e = cc
input_with_rows last.Node e = cc
input_with_rows last.Sparse e = refl
input_with_rows last.Row e = refl
input_with_rows last.Output e = cc
input_with_rows last.Job e = cc

-- the line of a node
input_with_node : (kind : NodeKind) → has_input (kind_stood kind) ≡ true
input_with_node (node.Eval from exprs) = refl
input_with_node (node.Take parts) = refl
input_with_node (node.Slice from first last) = refl
input_with_node (node.Chain parts) = refl
input_with_node (node.Sum parts) = refl
input_with_node (node.Product parts) = refl
input_with_node (node.Matmul left right rows mid cols) = refl
input_with_node (node.Dense from rows unknowns want) = refl
input_with_node (node.Sparse from unknowns want rows) = refl
input_with_node (node.Call graph parts) = refl
input_with_node (node.Memo graph parts) = refl
input_with_node (node.Map graph parts) = refl
input_with_node (node.Laurent graph lo hi num den parts) = refl

named_with_node : (kind : NodeKind) → has_name (kind_stood kind) ≡ true
named_with_node kind = named_with_input (kind_stood kind) (input_with_node kind)

no_output_with_node : (kind : NodeKind) → is_ended (kind_stood kind) ≡ false
no_output_with_node (node.Eval from exprs) = refl
no_output_with_node (node.Take parts) = refl
no_output_with_node (node.Slice from first last) = refl
no_output_with_node (node.Chain parts) = refl
no_output_with_node (node.Sum parts) = refl
no_output_with_node (node.Product parts) = refl
no_output_with_node (node.Matmul left right rows mid cols) = refl
no_output_with_node (node.Dense from rows unknowns want) = refl
no_output_with_node (node.Sparse from unknowns want rows) = refl
no_output_with_node (node.Call graph parts) = refl
no_output_with_node (node.Memo graph parts) = refl
no_output_with_node (node.Map graph parts) = refl
no_output_with_node (node.Laurent graph lo hi num den parts) = refl

-- a node that isn't sparse waits for no rows
filled_node : (kind : NodeKind) → (kind_stood kind ≡ last.Sparse → ⊥) → HasRows kind
filled_node (node.Eval from exprs) other = tt
filled_node (node.Take parts) other = tt
filled_node (node.Slice from first last) other = tt
filled_node (node.Chain parts) other = tt
filled_node (node.Sum parts) other = tt
filled_node (node.Product parts) other = tt
filled_node (node.Matmul left right rows mid cols) other = tt
filled_node (node.Dense from rows unknowns want) other = tt
filled_node (node.Sparse from unknowns want rows) other = absurd (other refl)
filled_node (node.Call graph parts) other = tt
filled_node (node.Memo graph parts) other = tt
filled_node (node.Map graph parts) other = tt
filled_node (node.Laurent graph lo hi num den parts) other = tt

-- a sparse node's rows are still to come
open_node : (kind : NodeKind) → HasNoRows kind → has_rows (kind_stood kind) ≡ true → IsOpen (kind_unknowns kind) 0 kind
open_node (node.Eval from exprs) none e = cc
open_node (node.Take parts) none e = cc
open_node (node.Slice from first last) none e = cc
open_node (node.Chain parts) none e = cc
open_node (node.Sum parts) none e = cc
open_node (node.Product parts) none e = cc
open_node (node.Matmul left right rows mid cols) none e = cc
open_node (node.Dense from rows unknowns want) none e = cc
open_node (node.Sparse from unknowns want rows) none e = (refl, ap entries_of none, λ some. absurd (some none))
open_node (node.Call graph parts) none e = cc
open_node (node.Memo graph parts) none e = cc
open_node (node.Map graph parts) none e = cc
open_node (node.Laurent graph lo hi num den parts) none e = cc

few_of_node : (variables number : ℕ) (kind : NodeKind) → IsBegun variables number kind → kind_unknowns kind ≤ 4096
few_of_node variables number (node.Eval from exprs) begun = omega arith
few_of_node variables number (node.Take parts) begun = omega arith
few_of_node variables number (node.Slice from first last) begun = omega arith
few_of_node variables number (node.Chain parts) begun = omega arith
few_of_node variables number (node.Sum parts) begun = omega arith
few_of_node variables number (node.Product parts) begun = omega arith
few_of_node variables number (node.Matmul left right rows mid cols) begun = omega arith
few_of_node variables number (node.Dense from rows unknowns want) begun = omega arith
few_of_node variables number (node.Sparse from unknowns want rows) begun = begun.0
few_of_node variables number (node.Call graph parts) begun = omega arith
few_of_node variables number (node.Memo graph parts) begun = omega arith
few_of_node variables number (node.Map graph parts) begun = omega arith
few_of_node variables number (node.Laurent graph lo hi num den parts) begun = omega arith

-- a node that has its rows is sound
pub whole_kind : (variables number : ℕ) (kind : NodeKind) → IsBegun variables number kind → HasRows kind → IsKind variables number kind
whole_kind variables number (node.Eval from exprs) begun filled = begun
whole_kind variables number (node.Take parts) begun filled = begun
whole_kind variables number (node.Slice from first last) begun filled = begun
whole_kind variables number (node.Chain parts) begun filled = begun
whole_kind variables number (node.Sum parts) begun filled = begun
whole_kind variables number (node.Product parts) begun filled = begun
whole_kind variables number (node.Matmul left right rows mid cols) begun filled = begun
whole_kind variables number (node.Dense from rows unknowns want) begun filled = begun
whole_kind variables number (node.Sparse from unknowns want rows) begun filled = begun.1 rows filled
whole_kind variables number (node.Call graph parts) begun filled = begun
whole_kind variables number (node.Memo graph parts) begun filled = begun
whole_kind variables number (node.Map graph parts) begun filled = begun
whole_kind variables number (node.Laurent graph lo hi num den parts) begun filled = begun

-- lists with one more element at their ends
none_pushed : {X : Type 0} (xs : List X) (x : X) → xs ++ x ∷ [] ≡ [] → ⊥
none_pushed [] x e = cc
none_pushed (y ∷ ys) x e = cc

same_last : {X : Type 0} (xs ys : List X) (x y : X) → xs ++ x ∷ [] ≡ ys ++ y ∷ [] → x ≡ y
same_last [] [] x y e = cc
same_last [] (z ∷ []) x y e = cc
same_last [] (z ∷ w ∷ ys) x y e = cc
same_last (z ∷ []) [] x y e = cc
same_last (z ∷ w ∷ xs) [] x y e = cc
same_last (z ∷ xs) (w ∷ ys) x y e = same_last xs ys x y (let rest : xs ++ x ∷ [] ≡ ys ++ y ∷ [] = cc in rest)

pub at_front : {X : Type 0} (xs : List X) (x : X) (k : ℕ) (y : X) → slice_get xs k ≡ Some y → slice_get (xs ++ x ∷ []) k ≡ Some y
at_front [] x k y at = cc
at_front (z ∷ zs) x zero y at = at
at_front (z ∷ zs) x (suc k) y at = at_front zs x k y at

pub at_last : {X : Type 0} (xs : List X) (x : X) → slice_get (xs ++ x ∷ []) (length xs) ≡ Some x
at_last [] x = refl
at_last (z ∷ zs) x = at_last zs x

entries_pushed : (rows : List SparseRow) (row : SparseRow) → entries_of (rows ++ row ∷ []) ≡ entries_of rows + length row.columns
entries_pushed [] row = omega arith
entries_pushed (first ∷ rows) row = omega (arith, entries_pushed rows row)

-- the rows with one more
few_pushed : (unknowns : ℕ) (rows : List SparseRow) (row : SparseRow) → (rows ≢ [] → AreFewRows unknowns rows) → 1 ≤ length row.columns → IsSparseRow unknowns row → entries_of rows + length row.columns ≤ 65536 → AreFewRows unknowns (rows ++ row ∷ [])
few_pushed unknowns rows row few some is room = record {
  some = omega (arith, length-append rows (row ∷ []));
  filled = λ k other at. ⊎_elim
      (λ (before : slice_get rows k ≡ Some other). (few (λ none. nothing_at rows k other none before)).filled k other before)
      (λ (here : (k ≡ length rows) × (row ≡ other)). subst (λ (r : SparseRow). 1 ≤ length r.columns) here.1 some)
      (at_push rows row k other at);
  over = λ k other at. ⊎_elim
      (λ (before : slice_get rows k ≡ Some other). (few (λ none. nothing_at rows k other none before)).over k other before)
      (λ (here : (k ≡ length rows) × (row ≡ other)). subst (IsSparseRow unknowns) here.1 is)
      (at_push rows row k other at);
  bounded = omega (arith, room, entries_pushed rows row);
}

-- a node with one more row
record HasRow (unknowns entries : ℕ) (kind next : NodeKind) : Type 0 where
  opened : IsOpen unknowns entries next
  filled : HasRows next
  begun : (variables number : ℕ) → IsBegun variables number kind → IsBegun variables number next

has_row : (unknowns entries : ℕ) (row : SparseRow) (kind : NodeKind) → IsOpen unknowns entries kind → 1 ≤ length row.columns → IsSparseRow unknowns row → entries + length row.columns ≤ 65536 → HasRow unknowns (entries + length row.columns) kind (with_row row kind)
has_row unknowns entries row (node.Eval from exprs) opened some is room = absurd opened
has_row unknowns entries row (node.Take parts) opened some is room = absurd opened
has_row unknowns entries row (node.Slice from first last) opened some is room = absurd opened
has_row unknowns entries row (node.Chain parts) opened some is room = absurd opened
has_row unknowns entries row (node.Sum parts) opened some is room = absurd opened
has_row unknowns entries row (node.Product parts) opened some is room = absurd opened
has_row unknowns entries row (node.Matmul left right rows mid cols) opened some is room = absurd opened
has_row unknowns entries row (node.Dense from rows own want) opened some is room = absurd opened
has_row unknowns entries row (node.Call graph parts) opened some is room = absurd opened
has_row unknowns entries row (node.Memo graph parts) opened some is room = absurd opened
has_row unknowns entries row (node.Map graph parts) opened some is room = absurd opened
has_row unknowns entries row (node.Laurent graph lo hi num den parts) opened some is room = absurd opened
has_row unknowns entries row (node.Sparse from own want rows) opened some is room =
    let few : AreFewRows own (rows ++ row ∷ []) = few_pushed own rows row opened.2 some (subst (λ (u : ℕ). IsSparseRow u row) (sym opened.0) is) (omega (arith, opened.1, room)) in
    record {
      opened = (opened.0, entries_pushed rows row ∙ ap (λ n. n + length row.columns) opened.1, λ none. few);
      filled = few;
      begun = λ variables number begun. begun;
    }

-- before any line
pub IsSound-first : (variables : Names) (names : List (List ℕ)) (nodes : List Node) (points : List (List ℕ)) → variables ≡ Listed [] → names ≡ [] → nodes ≡ [] → points ≡ [] → IsSound last.Start None variables names nodes 0 0 None points
IsSound-first variables names nodes points no_variables no_names no_nodes no_points = record {
  listed = no_variables ∙ ap (λ v. Listed (variables_of v)) (sym no_variables);
  few = omega (arith, ap (λ v. length (variables_of v)) no_variables);
  has_graph = λ e. cc;
  no_graph = λ e. refl;
  named = λ given is. cc;
  inputs = λ e. cc;
  ended = λ e. cc;
  no_node = λ e. no_nodes;
  no_point = λ e. no_points;
  names_are = ap names_of no_nodes ∙ sym no_names;
  bounded = omega (arith, ap length no_nodes);
  begun = λ k node at. absurd (nothing_at nodes k node no_nodes at);
  filled = λ k node at. absurd (nothing_at nodes k node no_nodes at);
  some_node = λ e. cc;
  opened = λ e. cc;
  distinct = λ i j name at. absurd (nothing_at names i name no_names at);
  output_is = λ k is. cc;
  few_unknowns = omega arith;
  few_entries = omega arith;
  few_points = omega (arith, ap length no_points);
  fitting = λ k point at. absurd (nothing_at points k point no_points at);
}

module _ (stood : Last) (name : Option (List ℕ)) (variables : Names) (names : List (List ℕ)) (nodes : List Node) (unknowns entries : ℕ) (output : Option Source) (points : List (List ℕ)) (sound : IsSound stood name variables names nodes unknowns entries output points) where
  pub IsSound-flow : has_name stood ≡ false → IsSound last.Flow name variables names nodes unknowns entries output points
  IsSound-flow unnamed = let fresh : has_input stood ≡ false = no_input_without_name stood unnamed in record {
    has_graph = λ e. cc;
    no_graph = λ e. sound.no_graph unnamed;
    named = sound.named;
    inputs = λ e. cc;
    listed = sound.listed;
    few = sound.few;
    ended = λ e. cc;
    no_node = λ e. sound.no_node fresh;
    no_point = λ e. sound.no_point (unasked_without_input stood fresh);
    names_are = sound.names_are;
    bounded = sound.bounded;
    begun = sound.begun;
    filled = λ k node at. absurd (nothing_at nodes k node (sound.no_node fresh) at);
    some_node = λ e. cc;
    opened = λ e. cc;
    distinct = sound.distinct;
    output_is = sound.output_is;
    few_unknowns = sound.few_unknowns;
    few_entries = sound.few_entries;
    few_points = sound.few_points;
    fitting = sound.fitting;
  }

  pub IsSound-graph : (given : List ℕ) (none : Names) (no_names : List (List ℕ)) (no_nodes : List Node) → is_asked stood ≡ false → IsTrue (is_name given) → length given ≤ 32 → none ≡ Listed [] → no_names ≡ [] → no_nodes ≡ [] → IsSound last.Graph (Some given) none no_names no_nodes 0 0 None points
  IsSound-graph given none no_names no_nodes fresh is_a_name short none_is no_names_are no_nodes_are = record {
    has_graph = λ e is. cc;
    no_graph = λ e. cc;
    named = λ name is. let told : Some given ≡ Some name = is in let same : given ≡ name = cc in subst (λ (n : List ℕ). IsTrue (is_name n) × (length n ≤ 32)) same (is_a_name, short);
    inputs = λ e. cc;
    listed = none_is ∙ ap (λ v. Listed (variables_of v)) (sym none_is);
    few = omega (arith, ap (λ v. length (variables_of v)) none_is);
    ended = λ e. cc;
    no_node = λ e. no_nodes_are;
    no_point = λ e. sound.no_point fresh;
    names_are = ap names_of no_nodes_are ∙ sym no_names_are;
    bounded = omega (arith, ap length no_nodes_are);
    begun = λ k node at. absurd (nothing_at no_nodes k node no_nodes_are at);
    filled = λ k node at. absurd (nothing_at no_nodes k node no_nodes_are at);
    some_node = λ e. cc;
    opened = λ e. cc;
    distinct = λ i j name at. absurd (nothing_at no_names i name no_names_are at);
    output_is = λ k is. cc;
    few_unknowns = omega arith;
    few_entries = omega arith;
    few_points = sound.few_points;
    fitting = λ k point at. absurd (nothing_at points k point (sound.no_point fresh) at);
  }

  pub IsSound-input : (given : List (List ℕ)) → has_name stood ≡ true → has_input stood ≡ false → AreVariables given → IsSound last.Input name (Listed given) names nodes unknowns entries output points
  IsSound-input given has_graph fresh variables_are = record {
    has_graph = λ e. sound.has_graph has_graph;
    no_graph = λ e. cc;
    named = sound.named;
    inputs = λ e. variables_are;
    listed = refl;
    few = variables_are.few;
    ended = λ e. cc;
    no_node = λ e. cc;
    no_point = λ e. sound.no_point (unasked_without_input stood fresh);
    names_are = sound.names_are;
    bounded = sound.bounded;
    begun = λ k node at. absurd (nothing_at nodes k node (sound.no_node fresh) at);
    filled = λ k node at. absurd (nothing_at nodes k node (sound.no_node fresh) at);
    some_node = λ e. cc;
    opened = λ e. cc;
    distinct = sound.distinct;
    output_is = sound.output_is;
    few_unknowns = sound.few_unknowns;
    few_entries = sound.few_entries;
    few_points = sound.few_points;
    fitting = λ k point at. absurd (nothing_at points k point (sound.no_point (unasked_without_input stood fresh)) at);
  }

  pub IsSound-node : (node : Node) (stood' : Last) (names' : List (List ℕ)) (nodes' : List Node) (unknowns' : ℕ) → is_asked stood ≡ false → has_input stood ≡ true → (stood ≡ last.Sparse → ⊥) → length nodes < 4096 → list_any (λ other. bytes_eq other node.name) names ≡ false → IsBegunNode (length (variables_of variables)) (length nodes) node → HasNoRows node.kind → stood' ≡ kind_stood node.kind → names' ≡ names ++ node.name ∷ [] → nodes' ≡ nodes ++ node ∷ [] → unknowns' ≡ kind_unknowns node.kind → IsSound stood' name variables names' nodes' unknowns' 0 output points
  IsSound-node node stood' names' nodes' unknowns' unasked inputs whole few fresh is_node no_rows more_stood more_names more_nodes more_unknowns =
      let P : Last → List (List ℕ) → List Node → ℕ → Type 0 = λ s ns ms u. IsSound s name variables ns ms u 0 output points in
      let made : P (kind_stood node.kind) (names ++ node.name ∷ []) (nodes ++ node ∷ []) (kind_unknowns node.kind) = record {
        has_graph = λ e. sound.has_graph (named_with_input stood inputs);
        no_graph = λ e. let never : true ≡ false = sym (named_with_node node.kind) ∙ e in cc;
        named = sound.named;
        inputs = λ e. sound.inputs inputs;
        listed = sound.listed;
        few = sound.few;
        ended = λ e. let never : true ≡ false = sym e ∙ no_output_with_node node.kind in cc;
        no_node = λ e. let never : true ≡ false = sym (input_with_node node.kind) ∙ e in cc;
        no_point = λ e. sound.no_point unasked;
        names_are = map-append (λ (n : Node). n.name) nodes (node ∷ []) ∙ ap (λ l. l ++ node.name ∷ []) sound.names_are;
        bounded = omega (arith, length-append nodes (node ∷ []));
        begun = λ k other at. ⊎_elim
            (λ (before : slice_get nodes k ≡ Some other). sound.begun k other before)
            (λ (here : (k ≡ length nodes) × (node ≡ other)). subst (λ (n : ℕ). IsBegunNode (length (variables_of variables)) n other) (sym here.0) (subst (λ (n : Node). IsBegunNode (length (variables_of variables)) (length nodes) n) here.1 is_node))
            (at_push nodes node k other at);
        filled = λ k other at inside. ⊎_elim
            (λ (before : slice_get nodes k ≡ Some other). sound.filled k other before (λ is. absurd (whole is)))
            (λ (here : (k ≡ length nodes) × (node ≡ other)). subst (λ (n : Node). HasRows n.kind) here.1 (filled_node node.kind (λ is. let below : k + 1 < length (nodes ++ node ∷ []) = inside is in absurd (omega (arith, below, here.0, length-append nodes (node ∷ []))))))
            (at_push nodes node k other at);
        some_node = λ e. none_pushed nodes node;
        opened = λ e front last same. subst (λ (n : Node). IsOpen (kind_unknowns node.kind) 0 n.kind) (same_last nodes front node last same) (open_node node.kind no_rows e);
        distinct = AreDistinct-push names node.name sound.distinct fresh;
        output_is = λ k is. let below : k < length nodes = sound.output_is k is in omega (arith, length-append nodes (node ∷ []));
        few_unknowns = few_of_node (length (variables_of variables)) (length nodes) node.kind is_node.kind;
        few_entries = omega arith;
        few_points = sound.few_points;
        fitting = sound.fitting;
      }
      in
      let with_stood : P stood' (names ++ node.name ∷ []) (nodes ++ node ∷ []) (kind_unknowns node.kind) = subst (λ (s : Last). P s (names ++ node.name ∷ []) (nodes ++ node ∷ []) (kind_unknowns node.kind)) (sym more_stood) made in
      let with_unknowns : P stood' (names ++ node.name ∷ []) (nodes ++ node ∷ []) unknowns' = subst (λ (u : ℕ). P stood' (names ++ node.name ∷ []) (nodes ++ node ∷ []) u) (sym more_unknowns) with_stood in
      subst (λ (ns : List (List ℕ)). P stood' ns nodes' unknowns') (sym more_names) (subst (λ (ms : List Node). P stood' (names ++ node.name ∷ []) ms unknowns') (sym more_nodes) with_unknowns)

  pub IsSound-row : (front : List Node) (node : Node) (row : SparseRow) (nodes' : List Node) (entries' : ℕ) → nodes ≡ front ++ node ∷ [] → is_asked stood ≡ false → has_rows stood ≡ true → 1 ≤ length row.columns → IsSparseRow unknowns row → entries + length row.columns ≤ 65536 → nodes' ≡ front ++ (record { name = node.name; kind = with_row row node.kind; needed = node.needed }) ∷ [] → entries' ≡ entries + length row.columns → IsSound last.Row name variables names nodes' unknowns entries' output points
  IsSound-row front node row nodes' entries' split unasked rows some is room more_nodes more_entries =
      let next : Node = record { name = node.name; kind = with_row row node.kind; needed = node.needed } in
      let inputs : has_input stood ≡ true = input_with_rows stood rows in
      let has : HasRow unknowns (entries + length row.columns) node.kind (with_row row node.kind) = has_row unknowns entries row node.kind (sound.opened rows front node split) some is room in
      let count : length nodes ≡ length front + 1 = ap length split ∙ length-append front (node ∷ []) in
      let new_count : length (front ++ next ∷ []) ≡ length front + 1 = length-append front (next ∷ []) in
      let was : (k : ℕ) (other : Node) → slice_get front k ≡ Some other → slice_get nodes k ≡ Some other = λ k other at. ap (λ (l : List Node). slice_get l k) split ∙ at_front front node k other at in
      let old : IsBegunNode (length (variables_of variables)) (length front) node = sound.begun (length front) node (ap (λ (l : List Node). slice_get l (length front)) split ∙ at_last front node) in
      let begun_next : IsBegunNode (length (variables_of variables)) (length front) next = record { named = old.named; short = old.short; no_input = old.no_input; kind = has.begun (length (variables_of variables)) (length front) old.kind } in
      let P : List Node → ℕ → Type 0 = λ ms e. IsSound last.Row name variables names ms unknowns e output points in
      let made : P (front ++ next ∷ []) (entries + length row.columns) = record {
        has_graph = λ e. sound.has_graph (named_with_input stood inputs);
        no_graph = λ e. cc;
        named = sound.named;
        inputs = λ e. sound.inputs inputs;
        listed = sound.listed;
        few = sound.few;
        ended = λ e. cc;
        no_node = λ e. cc;
        no_point = λ e. sound.no_point unasked;
        names_are = map-append (λ (n : Node). n.name) front (next ∷ []) ∙ sym (map-append (λ (n : Node). n.name) front (node ∷ [])) ∙ ap names_of (sym split) ∙ sound.names_are;
        bounded = omega (arith, count, new_count, sound.bounded);
        begun = λ k other at. ⊎_elim
            (λ (before : slice_get front k ≡ Some other). sound.begun k other (was k other before))
            (λ (here : (k ≡ length front) × (next ≡ other)). subst (λ (n : ℕ). IsBegunNode (length (variables_of variables)) n other) (sym here.0) (subst (λ (n : Node). IsBegunNode (length (variables_of variables)) (length front) n) here.1 begun_next))
            (at_push front next k other at);
        filled = λ k other at inside. ⊎_elim
            (λ (before : slice_get front k ≡ Some other). sound.filled k other (was k other before) (λ still. let below : k < length front = slice_get_within front k other before in omega (arith, below, count)))
            (λ (here : (k ≡ length front) × (next ≡ other)). subst (λ (n : Node). HasRows n.kind) here.1 has.filled)
            (at_push front next k other at);
        some_node = λ e. none_pushed front next;
        opened = λ e before last same. subst (λ (n : Node). IsOpen unknowns (entries + length row.columns) n.kind) (same_last front before next last same) has.opened;
        distinct = sound.distinct;
        output_is = λ k told. let below : k < length nodes = sound.output_is k told in omega (arith, below, count, new_count);
        few_unknowns = sound.few_unknowns;
        few_entries = room;
        few_points = sound.few_points;
        fitting = sound.fitting;
      }
      in
      subst (λ (ms : List Node). P ms entries') (sym more_nodes) (subst (λ (e : ℕ). P (front ++ next ∷ []) e) (sym more_entries) made)

  pub IsSound-output : (given : Source) → is_asked stood ≡ false → has_input stood ≡ true → (stood ≡ last.Sparse → ⊥) → ((k : ℕ) → given ≡ source.Node k → k < length nodes) → IsSound last.Output name variables names nodes unknowns entries (Some given) points
  IsSound-output given unasked inputs whole within = record {
    has_graph = λ e. sound.has_graph (named_with_input stood inputs);
    no_graph = λ e. cc;
    named = sound.named;
    inputs = λ e. sound.inputs inputs;
    listed = sound.listed;
    few = sound.few;
    ended = λ e is. cc;
    no_node = λ e. cc;
    no_point = λ e. sound.no_point unasked;
    names_are = sound.names_are;
    bounded = sound.bounded;
    begun = sound.begun;
    filled = λ k node at inside. sound.filled k node at (λ is. absurd (whole is));
    some_node = λ e. cc;
    opened = λ e. cc;
    distinct = sound.distinct;
    output_is = λ k is. within k (let told : Some given ≡ Some (source.Node k) = is in cc);
    few_unknowns = sound.few_unknowns;
    few_entries = sound.few_entries;
    few_points = sound.few_points;
    fitting = sound.fitting;
  }

  pub IsSound-job : is_ended stood ≡ true → IsSound last.Job name variables names nodes unknowns entries output points
  IsSound-job has_end = record {
    has_graph = λ e. sound.has_graph (named_with_input stood (input_with_output stood has_end));
    no_graph = λ e. cc;
    named = sound.named;
    inputs = λ e. sound.inputs (input_with_output stood has_end);
    listed = sound.listed;
    few = sound.few;
    ended = λ e. sound.ended has_end;
    no_node = λ e. cc;
    no_point = λ e. cc;
    names_are = sound.names_are;
    bounded = sound.bounded;
    begun = sound.begun;
    filled = λ k node at waits. sound.filled k node at (λ is. absurd (whole_with_output stood has_end is));
    some_node = λ e. cc;
    opened = λ e. cc;
    distinct = sound.distinct;
    output_is = sound.output_is;
    few_unknowns = sound.few_unknowns;
    few_entries = sound.few_entries;
    few_points = sound.few_points;
    fitting = sound.fitting;
  }

  pub IsSound-point : (point : List ℕ) (points' : List (List ℕ)) → is_ended stood ≡ true → length points < 65536 → length point ≡ length (variables_of variables) → points' ≡ points ++ point ∷ [] → IsSound last.Job name variables names nodes unknowns entries output points'
  IsSound-point point points' has_end few fits more =
      let inputs : has_input stood ≡ true = input_with_output stood has_end in
      let whole : IsSound last.Job name variables names nodes unknowns entries output (points ++ point ∷ []) = record {
        has_graph = λ e. sound.has_graph (named_with_input stood inputs);
        no_graph = λ e. cc;
        named = sound.named;
        inputs = λ e. sound.inputs inputs;
        listed = sound.listed;
        few = sound.few;
        ended = λ e. sound.ended has_end;
        no_node = λ e. cc;
        no_point = λ e. cc;
        names_are = sound.names_are;
        bounded = sound.bounded;
        begun = sound.begun;
        filled = λ k node at inside. sound.filled k node at (λ is. absurd (whole_with_output stood has_end is));
        some_node = λ e. cc;
        opened = λ e. cc;
        distinct = sound.distinct;
        output_is = sound.output_is;
        few_unknowns = sound.few_unknowns;
        few_entries = sound.few_entries;
        few_points = omega (arith, few, length-append points (point ∷ []));
        fitting = λ k other at. ⊎_elim
            (λ (before : slice_get points k ≡ Some other). sound.fitting k other before)
            (λ (here : (k ≡ length points) × (point ≡ other)). ap length (sym here.1) ∙ fits)
            (at_push points point k other at);
      }
      in
      subst (λ (ps : List (List ℕ)). IsSound last.Job name variables names nodes unknowns entries output ps) (sym more) whole

-- what the nodes compute with one more row
last_pushed : (row : SparseRow) (kinds : List NodeKind) (kind : NodeKind) → last_with_row row (kinds ++ kind ∷ []) ≡ kinds ++ with_row row kind ∷ []
last_pushed row [] kind = refl
last_pushed row (first ∷ []) kind = refl
last_pushed row (first ∷ second ∷ kinds) kind = ap (λ l. first ∷ l) (last_pushed row (second ∷ kinds) kind)

pub kinds_with_row : (row : SparseRow) (front old new : List Node) (node next : Node) → old ≡ front ++ node ∷ [] → new ≡ front ++ next ∷ [] → next.kind ≡ with_row row node.kind → kinds_of new ≡ last_with_row row (kinds_of old)
kinds_with_row row front old new node next old_is new_is kind_is =
    ap kinds_of new_is ∙ map-append (λ (n : Node). n.kind) front (next ∷ [])
    ∙ ap (λ k. kinds_of front ++ k ∷ []) kind_is
    ∙ sym (last_pushed row (kinds_of front) node.kind)
    ∙ ap (last_with_row row) (sym (map-append (λ (n : Node). n.kind) front (node ∷ [])))
    ∙ ap (λ l. last_with_row row (kinds_of l)) (sym old_is)
