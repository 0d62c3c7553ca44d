-- The graphs of a file, one after the other.
use Rattle.std.proofs.Common.{◌≡◌, ◌<◌, ◌≤◌, ◌+◌, ◌-◌, ℕ, zero, suc, true, false, cond, refl, sym, ap, subst, ◌∙◌, List, [], ◌∷◌, ◌++◌, length, Some, None, arith, nat_le, bytes_eq, length-append}
use mathlib.Core.Logic.{⊎_elim}
use Rattle.std.specs.List.{slice_get, list_any}
use Rattle.std.proofs.lemmas.Bool.Decides.{nat_tests}
use Rattle.std.proofs.lemmas.Option.{slice_get_within}
use Rattle.graph_file.specs.declared.graph.Graph.{Graph}
use Rattle.graph_file.specs.declared.line.Line.{Line}
use Rattle.graph_file.specs.declared.line.Line.TheVariants as line
use Rattle.graph_file.specs.Facts.{graph_names_in}
use Rattle.graph_file.specs.Read.{AreAll, AreBehind, AreGoodLines}
use Rattle.graph_file.specs.Reader.{AreDistinct, has_name, last_of, stands_behind}
use Rattle.graph_file.specs.Says.{SaysGraph, graph_name_in, lines_through}
use Rattle.graph_file.specs.Sound.{IsGraph}
use Rattle.graph_file.proofs.Passes.{passes, stands-bounds, stands-coeff, stands-input, stands-node, stands-output, stands-point, stands-row, stands_of}
use Rattle.graph_file.proofs.SoundLemmas.{AreDistinct-push, at_front, at_last, at_push, input_with_output, input_with_rows, named_with_input, nothing_at}

-- lines with as many graphs as this
pub through-all : (k : ℕ) (all : List Line) → length (graph_names_in all) ≤ k + 1 → lines_through k all ≡ all
through-all k [] few = refl
through-all k (next ∷ before) few = ap (λ b. cond b (next ∷ before) (lines_through k before)) within
  where
    within : nat_le (length (graph_names_in (next ∷ before))) (k + 1) ≡ true
    within = grind (arith, nat_tests, few)

-- one more line behind the graph
pub through-more : (k : ℕ) (next : Line) (before : List Line) → k + 1 < length (graph_names_in (next ∷ before)) → lines_through k (next ∷ before) ≡ lines_through k before
through-more k next before more = ap (λ b. cond b (next ∷ before) (lines_through k before)) past
  where
    past : nat_le (length (graph_names_in (next ∷ before))) (k + 1) ≡ false
    past = grind (arith, nat_tests, more)

-- without a name there is no graph
pub no-names : (all : List Line) → graph_name_in all ≡ None → graph_names_in all ≡ []
no-names [] none = refl
no-names (line.Flow version ∷ before) none = no-names before none
no-names (line.Graph name ∷ before) none = cc
no-names (line.Input names ∷ before) none = no-names before none
no-names (line.Node name statement ∷ before) none = no-names before none
no-names (line.Row columns ∷ before) none = no-names before none
no-names (line.Output list ∷ before) none = no-names before none
no-names (line.Point entries ∷ before) none = no-names before none
no-names (line.Bounds outputs num den ∷ before) none = no-names before none
no-names (line.Coeff num den ∷ before) none = no-names before none

-- the last graph's name is the last of the names
record IsLastName (names : List (List ℕ)) (name : List ℕ) : Type 0 where
  pub before : List (List ℕ)
  pub is : names ≡ before ++ name ∷ []

last_name : (all : List Line) (name : List ℕ) → graph_name_in all ≡ Some name → IsLastName (graph_names_in all) name
last_name [] name is = cc
last_name (line.Flow version ∷ before) name is = last_name before name is
last_name (line.Graph given ∷ before) name is = record { before = graph_names_in before; is = let same : given ≡ name = cc in ap (λ n. graph_names_in before ++ n ∷ []) same }
last_name (line.Input names ∷ before) name is = last_name before name is
last_name (line.Node own statement ∷ before) name is = last_name before name is
last_name (line.Row columns ∷ before) name is = last_name before name is
last_name (line.Output list ∷ before) name is = last_name before name is
last_name (line.Point entries ∷ before) name is = last_name before name is
last_name (line.Bounds outputs num den ∷ before) name is = last_name before name is
last_name (line.Coeff num den ∷ before) name is = last_name before name is

-- no graph stands before any line
pub AreBehind-first : (names : List (List ℕ)) (graphs : List Graph) → names ≡ [] → graphs ≡ [] → AreBehind [] names graphs
AreBehind-first names graphs no_names no_graphs = record {
  names_are = no_names;
  distinct = λ i j name at. absurd (nothing_at names i name no_names at);
  few = omega (arith, ap length no_names);
  counted = omega (arith, ap length no_names, ap length no_graphs);
  first = record {
    said = λ k graph at. absurd (nothing_at graphs k graph no_graphs at);
    sound = λ k graph at. absurd (nothing_at graphs k graph no_graphs at);
    named = λ k graph at. absurd (nothing_at graphs k graph no_graphs at);
  };
}

-- a line that begins no graph
pub AreBehind-kept : (next : Line) (earlier : List Line) (names : List (List ℕ)) (graphs : List Graph) → graph_names_in (next ∷ earlier) ≡ graph_names_in earlier → AreBehind earlier names graphs → AreBehind (next ∷ earlier) names graphs
AreBehind-kept next earlier names graphs same behind = record {
  names_are = behind.names_are ∙ sym same;
  distinct = behind.distinct;
  few = behind.few;
  counted = behind.counted;
  first = record {
    said = λ k graph at.
        let within : k < length graphs = slice_get_within graphs k graph at in
        let more : k + 1 < length (graph_names_in (next ∷ earlier)) = omega (arith, within, behind.counted, ap length behind.names_are, ap length same) in
        subst (λ (l : List Line). SaysGraph l graph) (sym (through-more k next earlier more)) (behind.first.said k graph at);
    sound = behind.first.sound;
    named = λ k graph at. ap (λ (l : List (List ℕ)). slice_get l k) same ∙ behind.first.named k graph at;
  };
}

-- the line that begins a graph behind others
pub AreBehind-graph : (name : List ℕ) (earlier : List Line) (names names' : List (List ℕ)) (graphs old : List Graph) → AreBehind earlier names old → AreAll earlier graphs → list_any (λ other. bytes_eq other name) names ≡ false → length names < 64 → names' ≡ names ++ name ∷ [] → AreBehind (line.Graph name ∷ earlier) names' graphs
AreBehind-graph name earlier names names' graphs old behind all fresh room more =
    let next : Line = line.Graph name in
    let count : length (graph_names_in earlier ++ name ∷ []) ≡ length (graph_names_in earlier) + 1 = length-append (graph_names_in earlier) (name ∷ []) in
    let names_are : names' ≡ graph_names_in earlier ++ name ∷ [] = more ∙ ap (λ l. l ++ name ∷ []) behind.names_are in
    record {
      names_are = names_are;
      distinct = subst AreDistinct (sym more) (AreDistinct-push names name behind.distinct fresh);
      few = omega (arith, ap length more, length-append names (name ∷ []), room);
      counted = omega (arith, ap length names_are, count, all.counted);
      first = record {
        said = λ k graph at.
            let within : k < length graphs = slice_get_within graphs k graph at in
            let past : k + 1 < length (graph_names_in (next ∷ earlier)) = omega (arith, within, all.counted, count) in
            subst (λ (l : List Line). SaysGraph l graph) (sym (through-more k next earlier past)) (all.first.said k graph at);
        sound = all.first.sound;
        named = λ k graph at. at_front (graph_names_in earlier) name k graph.name (all.first.named k graph at);
      };
    }

-- all graphs where there is none
pub AreAll-none : (earlier : List Line) (names : List (List ℕ)) (graphs : List Graph) → AreBehind earlier names graphs → graph_name_in earlier ≡ None → AreAll earlier graphs
AreAll-none earlier names graphs behind none =
    let no_names : graph_names_in earlier ≡ [] = no-names earlier none in
    record {
      counted = omega (arith, behind.counted, ap length behind.names_are, ap length no_names);
      first = behind.first;
    }

-- all graphs, with the last one
pub AreAll-last : (earlier : List Line) (names : List (List ℕ)) (graphs graphs' : List Graph) (graph : Graph) → AreBehind earlier names graphs → graph_name_in earlier ≡ Some graph.name → SaysGraph earlier graph → IsGraph graph → graphs' ≡ graphs ++ graph ∷ [] → AreAll earlier graphs'
AreAll-last earlier names graphs graphs' graph behind named says sound more =
    let last : IsLastName (graph_names_in earlier) graph.name = last_name earlier graph.name named in
    let count : length (graph_names_in earlier) ≡ length last.before + 1 = ap length last.is ∙ length-append last.before (graph.name ∷ []) in
    let all_names : length names ≡ length (graph_names_in earlier) = ap length behind.names_are in
    let place : length graphs ≡ length last.before = omega (arith, behind.counted, all_names, count) in
    let whole : length (graph_names_in earlier) ≤ length graphs + 1 = omega (arith, place, count) in
    subst (AreAll earlier) (sym more) (record {
      counted = omega (arith, length-append graphs (graph ∷ []), place, count);
      first = record {
        said = λ k other at. ⊎_elim
            (λ (before : slice_get graphs k ≡ Some other). behind.first.said k other before)
            (λ (here : (k ≡ length graphs) × (graph ≡ other)).
            subst (λ (n : ℕ). SaysGraph (lines_through n earlier) other) (sym here.0)
            (subst (λ (l : List Line). SaysGraph l other) (sym (through-all (length graphs) earlier whole)) (subst (SaysGraph earlier) here.1 says)))
            (at_push graphs graph k other at);
        sound = λ k other at. ⊎_elim
            (λ (before : slice_get graphs k ≡ Some other). behind.first.sound k other before)
            (λ (here : (k ≡ length graphs) × (graph ≡ other)). subst IsGraph here.1 sound)
            (at_push graphs graph k other at);
        named = λ k other at. ⊎_elim
            (λ (before : slice_get graphs k ≡ Some other). behind.first.named k other before)
            (λ (here : (k ≡ length graphs) × (graph ≡ other)).
            let there : slice_get (graph_names_in earlier) (length last.before) ≡ Some graph.name = ap (λ (l : List (List ℕ)). slice_get l (length last.before)) last.is ∙ at_last last.before graph.name in
            ap (slice_get (graph_names_in earlier)) (here.0 ∙ place) ∙ there ∙ ap (λ (g : Graph). Some g.name) here.1)
            (at_push graphs graph k other at);
      };
    })

-- there is a graph where the last one has its name
stood-behind : (before : List Line) (next : Line) → AreGoodLines (next ∷ before) → stands_behind (last_of before) next ≡ true
stood-behind before next good = sym (stands_of before next) ∙ (passes before next good.1.1.0).stands

pub some-graph : (all : List Line) → AreGoodLines all → has_name (last_of all) ≡ true → 1 ≤ length (graph_names_in all)
some-graph [] good e = cc
some-graph (line.Flow version ∷ before) good e = cc
some-graph (line.Graph name ∷ before) good e = omega (arith, length-append (graph_names_in before) (name ∷ []))
some-graph (line.Input names ∷ before) good e = some-graph before good.1.2 (stands-input (last_of before) names (stood-behind before (line.Input names) good)).0
some-graph (line.Node name statement ∷ before) good e = some-graph before good.1.2 (named_with_input (last_of before) (stands-node (last_of before) name statement (stood-behind before (line.Node name statement) good)))
some-graph (line.Row columns ∷ before) good e = some-graph before good.1.2 (named_with_input (last_of before) (input_with_rows (last_of before) (stands-row (last_of before) columns (stood-behind before (line.Row columns) good))))
some-graph (line.Output list ∷ before) good e = some-graph before good.1.2 (named_with_input (last_of before) (stands-output (last_of before) list (stood-behind before (line.Output list) good)))
some-graph (line.Point entries ∷ before) good e = some-graph before good.1.2 (named_with_input (last_of before) (input_with_output (last_of before) (stands-point (last_of before) entries (stood-behind before (line.Point entries) good))))
some-graph (line.Bounds outputs num den ∷ before) good e = some-graph before good.1.2 (named_with_input (last_of before) (input_with_output (last_of before) (stands-bounds (last_of before) outputs num den (stood-behind before (line.Bounds outputs num den) good))))
some-graph (line.Coeff num den ∷ before) good e = some-graph before good.1.2 (named_with_input (last_of before) (input_with_output (last_of before) (stands-coeff (last_of before) num den (stood-behind before (line.Coeff num den) good))))

-- the last of all graphs
pub record HasMain (all : List Line) (graphs : List Graph) : Type 0 where
  pub graph : Graph
  pub there : slice_get graphs (length graphs - 1) ≡ Some graph
  pub says : SaysGraph all graph

there_is : {X : Type 0} (xs : List X) (k : ℕ) → k < length xs → (x : X) × (slice_get xs k ≡ Some x)
there_is [] k below = absurd (omega arith)
there_is (x ∷ xs) zero below = (x, refl)
there_is (x ∷ xs) (suc k) below = there_is xs k (omega arith)

pub main-graph : (all : List Line) (graphs : List Graph) → 1 ≤ length (graph_names_in all) → length graphs ≡ length (graph_names_in all) → ((k : ℕ) (graph : Graph) → slice_get graphs k ≡ Some graph → SaysGraph (lines_through k all) graph) → HasMain all graphs
main-graph all graphs some counted said =
    let (graph, at) = there_is graphs (length graphs - 1) (omega (arith, some, counted)) in
    record {
      graph = graph;
      there = at;
      says = subst (λ (l : List Line). SaysGraph l graph) (through-all (length graphs - 1) all (omega (arith, some, counted))) (said (length graphs - 1) graph at);
    }
