-- The job that the lines of a file ask for.
use Rattle.std.proofs.Common.{◌≡◌, ◌<◌, ◌≤◌, ◌-◌, ℕ, zero, suc, Bool, true, false, refl, sym, ap, subst, ◌∙◌, List, [], ◌∷◌, ◌++◌, length, map, Option, Some, None, arith, option_map, IsTrue, ◌↔◌}
use Rattle.std.specs.List.{slice_get}
use Rattle.std.proofs.lemmas.Grind.{merely}
use Rattle.std.proofs.lemmas.List.{length-map}
use Rattle.std.proofs.lemmas.Option.{slice_get-map}
use Rattle.ratfun_text.specs.Names.{names_of as variables_of}
use Rattle.graph_file.specs.declared.asked.Asked.{Asked}
use Rattle.graph_file.specs.declared.graph.Graph.{Graph}
use Rattle.graph_file.specs.declared.graph.Node.{Node}
use Rattle.graph_file.specs.declared.graph.NodeKind.{NodeKind}
use Rattle.graph_file.specs.declared.graph.Source.{Source}
use Rattle.graph_file.specs.declared.graph.Source.TheVariants as source
use Rattle.graph_file.specs.declared.job.Need.{Need}
use Rattle.graph_file.specs.declared.job.Need.TheVariants as needed
use Rattle.poly_maps.specs.declared.bound.Bounds.{Bounds}
use Rattle.graph_file.specs.declared.job.Special.{Special}
use Rattle.graph_file.specs.Bounded.{HasBounds}
use Rattle.graph_file.proofs.BoundLemmas.{said-bounds}
use Rattle.graph_file.specs.declared.line.Line.{Line}
use Rattle.graph_file.specs.Facts.{graph_names_in, has_output}
use Rattle.graph_file.proofs.Passes.{both, ended_of}
use Rattle.graph_file.specs.declared.reader.Reader.{Reader}
use Rattle.graph_file.specs.File.{is_complete, said}
use Rattle.graph_file.specs.Reader.{is_ended}
use Rattle.graph_file.specs.Lines.{lines}
use Rattle.rational_lift.specs.declared.coeff.Coeff.{Coeff}
use Rattle.graph_file.specs.Bounding.{all_in, coeff_in, coeff_or, special_in}
use Rattle.graph_file.specs.Marks.{AreMarkedFrom, IsSet, ReadEarlier}
use Rattle.graph_file.specs.Needed.{IsNeededFor, Reads, kinds_of}
use Rattle.graph_file.specs.Read.{AreAll, AreGoodLines, FitsTogether, IsRead}
use Rattle.graph_file.specs.Reader.{AreVariables, IsBegunNode, has_name}
use Rattle.graph_file.specs.Says.{AreKinds, Says, SaysGraph, names_of}
use Rattle.graph_file.specs.Whole.{IsWholeOf}
use Rattle.graph_file.specs.Sound.{IsGraph, IsJob, IsKind, IsNode}
use Rattle.graph_file.proofs.MarkLemmas.{set-needed}
use Rattle.graph_file.proofs.KindFacts.{reads_earlier}
use Rattle.graph_file.proofs.CallLemmas.{calls-said}
use Rattle.graph_file.proofs.GraphLemmas.{AreAll-last, AreAll-none, HasMain, main-graph, some-graph}
use Rattle.graph_file.proofs.SoundLemmas.{input_with_output, named_with_input, whole_kind, whole_with_output}
use Rattle.graph_file.specs.declared.line.Last.{Last}
use Rattle.ratfun_text.specs.Bytes.{is_name}
use Rattle.ratfun_text.specs.declared.names.Names.{Names}

-- what an element was made of
record IsMadeOf {X Y : Type 0} (f : X → Y) (xs : List X) (k : ℕ) (y : Y) : Type 0 where
  from : X
  there : slice_get xs k ≡ Some from
  is : f from ≡ y

made_of : {X Y : Type 0} (f : X → Y) (xs : List X) (k : ℕ) (y : Y) → slice_get (map f xs) k ≡ Some y → IsMadeOf f xs k y
made_of f [] k y at = cc
made_of f (x ∷ xs) zero y at = record { from = x; there = refl; is = let told : Some (f x) ≡ Some y = at in cc }
made_of f (x ∷ xs) (suc k) y at = let later : IsMadeOf f xs k y = made_of f xs k y at in record { from = later.from; there = later.there; is = later.is }

-- each node has its rows behind the output
whole_node : (reader : Reader) → FitsTogether reader → is_ended reader.stood ≡ true → (k : ℕ) (node : Node) → slice_get reader.nodes.items k ≡ Some node → IsKind (length (variables_of reader.variables)) k node.kind
whole_node reader sound ended k node at =
    whole_kind (length (variables_of reader.variables)) k node.kind (sound.begun k node at).kind
    (sound.filled k node at (λ is. absurd (whole_with_output reader.stood ended is)))

-- each node reads earlier ones
pub read-earlier : (reader : Reader) (sound : FitsTogether reader) (nodes : List Node) → is_ended reader.stood ≡ true → nodes ≡ reader.nodes.items → ReadEarlier (kinds_of nodes)
read-earlier reader sound nodes ended same j k kind at reads =
    let made : IsMadeOf (λ (node : Node). node.kind) nodes j kind = made_of (λ (node : Node). node.kind) nodes j kind at in
    let there : slice_get reader.nodes.items j ≡ Some made.from = ap (λ (l : List Node). slice_get l j) (sym same) ∙ made.there in
    reads_earlier (length (variables_of reader.variables)) j made.from.kind (whole_node reader sound ended j made.from there) k (subst (λ (c : NodeKind). Reads c (source.Node k)) (sym made.is) reads)

-- a node that was marked
record WasMarked (reader : Reader) (k : ℕ) (node : Node) : Type 0 where
  was : Node
  there : slice_get reader.nodes.items k ≡ Some was
  name_is : was.name ≡ node.name
  kind_is : was.kind ≡ node.kind

module _ (reader : Reader) (sound : FitsTogether reader) (nodes : List Node) (names_are : names_of nodes ≡ names_of reader.nodes.items) (kinds_are : kinds_of nodes ≡ kinds_of reader.nodes.items) where
  was-marked : (k : ℕ) (node : Node) → slice_get nodes k ≡ Some node → WasMarked reader k node
  was-marked k node at =
      let kind_at : slice_get (kinds_of reader.nodes.items) k ≡ Some node.kind = ap (λ l. slice_get l k) (sym kinds_are) ∙ slice_get-map (λ (n : Node). n.kind) nodes k ∙ ap (option_map (λ (n : Node). n.kind)) at in
      let name_at : slice_get (names_of reader.nodes.items) k ≡ Some node.name = ap (λ l. slice_get l k) (sym names_are) ∙ slice_get-map (λ (n : Node). n.name) nodes k ∙ ap (option_map (λ (n : Node). n.name)) at in
      let made : IsMadeOf (λ (n : Node). n.kind) reader.nodes.items k node.kind = made_of (λ (n : Node). n.kind) reader.nodes.items k node.kind kind_at in
      let named : Some made.from.name ≡ Some node.name = ap (option_map (λ (n : Node). n.name)) (sym made.there) ∙ sym (slice_get-map (λ (n : Node). n.name) reader.nodes.items k) ∙ name_at in
      record { was = made.from; there = made.there; name_is = cc; kind_is = made.is }

  is-node : is_ended reader.stood ≡ true → (k : ℕ) (node : Node) → slice_get nodes k ≡ Some node → IsNode (length (variables_of reader.variables)) k node
  is-node ended k node at =
      let marked : WasMarked reader k node = was-marked k node at in
      let begun : IsBegunNode (length (variables_of reader.variables)) k marked.was = sound.begun k marked.was marked.there in
      record {
        named = subst (λ n. Rattle.std.proofs.Common.IsTrue (Rattle.ratfun_text.specs.Bytes.is_name n)) marked.name_is begun.named;
        short = subst (λ (n : List ℕ). length n ≤ 32) marked.name_is begun.short;
        no_input = λ same. begun.no_input (marked.name_is ∙ same);
        kind = subst (λ (c : NodeKind). IsKind (length (variables_of reader.variables)) k c) marked.kind_is (whole_node reader sound ended k marked.was marked.there);
      }

  count_is : length nodes ≡ length reader.nodes.items
  count_is = sym (length-map nodes (λ (n : Node). n.name)) ∙ ap length names_are ∙ length-map reader.nodes.items (λ (n : Node). n.name)

-- the graph in hand
module _ (reader : Reader) (sound : FitsTogether reader) (name : List ℕ) (output : Source) (graph : Graph) (whole : IsWholeOf name (variables_of reader.variables) reader.nodes.items output graph) where
  was : (k : ℕ) (node : Node) → slice_get graph.nodes k ≡ Some node → WasMarked reader k node
  was = was-marked reader sound graph.nodes whole.names_are whole.kinds_are

  names_distinct : (i j : ℕ) (first second : Node) → slice_get graph.nodes i ≡ Some first → slice_get graph.nodes j ≡ Some second → first.name ≡ second.name → i ≡ j
  names_distinct i j first second at_first at_second same =
      let one : WasMarked reader i first = was i first at_first in
      let two : WasMarked reader j second = was j second at_second in
      let name_at : (k : ℕ) (n : Node) → slice_get reader.nodes.items k ≡ Some n → slice_get reader.table k ≡ Some n.name = λ k n at. ap (λ l. slice_get l k) (sym sound.names_are) ∙ slice_get-map (λ (m : Node). m.name) reader.nodes.items k ∙ ap (option_map (λ (m : Node). m.name)) at in
      let equal : two.was.name ≡ one.was.name = two.name_is ∙ sym same ∙ sym one.name_is in
      sound.distinct i j one.was.name (name_at i one.was one.there) (name_at j two.was two.there ∙ ap (λ n. Some n) equal)

  pub graph-sound : is_ended reader.stood ≡ true → reader.name ≡ Some name → reader.output ≡ Some output → IsGraph graph
  graph-sound ended name_is output_is =
      let variables : AreVariables graph.inputs = subst AreVariables (sym whole.inputs_are) (sound.inputs (input_with_output reader.stood ended)) in
      let named : IsTrue (is_name graph.name) × (length graph.name ≤ 32) = sound.named graph.name (name_is ∙ ap (λ n. Some n) (sym whole.name_is)) in
      let count : length graph.nodes ≡ length reader.nodes.items = count_is reader sound graph.nodes whole.names_are whole.kinds_are in
      record {
        named = named.0;
        short = named.1;
        some = variables.some;
        few = variables.few;
        variables = variables.are_names;
        bounded = omega (arith, count, sound.bounded);
        nodes = λ k node at. subst (λ (n : ℕ). IsNode n k node) (ap length (sym whole.inputs_are)) (is-node reader sound graph.nodes whole.names_are whole.kinds_are ended k node at);
        distinct = names_distinct;
        marks = λ k node at. record { needed = λ is. merely ((whole.marks k node at).0 is); marked = (whole.marks k node at).1 };
        output = λ k is. let below : k < length reader.nodes.items = sound.output_is k (output_is ∙ ap (λ s. Some s) (sym whole.output_is ∙ is)) in omega (arith, below, count);
      }

  pub says-graph : (earlier : List Line) → IsRead earlier reader → reader.name ≡ Some name → reader.output ≡ Some output → SaysGraph earlier graph
  says-graph earlier read name_is output_is = record {
    named = sym read.name_is ∙ name_is ∙ ap (λ n. Some n) (sym whole.name_is);
    inputs = whole.inputs_are ∙ ap variables_of read.variables_are;
    names = whole.names_are ∙ sound.names_are ∙ read.names_are;
    kinds = subst (λ (l : List NodeKind). AreKinds earlier l) (sym whole.kinds_are) read.kinds_are;
    output_is = sym read.output_is ∙ output_is ∙ ap (λ s. Some s) (sym whole.output_is);
    marks = whole.marks;
  }

  pub all-with : (graphs' : List Graph) → is_ended reader.stood ≡ true → reader.name ≡ Some name → reader.output ≡ Some output → graphs' ≡ reader.graphs ++ graph ∷ [] → (earlier : List Line) → IsRead earlier reader → AreAll earlier graphs'
  all-with graphs' ended name_is output_is more earlier read =
      let says : SaysGraph earlier graph = says-graph earlier read name_is output_is in
      AreAll-last earlier reader.graph_names reader.graphs graphs' graph read.graphs_are says.named says (graph-sound ended name_is output_is) more

-- a graph in hand is whole where each is
pub ended-with-name : (reader : Reader) → FitsTogether reader → (name : List ℕ) → reader.name ≡ Some name → (has_name reader.stood ≡ true → is_ended reader.stood ≡ true) → is_ended reader.stood ≡ true
ended-with-name reader sound name is whole = from (has_name reader.stood) refl
  where
    from : (b : Bool) → has_name reader.stood ≡ b → is_ended reader.stood ≡ true
    from true named = whole named
    from false unnamed = let never : Some name ≡ None = sym is ∙ sound.no_graph unnamed in cc

-- a reader without a graph in hand has all graphs
pub all-without : (reader : Reader) → reader.name ≡ None → (earlier : List Line) → IsRead earlier reader → AreAll earlier reader.graphs
all-without reader none earlier read = AreAll-none earlier reader.graph_names reader.graphs read.graphs_are (sym read.name_is ∙ none)

-- the marks of a graph's nodes
pub marks-are : (kinds kinds' : List NodeKind) (nodes : List Node) (output : Source) (flags : List Bool) → kinds' ≡ kinds → AreMarkedFrom kinds output 0 flags → ((k : ℕ) (node : Node) → slice_get nodes k ≡ Some node → slice_get flags k ≡ Some node.needed) → (k : ℕ) (node : Node) → slice_get nodes k ≡ Some node → IsTrue node.needed ↔ IsNeededFor kinds' output k
marks-are kinds kinds' nodes output flags same marks marked k node at = (
  λ is. subst (λ (l : List NodeKind). IsNeededFor l output k) (sym same) (marks.needed k (marked k node at ∙ ap (λ b. Some b) is)),
  λ needed.
      let set : IsSet flags k = set-needed kinds output flags marks k (subst (λ (l : List NodeKind). IsNeededFor l output k) same needed) in
      let told : Some node.needed ≡ Some true = sym (marked k node at) ∙ set in
      cc,
)

-- the output has stood
pub complete-ended : (need : Need) (all : List Line) (reader : Reader) → IsRead all reader → is_complete need all ≡ true → is_ended reader.stood ≡ true
complete-ended need all reader read complete = ap is_ended read.last_is ∙ sym (ended_of all) ∙ has need complete
  where
    has : (need : Need) → is_complete need all ≡ true → has_output all ≡ true
    has needed.Points e = e
    has needed.Learning e = e
    has needed.Functions e = (both (has_output all) _ e).0

-- a file's reader has a graph
pub some-named : (need : Need) (all : List Line) (reader : Reader) → IsRead all reader → AreGoodLines all → is_complete need all ≡ true → 1 ≤ length (graph_names_in all)
some-named need all reader read good complete =
    let ended : is_ended reader.stood ≡ true = complete-ended need all reader read complete in
    some-graph all good (subst (λ (s : Last). has_name s ≡ true) read.last_is (named_with_input reader.stood (input_with_output reader.stood ended)))

-- the job
module _ (reader : Reader) (need : Need) (all : List Line) (graphs : List Graph) (read : IsRead all reader) (good : AreGoodLines all) (complete : is_complete need all ≡ true) (are : AreAll all graphs) where
  main_of : HasMain all graphs
  main_of = main-graph all graphs (some-named need all reader read good complete) are.counted are.first.said

  pub job-sound : (points : List (List ℕ)) → points ≡ reader.asked.points → IsJob graphs points
  job-sound points same =
      let some : 1 ≤ length (graph_names_in all) = some-named need all reader read good complete in
      let count : length reader.graph_names ≡ length (graph_names_in all) = ap length read.graphs_are.names_are in
      let name_at : (k : ℕ) (graph : Graph) → slice_get graphs k ≡ Some graph → slice_get reader.graph_names k ≡ Some graph.name = λ k graph at. ap (λ (l : List (List ℕ)). slice_get l k) read.graphs_are.names_are ∙ are.first.named k graph at in
      subst (IsJob graphs) (sym same) (record {
        main = omega (arith, some, are.counted);
        bounded = omega (arith, are.counted, count, read.graphs_are.few);
        few_points = read.sound.few_points;
        graph = are.first.sound;
        calls = λ k graph at. calls-said k all graph (are.first.said k graph at);
        distinct = λ i j first second at_first at_second equal. read.graphs_are.distinct i j first.name (name_at i first at_first) (name_at j second at_second ∙ ap (λ n. Some n) (sym equal));
        entries = λ k point graph at_point at_graph.
            let told : Some main_of.graph ≡ Some graph = sym main_of.there ∙ at_graph in
            let last : main_of.graph ≡ graph = cc in
            read.sound.fitting k point at_point ∙ ap (λ (v : Names). length (variables_of v)) read.variables_are ∙ ap length (sym main_of.says.inputs) ∙ ap (λ (g : Graph). length g.inputs) last;
      })

  pub job-bounds : (asked : Asked) (coeff : Coeff) → asked ≡ reader.asked → coeff ≡ coeff_or asked.coeff → HasBounds graphs asked.all asked.special coeff need
  job-bounds asked coeff same coeff_is =
      let has : HasBounds graphs (all_in all) (special_in all) (coeff_or (coeff_in all)) need = said-bounds need all graphs main_of.graph good complete main_of.there main_of.says.inputs in
      subst (λ (a : Option Bounds). HasBounds graphs a asked.special coeff need) (sym (ap (λ (a : Asked). a.all) same ∙ read.all_is))
      (subst (λ (s : List Special). HasBounds graphs (all_in all) s coeff need) (sym (ap (λ (a : Asked). a.special) same ∙ read.special_are))
      (subst (λ (c : Coeff). HasBounds graphs (all_in all) (special_in all) c need) (sym (coeff_is ∙ ap (λ (a : Asked). coeff_or a.coeff) same ∙ ap coeff_or read.coeff_is)) has))

-- what the job says
pub says-job : (reader : Reader) (graphs : List Graph) (asked : Asked) (coeff : Coeff) (need : Need) (bytes : List ℕ) → asked ≡ reader.asked → coeff ≡ coeff_or asked.coeff → IsRead (said (lines bytes)) reader → AreAll (said (lines bytes)) graphs → Says need bytes (record { graphs = graphs; points = asked.points; all = asked.all; special = asked.special; coeff = coeff })
says-job reader graphs asked coeff need bytes same coeff_is read are = record {
  counted = are.counted;
  says_graph = are.first.said;
  points_are = ap (λ (a : Asked). a.points) same ∙ read.points_are;
  all_is = ap (λ (a : Asked). a.all) same ∙ read.all_is;
  special_are = ap (λ (a : Asked). a.special) same ∙ read.special_are;
  coeff_is = coeff_is ∙ ap (λ (a : Asked). coeff_or a.coeff) same ∙ ap coeff_or read.coeff_is;
}
