-- What evaluating a graph node by node says of its value.
use Rattle.std.proofs.Common.{◌≡◌, All, ℕ, zero, suc, ◌+◌, ◌<◌, Bool, true, false, MatchBool, List, [], ◌∷◌, ◌++◌, length, map, take, Option, Some, sym, ◌∙◌, ap, subst, arith, inl, inr, length-append, get_or}
use Rattle.std.specs.Prelude.{slice_get, slice_index_or}
use Rattle.std.proofs.lemmas.Bool.{cases_eq}
use Rattle.std.proofs.lemmas.Option.{slice_get_within}
use Rattle.std.proofs.lemmas.List.{map-append, take-append-le, take_more}
use Rattle.std.proofs.lemmas.List.Elements.{All-same, All-push}
use Rattle.std.proofs.Math.Seq.{take-append_seam, get_or-append_seam}
use Rattle.std.proofs.Math.ListN.{get_or-append}
use Rattle.graph_file.specs.declared.graph.Graph.{Graph}
use Rattle.graph_file.specs.declared.graph.Node.{Node}
use Rattle.graph_file.specs.declared.graph.NodeKind.{NodeKind}
use Rattle.graph_file.specs.declared.graph.NodeKind.TheVariants.{Eval, Take, Slice, Chain, Sum, Product, Matmul, Dense, Sparse, Call, Memo, Map, Laurent}
use Rattle.graph_file.specs.declared.graph.Source.{Source}
use Rattle.graph_eval.specs.declared.outcome.Cause.{Cause}
use Rattle.graph_eval.specs.GraphValue.{Meaning, Outcome, SingularAt, named, KindGives, KindFails, NodeGives, NodeFails, FirstLists, GraphMeans, GraphValue, MeansAt, meanings}
use Rattle.basic_nodes.specs.Plain.{chained}
use Rattle.graph_eval.specs.Expanded.{window_of}
use Rattle.graph_eval.specs.Evaluated.{no_graphs}
use Rattle.graph_eval.proofs.Columns.{some_inputs}
use Rattle.graph_eval.specs.Learned.{sets_of}
use Rattle.graph_eval.specs.declared.learned.GraphLearned.{GraphLearned}
use Rattle.prime_field.specs.Residue.{IsPrime}

-- Where no graph means anything, what a node answers doesn't rest on other graphs.
gives_alone : (m : ℕ) (called : ℕ → Meaning) (learned : List ℕ) (list : Source → List ℕ) (kind : NodeKind) (values : List ℕ) → KindGives m no_graphs learned list kind values → KindGives m called learned list kind values
gives_alone m called learned list (Eval from exprs) values gives = gives
gives_alone m called learned list (Take parts) values gives = gives
gives_alone m called learned list (Slice from first last) values gives = gives
gives_alone m called learned list (Chain parts) values gives = gives
gives_alone m called learned list (Sum parts) values gives = gives
gives_alone m called learned list (Product parts) values gives = gives
gives_alone m called learned list (Matmul left right rows mid cols) values gives = gives
gives_alone m called learned list (Dense from rows unknowns want) values gives = gives
gives_alone m called learned list (Sparse from unknowns want rows) values gives = gives
gives_alone m called learned list (Call graph parts) values gives = absurd gives
gives_alone m called learned list (Memo graph parts) values gives = absurd gives
gives_alone m called learned list (Map graph parts) values gives = record {
  outs = gives.outs;
  first = record { within = gives.first.within; each = λ n below. absurd (gives.first.each n below) };
  all = gives.all;
  values_are = gives.values_are;
}
gives_alone m called learned list (Laurent graph lo hi num den parts) values gives = absurd (gives.first.each 0 (omega (arith, gives.all, some_inputs (window_of lo hi num den) (chained (map list parts)))))

pub fails_alone : (m : ℕ) (called : ℕ → Meaning) (learned : List ℕ) (list : Source → List ℕ) (kind : NodeKind) (cause : Cause) → KindFails m no_graphs learned list kind cause → KindFails m called learned list kind cause
fails_alone m called learned list (Eval from exprs) cause fails = fails
fails_alone m called learned list (Take parts) cause fails = fails
fails_alone m called learned list (Slice from first last) cause fails = fails
fails_alone m called learned list (Chain parts) cause fails = fails
fails_alone m called learned list (Sum parts) cause fails = fails
fails_alone m called learned list (Product parts) cause fails = fails
fails_alone m called learned list (Matmul left right rows mid cols) cause fails = fails
fails_alone m called learned list (Dense from rows unknowns want) cause fails = fails
fails_alone m called learned list (Sparse from unknowns want rows) cause fails = fails
fails_alone m called learned list (Call graph parts) cause fails = absurd fails.1
fails_alone m called learned list (Memo graph parts) cause fails = absurd fails.1
fails_alone m called learned list (Map graph parts) cause fails = absurd fails.singular
fails_alone m called learned list (Laurent graph lo hi num den parts) cause fails = elim fails [
  | inl stopped ↦ absurd stopped.singular
  | inr none ↦ absurd (none.first.each 0 (omega (arith, none.all, some_inputs (window_of lo hi num den) (chained (map list parts)))))
]

needed_alone : (m : ℕ) (called : ℕ → Meaning) (learned : List ℕ) (list : Source → List ℕ) (kind : NodeKind) (values : List ℕ) (needed : Bool) → MatchBool needed (KindGives m no_graphs learned list kind values) (values ≡ []) → MatchBool needed (KindGives m called learned list kind values) (values ≡ [])
needed_alone m called learned list kind values true gives = gives_alone m called learned list kind values gives
needed_alone m called learned list kind values false none = none

pub alone : (m : ℕ) (called : ℕ → Meaning) (learned : List ℕ) (list : Source → List ℕ) (node : Node) (values : List ℕ) → NodeGives m no_graphs learned list node values → NodeGives m called learned list node values
alone m called learned list node values gives = needed_alone m called learned list node.kind values node.needed gives

-- no list yet
pub FirstLists-none : (m : ℕ) (called : ℕ → Meaning) (learned : List (List ℕ)) (nodes : List Node) (inputs : List ℕ) → FirstLists m called learned nodes inputs []
FirstLists-none m called learned nodes inputs = record { within = omega arith; each = λ n node below is. absurd (omega arith) }

-- one more list: that of the next node on the lists before it
pub FirstLists-more : (m : ℕ) (called : ℕ → Meaning) (learned : List (List ℕ)) (nodes : List Node) (inputs : List ℕ) (lists : List (List ℕ)) (node : Node) (values : List ℕ)
    → FirstLists m called learned nodes inputs lists → length lists < length nodes → slice_get nodes (length lists) ≡ Some node
    → NodeGives m called (slice_index_or learned (length lists) []) (named inputs lists) node values → FirstLists m called learned nodes inputs (lists ++ values ∷ [])
FirstLists-more m called learned nodes inputs lists node values first below is gives = record {
  within = omega (arith, length-append lists (values ∷ []));
  each = λ n other at other_is. elim (cases_eq n (length lists)) [
    | inl e ↦
        let same_node : Some other ≡ Some node = sym other_is ∙ ap (slice_get nodes) e ∙ is in
        let same : node ≡ other = cc in
        let here : NodeGives m called (slice_index_or learned (length lists) []) (named inputs (take (length lists) (lists ++ values ∷ []))) node (slice_index_or (lists ++ values ∷ []) (length lists) []) =
        subst (λ (before : List (List ℕ)). NodeGives m called (slice_index_or learned (length lists) []) (named inputs before) node (slice_index_or (lists ++ values ∷ []) (length lists) [])) (sym (take-append_seam lists (values ∷ [])))
        (subst (λ (v : List ℕ). NodeGives m called (slice_index_or learned (length lists) []) (named inputs lists) node v) (sym (get_or-append_seam lists values [] [])) gives) in
        subst (λ (k : ℕ). NodeGives m called (slice_index_or learned k []) (named inputs (take k (lists ++ values ∷ []))) other (slice_index_or (lists ++ values ∷ []) k [])) (sym e)
        (subst (λ (o : Node). NodeGives m called (slice_index_or learned (length lists) []) (named inputs (take (length lists) (lists ++ values ∷ []))) o (slice_index_or (lists ++ values ∷ []) (length lists) [])) same here)
    | inr ne ↦
        let earlier : n < length lists = omega (arith, length-append lists (values ∷ [])) in
        subst (λ (before : List (List ℕ)). NodeGives m called (slice_index_or learned n []) (named inputs before) other (slice_index_or (lists ++ values ∷ []) n [])) (sym (take-append-le n lists (values ∷ []) (omega arith)))
        (subst (λ (v : List ℕ). NodeGives m called (slice_index_or learned n []) (named inputs (take n lists)) other v) (sym (get_or-append lists (values ∷ []) [] n earlier)) (first.each n other earlier other_is))
  ];
}

-- the sets of later nodes don't count
pub FirstLists-sets : (m : ℕ) (called : ℕ → Meaning) (sets others : List (List ℕ)) (nodes : List Node) (inputs : List ℕ) (lists : List (List ℕ)) → ((n : ℕ) → n < length lists → slice_index_or sets n [] ≡ slice_index_or others n []) → FirstLists m called sets nodes inputs lists → FirstLists m called others nodes inputs lists
FirstLists-sets m called sets others nodes inputs lists same first = record {
  within = first.within;
  each = λ n node below is. subst (λ (set : List ℕ). NodeGives m called set (named inputs (take n lists)) node (slice_index_or lists n [])) (same n below) (first.each n node below is);
}

-- the first so many nodes have given these lists of residues, which have the learned lengths; where m is prime, the lists
-- are their values
pub record ListsSoFar (m : ℕ) (called : ℕ → Meaning) (nodes : List Node) (inputs : List ℕ) (sets : List (List ℕ)) (lengths : List ℕ) (lists : List (List ℕ)) (count : ℕ) : Type 0 where
  pub first : IsPrime m → FirstLists m called sets nodes inputs lists
  pub many : length lists ≡ count
  pub residues : All (λ list. All (λ x. x < m) list) lists
  pub rooms : map (λ list. length list) lists ≡ take count lengths

-- the sets and lengths of later nodes don't count
pub ListsSoFar-longer : (m : ℕ) (called : ℕ → Meaning) (nodes : List Node) (inputs : List ℕ) (sets others : List (List ℕ)) (lengths longer : List ℕ) (lists : List (List ℕ)) (count : ℕ) → ((n : ℕ) → n < count → slice_index_or sets n [] ≡ slice_index_or others n []) → take count lengths ≡ take count longer
    → ListsSoFar m called nodes inputs sets lengths lists count → ListsSoFar m called nodes inputs others longer lists count
ListsSoFar-longer m called nodes inputs sets others lengths longer lists count same lengths_same so_far = record {
  first = λ prime. FirstLists-sets m called sets others nodes inputs lists (λ n below. same n (omega (arith, so_far.many))) (so_far.first prime);
  many = so_far.many;
  residues = so_far.residues;
  rooms = so_far.rooms ∙ lengths_same;
}

-- a needed node without a value makes the graph singular
pub stops : (m : ℕ) (called : ℕ → Meaning) (graph : Graph) (inputs : List ℕ) (sets : List (List ℕ)) (lengths : List ℕ) (lists : List (List ℕ)) (place : ℕ) (set : List ℕ) (node : Node) (cause : Cause) → ListsSoFar m called graph.nodes inputs sets lengths lists place → slice_get graph.nodes place ≡ Some node
    → slice_index_or sets place [] ≡ set → (IsPrime m → NodeFails m called set (named inputs lists) node cause) → IsPrime m → GraphMeans m called sets graph inputs (SingularAt place cause)
stops m called graph inputs sets lengths lists place set node cause so_far is set_is fails prime = record {
  lists = lists;
  first = so_far.first prime;
  before = so_far.many;
  node = node;
  is_node = is;
  fails = subst (λ (s : List ℕ). NodeFails m called s (named inputs lists) node cause) (sym set_is) (fails prime);
}

-- a node's list joins those before it
pub goes_on : (m : ℕ) (called : ℕ → Meaning) (nodes : List Node) (inputs : List ℕ) (sets : List (List ℕ)) (lengths : List ℕ) (lists more : List (List ℕ)) (place own : ℕ) (set : List ℕ) (node : Node) (values : List ℕ) → ListsSoFar m called nodes inputs sets lengths lists place → slice_get nodes place ≡ Some node
    → slice_index_or sets place [] ≡ set → (IsPrime m → NodeGives m called set (named inputs lists) node values) → All (λ x. x < m) values → length values ≡ own → place < length lengths → own ≡ get_or lengths place 0 → more ≡ lists ++ values ∷ [] → ListsSoFar m called nodes inputs sets lengths more (place + 1)
goes_on m called nodes inputs sets lengths lists more place own set node values so_far is set_is list low long below own_is joined =
    let at_length : slice_get nodes (length lists) ≡ Some node = ap (slice_get nodes) so_far.many ∙ is in
    let within : length lists < length nodes = slice_get_within nodes (length lists) node at_length in
    let set_here : set ≡ slice_index_or sets (length lists) [] = sym set_is ∙ ap (λ n. slice_index_or sets n []) (sym so_far.many) in
    record {
      first = λ prime. subst (λ (ls : List (List ℕ)). FirstLists m called sets nodes inputs ls) (sym joined) (FirstLists-more m called sets nodes inputs lists node values (so_far.first prime) within at_length
          (subst (λ (s : List ℕ). NodeGives m called s (named inputs lists) node values) set_here (list prime)));
      many = ap length joined ∙ length-append lists (values ∷ []) ∙ ap (λ n. n + 1) so_far.many;
      residues = All-same (λ xs. All (λ x. x < m) xs) _ _ joined (All-push (λ xs. All (λ x. x < m) xs) lists values so_far.residues low);
      rooms = ap (map (λ (xs : List ℕ). length xs)) joined ∙ map-append (λ (xs : List ℕ). length xs) lists (values ∷ []) ∙ ap (λ ns. ns ++ length values ∷ []) so_far.rooms
          ∙ ap (λ n. take place lengths ++ n ∷ []) (long ∙ own_is) ∙ sym (take_more lengths place 0 below);
    }

-- the sets of a graph among those of all
pub sets_at : (learned : List GraphLearned) (number : ℕ) (entry : GraphLearned) → slice_get learned number ≡ Some entry → slice_index_or (sets_of learned) number [] ≡ entry.sets
sets_at [] number entry is = absurd (omega (arith, slice_get_within [] number entry is))
sets_at (first ∷ learned) zero entry is = let same : first ≡ entry = cc in ap (λ (g : GraphLearned). g.sets) same
sets_at (first ∷ learned) (suc number) entry is = sets_at learned number entry is

-- what a graph means is its value in its file
pub graph_value : (m : ℕ) (graphs : List Graph) (learned : List GraphLearned) (number : ℕ) (graph : Graph) (entry : GraphLearned) (inputs : List ℕ) (outcome : Outcome) → slice_get graphs number ≡ Some graph → slice_get learned number ≡ Some entry
    → GraphMeans m (meanings m graphs (sets_of learned) number) entry.sets graph inputs outcome → GraphValue m graphs (sets_of learned) number inputs outcome
graph_value m graphs learned number graph entry inputs outcome is entry_is means =
    subst (λ (o : Option Graph). MeansAt m (meanings m graphs (sets_of learned) number) (slice_index_or (sets_of learned) number []) o inputs outcome) (sym is)
    (subst (λ (sets : List (List ℕ)). GraphMeans m (meanings m graphs (sets_of learned) number) sets graph inputs outcome) (sym (sets_at learned number entry entry_is)) means)
