-- What learning a graph node by node says of its answer.
use Rattle.std.proofs.Common.{◌≡◌, ℕ, ◌+◌, ◌-◌, ◌<◌, ◌≤◌, Bool, true, false, IsTrue, if◌then◌else◌, List, [], ◌∷◌, ◌++◌, All, length, map, take, get_or, Option, Some, None, refl, sym, ◌∙◌, ap, subst, append-nil, append_assoc, length-append, arith, inl, inr}
use Rattle.std.specs.Prelude.{slice_get, slice_index, slice_index_or, IfSome, option_and_then}
use Rattle.std.proofs.Math.Path.{fun_ext}
use Rattle.std.proofs.lemmas.Bool.{cases_eq}
use Rattle.std.proofs.lemmas.List.{take-append-le}
use Rattle.std.proofs.lemmas.List.Elements.{All-append, All-nil, All-same}
use Rattle.std.proofs.Math.Seq.{get_or-append_seam, take-append_seam, take-length}
use Rattle.std.proofs.Math.ListN.{get_or-append}
use Rattle.prime_field.specs.Residue.{IsPrime}
use Rattle.sparse_solver.specs.Plan.{Plan}
use Rattle.basic_nodes.specs.Plain.{chained}
use Rattle.basic_nodes.proofs.Pieces.{chained-more, chained_residues}
use Rattle.graph_file.specs.Needed.{sources_of}
use Rattle.graph_file.specs.Sound.{IsKind}
use Rattle.graph_file.specs.declared.graph.Graph.{Graph}
use Rattle.graph_file.specs.declared.graph.Node.{Node}
use Rattle.graph_file.specs.declared.graph.NodeKind.{NodeKind}
use Rattle.graph_eval.specs.declared.learned.GraphLearned.{GraphLearned}
use Rattle.graph_eval.specs.declared.outcome.Cause.{Cause}
use Rattle.graph_eval.specs.Evaluated.{IsNeededNode}
use Rattle.graph_eval.specs.Fresh.{BreaksLength, FirstLearned, HasNoValue, IsLearned, IsReached, NodeLearns}
use Rattle.graph_eval.specs.GraphValue.{Meaning, NodeFails, NodeGives, named}
use Rattle.graph_file.specs.declared.graph.Source.{Source}
use Rattle.graph_eval.specs.Reading.{AreListed, IsThere, placed, places_of}
use Rattle.graph_eval.specs.Stacked.{IsAdded}
use Rattle.graph_eval.specs.Learned.{ArePlans, FitsGraph, HasOwnLength, IsSetFor, joined_length, kind_length, named_length, node_length}
use Rattle.graph_eval.proofs.EvaluationLaws.{ListsSoFar, ListsSoFar-longer, goes_on}
use Rattle.graph_eval.proofs.Listed.{named_placed, places-push, table_room, table_sound, table_there}
use Rattle.graph_eval.proofs.LengthLaws.{LengthsSoFar, LengthsSoFar-none, LengthsSoFar-sets, PlansSoFar, fits_graph, one_more, plans_all}
use Rattle.graph_eval.specs.declared.shapes.GraphSize.{GraphSize}

module _ (sizes : List GraphSize) (called : ℕ → Meaning) where
  -- what was learned of the first so many nodes
  pub record LearnedSoFar (m : ℕ) (graph : Graph) (inputs : List ℕ) (sets : List (List ℕ)) (lengths : List ℕ) (lists : List (List ℕ)) (count total : ℕ) : Type 0 where
    pub many : length sets ≡ count
    pub fits : (n : ℕ) (node : Node) → n < count → slice_get graph.nodes n ≡ Some node → IsSetFor node (slice_index_or sets n [])
    pub own : IsPrime m → (n : ℕ) (node : Node) → n < count → slice_get graph.nodes n ≡ Some node → NodeLearns m (named inputs (take n lists)) node (slice_index_or sets n [])
    pub measured : LengthsSoFar sizes graph sets lengths count total
    pub given : ListsSoFar m called graph.nodes inputs sets lengths lists count

  pub LearnedSoFar-none : (m : ℕ) (graph : Graph) (inputs : List ℕ) → LearnedSoFar m graph inputs [] [] [] 0 0
  LearnedSoFar-none m graph inputs = record {
    many = refl;
    fits = λ n node below is. absurd (omega arith);
    own = λ prime n node below is. absurd (omega arith);
    measured = LengthsSoFar-none sizes graph [];
    given = record {
      first = λ prime. record { within = omega arith; each = λ n node below is. absurd (omega arith) };
      many = refl;
      residues = All-nil (λ list. All (λ x. x < m) list);
      rooms = refl;
    };
  }

  -- where m is prime they are those of the definition
  first_learned : (m : ℕ) (graph : Graph) (inputs : List ℕ) (sets : List (List ℕ)) (lengths : List ℕ) (lists : List (List ℕ)) (count total : ℕ) → LearnedSoFar m graph inputs sets lengths lists count total → IsPrime m → FirstLearned m called sizes graph inputs sets lengths lists
  first_learned m graph inputs sets lengths lists count total so_far prime = record {
    many_sets = so_far.many ∙ sym so_far.given.many;
    many_lengths = so_far.measured.many ∙ sym so_far.given.many;
    own = λ n node below is. so_far.own prime n node (omega (arith, so_far.given.many)) is;
    measured = so_far.measured.first;
    given = so_far.given.first prime;
  }

  -- the lists have the lengths
  pub rooms_are : (m : ℕ) (graph : Graph) (inputs : List ℕ) (sets : List (List ℕ)) (lengths : List ℕ) (lists : List (List ℕ)) (count total : ℕ) → LearnedSoFar m graph inputs sets lengths lists count total → map (λ xs. length xs) lists ≡ lengths
  rooms_are m graph inputs sets lengths lists count total so_far = so_far.given.rooms ∙ ap (λ n. take n lengths) (sym so_far.measured.many) ∙ take-length lengths

  -- the same, where the inputs and the lists stand in one run of words, and where they end is known
  pub record LearnedStand (m : ℕ) (graph : Graph) (inputs : List ℕ) (sets : List (List ℕ)) (lengths words places : List ℕ) (count total : ℕ) : Type 0 where
    pub lists : List (List ℕ)
    pub so_far : LearnedSoFar m graph inputs sets lengths lists count total
    pub words_are : words ≡ inputs ++ chained lists
    pub places_are : places ≡ places_of (length inputs) lengths

  pub LearnedStand-none : (m : ℕ) (graph : Graph) (inputs : List ℕ) (sets : List (List ℕ)) (lengths words places : List ℕ) → sets ≡ [] → lengths ≡ [] → words ≡ inputs → places ≡ length inputs ∷ [] → LearnedStand m graph inputs sets lengths words places 0 0
  LearnedStand-none m graph inputs sets lengths words places sets_are lengths_are words_are places_are = record {
    lists = [];
    so_far = subst (λ (ss : List (List ℕ)). LearnedSoFar m graph inputs ss lengths [] 0 0) (sym sets_are) (subst (λ (ls : List ℕ). LearnedSoFar m graph inputs [] ls [] 0 0) (sym lengths_are) (LearnedSoFar-none m graph inputs));
    words_are = words_are ∙ sym (append-nil inputs);
    places_are = places_are ∙ ap (places_of (length inputs)) (sym lengths_are);
  }

  -- what is read of the words and the places
  module _ (m : ℕ) (graph : Graph) (inputs : List ℕ) (sets : List (List ℕ)) (lengths words places : List ℕ) (count total : ℕ) (stands : LearnedStand m graph inputs sets lengths words places count total) (read table : List ℕ) (read_is : read ≡ words) (table_is : table ≡ places) where
    stands_words : read ≡ inputs ++ chained stands.lists
    stands_words = read_is ∙ stands.words_are

    stands_places : table ≡ places_of (length inputs) lengths
    stands_places = table_is ∙ stands.places_are

    stands_listed : AreListed (length inputs) lengths read
    stands_listed = record { entries = inputs; lists = stands.lists; many = refl; long = rooms_are m graph inputs sets lengths stands.lists count total stands.so_far; words_are = stands_words }

    pub stands_named : placed read table ≡ named inputs stands.lists
    stands_named =
        ap (placed read) (stands_places ∙ ap (places_of (length inputs)) (sym (rooms_are m graph inputs sets lengths stands.lists count total stands.so_far)))
        ∙ fun_ext (named_placed read inputs stands.lists (length inputs) stands_words refl)

    sound_here : (kind : NodeKind) → IsKind (length graph.inputs) count kind → length inputs ≡ length graph.inputs → IsKind (length inputs) (length lengths) kind
    sound_here kind sound many = subst (λ (n : ℕ). IsKind n (length lengths) kind) (sym many) (subst (λ (n : ℕ). IsKind (length graph.inputs) n kind) (sym stands.so_far.measured.many) sound)

    pub stands_sound : (kind : NodeKind) → IsKind (length graph.inputs) count kind → length inputs ≡ length graph.inputs → IsKind (slice_index table 0) (length table - 1) kind
    stands_sound kind sound many = table_sound read table (length inputs) lengths stands_listed stands_places kind (sound_here kind sound many)

    pub stands_there : (kind : NodeKind) → IsKind (length graph.inputs) count kind → length inputs ≡ length graph.inputs → All (IsThere read table) (sources_of kind)
    stands_there kind sound many = table_there read table (length inputs) lengths stands_listed stands_places kind (sound_here kind sound many)

    pub stands_low : All (λ x. x < m) inputs → All (λ x. x < m) read
    stands_low low = All-same (λ x. x < m) _ _ stands_words (All-append (λ x. x < m) inputs (chained stands.lists) low (chained_residues m stands.lists stands.so_far.given.residues))

    pub stands_room : (set : List ℕ) (node : Node) (own : ℕ) → node_length sizes (length inputs) lengths set node ≡ Some own → HasOwnLength sizes (placed read table) set node own
    stands_room set node own has = table_room read table (length inputs) lengths stands_listed stands_places sizes set node own has

  -- a node whose length fails is needed
  needed_length : (inputs : ℕ) (earlier set : List ℕ) (node : Node) (needed : Bool) → node.needed ≡ needed → node_length sizes inputs earlier set node ≡ None → IsTrue needed
  needed_length inputs earlier set node true is none = refl
  needed_length inputs earlier set node false is none =
      let length_if : Bool → Option ℕ = λ b. if b then option_and_then (joined_length earlier) (kind_length sizes inputs earlier set node.kind) else Some 0 in
      let left_out : length_if false ≡ None = ap length_if (sym is) ∙ none in
      absurd (some_none left_out)
    where
      some_none : ◌≡◌ {A = Option ℕ} (Some 0) None → ⊥
      some_none same = cc

  -- one more set
  module _ (sets more : List (List ℕ)) (set : List ℕ) (joined : more ≡ sets ++ set ∷ []) where
    set_before : (n : ℕ) → n < length sets → slice_index_or sets n [] ≡ slice_index_or more n []
    set_before n below = sym (get_or-append sets (set ∷ []) [] n below) ∙ ap (λ ss. slice_index_or ss n []) (sym joined)

    set_here : slice_index_or more (length sets) [] ≡ set
    set_here = ap (λ ss. slice_index_or ss (length sets) []) joined ∙ get_or-append_seam sets set [] []

  -- the next node
  module _ (m : ℕ) (graph : Graph) (inputs : List ℕ) (sets : List (List ℕ)) (lengths : List ℕ) (lists : List (List ℕ)) (place total : ℕ) (node : Node) (set : List ℕ) (so_far : LearnedSoFar m graph inputs sets lengths lists place total) (is : slice_get graph.nodes place ≡ Some node)
      (own : IsPrime m → NodeLearns m (named inputs lists) node set) (count : ℕ) (count_is : count ≡ length graph.inputs) (earlier : List ℕ) (earlier_is : earlier ≡ lengths) (answer : Option ℕ) (answer_is : answer ≡ node_length sizes count earlier set node) where
    reached : IsPrime m → IsReached m called sizes graph inputs place
    reached prime = record {
      sets = sets;
      lengths = lengths;
      lists = lists;
      first = first_learned m graph inputs sets lengths lists place total so_far prime;
      before = so_far.given.many;
      node = node;
      is_node = is;
      set = set;
      own = own prime;
    }

    rule : node_length sizes (length graph.inputs) lengths set node ≡ answer
    rule = ap (λ n. node_length sizes n lengths set node) (sym count_is) ∙ ap (λ ls. node_length sizes count ls set node) (sym earlier_is) ∙ sym answer_is

    pub breaks_here : answer ≡ None → IsPrime m → BreaksLength m called sizes graph inputs place
    unfolding reached
    breaks_here none prime = record { reached = reached prime; breaks = rule ∙ none }

    pub breaks_needed : answer ≡ None → IsNeededNode graph place
    breaks_needed none = (node, is, needed_length (length graph.inputs) lengths set node node.needed refl (rule ∙ none))

    pub singular_here : (length_is : ℕ) (cause : Cause) → answer ≡ Some length_is → (IsPrime m → NodeFails m called set (named inputs lists) node cause) → IsPrime m → HasNoValue m called sizes graph inputs place cause
    unfolding reached
    singular_here length_is cause some fails prime = record { reached = reached prime; own_length = length_is; measured = rule ∙ some; fails = fails prime }

    pub learned_more : (own_length : ℕ) (values : List ℕ) (more_sets : List (List ℕ)) (more_lengths : List ℕ) (more_lists : List (List ℕ)) → IsSetFor node set → answer ≡ Some own_length → IfSome answer (λ n. n ≤ 262144) → IfSome answer (λ n. total + n ≤ 2097152)
        → (IsPrime m → NodeGives m called set (named inputs lists) node values) → All (λ x. x < m) values → length values ≡ own_length
        → more_sets ≡ sets ++ set ∷ [] → more_lengths ≡ lengths ++ own_length ∷ [] → more_lists ≡ lists ++ values ∷ [] → LearnedSoFar m graph inputs more_sets more_lengths more_lists (place + 1) (total + own_length)
    learned_more own_length values more_sets more_lengths more_lists fits some small bound gives low long sets_joined lengths_joined lists_joined =
        let same : (n : ℕ) → n < place → slice_index_or sets n [] ≡ slice_index_or more_sets n [] = λ n below. set_before sets more_sets set sets_joined n (omega (arith, so_far.many)) in
        let here : slice_index_or more_sets place [] ≡ set = ap (λ n. slice_index_or more_sets n []) (sym so_far.many) ∙ set_here sets more_sets set sets_joined in
        let front : take place lengths ≡ take place more_lengths = sym (take-append-le place lengths (own_length ∷ []) (omega (arith, so_far.measured.many))) ∙ ap (take place) (sym lengths_joined) in
        let room : place < length more_lengths = omega (arith, ap length lengths_joined, length-append lengths (own_length ∷ []), so_far.measured.many) in
        let at : own_length ≡ get_or more_lengths place 0 =
        sym (get_or-append_seam lengths own_length [] 0) ∙ ap (λ n. get_or (lengths ++ own_length ∷ []) n 0) so_far.measured.many ∙ ap (λ ls. get_or ls place 0) (sym lengths_joined) in
        record {
          many = ap length sets_joined ∙ length-append sets (set ∷ []) ∙ ap (λ n. n + 1) so_far.many;
          fits = λ n other below other_is. elim (cases_eq n place) [
            | inl e ↦ subst (λ (k : ℕ). IsSetFor other (slice_index_or more_sets k [])) (sym e) (subst (IsSetFor other) (sym here) (subst (λ (o : Node). IsSetFor o set) (same_node n other e other_is) fits))
            | inr ne ↦ subst (IsSetFor other) (same n (omega arith)) (so_far.fits n other (omega arith) other_is)
          ];
          own = λ prime n other below other_is. elim (cases_eq n place) [
            | inl e ↦
                subst (λ (k : ℕ). NodeLearns m (named inputs (take k more_lists)) other (slice_index_or more_sets k [])) (sym e)
                (subst (λ (ls : List (List ℕ)). NodeLearns m (named inputs ls) other (slice_index_or more_sets place [])) (sym all_before)
                (subst (λ (s : List ℕ). NodeLearns m (named inputs lists) other s) (sym here)
                (subst (λ (o : Node). NodeLearns m (named inputs lists) o set) (same_node n other e other_is) (own prime))))
            | inr ne ↦
                subst (λ (ls : List (List ℕ)). NodeLearns m (named inputs ls) other (slice_index_or more_sets n [])) (some_before n (omega arith))
                (subst (NodeLearns m (named inputs (take n lists)) other) (same n (omega arith)) (so_far.own prime n other (omega arith) other_is))
          ];
          measured = one_more sizes graph more_sets lengths place total count earlier set node answer (LengthsSoFar-sets sizes graph sets more_sets lengths place total same so_far.measured) is count_is earlier_is here answer_is own_length more_lengths some small bound lengths_joined;
          given = goes_on m called graph.nodes inputs more_sets more_lengths lists more_lists place own_length set node values (ListsSoFar-longer m called graph.nodes inputs sets more_sets lengths more_lengths lists place same front so_far.given) is here gives low long room at lists_joined;
        }
      where
        same_node : (n : ℕ) (other : Node) → n ≡ place → slice_get graph.nodes n ≡ Some other → node ≡ other
        same_node n other e other_is = let both : Some node ≡ Some other = sym is ∙ ap (slice_get graph.nodes) (sym e) ∙ other_is in cc

        all_before : take place more_lists ≡ lists
        all_before = ap (take place) lists_joined ∙ ap (λ k. take k (lists ++ values ∷ [])) (sym so_far.given.many) ∙ take-append_seam lists (values ∷ [])

        some_before : (n : ℕ) → n < place → take n lists ≡ take n more_lists
        some_before n below = sym (take-append-le n lists (values ∷ []) (omega (arith, so_far.given.many))) ∙ ap (take n) (sym lists_joined)

  -- one node more stands there
  pub LearnedStand-more : (m : ℕ) (graph : Graph) (inputs : List ℕ) (sets : List (List ℕ)) (lengths words places : List ℕ) (place total : ℕ) (stands : LearnedStand m graph inputs sets lengths words places place total) (node : Node) (set : List ℕ) (list : Source → List ℕ) → slice_get graph.nodes place ≡ Some node
      → list ≡ named inputs stands.lists → (IsPrime m → NodeLearns m list node set) → (count : ℕ) → count ≡ length graph.inputs → (earlier : List ℕ) → earlier ≡ lengths → (answer : Option ℕ) → answer ≡ node_length sizes count earlier set node
      → (own_length : ℕ) (more_sets : List (List ℕ)) (more_lengths new more_places : List ℕ) → IsSetFor node set → answer ≡ Some own_length → IfSome answer (λ n. n ≤ 262144) → IfSome answer (λ n. total + n ≤ 2097152) → IsAdded m called set list node own_length words new
      → more_sets ≡ sets ++ set ∷ [] → more_lengths ≡ lengths ++ own_length ∷ [] → more_places ≡ places ++ (length inputs + (total + own_length)) ∷ [] → LearnedStand m graph inputs more_sets more_lengths new more_places (place + 1) (total + own_length)
  LearnedStand-more m graph inputs sets lengths words places place total stands node set list is list_is own count count_is earlier earlier_is answer answer_is own_length more_sets more_lengths new more_places fits some small bound added sets_joined lengths_joined places_joined =
      let values : List ℕ = added.values in
      let so_far = stands.so_far in
      record {
        lists = stands.lists ++ values ∷ [];
        so_far = learned_more m graph inputs sets lengths stands.lists place total node set so_far is (λ prime. subst (λ (l : Source → List ℕ). NodeLearns m l node set) list_is (own prime)) count count_is earlier earlier_is answer answer_is own_length values more_sets more_lengths (stands.lists ++ values ∷ []) fits some small bound
            (λ prime. subst (λ (l : Source → List ℕ). NodeGives m called set l node values) list_is (added.gives prime)) added.low added.long sets_joined lengths_joined refl;
        words_are = added.words ∙ ap (λ xs. xs ++ values) stands.words_are ∙ append_assoc inputs (chained stands.lists) values ∙ ap (λ xs. inputs ++ xs) (sym (chained-more stands.lists values));
        places_are = places_joined ∙ ap (λ ps. ps ++ (length inputs + (total + own_length)) ∷ []) stands.places_are ∙ ap (λ n. places_of (length inputs) lengths ++ (length inputs + (n + own_length)) ∷ []) so_far.measured.total_is
            ∙ sym (places-push (length inputs) lengths own_length) ∙ ap (places_of (length inputs)) (sym lengths_joined);
      }

  -- with every node, all is learned
  module _ (m : ℕ) (graph : Graph) (inputs : List ℕ) (sets : List (List ℕ)) (plans : List (Option Plan)) (lengths : List ℕ) (lists : List (List ℕ)) (place total count : ℕ) (learned : GraphLearned) (so_far : LearnedSoFar m graph inputs sets lengths lists place total) (all : place ≡ length graph.nodes) (count_is : count ≡ length graph.inputs)
      (planned : PlansSoFar graph.nodes sets plans place) (sets_are : learned.sets ≡ sets) (plans_are : learned.plans ≡ plans) (lengths_are : learned.lengths ≡ lengths) (output_is : learned.output ≡ named_length count lengths graph.output) where
    have_plans : ArePlans graph.nodes sets learned.plans
    have_plans = subst (ArePlans graph.nodes sets) (sym plans_are) (plans_all graph.nodes sets plans place planned all)

    pub learned_all : learned.point ≡ None → IsPrime m → IsLearned m called sizes graph inputs learned
    learned_all no_point prime = record {
      lists = lists;
      first = subst (λ (ss : List (List ℕ)). FirstLearned m called sizes graph inputs ss learned.lengths lists) (sym sets_are) (subst (λ (ls : List ℕ). FirstLearned m called sizes graph inputs sets ls lists) (sym lengths_are) (first_learned m graph inputs sets lengths lists place total so_far prime));
      all = so_far.given.many ∙ all;
      plans = subst (λ (ss : List (List ℕ)). ArePlans graph.nodes ss learned.plans) (sym sets_are) have_plans;
      output = output_is ∙ ap (λ n. named_length n lengths graph.output) count_is ∙ ap (λ ls. named_length (length graph.inputs) ls graph.output) (sym lengths_are);
      point = no_point;
    }

    pub learned_fits : FitsGraph sizes graph learned
    learned_fits = fits_graph sizes graph sets lengths place total count learned so_far.measured all count_is so_far.many so_far.fits have_plans sets_are lengths_are output_is
