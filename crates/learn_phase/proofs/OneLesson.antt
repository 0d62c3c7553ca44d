-- The graphs of a file have at most one lesson under a rule.
use Rattle.std.proofs.Common.{◌≡◌, ℕ, zero, suc, ◌<◌, ◌≤◌, Bool, true, false, MatchBool, List, [], ◌∷◌, ◌++◌, length, take, get_or, Some, refl, sym, ◌∙◌, ap, subst, arith, inl, inr, lit<}
use Rattle.std.specs.Prelude.{slice_get}
use Rattle.std.proofs.lemmas.Option.{get_or_from_slice_get, slice_get_within}
use Rattle.std.proofs.Math.Seq.{take-suc, take-length}
use Rattle.graph_file.specs.declared.graph.Graph.{Graph}
use Rattle.graph_eval.specs.declared.fresh.Fresh.{Fresh}
use Rattle.graph_eval.specs.declared.fresh.Fresh.TheVariants as fresh
use Rattle.graph_eval.specs.declared.learned.GraphLearned.{GraphLearned}
use Rattle.graph_eval.specs.declared.outcome.Singular.{Singular}
use Rattle.graph_eval.specs.Fresh.{IsFreshAt}
use Rattle.graph_eval.specs.Learned.{FailsLength, FitsGraph, has_solver, outputs_of, Sizes, sizes_of}
use Rattle.learn_phase.specs.LearnedSets.{AllSingular, AnswersAt, AnswersFirst, AreSingular, BreaksLength, BreaksRule, Broken, FirstLearn, GivesBehind, GraphLesson, Learns, LearnsAtPoints, LearnsByRules, LearnsGraph, LearnsUnder, Lesson, NoPoint, Place, Taught, learning_modulus, output_node}
use Rattle.learn_phase.specs.Points.{learning_point}
use Rattle.graph_eval.proofs.OneLength.{learned_same}
use Rattle.graph_eval.proofs.Places.{stands}
use Rattle.learn_phase.proofs.Places.{same_lists}
use Rattle.learn_phase.proofs.Taking.{behind}

-- the laws of the definitions below that of a lesson
pub record Laws : Type 0 where
  pub one_fresh : (m : ℕ) (graphs : List Graph) (learned : List GraphLearned) (number : ℕ) (inputs : List ℕ) (a b : Fresh) → 1 < m → IsFreshAt m graphs learned number inputs a → IsFreshAt m graphs learned number inputs b → a ≡ b
  pub lengths : (sizes : Sizes) (graph : Graph) (a b : GraphLearned) → a.sets ≡ b.sets → FitsGraph sizes graph a → FitsGraph sizes graph b → a.lengths ≡ b.lengths
  pub output : (sizes : Sizes) (graph : Graph) (a b : GraphLearned) → a.sets ≡ b.sets → FitsGraph sizes graph a → FitsGraph sizes graph b → a.output ≡ b.output
  pub plans : (sizes : Sizes) (graph : Graph) (a b : GraphLearned) → a.sets ≡ b.sets → FitsGraph sizes graph a → FitsGraph sizes graph b → a.plans ≡ b.plans
  pub sets : (sizes : Sizes) (graph : Graph) (a b : GraphLearned) → has_solver graph ≡ false → FitsGraph sizes graph a → FitsGraph sizes graph b → a.sets ≡ b.sets
  pub either : (sizes : Sizes) (graph : Graph) (a : GraphLearned) (n : ℕ) → has_solver graph ≡ false → FitsGraph sizes graph a → FailsLength sizes graph n → ⊥
  pub node : (sizes : Sizes) (graph : Graph) (n k : ℕ) → FailsLength sizes graph n → FailsLength sizes graph k → n ≡ k

-- the answer isn't that a node has no value
IsLast : Fresh → Type 0
IsLast answer = (singular : Singular) → answer ≡ fresh.Singular singular → ⊥

module _ (laws : Laws) (place : Place) (graph : Graph) (is : slice_get place.graphs place.number ≡ Some graph) where
  answer_once : (q : ℕ) (a b : Fresh) → AnswersAt place graph q a → AnswersAt place graph q b → a ≡ b
  answer_once q a b first second =
      laws.one_fresh learning_modulus place.graphs place.learned place.number (learning_point (length graph.inputs) q) a b (lit< tt) (graph, is, first) (graph, is, second)

  -- what a graph answers at a point where it has no value is that
  singular_there : (first : List Singular) (q : ℕ) (answer : Fresh) → AreSingular place graph first → q < length first → AnswersAt place graph q answer → IsLast answer → ⊥
  unfolding IsLast
  singular_there first q answer are below here last =
      let there = stands first q below in
      last there.0 (answer_once q answer (fresh.Singular there.0) here (are q there.0 there.1))

  last_once : (q k : ℕ) (a b : Fresh) → AnswersFirst place graph q a → AnswersFirst place graph k b → IsLast a → IsLast b → (q ≡ k) × (a ≡ b)
  last_once q k a b first second a_last b_last =
      let lower : q < k → ⊥ = λ below. singular_there second.first q a second.singular (omega (arith, second.many)) first.here a_last in
      let upper : k < q → ⊥ = λ below. singular_there first.first k b first.singular (omega (arith, first.many)) second.here b_last in
      let same : q ≡ k = omega (arith, lower, upper) in
      (same, answer_once q a b first.here (subst (λ (n : ℕ). AnswersAt place graph n b) (sym same) second.here))

  -- lists of nodes without a value at the same points are one
  singular_once : (xs ys : List Singular) → length xs ≡ length ys → AreSingular place graph xs → AreSingular place graph ys → xs ≡ ys
  singular_once xs ys long first second = same_lists xs ys long (λ q x y at_x at_y.
      let both : fresh.Singular x ≡ fresh.Singular y = answer_once q (fresh.Singular x) (fresh.Singular y) (first q x at_x) (second q y at_y) in cc)

  is_learned : (entry : GraphLearned) → IsLast (fresh.Learned entry)
  unfolding IsLast
  is_learned entry singular same = cc

  is_length : (node : ℕ) → IsLast (fresh.Length node)
  unfolding IsLast
  is_length node singular same = cc

  -- points that are all without a value, and an answer at one
  no_answer : {C : Type 0} (first : List Singular) (q : ℕ) (answer : Fresh) → length first ≡ 8 → AreSingular place graph first → AnswersFirst place graph q answer → IsLast answer → C
  no_answer first q answer long are answers last = absurd (singular_there first q answer are (omega (arith, long, answers.within)) answers.here last)

  by_points_once : (a b : GraphLesson) → LearnsAtPoints place graph a → LearnsAtPoints place graph b → a ≡ b
  by_points_once (Taught x) (Taught y) first second =
      let same = last_once first.0 second.0 (fresh.Learned first.1) (fresh.Learned second.1) first.2 second.2 (is_learned first.1) (is_learned second.1) in
      let told : fresh.Learned first.1 ≡ fresh.Learned second.1 = same.1 in
      let found : first.1 ≡ second.1 = cc in
      ap Taught (first.3 ∙ ap (λ (e : GraphLearned). record e { point = Some first.0 }) found ∙ ap (λ n. record second.1 { point = Some n }) same.0 ∙ sym second.3)
  by_points_once (Taught x) (AllSingular ys) first second = no_answer ys first.0 (fresh.Learned first.1) second.0 second.1 first.2 (is_learned first.1)
  by_points_once (Taught x) (Broken n) first second =
      let same = last_once first.0 second.0 (fresh.Learned first.1) (fresh.Length n) first.2 second.1 (is_learned first.1) (is_length n) in
      let told : fresh.Learned first.1 ≡ fresh.Length n = same.1 in cc
  by_points_once (AllSingular xs) (Taught y) first second = no_answer xs second.0 (fresh.Learned second.1) first.0 first.1 second.2 (is_learned second.1)
  by_points_once (AllSingular xs) (AllSingular ys) first second = ap AllSingular (singular_once xs ys (first.0 ∙ sym second.0) first.1 second.1)
  by_points_once (AllSingular xs) (Broken n) first second = no_answer xs second.0 (fresh.Length n) first.0 first.1 second.1 (is_length n)
  by_points_once (Broken n) (Taught y) first second =
      let same = last_once first.0 second.0 (fresh.Length n) (fresh.Learned second.1) first.1 second.2 (is_length n) (is_learned second.1) in
      let told : fresh.Length n ≡ fresh.Learned second.1 = same.1 in cc
  by_points_once (Broken n) (AllSingular ys) first second = no_answer ys first.0 (fresh.Length n) second.0 second.1 first.1 (is_length n)
  by_points_once (Broken n) (Broken k) first second =
      let same = last_once first.0 second.0 (fresh.Length n) (fresh.Length k) first.1 second.1 (is_length n) (is_length k) in
      let told : fresh.Length n ≡ fresh.Length k = same.1 in
      let node : n ≡ k = cc in ap Broken node

  by_rules_once : (a b : GraphLesson) → has_solver graph ≡ false → LearnsByRules place graph a → LearnsByRules place graph b → a ≡ b
  by_rules_once (Taught x) (Taught y) plain first second =
      let sets = laws.sets (sizes_of place.graphs place.learned) graph x y plain first.1 second.1 in
      ap Taught (learned_same x y (first.0 ∙ sym second.0) (laws.output (sizes_of place.graphs place.learned) graph x y sets first.1 second.1) (laws.lengths (sizes_of place.graphs place.learned) graph x y sets first.1 second.1) sets (laws.plans (sizes_of place.graphs place.learned) graph x y sets first.1 second.1))
  by_rules_once (Taught x) (AllSingular ys) plain first second = absurd second
  by_rules_once (Taught x) (Broken n) plain first second = absurd (laws.either (sizes_of place.graphs place.learned) graph x n plain first.1 second)
  by_rules_once (AllSingular xs) b plain first second = absurd first
  by_rules_once (Broken n) (Taught y) plain first second = absurd (laws.either (sizes_of place.graphs place.learned) graph y n plain second.1 first)
  by_rules_once (Broken n) (AllSingular ys) plain first second = absurd second
  by_rules_once (Broken n) (Broken k) plain first second = ap Broken (laws.node (sizes_of place.graphs place.learned) graph n k first second)

  by_kind : (a b : GraphLesson) (solver : Bool) → has_solver graph ≡ solver → MatchBool solver (LearnsAtPoints place graph a) (LearnsByRules place graph a) → MatchBool solver (LearnsAtPoints place graph b) (LearnsByRules place graph b) → a ≡ b
  by_kind a b true kind first second = by_points_once a b first second
  by_kind a b false kind first second = by_rules_once a b kind first second

  graph_once : (a b : GraphLesson) → LearnsGraph place graph a → LearnsGraph place graph b → a ≡ b
  graph_once a b first second = by_kind a b (has_solver graph) refl first second

module _ (laws : Laws) (graphs : List Graph) where
  -- what was learned of the first graphs agrees as far as both go
  agree : (a b : List GraphLearned) (many more : ℕ) → FirstLearn graphs a many → FirstLearn graphs b more → (n : ℕ) → n ≤ many → n ≤ more → n ≤ length graphs → take n a ≡ take n b
  agree a b many more first second zero within within_more there = refl
  agree a b many more first second (suc n) within within_more there =
      let graph = stands graphs n (omega arith) in
      let in_a = stands a n (omega (arith, first.many)) in
      let in_b = stands b n (omega (arith, second.many)) in
      let before : take n a ≡ take n b = agree a b many more first second n (omega arith) (omega arith) (omega arith) in
      let at_a : LearnsGraph (behind graphs (take n b) n) graph.0 (Taught in_a.0) = subst (λ (ls : List GraphLearned). LearnsGraph (behind graphs ls n) graph.0 (Taught in_a.0)) before (first.each n graph.0 in_a.0 graph.1 in_a.1) in
      let told : Taught in_a.0 ≡ Taught in_b.0 = graph_once laws (behind graphs (take n b) n) graph.0 graph.1 (Taught in_a.0) (Taught in_b.0) at_a (second.each n graph.0 in_b.0 graph.1 in_b.1) in
      let same : in_a.0 ≡ in_b.0 = cc in
      take-suc a n in_a.0 (omega (arith, first.many)) ∙ ap (λ ls. ls ++ get_or a n in_a.0 ∷ []) before
      ∙ ap (λ e. take n b ++ e ∷ []) (get_or_from_slice_get a n in_a.0 in_a.0 in_a.1 ∙ same ∙ sym (get_or_from_slice_get b n in_b.0 in_a.0 in_b.1))
      ∙ sym (take-suc b n in_a.0 (omega (arith, second.many)))

  -- all that was learned of as many graphs is one
  learned_once : (a b : List GraphLearned) (many : ℕ) → many ≤ length graphs → FirstLearn graphs a many → FirstLearn graphs b many → a ≡ b
  learned_once a b many there first second =
      sym (take-length a) ∙ ap (λ n. take n a) first.many ∙ agree a b many many first second many (omega arith) (omega arith) there ∙ ap (λ n. take n b) (sym second.many) ∙ take-length b

  -- a graph among those that are learned gives nothing else
  taught_alone : (a : List GraphLearned) (many number : ℕ) (lesson : GraphLesson) → FirstLearn graphs a many → number < many → GivesBehind graphs number lesson → (entry : GraphLearned) × (lesson ≡ Taught entry)
  taught_alone a many number lesson first below gives =
      let there : number < length graphs = slice_get_within graphs number gives.graph gives.is_graph in
      let entry = stands a number (omega (arith, first.many)) in
      let before : take number a ≡ gives.learned = agree a gives.learned many number first gives.before number (omega arith) (omega arith) (omega arith) ∙ ap (λ n. take n gives.learned) (sym gives.before.many) ∙ take-length gives.learned in
      let taught : LearnsGraph (behind graphs gives.learned number) gives.graph (Taught entry.0) = subst (λ (ls : List GraphLearned). LearnsGraph (behind graphs ls number) gives.graph (Taught entry.0)) before (first.each number gives.graph entry.0 gives.is_graph entry.1) in
      (entry.0, graph_once laws (behind graphs gives.learned number) gives.graph gives.is_graph lesson (Taught entry.0) gives.gives taught)

  -- the lesson isn't that the graph is learned
  IsStop : GraphLesson → Type 0
  IsStop lesson = (entry : GraphLearned) → lesson ≡ Taught entry → ⊥

  all_singular_stops : (first : List Singular) → IsStop (AllSingular first)
  unfolding IsStop
  all_singular_stops first entry same = cc

  broken_stops : (node : ℕ) → IsStop (Broken node)
  unfolding IsStop
  broken_stops node entry same = cc

  -- all graphs are learned, and one stops the learning
  learned_or_stopped : {C : Type 0} (a : List GraphLearned) (number : ℕ) (lesson : GraphLesson) → FirstLearn graphs a (length graphs) → GivesBehind graphs number lesson → IsStop lesson → C
  unfolding IsStop
  learned_or_stopped a number lesson first gives stops =
      let taught = taught_alone a (length graphs) number lesson first (slice_get_within graphs number gives.graph gives.is_graph) gives in
      absurd (stops taught.0 taught.1)

  stop_once : (number other : ℕ) (a b : GraphLesson) → GivesBehind graphs number a → GivesBehind graphs other b → IsStop a → IsStop b → (number ≡ other) × (a ≡ b)
  unfolding IsStop
  stop_once number other a b first second a_stops b_stops =
      let lower : number < other → ⊥ = λ below. let taught = taught_alone second.learned other number a second.before below first in a_stops taught.0 taught.1 in
      let upper : other < number → ⊥ = λ below. let taught = taught_alone first.learned number other b first.before below second in b_stops taught.0 taught.1 in
      let same : number ≡ other = omega (arith, lower, upper) in
      let moved : GivesBehind graphs number b = subst (λ (n : ℕ). GivesBehind graphs n b) (sym same) second in
      let there : number < length graphs = slice_get_within graphs number first.graph first.is_graph in
      let before : moved.learned ≡ first.learned = learned_once moved.learned first.learned number (omega arith) moved.before first.before in
      let both : Some moved.graph ≡ Some first.graph = sym moved.is_graph ∙ first.is_graph in
      let graph : moved.graph ≡ first.graph = cc in
      let here : LearnsGraph (behind graphs first.learned number) first.graph b =
      subst (λ (g : Graph). LearnsGraph (behind graphs first.learned number) g b) graph (subst (λ (ls : List GraphLearned). LearnsGraph (behind graphs ls number) moved.graph b) before moved.gives) in
      (same, graph_once laws (behind graphs first.learned number) first.graph first.is_graph a b first.gives here)

  breaks_once : (rule : ℕ → Type 0) (number other n k : ℕ) → BreaksRule rule graphs number n → BreaksRule rule graphs other k → (number ≡ other) × (n ≡ k)
  breaks_once rule number other n k first second =
      let same : number ≡ other = first.is_main ∙ sym second.is_main in
      let both : Some first.graph ≡ Some second.graph = sym first.is_graph ∙ ap (slice_get graphs) same ∙ second.is_graph in
      let graph : first.graph ≡ second.graph = cc in
      (same, first.is_output ∙ ap (λ (g : Graph). output_node g.output) graph ∙ sym second.is_output)

  -- the job's own rule holds or fails
  meets_or_breaks : {C : Type 0} (rule : ℕ → Type 0) (a : List GraphLearned) (number node : ℕ) → FirstLearn graphs a (length graphs) → rule (outputs_of a) → BreaksRule rule graphs number node → C
  meets_or_breaks rule a number node first meets fails =
      absurd (fails.breaks (subst (λ (ls : List GraphLearned). rule (outputs_of ls)) (learned_once a fails.learned (length graphs) (omega arith) first fails.all) meets))

  broken_once : (number other n k : ℕ) → GivesBehind graphs number (Broken n) → GivesBehind graphs other (Broken k) → (number ≡ other) × (n ≡ k)
  broken_once number other n k first second =
      let same = stop_once number other (Broken n) (Broken k) first second (broken_stops n) (broken_stops k) in
      let told : Broken n ≡ Broken k = same.1 in
      (same.0, cc)

  length_once : (g h n k : ℕ) → (g ≡ h) × (n ≡ k) → BreaksLength g n ≡ BreaksLength h k
  length_once g h n k same = ap (λ x. BreaksLength x n) same.0 ∙ ap (λ x. BreaksLength h x) same.1

  pub lesson_once : (rule : ℕ → Type 0) (a b : Lesson) → LearnsUnder rule graphs a → LearnsUnder rule graphs b → a ≡ b
  lesson_once rule (Learns xs) (Learns ys) first second = ap Learns (learned_once xs ys (length graphs) (omega arith) first.0 second.0)
  lesson_once rule (Learns xs) (NoPoint h ys) first second = learned_or_stopped xs h (AllSingular ys) first.0 second (all_singular_stops ys)
  lesson_once rule (Learns xs) (BreaksLength h k) first (inl second) = learned_or_stopped xs h (Broken k) first.0 second (broken_stops k)
  lesson_once rule (Learns xs) (BreaksLength h k) first (inr second) = meets_or_breaks rule xs h k first.0 first.1 second
  lesson_once rule (NoPoint g xs) (Learns ys) first second = learned_or_stopped ys g (AllSingular xs) second.0 first (all_singular_stops xs)
  lesson_once rule (NoPoint g xs) (NoPoint h ys) first second =
      let same = stop_once g h (AllSingular xs) (AllSingular ys) first second (all_singular_stops xs) (all_singular_stops ys) in
      let told : AllSingular xs ≡ AllSingular ys = same.1 in
      let nodes : xs ≡ ys = cc in
      ap (λ x. NoPoint x xs) same.0 ∙ ap (λ x. NoPoint h x) nodes
  lesson_once rule (NoPoint g xs) (BreaksLength h k) first (inl second) =
      let told : AllSingular xs ≡ Broken k = (stop_once g h (AllSingular xs) (Broken k) first second (all_singular_stops xs) (broken_stops k)).1 in cc
  lesson_once rule (NoPoint g xs) (BreaksLength h k) first (inr second) = learned_or_stopped second.learned g (AllSingular xs) second.all first (all_singular_stops xs)
  lesson_once rule (BreaksLength g n) (Learns ys) (inl first) second = learned_or_stopped ys g (Broken n) second.0 first (broken_stops n)
  lesson_once rule (BreaksLength g n) (Learns ys) (inr first) second = meets_or_breaks rule ys g n second.0 second.1 first
  lesson_once rule (BreaksLength g n) (NoPoint h ys) (inl first) second =
      let told : Broken n ≡ AllSingular ys = (stop_once g h (Broken n) (AllSingular ys) first second (broken_stops n) (all_singular_stops ys)).1 in cc
  lesson_once rule (BreaksLength g n) (NoPoint h ys) (inr first) second = learned_or_stopped first.learned h (AllSingular ys) first.all second (all_singular_stops ys)
  lesson_once rule (BreaksLength g n) (BreaksLength h k) (inl first) (inl second) = length_once g h n k (broken_once g h n k first second)
  lesson_once rule (BreaksLength g n) (BreaksLength h k) (inl first) (inr second) = learned_or_stopped second.learned g (Broken n) second.all first (broken_stops n)
  lesson_once rule (BreaksLength g n) (BreaksLength h k) (inr first) (inl second) = learned_or_stopped first.learned h (Broken k) first.all second (broken_stops k)
  lesson_once rule (BreaksLength g n) (BreaksLength h k) (inr first) (inr second) = length_once g h n k (breaks_once rule g h n k first second)
