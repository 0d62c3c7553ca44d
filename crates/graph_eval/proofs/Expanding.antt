-- The expansions of a graph's outputs are told once.
use Rattle.std.proofs.Common.{◌≡◌, ℕ, ◌+◌, ◌<◌, ◌≤◌, List, [], length, map, refl, sym, ◌∙◌, ap, subst, arith, inl, inr}
use Rattle.std.specs.Prelude.{slice_index, slice_index_or}
use Rattle.std.proofs.lemmas.Bool.{cases_eq}
use Rattle.std.proofs.lemmas.List.{ext_get_or}
use Rattle.basic_nodes.specs.Plain.{chained}
use Rattle.laurent_node.specs.Expansion.{IsExpansion, IsLeastExponent, place}
use Rattle.laurent_node.proofs.Expansions.{expansions_same, least_same}
use Rattle.thiele_interp.proofs.Same.{pairs_same}
use Rattle.graph_eval.specs.declared.expansion.Window.{Window}
use Rattle.graph_eval.specs.declared.outcome.Cause.{Cause}
use Rattle.graph_eval.specs.declared.outcome.Cause.TheVariants.{Division, System, Degree, Pole}
use Rattle.graph_eval.specs.Expanded.{FailsToExpand, HasPole, IsExpandedFrom, IsQuotient, column, expansion_inputs, points_of, width_of}
use Rattle.graph_eval.specs.GraphValue.{GivesFirst, HasNoExpansion, IsExpanded, IsNotExpanded, IsOnce, IsStopped, Meaning}
use Rattle.graph_eval.proofs.Mapped.{no_clash, outs_same, stopped_once}

module _ (m : ℕ) (window : Window) (large : 1 < m) where
  quotients_same : (values num den other_num other_den : List ℕ) → IsQuotient m window values num den → IsQuotient m window values other_num other_den → (num ≡ other_num) × (den ≡ other_den)
  quotients_same values num den other_num other_den one other =
      pairs_same m (length (points_of window)) (slice_index (points_of window)) (slice_index values) window.num window.den num den other_num other_den large one.least one.reduced other.least other.reduced

  -- an expansion of one quotient is one of the other
  moved : (values num den other_num other_den c : List ℕ) (e f : ℕ) → IsQuotient m window values num den → IsQuotient m window values other_num other_den → IsLeastExponent e den → IsLeastExponent f other_den
      → IsExpansion m other_num other_den f (place window.lo) c → IsExpansion m num den e (place window.lo) c
  moved values num den other_num other_den c e f one other least other_least expansion =
      let same = quotients_same values num den other_num other_den one other in
      let exponent : f ≡ e = least_same den f e (subst (IsLeastExponent f) (sym same.1) other_least) least in
      subst (λ (k : ℕ). IsExpansion m num den k (place window.lo) c) exponent
      (subst (λ (d : List ℕ). IsExpansion m num d f (place window.lo) c) (sym same.1)
      (subst (λ (n : List ℕ). IsExpansion m n other_den f (place window.lo) c) (sym same.0) expansion))

  from_once : (values xs ys : List ℕ) → IsExpandedFrom m window values xs → IsExpandedFrom m window values ys → xs ≡ ys
  from_once values xs ys one other =
      expansions_same m one.num one.den one.least (place window.lo) xs ys one.exponent one.unit (one.many ∙ sym other.many) one.expansion
      (moved values one.num one.den other.num other.den ys one.least other.least one.quotient other.quotient one.exponent other.exponent other.expansion)

  from_clash : (values xs : List ℕ) (cause : Cause) → IsExpandedFrom m window values xs → FailsToExpand m window values cause → ⊥
  from_clash values xs Division one fails = fails
  from_clash values xs System one fails = fails
  from_clash values xs Degree one fails = fails one.num one.den one.quotient.least.agreeing
  from_clash values xs Pole one fails =
      fails.none xs one.many (moved values fails.num fails.den one.num one.den xs fails.least one.least fails.quotient one.quotient fails.exponent one.exponent one.expansion)

  fails_once : (values : List ℕ) (a b : Cause) → FailsToExpand m window values a → FailsToExpand m window values b → a ≡ b
  fails_once values Division b first second = absurd first
  fails_once values System b first second = absurd first
  fails_once values Degree Division first second = absurd second
  fails_once values Degree System first second = absurd second
  fails_once values Degree Degree first second = refl
  fails_once values Degree Pole first second = absurd (first second.num second.den second.quotient.least.agreeing)
  fails_once values Pole Division first second = absurd second
  fails_once values Pole System first second = absurd second
  fails_once values Pole Degree first second = absurd (second first.num first.den first.quotient.least.agreeing)
  fails_once values Pole Pole first second = refl

  -- of all outputs of a graph
  module _ (called : Meaning) (rest : List ℕ) (once : IsOnce called) where
    abbrev ins : List (List ℕ)
    ins = expansion_inputs window rest

    same : (outs others : List (List ℕ)) → GivesFirst called ins outs → GivesFirst called ins others → length outs ≡ length ins → length others ≡ length ins → outs ≡ others
    same outs others first second all all_others = outs_same called ins once outs others first second (all ∙ sym all_others)

    pub expanded_once : (xs ys : List ℕ) → IsExpanded m window called rest xs → IsExpanded m window called rest ys → xs ≡ ys
    expanded_once xs ys one other =
        let outs : one.outs ≡ other.outs = same one.outs other.outs one.first other.first one.all other.all in
        let many : length one.lists ≡ length other.lists = one.many ∙ ap width_of outs ∙ sym other.many in
        let lists : one.lists ≡ other.lists =
        ext_get_or [] one.lists other.lists many (λ k below. from_once (column k one.outs) (slice_index_or one.lists k []) (slice_index_or other.lists k []) (one.each k below)
        (subst (λ (os : List (List ℕ)). IsExpandedFrom m window (column k os) (slice_index_or other.lists k [])) (sym outs) (other.each k (omega (arith, many))))) in
        one.values_are ∙ ap chained lists ∙ sym other.values_are

    pub expanded_or_not : (xs : List ℕ) (cause : Cause) → IsExpanded m window called rest xs → IsNotExpanded m window called rest cause → ⊥
    expanded_or_not xs cause one (inl stopped) = no_clash called ins once one.outs stopped.outs stopped.node cause one.first (omega (arith, one.all, stopped.before)) stopped.singular
    expanded_or_not xs cause one (inr none) =
        let outs : none.outs ≡ one.outs = same none.outs one.outs none.first one.first none.all one.all in
        let k = length none.lists in
        let below : k < length one.lists = omega (arith, none.before, ap width_of outs, one.many) in
        from_clash (column k one.outs) (slice_index_or one.lists k []) cause (one.each k below) (subst (λ (os : List (List ℕ)). FailsToExpand m window (column k os) cause) outs none.fails)

    -- the first output without an expansion is told once
    not_later : (a b : Cause) (one : HasNoExpansion m window called rest a) (other : HasNoExpansion m window called rest b) → length one.lists < length other.lists → ⊥
    not_later a b one other earlier =
        let outs : one.outs ≡ other.outs = same one.outs other.outs one.first other.first one.all other.all in
        let k = length one.lists in
        from_clash (column k other.outs) (slice_index_or other.lists k []) a (other.each k earlier) (subst (λ (os : List (List ℕ)). FailsToExpand m window (column k os) a) outs one.fails)

    pub not_expanded_once : (a b : Cause) → IsNotExpanded m window called rest a → IsNotExpanded m window called rest b → a ≡ b
    not_expanded_once a b (inl one) (inl other) = stopped_once called ins once a b one other
    not_expanded_once a b (inl one) (inr other) = absurd (no_clash called ins once other.outs one.outs one.node a other.first (omega (arith, other.all, one.before)) one.singular)
    not_expanded_once a b (inr one) (inl other) = absurd (no_clash called ins once one.outs other.outs other.node b one.first (omega (arith, one.all, other.before)) other.singular)
    not_expanded_once a b (inr one) (inr other) =
        let outs : other.outs ≡ one.outs = same other.outs one.outs other.first one.first other.all one.all in
        let lower : length one.lists < length other.lists → ⊥ = not_later a b one other in
        let upper : length other.lists < length one.lists → ⊥ = not_later b a other one in
        let many : length other.lists ≡ length one.lists = omega (arith, lower, upper) in
        fails_once (column (length one.lists) one.outs) a b one.fails
        (subst (λ (os : List (List ℕ)). FailsToExpand m window (column (length one.lists) os) b) outs
        (subst (λ (k : ℕ). FailsToExpand m window (column k other.outs) b) many other.fails))
