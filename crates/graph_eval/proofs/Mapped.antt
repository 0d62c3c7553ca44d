-- What a graph gives on one list after the other.
use Rattle.std.proofs.Common.{◌≡◌, ℕ, zero, suc, ◌<◌, ◌≤◌, List, [], ◌∷◌, ◌++◌, length, take, get_or, refl, sym, ◌∙◌, ap, subst, arith}
use Rattle.std.specs.Prelude.{slice_index_or}
use Rattle.std.proofs.Math.Seq.{take-suc, take-length}
use Rattle.basic_nodes.specs.Plain.{chained}
use Rattle.graph_eval.specs.declared.outcome.Cause.{Cause}
use Rattle.graph_eval.specs.GraphValue.{GivesFirst, IsMapped, IsOnce, IsStopped, Meaning, SingularAt, Value}

module _ (called : Meaning) (ins : List (List ℕ)) (once : IsOnce called) where
  -- what it gives on the first lists is the same as far as both go
  agree : (outs others : List (List ℕ)) → GivesFirst called ins outs → GivesFirst called ins others → (n : ℕ) → n ≤ length outs → n ≤ length others → take n outs ≡ take n others
  agree outs others first second zero within within_others = refl
  agree outs others first second (suc n) within within_others =
      let below : n < length outs = omega arith in
      let below_others : n < length others = omega arith in
      let before : take n outs ≡ take n others = agree outs others first second n (omega arith) (omega arith) in
      let values : Value (slice_index_or outs n []) ≡ Value (slice_index_or others n []) = once.once (slice_index_or ins n []) _ _ (first.each n below) (second.each n below_others) in
      let same : get_or outs n [] ≡ get_or others n [] = cc in
      take-suc outs n [] below ∙ ap (λ ls. ls ++ get_or outs n [] ∷ []) before ∙ ap (λ x. take n others ++ x ∷ []) same ∙ sym (take-suc others n [] below_others)

  pub outs_same : (outs others : List (List ℕ)) → GivesFirst called ins outs → GivesFirst called ins others → length outs ≡ length others → outs ≡ others
  outs_same outs others first second many =
      sym (take-length outs) ∙ agree outs others first second (length outs) (omega arith) (omega arith) ∙ ap (λ n. take n others) many ∙ take-length others

  -- it isn't singular on a list on which it has a value
  pub no_clash : (outs others : List (List ℕ)) (node : ℕ) (cause : Cause) → GivesFirst called ins outs → length others < length outs → called (slice_index_or ins (length others) []) (SingularAt node cause) → ⊥
  no_clash outs others node cause first longer singular =
      let both : Value (slice_index_or outs (length others) []) ≡ SingularAt node cause = once.once (slice_index_or ins (length others) []) _ _ (first.each (length others) longer) singular in
      cc

  pub mapped_once : (xs ys : List ℕ) → IsMapped called ins xs → IsMapped called ins ys → xs ≡ ys
  mapped_once xs ys one other =
      let same : one.outs ≡ other.outs = outs_same one.outs other.outs one.first other.first (one.all ∙ sym other.all) in
      one.values_are ∙ ap chained same ∙ sym other.values_are

  pub mapped_or_stopped : (xs : List ℕ) (cause : Cause) → IsMapped called ins xs → IsStopped called ins cause → ⊥
  mapped_or_stopped xs cause mapped stopped =
      no_clash mapped.outs stopped.outs stopped.node cause mapped.first (omega (arith, mapped.all, stopped.before)) stopped.singular

  pub stopped_once : (a b : Cause) → IsStopped called ins a → IsStopped called ins b → a ≡ b
  stopped_once a b one other =
      let lower : length one.outs < length other.outs → ⊥ = λ below. no_clash other.outs one.outs one.node a other.first below one.singular in
      let upper : length other.outs < length one.outs → ⊥ = λ below. no_clash one.outs other.outs other.node b one.first below other.singular in
      let many : length other.outs ≡ length one.outs = omega (arith, lower, upper) in
      let there : called (slice_index_or ins (length one.outs) []) (SingularAt other.node b) = subst (λ (n : ℕ). called (slice_index_or ins n []) (SingularAt other.node b)) many other.singular in
      let both : SingularAt one.node a ≡ SingularAt other.node b = once.once (slice_index_or ins (length one.outs) []) _ _ one.singular there in
      cc
