-- Trying attempts gives one answer at most, where the meaning has one outcome at most at a point.
use Rattle.std.proofs.Common.{◌≡◌, ℕ, zero, suc, ◌<◌, List, [], ◌∷◌, length, take, get_or, Some, refl, sym, ◌∙◌, ap, subst, arith}
use Rattle.std.specs.Prelude.{slice_get}
use Rattle.std.proofs.Math.Seq.{take-length}
use Rattle.std.proofs.lemmas.List.{same_lists}
use Rattle.std.proofs.lemmas.Option.{same_Some, slice_get-get_or, slice_get_within}
use Rattle.graph_eval.specs.declared.outcome.Cause.{Cause}
use Rattle.graph_eval.specs.GraphValue.{Meaning, Outcome, Value, SingularAt}
use Rattle.graph_eval.proofs.Places.{stands}
use Rattle.good_attempt.specs.declared.gap.Gap.{Gap}
use Rattle.good_attempt.specs.Attempts.{AreRows, Exhausted, Good, IsExhausted, IsFirstGap, IsFirstGood, IsSampling, Sampling, Taken}

same_values : (xs ys : List ℕ) → Value xs ≡ Value ys → xs ≡ ys
same_values xs ys same = cc

no_value : (xs : List ℕ) (node : ℕ) (cause : Cause) → Value xs ≡ SingularAt node cause → ⊥
no_value xs node cause same = cc

same_node : (n k : ℕ) (a b : Cause) → SingularAt n a ≡ SingularAt k b → n ≡ k
same_node n k a b same = cc

same_cause : (n k : ℕ) (a b : Cause) → SingularAt n a ≡ SingularAt k b → a ≡ b
same_cause n k a b same = cc

same_gap : (a b : Gap) → a.point ≡ b.point → a.node ≡ b.node → a.cause ≡ b.cause → a ≡ b
same_gap a b point node cause =
    let first : a ≡ record { point = b.point; node = a.node; cause = a.cause } = ap (λ (p : ℕ). record { point = p; node = a.node; cause = a.cause }) point in
    let second : ◌≡◌ {A = Gap} (record { point = b.point; node = a.node; cause = a.cause }) (record { point = b.point; node = b.node; cause = a.cause }) = ap (λ (n : ℕ). record { point = b.point; node = n; cause = a.cause }) node in
    let third : record { point = b.point; node = b.node; cause = a.cause } ≡ b = ap (λ (c : Cause). record { point = b.point; node = b.node; cause = c }) cause in
    first ∙ second ∙ third

same_taken : (a b : Taken) → a.attempt ≡ b.attempt → a.rows ≡ b.rows → a ≡ b
same_taken a b attempt rows =
    let first : a ≡ record { attempt = b.attempt; rows = a.rows } = ap (λ (n : ℕ). record { attempt = n; rows = a.rows }) attempt in
    let second : record { attempt = b.attempt; rows = a.rows } ≡ b = ap (λ (rs : List (List ℕ)). record { attempt = b.attempt; rows = rs }) rows in
    first ∙ second

module _ (meaning : Meaning) (once : (point : List ℕ) (o p : Outcome) → meaning point o → meaning point p → o ≡ p) where
  rows_once : (points a b : List (List ℕ)) → AreRows meaning points a → AreRows meaning points b → a ≡ b
  rows_once [] [] [] first second = refl
  rows_once [] [] (r ∷ rs) first second = absurd second
  rows_once [] (r ∷ rs) b first second = absurd first
  rows_once (p ∷ ps) [] b first second = absurd first
  rows_once (p ∷ ps) (r ∷ rs) [] first second = absurd second
  rows_once (p ∷ ps) (r ∷ rs) (s ∷ ss) first second =
      ap (λ x. x ∷ rs) (same_values r s (once p (Value r) (Value s) first.0 second.0)) ∙ ap (λ xs. s ∷ xs) (rows_once ps rs ss first.1 second.1)

  -- among the first points, which all have values, none is without them
  rows_clash : (points rows : List (List ℕ)) (n i : ℕ) (point : List ℕ) (node : ℕ) (cause : Cause) → AreRows meaning (take n points) rows → i < n → slice_get points i ≡ Some point → meaning point (SingularAt node cause) → ⊥
  rows_clash [] rows n i point node cause are below at here = absurd (omega (arith, slice_get_within [] i point at))
  rows_clash (p ∷ ps) rows zero i point node cause are below at here = absurd (omega arith)
  rows_clash (p ∷ ps) [] (suc n) i point node cause are below at here = absurd are
  rows_clash (p ∷ ps) (r ∷ rs) (suc n) zero point node cause are below at here =
      no_value r node cause (once p (Value r) (SingularAt node cause) are.0 (subst (λ (x : List ℕ). meaning x (SingularAt node cause)) (sym (same_Some p point at)) here))
  rows_clash (p ∷ ps) (r ∷ rs) (suc n) (suc i) point node cause are below at here = rows_clash ps rs n i point node cause are.1 (omega arith) at here

  -- where every point has values there is no gap
  rows_or_gap : (points rows : List (List ℕ)) (gap : Gap) → AreRows meaning points rows → IsFirstGap meaning points gap → ⊥
  rows_or_gap points rows gap are is =
      rows_clash points rows (length points) gap.point is.point gap.node gap.cause (subst (λ (ps : List (List ℕ)). AreRows meaning ps rows) (sym (take-length points)) are) (slice_get_within points gap.point is.point is.is_point) is.is_point is.here

  gap_once : (points : List (List ℕ)) (a b : Gap) → IsFirstGap meaning points a → IsFirstGap meaning points b → a ≡ b
  gap_once points a b first second =
      let lower : a.point < b.point → ⊥ = λ less. rows_clash points second.rows b.point a.point first.point a.node a.cause second.before less first.is_point first.here in
      let upper : b.point < a.point → ⊥ = λ less. rows_clash points first.rows a.point b.point second.point b.node b.cause first.before less second.is_point second.here in
      let place : a.point ≡ b.point = omega (arith, lower, upper) in
      let point : first.point ≡ second.point = same_Some first.point second.point (sym first.is_point ∙ ap (slice_get points) place ∙ second.is_point) in
      let same = once second.point (SingularAt a.node a.cause) (SingularAt b.node b.cause) (subst (λ (x : List ℕ). meaning x (SingularAt a.node a.cause)) point first.here) second.here in
      same_gap a b place (same_node a.node b.node a.cause b.cause same) (same_cause a.node b.node a.cause b.cause same)

  module _ (attempts : ℕ → List (List ℕ)) where
    not_earlier : (a b : Taken) → IsFirstGood meaning attempts a → IsFirstGood meaning attempts b → a.attempt < b.attempt → ⊥
    not_earlier a b first second less = let gap = second.earlier a.attempt less in rows_or_gap (attempts a.attempt) a.rows gap.0 first.rows gap.1

    good_once : (a b : Taken) → IsFirstGood meaning attempts a → IsFirstGood meaning attempts b → a ≡ b
    good_once a b first second =
        let lower : a.attempt < b.attempt → ⊥ = not_earlier a b first second in
        let upper : b.attempt < a.attempt → ⊥ = not_earlier b a second first in
        let number : a.attempt ≡ b.attempt = omega (arith, lower, upper) in
        same_taken a b number (rows_once (attempts b.attempt) a.rows b.rows (subst (λ (n : ℕ). AreRows meaning (attempts n) a.rows) number first.rows) second.rows)

    exhausted_once : (a b : List Gap) → IsExhausted meaning attempts a → IsExhausted meaning attempts b → a ≡ b
    exhausted_once a b first second =
        same_lists a b (first.eight ∙ sym second.eight) (λ k d below.
        gap_once (attempts k) (get_or a k d) (get_or b k d) (first.each k (get_or a k d) (slice_get-get_or a k d below)) (second.each k (get_or b k d) (slice_get-get_or b k d (omega (arith, first.eight, second.eight)))))

    pub good_or_exhausted : (taken : Taken) (gaps : List Gap) → IsFirstGood meaning attempts taken → IsExhausted meaning attempts gaps → ⊥
    good_or_exhausted taken gaps good exhausted =
        let gap = stands gaps taken.attempt (omega (arith, good.within, exhausted.eight)) in
        rows_or_gap (attempts taken.attempt) taken.rows gap.0 good.rows (exhausted.each taken.attempt gap.0 gap.1)

    pub sampling_once : (one other : Sampling) → IsSampling meaning attempts one → IsSampling meaning attempts other → one ≡ other
    sampling_once (Good a) (Good b) first second = ap Good (good_once a b first second)
    sampling_once (Good a) (Exhausted b) first second = absurd (good_or_exhausted a b first second)
    sampling_once (Exhausted a) (Good b) first second = absurd (good_or_exhausted b a second first)
    sampling_once (Exhausted a) (Exhausted b) first second = ap Exhausted (exhausted_once a b first second)
