-- What the rows of an attempt say of it.
use Rattle.std.proofs.Common.{◌≡◌, ℕ, zero, suc, ◌<◌, All, List, [], ◌∷◌, ◌++◌, length, map, take, get_or, Option, Some, None, refl, sym, ◌∙◌, ap, subst, arith, inl, inr}
use Rattle.std.specs.Prelude.{slice_get, ◌⊎◌}
use Rattle.std.proofs.lemmas.List.Elements.{All-head, All-map, All-tail}
use Rattle.std.proofs.lemmas.Option.{get_or_from_slice_get, same_Some, slice_get_within}
use Rattle.graph_file.specs.declared.graph.Graph.{Graph}
use Rattle.graph_eval.specs.declared.outcome.Cause.{Cause}
use Rattle.graph_eval.specs.GraphValue.{Meaning, Outcome, Value, SingularAt}
use Rattle.graph_eval.proofs.Places.{stands}
use Rattle.parallel_sampler.specs.Rows.{AreOutcomes, FitsRow}
use Rattle.good_attempt.specs.declared.gap.Gap.{Gap}
use Rattle.good_attempt.specs.Attempts.{AreFirstGaps, AreRows, IsFirstGap, IsFirstGood, Taken}
use Rattle.good_attempt.specs.Kept.{IsDefined, IsGapIn, values_of}
use Rattle.good_attempt.specs.Tried.{FitsGap, HasResidues}

-- rows that all have values are these values
defined_rows : (meaning : Meaning) (points : List (List ℕ)) (rows : List Outcome) → AreOutcomes meaning points rows → All IsDefined rows → AreRows meaning points (map values_of rows)
defined_rows meaning [] [] are defined = tt
defined_rows meaning [] (r ∷ rs) are defined = absurd are
defined_rows meaning (p ∷ ps) [] are defined = absurd are
defined_rows meaning (p ∷ ps) (Value values ∷ rs) are defined = (are.0, defined_rows meaning ps rs are.1 (All-tail IsDefined (Value values) rs defined))
defined_rows meaning (p ∷ ps) (SingularAt node cause ∷ rs) are defined = absurd (All-head IsDefined (SingularAt node cause) rs defined)

first_rows : (meaning : Meaning) (points : List (List ℕ)) (rows : List Outcome) (n : ℕ) → AreOutcomes meaning points rows → AreOutcomes meaning (take n points) (take n rows)
first_rows meaning points rows zero are = tt
first_rows meaning [] [] (suc n) are = tt
first_rows meaning [] (r ∷ rs) (suc n) are = absurd are
first_rows meaning (p ∷ ps) [] (suc n) are = absurd are
first_rows meaning (p ∷ ps) (r ∷ rs) (suc n) are = (are.0, first_rows meaning ps rs n are.1)

-- a row is what its point has
row_at : (meaning : Meaning) (points : List (List ℕ)) (rows : List Outcome) (i : ℕ) (row : Outcome) → AreOutcomes meaning points rows → slice_get rows i ≡ Some row → (point : List ℕ) × (slice_get points i ≡ Some point) × meaning point row
row_at meaning points [] i row are at = absurd (omega (arith, slice_get_within [] i row at))
row_at meaning [] (r ∷ rs) i row are at = absurd are
row_at meaning (p ∷ ps) (r ∷ rs) zero row are at = (p, refl, subst (meaning p) (same_Some r row at) are.0)
row_at meaning (p ∷ ps) (r ∷ rs) (suc i) row are at = row_at meaning ps rs i row are.1 at

-- the gap in the rows is that of the points
pub first_gap_of : (meaning : Meaning) (points : List (List ℕ)) (rows : List Outcome) (gap : Gap) → AreOutcomes meaning points rows → IsGapIn rows gap → IsFirstGap meaning points gap
first_gap_of meaning points rows gap are is =
    let here = row_at meaning points rows gap.point (SingularAt gap.node gap.cause) are is.here in
    record {
      rows = map values_of (take gap.point rows);
      before = defined_rows meaning (take gap.point points) (take gap.point rows) (first_rows meaning points rows gap.point are) is.before;
      point = here.0;
      is_point = here.1;
      here = here.2;
    }

-- what stands in a list with one entry more stood there before or is the entry
end_or_before : {X : Type 0} (xs : List X) (added x : X) (k : ℕ) → slice_get (xs ++ added ∷ []) k ≡ Some x → (slice_get xs k ≡ Some x) ⊎ ((k ≡ length xs) × (added ≡ x))
end_or_before [] added x zero at = inr (refl, same_Some added x at)
end_or_before [] added x (suc k) at = absurd (omega (arith, slice_get_within (added ∷ []) (suc k) x at))
end_or_before (y ∷ xs) added x zero at = inl at
end_or_before (y ∷ xs) added x (suc k) at = elim (end_or_before xs added x k at) [ inl here ↦ inl here | inr last ↦ inr (ap suc last.0, last.1) ]

pub no_gaps : (meaning : Meaning) (attempts : ℕ → List (List ℕ)) → AreFirstGaps meaning attempts []
no_gaps meaning attempts r gap at = absurd (omega (arith, slice_get_within [] r gap at))

-- the gap of the next attempt joins the gaps
pub gaps_more : (meaning : Meaning) (attempts : ℕ → List (List ℕ)) (gaps : List Gap) (gap : Gap) (r : ℕ) → AreFirstGaps meaning attempts gaps → length gaps ≡ r → IsFirstGap meaning (attempts r) gap → AreFirstGaps meaning attempts (gaps ++ gap ∷ [])
gaps_more meaning attempts gaps gap r so_far many is k other at =
    elim (end_or_before gaps gap other k at) [
      | inl here ↦ so_far k other here
      | inr last ↦ subst (λ (n : ℕ). IsFirstGap meaning (attempts n) other) (sym (last.0 ∙ many)) (subst (IsFirstGap meaning (attempts r)) last.1 is)
    ]

-- an attempt whose rows all have values is the first good one, where each before it has a gap
pub good_of : (meaning : Meaning) (attempts : ℕ → List (List ℕ)) (gaps : List Gap) (points : List (List ℕ)) (rows : List Outcome) (r : ℕ) (taken : Taken) → AreFirstGaps meaning attempts gaps → length gaps ≡ r → r < 8 → points ≡ attempts r
    → AreOutcomes meaning points rows → All IsDefined rows → taken.attempt ≡ r → taken.rows ≡ map values_of rows → IsFirstGood meaning attempts taken
good_of meaning attempts gaps points rows r taken so_far many low points_are are defined number values = record {
  within = omega arith;
  earlier = λ q less. let gap = stands gaps q (omega arith) in (gap.0, so_far q gap.0 gap.1);
  rows =
      let own : AreRows meaning (attempts r) (map values_of rows) = subst (λ (ps : List (List ℕ)). AreRows meaning ps (map values_of rows)) points_are (defined_rows meaning points rows are defined) in
      subst (λ (n : ℕ). AreRows meaning (attempts n) taken.rows) (sym number) (subst (AreRows meaning (attempts r)) (sym values) own);
}

fits_values : (m : ℕ) (graph : Option Graph) (outputs : ℕ) (row : Outcome) → FitsRow m graph outputs row → IsDefined row → (length (values_of row) ≡ outputs) × All (λ x. x < m) (values_of row)
fits_values m None outputs row fits defined = absurd fits
fits_values m (Some graph) outputs (Value values) fits defined = fits
fits_values m (Some graph) outputs (SingularAt node cause) fits defined = absurd defined

-- rows that all have values are lists of residues
pub fits_rows : (m : ℕ) (graph : Option Graph) (outputs : ℕ) (rows : List Outcome) → All (FitsRow m graph outputs) rows → All IsDefined rows → HasResidues m outputs (map values_of rows)
fits_rows m graph outputs rows fits defined =
    All-map (λ row. (length row ≡ outputs) × All (λ x. x < m) row) values_of rows (λ k d below. fits_values m graph outputs (get_or rows k d) (fits k d below) (defined k d below))

fits_at : (m : ℕ) (graph : Option Graph) (outputs points : ℕ) (gap : Gap) → gap.point < points → FitsRow m graph outputs (SingularAt gap.node gap.cause) → FitsGap graph points gap
fits_at m None outputs points gap below fits = absurd fits
fits_at m (Some graph) outputs points gap below fits = (below, fits)

-- the gap of rows is at one of the points, and tells a needed node
pub fits_gap : (m : ℕ) (graph : Option Graph) (outputs points : ℕ) (rows : List Outcome) (gap : Gap) → All (FitsRow m graph outputs) rows → length rows ≡ points → IsGapIn rows gap → FitsGap graph points gap
fits_gap m graph outputs points rows gap fits many is =
    let told = SingularAt gap.node gap.cause in
    let within : gap.point < length rows = slice_get_within rows gap.point told is.here in
    fits_at m graph outputs points gap (omega arith) (subst (FitsRow m graph outputs) (get_or_from_slice_get rows gap.point told told is.here) (fits gap.point told within))
