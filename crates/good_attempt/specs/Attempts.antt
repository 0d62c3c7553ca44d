-- The first of eight attempts whose samples are all defined.
use Rattle.std.specs.Prelude.{◌≡◌, ℕ, ◌<◌, All, List, [], ◌∷◌, length, map, take, slice_get, slice_index, Option, Some, None, ⊤}
use Rattle.graph_eval.specs.GraphValue.{Meaning, Outcome, Value, SingularAt}
use Rattle.good_attempt.specs.declared.gap.Gap.{Gap}

-- the points have these lists of values, one a point
abbrev pub AreRows : Meaning → List (List ℕ) → List (List ℕ) → Type 0
AreRows meaning [] [] = ⊤
AreRows meaning [] (row ∷ rows) = ⊥
AreRows meaning (point ∷ points) [] = ⊥
AreRows meaning (point ∷ points) (row ∷ rows) = meaning point (Value row) × AreRows meaning points rows

-- the points before this one have values, and this one has none: the gap tells its node and the cause
pub record IsFirstGap (meaning : Meaning) (points : List (List ℕ)) (gap : Gap) : Type 0 where
  pub rows : List (List ℕ)
  pub before : AreRows meaning (take gap.point points) rows
  pub point : List ℕ
  pub is_point : slice_get points gap.point ≡ Some point
  pub here : meaning point (SingularAt gap.node gap.cause)

-- an attempt, by its number, with the values at its points
pub record Taken : Type 0 where
  pub attempt : ℕ
  pub rows : List (List ℕ)

-- Every point of the attempt has values, and every attempt before it has a gap. An attempt's points are `attempts` of its
-- number.
pub record IsFirstGood (meaning : Meaning) (attempts : ℕ → List (List ℕ)) (taken : Taken) : Type 0 where
  pub within : taken.attempt < 8
  pub earlier : (r : ℕ) → r < taken.attempt → (gap : Gap) × IsFirstGap meaning (attempts r) gap
  pub rows : AreRows meaning (attempts taken.attempt) taken.rows

-- these are the first gaps of the attempts from number 0 on
abbrev pub AreFirstGaps : Meaning → (ℕ → List (List ℕ)) → List Gap → Type 0
AreFirstGaps meaning attempts gaps = (r : ℕ) (gap : Gap) → slice_get gaps r ≡ Some gap → IsFirstGap meaning (attempts r) gap

-- all eight attempts have a gap, and these are the first of each
pub record IsExhausted (meaning : Meaning) (attempts : ℕ → List (List ℕ)) (gaps : List Gap) : Type 0 where
  pub eight : length gaps ≡ 8
  pub each : AreFirstGaps meaning attempts gaps

-- what trying the attempts in turn gives
pub data Sampling : Type 0 where
  Good : (taken : Taken) → Sampling
  Exhausted : (gaps : List Gap) → Sampling

abbrev pub IsSampling : Meaning → (ℕ → List (List ℕ)) → Sampling → Type 0
IsSampling meaning attempts (Good taken) = IsFirstGood meaning attempts taken
IsSampling meaning attempts (Exhausted gaps) = IsExhausted meaning attempts gaps

-- the values of output k, counted from 0
abbrev pub column : ℕ → List (List ℕ) → List ℕ
column k rows = map (λ row. slice_index row k) rows
