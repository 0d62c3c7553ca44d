-- The expansion of a function of one variable from its values at points: the quotient of the least degree that has these
-- values, and the first coefficients of its expansion at 0.
use Rattle.std.specs.Prelude.{◌≡◌, ℕ, ℤ, zero, suc, pos, negsuc, ◌+◌, ◌-◌, ◌*◌, ◌^◌, ◌<◌, ◌≤◌, ◌≤ℤ◌, All, List, [], ◌∷◌, ◌++◌, drop, length, map, slice_index, slice_index_or}
use Rattle.prime_field.specs.Residue.{IsPrime, IsUnit}
use Rattle.thiele_interp.specs.Pairs.{IsAgreeing, IsLeastPair, IsReducedPair}
use Rattle.laurent_node.specs.Expansion.{IsExpansion, IsLeastExponent, place}
use Rattle.basic_nodes.specs.Plain.{chained}
use Rattle.graph_eval.specs.declared.expansion.Window.{Window}
use Rattle.graph_eval.specs.declared.outcome.Cause.{Cause}
use Rattle.graph_eval.specs.declared.outcome.Cause.TheVariants.{Degree, Pole}

-- the degrees and the orders are small, and there is an order
pub record IsWindow (window : Window) : Type 0 where
  pub num : window.num ≤ 64
  pub den : window.den ≤ 64
  pub lowest : negsuc 63 ≤ℤ window.lo
  pub ordered : window.lo ≤ℤ window.hi
  pub highest : window.hi ≤ℤ pos 64

abbrev pub window_of : ℤ → ℤ → ℕ → ℕ → Window
window_of lo hi num den = record { num = num; den = den; lo = lo; hi = hi }

-- how many orders there are
abbrev pub orders_of : Window → ℕ
orders_of window = place window.hi + 1 - place window.lo

-- so many numbers in a row, from the first on
abbrev pub run_from : ℕ → ℕ → List ℕ
run_from first zero = []
run_from first (suc count) = first ∷ run_from (first + 1) count

-- the points: three more than the degrees together
abbrev pub points_of : Window → List ℕ
points_of window = run_from (2 ^ 40 + 1) (window.num + window.den + 3)

-- the inputs at each point of a graph whose first variable it is, the other variables being the same at all
abbrev pub expansion_inputs : Window → List ℕ → List (List ℕ)
expansion_inputs window rest = map (λ point. point ∷ rest) (points_of window)

-- how many entries the first of some lists has
abbrev pub width_of : List (List ℕ) → ℕ
width_of lists = length (slice_index_or lists 0 [])

-- the k-th entry of each list
abbrev pub column : ℕ → List (List ℕ) → List ℕ
column k lists = map (λ list. slice_index list k) lists

-- the k-th entry of each of so many lists of one width that stand one behind the other
abbrev pub strided : List ℕ → ℕ → ℕ → ℕ → List ℕ
strided words width k zero = []
strided words width k (suc count) = slice_index words k ∷ strided (drop width words) width k count

-- among the quotients within the degrees that have these values at the points, the one whose denominator has the least
-- degree, and leading coefficient 1
pub record IsQuotient (m : ℕ) (window : Window) (values num den : List ℕ) : Type 0 where
  pub least : IsLeastPair m (length (points_of window)) (slice_index (points_of window)) (slice_index values) window.num window.den num den
  pub reduced : IsReducedPair m num den

-- the coefficients at the orders of the expansion of the quotient that has these values at the points; the first
-- coefficient of its denominator is a unit, as it is at each prime modulus
pub record IsExpandedFrom (m : ℕ) (window : Window) (values coefficients : List ℕ) : Type 0 where
  pub num : List ℕ
  pub den : List ℕ
  pub quotient : IsQuotient m window values num den
  pub least : ℕ
  pub exponent : IsLeastExponent least den
  pub unit : IsUnit m (slice_index den least)
  pub many : length coefficients ≡ orders_of window
  pub expansion : IsExpansion m num den least (place window.lo) coefficients

-- a quotient has these values at the points, and its expansion has a coefficient other than 0 below the orders
pub record HasPole (m : ℕ) (window : Window) (values : List ℕ) : Type 0 where
  pub num : List ℕ
  pub den : List ℕ
  pub quotient : IsQuotient m window values num den
  pub least : ℕ
  pub exponent : IsLeastExponent least den
  pub none : (coefficients : List ℕ) → length coefficients ≡ orders_of window → IsExpansion m num den least (place window.lo) coefficients → ⊥

-- no quotient within the degrees has these values at the points
abbrev pub HasNoQuotient : ℕ → Window → List ℕ → Type 0
HasNoQuotient m window values = (num den : List ℕ) → IsAgreeing m (length (points_of window)) (slice_index (points_of window)) (slice_index values) window.num window.den num den → ⊥

-- these values at the points have no expansion at the orders, for this cause
abbrev pub FailsToExpand : ℕ → Window → List ℕ → Cause → Type 0
FailsToExpand m window values Degree = HasNoQuotient m window values
FailsToExpand m window values Pole = HasPole m window values
FailsToExpand m window values cause = ⊥

-- the expansion of the quotient that has these values at the points stands behind the words that were there
pub record IsExpansionAdded (m : ℕ) (window : Window) (values old new : List ℕ) : Type 0 where
  pub coefficients : List ℕ
  pub words : new ≡ old ++ coefficients
  pub expanded : IsPrime m → IsExpandedFrom m window values coefficients
  pub low : All (λ x. x < m) coefficients
  pub long : length coefficients ≡ orders_of window

-- the expansions from the first so many columns of lists of one width stand behind the words that were there
pub record AreExpansionsAdded (m : ℕ) (window : Window) (values : List ℕ) (width count : ℕ) (old new : List ℕ) : Type 0 where
  pub lists : List (List ℕ)
  pub many : length lists ≡ count
  pub words : new ≡ old ++ chained lists
  pub each : IsPrime m → (k : ℕ) → k < length lists → IsExpandedFrom m window (strided values width k (length (points_of window))) (slice_index_or lists k [])
  pub low : All (All (λ x. x < m)) lists
  pub long : length (chained lists) ≡ count * orders_of window

-- there are expansions from the first columns, but none from the next, for this cause
pub record AreNotExpanded (m : ℕ) (window : Window) (values : List ℕ) (width : ℕ) (cause : Cause) : Type 0 where
  pub lists : List (List ℕ)
  pub each : (k : ℕ) → k < length lists → IsExpandedFrom m window (strided values width k (length (points_of window))) (slice_index_or lists k [])
  pub before : length lists < width
  pub fails : FailsToExpand m window (strided values width (length lists) (length (points_of window))) cause
