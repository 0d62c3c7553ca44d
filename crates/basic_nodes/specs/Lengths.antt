-- The lengths of nodes' lists.
use Rattle.std.specs.Prelude.{◌≡◌, ℕ, ◌+◌, ◌-◌, ◌*◌, ◌≤◌, ◌==◌, nat_le, Bool, true, false, ◌&&◌, if◌then◌else◌, List, [], ◌∷◌, length, slice_index, sum, All, Option, Some, None}
use Rattle.std.specs.List.{list_all}
use Rattle.basic_nodes.specs.declared.lengths.NodeShape.{NodeShape}
use Rattle.basic_nodes.specs.declared.lengths.NodeShape.TheVariants.{Eval, Take, Slice, Chain, Sum, Product, Matmul, Solver, Call, Map, Laurent}

-- a position is from 1 to 262144
abbrev pub IsPosition : ℕ → Type 0
IsPosition position = (1 ≤ position) × (position ≤ 262144)

-- the numbers of a product of matrices: each is from 1 to 262144, and no matrix has more than 262144 entries
pub record IsMatmul (rows mid cols : ℕ) : Type 0 where
  pub rows_low : 1 ≤ rows
  pub mid_low : 1 ≤ mid
  pub cols_low : 1 ≤ cols
  pub left : rows * mid ≤ 262144
  pub right : mid * cols ≤ 262144
  pub result : rows * cols ≤ 262144

-- the numbers of the node are in their ranges
abbrev pub IsShape : NodeShape → Type 0
IsShape (Eval count greatest) = Unit {0}
IsShape (Take positions) = All IsPosition positions
IsShape (Slice first last) = (1 ≤ first) × (first ≤ last) × (last ≤ 262144)
IsShape Chain = Unit {0}
IsShape Sum = Unit {0}
IsShape Product = Unit {0}
IsShape (Matmul rows mid cols) = IsMatmul rows mid cols
IsShape (Solver entries wanted independent) = independent ≤ 4096
IsShape (Call inputs outputs) = inputs ≤ 262144
IsShape (Map inputs outputs) = Unit {0}
IsShape (Laurent inputs outputs orders) = inputs ≤ 262144

-- a node of this kind names this many lists
abbrev pub HasLists : NodeShape → ℕ → Type 0
HasLists (Eval count greatest) lists = lists ≡ 1
HasLists (Take positions) lists = lists ≡ length positions
HasLists (Slice first last) lists = lists ≡ 1
HasLists Chain lists = Unit {0}
HasLists Sum lists = 1 ≤ lists
HasLists Product lists = 1 ≤ lists
HasLists (Matmul rows mid cols) lists = lists ≡ 2
HasLists (Solver entries wanted independent) lists = lists ≡ 1
HasLists (Call inputs outputs) lists = Unit {0}
HasLists (Map inputs outputs) lists = Unit {0}
HasLists (Laurent inputs outputs orders) lists = Unit {0}

-- the node's own length, if the rule of its kind holds and the length is at most 262144
abbrev pub ruled : Bool → ℕ → Option ℕ
ruled holds own = if holds && nat_le own 262144 then Some own else None

-- whether each position is within the list beside it
abbrev pub are_within : List ℕ → List ℕ → Bool
are_within [] lengths = true
are_within (position ∷ positions) [] = false
are_within (position ∷ positions) (n ∷ lengths) = nat_le position n && are_within positions lengths

-- whether all lengths are the first one
abbrev pub are_equal : List ℕ → Bool
are_equal lengths = list_all (λ n. n == slice_index lengths 0) lengths

-- whether each length is this one
abbrev pub are_all : ℕ → List ℕ → Bool
are_all one lengths = list_all (λ n. n == one) lengths

-- the length of the node's list from the lengths of the lists that it names, or None where these do not fit the node
abbrev pub length_rule : NodeShape → List ℕ → Option ℕ
length_rule (Eval count greatest) lengths = ruled (nat_le greatest (slice_index lengths 0)) count
length_rule (Take positions) lengths = ruled (are_within positions lengths) (length positions)
length_rule (Slice first last) lengths = ruled (nat_le last (slice_index lengths 0)) (last + 1 - first)
length_rule Chain lengths = ruled true (sum lengths)
length_rule Sum lengths = ruled (are_equal lengths) (slice_index lengths 0)
length_rule Product lengths = ruled (are_equal lengths) (slice_index lengths 0)
length_rule (Matmul rows mid cols) lengths =
    ruled (slice_index lengths 0 == rows * mid && slice_index lengths 1 == mid * cols) (rows * cols)
length_rule (Solver entries wanted independent) lengths = ruled (slice_index lengths 0 == entries) (wanted * (independent + 1))
length_rule (Call inputs outputs) lengths = ruled (sum lengths == inputs) outputs
length_rule (Map inputs outputs) lengths = ruled (are_all inputs lengths) (length lengths * outputs)
length_rule (Laurent inputs outputs orders) lengths = ruled (sum lengths + 1 == inputs) (outputs * orders)
