-- The rule of a board of numbered work. Its word counts the numbers that were drawn. Each seat has a view: the board's quota, how many numbers it may still draw, and those that it has drawn.
-- Making the board, drawing a number, splitting a seat, joining two seats and the last read are the steps that there are.
use Rattle.std.specs.Prelude.{◌≡◌, ℕ, ◌+◌, ◌-◌, ◌<◌, ◌≤◌, true, false, nat_eq, List, [], ◌∷◌, ◌++◌, length, sum_by, count_by, refl}
use Rattle.std.specs.Coded.{Coded, code_by, coded×, coded_ℕ, coded_list}
use mathlib.Core.Option.{some}
use lib.ListN.{get_elem?}
use Rattle.atomic_table.specs.Seated.{TableId, table_id_coded}
use Rattle.atomic_table.specs.Table.{State, Me, Step}
use Rattle.parallel_sampler.specs.declared.board.view.View.{View}

-- a seat as contracts see it: the board, how many numbers it has in all, how many of them the seat may still draw, and those that it has drawn
pub record Sitting : Type 0 where
  pub board : TableId
  pub quota : ℕ
  pub left : ℕ
  pub drawn : List ℕ

-- a seat is stored as the tuple of its fields
abbrev pub sitting_coded : Coded Sitting
sitting_coded =
    code_by (TableId × (ℕ × (ℕ × List ℕ))) (coded× table_id_coded (coded× coded_ℕ (coded× coded_ℕ (coded_list coded_ℕ)))) (λ s. (s.board, (s.quota, (s.left, s.drawn))))
    (λ p. record { board = p.0; quota = p.1.0; left = p.1.1.0; drawn = p.1.1.1 }) (λ _. refl)

-- how often a number stands in a list
abbrev pub times : ℕ → List ℕ → ℕ
times x xs = count_by (λ y. nat_eq y x) xs

-- each number below n once, and nothing else
abbrev pub HasEachBelow : ℕ → List ℕ → Type 0
HasEachBelow n xs = ((x : ℕ) → x < n → times x xs ≡ 1) × ((x : ℕ) → n ≤ x → times x xs ≡ 0)

-- a seat that has drawn nothing
abbrev pub fresh : ℕ → ℕ → View
fresh quota left = record { quota = quota; left = left; drawn = []; spent = false }

-- what a seat is left with that another took over
abbrev pub spent : View
spent = record { quota = 0; left = 0; drawn = []; spent = true }

abbrev pub lessened : View → ℕ → View
lessened v give = record v { left = v.left - give }

abbrev pub drew : View → ℕ → View
drew v x = record v { left = v.left - 1; drawn = v.drawn ++ x ∷ [] }

abbrev pub joined : View → View → View
joined v w = record v { left = v.left + w.left; drawn = v.drawn ++ w.drawn }

-- how often a number was drawn, over all seats
abbrev pub draws_of : ℕ → List View → ℕ
draws_of x views = sum_by (λ (v : View). times x v.drawn) views

-- the word is the number of all drawn numbers, these are distinct and below the word, the word and all that is left add up to the quota, and each view that is not spent has this quota
pub record IsOrderly (quota word : ℕ) (views : List View) : Type 0 where
  pub counted : sum_by (λ (v : View). length v.drawn) views ≡ word
  pub distinct : (x : ℕ) → draws_of x views ≤ 1
  pub below : (x : ℕ) → word ≤ x → draws_of x views ≡ 0
  pub dealt : word + sum_by (λ (v : View). v.left) views ≡ quota
  pub quotas : (id : ℕ) (v : View) → get_elem? views id ≡ some v → v.spent ≡ false → v.quota ≡ quota

module _ {S : Type 0} where
  -- the table has one word
  abbrev pub IsKept : ℕ → State S View → Type 0
  IsKept quota s = (word : ℕ) × (s.words ≡ word ∷ []) × IsOrderly quota word s.views

  -- a draw tells a number below the quota that the seat has not drawn before, and the seat has it from then on
  abbrev pub DrawsNumber : Step S → Me S View → ℕ → Me S View → Type 0
  DrawsNumber s me x after = (x < me.0.quota) × (times x me.0.drawn ≡ 0) × (after ≡ (drew me.0 x, me.1))

-- one draw: which seat, by the place of its view, and which number
pub record Turn : Type 0 where
  pub seat : ℕ
  pub number : ℕ

-- the turns are all draws of the seats, in the order of their numbers: 0, 1, 2 and so on up to the word. Each turn is a draw of its seat, and each number that a seat drew has its turn, which is this seat's
pub record IsSchedule (word : ℕ) (views : List View) (turns : List Turn) : Type 0 where
  pub long : length turns ≡ word
  pub in_turn : (k : ℕ) (turn : Turn) → get_elem? turns k ≡ some turn → turn.number ≡ k
  pub drawn : (k : ℕ) (turn : Turn) → get_elem? turns k ≡ some turn → (v : View) × (get_elem? views turn.seat ≡ some v) × (times turn.number v.drawn ≡ 1)
  pub all : (id x : ℕ) (v : View) → get_elem? views id ≡ some v → 0 < times x v.drawn → get_elem? turns x ≡ some record { seat = id; number = x }
