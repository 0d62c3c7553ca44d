-- Workers, each with a seat at one board and a table of its own while it works.
use Rattle.std.specs.Prelude.{◌≡◌, ℕ, ◌+◌, List, [], ◌++◌, length, map, replicate, None, IsSomeAnd}
use Rattle.atomic_table.specs.Seated.{TableId}
use Rattle.graph_file.specs.declared.graph.Graph.{Graph}
use Rattle.graph_eval.specs.declared.learned.GraphLearned.{GraphLearned}
use Rattle.graph_eval.specs.declared.worker.Worker.{Worker}
use Rattle.graph_eval.specs.Learned.{outputs_of}
use Rattle.graph_eval.specs.Made.{IsMadeFor}
use Rattle.parallel_sampler.specs.declared.crew.Hand.{Hand}
use Rattle.parallel_sampler.specs.declared.crew.Post.{Post}
use Rattle.parallel_sampler.specs.Board.{Sitting}
use Rattle.parallel_sampler.specs.Filled.{Filling, HasEnded, IsFilledBy, TakesRows, blocks_of}

abbrev pub workers_of : List Hand → List Worker
workers_of hands = map (λ hand. hand.worker) hands

-- the worker is made for the job, whatever its post
abbrev pub IsHeld : List Graph → List GraphLearned → Hand → Type 0
IsHeld graphs learned hand = IsMadeFor graphs learned hand.worker

-- the seat may draw as many numbers as there are blocks of so many points, and one more; it has drawn none, and all rows are empty
pub record IsFresh (outputs points : ℕ) (board : TableId) (post : Post) : Type 0 where
  pub at_board : post.seat.board ≡ board
  pub drawn : post.seat.drawn ≡ []
  pub left : post.seat.left ≡ blocks_of points + 1
  pub rows : post.table.rows ≡ replicate points None
  pub room : post.table.room ≡ outputs

-- the worker has such a post
abbrev pub IsPosted : ℕ → ℕ → TableId → Hand → Type 0
IsPosted outputs points board hand = IsSomeAnd hand.post (IsFresh outputs points board)

-- the worker may begin to work at points of the job
pub record IsReady (graphs : List Graph) (learned : List GraphLearned) (points : ℕ) (board : TableId) (hand : Hand) : Type 0 where
  pub made : IsMadeFor graphs learned hand.worker
  pub post : IsPosted (outputs_of learned) points board hand

-- the seat has drawn until it came upon a number that is no block, and the rows of the blocks that it drew are filled, and no others
pub record HasWorked (m : ℕ) (graphs : List Graph) (learned : List GraphLearned) (points : List (List ℕ)) (board : TableId) (post : Post) : Type 0 where
  pub at_board : post.seat.board ≡ board
  pub ended : HasEnded (blocks_of (length points)) post.seat.drawn
  pub left : post.seat.left + length post.seat.drawn ≡ blocks_of (length points) + 1
  pub rows : IsFilledBy m graphs learned points post.seat.drawn post.table.rows
  pub room : post.table.room ≡ outputs_of learned

-- the worker has done its work
pub record IsDone (m : ℕ) (graphs : List Graph) (learned : List GraphLearned) (points : List (List ℕ)) (board : TableId) (hand : Hand) : Type 0 where
  pub made : IsMadeFor graphs learned hand.worker
  pub post : IsSomeAnd hand.post (HasWorked m graphs learned points board)

-- the seats are of one board, and the tables have as many rows and the same room
pub record CanSettle (board : TableId) (whole : Filling) (post : Post) : Type 0 where
  pub at_board : post.seat.board ≡ board
  pub long : length post.table.rows ≡ length whole.rows
  pub room : post.table.room ≡ whole.room

-- a seat takes over what the post's seat has left and what it drew, and a table its rows that are not empty
pub record Settles (before after : Sitting) (whole filled : Filling) (post : Post) : Type 0 where
  pub seat : after ≡ record before { left = before.left + post.seat.left; drawn = before.drawn ++ post.seat.drawn }
  pub rows : TakesRows post.table.rows whole.rows filled.rows
  pub room : filled.room ≡ whole.room
