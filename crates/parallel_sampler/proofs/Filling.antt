-- Rows that are filled one at a time, and block by block.
use Rattle.std.proofs.Common.{◌≡◌, ℕ, ◌+◌, ◌*◌, ◌/◌, ◌<◌, ◌≤◌, ◌≢◌, All, List, [], ◌∷◌, ◌++◌, length, get_or, set, replicate, Option, Some, None, refl, sym, ap, ◌∙◌, subst, arith, lt_of_not-le}
use Rattle.std.specs.Prelude.{map, min, vec_len}
use Rattle.std.proofs.lemmas.List.{get_or_read_under, get_or-set_same, get_or-set_other, get_or-replicate, length-replicate, length-set, map-append, map-set, replicate_more}
use Rattle.std.proofs.lemmas.List.Elements.{All-nil, All-push}
use mathlib.Core.Logic.{dite}
use native.Mathlib.Decide.{ℕ_discrete, dec_le}
use Rattle.graph_file.specs.declared.graph.Graph.{Graph}
use Rattle.graph_eval.specs.declared.learned.GraphLearned.{GraphLearned}
use Rattle.graph_eval.specs.GraphValue.{Outcome}
use Rattle.parallel_sampler.specs.declared.row.Row.{Row}
use Rattle.parallel_sampler.specs.Board.{times}
use Rattle.parallel_sampler.specs.Filled.{Filling, FillsRows, HasEnded, HasValue, IsFilledBy, IsMainValue, PutsRow, blocks_of, kept_row, point_at, row_at}
use Rattle.parallel_sampler.proofs.Counts.{hit_same, hit_other, times_push, up_times}
use Rattle.parallel_sampler.proofs.Sums.{up_le}

-- distinct numbers below n are n at most
pub few_below : (n : ℕ) (xs : List ℕ) → ((x : ℕ) → times x xs ≤ 1) → ((x : ℕ) → n ≤ x → times x xs ≡ 0) → length xs ≤ n
few_below n xs once below = omega (arith, up_times n xs below, up_le (λ x. times x xs) once n)

-- numbers of blocks, each once
pub record AreBlocks (blocks : ℕ) (drawn : List ℕ) : Type 0 where
  pub below : All (λ x. x < blocks) drawn
  pub above : (x : ℕ) → blocks ≤ x → times x drawn ≡ 0
  pub once : (x : ℕ) → times x drawn ≤ 1

pub no_blocks : (blocks : ℕ) → AreBlocks blocks []
no_blocks blocks = record { below = All-nil (λ x. x < blocks); above = λ x le. refl; once = λ x. omega arith }

-- one block more is drawn
pub blocks_more : (blocks : ℕ) (drawn : List ℕ) (block : ℕ) → AreBlocks blocks drawn → times block drawn ≡ 0 → block < blocks → AreBlocks blocks (drawn ++ block ∷ [])
blocks_more blocks drawn block are unseen less = record {
  below = All-push (λ x. x < blocks) drawn block are.below less;
  above = λ x le. omega (arith, times_push x drawn block, hit_other x block (λ same. omega arith), are.above x le);
  once = λ x. dite (ℕ_discrete block x)
      (λ same. omega (arith, times_push x drawn block, hit_same x block same, subst (λ y. times y drawn ≡ 0) same unseen))
      (λ apart. omega (arith, times_push x drawn block, hit_other x block apart, are.once x));
}

pub few_blocks : (blocks : ℕ) (drawn : List ℕ) → AreBlocks blocks drawn → length drawn ≤ blocks
few_blocks blocks drawn are = few_below blocks drawn are.once are.above

-- the draws end with a number that is no block
pub draws_end : (blocks : ℕ) (drawn : List ℕ) (number : ℕ) → AreBlocks blocks drawn → blocks ≤ number → HasEnded blocks (drawn ++ number ∷ [])
draws_end blocks drawn number are none = record { earlier = drawn; last = number; all = refl; are_blocks = are.below; no_block = none }

-- the table that is seen with these rows
abbrev pub seen_as : List (Option Outcome) → ℕ → Filling
seen_as rows room = record { rows = rows; room = room }

-- so many rows, each empty and with room for so many residues
pub record AreEmpty (count outputs : ℕ) (rows : List Row) : Type 0 where
  pub many : map kept_row rows ≡ replicate count None
  pub room : All (λ (row : Row). vec_len row.words ≡ outputs) rows

pub no_rows : (outputs : ℕ) (rows : List Row) → rows ≡ [] → AreEmpty 0 outputs rows
no_rows outputs rows none = subst (AreEmpty 0 outputs) (sym none) (record { many = refl; room = All-nil (λ (row : Row). vec_len row.words ≡ outputs) })

-- an empty row joins them
pub empty_more : (count outputs : ℕ) (rows more : List Row) (row : Row) → AreEmpty count outputs rows → kept_row row ≡ None → vec_len row.words ≡ outputs → more ≡ rows ++ row ∷ [] → AreEmpty (count + 1) outputs more
empty_more count outputs rows more row are none room is = subst (AreEmpty (count + 1) outputs) (sym is)
    (record {
      many = map-append kept_row rows (row ∷ []) ∙ ap (λ rs. rs ++ kept_row row ∷ []) are.many ∙ ap (λ r. replicate count None ++ r ∷ []) none ∙ replicate_more count None;
      room = All-push (λ (row : Row). vec_len row.words ≡ outputs) rows row are.room room;
    })

-- the table of these rows
pub empty_view : (count points outputs : ℕ) (rows : List Row) → AreEmpty count outputs rows → count ≡ points → seen_as (map kept_row rows) outputs ≡ seen_as (replicate points None) outputs
empty_view count points outputs rows are all = ap (λ rs. seen_as (rs) outputs) (are.many ∙ ap (λ n. replicate n None) all)

-- one row of the program's table is written, and so one that is seen
pub puts_row : (m : ℕ) (graphs : List Graph) (learned : List GraphLearned) (point : List ℕ) (i : ℕ) (before : Filling) (rows : List Row) (room : ℕ) (row : Row) (outcome : Outcome) → seen_as (map kept_row rows) room ≡ before
    → kept_row row ≡ Some outcome → IsMainValue m graphs learned point outcome → PutsRow m graphs learned point i before (seen_as (map kept_row (set rows i row)) room)
puts_row m graphs learned point i before rows room row outcome view kept is = record {
  outcome = outcome;
  is = is;
  put = subst (λ (b : Filling). seen_as (map kept_row (set rows i row)) room ≡ record b { rows = set b.rows i (Some outcome) }) view
      (ap (λ rs. seen_as (rs) room) (map-set kept_row rows i row ∙ ap (λ r. set (map kept_row rows) i r) kept));
}

module _ (m : ℕ) (graphs : List Graph) (learned : List GraphLearned) (points : List (List ℕ)) where
  -- no row is filled yet
  pub fills_none : (low : ℕ) (rows : List (Option Outcome)) → FillsRows m graphs learned points low low rows rows
  fills_none low rows = record { long = refl; filled = λ i le lt. absurd (omega arith); below = λ i lt. refl; above = λ i le. refl }

  -- the next row is filled
  pub fills_next : (low high : ℕ) (before after rows : List (Option Outcome)) (point : List ℕ) (outcome : Outcome) → FillsRows m graphs learned points low high before after
      → low ≤ high → high < length points → high < length after → point ≡ get_or points high point → IsMainValue m graphs learned point outcome → rows ≡ set after high (Some outcome)
      → FillsRows m graphs learned points low (high + 1) before rows
  fills_next low high before after rows point outcome so_far under within room read is set_is =
      let other : (i : ℕ) → i ≢ high → row_at rows i ≡ row_at after i = λ i apart. ap (λ rs. row_at rs i) set_is ∙ get_or-set_other after high i (Some outcome) None apart in
      let own : row_at rows high ≡ Some outcome = ap (λ rs. row_at rs high) set_is ∙ get_or-set_same after high (Some outcome) None room in
      let at : point ≡ point_at points high = get_or_read_under points high (length points) point [] read within refl in
      record {
        long = ap length set_is ∙ length-set after high (Some outcome) ∙ so_far.long;
        filled = λ i le lt. dite (ℕ_discrete i high)
            (λ same. subst (λ k. HasValue m graphs learned (point_at points k) (row_at rows k)) (sym same)
            (subst (HasValue m graphs learned (point_at points high)) (sym own) (subst (λ p. IsMainValue m graphs learned p outcome) at is)))
            (λ apart. subst (HasValue m graphs learned (point_at points i)) (sym (other i apart)) (so_far.filled i le (omega arith)));
        below = λ i lt. other i (λ same. omega arith) ∙ so_far.below i lt;
        above = λ i le. other i (λ same. omega arith) ∙ so_far.above i (omega arith);
      }

  -- nothing is drawn yet, and no row is filled
  pub filled_none : (rows : List (Option Outcome)) → rows ≡ replicate (length points) None → IsFilledBy m graphs learned points [] rows
  filled_none rows none = record {
    long = ap length none ∙ length-replicate (length points) None;
    filled = λ i lt more. absurd (omega arith);
    rest = λ i lt e. ap (λ rs. row_at rs i) none ∙ get_or-replicate (length points) i None None lt;
  }

  -- the rows of one block more are filled
  pub filled_more : (drawn : List ℕ) (block : ℕ) (before after : List (Option Outcome)) → IsFilledBy m graphs learned points drawn before
      → FillsRows m graphs learned points (block * 32) (min (block * 32 + 32) (length points)) before after → IsFilledBy m graphs learned points (drawn ++ block ∷ []) after
  filled_more drawn block before after so_far fills =
      let other : (i : ℕ) → i < length points → block ≢ i / 32 → row_at after i ≡ row_at before i = λ i lt apart. dite (dec_le (block * 32) i)
      (λ le. fills.above i (omega arith)) (λ less. fills.below i (lt_of_not-le less)) in
      record {
        long = fills.long ∙ so_far.long;
        filled = λ i lt more. dite (ℕ_discrete block (i / 32))
            (λ same. fills.filled i (omega arith) (omega arith))
            (λ apart. subst (HasValue m graphs learned (point_at points i)) (sym (other i lt apart)) (so_far.filled i lt (omega (arith, more, times_push (i / 32) drawn block, hit_other (i / 32) block apart))));
        rest = λ i lt e. dite (ℕ_discrete block (i / 32))
            (λ same. absurd (omega (arith, e, times_push (i / 32) drawn block, hit_same (i / 32) block same)))
            (λ apart. other i lt apart ∙ so_far.rest i lt (omega (arith, e, times_push (i / 32) drawn block, hit_other (i / 32) block apart)));
      }

  -- a number that is no block was drawn, and no row is filled for it
  pub filled_same : (drawn : List ℕ) (number : ℕ) (rows : List (Option Outcome)) → IsFilledBy m graphs learned points drawn rows → blocks_of (length points) ≤ number → IsFilledBy m graphs learned points (drawn ++ number ∷ []) rows
  filled_same drawn number rows so_far none =
      let same : (i : ℕ) → i < length points → times (i / 32) (drawn ++ number ∷ []) ≡ times (i / 32) drawn = λ i lt. omega (arith, times_push (i / 32) drawn number, hit_other (i / 32) number (λ e. omega arith)) in
      record {
        long = so_far.long;
        filled = λ i lt more. so_far.filled i lt (omega (arith, more, same i lt));
        rest = λ i lt e. so_far.rest i lt (omega (arith, e, same i lt));
      }
