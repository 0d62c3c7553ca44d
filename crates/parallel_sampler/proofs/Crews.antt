-- Workers that get their posts, work and settle.
use Rattle.std.proofs.Common.{◌≡◌, ℕ, zero, suc, ◌+◌, ◌-◌, ◌*◌, ◌/◌, ◌<◌, ◌≤◌, All, List, [], ◌∷◌, ◌++◌, length, get_or, set, replicate, Option, Some, None, refl, sym, ap, ◌∙◌, subst, arith, length-append, lt_of_not-le, suc-mul}
use Rattle.std.specs.Prelude.{IsSome, IsSomeAnd, map}
use Rattle.std.specs.List.{AllWithin}
use Rattle.std.proofs.lemmas.List.{get_or_default, get_or-map, get_or-set_same, get_or-set_other, length-map, length-set}
use Rattle.std.proofs.lemmas.List.Elements.{All-set}
use Rattle.std.proofs.lemmas.List.Sums.{sum_by-append}
use mathlib.Core.Logic.{dite}
use native.Mathlib.Decide.{ℕ_discrete, dec_le}
use Rattle.atomic_table.specs.Seated.{TableId}
use Rattle.prime_field.specs.Residue.{IsPrime}
use Rattle.graph_file.specs.declared.graph.Graph.{Graph}
use Rattle.graph_eval.specs.declared.learned.GraphLearned.{GraphLearned}
use Rattle.graph_eval.specs.GraphValue.{GraphValue, Outcome, main_number}
use Rattle.graph_eval.specs.Learned.{outputs_of, sets_of}
use Rattle.graph_eval.specs.Made.{IsMadeFor}
use Rattle.std.specs.Prelude.{slice_get}
use Rattle.parallel_sampler.specs.declared.crew.Hand.{Hand}
use Rattle.parallel_sampler.specs.declared.crew.Post.{Post}
use Rattle.parallel_sampler.specs.Board.{Sitting, HasEachBelow, times}
use Rattle.parallel_sampler.specs.Filled.{Filling, HasEnded, HasValue, IsFilledBy, TakesRows, blocks_of, point_at, row_at, taken}
use Rattle.parallel_sampler.specs.Hands.{CanSettle, IsDone, IsHeld, IsPosted, IsReady, Settles, workers_of}
use Rattle.parallel_sampler.specs.Rows.{AreOutcomes, FitsRow}
use Rattle.parallel_sampler.proofs.Counts.{hit, hit_same, times_push}
use Rattle.parallel_sampler.proofs.Filling.{filled_none}

-- the workers are the same where one has another post
pub workers_set : (hands : List Hand) (i : ℕ) (hand d : Hand) → i < length hands → hand.worker ≡ (get_or hands i d).worker → workers_of (set hands i hand) ≡ workers_of hands
workers_set [] i hand d lt same = absurd (omega arith)
workers_set (h ∷ hands) zero hand d lt same = ap (λ w. w ∷ workers_of hands) same
workers_set (h ∷ hands) (suc i) hand d lt same = ap (λ ws. h.worker ∷ ws) (workers_set hands i hand d (omega arith) same)

-- what is left for all others when one more has its draws
pub draws_fewer : (hands : List Hand) (i : ℕ) (hand : Hand) (each : ℕ) → i < length hands → (length hands - i) * each - each ≡ (length (set hands i hand) - (i + 1)) * each
draws_fewer hands i hand each lt =
    let rest = length hands - (i + 1) in
    let more : length hands - i ≡ suc rest = omega arith in
    omega (arith, ap (λ n. n * each) more, suc-mul rest each, ap (λ n. (n - (i + 1)) * each) (length-set hands i hand))

pub posted_more : (outputs points : ℕ) (board : TableId) (hands : List Hand) (i : ℕ) (hand : Hand) → i < length hands → IsPosted outputs points board hand
    → AllWithin (IsPosted outputs points board) hands 0 i → AllWithin (IsPosted outputs points board) (set hands i hand) 0 (i + 1)
posted_more outputs points board hands i hand within posted so_far k d low lt = dite (ℕ_discrete k i)
    (λ same. subst (IsPosted outputs points board) (sym (ap (λ j. get_or (set hands i hand) j d) same ∙ get_or-set_same hands i hand d within)) posted)
    (λ apart. subst (IsPosted outputs points board) (sym (get_or-set_other hands i k hand d apart)) (so_far k d low (omega arith)))

-- workers that are made for a job and have their posts are ready
pub all_ready : (graphs : List Graph) (learned : List GraphLearned) (outputs points : ℕ) (board : TableId) (hands : List Hand) → outputs ≡ outputs_of learned → All (IsMadeFor graphs learned) (workers_of hands)
    → All (IsPosted outputs points board) hands → All (IsReady graphs learned points board) hands
all_ready graphs learned outputs points board hands same made posted k d lt = record {
  made = subst (IsMadeFor graphs learned) (get_or-map (λ (hand : Hand). hand.worker) hands k d d.worker lt) (made k d.worker (omega (arith, length-map hands (λ (hand : Hand). hand.worker))));
  post = subst (λ n. IsPosted n points board (get_or hands k d)) same (posted k d lt);
}

-- some number was drawn that is no block
abbrev pub Reaches : ℕ → List ℕ → Type 0
Reaches blocks drawn = (x : ℕ) × (blocks ≤ x) × (0 < times x drawn)

times-append : (x : ℕ) (xs ys : List ℕ) → times x (xs ++ ys) ≡ times x xs + times x ys
times-append x xs ys = sum_by-append (λ z. hit x z) xs ys

ended_reaches : (blocks : ℕ) (before drawn : List ℕ) → HasEnded blocks drawn → Reaches blocks (before ++ drawn)
ended_reaches blocks before drawn ended = (
  ended.last,
  ended.no_block,
  subst (λ xs. 0 < times ended.last (before ++ xs)) (sym ended.all) (omega (arith, times-append ended.last before (ended.earlier ++ ended.last ∷ []), times_push ended.last ended.earlier ended.last, hit_same ended.last ended.last refl)),
)

both_posts : {P Q : Post → Type 0} (post : Option Post) → IsSomeAnd post P → IsSomeAnd post Q → (p : Post) × P p × Q p
both_posts None has also = absurd has
both_posts (Some p) has also = (p, has, also)

post_weaker : {P Q : Post → Type 0} (post : Option Post) → ((p : Post) → P p → Q p) → IsSomeAnd post P → IsSomeAnd post Q
post_weaker None so has = has
post_weaker (Some p) so has = so p has

module _ (m : ℕ) (graphs : List Graph) (learned : List GraphLearned) (points : List (List ℕ)) where
  pick_row : (point : List ℕ) (mine row : Option Outcome) → HasValue m graphs learned point row → HasValue m graphs learned point (taken mine row)
  pick_row point mine None has = absurd has
  pick_row point mine (Some outcome) has = has

  is_kept : (point : List ℕ) (row : Option Outcome) → HasValue m graphs learned point row → IsSome row
  is_kept point None has = absurd has
  is_kept point (Some outcome) has = refl

  -- a table whose rows of some blocks are filled takes those of other blocks over
  filled_both : (drawn more : List ℕ) (before other after : List (Option Outcome)) → IsFilledBy m graphs learned points drawn before → IsFilledBy m graphs learned points more other → TakesRows other before after
      → IsFilledBy m graphs learned points (drawn ++ more) after
  filled_both drawn more before other after own theirs takes =
      let Own : ℕ → Option Outcome → Type 0 = λ i row. HasValue m graphs learned (point_at points i) row in
      let pick : (i : ℕ) (mine row : Option Outcome) → Own i row → Own i (taken mine row) = λ i mine row has. pick_row (point_at points i) mine row has in
      let at : (i : ℕ) → i < length points → row_at after i ≡ taken (row_at before i) (row_at other i) = λ i lt. takes.each i (omega (arith, own.long)) in
      let empty : (i : ℕ) → i < length points → times (i / 32) more ≡ 0 → row_at after i ≡ row_at before i = λ i lt none. at i lt ∙ ap (taken (row_at before i)) (theirs.rest i lt none) in
      record {
        long = takes.long ∙ own.long;
        filled = λ i lt some. dite (dec_le 1 (times (i / 32) more))
            (λ drew. subst (Own i) (sym (at i lt)) (pick i (row_at before i) (row_at other i) (theirs.filled i lt drew)))
            (λ not-drew. let none = lt_of_not-le not-drew in subst (Own i) (sym (empty i lt (omega arith))) (own.filled i lt (omega (arith, some, times-append (i / 32) drawn more))));
        rest = λ i lt none. empty i lt (omega (arith, none, times-append (i / 32) drawn more)) ∙ own.rest i lt (omega (arith, none, times-append (i / 32) drawn more));
      }

  module _ (board : TableId) (quota : ℕ) where
    -- so many workers have settled: the seat has what they had and drew, and the table the rows of these blocks
    pub record IsGathered (count : ℕ) (rest : Sitting) (whole : Filling) (hands : List Hand) : Type 0 where
      pub at_board : rest.board ≡ board
      pub full : rest.quota ≡ quota
      pub room : whole.room ≡ outputs_of learned
      pub draws : rest.left + length rest.drawn ≡ count * (blocks_of (length points) + 1)
      pub filled : IsFilledBy m graphs learned points rest.drawn whole.rows
      pub reaches : 0 < count → Reaches (blocks_of (length points)) rest.drawn
      pub later : AllWithin (IsDone m graphs learned points board) hands count (length hands)
      pub held : All (IsHeld graphs learned) hands

    pub gathered_none : (rest : Sitting) (whole : Filling) (hands : List Hand) → rest ≡ record { board = board; quota = quota; left = 0; drawn = [] }
        → whole ≡ record { rows = replicate (length points) None; room = outputs_of learned } → All (IsDone m graphs learned points board) hands → IsGathered 0 rest whole hands
    gathered_none rest whole hands rest_is whole_is done = record {
      at_board = ap (λ (s : Sitting). s.board) rest_is;
      full = ap (λ (s : Sitting). s.quota) rest_is;
      room = ap (λ (f : Filling). f.room) whole_is;
      draws = subst (λ (s : Sitting). s.left + length s.drawn ≡ 0 * (blocks_of (length points) + 1)) (sym rest_is) (omega arith);
      filled = subst (λ (s : Sitting). IsFilledBy m graphs learned points s.drawn whole.rows) (sym rest_is) (filled_none m graphs learned points whole.rows (ap (λ (f : Filling). f.rows) whole_is));
      reaches = λ more. absurd (omega arith);
      later = λ k d le lt. done k d lt;
      held = λ k d lt. (done k d lt).made;
    }

    -- the next worker can settle
    pub can_settle : (count : ℕ) (rest : Sitting) (whole : Filling) (hands : List Hand) (d : Hand) → IsGathered count rest whole hands → count < length hands → IsSomeAnd (get_or hands count d).post (CanSettle board whole)
    can_settle count rest whole hands d so_far lt = post_weaker (get_or hands count d).post
        (λ p worked. record { at_board = worked.at_board; long = worked.rows.long ∙ sym so_far.filled.long; room = worked.room ∙ sym so_far.room }) (so_far.later count d (omega arith) lt).post

    -- the next worker has settled
    pub gathered_more : (count : ℕ) (rest after : Sitting) (whole filled : Filling) (hands : List Hand) (hand d : Hand) → IsGathered count rest whole hands → count < length hands
        → hand.worker ≡ (get_or hands count d).worker → IsSomeAnd (get_or hands count d).post (Settles rest after whole filled) → IsGathered (count + 1) after filled (set hands count hand)
    gathered_more count rest after whole filled hands hand d so_far lt same settled =
        let done = so_far.later count d (omega arith) lt in
        let both = both_posts (get_or hands count d).post done.post settled in
        let post = both.0 in let worked = both.1 in let settles = both.2 in
        let each = blocks_of (length points) + 1 in
        let drawn : after.drawn ≡ rest.drawn ++ post.seat.drawn = ap (λ (s : Sitting). s.drawn) settles.seat in
        let left : after.left ≡ rest.left + post.seat.left = ap (λ (s : Sitting). s.left) settles.seat in
        record {
          at_board = ap (λ (s : Sitting). s.board) settles.seat ∙ so_far.at_board;
          full = ap (λ (s : Sitting). s.quota) settles.seat ∙ so_far.full;
          room = settles.room ∙ so_far.room;
          draws = omega (arith, left, ap length drawn, length-append rest.drawn post.seat.drawn, so_far.draws, worked.left, suc-mul count each);
          filled = subst (λ xs. IsFilledBy m graphs learned points xs filled.rows) (sym drawn)
              (filled_both rest.drawn post.seat.drawn whole.rows post.table.rows filled.rows so_far.filled worked.rows settles.rows);
          reaches = λ more. subst (Reaches (blocks_of (length points))) (sym drawn) (ended_reaches (blocks_of (length points)) rest.drawn post.seat.drawn worked.ended);
          later = λ k e le less. subst (IsDone m graphs learned points board) (sym (get_or-set_other hands count k hand e (λ f. omega arith))) (so_far.later k e (omega arith) (omega (arith, length-set hands count hand)));
          held = All-set (IsHeld graphs learned) hands count hand (subst (IsMadeFor graphs learned) (sym same) done.made) so_far.held;
        }

    -- each row is filled once every worker has settled
    pub all_filled : (count drawn_in_all : ℕ) (rest : Sitting) (whole : Filling) (hands : List Hand) → IsGathered count rest whole hands → 0 < count → HasEachBelow drawn_in_all rest.drawn
        → (i : ℕ) → i < length points → HasValue m graphs learned (point_at points i) (row_at whole.rows i)
    all_filled count all rest whole hands so_far some each i lt =
        let reach = so_far.reaches some in
        let below : reach.0 < all = dite (dec_le all reach.0) (λ le. absurd (omega (arith, each.1 reach.0 le, reach.2))) (λ less. lt_of_not-le less) in
        let block : i / 32 < blocks_of (length points) = omega arith in
        so_far.filled.filled i lt (omega (arith, each.0 (i / 32) (omega (arith, block, reach.1, below))))

  -- a row for each point, each filled
  abbrev pub AreFilled : List (Option Outcome) → Type 0
  AreFilled rows = (i : ℕ) → i < length points → HasValue m graphs learned (point_at points i) (row_at rows i)

  pub none_empty : (rows : List (Option Outcome)) → length rows ≡ length points → AreFilled rows → All IsSome rows
  none_empty rows long filled k d lt = subst IsSome (get_or_default rows k None d lt) (is_kept (point_at points k) (row_at rows k) (filled k (omega (arith, long))))

-- rows that are filled are the values at their points
pub values_at : (m : ℕ) (graphs : List Graph) (learned : List GraphLearned) (points : List (List ℕ)) (rows : List Outcome) → length rows ≡ length points
    → ((i : ℕ) → i < length points → HasValue m graphs learned (point_at points i) (row_at (map (λ row. Some row) rows) i)) → IsPrime m
    → AreOutcomes (GraphValue m graphs (sets_of learned) (main_number graphs)) points rows
values_at m graphs learned [] [] long filled prime = tt
values_at m graphs learned [] (row ∷ rows) long filled prime = absurd (omega arith)
values_at m graphs learned (point ∷ points) [] long filled prime = absurd (omega arith)
values_at m graphs learned (point ∷ points) (row ∷ rows) long filled prime =
    ((filled 0 (omega arith)).value prime, values_at m graphs learned points rows (omega (arith, long)) (λ i lt. filled (suc i) (omega arith)) prime)

pub rows_fit : (m : ℕ) (graphs : List Graph) (learned : List GraphLearned) (points : List (List ℕ)) (rows : List Outcome) → length rows ≡ length points
    → ((i : ℕ) → i < length points → HasValue m graphs learned (point_at points i) (row_at (map (λ row. Some row) rows) i)) → All (FitsRow m (slice_get graphs (main_number graphs)) (outputs_of learned)) rows
rows_fit m graphs learned points rows long filled k d lt =
    (subst (HasValue m graphs learned (point_at points k)) (get_or-map (λ row. Some row) rows k d None lt) (filled k (omega (arith, long)))).fits

-- the seat that has given all of its draws away
pub rest_is : (rest after : Sitting) (board : TableId) (quota all : ℕ) → after ≡ record rest { left = 0 } → rest ≡ record { board = board; quota = all; left = all; drawn = [] } → all ≡ quota
    → after ≡ record { board = board; quota = quota; left = 0; drawn = [] }
rest_is rest after board quota all given is same =
    given ∙ ap (λ (r : Sitting). record r { left = 0 }) is ∙ ap (λ (n : ℕ). record { board = board; quota = n; left = 0; drawn = [] }) same

pub whole_is : (whole : Filling) (points outputs width : ℕ) → whole ≡ record { rows = replicate points None; room = outputs } → outputs ≡ width → whole ≡ record { rows = replicate points None; room = width }
whole_is whole points outputs width is same = is ∙ ap (λ (n : ℕ). record { rows = replicate points None; room = n }) same
