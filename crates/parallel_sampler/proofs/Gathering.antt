-- Rows that are taken over from the tables of several workers.
use Rattle.std.proofs.Common.{◌≡◌, ℕ, suc, ◌+◌, ◌<◌, ◌≤◌, All, List, [], ◌∷◌, Option, Some, None, true≢false, length, get_or, set, refl, sym, ap, ◌∙◌, subst, arith}
use Rattle.std.specs.Prelude.{IsSome, map, option_map}
use Rattle.std.proofs.lemmas.List.{get_or-map, get_or-set_same, get_or-set_other, length-map, length-set}
use Rattle.std.proofs.lemmas.List.Elements.{All-set}
use native.Mathlib.Decide.{ℕ_discrete}
use mathlib.Core.Logic.{dite}
use Rattle.parallel_sampler.specs.declared.row.Row.{Row}
use Rattle.parallel_sampler.specs.Filled.{HasRoom, TakesRows, kept_row, row_at, taken, told_in, told_of}
use Rattle.graph_eval.specs.declared.outcome.Outcome as code
use Rattle.graph_eval.specs.Evaluated.{outcome_of}

-- so many rows are taken where the other one is not empty, and from there on all are as they were
pub record AreTaken (count : ℕ) (others before left rows : List Row) : Type 0 where
  pub long : length rows ≡ length before
  pub done : (i : ℕ) → i < count → i < length before → row_at (map kept_row rows) i ≡ taken (row_at (map kept_row before) i) (row_at (map kept_row others) i)
  pub later : (i : ℕ) (d : Row) → count ≤ i → get_or rows i d ≡ get_or before i d
  pub others_later : (i : ℕ) (d : Row) → count ≤ i → get_or left i d ≡ get_or others i d
  pub rooms : (room : ℕ) → All (HasRoom room) before → All (HasRoom room) others → All (HasRoom room) rows

pub none_taken : (others before : List Row) → AreTaken 0 others before others before
none_taken others before = record { long = refl; done = λ i lt within. absurd (omega arith); later = λ i d le. refl; others_later = λ i d le. refl; rooms = λ room own other. own }

row_of : (rows : List Row) (i : ℕ) (d : Row) → i < length rows → row_at (map kept_row rows) i ≡ kept_row (get_or rows i d)
row_of rows i d lt = get_or-map kept_row rows i d _ lt

-- one row more is taken
pub taken_more : (count : ℕ) (others before left rows : List Row) (d e row rest : Row) → AreTaken count others before left rows → count < length rows → length others ≡ length before
    → kept_row row ≡ taken (kept_row (get_or rows count d)) (kept_row (get_or left count e)) → ((room : ℕ) → HasRoom room (get_or rows count d) → HasRoom room (get_or left count e) → HasRoom room row)
    → AreTaken (count + 1) others before (set left count rest) (set rows count row)
taken_more count others before left rows d e row rest so_far lt many row_is rooms = record {
  long = length-set rows count row ∙ so_far.long;
  done = λ i less within. dite (ℕ_discrete i count)
      (λ same. subst (λ k. row_at (map kept_row (set rows count row)) k ≡ taken (row_at (map kept_row before) k) (row_at (map kept_row others) k)) (sym same)
      (row_of (set rows count row) count row (omega (arith, lt, length-set rows count row)) ∙ ap kept_row (get_or-set_same rows count row row lt) ∙ row_is
      ∙ ap (λ r. taken (kept_row r) (kept_row (get_or left count e))) (so_far.later count d (omega arith)) ∙ ap (λ r. taken r (kept_row (get_or left count e))) (sym (row_of before count d (omega (arith, lt, so_far.long))))
      ∙ ap (λ r. taken (row_at (map kept_row before) count) (kept_row r)) (so_far.others_later count e (omega arith))
      ∙ ap (taken (row_at (map kept_row before) count)) (sym (row_of others count e (omega (arith, lt, so_far.long, many))))))
      (λ apart. row_of (set rows count row) i row (omega (arith, within, length-set rows count row, so_far.long)) ∙ ap kept_row (get_or-set_other rows count i row row apart)
      ∙ sym (row_of rows i row (omega (arith, within, so_far.long))) ∙ so_far.done i (omega arith) within);
  later = λ i f le. get_or-set_other rows count i row f (λ same. omega arith) ∙ so_far.later i f (omega arith);
  others_later = λ i f le. get_or-set_other left count i rest f (λ same. omega arith) ∙ so_far.others_later i f (omega arith);
  rooms = λ room own other.
      let theirs : HasRoom room (get_or left count e) = subst (HasRoom room) (sym (so_far.others_later count e (omega arith))) (other count e (omega (arith, lt, so_far.long, many))) in
      let mine = so_far.rooms room own other in
      All-set (HasRoom room) rows count row (rooms room (mine count d lt) theirs) mine;
}

pub all_taken : (count : ℕ) (others before left rows : List Row) → AreTaken count others before left rows → length rows ≤ count → TakesRows (map kept_row others) (map kept_row before) (map kept_row rows)
all_taken count others before left rows so_far le = record {
  long = length-map rows kept_row ∙ so_far.long ∙ sym (length-map before kept_row);
  each = λ i lt. so_far.done i (omega (arith, so_far.long, length-map before kept_row)) (omega (arith, length-map before kept_row));
}

-- what is kept of a row that is not empty is what it stands for
kept_told : (words : List ℕ) (outcome : Option code.Outcome) → IsSome outcome → Some (told_of words outcome) ≡ option_map (outcome_of words) outcome
kept_told words None some = absurd (true≢false (sym some))
kept_told words (Some outcome) some = refl

kept_some : (words : List ℕ) (outcome : Option code.Outcome) → IsSome (option_map (outcome_of words) outcome) → IsSome outcome
kept_some words None some = some
kept_some words (Some outcome) some = refl

abbrev pub IsKeptRow : Row → Type 0
IsKeptRow row = IsSome row.outcome

pub rows_filled : (rows : List Row) → All IsSome (map kept_row rows) → All IsKeptRow rows
rows_filled rows some k d lt = let row = get_or rows k d in
    kept_some row.words.items row.outcome (subst IsSome (get_or-map kept_row rows k d (kept_row d) lt) (some k (kept_row d) (omega (arith, length-map rows kept_row))))

pub rows_told : (rows : List Row) → All IsKeptRow rows → map (λ row. Some row) (map told_in rows) ≡ map kept_row rows
rows_told [] some = refl
rows_told (row ∷ rows) some = ap (λ o. o ∷ map (λ r. Some r) (map told_in rows)) (kept_told row.words.items row.outcome (some 0 row (omega arith)))
    ∙ ap (λ rs. kept_row row ∷ rs) (rows_told rows (λ k d lt. some (suc k) d (omega arith)))
