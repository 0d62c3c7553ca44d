-- What the methods of a stack leave of its board.
use Rattle.std.proofs.Common.{◌≡◌, ℕ, ◌+◌, ◌-◌, ◌≤◌, List, [], ◌++◌, length, take, drop, refl, sym, ap, subst, ◌∙◌, arith, length-append, length-drop, take-append-drop, append-nil}
use Rattle.std.specs.Prelude.{slice_range, replicate}
use Rattle.std.proofs.Math.Seq.{take-add, paste}
use Rattle.std.proofs.lemmas.List.{take-append-le, drop-take, length-replicate}
use Rattle.std.proofs.lemmas.List.Edits.{take-paste}
use lib.Seq.{take_at, drop_at, take_all, length-take-le, drop-drop, drop-append-le}
use Rattle.word_region.specs.declared.Frame.{Frame}
use Rattle.word_region.specs.Board.{Board}
use Rattle.word_region.specs.Frame.{with_frame}
use Rattle.word_region.specs.Words.{Words, written_at}
use Rattle.word_region.proofs.Written.{slice-front, written_at-front, length-written_at}

-- the board of a region whose first words are kept
abbrev pub board : ℕ → Words → Board
board floor r = record { size = r.size - floor; kept = take floor r.used; words = drop floor r.used }

same_board : (size : ℕ) (k kept w words : List ℕ) → k ≡ kept → w ≡ words → ◌≡◌ {A = Board} (record { size = size; kept = k; words = w }) (record { size = size; kept = kept; words = words })
same_board size k kept w words ke we = cc

-- the first words of the first words
take_of_take : (n m : ℕ) (xs : List ℕ) → n + m ≤ length xs → take n (take (n + m) xs) ≡ take n xs
take_of_take n m xs le = ap (take n) (take-add n m xs) ∙ take_at (take n xs) (take m (drop n xs)) n (length-take-le n xs (omega arith))

-- what is written from the end of some words on stands behind them
written_end : (xs zs ws : List ℕ) → written_at (length xs) ws (xs ++ zs) ≡ xs ++ take (length zs) (ws ++ drop (length ws) zs)
written_end xs zs ws =
    let rest : List ℕ = ws ++ drop (length ws) zs in
    let front : take (length xs) (xs ++ zs) ≡ xs = take_at xs zs (length xs) refl in
    let back : drop (length xs) (xs ++ zs) ≡ zs = drop_at xs zs (length xs) refl in
    ap (λ ys. take (length (xs ++ zs)) (ys ++ (ws ++ drop (length ws) (drop (length xs) (xs ++ zs))))) front
    ∙ ap (λ ys. take (length (xs ++ zs)) (xs ++ (ws ++ drop (length ws) ys))) back
    ∙ ap (λ n. take n (xs ++ rest)) (length-append xs zs)
    ∙ take-add (length xs) (length zs) (xs ++ rest)
    ∙ ap (λ ys. ys ++ take (length zs) (drop (length xs) (xs ++ rest))) (take_at xs rest (length xs) refl)
    ∙ ap (λ ys. xs ++ take (length zs) ys) (drop_at xs rest (length xs) refl)

-- a list written over as many words at the end stands there
pub written_whole : (xs ws : List ℕ) (n : ℕ) → length ws ≡ n → written_at (length xs) ws (xs ++ replicate n 0) ≡ xs ++ ws
written_whole xs ws n e =
    let zs : List ℕ = replicate n 0 in
    let long : length zs ≡ length ws = length-replicate n 0 ∙ sym e in
    let none : drop (length ws) zs ≡ [] = ap (λ k. drop k zs) (sym long) ∙ sym (ap (drop (length zs)) (append-nil zs)) ∙ drop_at zs [] (length zs) refl in
    written_end xs zs ws
    ∙ ap (λ ys. xs ++ take (length zs) (ws ++ ys)) none
    ∙ ap (λ k. xs ++ take k (ws ++ [])) long
    ∙ ap (λ ys. xs ++ ys) (take_at ws [] (length ws) refl)

-- the same behind words that are kept
top_words : (floor : ℕ) (used zs ws : List ℕ) → floor ≤ length used → drop floor (written_at (length used) ws (used ++ zs)) ≡ written_at (length (drop floor used)) ws (drop floor used ++ zs)
top_words floor used zs ws le =
    ap (drop floor) (written_end used zs ws) ∙ drop-append-le floor used (take (length zs) (ws ++ drop (length ws) zs)) le ∙ sym (written_end (drop floor used) zs ws)

top_kept : (floor : ℕ) (used zs ws : List ℕ) → floor ≤ length used → take floor (written_at (length used) ws (used ++ zs)) ≡ take floor used
top_kept floor used zs ws le = ap (take floor) (written_end used zs ws) ∙ take-append-le floor used (take (length zs) (ws ++ drop (length ws) zs)) le

-- zeros are appended, and then written over
pub board_grown : (floor n : ℕ) (r s : Words) (f : Frame) (b : Board) (ws : List ℕ) → board floor r ≡ b → floor ≤ length r.used → f ≡ record { at = length r.used; len = n } → s ≡ record r { used = r.used ++ replicate n 0 }
    → board floor (with_frame s f ws) ≡ record b { words = written_at (length b.words) ws (b.words ++ replicate n 0) }
board_grown floor n r s f b ws is le frame taken =
    let zs : List ℕ = replicate n 0 in
    subst (λ (t : Words). board floor (with_frame t f ws) ≡ record b { words = written_at (length b.words) ws (b.words ++ zs) }) (sym taken)
    (subst (λ (g : Frame). board floor (with_frame (record r { used = r.used ++ zs }) g ws) ≡ record b { words = written_at (length b.words) ws (b.words ++ zs) }) (sym frame)
    (subst (λ (c : Board). board floor (record r { used = written_at (length r.used) ws (r.used ++ zs) }) ≡ record c { words = written_at (length c.words) ws (c.words ++ zs) }) is
    (same_board (r.size - floor) (take floor (written_at (length r.used) ws (r.used ++ zs))) (take floor r.used) (drop floor (written_at (length r.used) ws (r.used ++ zs))) (written_at (length (drop floor r.used)) ws (drop floor r.used ++ zs))
    (top_kept floor r.used zs ws le) (top_words floor r.used zs ws le))))

-- the last words are given back
pub board_cut : (floor count : ℕ) (r s : Words) (b : Board) → board floor r ≡ b → floor ≤ length r.used → count ≤ length b.words → s ≡ record r { used = take (floor + count) r.used } → board floor s ≡ record b { words = take count b.words }
board_cut floor count r s b is le within cut =
    let words : length (drop floor r.used) ≡ length b.words = ap (λ (c : Board). length c.words) is in
    let rest = length-drop floor r.used in
    subst (λ (t : Words). board floor t ≡ record b { words = take count b.words }) (sym cut)
    (subst (λ (c : Board). board floor (record r { used = take (floor + count) r.used }) ≡ record c { words = take count c.words }) is
    (same_board (r.size - floor) (take floor (take (floor + count) r.used)) (take floor r.used) (drop floor (take (floor + count) r.used)) (take count (drop floor r.used))
    (take_of_take floor count r.used (omega arith)) (drop-take floor count r.used)))

-- a list is written over kept words
pub board_stored : (floor at len : ℕ) (r : Words) (b : Board) (ws list : List ℕ) → board floor r ≡ b → floor ≤ length r.used → at + len ≤ length b.kept → length ws ≡ len → ws ≡ list
    → board floor (with_frame r (record { at = at; len = len }) ws) ≡ record b { kept = written_at at list b.kept }
board_stored floor at len r b ws list is le within long same =
    let kept : List ℕ = take floor r.used in
    let words : List ℕ = drop floor r.used in
    let kept_long : length kept ≡ length b.kept = ap (λ (c : Board). length c.kept) is in
    let floor_long : length kept ≡ floor = length-take-le floor r.used le in
    let parts : written_at at ws r.used ≡ written_at at ws kept ++ words =
    ap (written_at at ws) (sym (take-append-drop floor r.used)) ∙ written_at-front at ws kept words (omega arith) in
    let written_long : length (written_at at ws kept) ≡ floor = length-written_at at ws kept ∙ floor_long in
    subst (λ (xs : List ℕ). board floor (with_frame r (record { at = at; len = len }) ws) ≡ record b { kept = written_at at xs b.kept }) same
    (subst (λ (c : Board). board floor (with_frame r (record { at = at; len = len }) ws) ≡ record c { kept = written_at at ws c.kept }) is
    (same_board (r.size - floor) (take floor (written_at at ws r.used)) (written_at at ws kept) (drop floor (written_at at ws r.used)) words
    (ap (take floor) parts ∙ take_at (written_at at ws kept) words floor written_long)
    (ap (drop floor) parts ∙ drop_at (written_at at ws kept) words floor written_long)))

-- all words of the stack, and its top, once zeros are appended
pub below_top : (floor : ℕ) (used zs : List ℕ) (n : ℕ) → floor ≤ length used → n ≡ length (drop floor used) → slice_range (used ++ zs) floor (floor + n) ≡ drop floor used
below_top floor used zs n le e =
    ap (λ k. take k (drop floor (used ++ zs))) (omega arith) ∙ ap (take n) (drop-append-le floor used zs le) ∙ take_at (drop floor used) zs n (sym e)

pub top_run : (used : List ℕ) (n : ℕ) → slice_range (used ++ replicate n 0) (length used) (length used + n) ≡ replicate n 0
top_run used n =
    ap (λ k. take k (drop (length used) (used ++ replicate n 0))) (omega arith) ∙ ap (take n) (drop_at used (replicate n 0) (length used) refl) ∙ take_all n (replicate n 0) (omega (arith, length-replicate {A = ℕ} n 0))

-- a run of the words above the kept ones, and one of the kept ones
run_above : (floor from to : ℕ) (used : List ℕ) → slice_range used (floor + from) (floor + from + (to - from)) ≡ slice_range (drop floor used) from to
run_above floor from to used =
    ap (λ k. take k (drop (floor + from) used)) (omega arith) ∙ ap (take (to - from)) (sym (drop-drop from floor used))

run_below : (floor from to : ℕ) (used zs : List ℕ) → from ≤ to → to ≤ floor → floor ≤ length used → slice_range (used ++ zs) from (from + (to - from)) ≡ slice_range (take floor used) from to
run_below floor from to used zs order within le =
    let rest = length-drop from used in
    ap (λ k. take k (drop from (used ++ zs))) (omega arith) ∙ ap (take (to - from)) (drop-append-le from used zs (omega arith)) ∙ take-append-le (to - from) (drop from used) zs (omega arith)
    ∙ sym (slice-front used floor from (to - from) (omega arith) le)

-- a run of kept words is written to the zeros
pub board_recalled : (floor from to : ℕ) (r s : Words) (f : Frame) (b : Board) (ws : List ℕ) → board floor r ≡ b → floor ≤ length r.used → from ≤ to → to ≤ length b.kept → f ≡ record { at = length r.used; len = to - from } → s ≡ record r { used = r.used ++ replicate (to - from) 0 }
    → ws ≡ slice_range s.used from (from + (to - from)) → board floor (with_frame s f ws) ≡ record b { words = b.words ++ slice_range b.kept from to }
board_recalled floor from to r s f b ws is le order within frame taken read =
    let kept_is : take floor r.used ≡ b.kept = ap (λ (c : Board). c.kept) is in
    let floor_long = length-take-le floor r.used le in
    let list_is : ws ≡ slice_range b.kept from to = read ∙ ap (λ (t : Words). slice_range t.used from (from + (to - from))) taken
    ∙ run_below floor from to r.used (replicate (to - from) 0) order (omega (arith, ap length kept_is)) le ∙ ap (λ ks. slice_range ks from to) kept_is in
    let rest = length-drop from b.kept in
    let long : length (slice_range b.kept from to) ≡ to - from = length-take-le (to - from) (drop from b.kept) (omega arith) in
    board_grown floor (to - from) r s f b ws is le frame taken
    ∙ ap (λ xs. record b { words = xs }) (written_whole b.words ws (to - from) (ap length list_is ∙ long) ∙ ap (λ xs. b.words ++ xs) list_is)

-- a run of the other words is written over kept ones
pub board_copied : (floor from to at : ℕ) (r : Words) (b : Board) (ws : List ℕ) → board floor r ≡ b → floor ≤ length r.used → from ≤ to → to ≤ length b.words → at + (to - from) ≤ length b.kept → ws ≡ slice_range r.used (floor + from) (floor + from + (to - from))
    → board floor (with_frame r (record { at = at; len = to - from }) ws) ≡ record b { kept = written_at at (slice_range b.words from to) b.kept }
board_copied floor from to at r b ws is le order within room read =
    let list_is : ws ≡ slice_range b.words from to = read ∙ run_above floor from to r.used ∙ ap (λ (c : Board). slice_range c.words from to) is in
    let rest = length-drop from b.words in
    let long : length (slice_range b.words from to) ≡ to - from = length-take-le (to - from) (drop from b.words) (omega arith) in
    board_stored floor at (to - from) r b ws (slice_range b.words from to) is le room (ap length list_is ∙ long) list_is

-- words that are moved down, with all behind them given back
pub moved_down : (words : List ℕ) (below from to : ℕ) → below ≤ from → from ≤ to → to ≤ length words → take (below + (to - from)) (paste words below (drop from words) (to - from)) ≡ take below words ++ slice_range words from to
moved_down words below from to down order within = let rest = length-drop from words in take-paste words below (drop from words) (to - from) (omega arith) (omega arith)
