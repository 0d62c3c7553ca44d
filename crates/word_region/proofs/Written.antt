-- What a list of words is after a run of others was written over it.
use Rattle.std.proofs.Common.{◌≡◌, ℕ, ◌+◌, ◌-◌, ◌≤◌, List, [], ◌++◌, length, take, drop, refl, sym, ap, ◌∙◌, arith, length-append, length-drop, length-take, take-append-drop, append-nil, append_assoc}
use lib.Seq.{take_at, drop_at, take_all, length-take-le, drop-drop, drop-append-le}
use Rattle.std.proofs.lemmas.List.{take-append-le}
use Rattle.word_region.specs.Words.{written_at}

-- the words are those before a place, a run of some length from there on, and the rest
pub three_parts : (xs : List ℕ) (from len : ℕ) → xs ≡ take from xs ++ (take len (drop from xs) ++ drop len (drop from xs))
three_parts xs from len = sym (ap (λ ys. take from xs ++ ys) (take-append-drop len (drop from xs)) ∙ take-append-drop from xs)

-- where as many words are written over the middle of three parts, the two others stay
pub written_at-middle : (xs front mid back ws : List ℕ) (from : ℕ) → xs ≡ front ++ (mid ++ back) → length front ≡ from → length ws ≡ length mid → front ++ (ws ++ back) ≡ written_at from ws xs
written_at-middle xs front mid back ws from is le lw =
    let before : take from xs ≡ front = ap (take from) is ∙ take_at front (mid ++ back) from le in
    let rest : drop from xs ≡ mid ++ back = ap (drop from) is ∙ drop_at front (mid ++ back) from le in
    let after : drop (length ws) (drop from xs) ≡ back = ap (drop (length ws)) rest ∙ drop_at mid back (length ws) (sym lw) in
    let whole : take from xs ++ (ws ++ drop (length ws) (drop from xs)) ≡ front ++ (ws ++ back) = ap (λ ys. ys ++ (ws ++ drop (length ws) (drop from xs))) before ∙ ap (λ ys. front ++ (ws ++ ys)) after in
    let one = length-append front (ws ++ back) in let two = length-append ws back in
    let three = ap length is in let four = length-append front (mid ++ back) in let five = length-append mid back in
    sym (ap (take (length xs)) whole ∙ take_all (length xs) (front ++ (ws ++ back)) (omega arith))

-- a run within the words before a place is the same run of all the words
pub slice-front : (xs : List ℕ) (from at len : ℕ) → at + len ≤ from → from ≤ length xs → take len (drop at (take from xs)) ≡ take len (drop at xs)
slice-front xs from at len h le =
    let split : take from xs ++ drop from xs ≡ xs = take-append-drop from xs in
    let count : length (take from xs) ≡ from = length-take-le from xs le in
    let cut : drop at (take from xs ++ drop from xs) ≡ drop at (take from xs) ++ drop from xs = drop-append-le at (take from xs) (drop from xs) (omega arith) in
    let rest = length-drop at (take from xs) in
    sym (ap (λ ys. take len (drop at ys)) (sym split) ∙ ap (take len) cut ∙ take-append-le len (drop at (take from xs)) (drop from xs) (omega arith))

-- a run within the words after a place is the same run of all the words
pub slice-back : (xs : List ℕ) (to at len : ℕ) → to ≤ at → take len (drop (at - to) (drop to xs)) ≡ take len (drop at xs)
slice-back xs to at len h =
    let sum : to + (at - to) ≡ at = omega arith in
    ap (take len) (drop-drop (at - to) to xs ∙ ap (λ k. drop k xs) sum)

pub length-written_at : (from : ℕ) (ws xs : List ℕ) → length (written_at from ws xs) ≡ length xs
length-written_at from ws xs =
    let rest : List ℕ = drop (length ws) (drop from xs) in
    let one = length-append (take from xs) (ws ++ rest) in let two = length-append ws rest in
    let three = length-take from xs in let four = length-drop (length ws) (drop from xs) in let five = length-drop from xs in
    length-take-le (length xs) (take from xs ++ (ws ++ rest)) (omega arith)

-- where as many words are written over all, only they are left
pub written_at-all : (zs xs : List ℕ) → length zs ≡ length xs → written_at 0 zs xs ≡ zs
written_at-all zs xs e = sym (written_at-middle xs [] xs [] zs 0 (sym (append-nil xs)) refl e) ∙ append-nil zs

-- what was written over a part of all words, once these are written back
pub written_at-back : (from : ℕ) (ws xs ys : List ℕ) → ys ≡ xs → written_at 0 (written_at from ws ys) xs ≡ written_at from ws xs
written_at-back from ws xs ys e = written_at-all (written_at from ws ys) xs (length-written_at from ws ys ∙ ap length e) ∙ ap (written_at from ws) e

-- what is written within the words before a place stays there
pub written_at-front : (from : ℕ) (ws front back : List ℕ) → from + length ws ≤ length front → written_at from ws (front ++ back) ≡ written_at from ws front ++ back
written_at-front from ws front back h =
    let rest : List ℕ = drop (length ws) (drop from front) in
    let whole : List ℕ = take from front ++ (ws ++ rest) in
    let one = length-append (take from front) (ws ++ rest) in let two = length-append ws rest in
    let three = length-take-le from front (omega arith) in let four = length-drop (length ws) (drop from front) in let five = length-drop from front in
    let six = length-append whole back in let seven = length-append front back in
    let before : take from (front ++ back) ≡ take from front = take-append-le from front back (omega arith) in
    let after : drop (length ws) (drop from (front ++ back)) ≡ rest ++ back = ap (drop (length ws)) (drop-append-le from front back (omega arith)) ∙ drop-append-le (length ws) (drop from front) back (omega arith) in
    let joined : take from (front ++ back) ++ (ws ++ drop (length ws) (drop from (front ++ back))) ≡ whole ++ back = ap (λ ys. ys ++ (ws ++ drop (length ws) (drop from (front ++ back)))) before ∙ ap (λ ys. take from front ++ (ws ++ ys)) after ∙ ap (λ ys. take from front ++ ys) (sym (append_assoc ws rest back)) ∙ sym (append_assoc (take from front) (ws ++ rest) back) in
    ap (take (length (front ++ back))) joined ∙ take_all (length (front ++ back)) (whole ++ back) (omega arith) ∙ ap (λ ys. ys ++ back) (sym (take_all (length front) whole (omega arith)))

-- what is written from the end of the words before a place on leaves these
pub written_at-rest : (from : ℕ) (ws front back : List ℕ) → length front ≡ from → length ws ≤ length back → written_at from ws (front ++ back) ≡ front ++ written_at 0 ws back
written_at-rest from ws front back le h =
    let rest : List ℕ = drop (length ws) back in
    let one = length-append front (ws ++ rest) in let two = length-append ws rest in let three = length-drop (length ws) back in let four = length-append front back in
    let joined : take from (front ++ back) ++ (ws ++ drop (length ws) (drop from (front ++ back))) ≡ front ++ (ws ++ rest) = ap (λ ys. ys ++ (ws ++ drop (length ws) (drop from (front ++ back)))) (take_at front back from le) ∙ ap (λ ys. front ++ (ws ++ drop (length ws) ys)) (drop_at front back from le) in
    ap (take (length (front ++ back))) joined ∙ take_all (length (front ++ back)) (front ++ (ws ++ rest)) (omega arith) ∙ ap (λ ys. front ++ ys) (sym (take_all (length back) (ws ++ rest) (omega arith)))

-- two writes, one within the words before a place and one from that place on, in both orders
pub written_high_after : (low : ℕ) (v : List ℕ) (high : ℕ) (w xs : List ℕ) → low + length v ≤ high → high + length w ≤ length xs → written_at low v (take high xs) ++ written_at 0 w (drop high xs) ≡ written_at high w (written_at low v xs)
written_high_after low v high w xs hl hh =
    let count : length (take high xs) ≡ high = length-take-le high xs (omega arith) in let rest = length-drop high xs in
    let first : written_at low v xs ≡ written_at low v (take high xs) ++ drop high xs = ap (written_at low v) (sym (take-append-drop high xs)) ∙ written_at-front low v (take high xs) (drop high xs) (omega arith) in
    sym (ap (written_at high w) first ∙ written_at-rest high w (written_at low v (take high xs)) (drop high xs) (length-written_at low v (take high xs) ∙ count) (omega arith))

pub written_low_after : (low : ℕ) (v : List ℕ) (high : ℕ) (w xs : List ℕ) → low + length v ≤ high → high + length w ≤ length xs → written_at low v (take high xs) ++ written_at 0 w (drop high xs) ≡ written_at low v (written_at high w xs)
written_low_after low v high w xs hl hh =
    let count : length (take high xs) ≡ high = length-take-le high xs (omega arith) in let rest = length-drop high xs in
    let first : written_at high w xs ≡ take high xs ++ written_at 0 w (drop high xs) = ap (written_at high w) (sym (take-append-drop high xs)) ∙ written_at-rest high w (take high xs) (drop high xs) count (omega arith) in
    sym (ap (written_at low v) first ∙ written_at-front low v (take high xs) (written_at 0 w (drop high xs)) (omega arith))
