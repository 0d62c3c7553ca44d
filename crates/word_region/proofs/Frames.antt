-- What a write to a frame, a new frame and a release leave of a region. For whoever calls one: each lemma is over the region as contracts see it.
use Rattle.std.proofs.Common.{◌≡◌, ℕ, ◌-◌, ◌≤◌, List, ◌++◌, length, take, drop, refl, sym, ap, ◌∙◌, arith, length-append, length-drop, append_assoc, inl, inr}
use Rattle.std.specs.Prelude.{slice_range}
use Rattle.std.proofs.lemmas.List.{take-append-le}
use lib.Seq.{take_at, drop_at, length-take-le, drop-drop, drop-append-le}
use Rattle.word_region.specs.declared.Frame.{Frame}
use Rattle.word_region.specs.Words.{Words}
use Rattle.word_region.specs.Frame.{IsLive, AreApart, words_at, end_of, with_frame}
use Rattle.word_region.proofs.Written.{three_parts, written_at-middle, length-written_at, slice-front, slice-back}

-- a frame has as many words as it says
pub length-words_at : (r : Words) (f : Frame) → IsLive r f → length (words_at r f) ≡ f.len
length-words_at r f live = let rest = length-drop f.at r.used in length-take-le (end_of f - f.at) (drop f.at r.used) (omega arith) ∙ omega arith

-- a write to a frame leaves the number of used words, so each live frame stays live
pub length-with_frame : (r : Words) (f : Frame) (ws : List ℕ) → length (with_frame r f ws).used ≡ length r.used
length-with_frame r f ws = length-written_at f.at ws r.used

-- with the frame written by as many words, the words are those before it, these and those after it
with_frame-parts : (r : Words) (f : Frame) (ws : List ℕ) → IsLive r f → length ws ≡ f.len → take f.at r.used ++ (ws ++ drop f.len (drop f.at r.used)) ≡ (with_frame r f ws).used
with_frame-parts r f ws live e =
    let rest = length-drop f.at r.used in
    written_at-middle r.used (take f.at r.used) (take f.len (drop f.at r.used)) (drop f.len (drop f.at r.used)) ws f.at (three_parts r.used f.at f.len) (length-take-le f.at r.used (omega arith))
    (e ∙ sym (length-take-le f.len (drop f.at r.used) (omega arith)))

-- a frame that was written by as many words holds these
pub words_at-with_frame : (r : Words) (f : Frame) (ws : List ℕ) → IsLive r f → length ws ≡ f.len → words_at (with_frame r f ws) f ≡ ws
words_at-with_frame r f ws live e =
    let front : List ℕ = take f.at r.used in let back : List ℕ = drop f.len (drop f.at r.used) in
    let len : end_of f - f.at ≡ length ws = omega arith in
    ap (λ ys. slice_range ys f.at (end_of f)) (sym (with_frame-parts r f ws live e))
    ∙ ap (take (end_of f - f.at)) (drop_at front (ws ++ back) f.at (length-take-le f.at r.used (omega arith))) ∙ ap (λ k. take k (ws ++ back)) len ∙ take_at ws back (length ws) refl

-- a frame that is apart from the one that was written holds what it held
pub words_at-with_frame-apart : (r : Words) (f g : Frame) (ws : List ℕ) → IsLive r f → IsLive r g → AreApart f g → length ws ≡ f.len → words_at (with_frame r f ws) g ≡ words_at r g
words_at-with_frame-apart r f g ws live live_g (inl after) e =
    let ys : List ℕ = (with_frame r f ws).used in
    let i : ℕ = g.at - end_of f in let n : ℕ = end_of g - g.at in
    let back : List ℕ = drop f.len (drop f.at r.used) in
    let count : length (take f.at r.used ++ ws) ≡ end_of f = length-append (take f.at r.used) ws ∙ (let one = length-take-le f.at r.used (omega arith) in omega arith) in
    let rest : drop (end_of f) ys ≡ drop (end_of f) r.used = ap (drop (end_of f)) (sym (with_frame-parts r f ws live e) ∙ sym (append_assoc (take f.at r.used) ws back)) ∙ drop_at (take f.at r.used ++ ws) back (end_of f) count ∙ drop-drop f.len f.at r.used in
    sym (slice-back ys (end_of f) g.at n after) ∙ ap (λ zs. take n (drop i zs)) rest ∙ slice-back r.used (end_of f) g.at n after
words_at-with_frame-apart r f g ws live live_g (inr before) e =
    let ys : List ℕ = (with_frame r f ws).used in
    let n : ℕ = end_of g - g.at in
    let count = length-with_frame r f ws in
    let first : take f.at ys ≡ take f.at r.used = ap (take f.at) (sym (with_frame-parts r f ws live e)) ∙ take_at (take f.at r.used) (ws ++ drop f.len (drop f.at r.used)) f.at (length-take-le f.at r.used (omega arith)) in
    sym (slice-front ys f.at g.at n (omega arith) (omega arith)) ∙ ap (λ zs. take n (drop g.at zs)) first ∙ slice-front r.used f.at g.at n (omega arith) (omega arith)

-- words that are appended leave each live frame, and what it holds
pub words_at-append : (r : Words) (g : Frame) (ws : List ℕ) → IsLive r g → words_at (record r { used = r.used ++ ws }) g ≡ words_at r g
words_at-append r g ws live =
    let n : ℕ = end_of g - g.at in let rest = length-drop g.at r.used in
    ap (take n) (drop-append-le g.at r.used ws (omega arith)) ∙ take-append-le n (drop g.at r.used) ws (omega arith)

-- a release leaves each frame that ends at or before the mark, and what it holds
pub words_at-release : (r : Words) (g : Frame) (n : ℕ) → end_of g ≤ n → n ≤ length r.used → words_at (record r { used = take n r.used }) g ≡ words_at r g
words_at-release r g n h le = slice-front r.used n g.at (end_of g - g.at) (omega arith) le

-- these lemmas together, for the `using` of a function that calls a region
pub ruleset frames = (length-words_at, length-with_frame, words_at-with_frame, words_at-with_frame-apart, words_at-append, words_at-release)
