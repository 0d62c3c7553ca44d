-- How a point's entries fill eight places.
use Rattle.std.proofs.Common.{◌≡◌, ◌≤◌, ◌+◌, ◌-◌, ℕ, sym, ap, ◌∙◌, List, ◌++◌, length, take, drop, arith, subst}
use Rattle.std.proofs.Math.ListN.{replicate}
use Rattle.std.proofs.Math.Seq.{take-append_seam, take-append-add}
use Rattle.std.proofs.lemmas.List.{take-replicate, drop-replicate}
use Rattle.poly_maps.specs.Point.{padded, IsPoint, IsStored}

-- the places past the entries hold zeros
pub padded_is : (entries : List ℕ) → length entries ≤ 8 → padded entries ≡ entries ++ drop (length entries) (replicate 8 0)
padded_is entries few =
    let free : ℕ = 8 - length entries in
    let sum : 8 ≡ length entries + free = omega arith in
    let zeros : take free (replicate 8 0) ≡ drop (length entries) (replicate 8 0) = take-replicate free 8 0 (omega arith) ∙ sym (drop-replicate (length entries) 8 0) in
    ap (λ n. take n (entries ++ replicate 8 0)) sum ∙ take-append-add entries (replicate 8 0) free ∙ ap (λ z. entries ++ z) zeros

-- entries written over the front of eight zeros are stored
pub IsStored-written : (written entries : List ℕ) → written ≡ entries → IsPoint entries → IsStored (written ++ drop (length entries) (replicate 8 0)) (length entries)
IsStored-written written entries same point =
    let places : List ℕ = written ++ drop (length entries) (replicate 8 0) in
    let front : take (length entries) places ≡ entries = ap (λ w. take (length entries) (w ++ drop (length entries) (replicate 8 0))) same ∙ take-append_seam entries (drop (length entries) (replicate 8 0)) in
    record {
      counted = ap length front;
      is_padded = ap padded front ∙ padded_is entries point.few ∙ ap (λ w. w ++ drop (length entries) (replicate 8 0)) (sym same);
      is_point = subst IsPoint (sym front) point;
    }
