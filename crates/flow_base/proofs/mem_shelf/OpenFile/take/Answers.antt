-- What was copied is the front of the rest.
use Rattle.std.proofs.Common.{◌≡◌, ℕ, ◌+◌, ◌++◌, List, length, take, drop, sym, ap, ◌∙◌, arith, take-append-drop}
use Rattle.std.proofs.lemmas.Grind.{common_steps}
use Rattle.std.proofs.lemmas.List.{drop-drop, take_rest}
use Rattle.std.proofs.Math.Seq.{take-append_seam}
use Rattle.flow_base.proofs.mem_shelf.OpenFile.take.Goals as goal

-- the first count bytes of the rest, and then the bytes that come after them
rest_of : (bytes copied after : List ℕ) (at count : ℕ) → copied ≡ take count (drop at bytes) → length copied ≡ count → drop at bytes ≡ take count (copied ++ after) ++ drop (at + count) bytes
rest_of bytes copied after at count same long =
    let front : take count (copied ++ after) ≡ copied = ap (λ n. take n (copied ++ after)) (sym long) ∙ take-append_seam copied after in
    let left : drop (at + count) bytes ≡ drop count (drop at bytes) = sym (drop-drop count at bytes) in
    rw (front, left, same) (sym (take-append-drop count (drop at bytes)))

pub returns-clause-front : goal.returns-clause-front
returns-clause-front c =
    rest_of c.args.bytes.now c.copy_from_slice.new.self _ c.args.self.now.at c.min-count.result
    (grind (arith, common_steps, take_rest c.args.bytes.now c.args.self.now.at)) (grind (arith, common_steps))
