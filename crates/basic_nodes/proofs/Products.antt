-- Sums of products of residues, cut after the first few.
use Rattle.std.proofs.Common.{◌≡◌, ℕ, zero, suc, ◌+◌, ◌-◌, ◌*◌, ◌%◌, ◌<◌, ◌≤◌, List, length, drop, get_or, refl, sym, ◌∙◌, ap, add-zero, add-suc, arith}
use Rattle.std.proofs.Math.Nat.{mod-add-mod, mul_comm}
use Rattle.std.proofs.lemmas.List.{get_or-take, get_or-drop, length-take-le, length-drop}
use Rattle.std.proofs.lemmas.Nat.{mul-add-lt}
use Rattle.std.specs.List.{between}
use Rattle.prime_field.proofs.Sums.{sum-same}
use Rattle.prime_field.specs.Sum.{sum_to}

-- a sum of n + d values, cut after the first n
pub sum_to-add : (n d : ℕ) (f : ℕ → ℕ) → sum_to (n + d) f ≡ sum_to n f + sum_to d (λ k. f (n + k))
sum_to-add n zero f = ap (λ t. sum_to t f) (add-zero n) ∙ sym (add-zero (sum_to n f))
sum_to-add n (suc d) f = ap (λ t. sum_to t f) (add-suc n d) ∙ omega (arith, sum_to-add n d f)

-- a sum modulo m of n values, to which the next d are added
pub sum_to-more : (m n d old : ℕ) (f g : ℕ → ℕ) → old ≡ sum_to n f % m → ((k : ℕ) → k < d → g k ≡ f (n + k)) →
    (old + sum_to d g) % m ≡ sum_to (n + d) f % m
sum_to-more m n d old f g same next =
    ap (λ t. (t + sum_to d g) % m) same ∙ mod-add-mod (sum_to n f) m (sum_to d g)
    ∙ ap (λ t. (sum_to n f + t) % m) (sum-same d g (λ k. f (n + k)) next) ∙ ap (λ t. t % m) (sym (sum_to-add n d f))

-- the terms of one part of a row and of the rows of b beside it
part_term : (row b : List ℕ) (done next cols j k : ℕ) → done + k < next → j < cols →
    get_or (between done next row) k 0 * get_or (between (done * cols) (next * cols) b) (k * cols + j) 0
    ≡ get_or row (done + k) 0 * get_or b ((done + k) * cols + j) 0
part_term row b done next cols j k few column =
    let inside : (done + k) * cols + j < cols * next = mul-add-lt (done + k) cols j next few column in
    let place : done * cols + (k * cols + j) ≡ (done + k) * cols + j = omega arith in
    let left : get_or (between done next row) k 0 ≡ get_or row (done + k) 0 =
    get_or-take (next - done) (drop done row) k 0 (omega arith) ∙ get_or-drop done row k 0 in
    let right : get_or (between (done * cols) (next * cols) b) (k * cols + j) 0 ≡ get_or b ((done + k) * cols + j) 0 =
    get_or-take (next * cols - done * cols) (drop (done * cols) b) (k * cols + j) 0 (omega (arith, mul_comm cols next))
    ∙ get_or-drop (done * cols) b (k * cols + j) 0 ∙ ap (λ t. get_or b t 0) place in
    rw (left, right) refl

-- the entry of a row's product with b once the places from done on are counted in, up to next
pub row_more : (m done next cols j : ℕ) (row b : List ℕ) (old new : ℕ) → done ≤ next → next ≤ length row → j < cols →
    old ≡ sum_to done (λ k. get_or row k 0 * get_or b (k * cols + j) 0) % m →
    new ≡ (old + sum_to (length (between done next row))
    (λ k. get_or (between done next row) k 0 * get_or (between (done * cols) (next * cols) b) (k * cols + j) 0)) % m →
    new ≡ sum_to next (λ k. get_or row k 0 * get_or b (k * cols + j) 0) % m
row_more m done next cols j row b old new order within column before now =
    let f : ℕ → ℕ = λ k. get_or row k 0 * get_or b (k * cols + j) 0 in
    let g : ℕ → ℕ = λ k. get_or (between done next row) k 0 * get_or (between (done * cols) (next * cols) b) (k * cols + j) 0 in
    let count : length (between done next row) ≡ next - done =
    length-take-le (next - done) (drop done row) (omega (arith, length-drop done row)) in
    now ∙ ap (λ t. (old + sum_to t g) % m) count
    ∙ sum_to-more m done (next - done) old f g before (λ k few. part_term row b done next cols j k (omega arith) column)
    ∙ ap (λ t. sum_to t f % m) (omega arith)
