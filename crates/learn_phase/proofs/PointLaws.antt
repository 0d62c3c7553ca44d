-- The entries of learning points.
use Rattle.std.proofs.Common.{◌≡◌, ℕ, zero, suc, ◌+◌, ◌*◌, ◌/◌, ◌^◌, ◌<◌, ◌≤◌, List, [], ◌∷◌, ◌++◌, length, take, set, get_or, refl, sym, ◌∙◌, ap, arith}
use Rattle.std.proofs.lemmas.List.{take_more_set}
use Rattle.std.proofs.lemmas.List.FromFn.{length-map-range_with_len, get_or-map-range_with_len, map-range_with_len_more}
use Rattle.prime_field.specs.Sequence.{word}
use Rattle.poly_maps.specs.Point.{IsPoint}
use Rattle.learn_phase.specs.Points.{learning_point}

word_fits : (k : ℕ) → word k < 2 ^ 64
unfolding word
word_fits zero = omega arith
word_fits (suc k) = omega arith

-- a learning point has an entry for each variable
pub length_of_point : (n q : ℕ) → length (learning_point n q) ≡ n
length_of_point n q = length-map-range_with_len (λ i. word (8 * q + i) / 16) 1 n

-- a learning point is a point
pub is_point : (n q : ℕ) → 1 ≤ n → n ≤ 8 → IsPoint (learning_point n q)
is_point n q some few =
    let f : ℕ → ℕ = λ i. word (8 * q + i) / 16 in
    let long : length (learning_point n q) ≡ n = length-map-range_with_len f 1 n in
    record {
      some = omega (arith, long);
      few = omega (arith, long);
      below = λ k within.
          let entry : get_or (learning_point n q) k 0 ≡ word (8 * q + (1 + k)) / 16 = get_or-map-range_with_len f 1 n k (1 + k) 0 (omega (arith, long)) refl in
          omega (arith, entry, word_fits (8 * q + (1 + k)));
    }

-- one more entry
pub one_more : (n q entry : ℕ) (entries : List ℕ) → n < length entries → take n entries ≡ learning_point n q → entry ≡ word (8 * q + n + 1) / 16 → take (n + 1) (set entries n entry) ≡ learning_point (n + 1) q
one_more n q entry entries below so_far is =
    let f : ℕ → ℕ = λ i. word (8 * q + i) / 16 in
    let place : 8 * q + n + 1 ≡ 8 * q + (n + 1) = omega arith in
    take_more_set entries n entry below
    ∙ ap (λ xs. xs ++ entry ∷ []) so_far
    ∙ ap (λ e. learning_point n q ++ e ∷ []) (is ∙ ap (λ i. word i / 16) place)
    ∙ sym (map-range_with_len_more f 1 n (n + 1) (omega arith))
