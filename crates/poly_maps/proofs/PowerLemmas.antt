-- Tables of powers, and values made from them.
use Rattle.std.proofs.Common.{◌≡◌, ℕ, zero, suc, ◌+◌, ◌-◌, ◌*◌, ◌^◌, ◌%◌, ◌<◌, ◌≤◌, List, [], ◌∷◌, ◌++◌, length, get_or, take, drop, inl, inr, refl, sym, ap, ◌∙◌, subst, arith}
use Rattle.std.proofs.Math.ListN.{set, replicate}
use Rattle.std.proofs.Math.Nat.{pow-suc, mod-mod}
use Rattle.std.proofs.Math.Seq.{drop-cons}
use native.Mathlib.Numerals.{unary_clauses}
use Rattle.std.proofs.lemmas.Bool.{cases_lt}
use Rattle.std.proofs.lemmas.List.{get_or-set_same, get_or-set_other, take_more, drop-replicate}
use Rattle.std.proofs.lemmas.Nat.{mul-mod_first, mul-mod_second}
use Rattle.prime_field.proofs.Residues.{add-cong}
use Rattle.poly_maps.specs.Mono.{mono_value}
use Rattle.poly_maps.specs.Point.{padded}
use Rattle.poly_maps.specs.Polynomial.{value_at}
use Rattle.poly_maps.proofs.PointLemmas.{padded_is}
use Rattle.poly_maps.proofs.Terms.{value_at-append}

power-zero : (a : ℕ) → a ^ 0 ≡ 1
power-zero a = simp unary_clauses

-- the next power
pub power_more : (m base k power next : ℕ) → power ≡ (base ^ k) % m → next ≡ (power * base) % m → next ≡ (base ^ (k + 1)) % m
power_more m base k power next was is =
    is ∙ ap (λ n. (n * base) % m) was ∙ mul-mod_first (base ^ k) base m ∙ ap (λ n. n % m) (sym (pow-suc base k)) ∙ ap (λ j. (base ^ j) % m) one_more
  where
    one_more : suc k ≡ k + 1
    one_more = omega arith

-- one power more in the table
pub table_more : (m base k power : ℕ) (table : List ℕ) → k < length table → power ≡ (base ^ k) % m → ((j : ℕ) → j < k → get_or table j 0 ≡ (base ^ j) % m) →
    (j : ℕ) → j < k + 1 → get_or (set table k power) j 0 ≡ (base ^ j) % m
table_more m base k power table room is done j low =
    elim (cases_lt j k) [
      | inl before ↦ get_or-set_other table k j power 0 (λ same. omega (arith, same)) ∙ done j before
      | inr last ↦
          let here : k ≡ j = omega arith in
          subst (λ i. get_or (set table k power) i 0 ≡ (base ^ i) % m) here (get_or-set_same table k power 0 room ∙ is)
    ]

-- ---- the value of a monomial, variable by variable

mono_value-drop : (e x : List ℕ) (i : ℕ) → i < length e → i < length x → mono_value (drop i e) (drop i x) ≡ (get_or x i 0) ^ (get_or e i 0) * mono_value (drop (i + 1) e) (drop (i + 1) x)
mono_value-drop e x i low within =
    let next : suc i ≡ i + 1 = omega arith in
    ap (λ f. mono_value f (drop i x)) (drop-cons e i 0 low) ∙ ap (mono_value (get_or e i 0 ∷ drop (suc i) e)) (drop-cons x i 0 within) ∙
    ap (λ j. (get_or x i 0) ^ (get_or e i 0) * mono_value (drop j e) (drop j x)) next

-- a factor more
pub mono_more : (m : ℕ) (e x : List ℕ) (i product power next : ℕ) → i < length e → i < length x → power ≡ ((get_or x i 0) ^ (get_or e i 0)) % m → next ≡ (product * power) % m →
    (product * mono_value (drop i e) (drop i x)) % m ≡ mono_value e x % m → (next * mono_value (drop (i + 1) e) (drop (i + 1) x)) % m ≡ mono_value e x % m
mono_more m e x i product power next low within is made so_far =
    let rest : ℕ = mono_value (drop (i + 1) e) (drop (i + 1) x) in
    let p : ℕ = (get_or x i 0) ^ (get_or e i 0) in
    let whole : product * p * rest ≡ product * (p * rest) = omega arith in
    ap (λ n. (n * rest) % m) (made ∙ ap (λ n. (product * n) % m) is ∙ mul-mod_second product p m) ∙ mul-mod_first (product * p) rest m ∙ ap (λ n. n % m) whole ∙ ap (λ n. (product * n) % m) (sym (mono_value-drop e x i low within)) ∙ so_far

-- no factor where the exponent is 0
pub mono_skipped : (m : ℕ) (e x : List ℕ) (i product : ℕ) → i < length e → i < length x → get_or e i 0 ≡ 0 →
    (product * mono_value (drop i e) (drop i x)) % m ≡ mono_value e x % m → (product * mono_value (drop (i + 1) e) (drop (i + 1) x)) % m ≡ mono_value e x % m
mono_skipped m e x i product low within none so_far =
    let rest : ℕ = mono_value (drop (i + 1) e) (drop (i + 1) x) in
    let one : 1 * rest ≡ rest = omega arith in
    let whole : mono_value (drop i e) (drop i x) ≡ rest = mono_value-drop e x i low within ∙ ap (λ k. (get_or x i 0) ^ k * rest) none ∙ ap (λ p. p * rest) (power-zero (get_or x i 0)) ∙ one in
    ap (λ n. (product * n) % m) (sym whole) ∙ so_far

-- ---- zeros behind a point change nothing

mono_value-zeros : (e : List ℕ) (n : ℕ) → mono_value e (replicate n 0) ≡ mono_value e []
mono_value-zeros e zero = refl
mono_value-zeros [] (suc n) = refl
mono_value-zeros (k ∷ e) (suc n) = ap (λ v. 0 ^ k * v) (mono_value-zeros e n)

mono_value-padded_by : (e x : List ℕ) (n : ℕ) → mono_value e (x ++ replicate n 0) ≡ mono_value e x
mono_value-padded_by e [] n = mono_value-zeros e n
mono_value-padded_by [] (a ∷ x) n = refl
mono_value-padded_by (k ∷ e) (a ∷ x) n = ap (λ v. a ^ k * v) (mono_value-padded_by e x n)

pub mono_value-padded : (e x : List ℕ) → length x ≤ 8 → mono_value e (padded x) ≡ mono_value e x
mono_value-padded e x few =
    ap (mono_value e) (padded_is x few ∙ ap (λ z. x ++ z) (drop-replicate (length x) 8 0)) ∙ mono_value-padded_by e x (8 - length x)

-- one term more in the value
pub value_more : (m : ℕ) (p : List (List ℕ × ℕ)) (x : List ℕ) (k : ℕ) (t : List ℕ × ℕ) (sum value next : ℕ) → k < length p → t ≡ get_or p k t →
    value ≡ mono_value t.0 x % m → next ≡ (sum + (t.1 * value) % m) % m → sum ≡ value_at (take k p) x % m → next ≡ value_at (take (k + 1) p) x % m
value_more m p x k t sum value next low is made added so_far =
    let more : take (k + 1) p ≡ take k p ++ t ∷ [] = take_more p k t low ∙ ap (λ u. take k p ++ u ∷ []) (sym is) in
    let last : value_at (t ∷ []) x ≡ t.1 * mono_value t.0 x = omega arith in
    let term : ((t.1 * value) % m) % m ≡ (t.1 * mono_value t.0 x) % m = mod-mod (t.1 * value) m ∙ ap (λ v. (t.1 * v) % m) made ∙ mul-mod_second t.1 (mono_value t.0 x) m in
    added ∙ add-cong m sum (value_at (take k p) x) ((t.1 * value) % m) (t.1 * mono_value t.0 x) (ap (λ n. n % m) so_far ∙ mod-mod (value_at (take k p) x) m) term ∙
    ap (λ n. (value_at (take k p) x + n) % m) (sym last) ∙ ap (λ n. n % m) (sym (value_at-append (take k p) (t ∷ []) x)) ∙ ap (λ q. value_at q x % m) (sym more)
