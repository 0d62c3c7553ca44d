-- Rows as functions of a place: what sums of multiples of rows do to what solves them.
use Rattle.std.proofs.Common.{◌≡◌, ◌≢◌, ℕ, zero, suc, ◌+◌, ◌*◌, ◌-◌, ◌%◌, ◌<◌, ◌↔◌, inl, inr, refl, sym, ◌∙◌, ap, arith}
use Rattle.std.proofs.lemmas.Bool.{cases_lt}
use Rattle.std.proofs.Math.Nat.{mod-eq_of_lt, mod-mod, zero-mod, mod_self, add-mod-mod}
use Rattle.prime_field.specs.Sum.{sum_to}
use Rattle.elim_core.specs.Rows.{Meets, AllMet, AreResidues, put}
use Rattle.prime_field.proofs.Residues.{add-cong, mul-cong, cancel}
use Rattle.prime_field.proofs.Sums.{sum-same, sum-cong, sum-add_scaled, sum-scaled, sum_differ}

pub put-same : {A : Type 0} (j : ℕ) (v : A) (z : ℕ → A) → put j v z j ≡ v
unfolding put
put-same zero v z = refl
put-same (suc j) v z = put-same j v (λ i. z (suc i))

pub put-other : {A : Type 0} (j k : ℕ) (v : A) (z : ℕ → A) → k ≢ j → put j v z k ≡ z k
unfolding put
put-other zero zero v z other = absurd (other refl)
put-other zero (suc k) v z other = refl
put-other (suc j) zero v z other = refl
put-other (suc j) (suc k) v z other = put-other j k v (λ i. z (suc i)) (λ e. other (ap suc e))

-- a row holds at what agrees with z wherever the row is not 0
pub Meets-same : (m u : ℕ) (row z y : ℕ → ℕ) → ((k : ℕ) → k < u → row k * z k ≡ row k * y k) → Meets m u row z → Meets m u row y
Meets-same m u row z y same met =
    ap (λ t. t % m) (sym (sum-same u (λ k. row k * z k) (λ k. row k * y k) same)) ∙ met

-- rows with the same entries hold at the same z
pub Meets-row : (m u : ℕ) (r t z : ℕ → ℕ) → ((k : ℕ) → k < u + 1 → t k ≡ r k) → Meets m u r z → Meets m u t z
Meets-row m u r t z same met =
    ap (λ x. x % m) (sum-same u (λ k. t k * z k) (λ k. r k * z k) (λ k low. ap (λ x. x * z k) (same k (omega arith)))) ∙
    met ∙
    sym (same u (omega arith))

-- rows with the same entries hold at the same lists
pub rows_same : (m u : ℕ) (old now : ℕ → ℕ → ℕ) → ((j k : ℕ) → j < u → k < u + 1 → now j k ≡ old j k) → (z : ℕ → ℕ) → AllMet m u old z → AllMet m u now z
rows_same m u old now same z met j low = Meets-row m u (old j) (now j) z (λ k k_low. same j k low k_low) (met j low)

-- a row of zeros holds everywhere
pub Meets-zeros : (m u : ℕ) (row z : ℕ → ℕ) → ((k : ℕ) → k < u → row k ≡ 0) → sum_to u (λ k. row k * z k) % m ≡ 0
Meets-zeros m u row z zeros =
    ap (λ x. x % m) (sum-same u (λ k. row k * z k) (λ k. 0 * 0) (λ k low. ap (λ x. x * z k) (zeros k low) ∙ omega arith)) ∙
    ap (λ x. x % m) (sum-scaled u 0 (λ k. 0) ∙ omega arith) ∙
    zero-mod m

-- the sum for a row to which a multiple of another was added
pub sum-added : (m u c : ℕ) (r s t z : ℕ → ℕ) → ((k : ℕ) → k < u + 1 → t k ≡ (r k + c * s k) % m) → sum_to u (λ k. t k * z k) % m ≡ (sum_to u (λ k. r k * z k) + c * sum_to u (λ k. s k * z k)) % m
sum-added m u c r s t z added =
    sum-cong m u (λ k. t k * z k) (λ k. r k * z k + c * (s k * z k)) (λ k low.
    mul-cong m (t k) (r k + c * s k) (z k) (z k) (ap (λ x. x % m) (added k (omega arith)) ∙ mod-mod (r k + c * s k) m) refl ∙
    ap (λ x. x % m) (omega arith)) ∙
    ap (λ x. x % m) (sum-add_scaled u c (λ k. r k * z k) (λ k. s k * z k))

-- where two rows hold, the sum of the one and a multiple of the other holds
pub Meets-added : (m u c : ℕ) (r s t z : ℕ → ℕ) → ((k : ℕ) → k < u + 1 → t k ≡ (r k + c * s k) % m) → r u < m → Meets m u s z → (Meets m u t z ↔ Meets m u r z)
Meets-added m u c r s t z added low s_met = (down, up)
  where
    at_s : sum_to u (λ k. s k * z k) % m ≡ s u % m
    at_s = sym (mod-mod (sum_to u (λ k. s k * z k)) m) ∙ ap (λ x. x % m) s_met

    down : Meets m u t z → Meets m u r z
    down t_met =
        cancel m (sum_to u (λ k. r k * z k)) (r u) (c * s u) (
        add-cong m (sum_to u (λ k. r k * z k)) (sum_to u (λ k. r k * z k)) (c * s u) (c * sum_to u (λ k. s k * z k)) refl
        (mul-cong m c c (s u) (sum_to u (λ k. s k * z k)) refl (sym at_s)) ∙
        sym (sum-added m u c r s t z added) ∙
        t_met ∙
        added u (omega arith)) ∙
        mod-eq_of_lt low

    up : Meets m u r z → Meets m u t z
    up r_met =
        sum-added m u c r s t z added ∙
        add-cong m (sum_to u (λ k. r k * z k)) (r u) (c * sum_to u (λ k. s k * z k)) (c * s u)
        (r_met ∙ sym (mod-eq_of_lt low))
        (mul-cong m c c (sum_to u (λ k. s k * z k)) (s u) refl at_s) ∙
        sym (added u (omega arith))

-- a multiple of a row that holds holds
pub Meets-scaled : (m u c : ℕ) (r t z : ℕ → ℕ) → ((k : ℕ) → k < u + 1 → t k ≡ (c * r k) % m) → Meets m u r z → Meets m u t z
Meets-scaled m u c r t z scaled met =
    sum-cong m u (λ k. t k * z k) (λ k. c * (r k * z k)) (λ k low.
    mul-cong m (t k) (c * r k) (z k) (z k) (ap (λ x. x % m) (scaled k (omega arith)) ∙ mod-mod (c * r k) m) refl ∙
    ap (λ x. x % m) (omega arith)) ∙
    ap (λ x. x % m) (sum-scaled u c (λ k. r k * z k)) ∙
    mul-cong m c c (sum_to u (λ k. r k * z k)) (r u) refl
    (sym (mod-mod (sum_to u (λ k. r k * z k)) m) ∙ ap (λ x. x % m) met) ∙
    sym (scaled u (omega arith))

-- a row holds where a multiple of it by a unit does
pub Meets-unscaled : (m u c b : ℕ) (r t z : ℕ → ℕ) → 1 < m → (c * b) % m ≡ 1 → ((k : ℕ) → k < u + 1 → r k < m) → ((k : ℕ) → k < u + 1 → t k ≡ (c * r k) % m) → Meets m u t z → Meets m u r z
Meets-unscaled m u c b r t z large unit low scaled met =
    Meets-scaled m u b t r z (λ k k_low.
    sym (mod-eq_of_lt (low k k_low)) ∙
    ap (λ x. x % m) (omega arith) ∙
    mul-cong m 1 (c * b) (r k) (r k) (mod-eq_of_lt large ∙ sym unit) refl ∙
    ap (λ x. x % m) (omega arith) ∙
    mul-cong m b b (c * r k) (t k) refl (sym (mod-mod (c * r k) m) ∙ ap (λ x. x % m) (sym (scaled k k_low)))) met

-- a row that begins at place j with 1 tells z_j by the later ones
pub row_tells : (m u j : ℕ) (row z y : ℕ → ℕ) → j < u → AreResidues m u z → AreResidues m u y → ((k : ℕ) → k < j → row k ≡ 0) → row j ≡ 1 → ((k : ℕ) → j < k → k < u → z k ≡ y k) → Meets m u row z → Meets m u row y → z j ≡ y j
row_tells m u j row z y j_low z_low y_low begins one later z_met y_met =
    sym (mod-eq_of_lt (z_low j j_low)) ∙
    cancel m (z j) (y j) (row u) (
    sym (add-cong m (z j) (z j) (sum_to u (λ k. row k * y k)) (row u) refl (stripped y y_met)) ∙
    ap (λ x. x % m) sums ∙
    add-cong m (y j) (y j) (sum_to u (λ k. row k * z k)) (row u) refl (stripped z z_met)) ∙
    mod-eq_of_lt (y_low j j_low)
  where
    stripped : (w : ℕ → ℕ) → Meets m u row w → sum_to u (λ k. row k * w k) % m ≡ row u % m
    stripped w met = sym (mod-mod (sum_to u (λ k. row k * w k)) m) ∙ ap (λ x. x % m) met

    elsewhere : (k : ℕ) → k < u → k ≢ j → row k * z k ≡ row k * y k
    elsewhere k k_low other =
        elim (cases_lt k j) [
          | inl before ↦ ap (λ x. x * z k) (begins k before) ∙ omega arith ∙ sym (ap (λ x. x * y k) (begins k before))
          | inr after ↦ ap (λ x. row k * x) (later k (omega arith) k_low)
        ]

    sums : z j + sum_to u (λ k. row k * y k) ≡ y j + sum_to u (λ k. row k * z k)
    sums =
        let both = sum_differ u j (λ k. row k * z k) (λ k. row k * y k) j_low elsewhere in
        omega (arith, both, ap (λ x. x * z j) one, ap (λ x. x * y j) one)

-- a row with 1 at place j holds once z_j is what is left of its right side
pub row_solved : (m u j s : ℕ) (row y z : ℕ → ℕ) → 0 < m → j < u → row j ≡ 1 → row u < m → y j ≡ 0 → ((k : ℕ) → k < u → k ≢ j → z k ≡ y k) → s < m → s ≡ sum_to u (λ k. row k * y k) % m → z j ≡ (row u + (m - s)) % m → Meets m u row z
row_solved m u j s row y z some j_low one low none others s_low s_is left =
    ap (λ x. x % m) sums ∙
    add-cong m (z j) (row u + (m - s)) (sum_to u (λ k. row k * y k)) s
    (ap (λ x. x % m) left ∙ mod-mod (row u + (m - s)) m)
    (sym (mod-mod (sum_to u (λ k. row k * y k)) m) ∙ ap (λ x. x % m) (sym s_is)) ∙
    ap (λ x. x % m) (omega arith) ∙
    sym (add-mod-mod (row u) m m) ∙
    ap (λ x. (row u + x) % m) (mod_self m) ∙
    ap (λ x. x % m) (omega arith) ∙
    mod-eq_of_lt low
  where
    sums : sum_to u (λ k. row k * z k) ≡ z j + sum_to u (λ k. row k * y k)
    sums =
        let both = sum_differ u j (λ k. row k * z k) (λ k. row k * y k) j_low (λ k k_low other. ap (λ x. row k * x) (others k k_low other)) in
        omega (arith, both, ap (λ x. x * z j) one, ap (λ x. row j * x) none)
