-- What the equations of an expansion say, term by term.
use Rattle.std.proofs.Common.{◌≡◌, ◌≢◌, ℕ, zero, suc, ◌+◌, ◌-◌, ◌*◌, ◌%◌, ◌<◌, ◌≤◌, List, ◌∷◌, length, take, drop, slice_index, refl, sym, ◌∙◌, ap, arith, inl, inr, get_or-take, mul-one}
use Rattle.std.proofs.Math.Nat.{zero-mod, mod_self, mod-mod, mod-lt, mod-eq_of_lt}
use Rattle.std.proofs.lemmas.Bool.{cases_eq, cases_lt}
use Rattle.std.proofs.lemmas.Bool.Decides.{nat_tests}
use Rattle.std.proofs.lemmas.List.{ext_get_or}
use Rattle.prime_field.specs.Residue.{IsUnit}
use Rattle.prime_field.proofs.Residues.{add-cong, mul-cong, cancel}
use Rattle.prime_field.proofs.Units.{cancel_unit}
use Rattle.univariate.specs.Coefficients.{product_of, AreResidues}
use Rattle.laurent_node.specs.Expansion.{numerator_at, IsLeastExponent, IsExpansion}
use Rattle.laurent_node.proofs.Products.{product-low, product-raised_at, shifted-prefix}

-- there is one least exponent
pub least_same : (p : List ℕ) (e f : ℕ) → IsLeastExponent e p → IsLeastExponent f p → e ≡ f
least_same p e f one other =
    elim (cases_lt e f) [
      | inl low ↦ absurd (one.0 (other.1 e low))
      | inr high ↦
          elim (cases_eq e f) [
            | inl same ↦ same
            | inr apart ↦ absurd (other.0 (one.1 f (omega arith)))
          ]
    ]

-- two expansions, as far as they are the same
prefix_same : (m : ℕ) (num den : List ℕ) (e lo : ℕ) (c d : List ℕ) → IsLeastExponent e den → IsUnit m (slice_index den e) → length c ≡ length d →
    IsExpansion m num den e lo c → IsExpansion m num den e lo d → (n : ℕ) → n ≤ length c → (k : ℕ) → k < n → slice_index c k ≡ slice_index d k
prefix_same m num den e lo c d least unit same left right zero within k low = absurd (omega arith)
prefix_same m num den e lo c d least unit same left right (suc n) within k low =
    elim (cases_eq k n) [
      | inl last ↦
          rw last
          (sym (mod-eq_of_lt (left.residues n)) ∙
          cancel_unit m (slice_index c n) (slice_index d n) (slice_index den e) unit
          (ap (λ t. t % m) (omega arith) ∙
          cancel m (slice_index den e * slice_index c n) (slice_index den e * slice_index d n) (slice_index (0 ∷ product_of (drop (suc e) den) c) n)
          (ap (λ t. t % m) (sym (product-raised_at den e lo c n (lo + e + n) least.1 refl)) ∙
          sym (left.equations (lo + e + n) (omega arith)) ∙ right.equations (lo + e + n) (omega arith) ∙
          ap (λ t. t % m) (product-raised_at den e lo d n (lo + e + n) least.1 refl) ∙
          ap (λ t. (slice_index den e * slice_index d n + t) % m)
          (sym (shifted-prefix (drop (suc e) den) c d n (prefix_same m num den e lo c d least unit same left right n (omega arith))))) ∙
          ap (λ t. t % m) (omega arith)) ∙
          mod-eq_of_lt (right.residues n))
      | inr other ↦ prefix_same m num den e lo c d least unit same left right n (omega arith) k (omega arith)
    ]

pub expansions_same : (m : ℕ) (num den : List ℕ) (e lo : ℕ) (c d : List ℕ) → IsLeastExponent e den → IsUnit m (slice_index den e) → length c ≡ length d →
    IsExpansion m num den e lo c → IsExpansion m num den e lo d → c ≡ d
expansions_same m num den e lo c d least unit same left right =
    ext_get_or 0 c d same (prefix_same m num den e lo c d least unit same left right (length c) (omega arith))

-- the numerator below order 0 and from there on
numerator-low : (num : List ℕ) (j : ℕ) → j < 64 → numerator_at num j ≡ 0
numerator-low num j low = grind (arith, nat_tests)

numerator-high : (num : List ℕ) (j : ℕ) → 64 ≤ j → numerator_at num j ≡ slice_index num (j - 64)
numerator-high num j high = grind (arith, nat_tests)

-- where the numerator has nothing below a place
numerator-none : (num : List ℕ) (first j : ℕ) → ((k : ℕ) → k + 64 < first → slice_index num k ≡ 0) → j < first → numerator_at num j ≡ 0
numerator-none num first j zeros low =
    elim (cases_lt j 64) [
      | inl below ↦ numerator-low num j below
      | inr from ↦ numerator-high num j from ∙ zeros (j - 64) (omega arith)
    ]

-- one term satisfies its equation
term_holds : (m d inverse n x c : ℕ) → (d * inverse) % m ≡ 1 → x ≤ m → c ≡ ((n + (m - x)) * inverse) % m → (d * c + x) % m ≡ n % m
term_holds m d inverse n x c unit low is =
    add-cong m (d * c) (n + (m - x)) x x
    (mul-cong m d d c ((n + (m - x)) * inverse) refl (ap (λ t. t % m) is ∙ mod-mod ((n + (m - x)) * inverse) m) ∙
    ap (λ t. t % m) (omega arith) ∙
    mul-cong m (n + (m - x)) (n + (m - x)) (d * inverse) 1 refl (unit ∙ sym (ap (λ t. t % m) (sym unit) ∙ mod-mod (d * inverse) m ∙ unit)) ∙
    ap (λ t. t % m) (mul-one (n + (m - x)))) refl ∙
    ap (λ t. t % m) (omega arith) ∙
    add-cong m n n m 0 refl (mod_self m ∙ sym (zero-mod m)) ∙ ap (λ t. t % m) (omega arith)

-- terms that are made one after the other are the expansion
pub terms-expand : (m : ℕ) (num den : List ℕ) (e lo inverse : ℕ) (c : List ℕ) → 0 < m → IsLeastExponent e den → ((k : ℕ) → k + 64 < lo + e → slice_index num k ≡ 0) →
    (slice_index den e * inverse) % m ≡ 1 → AreResidues m c →
    ((i : ℕ) → i < length c → slice_index c i ≡
    ((numerator_at num (lo + e + i) + (m - slice_index (0 ∷ product_of (drop (suc e) den) (take i c)) i % m)) * inverse) % m) → IsExpansion m num den e lo c
terms-expand m num den e lo inverse c some least zeros unit residues terms =
    record {
      residues = residues;
      equations = λ j within.
          elim (cases_lt j (lo + e)) [
            | inl low ↦ ap (λ t. t % m) (numerator-none num (lo + e) j zeros low ∙ sym (product-low den e lo c j least.1 low))
            | inr high ↦
                let i = j - (lo + e) in
                let place : j ≡ lo + e + i = omega arith in
                let x = slice_index (0 ∷ product_of (drop (suc e) den) c) i in
                ap (λ k. numerator_at num k % m) place ∙
                sym (term_holds m (slice_index den e) inverse (numerator_at num (lo + e + i)) (x % m) (slice_index c i) unit (omega (arith, mod-lt x some))
                (terms i (omega arith) ∙
                ap (λ y. ((numerator_at num (lo + e + i) + (m - y % m)) * inverse) % m) (shifted-prefix (drop (suc e) den) (take i c) c i (λ k low. get_or-take i c k 0 low)))) ∙
                add-cong m (slice_index den e * slice_index c i) (slice_index den e * slice_index c i) (x % m) x refl (mod-mod x m) ∙
                ap (λ t. t % m) (sym (product-raised_at den e lo c i j least.1 place))
          ];
    }

-- no numbers satisfy the equations where the numerator has something below the place
pub none-expand : (m : ℕ) (num den : List ℕ) (e lo : ℕ) (c : List ℕ) (k : ℕ) → AreResidues m num → IsLeastExponent e den → k + 64 < lo + e → slice_index num k ≢ 0 → IsExpansion m num den e lo c → ⊥
none-expand m num den e lo c k residues least low some expansion =
    let high : 64 ≤ k + 64 = omega arith in
    let back : k + 64 - 64 ≡ k = omega arith in
    some
    (sym (mod-eq_of_lt (residues k)) ∙
    ap (λ t. t % m) (ap (slice_index num) (sym back) ∙ sym (numerator-high num (k + 64) high)) ∙
    expansion.equations (k + 64) (omega arith) ∙
    ap (λ t. t % m) (product-low den e lo c (k + 64) least.1 low) ∙ zero-mod m)
