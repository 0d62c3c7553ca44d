-- What one multiple less, and all of them, do to a remainder and its factor.
use Rattle.std.proofs.Common.{◌≡◌, ℕ, suc, ◌+◌, ◌-◌, ◌*◌, ◌%◌, ◌<◌, ◌≤◌, List, [], ◌∷◌, length, slice_index, refl, sym, ◌∙◌, ap, arith, inl, inr, mul-one, get_or-set_other, get_or-set_same}
use Rattle.std.proofs.Math.ListN.{set}
use Rattle.std.proofs.Math.Nat.{zero-mod, mod-mod, mod-eq_of_lt}
use Rattle.std.proofs.lemmas.Bool.{cases_eq, cases_lt}
use Rattle.prime_field.specs.Residue.{IsUnit}
use Rattle.prime_field.proofs.Residues.{add-cong, mul-cong, cancel}
use Rattle.prime_field.proofs.Units.{unit-cong, unit-mul}
use Rattle.univariate.specs.Univariate.{univariate_value}
use Rattle.univariate.specs.Coefficients.{sum_of, multiple, raised, IsBelow, Alike}
use Rattle.univariate.proofs.Coefficients.{at-beyond, at-sum, at-multiple, at-raised, value-sum, value-multiple, value-raised, value-alike, same_of_difference, difference_of_same}
use Rattle.univariate.proofs.Counting.{zero-times}
use Rattle.univariate.proofs.Places.{at-raised_beyond}
use Rattle.thiele_interp.specs.Pairs.{AgreesAt}

-- an entry to which a raised multiple is added
entry-added : (m c j : ℕ) (p q made : List ℕ) → Alike m made (sum_of p (multiple c (raised j q))) → (i : ℕ) → slice_index made i % m ≡ (slice_index p i + c * slice_index (raised j q) i) % m
entry-added m c j p q made alike i =
    alike i ∙ ap (λ t. t % m) (at-sum p (multiple c (raised j q)) i ∙ ap (λ t. slice_index p i + t) (at-multiple c (raised j q) i))

-- past the end of what is added an entry stays as it is
pub entry-kept : (m c j : ℕ) (p q made : List ℕ) → Alike m made (sum_of p (multiple c (raised j q))) → (i : ℕ) → j + length q ≤ i → slice_index made i % m ≡ slice_index p i % m
entry-kept m c j p q made alike i beyond =
    entry-added m c j p q made alike i ∙
    ap (λ t. (slice_index p i + c * t) % m) (at-raised_beyond j q i beyond) ∙ ap (λ t. t % m) (omega arith)

-- at its last place the entry becomes 0
pub below-taken : (m c j inverse : ℕ) (p q made : List ℕ) → 0 < length q → (slice_index q (length q - 1) * inverse) % m ≡ 1 →
    (c + slice_index p (length q - 1 + j) * inverse) % m ≡ 0 → IsBelow m (length q + j) p →
    Alike m made (sum_of p (multiple c (raised j q))) → IsBelow m (length q - 1 + j) made
below-taken m c j inverse p q made some unit opposite below alike i from =
    elim (cases_eq i (length q - 1 + j)) [
      | inl last ↦
          let place = length q - 1 + j in
          let a = slice_index p place in
          let b = slice_index q (length q - 1) in
          let one : 1 % m ≡ 1 = ap (λ t. t % m) (sym unit) ∙ mod-mod (b * inverse) m ∙ unit in
          ap (λ x. slice_index made x % m) last ∙
          entry-added m c j p q made alike place ∙
          ap (λ t. (a + c * t) % m) (at-raised j q place (length q - 1) (omega arith)) ∙
          add-cong m a (a * (b * inverse)) (c * b) (c * b)
          (ap (λ t. t % m) (sym (mul-one a)) ∙ mul-cong m a a 1 (b * inverse) refl (one ∙ sym unit)) refl ∙
          ap (λ t. t % m) (omega arith) ∙
          zero-times m b (c + a * inverse) opposite
      | inr other ↦
          entry-kept m c j p q made alike i (omega arith) ∙ below i (omega arith)
    ]

-- what is opposite to a unit is a unit, k being m - 1
opposite-unit : (m k c x : ℕ) → suc k ≡ m → 1 < m → (c + x) % m ≡ 0 → IsUnit m x → IsUnit m c
opposite-unit m k c x predecessor large opposite unit =
    unit-cong m (k * x) c
    (cancel m (k * x) c x
    (ap (λ t. t % m) (omega arith) ∙ difference_of_same m k x x predecessor refl ∙ sym opposite))
    (unit-mul m k x
    (k, omega arith, same_of_difference m k (k * k) 1 predecessor (ap (λ t. t % m) (omega arith) ∙ difference_of_same m k k k predecessor refl) ∙ mod-eq_of_lt large)
    unit)

-- the first multiple gives the factor its leading coefficient
pub unit-taken : (m k c j inverse a : ℕ) (p q made : List ℕ) → suc k ≡ m → 1 < m → 0 < length q → IsUnit m (slice_index q (length q - 1)) → IsUnit m a → IsUnit m inverse →
    (c + a * inverse) % m ≡ 0 → IsBelow m (length q - 1 + j) p → Alike m made (sum_of p (multiple c (raised j q))) → IsUnit m (slice_index made (length q - 1 + j))
unit-taken m k c j inverse a p q made predecessor large some unit a_unit inverse_unit opposite below alike =
    let place = length q - 1 + j in
    unit-cong m (c * slice_index q (length q - 1)) (slice_index made place)
    (sym (entry-added m c j p q made alike place ∙
    add-cong m (slice_index p place) 0 (c * slice_index (raised j q) place) (c * slice_index q (length q - 1)) (below place (omega arith) ∙ sym (zero-mod m))
    (ap (λ t. (c * t) % m) (at-raised j q place (length q - 1) (omega arith))) ∙
    ap (λ t. t % m) (omega arith)))
    (unit-mul m c (slice_index q (length q - 1)) (opposite-unit m k c (a * inverse) predecessor large opposite (unit-mul m a inverse a_unit inverse_unit)) unit)

-- a bound past what is added
pub below-added : (m c j e : ℕ) (p q made : List ℕ) → length q + j ≤ e → IsBelow m e p → Alike m made (sum_of p (multiple c (raised j q))) → IsBelow m e made
below-added m c j e p q made short below alike i from =
    entry-kept m c j p q made alike i (omega arith) ∙ below i from

-- the value once a raised multiple is added
value-added : (m c j : ℕ) (p q made : List ℕ) (x : ℕ) → Alike m made (sum_of p (multiple c (raised j q))) →
    univariate_value made x % m ≡ (univariate_value p x + c * (univariate_value (raised j (1 ∷ [])) x * univariate_value q x)) % m
value-added m c j p q made x alike =
    value-alike m made (sum_of p (multiple c (raised j q))) x alike ∙
    ap (λ t. t % m) (value-sum p (multiple c (raised j q)) x ∙ ap (λ t. univariate_value p x + t) (value-multiple c (raised j q) x ∙ ap (λ t. c * t) (value-raised j q x)))

-- a pair to which a multiple of an agreeing pair is added agrees as before
pub agrees-added : (m c j n : ℕ) (t v : ℕ → ℕ) (above rest earlier factor above' earlier' : List ℕ) →
    Alike m above' (sum_of above (multiple c (raised j rest))) → Alike m earlier' (sum_of earlier (multiple c (raised j factor))) →
    AgreesAt m n t v rest factor → AgreesAt m n t v above earlier → AgreesAt m n t v above' earlier'
agrees-added m c j n t v above rest earlier factor above' earlier' above_alike earlier_alike agrees above_agrees i low =
    let x = t i in
    let y = univariate_value (raised j (1 ∷ [])) x in
    let e = univariate_value earlier x in
    let f = univariate_value factor x in
    value-added m c j above rest above' x above_alike ∙
    add-cong m (univariate_value above x) (v i * e) (c * (y * univariate_value rest x)) (c * (y * (v i * f))) (above_agrees i low)
    (mul-cong m c c (y * univariate_value rest x) (y * (v i * f)) refl (mul-cong m y y (univariate_value rest x) (v i * f) refl (agrees i low))) ∙
    ap (λ s. s % m) (omega arith) ∙
    mul-cong m (v i) (v i) (e + c * (y * f)) (univariate_value earlier' x) refl (sym (value-added m c j earlier factor earlier' x earlier_alike))

-- an entry once a multiple moved up by a place was taken away, and what makes it 0
pub near-entry : (m high low next inverse last : ℕ) (above rest : List ℕ) → 0 < last → next ≡ (slice_index above last + high * slice_index rest (last - 1)) % m →
    (low + next * inverse) % m ≡ 0 → (low + slice_index (sum_of above (multiple high (raised 1 rest))) (last + 0) * inverse) % m ≡ 0
near-entry m high low next inverse last above rest some is opposite =
    let place : last + 0 ≡ last = omega arith in
    let entry : slice_index (sum_of above (multiple high (raised 1 rest))) last ≡ slice_index above last + high * slice_index rest (last - 1) =
    at-sum above (multiple high (raised 1 rest)) last ∙
    ap (λ t. slice_index above last + t) (at-multiple high (raised 1 rest) last ∙ ap (λ t. high * t) (at-raised 1 rest last (last - 1) (omega arith))) in
    ap (λ i. (low + slice_index (sum_of above (multiple high (raised 1 rest))) i * inverse) % m) place ∙
    add-cong m low low (slice_index (sum_of above (multiple high (raised 1 rest))) last * inverse) (next * inverse) refl
    (mul-cong m (slice_index (sum_of above (multiple high (raised 1 rest))) last) next inverse inverse
    (ap (λ t. t % m) entry ∙ sym (ap (λ t. t % m) is ∙ mod-mod (slice_index above last + high * slice_index rest (last - 1)) m)) refl) ∙
    opposite

-- entries to which two neighbouring multiples were added, and nothing past them
pub two-added : (m low high last : ℕ) (p q made : List ℕ) → length q < length made →
    last % m ≡ (slice_index p (length q) + high * slice_index (0 ∷ q) (length q)) % m →
    ((i : ℕ) → i < length q → slice_index made i % m ≡ (slice_index p i + high * slice_index (0 ∷ q) i + low * slice_index q i) % m) →
    ((i : ℕ) → length q ≤ i → slice_index made i ≡ slice_index p i) →
    Alike m (set made (length q) last) (sum_of (sum_of p (multiple high (raised 1 q))) (multiple low (raised 0 q)))
two-added m low high last p q made room last_is done rest i =
    elim (cases_eq i (length q)) [
      | inl same ↦
          let none : slice_index q (length q) ≡ 0 = at-beyond q (length q) (omega arith) in
          rw (same, get_or-set_same)
          (last_is ∙
          ap (λ t. t % m) (omega arith ∙ ap (λ t. slice_index p (length q) + high * slice_index (0 ∷ q) (length q) + low * t) (sym none)) ∙
          ap (λ t. t % m) (sym (whole (length q))))
      | inr other ↦
          rw get_or-set_other
          (elim (cases_lt i (length q)) [
            | inl within ↦ done i within ∙ ap (λ t. t % m) (sym (whole i))
            | inr past ↦
                let none : slice_index q i ≡ 0 = at-beyond q i past in
                let nothing : slice_index (0 ∷ q) i ≡ 0 = at-beyond (0 ∷ q) i (omega arith) in
                ap (λ t. t % m)
                (rest i past ∙ omega arith ∙
                ap (λ t. slice_index p i + high * t + low * 0) (sym nothing) ∙
                ap (λ t. slice_index p i + high * slice_index (0 ∷ q) i + low * t) (sym none) ∙ sym (whole i))
          ])
    ]
  where
    whole : (i : ℕ) → slice_index (sum_of (sum_of p (multiple high (raised 1 q))) (multiple low (raised 0 q))) i ≡ slice_index p i + high * slice_index (0 ∷ q) i + low * slice_index q i
    whole i =
        at-sum (sum_of p (multiple high (raised 1 q))) (multiple low (raised 0 q)) i ∙
        omega (arith, at-sum p (multiple high (raised 1 q)) i, at-multiple high (raised 1 q) i, at-multiple low (raised 0 q) i)
