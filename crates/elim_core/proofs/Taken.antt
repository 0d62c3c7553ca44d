-- What taking kept rows from a row does to its entries, and to what solves it.
use Rattle.std.proofs.Common.{◌≡◌, ◌≢◌, ℕ, zero, suc, ◌+◌, ◌-◌, ◌*◌, ◌%◌, ◌<◌, ◌≤◌, ◌↔◌, List, [], ◌∷◌, length, get_or, inl, inr, refl, sym, ◌∙◌, ap, subst, arith, get_or-set_other, get_or-set_same, add-zero, add-one}
use Rattle.std.proofs.Math.ListN.{set, length-set}
use Rattle.std.proofs.Math.Nat.{mod-lt, mod-add-mod, mod-eq_of_lt}
use Rattle.std.proofs.lemmas.Bool.{cases_eq, cases_lt}
use Rattle.prime_field.proofs.Sums.{sum-same}
use Rattle.elim_core.specs.Rows.{Meets, AllMet}
use Rattle.elim_core.specs.Layout.{IsLaidOut, IsRow, IsSpan}
use Rattle.elim_core.specs.Multiples.{AreSlots, entry_in, multiples, IsAdded, IsGroup}
use Rattle.elim_core.specs.declared.slots.Slots.{Slots}
use Rattle.elim_core.specs.declared.group.Group.{Group}
use Rattle.elim_core.proofs.Systems.{Meets-row, Meets-added}
use Rattle.elim_core.proofs.Entries.{entry-before, entry-right, entry-beyond}
use Rattle.elim_core.proofs.Added.{nothing_added, added-earlier, added-both, added-same, added-span}

pub right_low : (m u : ℕ) (rows ends : List ℕ) (j : ℕ) → IsLaidOut m u rows ends → j < u → get_or ends j 0 ≢ 0 → get_or rows (j * (u + 1) + j) 0 < m
right_low m u rows ends j laid low some =
    subst (λ (x : ℕ). x < m) (entry-right u rows ends j some low) (laid.residues j u low (omega arith))

-- the right side of the row in slot j is the word at place j of the slot
pub right-stored : (s : Slots) (j : ℕ) → get_or s.ends.now j 0 ≢ 0 → j < s.unknowns → entry_in s j s.unknowns ≡ get_or s.rows.now (j * (s.unknowns + 2)) 0
right-stored s j some low =
    let same : j * (s.unknowns + 1) + j ≡ j * (s.unknowns + 2) = omega arith in
    entry-right s.unknowns s.rows.now s.ends.now j some low ∙ ap (λ i. get_or s.rows.now i 0) same

-- the words of an earlier slot stand before those of a later one
pub slot_before : (j p u k : ℕ) → j < p → k < u + 1 → j * (u + 1) + k < p * (u + 1)
slot_before j p u k before low =
    let d = p - j - 1 in
    let is : p ≡ j + 1 + d = omega arith in
    subst (λ (x : ℕ). j * (u + 1) + k < x * (u + 1)) (sym is) (bound d)
  where
    bound : (d : ℕ) → j * (u + 1) + k < (j + 1 + d) * (u + 1)
    bound d = omega arith

-- what is before the slot of a row is 0 in it, and so is a sum of multiples of later rows there
pub multiples-before : (s : Slots) (j : ℕ) (factors : List ℕ) (n k : ℕ) → k < j → multiples s j factors n k ≡ 0
multiples-before s j factors zero k before = refl
multiples-before s j factors (suc n) k before =
    omega (arith, multiples-before s j factors n k before, ap (λ x. get_or factors n 0 * x) (entry-before s.unknowns s.rows.now s.ends.now (j + n) k (omega arith)))

-- and what is beyond the ends of all
pub multiples-beyond : (m : ℕ) (s : Slots) (j : ℕ) (factors : List ℕ) (n k : ℕ) → AreSlots m s → j + n ≤ s.unknowns → k < s.unknowns →
    ((t : ℕ) → t < n → get_or s.ends.now (j + t) 0 ≢ 0) → ((t : ℕ) → t < n → get_or s.ends.now (j + t) 0 < k + 1) → multiples s j factors n k ≡ 0
multiples-beyond m s j factors zero k are within k_low used past = refl
multiples-beyond m s j factors (suc n) k are within k_low used past =
    omega (
      arith,
      multiples-beyond m s j factors n k are (omega arith) k_low (λ t low. used t (omega arith)) (λ t low. past t (omega arith)),
      ap (λ x. get_or factors n 0 * x) (entry-beyond s.unknowns s.rows.now s.ends.now (j + n) k
          (omega (arith, are.laid_out.after (j + n) (omega arith) (used n (omega arith)), past n (omega arith))) (past n (omega arith)) k_low),
    )

-- as of one row
pub row-beyond : (m : ℕ) (s : Slots) (j factor k : ℕ) → AreSlots m s → j < k → get_or s.ends.now j 0 < k + 1 → k < s.unknowns → factor * entry_in s j k ≡ 0
row-beyond m s j factor k are after past low =
    omega (arith, ap (λ x. factor * x) (entry-beyond s.unknowns s.rows.now s.ends.now j k after past low))

-- the same factors make the same sums
pub multiples-same : (s : Slots) (j : ℕ) (factors others : List ℕ) (n k : ℕ) → ((t : ℕ) → t < n → get_or factors t 0 ≡ get_or others t 0) → multiples s j factors n k ≡ multiples s j others n k
multiples-same s j factors others n k same =
    sum-same n (λ t. get_or factors t 0 * entry_in s (j + t) k) (λ t. get_or others t 0 * entry_in s (j + t) k)
    (λ t low. ap (λ x. x * entry_in s (j + t) k) (same t low))

-- one row alone
pub one_multiple : (s : Slots) (j factor k : ℕ) → multiples s j (factor ∷ []) 1 k ≡ factor * entry_in s j k
one_multiple s j factor k = omega (arith, ap (λ t. factor * entry_in s t k) (add-zero j))

-- where the kept rows hold, a row holds once multiples of them were added to it as it did before
pub multiples-met : (m : ℕ) (s : Slots) (j : ℕ) (factors row now : List ℕ) (n : ℕ) → IsRow m s.unknowns row → j + n ≤ s.unknowns → IsAdded m row now j (s.unknowns + 1) (multiples s j factors n) →
    (z : ℕ → ℕ) → AllMet m s.unknowns (entry_in s) z → (Meets m s.unknowns (λ k. get_or now k 0) z ↔ Meets m s.unknowns (λ k. get_or row k 0) z)
multiples-met m s j factors row now n low within added z met =
    by_count n (λ k. get_or now k 0) within (λ k k_low.
    elim (cases_lt k j) [
      | inl first ↦
          added.before k first ∙ nothing_added m (get_or row k 0) (multiples s j factors n k) (low.residues k k_low) (multiples-before s j factors n k first)
      | inr not_first ↦ added.inside k (omega arith) k_low
    ])
  where
    positive : 0 < m
    positive = omega (arith, low.residues s.unknowns (omega arith))

    by_count : (n : ℕ) (t : ℕ → ℕ) → j + n ≤ s.unknowns → ((k : ℕ) → k < s.unknowns + 1 → t k ≡ (get_or row k 0 + multiples s j factors n k) % m) →
        (Meets m s.unknowns t z ↔ Meets m s.unknowns (λ k. get_or row k 0) z)
    by_count zero t within is =
        let same : (k : ℕ) → k < s.unknowns + 1 → t k ≡ get_or row k 0 = λ k k_low. is k k_low ∙ ap (λ x. x % m) (omega arith) ∙ mod-eq_of_lt (low.residues k k_low) in
        (Meets-row m s.unknowns t (λ k. get_or row k 0) z (λ k k_low. sym (same k k_low)), Meets-row m s.unknowns (λ k. get_or row k 0) t z same)
    by_count (suc n) t within is =
        let between : ℕ → ℕ = λ k. (get_or row k 0 + multiples s j factors n k) % m in
        let earlier = by_count n between (omega arith) (λ k k_low. refl) in
        let last = Meets-added m s.unknowns (get_or factors n 0) between (entry_in s (j + n)) t z
        (λ k k_low.
        is k k_low ∙ ap (λ x. x % m) (omega arith) ∙
        sym (mod-add-mod (get_or row k 0 + multiples s j factors n k) m (get_or factors n 0 * entry_in s (j + n) k)))
        (mod-lt (get_or row s.unknowns 0 + multiples s j factors n s.unknowns) positive) (met (j + n) (omega arith)) in
        (λ now_met. earlier.0 (last.0 now_met), λ row_met. last.1 (earlier.1 row_met))

-- one more row
pub multiples-next : (s : Slots) (j : ℕ) (factors : List ℕ) (n k : ℕ) → multiples s j factors n k + get_or factors n 0 * entry_in s (j + n) k ≡ multiples s j factors (n + 1) k
multiples-next s j factors n k = ap (λ t. multiples s j factors t k) (sym (add-one n))

-- the rows that were taken from a row so far, each of them before place `to` alone
pub record GroupSoFar (m : ℕ) (s : Slots) (old now : List ℕ) (g : Group) (place to end slot : ℕ) : Type 0 where
  pub row : IsRow m s.unknowns now
  pub room : length g.factors ≡ 4
  pub count : place + g.count ≡ slot
  pub group : IsGroup m s place g to
  pub added : IsAdded m old now place to (multiples s place g.factors g.count)
  pub cleared : place < slot → get_or now place 0 ≡ 0
  pub longer : end ≤ g.end

pub group-more : (m : ℕ) (s : Slots) (old now now' : List ℕ) (g : Group) (place to end slot factor shared end' : ℕ) → AreSlots m s → to ≤ place + 4 → to ≤ s.unknowns → IsRow m s.unknowns old → GroupSoFar m s old now g place to end slot → slot < to → get_or s.ends.now slot 0 ≢ 0 →
    IsRow m s.unknowns now' → factor < m → get_or now' slot 0 ≡ 0 → IsAdded m now now' slot to (λ k. factor * entry_in s slot k) → shared ≤ g.shared → shared ≤ get_or s.ends.now slot 0 → g.end ≤ end' → get_or s.ends.now slot 0 ≤ end' → end' ≤ s.unknowns →
    GroupSoFar m s old now' (record { count = g.count + 1; factors = set g.factors g.count factor; shared = shared; end = end' }) place to end (slot + 1)
group-more m s old now now' g place to end slot factor shared end' are few within low sofar slot_low used low' factor_low here added shared_low shared_its end_low end_its end'_low =
    let slot_is : slot ≡ place + g.count = omega (arith, sofar.count) in
    let there : g.count < length g.factors = omega (arith, sofar.room, sofar.count) in
    let own : get_or (set g.factors g.count factor) g.count 0 ≡ factor = get_or-set_same g.factors g.count factor 0 there in
    let earlier : (t : ℕ) → t < g.count → get_or (set g.factors g.count factor) t 0 ≡ get_or g.factors t 0 = λ t t_low.
    get_or-set_other g.factors g.count t factor 0 (λ same. omega (arith, same, t_low)) in
    record {
      row = low';
      room = length-set g.factors g.count factor ∙ sofar.room;
      count = omega (arith, sofar.count);
      group = record {
        few = omega (arith, sofar.count);
        within = omega (arith, sofar.count);
        factors = λ t t_low.
            elim (cases_eq t g.count) [
              | inl last ↦ subst (λ (i : ℕ). get_or (set g.factors g.count factor) i 0 < m) (sym last) (subst (λ (x : ℕ). x < m) (sym own) factor_low)
              | inr ne ↦
                  subst (λ (x : ℕ). x < m) (sym (earlier t (omega arith))) (sofar.group.factors t (omega arith))
            ];
        used = λ t t_low.
            elim (cases_eq t g.count) [
              | inl last ↦ subst (λ (i : ℕ). get_or s.ends.now (place + i) 0 ≢ 0) (sym last) (subst (λ (i : ℕ). get_or s.ends.now i 0 ≢ 0) slot_is used)
              | inr ne ↦ sofar.group.used t (omega arith)
            ];
        shared = λ t t_low.
            elim (cases_eq t g.count) [
              | inl last ↦ subst (λ (i : ℕ). shared < get_or s.ends.now (place + i) 0 + 1) (sym last) (subst (λ (i : ℕ). shared < get_or s.ends.now i 0 + 1) slot_is (omega arith))
              | inr ne ↦ omega (arith, sofar.group.shared t (omega arith))
            ];
        shared_low = omega (arith, sofar.group.shared_low);
        end = λ t t_low.
            elim (cases_eq t g.count) [
              | inl last ↦ subst (λ (i : ℕ). get_or s.ends.now (place + i) 0 < end' + 1) (sym last) (subst (λ (i : ℕ). get_or s.ends.now i 0 < end' + 1) slot_is (omega arith))
              | inr ne ↦ omega (arith, sofar.group.end t (omega arith))
            ];
        end_low = omega arith;
      };
      added =
          added-same m old now' place to (λ k. multiples s place g.factors g.count k + factor * entry_in s slot k)
          (multiples s place (set g.factors g.count factor) (g.count + 1))
          (added-both m old now now' place to (multiples s place g.factors g.count) (λ k. factor * entry_in s slot k) sofar.added
          (added-earlier m s.unknowns now now' place slot to (λ k. factor * entry_in s slot k) sofar.row (omega arith) added (omega (arith, sofar.count)) (omega arith)
          (λ k before. ap (λ x. factor * x) (entry-before s.unknowns s.rows.now s.ends.now slot k before) ∙ omega arith)))
          (λ k.
          ap (λ x. x + factor * entry_in s slot k) (sym (multiples-same s place (set g.factors g.count factor) g.factors g.count k earlier)) ∙
          ap (λ x. multiples s place (set g.factors g.count factor) g.count k + x * entry_in s slot k) (sym own) ∙
          ap (λ j. multiples s place (set g.factors g.count factor) g.count k + get_or (set g.factors g.count factor) g.count 0 * entry_in s j k) slot_is ∙
          multiples-next s place (set g.factors g.count factor) g.count k);
      cleared = λ after.
          elim (cases_eq slot place) [
            | inl same ↦ ap (λ i. get_or now' i 0) (sym same) ∙ here
            | inr ne ↦ added.before place (omega (arith, sofar.count)) ∙ sofar.cleared (omega (arith, sofar.count))
          ];
      longer = omega (arith, sofar.longer);
    }

-- the span of a row once a group was taken from it
pub group-span : (m : ℕ) (s : Slots) (g : Group) (row now : List ℕ) (place to end : ℕ) → AreSlots m s → IsGroup m s place g to → to ≤ s.unknowns → place < s.unknowns → IsRow m s.unknowns row → IsSpan s.unknowns row place end → end ≤ g.end →
    IsAdded m row now place (s.unknowns + 1) (multiples s place g.factors g.count) → get_or now place 0 ≡ 0 → IsSpan s.unknowns now (place + 1) g.end
group-span m s g row now place to end are group to_low place_low low span longer added here =
    added-span m s.unknowns row now place end g.end (multiples s place g.factors g.count) low place_low span longer added here
    (λ k past k_low.
    multiples-beyond m s place g.factors g.count k are (omega (arith, group.within)) k_low group.used
    (λ t t_low. omega (arith, group.end t t_low)))
