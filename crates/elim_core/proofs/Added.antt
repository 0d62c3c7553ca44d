-- What adding to the entries between two places does to a row.
use Rattle.std.proofs.Common.{◌≡◌, ◌≢◌, ℕ, ◌+◌, ◌-◌, ◌*◌, ◌%◌, ◌<◌, ◌≤◌, List, length, get_or, inl, inr, refl, sym, ◌∙◌, ap, arith, get_or-set_other, get_or-set_same}
use Rattle.std.proofs.Math.ListN.{set}
use Rattle.std.proofs.Math.Nat.{mod-eq_of_lt, mod_self, mod-add-mod}
use Rattle.std.proofs.lemmas.Bool.{cases_eq, cases_lt}
use Rattle.elim_core.specs.Layout.{IsRow, IsSpan}
use Rattle.elim_core.specs.Multiples.{IsAdded}

-- with nothing added
pub nothing_added : (m e x : ℕ) → e < m → x ≡ 0 → e ≡ (e + x) % m
nothing_added m e x low none = sym (mod-eq_of_lt low) ∙ ap (λ t. t % m) (omega arith) ∙ ap (λ t. (e + t) % m) (sym none)

-- nothing is added where the second place is not after the first
pub added-none : (m : ℕ) (row : List ℕ) (from to : ℕ) (f : ℕ → ℕ) → to ≤ from → IsAdded m row row from to f
added-none m row from to f order = record {
  inside = λ k above low. absurd (omega arith);
  before = λ k low. refl;
  after = λ k above. refl;
}

-- as far as what is added is 0
pub added-longer : (m u : ℕ) (old now : List ℕ) (from end to : ℕ) (f : ℕ → ℕ) → IsRow m u old → to ≤ u + 1 → IsAdded m old now from end f → end ≤ to → ((k : ℕ) → from < k + 1 → end < k + 1 → k < to → f k ≡ 0) → IsAdded m old now from to f
added-longer m u old now from end to f row within s longer zeros = record {
  inside = λ k above low.
      elim (cases_lt k end) [
        | inl first ↦ s.inside k above first
        | inr not_first ↦
            s.after k (omega arith) ∙
            nothing_added m (get_or old k 0) (f k) (row.residues k (omega arith)) (zeros k above (omega arith) low)
      ];
  before = s.before;
  after = λ k above. s.after k (omega arith);
}

-- from where what is added is 0
pub added-earlier : (m u : ℕ) (old now : List ℕ) (start from to : ℕ) (f : ℕ → ℕ) → IsRow m u old → to ≤ u + 1 → IsAdded m old now from to f → start ≤ from → from ≤ to → ((k : ℕ) → k < from → f k ≡ 0) → IsAdded m old now start to f
added-earlier m u old now start from to f row within s earlier order zeros = record {
  inside = λ k above low.
      elim (cases_lt k from) [
        | inl first ↦
            s.before k first ∙ nothing_added m (get_or old k 0) (f k) (row.residues k (omega arith)) (zeros k first)
        | inr not_first ↦ s.inside k (omega arith) low
      ];
  before = λ k low. s.before k (omega arith);
  after = s.after;
}

-- in two spans that meet
pub added-on : (m : ℕ) (old between now : List ℕ) (from middle to : ℕ) (f : ℕ → ℕ) → IsAdded m old between from middle f → IsAdded m between now middle to f → from ≤ middle → middle ≤ to → IsAdded m old now from to f
added-on m old between now from middle to f first second start end = record {
  inside = λ k above low.
      elim (cases_lt k middle) [
        | inl early ↦ second.before k early ∙ first.inside k above early
        | inr late ↦
            second.inside k (omega arith) low ∙ ap (λ x. (x + f k) % m) (first.after k (omega arith))
      ];
  before = λ k low. second.before k (omega arith) ∙ first.before k low;
  after = λ k above. second.after k above ∙ first.after k (omega arith);
}

-- one after the other in the same span
pub added-both : (m : ℕ) (old between now : List ℕ) (from to : ℕ) (f g : ℕ → ℕ) → IsAdded m old between from to f → IsAdded m between now from to g → IsAdded m old now from to (λ k. f k + g k)
added-both m old between now from to f g first second = record {
  inside = λ k above low.
      second.inside k above low ∙ ap (λ x. (x + g k) % m) (first.inside k above low) ∙
      mod-add-mod (get_or old k 0 + f k) m (g k) ∙ ap (λ x. x % m) (omega arith);
  before = λ k low. second.before k low ∙ first.before k low;
  after = λ k above. second.after k above ∙ first.after k above;
}

-- the same written otherwise
pub added-same : (m : ℕ) (old now : List ℕ) (from to : ℕ) (f g : ℕ → ℕ) → IsAdded m old now from to f → ((k : ℕ) → f k ≡ g k) → IsAdded m old now from to g
added-same m old now from to f g s same = record {
  inside = λ k above low. s.inside k above low ∙ ap (λ x. (get_or old k 0 + x) % m) (same k);
  before = s.before;
  after = s.after;
}

-- at the right side too
pub added-right : (m u : ℕ) (old now : List ℕ) (from v : ℕ) (f : ℕ → ℕ) → IsAdded m old now from u f → length now ≡ u + 1 → from ≤ u → v ≡ (get_or now u 0 + f u) % m → IsAdded m old (set now u v) from (u + 1) f
added-right m u old now from v f s room low v_is =
    let there : u < length now = omega arith in
    let here : get_or (set now u v) u 0 ≡ v = get_or-set_same now u v 0 there in
    let other : (k : ℕ) → k ≢ u → get_or (set now u v) k 0 ≡ get_or now k 0 = λ k ne. get_or-set_other now u k v 0 ne in
    record {
      inside = λ k above k_low.
          elim (cases_eq k u) [
            | inl same ↦
                ap (λ i. get_or (set now u v) i 0) same ∙ here ∙ v_is ∙ ap (λ x. (x + f u) % m) (s.after u (omega arith)) ∙
                ap (λ i. (get_or old i 0 + f i) % m) (sym same)
            | inr ne ↦ other k ne ∙ s.inside k above (omega arith)
          ];
      before = λ k k_low. let ne : k ≢ u = omega arith in other k ne ∙ s.before k k_low;
      after = λ k above. let ne : k ≢ u = omega arith in other k ne ∙ s.after k (omega arith);
    }

-- where an entry became 0 first, what was added to it is what is lacking to m
pub added-cleared : (m u : ℕ) (old now : List ℕ) (place to factor : ℕ) (f : ℕ → ℕ) → IsRow m u old → place < to → to ≤ u + 1 → factor ≡ m - get_or old place 0 → f place ≡ 1 → IsAdded m (set old place 0) now (place + 1) to (λ k. factor * f k) → IsAdded m old now place to (λ k. factor * f k)
added-cleared m u old now place to factor f row order within factor_is own s =
    let there : place < length old = omega (arith, row.room) in
    let low : get_or old place 0 < m = row.residues place (omega arith) in
    let here : get_or (set old place 0) place 0 ≡ 0 = get_or-set_same old place 0 0 there in
    let other : (k : ℕ) → k ≢ place → get_or (set old place 0) k 0 ≡ get_or old k 0 = λ k ne. get_or-set_other old place k 0 0 ne in
    record {
      inside = λ k above k_low.
          elim (cases_eq k place) [
            | inl same ↦
                ap (λ i. get_or now i 0) same ∙ s.before place (omega arith) ∙ here ∙ sym (mod_self m) ∙
                ap (λ x. x % m) (omega arith) ∙ ap (λ x. (get_or old place 0 + x * 1) % m) (sym factor_is) ∙
                ap (λ x. (get_or old place 0 + factor * x) % m) (sym own) ∙
                ap (λ i. (get_or old i 0 + factor * f i) % m) (sym same)
            | inr ne ↦ s.inside k (omega arith) k_low ∙ ap (λ x. (x + factor * f k) % m) (other k ne)
          ];
      before = λ k k_low. let ne : k ≢ place = omega arith in s.before k (omega arith) ∙ other k ne;
      after = λ k above. let ne : k ≢ place = omega arith in s.after k above ∙ other k ne;
    }

-- the span of a row whose first entry became 0, while nothing was added before it and from its new end on
pub added-span : (m u : ℕ) (row now : List ℕ) (place end end' : ℕ) (f : ℕ → ℕ) → IsRow m u row → place < u → IsSpan u row place end → end ≤ end' → IsAdded m row now place (u + 1) f → get_or now place 0 ≡ 0 →
    ((k : ℕ) → end' < k + 1 → k < u → f k ≡ 0) → IsSpan u now (place + 1) end'
added-span m u row now place end end' f low place_low span longer s here zeros = record {
  before = λ k k_low.
      elim (cases_eq k place) [
        | inl same ↦ ap (λ i. get_or now i 0) same ∙ here
        | inr other ↦ s.before k (omega arith) ∙ span.before k (omega arith)
      ];
  beyond = λ k above k_low.
      elim (cases_lt k place) [
        | inl first ↦ s.before k first ∙ span.before k first
        | inr not_first ↦
            s.inside k (omega arith) (omega arith) ∙
            sym (nothing_added m (get_or row k 0) (f k) (low.residues k (omega arith)) (zeros k above k_low)) ∙
            span.beyond k (omega arith) k_low
      ];
}
