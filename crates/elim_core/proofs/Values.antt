-- Values of unknowns by kept rows: a row's sum, term by term, and the values from the last on.
use Rattle.std.proofs.Common.{◌≡◌, ◌≢◌, ℕ, zero, suc, ◌+◌, ◌-◌, ◌*◌, ◌%◌, ◌<◌, ◌≤◌, List, length, take, drop, get_or, inl, inr, refl, sym, ◌∙◌, ap, subst, arith, length-drop, get_or-set_other, get_or-set_same}
use Rattle.std.proofs.Math.ListN.{set, length-set}
use Rattle.std.proofs.lemmas.List.{get_or-take, get_or-drop, length-take}
use Rattle.std.proofs.Math.Nat.{mod-lt}
use Rattle.std.proofs.lemmas.Bool.{cases_eq}
use Rattle.prime_field.specs.Sum.{sum_to}
use Rattle.prime_field.proofs.Sums.{sum-same}
use Rattle.elim_core.specs.Multiples.{product_at}
use Rattle.elim_core.proofs.Products.{sum-parts}
use Rattle.elim_core.proofs.Taken.{slot_before}
use Rattle.elim_core.specs.Rows.{Meets, put}
use Rattle.elim_core.specs.Layout.{entry, IsLaidOut}
use Rattle.elim_core.proofs.Systems.{Meets-same, put-same, put-other, row_solved}
use Rattle.elim_core.proofs.Echelon.{empty_met}
use Rattle.elim_core.proofs.Entries.{entry-empty, entry-before, entry-own, entry-within, entry-beyond, laid_out_form}

-- what comes after the last term that isn't 0 adds nothing
sum-upto : (n at : ℕ) (f : ℕ → ℕ) → at ≤ n → ((k : ℕ) → at < k + 1 → k < n → f k ≡ 0) → sum_to n f ≡ sum_to at f
sum-upto zero at f low none = let same : zero ≡ at = omega arith in ap (λ t. sum_to t f) same
sum-upto (suc n) at f low none =
    elim (cases_eq at (suc n)) [
      | inl same ↦ ap (λ t. sum_to t f) (sym same)
      | inr other ↦ omega (arith, sum-upto n at f (omega arith) (λ k above k_low. none k above (omega arith)), none n (omega arith) (omega arith))
    ]

-- the term of the row at k, with nothing for its own place
abbrev pub term : (u : ℕ) (rows ends values : List ℕ) (place k : ℕ) → ℕ
term u rows ends values place k = entry u rows ends place k * put place 0 (λ i. get_or values i 0) k

-- nothing comes up to the row's own place
sum-start : (u : ℕ) (rows ends values : List ℕ) (place : ℕ) → sum_to (place + 1) (term u rows ends values place) ≡ 0
sum-start u rows ends values place =
    sum-upto (place + 1) 0 (term u rows ends values place) (omega arith) (λ k above low.
    elim (cases_eq k place) [
      | inl same ↦
          ap (λ i. entry u rows ends place i * put place 0 (λ x. get_or values x 0) i) same ∙
          ap (λ x. entry u rows ends place place * x) (put-same place 0 (λ x. get_or values x 0)) ∙ omega arith
      | inr other ↦
          ap (λ x. x * put place 0 (λ i. get_or values i 0) k) (entry-before u rows ends place k (omega arith)) ∙ omega arith
    ])

sum-end : (u : ℕ) (rows ends values : List ℕ) (place : ℕ) → place < get_or ends place 0 → get_or ends place 0 ≤ u → sum_to u (term u rows ends values place) ≡ sum_to (get_or ends place 0) (term u rows ends values place)
sum-end u rows ends values place after low =
    sum-upto u (get_or ends place 0) (term u rows ends values place) low (λ k above k_low.
    ap (λ x. x * put place 0 (λ i. get_or values i 0) k) (entry-beyond u rows ends place k (omega arith) above k_low) ∙ omega arith)

-- the words of the row after its own place, up to its end, and the values there
abbrev pub words_after : (u : ℕ) (rows : List ℕ) (place n : ℕ) → List ℕ
words_after u rows place n = take n (drop (place * (u + 1) + place + 1) rows)

abbrev pub values_after : (values : List ℕ) (place n : ℕ) → List ℕ
values_after values place n = take n (drop (place + 1) values)

module _ (m u : ℕ) (rows ends values : List ℕ) (place : ℕ) (laid : IsLaidOut m u rows ends) (low : place < u) (used : get_or ends place 0 ≢ 0) where
  after : place < get_or ends place 0
  after = laid.after place low used

  end_low : get_or ends place 0 < u + 1
  end_low = laid.within place low

  word-after : (n t : ℕ) → n ≡ get_or ends place 0 - (place + 1) → t < n → get_or (words_after u rows place n) t 0 ≡ entry u rows ends place (place + 1 + t)
  word-after n t n_is t_low =
      let same : place * (u + 1) + place + 1 + t ≡ place * (u + 1) + (place + 1 + t) = omega arith in
      get_or-take n (drop (place * (u + 1) + place + 1) rows) t 0 t_low ∙ get_or-drop (place * (u + 1) + place + 1) rows t 0 ∙
      ap (λ i. get_or rows i 0) same ∙ sym (entry-within u rows ends place (place + 1 + t) used (omega arith) (omega (arith, after)) (omega (arith, after, end_low)))

  value-after : (n t : ℕ) → t < n → get_or (values_after values place n) t 0 ≡ put place 0 (λ i. get_or values i 0) (place + 1 + t)
  value-after n t t_low =
      let other : place + 1 + t ≢ place = omega arith in
      get_or-take n (drop (place + 1) values) t 0 t_low ∙ get_or-drop (place + 1) values t 0 ∙ sym (put-other place (place + 1 + t) 0 (λ i. get_or values i 0) other)

  length-words_after : (n : ℕ) → n ≡ get_or ends place 0 - (place + 1) → length (words_after u rows place n) ≡ n
  length-words_after n n_is =
      omega (arith, length-take n (drop (place * (u + 1) + place + 1) rows), length-drop (place * (u + 1) + place + 1) rows, laid.rows_room, slot_before place u u u low (omega arith), after, end_low)

  pub words-low : (n k : ℕ) → n ≡ get_or ends place 0 - (place + 1) → k < length (words_after u rows place n) → get_or (words_after u rows place n) k 0 < m
  words-low n k n_is k_low =
      let within : k < n = omega (arith, length-words_after n n_is) in
      subst (λ (x : ℕ). x < m) (sym (word-after n k n_is within)) (laid.residues place (place + 1 + k) low (omega (arith, after, end_low)))

  -- the products from there on are the row's whole sum
  pub sum-after : (n n' : ℕ) → n ≡ get_or ends place 0 - (place + 1) → n' ≡ n →
      sum_to (length (words_after u rows place n)) (product_at (words_after u rows place n) (values_after values place n')) ≡ sum_to u (term u rows ends values place)
  sum-after n n' n_is same =
      let words = words_after u rows place n in
      let known = values_after values place n' in
      let whole : place + 1 + n ≡ get_or ends place 0 = omega (arith, after) in
      ap (λ t. sum_to t (product_at words known)) (length-words_after n n_is) ∙
      sum-same n (product_at words known) (λ t. term u rows ends values place (place + 1 + t)) (λ t t_low.
      ap (λ x. x * get_or known t 0) (word-after n t n_is t_low) ∙ ap (λ x. entry u rows ends place (place + 1 + t) * x) (value-after n' t (omega arith))) ∙
      omega (
        arith,
        sum-parts (place + 1) n (term u rows ends values place),
        sum-start u rows ends values place,
        ap (λ t. sum_to t (term u rows ends values place)) whole,
        sum-end u rows ends values place after (omega (arith, end_low)),
      )

-- from `from` on the rows hold
pub record SubstitutedFrom (m u : ℕ) (rows ends old now : List ℕ) (from : ℕ) : Type 0 where
  pub room : length now ≡ length old
  pub residues : (k : ℕ) → k < u → get_or now k 0 < m
  pub met : (j : ℕ) → from < j + 1 → j < u → Meets m u (entry u rows ends j) (λ k. get_or now k 0)
  pub free : (k : ℕ) → k < u → get_or ends k 0 ≡ 0 → get_or now k 0 ≡ get_or old k 0

pub Substituted-empty : (m u : ℕ) (rows ends old now : List ℕ) (place : ℕ) → IsLaidOut m u rows ends → place < u → get_or ends place 0 ≡ 0 → SubstitutedFrom m u rows ends old now (place + 1) → SubstitutedFrom m u rows ends old now place
Substituted-empty m u rows ends old now place laid low none s = record {
  room = s.room;
  residues = s.residues;
  met = λ j above j_low.
      elim (cases_eq j place) [
        | inl same ↦
            subst (λ (x : ℕ). Meets m u (entry u rows ends x) (λ k. get_or now k 0)) (sym same)
            (empty_met m u (entry u rows ends) (laid_out_form m u rows ends laid) place (λ k. get_or now k 0) low (entry-empty u rows ends place place none))
        | inr other ↦ s.met j (omega arith) j_low
      ];
  free = s.free;
}

pub Substituted-more : (m u : ℕ) (rows ends old now : List ℕ) (place v : ℕ) → 0 < m → IsLaidOut m u rows ends → length old ≡ u → place < u → get_or ends place 0 ≢ 0 → v < m →
    v ≡ (entry u rows ends place u + (m - sum_to u (term u rows ends now place) % m)) % m →
    SubstitutedFrom m u rows ends old now (place + 1) → SubstitutedFrom m u rows ends old (set now place v) place
Substituted-more m u rows ends old now place v positive laid room low used v_low v_is s =
    let there : place < length now = omega (arith, s.room) in
    let here : get_or (set now place v) place 0 ≡ v = get_or-set_same now place v 0 there in
    let other : (k : ℕ) → k ≢ place → get_or (set now place v) k 0 ≡ get_or now k 0 = λ k ne. get_or-set_other now place k v 0 ne in
    record {
      room = length-set now place v ∙ s.room;
      residues = λ k k_low.
          elim (cases_eq k place) [
            | inl same ↦ subst (λ (x : ℕ). x < m) (sym here ∙ ap (λ i. get_or (set now place v) i 0) (sym same)) v_low
            | inr ne ↦ subst (λ (x : ℕ). x < m) (sym (other k ne)) (s.residues k k_low)
          ];
      met = λ j above j_low.
          elim (cases_eq j place) [
            | inl same ↦
                subst (λ (x : ℕ). Meets m u (entry u rows ends x) (λ k. get_or (set now place v) k 0)) (sym same)
                (row_solved m u place (sum_to u (term u rows ends now place) % m) (entry u rows ends place)
                (put place 0 (λ i. get_or now i 0)) (λ k. get_or (set now place v) k 0) positive low
                (entry-own u rows ends place used) (laid.residues place u low (omega arith)) (put-same place 0 (λ i. get_or now i 0))
                (λ k k_low ne. other k ne ∙ sym (put-other place k 0 (λ i. get_or now i 0) ne))
                (mod-lt (sum_to u (term u rows ends now place)) positive) refl (here ∙ v_is))
            | inr later ↦
                Meets-same m u (entry u rows ends j) (λ k. get_or now k 0) (λ k. get_or (set now place v) k 0)
                (λ k k_low.
                elim (cases_eq k place) [
                  | inl same ↦
                      let before : entry u rows ends j k ≡ 0 = entry-before u rows ends j k (omega arith) in
                      ap (λ x. x * get_or now k 0) before ∙ omega arith ∙ sym (ap (λ x. x * get_or (set now place v) k 0) before)
                  | inr ne ↦ ap (λ x. entry u rows ends j k * x) (sym (other k ne))
                ])
                (s.met j (omega arith) j_low)
          ];
      free = λ k k_low none.
          let ne : k ≢ place = λ same. used (ap (λ i. get_or ends i 0) (sym same) ∙ none) in
          other k ne ∙ s.free k k_low none;
    }
