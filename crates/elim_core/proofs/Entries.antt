-- The entries of the rows that are kept, case by case.
use Rattle.std.proofs.Common.{◌≡◌, ◌≢◌, ℕ, ◌+◌, ◌*◌, ◌<◌, List, inl, inr, get_or, refl, sym, ◌∙◌, arith}
use Rattle.std.proofs.lemmas.Bool.{cases_eq, eq-eqb, ne_eqb, lt-ltb, le-ltb}
use Rattle.elim_core.specs.Rows.{IsEchelon}
use Rattle.elim_core.specs.Layout.{entry, IsLaidOut}

module _ (u : ℕ) (rows ends : List ℕ) (j : ℕ) where
  pub entry-empty : (k : ℕ) → get_or ends j 0 ≡ 0 → entry u rows ends j k ≡ 0
  unfolding entry
  entry-empty k none = rw (eq-eqb (get_or ends j 0) 0 none) refl

  pub entry-before : (k : ℕ) → k < j → entry u rows ends j k ≡ 0
  unfolding entry
  entry-before k before =
      elim (cases_eq (get_or ends j 0) 0) [
        | inl none ↦ entry-empty k none
        | inr some ↦ rw (ne_eqb (get_or ends j 0) 0 some, lt-ltb k j before) refl
      ]

  pub entry-own : get_or ends j 0 ≢ 0 → entry u rows ends j j ≡ 1
  unfolding entry
  entry-own some = rw (ne_eqb (get_or ends j 0) 0 some, le-ltb j j (omega arith), eq-eqb j j refl) refl

  pub entry-within : (k : ℕ) → get_or ends j 0 ≢ 0 → j < k → k < get_or ends j 0 → k < u → entry u rows ends j k ≡ get_or rows (j * (u + 1) + k) 0
  unfolding entry
  entry-within k some after low before_right =
      let other : k ≢ j = omega arith in
      let no_right : k ≢ u = omega arith in
      rw (ne_eqb (get_or ends j 0) 0 some, le-ltb k j (omega arith), ne_eqb k j other, ne_eqb k u no_right, lt-ltb k (get_or ends j 0) low) refl

  pub entry-right : get_or ends j 0 ≢ 0 → j < u → entry u rows ends j u ≡ get_or rows (j * (u + 1) + j) 0
  unfolding entry
  entry-right some low =
      let other : u ≢ j = omega arith in
      rw (ne_eqb (get_or ends j 0) 0 some, le-ltb u j (omega arith), ne_eqb u j other, eq-eqb u u refl) refl

  pub entry-beyond : (k : ℕ) → j < k → get_or ends j 0 < k + 1 → k < u → entry u rows ends j k ≡ 0
  unfolding entry
  entry-beyond k after high low =
      elim (cases_eq (get_or ends j 0) 0) [
        | inl none ↦ entry-empty k none
        | inr some ↦
            let other : k ≢ j = omega arith in
            let no_right : k ≢ u = omega arith in
            rw (ne_eqb (get_or ends j 0) 0 some, le-ltb k j (omega arith), ne_eqb k j other, ne_eqb k u no_right, le-ltb k (get_or ends j 0) (omega arith)) refl
      ]

-- a slot with the same words and the same end has the same entries
pub entry-same : (u : ℕ) (rows ends rows' ends' : List ℕ) (j k : ℕ) → j < u → k < u + 1 → get_or ends j 0 ≡ get_or ends' j 0 →
    (get_or ends' j 0 ≢ 0 → (i : ℕ) → i < u + 1 → get_or rows (j * (u + 1) + i) 0 ≡ get_or rows' (j * (u + 1) + i) 0) →
    entry u rows ends j k ≡ entry u rows' ends' j k
unfolding entry
entry-same u rows ends rows' ends' j k low k_low same_end same_row =
    elim (cases_eq (get_or ends' j 0) 0) [
      | inl none ↦ entry-empty u rows ends j k (same_end ∙ none) ∙ sym (entry-empty u rows' ends' j k none)
      | inr some ↦ rw (same_end, same_row some k k_low, same_row some j (omega arith)) refl
    ]

-- rows that are laid out are in echelon form
pub laid_out_form : (m u : ℕ) (rows ends : List ℕ) → IsLaidOut m u rows ends → IsEchelon m u (entry u rows ends)
laid_out_form m u rows ends laid = record {
  residues = laid.residues;
  leading = λ j low.
      elim (cases_eq (get_or ends j 0) 0) [
        | inl none ↦ omega (arith, entry-empty u rows ends j j none)
        | inr some ↦ omega (arith, entry-own u rows ends j some)
      ];
  empty = λ j k low k_low none.
      elim (cases_eq (get_or ends j 0) 0) [
        | inl is ↦ entry-empty u rows ends j k is
        | inr some ↦ absurd (omega (arith, entry-own u rows ends j some))
      ];
  begins = λ j k low before. entry-before u rows ends j k before;
}

-- the slot of a row whose own entry is 0 is empty
pub entry-no_end : (u : ℕ) (rows ends : List ℕ) (j : ℕ) → entry u rows ends j j ≡ 0 → get_or ends j 0 ≡ 0
entry-no_end u rows ends j none =
    elim (cases_eq (get_or ends j 0) 0) [
      | inl is ↦ is
      | inr some ↦ absurd (omega (arith, entry-own u rows ends j some))
    ]
