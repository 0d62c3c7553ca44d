-- What keeping a row does to the entries.
use Rattle.std.proofs.Common.{◌≡◌, ◌≢◌, ℕ, ◌+◌, ◌*◌, ◌%◌, ◌<◌, ◌≤◌, ◌↔◌, List, length, get_or, inl, inr, sym, ◌∙◌, ap, subst, arith, get_or-set_other, get_or-set_same}
use Rattle.std.proofs.Math.ListN.{set, length-set}
use Rattle.std.proofs.Math.Nat.{mod-lt, zero-mod}
use Rattle.std.proofs.lemmas.Bool.{cases_eq, cases_lt}
use Rattle.elim_core.specs.Rows.{Meets, AllMet, HasInserted}
use Rattle.elim_core.specs.Layout.{entry, IsLaidOut, IsRow, KeepsUsed, IsLead, IsNewRow, IsSameRow, IsNoRow}
use Rattle.elim_core.specs.declared.elimination.Lead.{Lead}
use Rattle.elim_core.proofs.Systems.{Meets-zeros}
use Rattle.elim_core.proofs.Echelon.{inserted_met, inserted_cuts}
use Rattle.elim_core.proofs.Entries.{entry-empty, entry-before, entry-own, entry-within, entry-right, entry-beyond, entry-same, laid_out_form}
use Rattle.elim_core.proofs.Taken.{slot_before}

-- the words and ends once the row is kept
pub record IsWritten (m u : ℕ) (rows ends row : List ℕ) (p end inverse : ℕ) (rows' ends' : List ℕ) : Type 0 where
  pub rows_room : length rows' ≡ length rows
  pub ends_room : length ends' ≡ length ends
  pub other_slots : (j k : ℕ) → j < u → k < u + 1 → j ≢ p → get_or rows' (j * (u + 1) + k) 0 ≡ get_or rows (j * (u + 1) + k) 0
  pub other_ends : (j : ℕ) → j ≢ p → get_or ends' j 0 ≡ get_or ends j 0
  pub its_end : get_or ends' p 0 ≡ end
  pub its_span : (k : ℕ) → p < k → k < end → get_or rows' (p * (u + 1) + k) 0 ≡ (inverse * get_or row k 0) % m
  pub its_right : get_or rows' (p * (u + 1) + p) 0 ≡ (inverse * get_or row u 0) % m

pub written : (m u : ℕ) (rows ends row now : List ℕ) (p end inverse v : ℕ) → length rows ≡ u * (u + 1) → length ends ≡ u → p < end → end < u + 1 → length now ≡ length rows →
    ((k : ℕ) → p + 1 < k + 1 → k < end → get_or now (p * (u + 1) + k) 0 ≡ (inverse * get_or row k 0) % m) →
    ((i : ℕ) → i < p * (u + 1) + (p + 1) → get_or now i 0 ≡ get_or rows i 0) →
    ((i : ℕ) → p * (u + 1) + end ≤ i → get_or now i 0 ≡ get_or rows i 0) →
    v ≡ (inverse * get_or row u 0) % m →
    IsWritten m u rows ends row p end inverse (set now (p * (u + 1) + p) v) (set ends p end)
written m u rows ends row now p end inverse v rows_room ends_room within end_low room inside before after v_is =
    let p_low : p < u = omega arith in
    let p_there : p < length ends = omega arith in
    let right_there : p * (u + 1) + p < length now = omega (arith, room, rows_room, slot_before p u u p p_low (omega arith)) in
    record {
      rows_room = length-set now (p * (u + 1) + p) v ∙ room;
      ends_room = length-set ends p end;
      other_slots = λ j k j_low k_low ne.
          elim (cases_lt j p) [
            | inl first ↦
                let early = slot_before j p u k first k_low in
                let elsewhere : j * (u + 1) + k ≢ p * (u + 1) + p = omega arith in
                get_or-set_other now (p * (u + 1) + p) (j * (u + 1) + k) v 0 elsewhere ∙ before (j * (u + 1) + k) (omega arith)
            | inr not_first ↦
                let late = slot_before p j u u (omega arith) (omega arith) in
                let elsewhere : j * (u + 1) + k ≢ p * (u + 1) + p = omega arith in
                get_or-set_other now (p * (u + 1) + p) (j * (u + 1) + k) v 0 elsewhere ∙ after (j * (u + 1) + k) (omega arith)
          ];
      other_ends = λ j ne. get_or-set_other ends p j end 0 ne;
      its_end = get_or-set_same ends p end 0 p_there;
      its_span = λ k above low.
          let elsewhere : p * (u + 1) + k ≢ p * (u + 1) + p = omega arith in
          get_or-set_other now (p * (u + 1) + p) (p * (u + 1) + k) v 0 elsewhere ∙ inside k (omega arith) low;
      its_right = get_or-set_same now (p * (u + 1) + p) v 0 right_there ∙ v_is;
    }

module _ (m u : ℕ) (rows ends row : List ℕ) (lead : Lead) (inverse : ℕ) (rows' ends' : List ℕ) (large : 1 < m) (laid : IsLaidOut m u rows ends) (low : IsRow m u row) (leads : IsLead u ends row lead)
    (unit : (get_or row lead.place 0 * inverse) % m ≡ 1) (w : IsWritten m u rows ends row lead.place lead.end inverse rows' ends') where
  p_low : lead.place < u
  p_low = omega (arith, leads.within, leads.end_within)

  now_used : get_or ends' lead.place 0 ≢ 0
  now_used none = omega (arith, none, w.its_end, leads.within)

  -- no other slot changes
  pub written-others : (j k : ℕ) → j < u → k < u + 1 → j ≢ lead.place → entry u rows' ends' j k ≡ entry u rows ends j k
  written-others j k j_low k_low ne =
      entry-same u rows' ends' rows ends j k j_low k_low (w.other_ends j ne) (λ some i i_low. w.other_slots j i j_low i_low ne)

  zero_product : (k : ℕ) → get_or row k 0 ≡ 0 → 0 ≡ (inverse * get_or row k 0) % m
  zero_product k none = sym (zero-mod m) ∙ ap (λ x. x % m) (omega arith) ∙ ap (λ x. (inverse * x) % m) (sym none)

  -- the slot has the multiple of the row
  pub written-scaled : (k : ℕ) → k < u + 1 → entry u rows' ends' lead.place k ≡ (inverse * get_or row k 0) % m
  written-scaled k k_low =
      elim (cases_lt k lead.place) [
        | inl first ↦ entry-before u rows' ends' lead.place k first ∙ zero_product k (leads.span.before k first)
        | inr not_first ↦
            elim (cases_eq k lead.place) [
              | inl same ↦
                  ap (entry u rows' ends' lead.place) same ∙ entry-own u rows' ends' lead.place now_used ∙ sym unit ∙
                  ap (λ x. x % m) (omega arith) ∙ ap (λ i. (inverse * get_or row i 0) % m) (sym same)
              | inr other ↦
                  elim (cases_eq k u) [
                    | inl last ↦
                        ap (entry u rows' ends' lead.place) last ∙
                        entry-right u rows' ends' lead.place now_used p_low ∙
                        w.its_right ∙ ap (λ i. (inverse * get_or row i 0) % m) (sym last)
                    | inr not_last ↦
                        elim (cases_lt k lead.end) [
                          | inl within ↦
                              entry-within u rows' ends' lead.place k now_used (omega arith) (omega (arith, w.its_end)) (omega arith) ∙
                              w.its_span k (omega arith) within
                          | inr past ↦
                              entry-beyond u rows' ends' lead.place k (omega arith) (omega (arith, w.its_end)) (omega arith) ∙
                              zero_product k (leads.span.beyond k (omega arith) (omega arith))
                        ]
                  ]
            ]
      ]

  pub written-laid_out : IsLaidOut m u rows' ends'
  written-laid_out = record {
    rows_room = w.rows_room ∙ laid.rows_room;
    ends_room = w.ends_room ∙ laid.ends_room;
    within = λ j j_low.
        elim (cases_eq j lead.place) [
          | inl same ↦ subst (λ (x : ℕ). get_or ends' x 0 < u + 1) (sym same) (omega (arith, w.its_end, leads.end_within))
          | inr ne ↦ subst (λ (x : ℕ). x < u + 1) (sym (w.other_ends j ne)) (laid.within j j_low)
        ];
    after = λ j j_low some.
        elim (cases_eq j lead.place) [
          | inl same ↦ subst (λ (x : ℕ). x < get_or ends' x 0) (sym same) (omega (arith, w.its_end, leads.within))
          | inr ne ↦
              subst (λ (x : ℕ). j < x) (sym (w.other_ends j ne))
              (laid.after j j_low (λ none. some (w.other_ends j ne ∙ none)))
        ];
    residues = λ j k j_low k_low.
        elim (cases_eq j lead.place) [
          | inl same ↦
              subst (λ (x : ℕ). entry u rows' ends' x k < m) (sym same)
              (subst (λ (x : ℕ). x < m) (sym (written-scaled k k_low)) (mod-lt (inverse * get_or row k 0) (omega arith)))
          | inr ne ↦ subst (λ (x : ℕ). x < m) (sym (written-others j k j_low k_low ne)) (laid.residues j k j_low k_low)
        ];
  }

  pub written-keeps_used : KeepsUsed u rows ends rows' ends'
  written-keeps_used = record {
    same_end = λ j j_low some. w.other_ends j (λ same. some (ap (λ i. get_or ends i 0) same ∙ leads.empty));
    same_row = λ j k j_low k_low some.
        w.other_slots j k j_low k_low (λ same. some (ap (λ i. get_or ends i 0) same ∙ leads.empty));
  }

  pub written-inserted : HasInserted m u (entry u rows ends) (entry u rows' ends') (λ k. get_or row k 0) lead.place
  written-inserted = record {
    factor = inverse;
    inverse = get_or row lead.place 0;
    inserted = record {
      place = p_low;
      large = large;
      was_empty = λ k k_low. entry-empty u rows ends lead.place k leads.empty;
      unit = ap (λ x. x % m) (omega arith) ∙ unit;
      residues = low.residues;
      others = written-others;
      scaled = written-scaled;
    };
  }

-- a kept row is a new one
pub new_row : (m u : ℕ) (rows ends rows' ends' row : List ℕ) (first : ℕ → ℕ) (p : ℕ) → IsLaidOut m u rows ends → IsLaidOut m u rows' ends' → get_or ends' p 0 ≢ 0 → HasInserted m u (entry u rows ends) (entry u rows' ends') (λ k. get_or row k 0) p →
    ((z : ℕ → ℕ) → AllMet m u (entry u rows ends) z → (Meets m u (λ k. get_or row k 0) z ↔ Meets m u first z)) →
    IsNewRow m u (entry u rows ends) (entry u rows' ends') first
new_row m u rows ends rows' ends' row first p laid laid' used has same =
    let met = inserted_met m u (entry u rows ends) (entry u rows' ends') (λ k. get_or row k 0) p has.factor has.inverse has.inserted in
    let cut = inserted_cuts m u (entry u rows ends) (entry u rows' ends') (λ k. get_or row k 0) p has.factor has.inverse has.inserted
    (laid_out_form m u rows ends laid) (laid_out_form m u rows' ends' laid')
    (λ none. omega (arith, none, entry-own u rows' ends' p used)) in
    record {
      met = λ z. (
        λ now_met. let both = (met z).0 now_met in (both.0, (same z both.0).0 both.1),
        λ both. (met z).1 (both.0, (same z both.0).1 both.1),
      );
      cut = record {
        z = cut.z;
        residues = cut.residues;
        met = cut.met;
        unmet = λ first_met. cut.unmet ((same cut.z cut.met).1 first_met);
      };
    }

-- a row of zeros holds everywhere
pub same_row : (m u : ℕ) (old : ℕ → ℕ → ℕ) (row : List ℕ) (first : ℕ → ℕ) → ((k : ℕ) → k < u → get_or row k 0 ≡ 0) → get_or row u 0 ≡ 0 →
    ((z : ℕ → ℕ) → AllMet m u old z → (Meets m u (λ k. get_or row k 0) z ↔ Meets m u first z)) →
    IsSameRow m u old old first
same_row m u old row first zeros right same = record {
  met = λ z. (λ met. met, λ met. met);
  follows = λ z met. (same z met).0 (Meets-zeros m u (λ k. get_or row k 0) z zeros ∙ sym right);
}

-- a row of zeros with another right side holds nowhere
pub no_row : (m u : ℕ) (old : ℕ → ℕ → ℕ) (row : List ℕ) (first : ℕ → ℕ) → ((k : ℕ) → k < u → get_or row k 0 ≡ 0) → get_or row u 0 ≢ 0 →
    ((z : ℕ → ℕ) → AllMet m u old z → (Meets m u (λ k. get_or row k 0) z ↔ Meets m u first z)) →
    IsNoRow m u old old first
no_row m u old row first zeros right same = record {
  met = λ z. (λ met. met, λ met. met);
  none = λ prime z met first_met. right (sym ((same z met).1 first_met) ∙ Meets-zeros m u (λ k. get_or row k 0) z zeros);
}
