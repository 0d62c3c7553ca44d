-- The rows up to a layer, as further rows are kept.
use Rattle.std.proofs.Common.{◌≡◌, ◌≢◌, ℕ, ◌+◌, ◌-◌, ◌<◌, List, length, get_or, inl, inr, sym, ◌∙◌, subst, arith}
use Rattle.std.proofs.lemmas.Bool.{cases_eq, cases_lt}
use Rattle.std.proofs.lemmas.Grind.{same_number_lists}
use Rattle.elim_core.specs.Rows.{AllMet, AreResidues, Fixes}
use Rattle.elim_core.specs.Layout.{entry, IsLaidOut, IsCleared, KeepsUsed, IsCutBack, HasZeros, IsLayered}
use Rattle.elim_core.proofs.Systems.{rows_same}
use Rattle.elim_core.proofs.Choices.{keeps_more, Zeros-start, Zeros-more, kept-same, laid_out_same}

-- with the same ends
zeros_same : (m u : ℕ) (old_rows old_ends rows ends back set : List ℕ) (at : ℕ) → HasZeros m u old_rows old_ends rows ends set at → length back ≡ u → ((k : ℕ) → k < u → get_or back k 0 ≡ get_or ends k 0) → HasZeros m u old_rows old_ends rows back set at
zeros_same m u old_rows old_ends rows ends back set at s room same =
    let lists : ends ≡ back = same_number_lists ends back (s.laid_out.ends_room ∙ sym room) (λ k low. sym (same k (omega (arith, s.laid_out.ends_room)))) in
    subst (λ (xs : List ℕ). HasZeros m u old_rows old_ends rows xs set at) lists s

-- rows up to a layer stay what they are while others are kept
pub zeros_stay : (m u : ℕ) (old_rows old_ends rows ends rows' ends' back set : List ℕ) (at : ℕ) → HasZeros m u old_rows old_ends rows back set at → IsLaidOut m u rows' ends' → KeepsUsed u rows ends rows' ends' → ((k : ℕ) → k < u → get_or back k 0 ≢ 0 → get_or ends k 0 ≢ 0) → HasZeros m u old_rows old_ends rows' back set at
zeros_stay m u old_rows old_ends rows ends rows' ends' back set at s laid keeps used =
    let same = kept-same u rows ends rows' ends' back keeps used in
    record {
      laid_out = laid_out_same m u rows rows' back s.laid_out laid.rows_room same;
      keeps_used = record {
        same_end = s.keeps_used.same_end;
        same_row = λ j k low k_low some.
            let before = s.keeps_used.same_end j low some in
            keeps.same_row j k low k_low (used j low (λ none. some (sym before ∙ none))) ∙ s.keeps_used.same_row j k low k_low some;
      };
      met = λ z z_low. (
        λ met. (s.met z z_low).0 (rows_same m u (entry u rows' back) (entry u rows back) (λ j k low k_low. sym (same j k low k_low)) z met),
        λ both. rows_same m u (entry u rows back) (entry u rows' back) same z ((s.met z z_low).1 both),
      );
    }

-- the rows once `at` unknowns of the set are 0
pub record LayeredSoFar (m u : ℕ) (old_rows old_ends rows ends row layers set : List ℕ) (at : ℕ) : Type 0 where
  pub zeros : HasZeros m u old_rows old_ends rows ends set at
  pub layered : IsLayered m u old_rows old_ends rows ends layers set at
  pub room : length layers ≡ u
  pub low : (k : ℕ) → k < u → get_or layers k 0 < at + 1
  pub cleared : IsCleared u row

pub Layered-start : (m u : ℕ) (rows ends row layers set : List ℕ) → IsLaidOut m u rows ends → IsCleared u row → length layers ≡ u → ((k : ℕ) → k < u → get_or layers k 0 ≡ 0) → LayeredSoFar m u rows ends rows ends row layers set 0
Layered-start m u rows ends row layers set laid clear room none = record {
  zeros = Zeros-start m u rows ends set laid;
  layered = λ layer back low cut.
      let first : 0 ≡ layer = omega arith in
      subst (λ (x : ℕ). HasZeros m u rows ends rows back set x) first
      (zeros_same m u rows ends rows ends back set 0 (Zeros-start m u rows ends set laid) cut.room (λ k k_low. cut.kept k k_low (omega (arith, none k k_low))));
  room = room;
  low = λ k low. omega (arith, none k low);
  cleared = clear;
}

module _ (m u : ℕ) (old_rows old_ends rows ends row layers layers' rows' ends' row' set : List ℕ) (at : ℕ) (s : LayeredSoFar m u old_rows old_ends rows ends row layers set at)
    (room : length layers' ≡ u) (marked : (k : ℕ) → k < u → get_or ends k 0 ≡ 0 → get_or layers' k 0 ≡ at + 1) (others : (k : ℕ) → k < u → get_or ends k 0 ≢ 0 → get_or layers' k 0 ≡ get_or layers k 0)
    (laid : IsLaidOut m u rows' ends') (keeps : KeepsUsed u rows ends rows' ends') where
  marked_low : (k : ℕ) → k < u → get_or layers' k 0 < at + 2
  marked_low k low =
      elim (cases_eq (get_or ends k 0) 0) [
        | inl none ↦ omega (arith, marked k low none)
        | inr some ↦ omega (arith, others k low some, s.low k low)
      ]

  -- the slots up to an earlier layer are those that there were
  earlier_cut : (layer : ℕ) (back : List ℕ) → layer < at + 1 → IsCutBack u ends' layers' layer back → IsCutBack u ends layers layer back
  earlier_cut layer back low cut = record {
    room = cut.room;
    kept = λ k k_low within.
        elim (cases_eq (get_or ends k 0) 0) [
          | inl none ↦ cut.emptied k k_low (omega (arith, marked k k_low none)) ∙ sym none
          | inr some ↦ cut.kept k k_low (omega (arith, others k k_low some)) ∙ keeps.same_end k k_low some
        ];
    emptied = λ k k_low after.
        elim (cases_eq (get_or ends k 0) 0) [
          | inl none ↦ cut.emptied k k_low (omega (arith, marked k k_low none))
          | inr some ↦ cut.emptied k k_low (omega (arith, others k k_low some))
        ];
  }

  pub Layered-more : Fixes m u (entry u rows ends) (entry u rows' ends') (get_or set at 0 - 1) 0 → IsCleared u row' → LayeredSoFar m u old_rows old_ends rows' ends' row' layers' set (at + 1)
  Layered-more fixed clear =
      let now = Zeros-more m u old_rows old_ends rows ends rows' ends' set at s.zeros laid keeps fixed in
      record {
        zeros = now;
        layered = λ layer back low cut.
            elim (cases_eq layer (at + 1)) [
              | inl last ↦
                  subst (λ (x : ℕ). HasZeros m u old_rows old_ends rows' back set x) (sym last)
                  (zeros_same m u old_rows old_ends rows' ends' back set (at + 1) now cut.room (λ k k_low. cut.kept k k_low (omega (arith, marked_low k k_low))))
              | inr other ↦
                  let before = earlier_cut layer back (omega arith) cut in
                  zeros_stay m u old_rows old_ends rows ends rows' ends' back set layer (s.layered layer back (omega arith) before) laid keeps (back_used layer back before)
            ];
        room = room;
        low = λ k low. omega (arith, marked_low k low);
        cleared = clear;
      }
    where
      back_used : (layer : ℕ) (back : List ℕ) → IsCutBack u ends layers layer back → (k : ℕ) → k < u → get_or back k 0 ≢ 0 → get_or ends k 0 ≢ 0
      back_used layer back cut k low some =
          elim (cases_lt layer (get_or layers k 0)) [
            | inl after ↦ absurd (some (cut.emptied k low after))
            | inr within ↦ λ none. some (cut.kept k low (omega arith) ∙ none)
          ]

-- the rows up to layer `at`, and perhaps others beside them; `layers` says when each slot was filled first
pub record CutSoFar (m u : ℕ) (old_rows old_ends rows ends row layers set : List ℕ) (at : ℕ) : Type 0 where
  pub laid_out : IsLaidOut m u rows ends
  pub keeps_used : KeepsUsed u old_rows old_ends rows ends
  pub layered : IsLayered m u old_rows old_ends rows ends layers set at
  pub filled : (k : ℕ) → k < u → get_or layers k 0 < at + 1 → get_or ends k 0 ≢ 0
  pub cleared : IsCleared u row

module _ (m u : ℕ) (old_rows old_ends rows ends back row layers set : List ℕ) (at : ℕ) (s : CutSoFar m u old_rows old_ends rows ends row layers set at) (above : 0 < at) (cut : IsCutBack (length ends) ends layers (at - 1) back) where
  cut_below : IsCutBack u ends layers (at - 1) back
  cut_below = subst (λ (x : ℕ). IsCutBack x ends layers (at - 1) back) s.laid_out.ends_room cut

  -- the rows up to the layer before
  pub zeros_below : HasZeros m u old_rows old_ends rows back set (at - 1)
  zeros_below = s.layered (at - 1) back (omega arith) cut_below

  module _ (rows' ends' row' : List ℕ) (laid : IsLaidOut m u rows' ends') (keeps : KeepsUsed u rows back rows' ends') where
    pub below_keeps : KeepsUsed u old_rows old_ends rows' ends'
    below_keeps = keeps_more u old_rows old_ends rows back rows' ends' zeros_below.keeps_used keeps

    used : (k : ℕ) → k < u → get_or layers k 0 < at - 1 + 1 → get_or back k 0 ≢ 0
    used k low within none = s.filled k low (omega arith) (sym (cut_below.kept k low within) ∙ none)

    earlier_layer : (layer : ℕ) (now : List ℕ) → layer < at - 1 + 1 → IsCutBack u ends' layers layer now → IsCutBack u ends layers layer now
    earlier_layer layer now low now_cut = record {
      room = now_cut.room;
      kept = λ k k_low within.
          now_cut.kept k k_low within ∙ keeps.same_end k k_low (used k k_low (omega arith)) ∙ cut_below.kept k k_low (omega arith);
      emptied = now_cut.emptied;
    }

    -- with rows that are kept beside those
    pub Cut-more : IsCleared u row' → CutSoFar m u old_rows old_ends rows' ends' row' layers set (at - 1)
    Cut-more clear = record {
      laid_out = laid;
      keeps_used = below_keeps;
      layered = λ layer now low now_cut.
          zeros_stay m u old_rows old_ends rows back rows' ends' now set layer (s.layered layer now (omega arith) (earlier_layer layer now low now_cut)) laid keeps (λ k k_low some.
          elim (cases_lt layer (get_or layers k 0)) [
            | inl after ↦ absurd (some (now_cut.emptied k k_low after))
            | inr within ↦ used k k_low (omega arith)
          ]);
      filled = λ k low within none. used k low within (sym (keeps.same_end k low (used k low within)) ∙ none);
      cleared = clear;
    }

-- a solution with 1 for the unknown of the set at place `at`, and 0 for those before it
pub record IsStep (m u : ℕ) (rows : ℕ → ℕ → ℕ) (set : List ℕ) (w : ℕ → ℕ) (at : ℕ) : Type 0 where
  pub residues : AreResidues m u w
  pub met : AllMet m u rows w
  pub none : (i : ℕ) → i < at → w (get_or set i 0 - 1) ≡ 0
  pub one : w (get_or set at 0 - 1) ≡ 1

pub step_found : (m u : ℕ) (old_rows old_ends rows back rows' ends' set : List ℕ) (at : ℕ) → HasZeros m u old_rows old_ends rows back set at → Fixes m u (entry u rows back) (entry u rows' ends') (get_or set at 0 - 1) 1 → (w : ℕ → ℕ) → AreResidues m u w → AllMet m u (entry u rows' ends') w → IsStep m u (entry u old_rows old_ends) set w at
step_found m u old_rows old_ends rows back rows' ends' set at s fixed w low met =
    let both = (fixed w low).0 met in
    let before = (s.met w low).0 both.0 in
    record { residues = low; met = before.0; none = before.1; one = both.1 }
