-- What further rows for chosen unknowns leave.
use Rattle.std.proofs.Common.{◌≡◌, ◌≢◌, ℕ, zero, suc, ◌+◌, ◌-◌, ◌*◌, ◌%◌, ◌<◌, ◌≤◌, ◌↔◌, ◌⊎◌, Bool, true, false, List, [], ◌∷◌, length, get_or, inl, inr, refl, sym, ◌∙◌, ap, subst, arith, get_or-set_other, get_or-set_same}
use Rattle.std.proofs.Math.ListN.{set, length-set}
use Rattle.std.specs.Bool.{OnTrue, OnFalse}
use Rattle.std.proofs.Math.Nat.{mod-eq_of_lt}
use Rattle.std.proofs.lemmas.Bool.{cases_eq, eq-eqb, eqb-true, or_cases, or_left, or_right}
use Rattle.prime_field.specs.Residue.{IsPrime}
use Rattle.prime_field.specs.Sum.{sum_to}
use Rattle.prime_field.proofs.Sums.{sum-pick}
use Rattle.elim_core.specs.Rows.{Meets, AllMet, AreResidues, put, IsChoice, Tells, Fixes, IsDecided}
use Rattle.elim_core.specs.Layout.{entry, IsLaidOut, IsRow, IsSpan, IsCleared, KeepsUsed, HasZeros, IsNewRow, IsSameRow, IsNoRow}
use Rattle.elim_core.specs.Solver.{has_number, IsAscending, AreUnknowns}
use Rattle.elim_core.proofs.Systems.{put-same, put-other}
use Rattle.elim_core.proofs.Echelon.{determined, free_differ}
use Rattle.elim_core.proofs.Entries.{entry-empty, entry-own, entry-same, laid_out_form}
use Rattle.elim_core.proofs.Told.{told, told-low, told-own, told_solves, one_for_choice, put-low}

-- the row that asks for a value of one unknown
module _ (m u : ℕ) (row : List ℕ) (place value : ℕ) (large : 1 < m) (clear : IsCleared u row) (low : place < u) (value_low : value < 2) where
  asked : List ℕ
  asked = set (set row place 1) u value

  asked-place : get_or asked place 0 ≡ 1
  unfolding asked
  asked-place =
      let ne : place ≢ u = omega arith in
      let there : place < length row = omega (arith, clear.room) in
      get_or-set_other (set row place 1) u place value 0 ne ∙ get_or-set_same row place 1 0 there

  asked-right : get_or asked u 0 ≡ value
  unfolding asked
  asked-right =
      let there : u < length (set row place 1) = omega (arith, clear.room, length-set row place 1) in
      get_or-set_same (set row place 1) u value 0 there

  asked-other : (k : ℕ) → k < u → k ≢ place → get_or asked k 0 ≡ 0
  unfolding asked
  asked-other k k_low other =
      let ne : k ≢ u = omega arith in
      get_or-set_other (set row place 1) u k value 0 ne ∙ get_or-set_other row place k 1 0 other ∙ clear.zeros k (omega arith)

  pub asked-row : IsRow m u (set (set row place 1) u value)
  unfolding asked
  asked-row = record {
    room = length-set (set row place 1) u value ∙ length-set row place 1 ∙ clear.room;
    residues = λ k k_low.
        elim (cases_eq k u) [
          | inl last ↦ subst (λ (x : ℕ). x < m) (sym asked-right ∙ ap (λ i. get_or asked i 0) (sym last)) (omega arith)
          | inr before ↦
              elim (cases_eq k place) [
                | inl same ↦ subst (λ (x : ℕ). x < m) (sym asked-place ∙ ap (λ i. get_or asked i 0) (sym same)) large
                | inr other ↦ subst (λ (x : ℕ). x < m) (sym (asked-other k (omega arith) other)) (omega arith)
              ]
        ];
  }

  pub asked-span : IsSpan u (set (set row place 1) u value) place (place + 1)
  unfolding asked
  asked-span = record {
    before = λ k k_low. let other : k ≢ place = omega arith in asked-other k (omega arith) other;
    beyond = λ k above k_low. let other : k ≢ place = omega arith in asked-other k k_low other;
  }

  asked-sum : (z : ℕ → ℕ) → AreResidues m u z → sum_to u (λ k. get_or asked k 0 * z k) % m ≡ z place
  asked-sum z z_low =
      ap (λ x. x % m) (
      sum-pick u place (λ k. get_or asked k 0 * z k) low
      (λ k k_low other. ap (λ x. x * z k) (asked-other k k_low other) ∙ omega arith) ∙
      ap (λ x. x * z place) asked-place ∙ omega arith) ∙
      mod-eq_of_lt (z_low place low)

  pub asked-met : (z : ℕ → ℕ) → AreResidues m u z → (Meets m u (λ k. get_or (set (set row place 1) u value) k 0) z ↔ (z place ≡ value))
  unfolding asked
  asked-met z z_low = (λ met. sym (asked-sum z z_low) ∙ met ∙ asked-right, λ is. asked-sum z z_low ∙ is ∙ sym asked-right)

  pub fixes : (old now : ℕ → ℕ → ℕ) → IsNewRow m u old now (λ k. get_or (set (set row place 1) u value) k 0) → Fixes m u old now place value
  fixes old now is z z_low = (
    λ met. let both = (is.met z).0 met in (both.0, (asked-met z z_low).0 both.1),
    λ both. (is.met z).1 (both.0, (asked-met z z_low).1 both.1),
  )

  pub decided-same : (old now : ℕ → ℕ → ℕ) → IsSameRow m u old now (λ k. get_or (set (set row place 1) u value) k 0) → IsDecided m u old place value
  decided-same old now is y z y_low z_low y_met z_met y_is z_not = z_not ((asked-met z z_low).0 (is.follows z z_met))

  pub decided-none : (old now : ℕ → ℕ → ℕ) → IsNoRow m u old now (λ k. get_or (set (set row place 1) u value) k 0) → IsPrime m → IsDecided m u old place value
  decided-none old now is prime y z y_low z_low y_met z_met y_is z_not = is.none prime y y_met ((asked-met y y_low).1 y_is)

-- a number of the list stands somewhere in it
pub has_number-index : (xs : List ℕ) (n : ℕ) → has_number xs n ≡ true → (i : ℕ) × (i < length xs) × (get_or xs i 0 ≡ n)
has_number-index [] n is = absurd (cc)
has_number-index (x ∷ xs) n is =
    elim (or_cases _ _ is) [
      | inl first ↦ (0, omega arith, eqb-true x n first)
      | inr later ↦
          let found = has_number-index xs n later in
          (suc found.0, omega (arith, found.1), found.2)
    ]

-- what stands in the list is a number of it
pub index-has_number : (xs : List ℕ) (i n : ℕ) → i < length xs → get_or xs i 0 ≡ n → has_number xs n ≡ true
index-has_number [] i n low is = absurd (omega arith)
index-has_number (x ∷ xs) zero n low is = or_left _ _ (eq-eqb x n is)
index-has_number (x ∷ xs) (suc i) n low is = or_right _ _ (index-has_number xs i n (omega arith) is)

-- rows that were kept beside others that were kept beside earlier ones
pub keeps_more : (u : ℕ) (old_rows old_ends rows ends rows' ends' : List ℕ) → KeepsUsed u old_rows old_ends rows ends → KeepsUsed u rows ends rows' ends' → KeepsUsed u old_rows old_ends rows' ends'
keeps_more u old_rows old_ends rows ends rows' ends' first then = record {
  same_end = λ j low some.
      let before = first.same_end j low some in
      then.same_end j low (λ none. some (sym before ∙ none)) ∙ before;
  same_row = λ j k low k_low some.
      let before = first.same_end j low some in
      then.same_row j k low k_low (λ none. some (sym before ∙ none)) ∙ first.same_row j k low k_low some;
}

pub Zeros-start : (m u : ℕ) (rows ends set : List ℕ) → IsLaidOut m u rows ends → HasZeros m u rows ends rows ends set 0
Zeros-start m u rows ends set laid = record {
  laid_out = laid;
  keeps_used = record { same_end = λ j low some. refl; same_row = λ j k low k_low some. refl };
  met = λ z z_low. (λ met. (met, λ i low. absurd (omega arith)), λ both. both.0);
}

pub Zeros-more : (m u : ℕ) (old_rows old_ends rows ends rows' ends' set : List ℕ) (at : ℕ) → HasZeros m u old_rows old_ends rows ends set at → IsLaidOut m u rows' ends' → KeepsUsed u rows ends rows' ends' → Fixes m u (entry u rows ends) (entry u rows' ends') (get_or set at 0 - 1) 0 → HasZeros m u old_rows old_ends rows' ends' set (at + 1)
Zeros-more m u old_rows old_ends rows ends rows' ends' set at s laid keeps fixed = record {
  laid_out = laid;
  keeps_used = keeps_more u old_rows old_ends rows ends rows' ends' s.keeps_used keeps;
  met = λ z z_low. (
    λ now_met.
        let both = (fixed z z_low).0 now_met in
        let earlier = (s.met z z_low).0 both.0 in (
          earlier.0,
          λ i low.
              elim (cases_eq i at) [
                | inl same ↦ subst (λ (x : ℕ). z (get_or set x 0 - 1) ≡ 0) (sym same) both.1
                | inr other ↦ earlier.1 i (omega arith)
              ],
        ),
    λ all. (fixed z z_low).1 ((s.met z z_low).1 (all.0, λ i low. all.1 i (omega arith)), all.1 at (omega arith)),
  );
}

module _ (m u : ℕ) (old_rows old_ends rows ends set : List ℕ) (at : ℕ) (large : 1 < m) (ascending : IsAscending set) (numbers : AreUnknowns u set) (s : HasZeros m u old_rows old_ends rows ends set at)
    (c : ℕ → ℕ → ℕ) (d : ℕ → ℕ) (tells : Tells m u (AllMet m u (entry u old_rows old_ends)) (λ k. has_number set (k + 1)) c d) where
  at_has : (i : ℕ) → i < length set → has_number set (get_or set i 0 - 1 + 1) ≡ true
  at_has i low = index-has_number set i (get_or set i 0 - 1 + 1) low (omega (arith, (numbers i low).0))

  place_low : (i : ℕ) → i < length set → get_or set i 0 - 1 < u
  place_low i low = omega (arith, (numbers i low).0, (numbers i low).1)

  -- what is told by a choice with zeros so far solves the rows so far
  told_so_far : (v : ℕ → ℕ) → AreResidues m u v → ((i : ℕ) → i < at → i < length set → v (get_or set i 0 - 1) ≡ 0) → at ≤ length set → AllMet m u (entry u rows ends) (told m u (AllMet m u (entry u old_rows old_ends)) (λ k. has_number set (k + 1)) c d large tells v)
  told_so_far v v_low none within =
      (s.met (told m u (AllMet m u (entry u old_rows old_ends)) (λ k. has_number set (k + 1)) c d large tells v)
      (told-low m u (AllMet m u (entry u old_rows old_ends)) (λ k. has_number set (k + 1)) c d large tells v)).1 (
        told_solves m u (AllMet m u (entry u old_rows old_ends)) (λ k. has_number set (k + 1)) c d large tells v v_low,
        λ i low.
            told-own m u (AllMet m u (entry u old_rows old_ends)) (λ k. has_number set (k + 1)) c d large tells v v_low
            (get_or set i 0 - 1) (place_low i (omega arith)) (at_has i (omega arith)) ∙
            none i low (omega arith),
      )

  -- with a value for the next unknown of the set
  told_next : (v : ℕ) → v < 2 → at < length set → AllMet m u (entry u rows ends) (told m u (AllMet m u (entry u old_rows old_ends)) (λ k. has_number set (k + 1)) c d large tells (put (get_or set at 0 - 1) v (λ k. 0)))
  told_next v v_low low =
      told_so_far (put (get_or set at 0 - 1) v (λ k. 0)) (put-low m u (get_or set at 0 - 1) v (omega arith)) (λ i i_low i_in.
      let order = ascending i at i_low low in
      let apart : get_or set i 0 - 1 ≢ get_or set at 0 - 1 = omega (arith, order, (numbers i i_in).0) in
      put-other (get_or set at 0 - 1) (get_or set i 0 - 1) v (λ k. 0) apart) (omega arith)

  -- so the next unknown of the set isn't decided
  pub undecided : at < length set → (value : ℕ) → value < 2 → IsDecided m u (entry u rows ends) (get_or set at 0 - 1) value → ⊥
  undecided low value value_low decided =
      let p = get_or set at 0 - 1 in
      let T = told m u (AllMet m u (entry u old_rows old_ends)) (λ k. has_number set (k + 1)) c d large tells in
      let low_T = told-low m u (AllMet m u (entry u old_rows old_ends)) (λ k. has_number set (k + 1)) c d large tells in
      let own_T : (v : ℕ) → v < 2 → T (put p v (λ k. 0)) p ≡ v = λ v v_low.
      told-own m u (AllMet m u (entry u old_rows old_ends)) (λ k. has_number set (k + 1)) c d large tells (put p v (λ k. 0)) (put-low m u p v (omega arith)) p (place_low at low) (at_has at low) ∙
      put-same p v (λ k. 0) in
      decided (T (put p value (λ k. 0))) (T (put p (1 - value) (λ k. 0))) (low_T (put p value (λ k. 0))) (low_T (put p (1 - value) (λ k. 0)))
      (told_next value value_low low)
      (told_next (1 - value) (omega arith) low)
      (own_T value value_low)
      (λ wrong. omega (arith, wrong, own_T (1 - value) (omega arith)))

  -- and no slot is left empty in the end
  pub no_empty : (k : ℕ) → k < u → at ≡ length set → get_or ends k 0 ≡ 0 → ⊥
  no_empty k low whole none =
      let two = free_differ m u (entry u rows ends) (laid_out_form m u rows ends s.laid_out) k large low (entry-empty u rows ends k k none) in
      let one_is = (s.met two.one two.one_low).0 two.one_met in
      let other_is = (s.met two.other two.other_low).0 two.other_met in
      let same : two.one k ≡ two.other k =
      one_for_choice m u (AllMet m u (entry u old_rows old_ends)) (λ i. has_number set (i + 1)) c d large tells two.one two.other
      two.one_low two.other_low one_is.0 other_is.0
      (λ i i_low has.
      let found = has_number-index set (i + 1) has in
      let place : get_or set found.0 0 - 1 ≡ i = omega (arith, found.2) in
      let within : found.0 < at = omega (arith, found.1) in
      subst (λ (x : ℕ). two.one x ≡ two.other x) place (one_is.1 found.0 within ∙ sym (other_is.1 found.0 within)))
      k low in
      omega (arith, same, two.zero_there, two.one_there)

-- each slot is used, or some is empty
pub used_cases : (ends : List ℕ) (n : ℕ) → ((k : ℕ) → k < n → get_or ends k 0 ≢ 0) ⊎ ((k : ℕ) × (k < n) × (get_or ends k 0 ≡ 0))
used_cases ends zero = inl (λ k low. absurd (omega arith))
used_cases ends (suc n) =
    elim (used_cases ends n) [
      | inr found ↦ inr (found.0, omega (arith, found.1), found.2)
      | inl used ↦
          elim (cases_eq (get_or ends n 0) 0) [
            | inl none ↦ inr (n, omega arith, none)
            | inr some ↦ inl (λ k low.
                elim (cases_eq k n) [
                  | inl same ↦ λ none. some (ap (λ i. get_or ends i 0) (sym same) ∙ none)
                  | inr other ↦ used k (omega arith)
                ])
          ]
    ]

pub on_true : (b : Bool) (P : Type 0) → (b ≡ true → P) → OnTrue b P
on_true true P f = f refl
on_true false P f = tt

pub on_false : (b : Bool) (P : Type 0) → (b ≡ false → P) → OnFalse b P
on_false true P f = tt
on_false false P f = f refl

-- slots that were used are as they were
pub kept-same : (u : ℕ) (old_rows ends rows now_ends back : List ℕ) → KeepsUsed u old_rows ends rows now_ends → ((j : ℕ) → j < u → get_or back j 0 ≢ 0 → get_or ends j 0 ≢ 0) → (j k : ℕ) → j < u → k < u + 1 → entry u rows back j k ≡ entry u old_rows back j k
kept-same u old_rows ends rows now_ends back keeps used j k low k_low =
    entry-same u rows back old_rows back j k low k_low refl (λ some i i_low. keeps.same_row j i low i_low (used j low some))

-- rows with the same entries are laid out
pub laid_out_same : (m u : ℕ) (old_rows rows ends : List ℕ) → IsLaidOut m u old_rows ends → length rows ≡ u * (u + 1) → ((j k : ℕ) → j < u → k < u + 1 → entry u rows ends j k ≡ entry u old_rows ends j k) → IsLaidOut m u rows ends
laid_out_same m u old_rows rows ends old room same = record {
  rows_room = room;
  ends_room = old.ends_room;
  within = old.within;
  after = old.after;
  residues = λ j k low k_low. subst (λ (x : ℕ). x < m) (sym (same j k low k_low)) (old.residues j k low k_low);
}

-- the rows with their old ends are the old rows
module _ (m u : ℕ) (old_rows old_ends rows ends back : List ℕ) (old : IsLaidOut m u old_rows old_ends) (now : IsLaidOut m u rows ends) (keeps : KeepsUsed u old_rows old_ends rows ends) (is : back ≡ old_ends) where
  with_old_ends : (j k : ℕ) → j < u → k < u + 1 → entry u rows old_ends j k ≡ entry u old_rows old_ends j k
  with_old_ends = kept-same u old_rows old_ends rows ends old_ends keeps (λ j low some. some)

  pub restored-same : (j k : ℕ) → j < u → k < u + 1 → entry u rows back j k ≡ entry u old_rows old_ends j k
  restored-same j k low k_low = ap (λ xs. entry u rows xs j k) is ∙ with_old_ends j k low k_low

  pub restored-laid_out : IsLaidOut m u rows back
  restored-laid_out =
      subst (λ (xs : List ℕ). IsLaidOut m u rows xs) (sym is) (laid_out_same m u old_rows rows old_ends old now.rows_room with_old_ends)

module _ (m u : ℕ) (old_rows old_ends rows ends set : List ℕ) (numbers : AreUnknowns u set) (s : HasZeros m u old_rows old_ends rows ends set (length set)) where
  -- a solution of the rows with those for the set is a solution with zeros there
  pub found_choice : (z : ℕ → ℕ) → AreResidues m u z → AllMet m u (entry u rows ends) z → IsChoice m u (entry u old_rows old_ends) (λ k. has_number set (k + 1)) (λ k. 0) z
  found_choice z z_low now_met =
      let both = (s.met z z_low).0 now_met in
      record {
        residues = z_low;
        met = both.0;
        chosen = λ k low has.
            let found = has_number-index set (k + 1) has in
            let place : get_or set found.0 0 - 1 ≡ k = omega (arith, found.2) in
            ap z (sym place) ∙ both.1 found.0 found.1;
      }

  -- and the other way round
  choice_met : (z : ℕ → ℕ) → IsChoice m u (entry u old_rows old_ends) (λ k. has_number set (k + 1)) (λ k. 0) z → AllMet m u (entry u rows ends) z
  choice_met z is =
      (s.met z is.residues).1 (
        is.met,
        λ i low.
            is.chosen (get_or set i 0 - 1) (omega (arith, (numbers i low).0, (numbers i low).1))
            (index-has_number set i (get_or set i 0 - 1 + 1) low (omega (arith, (numbers i low).0))),
      )

  -- with every slot used there is one
  pub only_choice : ((k : ℕ) → k < u → get_or ends k 0 ≢ 0) → (z : ℕ → ℕ) → AreResidues m u z → AllMet m u (entry u rows ends) z →
      (y : ℕ → ℕ) → IsChoice m u (entry u old_rows old_ends) (λ k. has_number set (k + 1)) (λ k. 0) y → (j : ℕ) → j < u → y j ≡ z j
  only_choice used z z_low z_met y is j low =
      determined m u (entry u rows ends) (laid_out_form m u rows ends s.laid_out) y z is.residues z_low (choice_met y is) z_met 0
      (λ k above k_low none. absurd (omega (arith, none, entry-own u rows ends k (used k k_low)))) j (omega arith) low

pub true_of : (b : Bool) (P : Type 0) → OnTrue b P → b ≡ true → P
true_of true P fact is = fact
true_of false P fact is = absurd (cc)

pub false_of : (b : Bool) (P : Type 0) → OnFalse b P → b ≡ false → P
false_of true P fact is = absurd (cc)
false_of false P fact is = fact
