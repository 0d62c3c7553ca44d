-- Rows in echelon form: row j begins at place j with 1, or is 0 throughout.
use Rattle.std.proofs.Common.{◌≡◌, ◌≢◌, ℕ, zero, suc, ◌+◌, ◌*◌, ◌-◌, ◌%◌, ◌<◌, ◌↔◌, inl, inr, refl, sym, ◌∙◌, ap, subst, arith}
use Rattle.std.proofs.lemmas.Bool.{cases_eq}
use Rattle.std.proofs.Math.Nat.{mod-lt}
use Rattle.prime_field.specs.Sum.{sum_to}
use Rattle.elim_core.specs.Rows.{Meets, AllMet, AreResidues, put, spot, IsEchelon, IsInserted, IsCut}
use Rattle.elim_core.proofs.Systems.{put-same, put-other, Meets-same, Meets-row, Meets-zeros, Meets-scaled, Meets-unscaled, row_tells, row_solved}

-- z solves the rows from `from` on, with the values of f at the places of empty rows
pub record SolvesFrom (m u : ℕ) (rows : ℕ → ℕ → ℕ) (f : ℕ → ℕ) (from : ℕ) : Type 0 where
  pub z : ℕ → ℕ
  pub residues : AreResidues m u z
  pub met : (j : ℕ) → from < j + 1 → j < u → Meets m u (rows j) z
  pub free : (k : ℕ) → k < u → rows k k ≡ 0 → z k ≡ f k

module _ (m u : ℕ) (rows : ℕ → ℕ → ℕ) (form : IsEchelon m u rows) where
  -- an empty row holds everywhere
  pub empty_met : (j : ℕ) (z : ℕ → ℕ) → j < u → rows j j ≡ 0 → Meets m u (rows j) z
  empty_met j z low none =
      Meets-zeros m u (rows j) z (λ k k_low. form.empty j k low (omega arith) none) ∙
      sym (form.empty j u low (omega arith) none)

  -- one row more, from the last to the first
  solved_more : (f : ℕ → ℕ) (from : ℕ) → from < u → SolvesFrom m u rows f (suc from) → SolvesFrom m u rows f from
  solved_more f from low solved =
      elim (cases_eq (rows from from) 0) [
        | inl none ↦ record {
          z = solved.z;
          residues = solved.residues;
          met = λ j above j_low.
              elim (cases_eq j from) [
                | inl same ↦ subst (λ (x : ℕ). Meets m u (rows x) solved.z) (sym same) (empty_met from solved.z low none)
                | inr other ↦ solved.met j (omega arith) j_low
              ];
          free = solved.free;
        }
        | inr some ↦
            let one : rows from from ≡ 1 = omega (arith, form.leading from low) in
            let positive : 0 < m = omega (arith, form.residues from u low (omega arith)) in
            let y = put from 0 solved.z in
            let s = sum_to u (λ k. rows from k * y k) % m in
            let v = (rows from u + (m - s)) % m in
            record {
              z = put from v solved.z;
              residues = λ k k_low.
                  elim (cases_eq k from) [
                    | inl same ↦
                        subst (λ (x : ℕ). x < m)
                        (sym (put-same from v solved.z) ∙ ap (λ i. put from v solved.z i) (sym same))
                        (mod-lt (rows from u + (m - s)) positive)
                    | inr other ↦ subst (λ (x : ℕ). x < m) (sym (put-other from k v solved.z other)) (solved.residues k k_low)
                  ];
              met = λ j above j_low.
                  elim (cases_eq j from) [
                    | inl same ↦
                        subst (λ (x : ℕ). Meets m u (rows x) (put from v solved.z)) (sym same)
                        (row_solved m u from s (rows from) y (put from v solved.z) positive low one
                        (form.residues from u low (omega arith)) (put-same from 0 solved.z)
                        (λ k k_low other. put-other from k v solved.z other ∙ sym (put-other from k 0 solved.z other))
                        (mod-lt (sum_to u (λ k. rows from k * y k)) positive) refl (put-same from v solved.z))
                    | inr later ↦
                        Meets-same m u (rows j) solved.z (put from v solved.z)
                        (λ k k_low.
                        elim (cases_eq k from) [
                          | inl same ↦
                              let before : k < j = omega arith in
                              ap (λ x. x * solved.z k) (form.begins j k j_low before) ∙ omega arith ∙
                              sym (ap (λ x. x * put from v solved.z k) (form.begins j k j_low before))
                          | inr other ↦ ap (λ x. rows j k * x) (sym (put-other from k v solved.z other))
                        ])
                        (solved.met j (omega arith) j_low)
                  ];
              free = λ k k_low none.
                  elim (cases_eq k from) [
                    | inl same ↦ absurd (some (ap (λ i. rows i i) (sym same) ∙ none))
                    | inr other ↦ put-other from k v solved.z other ∙ solved.free k k_low none
                  ];
            }
      ]

  solved_from : (f : ℕ → ℕ) → AreResidues m u f → (n from : ℕ) → from + n ≡ u → SolvesFrom m u rows f from
  solved_from f low zero from ends = record {
    z = f;
    residues = low;
    met = λ j above j_low. absurd (omega arith);
    free = λ k k_low none. refl;
  }
  solved_from f low (suc n) from ends =
      solved_more f from (omega arith) (solved_from f low n (suc from) (omega arith))

  -- there is a solution for any choice at the places of empty rows
  pub solution_for : (f : ℕ → ℕ) → AreResidues m u f → SolvesFrom m u rows f 0
  solution_for f low = solved_from f low u 0 (omega arith)

  module _ (z y : ℕ → ℕ) (z_low : AreResidues m u z) (y_low : AreResidues m u y) (z_met : AllMet m u rows z) (y_met : AllMet m u rows y) where
    determined_within : (from : ℕ) → ((k : ℕ) → from < k + 1 → k < u → rows k k ≡ 0 → z k ≡ y k) → (n k : ℕ) → from < k + 1 → u < k + n + 1 → k < u → z k ≡ y k
    determined_within from free zero k above near low = absurd (omega arith)
    determined_within from free (suc n) k above near low =
        elim (cases_eq (rows k k) 0) [
          | inl none ↦ free k above low none
          | inr some ↦
              row_tells m u k (rows k) z y low z_low y_low
              (λ i before. form.begins k i low before)
              (omega (arith, form.leading k low))
              (λ i after i_low. determined_within from free n i (omega arith) (omega arith) i_low)
              (z_met k low) (y_met k low)
        ]

    -- two solutions that agree at the places of empty rows from `from` on agree from there on
    pub determined : (from : ℕ) → ((k : ℕ) → from < k + 1 → k < u → rows k k ≡ 0 → z k ≡ y k) → (k : ℕ) → from < k + 1 → k < u → z k ≡ y k
    determined from free k above low = determined_within from free u k above (omega arith) low

  -- two solutions that agree after place p and differ there
  pub record Differ (p : ℕ) : Type 0 where
    pub one : ℕ → ℕ
    pub other : ℕ → ℕ
    pub one_low : AreResidues m u one
    pub other_low : AreResidues m u other
    pub one_met : AllMet m u rows one
    pub other_met : AllMet m u rows other
    pub agree : (k : ℕ) → p < k → k < u → one k ≡ other k
    pub zero_there : one p ≡ 0
    pub one_there : other p ≡ 1

  -- the place of an empty row is free, whatever the places after it are
  pub free_differ : (p : ℕ) → 1 < m → p < u → rows p p ≡ 0 → Differ p
  free_differ p large low none =
      let zeros = solution_for (λ k. 0) (λ k k_low. omega arith) in
      let ones = solution_for (spot p) (λ k k_low.
      elim (cases_eq k p) [
        | inl same ↦ subst (λ (x : ℕ). x < m) (sym (put-same p 1 (λ i. 0)) ∙ ap (spot p) (sym same)) large
        | inr other ↦ subst (λ (x : ℕ). x < m) (sym (put-other p k 1 (λ i. 0) other)) (omega arith)
      ]) in
      let zeros_met : AllMet m u rows zeros.z = λ j j_low. zeros.met j (omega arith) j_low in
      let ones_met : AllMet m u rows ones.z = λ j j_low. ones.met j (omega arith) j_low in
      record {
        one = zeros.z;
        other = ones.z;
        one_low = zeros.residues;
        other_low = ones.residues;
        one_met = zeros_met;
        other_met = ones_met;
        agree = λ k after k_low.
            determined zeros.z ones.z zeros.residues ones.residues zeros_met ones_met (suc p)
            (λ i above i_low empty.
            let apart : i ≢ p = omega arith in
            zeros.free i i_low empty ∙ sym (put-other p i 1 (λ x. 0) apart) ∙ sym (ones.free i i_low empty))
            k (omega arith) k_low;
        zero_there = zeros.free p low none;
        one_there = ones.free p low none ∙ put-same p 1 (λ i. 0);
      }

  -- the place of another row is told by the places after it
  pub dependent_agree : (p : ℕ) (z y : ℕ → ℕ) → p < u → rows p p ≢ 0 → AreResidues m u z → AreResidues m u y → AllMet m u rows z → AllMet m u rows y → ((k : ℕ) → p < k → k < u → z k ≡ y k) → z p ≡ y p
  dependent_agree p z y low some z_low y_low z_met y_met later =
      row_tells m u p (rows p) z y low z_low y_low (λ i before. form.begins p i low before)
      (omega (arith, form.leading p low)) later (z_met p low) (y_met p low)

module _ (m u : ℕ) (old now : ℕ → ℕ → ℕ) (row : ℕ → ℕ) (p factor inverse : ℕ) (s : IsInserted m u old now row p factor inverse) where
  -- it holds where the old rows and the row hold
  pub inserted_met : (z : ℕ → ℕ) → (AllMet m u now z ↔ (AllMet m u old z × Meets m u row z))
  inserted_met z = (back, forth)
    where
      back : AllMet m u now z → AllMet m u old z × Meets m u row z
      back met = (
        λ j low.
            elim (cases_eq j p) [
              | inl same ↦
                  subst (λ (x : ℕ). Meets m u (old x) z) (sym same)
                  (Meets-zeros m u (old p) z (λ k k_low. s.was_empty k (omega arith)) ∙ sym (s.was_empty u (omega arith)))
              | inr other ↦ Meets-row m u (now j) (old j) z (λ k k_low. sym (s.others j k low k_low other)) (met j low)
            ],
        Meets-unscaled m u factor inverse row (now p) z s.large s.unit s.residues s.scaled (met p s.place),
      )

      forth : AllMet m u old z × Meets m u row z → AllMet m u now z
      forth both j low =
          elim (cases_eq j p) [
            | inl same ↦ subst (λ (x : ℕ). Meets m u (now x) z) (sym same) (Meets-scaled m u factor row (now p) z s.scaled both.1)
            | inr other ↦ Meets-row m u (old j) (now j) z (λ k k_low. s.others j k low k_low other) (both.0 j low)
          ]

-- an inserted row cuts solutions
pub inserted_cuts : (m u : ℕ) (old now : ℕ → ℕ → ℕ) (row : ℕ → ℕ) (p factor inverse : ℕ) → IsInserted m u old now row p factor inverse → IsEchelon m u old → IsEchelon m u now → now p p ≢ 0 → IsCut m u old row
inserted_cuts m u old now row p factor inverse s old_form now_form some =
    let two = free_differ m u old old_form p s.large s.place (s.was_empty p (omega (arith, s.place))) in
    elim (cases_eq (sum_to u (λ k. row k * two.one k) % m) (row u)) [
      | inl one_met ↦ record {
        z = two.other;
        residues = two.other_low;
        met = two.other_met;
        unmet = λ other_met.
            let wrong : two.one p ≡ two.other p =
            dependent_agree m u now now_form p two.one two.other s.place some two.one_low two.other_low
            ((inserted_met m u old now row p factor inverse s two.one).1 (two.one_met, one_met))
            ((inserted_met m u old now row p factor inverse s two.other).1 (two.other_met, other_met)) two.agree in
            omega (arith, wrong, two.zero_there, two.one_there);
      }
      | inr unmet ↦ record {
        z = two.one;
        residues = two.one_low;
        met = two.one_met;
        unmet = unmet;
      }
    ]
