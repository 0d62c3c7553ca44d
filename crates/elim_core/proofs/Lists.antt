-- Solutions as lists and as functions of a place; the parts of the lent words; what absorbing means for the kept rows.
use Rattle.std.proofs.Common.{◌≡◌, ◌≢◌, ℕ, ◌+◌, ◌*◌, ◌%◌, ◌<◌, ◌↔◌, ◌==◌, if◌then◌else◌, true, false, List, [], ◌∷◌, ◌++◌, length, get_or, take, drop, refl, sym, ◌∙◌, ap, subst, arith, zero-add}
use Rattle.std.specs.Prelude.{map}
use Rattle.std.specs.List.{range_with_len}
use Rattle.std.proofs.Math.Seq.{take-append_seam, drop-append_seam}
use Rattle.std.proofs.lemmas.Bool.{eq-eqb, ne_eqb}
use Rattle.std.proofs.lemmas.List.FromFn.{length-map-range_with_len, get_or-map-range_with_len}
use Rattle.prime_field.specs.Modulus.{value_of}
use Rattle.prime_field.specs.Residue.{IsPrime}
use Rattle.prime_field.specs.Sum.{sum_to}
use Rattle.prime_field.proofs.Moduli.{value_of-large}
use Rattle.elim_core.specs.Rows.{Meets, AllMet, AreResidues}
use Rattle.elim_core.specs.Layout.{entry, IsLaidOut, IsNewRow, IsSameRow, IsNoRow}
use Rattle.elim_core.specs.Solution.{Satisfies, IsSolution}
use Rattle.elim_core.specs.Kept.{unknowns_of, modulus_of, rows_of, ends_of, work_of, rows_listed, broken_row, kept_rows, HasSolution, IsCutBy, IsAbsorbed, IsFree}
use Rattle.elim_core.specs.declared.Elim.{Elim}
use Rattle.elim_core.specs.declared.Rank.{Rank}
use Rattle.elim_core.specs.declared.Rank.TheVariants.{New, Same, Contradiction}
use Rattle.elim_core.proofs.Systems.{Meets-row, Meets-same, Meets-zeros}
use Rattle.elim_core.proofs.Echelon.{solution_for}
use Rattle.elim_core.proofs.Entries.{entry-empty, laid_out_form}

-- the list of the first u values of z
pub listed : ℕ → (ℕ → ℕ) → List ℕ
listed u z = map z (range_with_len 0 u)

pub length-listed : (u : ℕ) (z : ℕ → ℕ) → length (listed u z) ≡ u
unfolding listed
length-listed u z = length-map-range_with_len z 0 u

pub index-listed : (u : ℕ) (z : ℕ → ℕ) (k d : ℕ) → k < u → get_or (listed u z) k d ≡ z k
unfolding listed
index-listed u z k d low = get_or-map-range_with_len z 0 u k k d low (zero-add k)

-- a row and a list
pub satisfies_meets : (m u : ℕ) (row zs : List ℕ) → length zs ≡ u → Satisfies m row zs → Meets m u (λ k. get_or row k 0) (λ k. get_or zs k 0)
satisfies_meets m u row zs width met =
    subst (λ (x : ℕ). sum_to x (λ k. get_or row k 0 * get_or zs k 0) % m ≡ get_or row x 0) width met

pub meets_satisfies : (m u : ℕ) (row zs : List ℕ) → length zs ≡ u → Meets m u (λ k. get_or row k 0) (λ k. get_or zs k 0) → Satisfies m row zs
meets_satisfies m u row zs width met =
    subst (λ (x : ℕ). sum_to x (λ k. get_or row k 0 * get_or zs k 0) % m ≡ get_or row x 0) (sym width) met

-- rows that are listed
module _ (m u : ℕ) (f : ℕ → ℕ → ℕ) where
  pub solution_met : (zs : List ℕ) → IsSolution m u (rows_listed u f) zs → AllMet m u f (λ k. get_or zs k 0)
  unfolding rows_listed
  solution_met zs s j low =
      let row = map (f j) (range_with_len 0 (u + 1)) in
      let there : get_or (map (λ i. map (f i) (range_with_len 0 (u + 1))) (range_with_len 0 u)) j [] ≡ row =
      get_or-map-range_with_len (λ i. map (f i) (range_with_len 0 (u + 1))) 0 u j j [] low (zero-add j) in
      let within : j < length (map (λ i. map (f i) (range_with_len 0 (u + 1))) (range_with_len 0 u)) =
      omega (arith, length-map-range_with_len (λ i. map (f i) (range_with_len 0 (u + 1))) 0 u) in
      let met : Satisfies m row zs = subst (λ (r : List ℕ). Satisfies m r zs) there (s.each j [] within) in
      Meets-row m u (λ k. get_or row k 0) (f j) (λ k. get_or zs k 0)
      (λ k k_low. sym (get_or-map-range_with_len (f j) 0 (u + 1) k k 0 k_low (zero-add k)))
      (satisfies_meets m u row zs s.width met)

  pub met_solution : (zs : List ℕ) → length zs ≡ u → ((k : ℕ) → k < u → get_or zs k 0 < m) → AllMet m u f (λ k. get_or zs k 0) → IsSolution m u (rows_listed u f) zs
  unfolding rows_listed
  met_solution zs width low met = record {
    width = width;
    residues = low;
    each = λ j d within.
        let row = map (f j) (range_with_len 0 (u + 1)) in
        let j_low : j < u = omega (arith, within, length-map-range_with_len (λ i. map (f i) (range_with_len 0 (u + 1))) 0 u) in
        let there : get_or (map (λ i. map (f i) (range_with_len 0 (u + 1))) (range_with_len 0 u)) j d ≡ row =
        get_or-map-range_with_len (λ i. map (f i) (range_with_len 0 (u + 1))) 0 u j j d j_low (zero-add j) in
        subst (λ (r : List ℕ). Satisfies m r zs) (sym there)
        (meets_satisfies m u row zs width
        (Meets-row m u (f j) (λ k. get_or row k 0) (λ k. get_or zs k 0)
        (λ k k_low. get_or-map-range_with_len (f j) 0 (u + 1) k k 0 k_low (zero-add k)) (met j j_low)));
  }

  pub function_solution : (z : ℕ → ℕ) → AreResidues m u z → AllMet m u f z → IsSolution m u (rows_listed u f) (listed u z)
  function_solution z low met =
      met_solution (listed u z) (length-listed u z)
      (λ k k_low. subst (λ (x : ℕ). x < m) (sym (index-listed u z k 0 k_low)) (low k k_low))
      (λ j j_low. Meets-same m u (f j) z (λ k. get_or (listed u z) k 0)
      (λ k k_low. ap (λ x. f j k * x) (sym (index-listed u z k 0 k_low))) (met j j_low))

-- nothing satisfies the broken row
pub broken_none : (m u : ℕ) (zs : List ℕ) → 1 < m → IsSolution m u (broken_row u ∷ []) zs → ⊥
unfolding broken_row
broken_none m u zs large s =
    let row = map (λ k. if k == u then 1 else 0) (range_with_len 0 (u + 1)) in
    let met = satisfies_meets m u row zs s.width (s.each 0 [] (omega arith)) in
    let at : (k : ℕ) → k < u + 1 → get_or row k 0 ≡ (if k == u then 1 else 0) = λ k low.
    get_or-map-range_with_len (λ i. if i == u then 1 else 0) 0 (u + 1) k k 0 low (zero-add k) in
    let none = Meets-zeros m u (λ k. get_or row k 0) (λ k. get_or zs k 0) (λ k low.
    let other : k ≢ u = omega arith in at k (omega arith) ∙ rw (ne_eqb k u other) refl) in
    let one : get_or row u 0 ≡ 1 = at u (omega arith) ∙ rw (eq-eqb u u refl) refl in
    omega (arith, sym none ∙ met, one)

-- the rows that are kept, before and after a contradiction
pub kept-open : (e : Elim) (words : List ℕ) → e.failed ≡ false → kept_rows e words ≡ rows_listed e.unknowns (entry e.unknowns (rows_of e.unknowns words) (ends_of e.unknowns words))
unfolding kept_rows
kept-open e words opened = rw opened refl

pub kept-failed : (e : Elim) (words : List ℕ) → e.failed ≡ true → kept_rows e words ≡ broken_row e.unknowns ∷ []
unfolding kept_rows
kept-failed e words failed = rw failed refl

pub failed_none : (e : Elim) (words zs : List ℕ) → e.failed ≡ true → IsSolution (value_of e.modulus) e.unknowns (kept_rows e words) zs → ⊥
failed_none e words zs failed s =
    broken_none (value_of e.modulus) e.unknowns zs (value_of-large e.modulus)
    (subst (λ (rows : List (List ℕ)). IsSolution (value_of e.modulus) e.unknowns rows zs) (kept-failed e words failed) s)

module _ (e : Elim) (words : List ℕ) (opened : e.failed ≡ false) where
  kept_entry : ℕ → ℕ → ℕ
  kept_entry = entry e.unknowns (rows_of e.unknowns words) (ends_of e.unknowns words)

  pub kept_met : (zs : List ℕ) → IsSolution (value_of e.modulus) e.unknowns (kept_rows e words) zs → AllMet (value_of e.modulus) e.unknowns (entry e.unknowns (rows_of e.unknowns words) (ends_of e.unknowns words)) (λ k. get_or zs k 0)
  kept_met zs s =
      solution_met (value_of e.modulus) e.unknowns (entry e.unknowns (rows_of e.unknowns words) (ends_of e.unknowns words)) zs
      (subst (λ (rows : List (List ℕ)). IsSolution (value_of e.modulus) e.unknowns rows zs) (kept-open e words opened) s)

  pub met_kept : (zs : List ℕ) → length zs ≡ e.unknowns → ((k : ℕ) → k < e.unknowns → get_or zs k 0 < value_of e.modulus) → AllMet (value_of e.modulus) e.unknowns (entry e.unknowns (rows_of e.unknowns words) (ends_of e.unknowns words)) (λ k. get_or zs k 0) → IsSolution (value_of e.modulus) e.unknowns (kept_rows e words) zs
  met_kept zs width low met =
      subst (λ (rows : List (List ℕ)). IsSolution (value_of e.modulus) e.unknowns rows zs) (sym (kept-open e words opened))
      (met_solution (value_of e.modulus) e.unknowns (entry e.unknowns (rows_of e.unknowns words) (ends_of e.unknowns words)) zs width low met)

  pub function_kept : (z : ℕ → ℕ) → AreResidues (value_of e.modulus) e.unknowns z → AllMet (value_of e.modulus) e.unknowns (entry e.unknowns (rows_of e.unknowns words) (ends_of e.unknowns words)) z → IsSolution (value_of e.modulus) e.unknowns (kept_rows e words) (listed e.unknowns z)
  function_kept z low met =
      subst (λ (rows : List (List ℕ)). IsSolution (value_of e.modulus) e.unknowns rows (listed e.unknowns z)) (sym (kept-open e words opened))
      (function_solution (value_of e.modulus) e.unknowns (entry e.unknowns (rows_of e.unknowns words) (ends_of e.unknowns words)) z low met)

  pub kept_solvable : IsLaidOut (value_of e.modulus) e.unknowns (rows_of e.unknowns words) (ends_of e.unknowns words) → HasSolution (value_of e.modulus) e.unknowns (kept_rows e words)
  kept_solvable laid =
      let found = solution_for (value_of e.modulus) e.unknowns (entry e.unknowns (rows_of e.unknowns words) (ends_of e.unknowns words))
      (laid_out_form (value_of e.modulus) e.unknowns (rows_of e.unknowns words) (ends_of e.unknowns words) laid)
      (λ k. 0) (λ k low. omega (arith, value_of-large e.modulus)) in
      record {
        zs = listed e.unknowns found.z;
        solves = function_kept found.z found.residues (λ j low. found.met j (omega arith) low);
      }

  pub kept_free : ((j : ℕ) → j < e.unknowns → get_or (ends_of e.unknowns words) j 0 ≡ 0) → IsFree (value_of e.modulus) e.unknowns (kept_rows e words)
  kept_free none zs width low =
      met_kept zs width low (λ j j_low.
      Meets-zeros (value_of e.modulus) e.unknowns (entry e.unknowns (rows_of e.unknowns words) (ends_of e.unknowns words) j) (λ k. get_or zs k 0)
      (λ k k_low. entry-empty e.unknowns (rows_of e.unknowns words) (ends_of e.unknowns words) j k (none j j_low)) ∙
      sym (entry-empty e.unknowns (rows_of e.unknowns words) (ends_of e.unknowns words) j e.unknowns (none j j_low)))

-- slots without an end are laid out
pub empty_laid_out : (m u : ℕ) (rows ends : List ℕ) → 0 < m → length rows ≡ u * (u + 1) → length ends ≡ u → ((j : ℕ) → j < u → get_or ends j 0 ≡ 0) → IsLaidOut m u rows ends
empty_laid_out m u rows ends positive rows_room ends_room none = record {
  rows_room = rows_room;
  ends_room = ends_room;
  within = λ j low. omega (arith, none j low);
  after = λ j low some. absurd (some (none j low));
  residues = λ j k low k_low. omega (arith, entry-empty u rows ends j k (none j low));
}

-- once nothing solves the rows
pub absorbed_failed : (e : Elim) (words row : List ℕ) → e.failed ≡ true → IsAbsorbed e words e words row Contradiction
absorbed_failed e words row failed = record {
  solutions = λ prime zs. (λ s. absurd (failed_none e words zs failed s), λ both. both.0);
  kept = λ other. absurd (other refl);
  contradiction = λ is zs. failed_none e words zs failed;
  solvable = λ other. absurd (other refl);
  same = λ is. absurd (cc);
  new = λ is. absurd (cc);
}

module _ (e : Elim) (old words row : List ℕ) (opened : e.failed ≡ false) (laid : IsLaidOut (value_of e.modulus) e.unknowns (rows_of e.unknowns words) (ends_of e.unknowns words)) where
  pub absorbed_new : IsNewRow (value_of e.modulus) e.unknowns (entry e.unknowns (rows_of e.unknowns old) (ends_of e.unknowns old)) (entry e.unknowns (rows_of e.unknowns words) (ends_of e.unknowns words)) (λ k. get_or row k 0) → IsAbsorbed e old e words row New
  absorbed_new is = record {
    solutions = λ prime. cut;
    kept = λ other. cut;
    contradiction = λ wrong. absurd (cc);
    solvable = λ other. kept_solvable e words opened laid;
    same = λ wrong. absurd (cc);
    new = λ same. record {
      zs = listed e.unknowns is.cut.z;
      solves = function_kept e old opened is.cut.z is.cut.residues is.cut.met;
      unsatisfied = λ holds.
          is.cut.unmet (Meets-same (value_of e.modulus) e.unknowns (λ k. get_or row k 0) (λ k. get_or (listed e.unknowns is.cut.z) k 0) is.cut.z
          (λ k low. ap (λ x. get_or row k 0 * x) (index-listed e.unknowns is.cut.z k 0 low))
          (satisfies_meets (value_of e.modulus) e.unknowns row (listed e.unknowns is.cut.z) (length-listed e.unknowns is.cut.z) holds));
    };
  }
    where
      cut : (zs : List ℕ) → (IsSolution (value_of e.modulus) e.unknowns (kept_rows e words) zs ↔ (IsSolution (value_of e.modulus) e.unknowns (kept_rows e old) zs × Satisfies (value_of e.modulus) row zs))
      cut zs = (
        λ s.
            let both = (is.met (λ k. get_or zs k 0)).0 (kept_met e words opened zs s) in
            (met_kept e old opened zs s.width s.residues both.0, meets_satisfies (value_of e.modulus) e.unknowns row zs s.width both.1),
        λ both.
            met_kept e words opened zs both.0.width both.0.residues
            ((is.met (λ k. get_or zs k 0)).1 (kept_met e old opened zs both.0, satisfies_meets (value_of e.modulus) e.unknowns row zs both.0.width both.1)),
      )

  pub absorbed_same : IsSameRow (value_of e.modulus) e.unknowns (entry e.unknowns (rows_of e.unknowns old) (ends_of e.unknowns old)) (entry e.unknowns (rows_of e.unknowns words) (ends_of e.unknowns words)) (λ k. get_or row k 0) → IsAbsorbed e old e words row Same
  absorbed_same is = record {
    solutions = λ prime. uncut;
    kept = λ other. uncut;
    contradiction = λ wrong. absurd (cc);
    solvable = λ other. kept_solvable e words opened laid;
    same = λ is_same zs s. meets_satisfies (value_of e.modulus) e.unknowns row zs s.width (is.follows (λ k. get_or zs k 0) (kept_met e old opened zs s));
    new = λ wrong. absurd (cc);
  }
    where
      uncut : (zs : List ℕ) → (IsSolution (value_of e.modulus) e.unknowns (kept_rows e words) zs ↔ (IsSolution (value_of e.modulus) e.unknowns (kept_rows e old) zs × Satisfies (value_of e.modulus) row zs))
      uncut zs = (
        λ s.
            let old_met = (is.met (λ k. get_or zs k 0)).0 (kept_met e words opened zs s) in
            (met_kept e old opened zs s.width s.residues old_met, meets_satisfies (value_of e.modulus) e.unknowns row zs s.width (is.follows (λ k. get_or zs k 0) old_met)),
        λ both. met_kept e words opened zs both.0.width both.0.residues ((is.met (λ k. get_or zs k 0)).1 (kept_met e old opened zs both.0)),
      )

  pub absorbed_none : (now : Elim) → now ≡ record { modulus = e.modulus; unknowns = e.unknowns; failed = true } → IsNoRow (value_of e.modulus) e.unknowns (entry e.unknowns (rows_of e.unknowns old) (ends_of e.unknowns old)) (entry e.unknowns (rows_of e.unknowns words) (ends_of e.unknowns words)) (λ k. get_or row k 0) → IsAbsorbed e old now words row Contradiction
  absorbed_none now now_is is =
      let failed : Elim = record { modulus = e.modulus; unknowns = e.unknowns; failed = true } in
      subst (λ (x : Elim). IsAbsorbed e old x words row Contradiction) (sym now_is) (record {
        solutions = λ prime zs. (
          λ s. absurd (failed_none failed words zs refl s),
          λ both. absurd (is.none prime (λ k. get_or zs k 0) (kept_met e old opened zs both.0) (satisfies_meets (value_of e.modulus) e.unknowns row zs both.0.width both.1)),
        );
        kept = λ other. absurd (other refl);
        contradiction = λ same zs. failed_none failed words zs refl;
        solvable = λ other. absurd (other refl);
        same = λ wrong. absurd (cc);
        new = λ wrong. absurd (cc);
      })

-- loading a row leaves the kept rows as they were, so what absorbing it says of them holds of those before
pub kept-loaded : (e : Elim) (words loaded : List ℕ) → rows_of e.unknowns loaded ≡ rows_of e.unknowns words → ends_of e.unknowns loaded ≡ ends_of e.unknowns words → kept_rows e loaded ≡ kept_rows e words
unfolding kept_rows
kept-loaded e words loaded same_rows same_ends =
    ap (λ rows. if e.failed then broken_row e.unknowns ∷ [] else rows_listed e.unknowns (entry e.unknowns rows (ends_of e.unknowns loaded))) same_rows
    ∙ ap (λ ends. if e.failed then broken_row e.unknowns ∷ [] else rows_listed e.unknowns (entry e.unknowns (rows_of e.unknowns words) ends)) same_ends

pub absorbed_loaded : (e now : Elim) (words loaded left row : List ℕ) (rank : Rank) → rows_of e.unknowns loaded ≡ rows_of e.unknowns words → ends_of e.unknowns loaded ≡ ends_of e.unknowns words → work_of e.unknowns loaded ≡ row → IsAbsorbed e loaded now left (work_of e.unknowns loaded) rank → IsAbsorbed e words now left row rank
absorbed_loaded e now words loaded left row rank same_rows same_ends is_row is =
    let kept = kept-loaded e words loaded same_rows same_ends in
    let here = subst (λ (r : List ℕ). IsAbsorbed e loaded now left r rank) is_row is in
    record {
      solutions = subst (λ (rows : List (List ℕ)). IsPrime (modulus_of e) → (zs : List ℕ) → (IsSolution (modulus_of e) (unknowns_of e) (kept_rows now left) zs ↔ (IsSolution (modulus_of e) (unknowns_of e) rows zs × Satisfies (modulus_of e) row zs))) kept here.solutions;
      kept = subst (λ (rows : List (List ℕ)). rank ≢ Contradiction → (zs : List ℕ) → (IsSolution (modulus_of e) (unknowns_of e) (kept_rows now left) zs ↔ (IsSolution (modulus_of e) (unknowns_of e) rows zs × Satisfies (modulus_of e) row zs))) kept here.kept;
      contradiction = here.contradiction;
      solvable = here.solvable;
      same = subst (λ (rows : List (List ℕ)). rank ≡ Same → (zs : List ℕ) → IsSolution (modulus_of e) (unknowns_of e) rows zs → Satisfies (modulus_of e) row zs) kept here.same;
      new = subst (λ (rows : List (List ℕ)). rank ≡ New → IsCutBy (modulus_of e) (unknowns_of e) rows row) kept here.new;
    }

-- a fact about three lists, at equal ones
pub moved : (P : List ℕ → List ℕ → List ℕ → Type 0) (a b c a' b' c' : List ℕ) → a ≡ a' → b ≡ b' → c ≡ c' → P a b c → P a' b' c'
moved P a b c a' b' c' ea eb ec fact =
    subst (λ (x : List ℕ). P x b' c') ea (subst (λ (x : List ℕ). P a x c') eb (subst (λ (x : List ℕ). P a b x) ec fact))

-- the part for the row at hand
pub work-parts : (u : ℕ) (rows ends work rest : List ℕ) → length rows ≡ u * (u + 1) → length ends ≡ u → length work ≡ u + 1 → work_of u (rows ++ (ends ++ (work ++ rest))) ≡ work
work-parts u rows ends work rest rows_room ends_room work_room =
    ap (λ n. take (u + 1) (drop u (drop n (rows ++ (ends ++ (work ++ rest)))))) (sym rows_room) ∙
    ap (λ xs. take (u + 1) (drop u xs)) (drop-append_seam rows (ends ++ (work ++ rest))) ∙
    ap (λ n. take (u + 1) (drop n (ends ++ (work ++ rest)))) (sym ends_room) ∙
    ap (λ xs. take (u + 1) xs) (drop-append_seam ends (work ++ rest)) ∙
    ap (λ n. take n (work ++ rest)) (sym work_room) ∙
    take-append_seam work rest
