-- Solver values: of the kept rows as functions, and of rows as lists.
use Rattle.std.proofs.Common.{◌≡◌, ◌≢◌, ℕ, zero, suc, ◌+◌, ◌-◌, ◌*◌, ◌%◌, ◌<◌, ◌≤◌, ◌↔◌, ◌⊎◌, Bool, true, false, List, get_or, inl, inr, refl, sym, ◌∙◌, ap, subst, arith}
use Rattle.std.proofs.lemmas.Bool.{cases_eq}
use Rattle.prime_field.specs.Modulus.{value_of}
use Rattle.prime_field.proofs.Moduli.{value_of-large}
use Rattle.prime_field.proofs.Sums.{sum-same}
use Rattle.elim_core.specs.Rows.{AllMet, AreResidues, spot, IsChoice, Tells, IsUntold, chosen_value, IsSolvedList}
use Rattle.elim_core.specs.Layout.{entry, IsLaidOut}
use Rattle.elim_core.specs.Solution.{IsSolution, IsIndependent}
use Rattle.elim_core.specs.Solver.{has_number, IsSolverValue, HasSolverValue, number_at, ListsIndependent, IsCoefficient, IsSolverList}
use Rattle.elim_core.specs.Kept.{rows_of, ends_of, kept_rows, HasSolution}
use Rattle.elim_core.specs.declared.Elim.{Elim}
use Rattle.elim_core.proofs.Systems.{Meets-same, rows_same}
use Rattle.elim_core.proofs.Echelon.{determined, free_differ, dependent_agree, solution_for}
use Rattle.elim_core.proofs.Entries.{entry-empty, entry-own, entry-no_end, laid_out_form}
use Rattle.elim_core.proofs.Told.{multiple_of, choices_tell, choices_multiple, told, told_solves, put-low, same_constant, same_multiple}
use Rattle.elim_core.proofs.Columns.{chosen-spot, chosen-none}
use Rattle.elim_core.proofs.Lists.{listed, length-listed, index-listed, kept_met, met_kept, function_kept, failed_none}

-- values that are told where the same is solved
pub tells_along : (m u : ℕ) (One Other : (ℕ → ℕ) → Type 0) (has : ℕ → Bool) (c : ℕ → ℕ → ℕ) (d : ℕ → ℕ) → ((z : ℕ → ℕ) → AreResidues m u z → (Other z ↔ One z)) → Tells m u One has c d → Tells m u Other has c d
tells_along m u One Other has c d same t = record {
  residues = t.residues;
  constants = t.constants;
  outside = t.outside;
  own = t.own;
  own_others = t.own_others;
  own_constant = t.own_constant;
  exact = λ z low. (
    λ other. (t.exact z low).0 ((same z low).0 other),
    λ told. (same z low).1 ((t.exact z low).1 told),
  );
}

-- the value at a place in what solves the rows with given values where slots are empty
pub value_alone : (m u : ℕ) (rows ends : List ℕ) (values v z : ℕ → ℕ) (place : ℕ) → IsLaidOut m u rows ends → place < u → AreResidues m u values → AllMet m u (entry u rows ends) values → ((k : ℕ) → k < u → get_or ends k 0 ≡ 0 → values k ≡ v k) → AreResidues m u z → AllMet m u (entry u rows ends) z → ((k : ℕ) → k < u → get_or ends k 0 ≡ 0 → z k ≡ v k) → values place ≡ z place
value_alone m u rows ends values v z place laid low values_low values_met values_free z_low z_met z_free =
    determined m u (entry u rows ends) (laid_out_form m u rows ends laid) values z values_low z_low values_met z_met 0
    (λ k above k_low none.
    let empty = entry-no_end u rows ends k none in
    values_free k k_low empty ∙ sym (z_free k k_low empty)) place (omega arith) low

-- a solver value of rows that are lists, over functions
pub list_tells : (m u : ℕ) (rows : List (List ℕ)) (set : List ℕ) (c : ℕ → ℕ → ℕ) (d : ℕ → ℕ) → IsSolverValue m u rows set c d → Tells m u (λ z. IsSolution m u rows (listed u z)) (λ k. has_number set (k + 1)) c d
list_tells m u rows set c d is = record {
  residues = is.residues;
  constants = is.constants;
  outside = is.outside;
  own = is.own;
  own_others = is.own_others;
  own_constant = is.own_constant;
  exact = λ z low. (
    λ solves j j_low.
        sym (index-listed u z j 0 j_low) ∙
        (is.exact (listed u z) (length-listed u z) (listed_low z low)).0 solves j j_low ∙
        ap (λ x. (x + d j) % m) (sum-same u (λ k. c j k * get_or (listed u z) k 0) (λ k. c j k * z k)
        (λ k k_low. ap (λ x. c j k * x) (index-listed u z k 0 k_low))),
    λ told.
        (is.exact (listed u z) (length-listed u z) (listed_low z low)).1 (λ j j_low.
        index-listed u z j 0 j_low ∙ told j j_low ∙
        ap (λ x. (x + d j) % m) (sum-same u (λ k. c j k * z k) (λ k. c j k * get_or (listed u z) k 0)
        (λ k k_low. ap (λ x. c j k * x) (sym (index-listed u z k 0 k_low))))),
  );
}
  where
    listed_low : (z : ℕ → ℕ) → AreResidues m u z → (k : ℕ) → k < u → get_or (listed u z) k 0 < m
    listed_low z low k k_low = subst (λ (x : ℕ). x < m) (sym (index-listed u z k 0 k_low)) (low k k_low)

-- there is one solver value at most
pub solver_constant : (m u : ℕ) (rows : List (List ℕ)) (set : List ℕ) (c c' : ℕ → ℕ → ℕ) (d d' : ℕ → ℕ) → 1 < m → IsSolverValue m u rows set c d → IsSolverValue m u rows set c' d' → (j : ℕ) → j < u → d j ≡ d' j
solver_constant m u rows set c c' d d' large is is' =
    same_constant m u (λ z. IsSolution m u rows (listed u z)) (λ k. has_number set (k + 1)) large c c' d d'
    (list_tells m u rows set c d is) (list_tells m u rows set c' d' is')

pub solver_multiple : (m u : ℕ) (rows : List (List ℕ)) (set : List ℕ) (c c' : ℕ → ℕ → ℕ) (d d' : ℕ → ℕ) → 1 < m → IsSolverValue m u rows set c d → IsSolverValue m u rows set c' d' → (j k : ℕ) → j < u → k < u → c j k ≡ c' j k
solver_multiple m u rows set c c' d d' large is is' =
    same_multiple m u (λ z. IsSolution m u rows (listed u z)) (λ k. has_number set (k + 1)) large c c' d d'
    (list_tells m u rows set c d is) (list_tells m u rows set c' d' is')

-- a system with a solver value has a solution
pub failed_untold : (e : Elim) (words set : List ℕ) → e.failed ≡ true → HasSolverValue (value_of e.modulus) e.unknowns (kept_rows e words) set → ⊥
failed_untold e words set failed has =
    let m = value_of e.modulus in
    let t = list_tells m e.unknowns (kept_rows e words) set has.multiples has.constant has.tells in
    let large = value_of-large e.modulus in
    failed_none e words (listed e.unknowns (told m e.unknowns (λ z. IsSolution m e.unknowns (kept_rows e words) (listed e.unknowns z)) (λ k. has_number set (k + 1)) has.multiples has.constant large t (λ k. 0))) failed
    (told_solves m e.unknowns (λ z. IsSolution m e.unknowns (kept_rows e words) (listed e.unknowns z)) (λ k. has_number set (k + 1)) has.multiples has.constant large t (λ k. 0) (λ k low. omega arith))

pub solvable_opened : (e : Elim) (words : List ℕ) → HasSolution (value_of e.modulus) e.unknowns (kept_rows e words) → e.failed ≡ false
solvable_opened e words has =
    elim (bool e.failed) [
      | inl failed ↦ absurd (failed_none e words has.zs failed has.solves)
      | inr opened ↦ opened
    ]
  where
    bool : (b : Bool) → (b ≡ true) ⊎ (b ≡ false)
    bool true = inl refl
    bool false = inr refl

module _ (e : Elim) (words : List ℕ) (opened : e.failed ≡ false) where
  pub tells_solver : (set : List ℕ) (c : ℕ → ℕ → ℕ) (d : ℕ → ℕ) → Tells (value_of e.modulus) e.unknowns (AllMet (value_of e.modulus) e.unknowns (entry e.unknowns (rows_of e.unknowns words) (ends_of e.unknowns words))) (λ k. has_number set (k + 1)) c d → IsSolverValue (value_of e.modulus) e.unknowns (kept_rows e words) set c d
  tells_solver set c d t = record {
    residues = t.residues;
    constants = t.constants;
    outside = t.outside;
    own = t.own;
    own_others = t.own_others;
    own_constant = t.own_constant;
    exact = λ zs width low. (
      λ solves. (t.exact (λ k. get_or zs k 0) low).0 (kept_met e words opened zs solves),
      λ told. met_kept e words opened zs width low ((t.exact (λ k. get_or zs k 0) low).1 told),
    );
  }

  pub solver_tells : (set : List ℕ) (c : ℕ → ℕ → ℕ) (d : ℕ → ℕ) → IsSolverValue (value_of e.modulus) e.unknowns (kept_rows e words) set c d → Tells (value_of e.modulus) e.unknowns (AllMet (value_of e.modulus) e.unknowns (entry e.unknowns (rows_of e.unknowns words) (ends_of e.unknowns words))) (λ k. has_number set (k + 1)) c d
  solver_tells set c d is =
      tells_along (value_of e.modulus) e.unknowns (λ z. IsSolution (value_of e.modulus) e.unknowns (kept_rows e words) (listed e.unknowns z))
      (AllMet (value_of e.modulus) e.unknowns (entry e.unknowns (rows_of e.unknowns words) (ends_of e.unknowns words))) (λ k. has_number set (k + 1)) c d
      (λ z low. (
        λ met. function_kept e words opened z low met,
        λ solves j j_low.
            Meets-same (value_of e.modulus) e.unknowns (entry e.unknowns (rows_of e.unknowns words) (ends_of e.unknowns words) j) (λ k. get_or (listed e.unknowns z) k 0) z
            (λ k k_low. ap (λ x. entry e.unknowns (rows_of e.unknowns words) (ends_of e.unknowns words) j k * x) (index-listed e.unknowns z k 0 k_low))
            (kept_met e words opened (listed e.unknowns z) solves j j_low),
      ))
      (list_tells (value_of e.modulus) e.unknowns (kept_rows e words) set c d is)

  pub untold_solver : (set : List ℕ) → IsUntold (value_of e.modulus) e.unknowns (entry e.unknowns (rows_of e.unknowns words) (ends_of e.unknowns words)) (λ k. has_number set (k + 1)) → HasSolverValue (value_of e.modulus) e.unknowns (kept_rows e words) set → ⊥
  untold_solver set untold has = untold has.multiples has.constant (solver_tells set has.multiples has.constant has.tells)

  pub solved_solver : (set want out : List ℕ) → IsSolvedList (value_of e.modulus) e.unknowns (entry e.unknowns (rows_of e.unknowns words) (ends_of e.unknowns words)) set want out → IsSolverList (value_of e.modulus) e.unknowns (kept_rows e words) set want out
  solved_solver set want out s = record {
    c = s.c;
    d = s.d;
    tells = tells_solver set s.c s.d s.tells;
    multiples = s.multiples;
    constants = s.constants;
  }

  pub solutions_same : (now : List ℕ) → ((j k : ℕ) → j < e.unknowns → k < e.unknowns + 1 → entry e.unknowns (rows_of e.unknowns now) (ends_of e.unknowns now) j k ≡ entry e.unknowns (rows_of e.unknowns words) (ends_of e.unknowns words) j k) →
      (zs : List ℕ) → (IsSolution (value_of e.modulus) e.unknowns (kept_rows e now) zs ↔ IsSolution (value_of e.modulus) e.unknowns (kept_rows e words) zs)
  solutions_same now same zs = (
    λ s. met_kept e words opened zs s.width s.residues
        (rows_same (value_of e.modulus) e.unknowns (entry e.unknowns (rows_of e.unknowns now) (ends_of e.unknowns now)) (entry e.unknowns (rows_of e.unknowns words) (ends_of e.unknowns words))
        (λ j k j_low k_low. sym (same j k j_low k_low)) (λ k. get_or zs k 0) (kept_met e now opened zs s)),
    λ s. met_kept e now opened zs s.width s.residues
        (rows_same (value_of e.modulus) e.unknowns (entry e.unknowns (rows_of e.unknowns words) (ends_of e.unknowns words)) (entry e.unknowns (rows_of e.unknowns now) (ends_of e.unknowns now))
        same (λ k. get_or zs k 0) (kept_met e words opened zs s)),
  )

  module _ (laid : IsLaidOut (value_of e.modulus) e.unknowns (rows_of e.unknowns words) (ends_of e.unknowns words)) where
    -- an unknown is independent where its slot is empty
    pub empty_independent : (k : ℕ) → k < e.unknowns → get_or (ends_of e.unknowns words) k 0 ≡ 0 → IsIndependent (value_of e.modulus) e.unknowns (kept_rows e words) k
    empty_independent k low none =
        let two = free_differ (value_of e.modulus) e.unknowns (entry e.unknowns (rows_of e.unknowns words) (ends_of e.unknowns words))
        (laid_out_form (value_of e.modulus) e.unknowns (rows_of e.unknowns words) (ends_of e.unknowns words) laid) k (value_of-large e.modulus) low
        (entry-empty e.unknowns (rows_of e.unknowns words) (ends_of e.unknowns words) k k none) in
        record {
          one = listed e.unknowns two.one;
          other = listed e.unknowns two.other;
          one_solves = function_kept e words opened two.one two.one_low two.one_met;
          other_solves = function_kept e words opened two.other two.other_low two.other_met;
          agree = λ i after i_low. index-listed e.unknowns two.one i 0 i_low ∙ two.agree i after i_low ∙ sym (index-listed e.unknowns two.other i 0 i_low);
          differ = λ same.
              omega (arith, index-listed e.unknowns two.one k 0 low, index-listed e.unknowns two.other k 0 low, same, two.zero_there, two.one_there);
        }

    pub independent_empty : (k : ℕ) → k < e.unknowns → IsIndependent (value_of e.modulus) e.unknowns (kept_rows e words) k → get_or (ends_of e.unknowns words) k 0 ≡ 0
    independent_empty k low is =
        elim (cases_eq (get_or (ends_of e.unknowns words) k 0) 0) [
          | inl none ↦ none
          | inr some ↦ absurd (is.differ
              (dependent_agree (value_of e.modulus) e.unknowns (entry e.unknowns (rows_of e.unknowns words) (ends_of e.unknowns words))
              (laid_out_form (value_of e.modulus) e.unknowns (rows_of e.unknowns words) (ends_of e.unknowns words) laid) k
              (λ i. get_or is.one i 0) (λ i. get_or is.other i 0) low
              (λ none. omega (arith, none, entry-own e.unknowns (rows_of e.unknowns words) (ends_of e.unknowns words) k some))
              is.one_solves.residues is.other_solves.residues
              (kept_met e words opened is.one is.one_solves) (kept_met e words opened is.other is.other_solves) is.agree))
        ]

    -- what tells by the independent unknowns, from the value for one choice and that for none
    module _ (set : List ℕ) (lists : ListsIndependent (value_of e.modulus) e.unknowns (kept_rows e words) set) where
      f_zero : ℕ → ℕ
      f_zero = (solution_for (value_of e.modulus) e.unknowns (entry e.unknowns (rows_of e.unknowns words) (ends_of e.unknowns words))
          (laid_out_form (value_of e.modulus) e.unknowns (rows_of e.unknowns words) (ends_of e.unknowns words) laid) (λ k. 0) (λ k low. omega (arith, value_of-large e.modulus))).z

      f_one : ℕ → ℕ → ℕ
      f_one k = (solution_for (value_of e.modulus) e.unknowns (entry e.unknowns (rows_of e.unknowns words) (ends_of e.unknowns words))
          (laid_out_form (value_of e.modulus) e.unknowns (rows_of e.unknowns words) (ends_of e.unknowns words) laid) (spot k) (put-low (value_of e.modulus) e.unknowns k 1 (value_of-large e.modulus))).z

      is_empty : (k : ℕ) → k < e.unknowns → has_number set (k + 1) ≡ true → get_or (ends_of e.unknowns words) k 0 ≡ 0
      is_empty k low has = independent_empty k low ((lists k low).0 has)

      empty_has : (k : ℕ) → k < e.unknowns → get_or (ends_of e.unknowns words) k 0 ≡ 0 → has_number set (k + 1) ≡ true
      empty_has k low none = (lists k low).1 (empty_independent k low none)

      empty_own : (k : ℕ) → k < e.unknowns → has_number set (k + 1) ≡ true → entry e.unknowns (rows_of e.unknowns words) (ends_of e.unknowns words) k k ≡ 0
      empty_own k low has = entry-empty e.unknowns (rows_of e.unknowns words) (ends_of e.unknowns words) k k (is_empty k low has)

      zeros : IsChoice (value_of e.modulus) e.unknowns (entry e.unknowns (rows_of e.unknowns words) (ends_of e.unknowns words)) (λ k. has_number set (k + 1)) (λ k. 0) f_zero
      unfolding f_zero
      zeros =
          let s = solution_for (value_of e.modulus) e.unknowns (entry e.unknowns (rows_of e.unknowns words) (ends_of e.unknowns words))
          (laid_out_form (value_of e.modulus) e.unknowns (rows_of e.unknowns words) (ends_of e.unknowns words) laid) (λ k. 0) (λ k low. omega (arith, value_of-large e.modulus)) in
          record {
            residues = s.residues;
            met = λ j low. s.met j (omega arith) low;
            chosen = λ k low has. s.free k low (empty_own k low has);
          }

      ones : (i : ℕ) → i < e.unknowns → has_number set (i + 1) ≡ true → IsChoice (value_of e.modulus) e.unknowns (entry e.unknowns (rows_of e.unknowns words) (ends_of e.unknowns words)) (λ k. has_number set (k + 1)) (spot i) (f_one i)
      unfolding f_one
      ones i i_low i_has =
          let s = solution_for (value_of e.modulus) e.unknowns (entry e.unknowns (rows_of e.unknowns words) (ends_of e.unknowns words))
          (laid_out_form (value_of e.modulus) e.unknowns (rows_of e.unknowns words) (ends_of e.unknowns words) laid) (spot i) (put-low (value_of e.modulus) e.unknowns i 1 (value_of-large e.modulus)) in
          record {
            residues = s.residues;
            met = λ j low. s.met j (omega arith) low;
            chosen = λ k low has. s.free k low (empty_own k low has);
          }

      alone : (y : ℕ → ℕ) → IsChoice (value_of e.modulus) e.unknowns (entry e.unknowns (rows_of e.unknowns words) (ends_of e.unknowns words)) (λ k. has_number set (k + 1)) (λ k. 0) y → (j : ℕ) → j < e.unknowns → y j ≡ f_zero j
      alone y is j low =
          determined (value_of e.modulus) e.unknowns (entry e.unknowns (rows_of e.unknowns words) (ends_of e.unknowns words))
          (laid_out_form (value_of e.modulus) e.unknowns (rows_of e.unknowns words) (ends_of e.unknowns words) laid)
          y f_zero is.residues zeros.residues is.met zeros.met 0
          (λ k above k_low none.
          let has = empty_has k k_low (entry-no_end e.unknowns (rows_of e.unknowns words) (ends_of e.unknowns words) k none) in
          is.chosen k k_low has ∙ sym (zeros.chosen k k_low has)) j (omega arith) low

      ValueFor : ℕ → ℕ → ℕ → Type 0
      ValueFor chosen place value = (z : ℕ → ℕ) → AreResidues (value_of e.modulus) e.unknowns z → AllMet (value_of e.modulus) e.unknowns (entry e.unknowns (rows_of e.unknowns words) (ends_of e.unknowns words)) z → ((k : ℕ) → k < e.unknowns → get_or (ends_of e.unknowns words) k 0 ≡ 0 → z k ≡ chosen_value chosen (k + 1)) → value ≡ z place

      constant_is : (place value : ℕ) → place < e.unknowns → ((z : ℕ → ℕ) → AreResidues (value_of e.modulus) e.unknowns z → AllMet (value_of e.modulus) e.unknowns (entry e.unknowns (rows_of e.unknowns words) (ends_of e.unknowns words)) z → ((k : ℕ) → k < e.unknowns → get_or (ends_of e.unknowns words) k 0 ≡ 0 → z k ≡ chosen_value 0 (k + 1)) → value ≡ z place) → value ≡ f_zero place
      constant_is place value low value_is =
          value_is f_zero zeros.residues zeros.met (λ k k_low none. zeros.chosen k k_low (empty_has k k_low none) ∙ sym (chosen-none k))

      -- the constant for the unknown j
      pub coefficient_constant : (j value : ℕ) → 0 < j → j ≤ e.unknowns → ((z : ℕ → ℕ) → AreResidues (value_of e.modulus) e.unknowns z → AllMet (value_of e.modulus) e.unknowns (entry e.unknowns (rows_of e.unknowns words) (ends_of e.unknowns words)) z → ((k : ℕ) → k < e.unknowns → get_or (ends_of e.unknowns words) k 0 ≡ 0 → z k ≡ chosen_value 0 (k + 1)) → value ≡ z (j - 1)) → (k : ℕ) → k ≡ 0 → IsCoefficient (value_of e.modulus) e.unknowns (kept_rows e words) set j k value
      coefficient_constant j value above low value_is k k_is = record {
        c = multiple_of (value_of e.modulus) (λ i. has_number set (i + 1)) f_zero f_one;
        d = f_zero;
        tells = tells_solver set (multiple_of (value_of e.modulus) (λ i. has_number set (i + 1)) f_zero f_one) f_zero
            (choices_tell (value_of e.modulus) e.unknowns (entry e.unknowns (rows_of e.unknowns words) (ends_of e.unknowns words)) (λ i. has_number set (i + 1)) f_zero f_one (value_of-large e.modulus) zeros ones alone);
        is =
            constant_is (j - 1) value (omega arith) value_is ∙
            ap (number_at (multiple_of (value_of e.modulus) (λ i. has_number set (i + 1)) f_zero f_one) f_zero (j - 1)) (sym k_is);
      }

      -- the number for the unknown k
      pub coefficient_multiple : (j k constant value result : ℕ) → 0 < j → j ≤ e.unknowns → k ≢ 0 → k ≤ e.unknowns → IsIndependent (value_of e.modulus) e.unknowns (kept_rows e words) (k - 1) →
          ((z : ℕ → ℕ) → AreResidues (value_of e.modulus) e.unknowns z → AllMet (value_of e.modulus) e.unknowns (entry e.unknowns (rows_of e.unknowns words) (ends_of e.unknowns words)) z → ((i : ℕ) → i < e.unknowns → get_or (ends_of e.unknowns words) i 0 ≡ 0 → z i ≡ chosen_value 0 (i + 1)) → constant ≡ z (j - 1)) →
          ((z : ℕ → ℕ) → AreResidues (value_of e.modulus) e.unknowns z → AllMet (value_of e.modulus) e.unknowns (entry e.unknowns (rows_of e.unknowns words) (ends_of e.unknowns words)) z → ((i : ℕ) → i < e.unknowns → get_or (ends_of e.unknowns words) i 0 ≡ 0 → z i ≡ chosen_value k (i + 1)) → value ≡ z (j - 1)) →
          result ≡ (value + (value_of e.modulus - constant)) % value_of e.modulus →
          IsCoefficient (value_of e.modulus) e.unknowns (kept_rows e words) set j k result
      coefficient_multiple j k constant value result above low some k_low independent constant_value value_is result_is =
          let place_low : k - 1 < e.unknowns = omega arith in
          let number : k - 1 + 1 ≡ k = omega arith in
          let has : has_number set (k - 1 + 1) ≡ true = (lists (k - 1) place_low).1 independent in
          let one = ones (k - 1) place_low has in
          let sum : value ≡ f_one (k - 1) (j - 1) =
          value_is (f_one (k - 1)) one.residues one.met (λ i i_low none.
          one.chosen i i_low (empty_has i i_low none) ∙ sym (chosen-spot (k - 1) i) ∙ ap (λ n. chosen_value n (i + 1)) number) in
          let same : constant ≡ f_zero (j - 1) = constant_is (j - 1) constant (omega arith) constant_value in
          record {
            c = multiple_of (value_of e.modulus) (λ i. has_number set (i + 1)) f_zero f_one;
            d = f_zero;
            tells = tells_solver set (multiple_of (value_of e.modulus) (λ i. has_number set (i + 1)) f_zero f_one) f_zero
                (choices_tell (value_of e.modulus) e.unknowns (entry e.unknowns (rows_of e.unknowns words) (ends_of e.unknowns words)) (λ i. has_number set (i + 1)) f_zero f_one (value_of-large e.modulus) zeros ones alone);
            is =
                result_is ∙
                ap (λ x. (x + (value_of e.modulus - constant)) % value_of e.modulus) sum ∙
                ap (λ x. (f_one (k - 1) (j - 1) + (value_of e.modulus - x)) % value_of e.modulus) same ∙
                sym (choices_multiple (value_of e.modulus) e.unknowns (entry e.unknowns (rows_of e.unknowns words) (ends_of e.unknowns words)) (λ i. has_number set (i + 1)) f_zero f_one (value_of-large e.modulus) zeros ones alone (j - 1) (k - 1) has) ∙
                number_at-some (multiple_of (value_of e.modulus) (λ i. has_number set (i + 1)) f_zero f_one) f_zero (j - 1) k some;
          }
        where
          number_at-some : (c : ℕ → ℕ → ℕ) (d : ℕ → ℕ) (j k : ℕ) → k ≢ 0 → c j (k - 1) ≡ number_at c d j k
          number_at-some c d j zero some = absurd (some refl)
          number_at-some c d j (suc k) some = ap (c j) (omega arith)
