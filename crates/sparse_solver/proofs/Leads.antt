-- Two vectors at which each row of the system and each kept row leaves 0, and which agree on the set, agree.
use Rattle.std.proofs.Common.{◌≡◌, ◌≢◌, ℕ, zero, suc, ◌+◌, ◌*◌, ◌-◌, ◌%◌, ◌<◌, ◌≤◌, true, List, length, get_or, drop, inl, inr, refl, sym, ◌∙◌, ap, subst, length-drop, length-take, arith}
use Rattle.std.proofs.lemmas.Bool.{cases_eq}
use Rattle.std.proofs.lemmas.List.{get_or-drop, get_or-take}
use Rattle.std.proofs.Math.Nat.{mod-eq_of_lt}
use Rattle.std.specs.Prelude.{slice_range}
use Rattle.prime_field.proofs.Residues.{add-cong, mul-cong}
use Rattle.prime_field.proofs.Sums.{sum_differ}
use Rattle.elim_core.specs.Solver.{has_number}
use Rattle.elim_core.specs.declared.SparseRow.{SparseRow}
use Rattle.sparse_solver.specs.Packed.{packed_sum}
use Rattle.sparse_solver.specs.Steps.{AreSteps, IsFirst, KeptVanish, kept_in, part_of}
use Rattle.sparse_solver.specs.declared.steps.Steps.{Steps}

-- a unit cancels
unit_cancel : (m a b x y : ℕ) → 1 < m → (a * b) % m ≡ 1 → (a * x) % m ≡ (a * y) % m → x % m ≡ y % m
unit_cancel m a b x y large unit same =
    sym (back x) ∙ mul-cong m b b (a * x) (a * y) refl same ∙ back y
  where
    back : (v : ℕ) → (b * (a * v)) % m ≡ v % m
    back v =
        ap (λ t. t % m) (omega arith) ∙
        mul-cong m (a * b) 1 v v (unit ∙ sym (mod-eq_of_lt large)) refl ∙
        ap (λ t. t % m) (omega arith)

-- the number for the column at which a row begins is told by those for the others
lead_told : (m : ℕ) (columns values : List ℕ) (j inverse : ℕ) (w v : ℕ → ℕ) → 1 < m → IsFirst columns j → 0 < length columns → (get_or values 0 0 * inverse) % m ≡ 1 →
    packed_sum columns values w % m ≡ 0 → packed_sum columns values v % m ≡ 0 →
    ((i : ℕ) → 0 < i → i < length columns → w (get_or columns i 0) ≡ v (get_or columns i 0)) → w j % m ≡ v j % m
lead_told m columns values j inverse w v large is some unit w_none v_none same =
    unit_cancel m (get_or values 0 0) inverse (w j) (v j) large unit
    (ap (λ c. (get_or values 0 0 * w c) % m) (sym is.first) ∙ sym v_left ∙ ap (λ t. t % m) (sym differ) ∙ w_left ∙ ap (λ c. (get_or values 0 0 * v c) % m) is.first)
  where
    at_w : ℕ → ℕ
    at_w i = get_or values i 0 * w (get_or columns i 0)

    at_v : ℕ → ℕ
    at_v i = get_or values i 0 * v (get_or columns i 0)

    differ : packed_sum columns values w + get_or values 0 0 * v (get_or columns 0 0) ≡ packed_sum columns values v + get_or values 0 0 * w (get_or columns 0 0)
    differ = sum_differ (length columns) 0 (λ i. get_or values i 0 * w (get_or columns i 0)) (λ i. get_or values i 0 * v (get_or columns i 0)) some (λ i low other. ap (λ x. get_or values i 0 * x) (same i (omega (arith, other)) low))

    w_left : (packed_sum columns values w + get_or values 0 0 * v (get_or columns 0 0)) % m ≡ (get_or values 0 0 * v (get_or columns 0 0)) % m
    w_left =
        add-cong m (packed_sum columns values w) 0 (get_or values 0 0 * v (get_or columns 0 0)) (get_or values 0 0 * v (get_or columns 0 0)) (w_none ∙ sym (mod-eq_of_lt (omega arith))) refl ∙
        ap (λ t. t % m) (omega arith)

    v_left : (packed_sum columns values v + get_or values 0 0 * w (get_or columns 0 0)) % m ≡ (get_or values 0 0 * w (get_or columns 0 0)) % m
    v_left =
        add-cong m (packed_sum columns values v) 0 (get_or values 0 0 * w (get_or columns 0 0)) (get_or values 0 0 * w (get_or columns 0 0)) (v_none ∙ sym (mod-eq_of_lt (omega arith))) refl ∙
        ap (λ t. t % m) (omega arith)

-- the first entry of a part
range-first : (xs : List ℕ) (a b : ℕ) → a < b → get_or (slice_range xs a b) 0 0 ≡ get_or xs a 0
range-first xs a b low =
    get_or-take (b - a) (drop a xs) 0 0 (omega arith) ∙ get_or-drop a xs 0 0 ∙ ap (λ n. get_or xs n 0) (omega arith)

range-within : (xs : List ℕ) (a b bound : ℕ) → b ≤ length xs → ((i : ℕ) → i < length xs → get_or xs i 0 < bound) → (i : ℕ) → i < length (slice_range xs a b) → get_or (slice_range xs a b) i 0 < bound
range-within xs a b bound end within i low =
    let here : i < b - a = omega (arith, length-take (b - a) (drop a xs), low) in
    subst (λ (x : ℕ). x < bound) (sym (get_or-take (b - a) (drop a xs) i 0 here ∙ get_or-drop a xs i 0)) (within (a + i) (omega (arith, here, end)))

range-some : (xs : List ℕ) (a b : ℕ) → a < b → b ≤ length xs → 0 < length (slice_range xs a b)
range-some xs a b low end = omega (arith, length-take (b - a) (drop a xs), length-drop a xs)

module _ (m u : ℕ) (rows : List SparseRow) (set : List ℕ) (s : Steps) (kept inverses : List ℕ) (large : 1 < m) (steps : AreSteps u rows set s)
    (units : (t : ℕ) → t < kept_in s → (get_or kept (get_or s.leads.items t 0) 0 * get_or inverses t 0) % m ≡ 1)
    (w v : ℕ → ℕ) (w_low : (k : ℕ) → k < u + 1 → w k < m) (v_low : (k : ℕ) → k < u + 1 → v k < m)
    (w_kept : KeptVanish m s kept (kept_in s) w) (v_kept : KeptVanish m s kept (kept_in s) v)
    (right : w 0 ≡ v 0) (chosen : (j : ℕ) → 0 < j → j < u + 1 → has_number set j ≡ true → w j ≡ v j) where
  begun : (j : ℕ) → 0 < j → j < u + 1 → ((k : ℕ) → j < k → k < u + 1 → w k ≡ v k) → get_or s.turn_of.items j 0 ≢ 0 → w j ≡ v j
  begun j some low later begins =
      let t = get_or s.turn_of.items j 0 - 1 in
      let t_low : t < kept_in s = omega (arith, steps.turns_of.within j, begins) in
      let placed = steps.shaped.placed t t_low in
      let is = (steps.led j some low).begins begins in
      let within : (i : ℕ) → i < length (part_of s t s.columns.items) → get_or (part_of s t s.columns.items) i 0 < u + 1 =
      range-within s.columns.items (get_or s.leads.items t 0) (get_or s.starts.items (t + 1) 0) (u + 1) placed.ends steps.shaped.within in
      let same : (i : ℕ) → 0 < i → i < length (part_of s t s.columns.items) → w (get_or (part_of s t s.columns.items) i 0) ≡ v (get_or (part_of s t s.columns.items) i 0) =
      λ i i_some i_low.
      elim (cases_eq (get_or (part_of s t s.columns.items) i 0) 0) [
        | inl none ↦ ap w none ∙ right ∙ ap v (sym none)
        | inr other ↦ later (get_or (part_of s t s.columns.items) i 0) (is.later i i_some i_low other) (within i i_low)
      ] in
      let unit : (get_or (part_of s t kept) 0 0 * get_or inverses t 0) % m ≡ 1 =
      ap (λ x. (x * get_or inverses t 0) % m) (range-first kept (get_or s.leads.items t 0) (get_or s.starts.items (t + 1) 0) placed.leads) ∙ units t t_low in
      sym (mod-eq_of_lt (w_low j low)) ∙
      lead_told m (part_of s t s.columns.items) (part_of s t kept) j (get_or inverses t 0) w v large is
      (range-some s.columns.items (get_or s.leads.items t 0) (get_or s.starts.items (t + 1) 0) placed.leads placed.ends) unit (w_kept t t_low) (v_kept t t_low) same ∙
      mod-eq_of_lt (v_low j low)

  same_from : (n j : ℕ) → u < j + n → j < u + 1 → w j ≡ v j
  same_from zero j past low = absurd (omega arith)
  same_from (suc n) j past low =
      elim (cases_eq j 0) [
        | inl none ↦ ap w none ∙ right ∙ ap v (sym none)
        | inr some ↦
            elim (cases_eq (get_or s.turn_of.items j 0) 0) [
              | inl free ↦ chosen j (omega (arith, some)) low ((steps.led j (omega (arith, some)) low).chosen free)
              | inr begins ↦ begun j (omega (arith, some)) low (λ k after k_low. same_from n k (omega arith) k_low) begins
            ]
      ]

  -- the two agree at each column
  pub same_vectors : (j : ℕ) → j < u + 1 → w j ≡ v j
  same_vectors j low = same_from (u + 1) j (omega arith) low
