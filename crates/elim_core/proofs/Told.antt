-- Unknowns that are told by those of a set, over functions of a place.
use Rattle.std.proofs.Common.{◌≡◌, ◌≢◌, ℕ, zero, suc, ◌+◌, ◌*◌, ◌-◌, ◌%◌, ◌<◌, ◌↔◌, ◌⊎◌, inl, inr, Bool, true, false, cond, refl, sym, ◌∙◌, ap, subst, arith}
use Rattle.std.proofs.lemmas.Bool.{cases_eq}
use Rattle.std.proofs.Math.Nat.{mod-eq_of_lt, mod-lt, mod-mod, zero-mod, mod_self, add-mod-mod, mod-add-mod}
use Rattle.prime_field.specs.Sum.{sum_to}
use Rattle.prime_field.proofs.Residues.{add-cong, mul-cong, cancel}
use Rattle.prime_field.proofs.Sums.{sum-same, sum-cong, sum-add_scaled, sum-scaled, sum-pick}
use Rattle.elim_core.specs.Rows.{Meets, AllMet, AreResidues, put, spot, IsChoice, Tells}
use Rattle.elim_core.proofs.Systems.{put-same, put-other}

-- a sum of zeros
pub sum-none : (m n : ℕ) (f : ℕ → ℕ) → ((k : ℕ) → k < n → f k % m ≡ 0) → sum_to n f % m ≡ 0
sum-none m n f none =
    sum-cong m n f (λ k. 0 * 0) (λ k low. none k low ∙ sym (zero-mod m) ∙ ap (λ x. x % m) (omega arith)) ∙
    ap (λ x. x % m) (sum-scaled n 0 (λ k. 0) ∙ omega arith) ∙
    zero-mod m

-- sums of sums, in either order
pub sum_swap : (n v : ℕ) (f : ℕ → ℕ → ℕ) → sum_to n (λ j. sum_to v (λ k. f j k)) ≡ sum_to v (λ k. sum_to n (λ j. f j k))
sum_swap zero v f = omega (arith, sum-scaled v 0 (λ k. 0), sum-same v (λ k. 0) (λ k. 0 * 0) (λ k low. omega arith))
sum_swap (suc n) v f =
    ap (λ x. x + sum_to v (λ k. f n k)) (sum_swap n v f) ∙
    omega (
      arith,
      sum-add_scaled v 1 (λ k. sum_to n (λ j. f j k)) (λ k. f n k),
      sum-same v (λ k. sum_to n (λ j. f j k) + f n k) (λ k. sum_to n (λ j. f j k) + 1 * f n k) (λ k low. omega arith),
    )

-- the sum of two functions, with a row
sum-row_added : (m u : ℕ) (row f g h : ℕ → ℕ) → ((k : ℕ) → k < u → (f k + g k) % m ≡ h k % m) → (sum_to u (λ k. row k * f k) + sum_to u (λ k. row k * g k)) % m ≡ sum_to u (λ k. row k * h k) % m
sum-row_added m u row f g h same =
    ap (λ x. x % m) (omega (
      arith,
      sum-add_scaled u 1 (λ k. row k * f k) (λ k. row k * g k),
      sum-same u (λ k. row k * f k + 1 * (row k * g k)) (λ k. row k * (f k + g k)) (λ k low. omega arith),
    )) ∙
    sum-cong m u (λ k. row k * (f k + g k)) (λ k. row k * h k) (λ k low. mul-cong m (row k) (row k) (f k + g k) (h k) refl (same k low))

-- what is taken away and added again
sub_add : (m a b : ℕ) → b < m → ((a + (m - b)) % m + b) % m ≡ a % m
sub_add m a b low =
    mod-add-mod (a + (m - b)) m b ∙ ap (λ x. x % m) (omega arith) ∙ sym (add-mod-mod a m m) ∙
    ap (λ x. (a + x) % m) (mod_self m) ∙ ap (λ x. x % m) (omega arith)

-- the difference of two that solve a row solves it with 0 on the right side
pub difference_none : (m u : ℕ) (row q p h : ℕ → ℕ) → AreResidues m u p → Meets m u row q → Meets m u row p → ((k : ℕ) → k < u → h k ≡ (q k + (m - p k)) % m) → sum_to u (λ k. row k * h k) % m ≡ 0
difference_none m u row q p h p_low q_met p_met is =
    cancel m (sum_to u (λ k. row k * h k)) 0 (sum_to u (λ k. row k * p k)) (
    sum-row_added m u row h p q (λ k low. ap (λ x. (x + p k) % m) (is k low) ∙ sub_add m (q k) (p k) (p_low k low)) ∙
    q_met ∙ sym p_met ∙ ap (λ x. x % m) (omega arith)) ∙
    zero-mod m

-- what is told by multiples that solve a row with 0 on the right side, and a constant that solves it, solves it
pub told_meets : (m u n : ℕ) (row : ℕ → ℕ) (c : ℕ → ℕ → ℕ) (d a w : ℕ → ℕ) → ((k : ℕ) → k < n → sum_to u (λ j. row j * c j k) % m ≡ 0) → Meets m u row d → ((j : ℕ) → j < u → w j ≡ (sum_to n (λ k. c j k * a k) + d j) % m) → Meets m u row w
told_meets m u n row c d a w none d_met told =
    sym (sum-row_added m u row (λ j. sum_to n (λ k. c j k * a k)) d w (λ j low.
    sym (ap (λ x. x % m) (told j low) ∙ mod-mod (sum_to n (λ k. c j k * a k) + d j) m))) ∙
    add-cong m (sum_to u (λ j. row j * sum_to n (λ k. c j k * a k))) 0 (sum_to u (λ k. row k * d k)) (sum_to u (λ k. row k * d k))
    (vanish ∙ sym (zero-mod m)) refl ∙
    ap (λ x. x % m) (omega arith) ∙
    d_met
  where
    vanish : sum_to u (λ j. row j * sum_to n (λ k. c j k * a k)) % m ≡ 0
    vanish =
        ap (λ x. x % m) (
        sum-same u (λ j. row j * sum_to n (λ k. c j k * a k)) (λ j. sum_to n (λ k. row j * (c j k * a k)))
        (λ j low. sym (sum-scaled n (row j) (λ k. c j k * a k))) ∙
        sum_swap u n (λ j k. row j * (c j k * a k))) ∙
        sum-none m n (λ k. sum_to u (λ j. row j * (c j k * a k))) (λ k low.
        ap (λ x. x % m) (
        sum-same u (λ j. row j * (c j k * a k)) (λ j. a k * (row j * c j k)) (λ j j_low. omega arith) ∙
        sum-scaled u (a k) (λ j. row j * c j k)) ∙
        mul-cong m (a k) (a k) (sum_to u (λ j. row j * c j k)) 0 refl (none k low ∙ sym (zero-mod m)) ∙
        ap (λ x. x % m) (omega arith) ∙ zero-mod m)

-- a solution moved by the difference of two others solves the row
pub moved_meets : (m u : ℕ) (row z w p x : ℕ → ℕ) → AreResidues m u w → Meets m u row z → Meets m u row w → Meets m u row p → ((k : ℕ) → k < u → x k ≡ ((z k + (m - w k)) % m + p k) % m) → Meets m u row x
moved_meets m u row z w p x w_low z_met w_met p_met is =
    sym (sum-row_added m u row (λ k. (z k + (m - w k)) % m) p x (λ k k_low.
    sym (ap (λ t. t % m) (is k k_low) ∙ mod-mod ((z k + (m - w k)) % m + p k) m))) ∙
    add-cong m (sum_to u (λ k. row k * ((z k + (m - w k)) % m))) 0 (sum_to u (λ k. row k * p k)) (sum_to u (λ k. row k * p k))
    (difference_none m u row z w (λ k. (z k + (m - w k)) % m) w_low z_met w_met (λ k k_low. refl) ∙ sym (zero-mod m)) refl ∙
    ap (λ t. t % m) (omega arith) ∙
    p_met

pub bool_cases : (b : Bool) → (b ≡ true) ⊎ (b ≡ false)
bool_cases true = inl refl
bool_cases false = inr refl

module _ (m u : ℕ) (Solves : (ℕ → ℕ) → Type 0) (has : ℕ → Bool) (c : ℕ → ℕ → ℕ) (d : ℕ → ℕ) (large : 1 < m) (tells : Tells m u Solves has c d) where
  -- what a choice tells the unknown at place j
  pub told : (ℕ → ℕ) → ℕ → ℕ
  told v j = (sum_to u (λ k. c j k * v k) + d j) % m

  pub told-low : (v : ℕ → ℕ) → AreResidues m u (told v)
  unfolding told
  told-low v j low = mod-lt (sum_to u (λ k. c j k * v k) + d j) (omega arith)

  -- the unknowns of the set are as chosen
  pub told-own : (v : ℕ → ℕ) → AreResidues m u v → (j : ℕ) → j < u → has j ≡ true → told v j ≡ v j
  unfolding told
  told-own v v_low j low is =
      let picked = sum-pick u j (λ k. c j k * v k) low
      (λ k k_low other. ap (λ x. x * v k) (tells.own_others j k low k_low is (λ e. other (sym e))) ∙ omega arith) in
      ap (λ x. x % m) (omega (arith, picked, ap (λ x. x * v j) (tells.own j low is), tells.own_constant j low is)) ∙
      mod-eq_of_lt (v_low j low)

  -- only what is chosen on the set counts
  pub told_same : (v w : ℕ → ℕ) → ((k : ℕ) → k < u → has k ≡ true → v k ≡ w k) → (j : ℕ) → j < u → told v j ≡ told w j
  unfolding told
  told_same v w same j low =
      ap (λ x. (x + d j) % m) (sum-same u (λ k. c j k * v k) (λ k. c j k * w k) (λ k k_low.
      elim (bool_cases (has k)) [
        | inl is ↦ ap (λ x. c j k * x) (same k k_low is)
        | inr not ↦
            ap (λ x. x * v k) (tells.outside j k low k_low not) ∙ omega arith ∙
            sym (ap (λ x. x * w k) (tells.outside j k low k_low not))
      ]))

  -- each choice occurs
  pub told_solves : (v : ℕ → ℕ) → AreResidues m u v → Solves (told v)
  unfolding told
  told_solves v v_low =
      (tells.exact (told v) (told-low v)).1 (λ j low.
      told_same v (told v) (λ k k_low is. sym (told-own v v_low k k_low is)) j low)

  -- two solutions that agree on the set agree
  pub one_for_choice : (z y : ℕ → ℕ) → AreResidues m u z → AreResidues m u y → Solves z → Solves y → ((k : ℕ) → k < u → has k ≡ true → z k ≡ y k) → (j : ℕ) → j < u → z j ≡ y j
  unfolding told
  one_for_choice z y z_low y_low z_solves y_solves same j low =
      (tells.exact z z_low).0 z_solves j low ∙ told_same z y same j low ∙ sym ((tells.exact y y_low).0 y_solves j low)

  told-zero : (j : ℕ) → j < u → told (λ k. 0) j ≡ d j
  unfolding told
  told-zero j low =
      let none : sum_to u (λ k. c j k * 0) ≡ 0 = sum-pick u j (λ k. c j k * 0) low (λ k k_low other. omega arith) ∙ omega arith in
      ap (λ x. (x + d j) % m) none ∙ ap (λ x. x % m) (omega arith) ∙ mod-eq_of_lt (tells.constants j low)

  told-spot : (j k : ℕ) → j < u → k < u → told (spot k) j ≡ (c j k + d j) % m
  unfolding told
  told-spot j k low k_low =
      let picked : sum_to u (λ i. c j i * spot k i) ≡ c j k * spot k k =
      sum-pick u k (λ i. c j i * spot k i) k_low
      (λ i i_low other. ap (λ x. c j i * x) (put-other k i 1 (λ x. 0) other) ∙ omega arith) in
      ap (λ x. (x + d j) % m) (picked ∙ ap (λ x. c j k * x) (put-same k 1 (λ x. 0)) ∙ omega arith)

-- a residue at one place, and zeros elsewhere
pub put-low : (m u k v : ℕ) → v < m → AreResidues m u (put k v (λ x. 0))
put-low m u k v v_low i low =
    elim (cases_eq i k) [
      | inl same ↦ subst (λ (x : ℕ). x < m) (sym (put-same k v (λ x. 0)) ∙ ap (put k v (λ x. 0)) (sym same)) v_low
      | inr other ↦ subst (λ (x : ℕ). x < m) (sym (put-other k i v (λ x. 0) other)) (omega arith)
    ]

module _ (m u : ℕ) (Solves : (ℕ → ℕ) → Type 0) (has : ℕ → Bool) (large : 1 < m) (c c' : ℕ → ℕ → ℕ) (d d' : ℕ → ℕ) (tells : Tells m u Solves has c d) (tells' : Tells m u Solves has c' d') where
  same_told : (v : ℕ → ℕ) → AreResidues m u v → (j : ℕ) → j < u → told m u Solves has c d large tells v j ≡ told m u Solves has c' d' large tells' v j
  same_told v v_low =
      one_for_choice m u Solves has c d large tells
      (told m u Solves has c d large tells v) (told m u Solves has c' d' large tells' v)
      (told-low m u Solves has c d large tells v) (told-low m u Solves has c' d' large tells' v)
      (told_solves m u Solves has c d large tells v v_low) (told_solves m u Solves has c' d' large tells' v v_low)
      (λ k low is. told-own m u Solves has c d large tells v v_low k low is ∙ sym (told-own m u Solves has c' d' large tells' v v_low k low is))

  -- there is one constant at most
  pub same_constant : (j : ℕ) → j < u → d j ≡ d' j
  same_constant j low =
      sym (told-zero m u Solves has c d large tells j low) ∙
      same_told (λ k. 0) (λ k k_low. omega arith) j low ∙
      told-zero m u Solves has c' d' large tells' j low

  -- and one multiple at most
  pub same_multiple : (j k : ℕ) → j < u → k < u → c j k ≡ c' j k
  same_multiple j k low k_low =
      sym (mod-eq_of_lt (tells.residues j k low k_low)) ∙
      cancel m (c j k) (c' j k) (d j) (
      sym (told-spot m u Solves has c d large tells j k low k_low) ∙
      same_told (spot k) (put-low m u k 1 large) j low ∙
      told-spot m u Solves has c' d' large tells' j k low k_low ∙
      ap (λ x. (c' j k + x) % m) (sym (same_constant j low))) ∙
      mod-eq_of_lt (tells'.residues j k low k_low)

-- the multiples that the solutions for the choices of 1 at one place give, p being that for zeros
pub multiple_of : ℕ → (ℕ → Bool) → (ℕ → ℕ) → (ℕ → ℕ → ℕ) → ℕ → ℕ → ℕ
multiple_of m has p q j k = cond (has k) ((q k j + (m - p j)) % m) 0

module _ (m u : ℕ) (rows : ℕ → ℕ → ℕ) (has : ℕ → Bool) (p : ℕ → ℕ) (q : ℕ → ℕ → ℕ) (large : 1 < m)
    (zeros : IsChoice m u rows has (λ k. 0) p)
    (ones : (k : ℕ) → k < u → has k ≡ true → IsChoice m u rows has (spot k) (q k))
    (only : (y : ℕ → ℕ) → IsChoice m u rows has (λ k. 0) y → (j : ℕ) → j < u → y j ≡ p j) where
  c-in : (j k : ℕ) → has k ≡ true → multiple_of m has p q j k ≡ (q k j + (m - p j)) % m
  unfolding multiple_of
  c-in j k is = ap (λ b. cond b ((q k j + (m - p j)) % m) 0) is

  c-out : (j k : ℕ) → has k ≡ false → multiple_of m has p q j k ≡ 0
  unfolding multiple_of
  c-out j k not = ap (λ b. cond b ((q k j + (m - p j)) % m) 0) not

  c-own : (j k : ℕ) → j < u → k < u → has j ≡ true → has k ≡ true → multiple_of m has p q j k ≡ spot k j
  c-own j k low k_low j_is k_is =
      let none : p j ≡ 0 = zeros.chosen j low j_is in
      c-in j k k_is ∙
      ap (λ x. (x + (m - p j)) % m) ((ones k k_low k_is).chosen j low j_is) ∙
      ap (λ x. (spot k j + x) % m) (omega arith) ∙
      sym (add-mod-mod (spot k j) m m) ∙ ap (λ x. (spot k j + x) % m) (mod_self m) ∙
      ap (λ x. x % m) (omega arith) ∙
      mod-eq_of_lt (put-low m u k 1 large j low)

  c-low : (j k : ℕ) → multiple_of m has p q j k < m
  c-low j k =
      elim (bool_cases (has k)) [
        | inl is ↦ subst (λ (x : ℕ). x < m) (sym (c-in j k is)) (mod-lt (q k j + (m - p j)) (omega arith))
        | inr not ↦ subst (λ (x : ℕ). x < m) (sym (c-out j k not)) (omega arith)
      ]

  own_one : (j : ℕ) → j < u → has j ≡ true → multiple_of m has p q j j ≡ 1
  own_one j low is = c-own j j low low is is ∙ put-same j 1 (λ x. 0)

  own_none : (j k : ℕ) → j < u → k < u → has j ≡ true → j ≢ k → multiple_of m has p q j k ≡ 0
  own_none j k low k_low is other =
      elim (bool_cases (has k)) [
        | inl k_is ↦ c-own j k low k_low is k_is ∙ put-other k j 1 (λ x. 0) other
        | inr not ↦ c-out j k not
      ]

  columns : (i : ℕ) → i < u → (k : ℕ) → k < u → sum_to u (λ j. rows i j * multiple_of m has p q j k) % m ≡ 0
  columns i i_low k k_low =
      elim (bool_cases (has k)) [
        | inl is ↦
            difference_none m u (rows i) (q k) p (λ j. multiple_of m has p q j k) zeros.residues
            ((ones k k_low is).met i i_low) (zeros.met i i_low) (λ j low. c-in j k is)
        | inr not ↦
            sum-none m u (λ j. rows i j * multiple_of m has p q j k) (λ j low.
            ap (λ x. (rows i j * x) % m) (c-out j k not) ∙ ap (λ x. x % m) (omega arith) ∙ zero-mod m)
      ]

  told_now : (ℕ → ℕ) → ℕ → ℕ
  told_now z j = (sum_to u (λ k. multiple_of m has p q j k * z k) + p j) % m

  now_solves : (z w : ℕ → ℕ) → ((j : ℕ) → j < u → w j ≡ told_now z j) → AllMet m u rows w
  unfolding told_now
  now_solves z w is i i_low =
      told_meets m u u (rows i) (multiple_of m has p q) p z w (columns i i_low) (zeros.met i i_low) is

  now_own : (z : ℕ → ℕ) → AreResidues m u z → (j : ℕ) → j < u → has j ≡ true → told_now z j ≡ z j
  unfolding told_now
  now_own z z_low j low is =
      let picked : sum_to u (λ k. multiple_of m has p q j k * z k) ≡ multiple_of m has p q j j * z j =
      sum-pick u j (λ k. multiple_of m has p q j k * z k) low
      (λ k k_low other. ap (λ x. x * z k) (own_none j k low k_low is (λ e. other (sym e))) ∙ omega arith) in
      ap (λ x. x % m) (omega (arith, picked, ap (λ x. x * z j) (own_one j low is), zeros.chosen j low is)) ∙
      mod-eq_of_lt (z_low j low)

  now_low : (z : ℕ → ℕ) → AreResidues m u (told_now z)
  unfolding told_now
  now_low z j low = mod-lt (sum_to u (λ k. multiple_of m has p q j k * z k) + p j) (omega arith)

  -- a solution is what its own choice tells
  solution_told : (z : ℕ → ℕ) → AreResidues m u z → AllMet m u rows z → (j : ℕ) → j < u → z j ≡ told_now z j
  solution_told z z_low z_met j low =
      let w = told_now z in
      let x : ℕ → ℕ = λ k. ((z k + (m - w k)) % m + p k) % m in
      let w_low : AreResidues m u w = now_low z in
      let w_met : AllMet m u rows w = now_solves z w (λ k k_low. refl) in
      let x_met : AllMet m u rows x = λ i i_low.
      moved_meets m u (rows i) z w p x w_low (z_met i i_low) (w_met i i_low) (zeros.met i i_low) (λ k k_low. refl) in
      let x_is : x j ≡ p j = only x (record {
        residues = λ k k_low. mod-lt ((z k + (m - w k)) % m + p k) (omega arith);
        met = x_met;
        chosen = λ k k_low is.
            let same : w k ≡ z k = now_own z z_low k k_low is in
            let k_z_low : z k < m = z_low k k_low in
            ap (λ t. ((z k + (m - t)) % m + p k) % m) same ∙
            ap (λ t. (t % m + p k) % m) (omega arith) ∙
            ap (λ t. (t + p k) % m) (mod_self m) ∙
            ap (λ t. (0 + t) % m) (zeros.chosen k k_low is) ∙ zero-mod m;
      }) j low in
      sym (mod-eq_of_lt (z_low j low)) ∙
      sym (sub_add m (z j) (w j) (w_low j low)) ∙
      ap (λ t. (t + w j) % m) (
      sym (mod-eq_of_lt (mod-lt (z j + (m - w j)) (omega arith))) ∙
      cancel m ((z j + (m - w j)) % m) 0 (p j) (x_is ∙ sym (mod-eq_of_lt (zeros.residues j low)) ∙ ap (λ t. t % m) (omega arith)) ∙
      zero-mod m) ∙
      ap (λ t. t % m) (omega arith) ∙
      mod-eq_of_lt (w_low j low)

  -- the solutions for one choice at a time tell all solutions
  pub choices_tell : Tells m u (AllMet m u rows) has (multiple_of m has p q) p
  unfolding told_now
  choices_tell = record {
    residues = λ j k low k_low. c-low j k;
    constants = zeros.residues;
    outside = λ j k low k_low not. c-out j k not;
    own = own_one;
    own_others = own_none;
    own_constant = zeros.chosen;
    exact = λ z z_low. (both z z_low);
  }
    where
      both : (z : ℕ → ℕ) → AreResidues m u z → (AllMet m u rows z ↔ ((j : ℕ) → j < u → z j ≡ (sum_to u (λ k. multiple_of m has p q j k * z k) + p j) % m))
      both z z_low = (solution_told z z_low, now_solves z z)

  -- the multiple of an unknown of the set
  pub choices_multiple : (j k : ℕ) → has k ≡ true → multiple_of m has p q j k ≡ (q k j + (m - p j)) % m
  choices_multiple = c-in
