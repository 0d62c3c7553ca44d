-- Grids: combinations of the polynomials of one axis, the places of columns, and one axis more.
use Rattle.std.proofs.Common.{◌≡◌, ◌≢◌, ℕ, zero, suc, ◌+◌, ◌-◌, ◌*◌, ◌/◌, ◌%◌, ◌<◌, ◌≤◌, List, [], ◌∷◌, length, drop, slice_index, get_or, refl, sym, ◌∙◌, ap, subst, arith, inl, inr}
use Rattle.std.proofs.lemmas.Bool.{cases_eq, cases_lt}
use Rattle.std.proofs.lemmas.List.{get_or-set_same, get_or-set_other, get_or-replicate, length-replicate}
use Rattle.std.proofs.lemmas.Nat.{mul-add-lt, div-mul-add, mod-mul-add}
use Rattle.std.proofs.Math.Nat.{zero-mod, mod-mod, mod-lt, div-add-mod, div-lt_iff_lt-mul, le-div_iff_mul-le, le-mul_of_pos_right}
use Rattle.std.proofs.Math.ListN.{set, replicate}
use Rattle.prime_field.specs.Sum.{sum_to}
use Rattle.prime_field.proofs.Residues.{add-cong, mul-cong}
use Rattle.prime_field.proofs.Sums.{sum-same, sum-cong, sum-add_scaled, sum-pick}
use Rattle.univariate.specs.Univariate.{univariate_value}
use Rattle.univariate.specs.Coefficients.{IsBelow, AreResidues}
use Rattle.univariate.proofs.Coefficients.{at-beyond}
use Rattle.univariate.proofs.Counting.{alike_of_values}
use Rattle.newton_interp.specs.Interpolation.{IsInterpolant}
use Rattle.newton_interp.specs.Grid.{IsAxis, AreAxes, AreOneAt, HasGridValues, points_of, grid_size, grid_work, listed, value_along}
use Rattle.newton_interp.specs.declared.grid.Axis.{Axis}

-- an entry of a list in which one entry was replaced
pub at-set : (p : List ℕ) (i v j : ℕ) → j ≡ i → i < length p → slice_index (set p i v) j ≡ v
at-set p i v j same within = ap (λ k. slice_index (set p i v) k) same ∙ get_or-set_same p i v 0 within

pub at-other : (p : List ℕ) (i v j : ℕ) → j ≢ i → slice_index (set p i v) j ≡ slice_index p j
at-other p i v j other = get_or-set_other p i j v 0 other

-- residues in each place
pub residues_of_places : (m : ℕ) (p : List ℕ) → 0 < m → ((k : ℕ) → k < length p → slice_index p k < m) → AreResidues m p
residues_of_places m p some low k =
    elim (cases_lt k (length p)) [
      | inl within ↦ low k within
      | inr past ↦ omega (arith, at-beyond p k past)
    ]

-- the entries of a list of values
pub at-listed : (n : ℕ) (f : ℕ → ℕ) (k : ℕ) → k < n → slice_index (listed n f) k ≡ f k
at-listed zero f k low = absurd (omega arith)
at-listed (suc n) f zero low = refl
at-listed (suc n) f (suc k) low = at-listed n (λ k. f (suc k)) k (omega arith)

pub below-listed : (m n : ℕ) (f : ℕ → ℕ) → IsBelow m n (listed n f)
below-listed m zero f k from = zero-mod m
below-listed m (suc n) f zero from = absurd (omega arith)
below-listed m (suc n) f (suc k) from = below-listed m n (λ k. f (suc k)) k (omega arith)

-- the values of polynomials with the same coefficients, exactly and modulo m
pub value-listed_same : (n : ℕ) (f g : ℕ → ℕ) (x : ℕ) → ((k : ℕ) → k < n → f k ≡ g k) → univariate_value (listed n f) x ≡ univariate_value (listed n g) x
value-listed_same zero f g x same = refl
value-listed_same (suc n) f g x same =
    omega (arith, same 0 (omega arith), ap (λ t. x * t) (value-listed_same n (λ k. f (suc k)) (λ k. g (suc k)) x (λ k low. same (suc k) (omega arith))))

pub value-listed_cong : (m n : ℕ) (f g : ℕ → ℕ) (x : ℕ) → ((k : ℕ) → k < n → f k % m ≡ g k % m) →
    univariate_value (listed n f) x % m ≡ univariate_value (listed n g) x % m
value-listed_cong m zero f g x same = refl
value-listed_cong m (suc n) f g x same =
    add-cong m (f 0) (g 0) (x * univariate_value (listed n (λ k. f (suc k))) x) (x * univariate_value (listed n (λ k. g (suc k))) x) (same 0 (omega arith))
    (mul-cong m x x (univariate_value (listed n (λ k. f (suc k))) x) (univariate_value (listed n (λ k. g (suc k))) x) refl
    (value-listed_cong m n (λ k. f (suc k)) (λ k. g (suc k)) x (λ k low. same (suc k) (omega arith))))

-- the value of a list of that length
pub value-listed_list : (n : ℕ) (f : ℕ → ℕ) (p : List ℕ) (x : ℕ) → length p ≡ n → ((k : ℕ) → k < n → f k ≡ slice_index p k) →
    univariate_value (listed n f) x ≡ univariate_value p x
value-listed_list zero f [] x long same = refl
value-listed_list zero f (a ∷ p) x long same = absurd (omega arith)
value-listed_list (suc n) f [] x long same = absurd (omega arith)
value-listed_list (suc n) f (a ∷ p) x long same =
    omega (arith, same 0 (omega arith), ap (λ t. x * t) (value-listed_list n (λ k. f (suc k)) p x (omega arith) (λ k low. same (suc k) (omega arith))))

-- the value of a combination of polynomials
pub nothing-summed : (c : ℕ) (v : ℕ → ℕ) → 0 ≡ sum_to c (λ j. 0 * v j)
nothing-summed zero v = refl
nothing-summed (suc c) v = omega (arith, nothing-summed c v)

pub value-combined : (n c : ℕ) (b : ℕ → ℕ → ℕ) (v : ℕ → ℕ) (x : ℕ) →
    univariate_value (listed n (λ i. sum_to c (λ j. b i j * v j))) x ≡ sum_to c (λ j. univariate_value (listed n (λ i. b i j)) x * v j)
value-combined zero c b v x = nothing-summed c v
value-combined (suc n) c b v x =
    ap (λ t. sum_to c (λ j. b 0 j * v j) + x * t) (value-combined n c (λ i. b (suc i)) v x) ∙
    sym (sum-add_scaled c x (λ j. b 0 j * v j) (λ j. univariate_value (listed n (λ i. b (suc i) j)) x * v j)) ∙
    sum-same c (λ j. b 0 j * v j + x * (univariate_value (listed n (λ i. b (suc i) j)) x * v j))
    (λ j. (b 0 j + x * univariate_value (listed n (λ i. b (suc i) j)) x) * v j) (λ j low. omega arith)

-- the combination of the polynomials that are 1 at one point has the values that it was made with
pub value-of_basis : (m n : ℕ) (f : ℕ → ℕ) (basis : List ℕ) (v coefficients : ℕ → ℕ) → AreOneAt m n f n basis →
    ((i : ℕ) → i < n → coefficients i % m ≡ sum_to n (λ h. slice_index basis (i * n + h) * v h) % m) →
    (k : ℕ) → k < n → univariate_value (listed n coefficients) (f k) % m ≡ v k % m
value-of_basis m n f basis v coefficients ones combined k k_low =
    value-listed_cong m n coefficients (λ i. sum_to n (λ h. slice_index basis (i * n + h) * v h)) (f k) combined ∙
    ap (λ t. t % m) (value-combined n n (λ i h. slice_index basis (i * n + h)) v (f k)) ∙
    sum-cong m n (λ h. univariate_value (listed n (λ i. slice_index basis (i * n + h))) (f k) * v h)
    (λ h. univariate_value (listed n (λ i. slice_index basis (i * n + h))) (f k) % m * v h)
    (λ h low. mul-cong m (univariate_value (listed n (λ i. slice_index basis (i * n + h))) (f k))
    (univariate_value (listed n (λ i. slice_index basis (i * n + h))) (f k) % m) (v h) (v h)
    (sym (mod-mod (univariate_value (listed n (λ i. slice_index basis (i * n + h))) (f k)) m)) refl) ∙
    ap (λ t. t % m) (sum-pick n k (λ h. univariate_value (listed n (λ i. slice_index basis (i * n + h))) (f k) % m * v h) k_low
    (λ h low other.
    let different : k ≢ h = λ same. other (sym same) in
    ap (λ t. t * v h) ((ones h low).zeros k k_low different) ∙ omega arith)) ∙
    ap (λ t. (t * v k) % m) (ones k k_low).one ∙
    mul-cong m (1 % m) 1 (v k) (v k) (mod-mod 1 m) refl ∙
    ap (λ t. t % m) (omega arith)

-- places that lie a number of strides apart
pub stride-apart : (start stride h i : ℕ) → 0 < stride → h ≢ i → start + h * stride ≢ start + i * stride
stride-apart start stride h i some other same =
    other (sym (div-mul-add h stride 0 some) ∙ ap (λ t. t / stride) (omega arith) ∙ div-mul-add i stride 0 some)

-- the places of a column are within the groups
pub column-place : (number groups n block len i : ℕ) → 0 < block → number < groups * block → groups * (n * block) ≤ len → i < n →
    number / block * (n * block) + number % block + i * block < len
column-place number groups n block len i some low fits i_low =
    let group : number / block < groups = (div-lt_iff_lt-mul {k = block} {x = number} {y = groups} some).1 low in
    let inner : i * block + number % block < block * n = mul-add-lt i block (number % block) n i_low (mod-lt number some) in
    omega (arith, mul-add-lt (number / block) (n * block) (i * block + number % block) groups group (omega arith))

pub group-place : (number groups n block len : ℕ) → 0 < n → 0 < block → number < groups * block → groups * (n * block) ≤ len →
    number / block * (n * block) + number % block < len
group-place number groups n block len points some low fits = omega (arith, column-place number groups n block len 0 some low fits points)

-- two columns have no place in common
pub place-same : (n block q i j q0 i0 h : ℕ) → i < block → i0 < block → j < n → h < n → q * (n * block) + (j * block + i) ≡ q0 * (n * block) + i0 + h * block →
    (q ≡ q0) × (i ≡ i0)
place-same n block q i j q0 i0 h i_low i0_low j_low h_low same =
    let flat : (q * n + j) * block + i ≡ (q0 * n + h) * block + i0 = omega arith in
    let rows : q * n + j ≡ q0 * n + h =
    sym (div-mul-add (q * n + j) block i i_low) ∙ ap (λ t. t / block) flat ∙ div-mul-add (q0 * n + h) block i0 i0_low in (
      sym (div-mul-add q n j j_low) ∙ ap (λ t. t / n) rows ∙ div-mul-add q0 n h h_low,
      sym (mod-mul-add (q * n + j) block i i_low) ∙ ap (λ t. t % block) flat ∙ mod-mul-add (q0 * n + h) block i0 i0_low,
    )

-- what the columns up to a number hold: `new` what was combined, `old` what stood there before
pub record AreCombined (m n block number : ℕ) (basis old now : List ℕ) : Type 0 where
  pub done : (q i j : ℕ) → q * block + i < number → i < block → j < n →
      slice_index now (q * (n * block) + (j * block + i)) ≡
      sum_to n (λ h. slice_index basis (j * n + h) * slice_index old (q * (n * block) + (h * block + i))) % m
  pub rest : (q i j : ℕ) → number ≤ q * block + i → i < block → j < n →
      slice_index now (q * (n * block) + (j * block + i)) ≡ slice_index old (q * (n * block) + (j * block + i))

pub combined-next : (m n c block number : ℕ) (basis old now new column combined : List ℕ) → 0 < block → c ≡ n →
    ((h : ℕ) → h < c → slice_index column h ≡ slice_index now (number / block * (n * block) + number % block + h * block)) →
    ((j : ℕ) → j < c → slice_index combined j ≡ sum_to c (λ h. slice_index basis (j * c + h) * slice_index column h) % m) →
    ((j : ℕ) → j < c → slice_index new (number / block * (n * block) + number % block + j * block) ≡ slice_index combined j) →
    ((k : ℕ) → ((j : ℕ) → j < c → k ≢ number / block * (n * block) + number % block + j * block) → slice_index new k ≡ slice_index now k) →
    AreCombined m n block number basis old now → AreCombined m n block (number + 1) basis old new
combined-next m n c block number basis old now new column combined some same_count column_is combined_is written others before =
    record {
      done = λ q i j low i_low j_low.
          elim (cases_eq (q * block + i) number) [
            | inl same ↦ own q i j same i_low j_low
            | inr other ↦ others_same q i j other i_low j_low ∙ before.done q i j (omega arith) i_low j_low
          ];
      rest = λ q i j from i_low j_low.
          let other : q * block + i ≢ number = omega arith in
          others_same q i j other i_low j_low ∙ before.rest q i j (omega arith) i_low j_low;
    }
  where
    others_same : (q i j : ℕ) → q * block + i ≢ number → i < block → j < n →
        slice_index new (q * (n * block) + (j * block + i)) ≡ slice_index now (q * (n * block) + (j * block + i))
    others_same q i j other i_low j_low =
        others (q * (n * block) + (j * block + i))
        (λ h low same.
        let both : (q ≡ number / block) × (i ≡ number % block) =
        place-same n block q i j (number / block) (number % block) h i_low (mod-lt number some) j_low (omega arith) same in
        other (ap (λ t. t * block + i) both.0 ∙ ap (λ t. number / block * block + t) both.1 ∙ omega (arith, div-add-mod number block)))

    own : (q i j : ℕ) → q * block + i ≡ number → i < block → j < n →
        slice_index new (q * (n * block) + (j * block + i)) ≡
        sum_to n (λ h. slice_index basis (j * n + h) * slice_index old (q * (n * block) + (h * block + i))) % m
    own q i j same i_low j_low =
        let group : number / block ≡ q = ap (λ t. t / block) (sym same) ∙ div-mul-add q block i i_low in
        let offset : number % block ≡ i = ap (λ t. t % block) (sym same) ∙ mod-mul-add q block i i_low in
        let place : (h : ℕ) → number / block * (n * block) + number % block + h * block ≡ q * (n * block) + (h * block + i) =
        λ h. ap (λ t. t * (n * block) + number % block + h * block) group ∙ ap (λ t. q * (n * block) + t + h * block) offset ∙ omega arith in
        ap (slice_index new) (sym (place j)) ∙ written j (omega arith) ∙ combined_is j (omega arith) ∙
        ap (λ c. sum_to c (λ h. slice_index basis (j * c + h) * slice_index column h) % m) same_count ∙
        ap (λ t. t % m)
        (sum-same n (λ h. slice_index basis (j * n + h) * slice_index column h) (λ h. slice_index basis (j * n + h) * slice_index old (q * (n * block) + (h * block + i)))
        (λ h low. ap (λ t. slice_index basis (j * n + h) * t)
        (column_is h (omega arith) ∙ ap (slice_index now) (place h) ∙ before.rest q i h (omega arith) i_low low)))

-- one polynomial more that is 1 at its point
pub one_more : (m n j : ℕ) (f : ℕ → ℕ) (unit out now new : List ℕ) → j < n → length out ≡ n → unit ≡ set (replicate n 0) j 1 →
    IsInterpolant m n f (slice_index unit) out → ((i : ℕ) → i < length out → slice_index new (j + i * n) ≡ slice_index out i) →
    ((k : ℕ) → ((i : ℕ) → i < length out → k ≢ j + i * n) → slice_index new k ≡ slice_index now k) →
    AreOneAt m n f j now → AreOneAt m n f (j + 1) new
one_more m n j f unit out now new low long unit_is made written others before h h_low =
    elim (cases_eq h j) [
      | inl same ↦
          record {
            one = own h (f h) same ∙ made.values h (omega arith) ∙ ap (λ t. t % m) (entry h same);
            zeros = λ k k_low other.
                let different : k ≢ j = λ k_is. other (k_is ∙ sym same) in
                own h (f k) same ∙ made.values k k_low ∙ ap (λ t. t % m) (zero_at k k_low different) ∙ zero-mod m;
          }
      | inr other ↦
          let earlier = before h (omega arith) in
          record {
            one = ap (λ t. t % m) (kept h (f h) (omega arith) other) ∙ earlier.one;
            zeros = λ k k_low apart. ap (λ t. t % m) (kept h (f k) (omega arith) other) ∙ earlier.zeros k k_low apart;
          }
    ]
  where
    entry : (k : ℕ) → k ≡ j → slice_index unit k ≡ 1
    entry k same = ap (λ p. slice_index p k) unit_is ∙ at-set (replicate n 0) j 1 k same (omega (arith, length-replicate {A = ℕ} n 0))

    zero_at : (k : ℕ) → k < n → k ≢ j → slice_index unit k ≡ 0
    zero_at k k_low other = ap (λ p. slice_index p k) unit_is ∙ at-other (replicate n 0) j 1 k other ∙ get_or-replicate {A = ℕ} n k 0 0 k_low

    own : (h x : ℕ) → h ≡ j → univariate_value (listed n (λ i. slice_index new (i * n + h))) x % m ≡ univariate_value out x % m
    own h x same =
        ap (λ t. t % m) (value-listed_list n (λ i. slice_index new (i * n + h)) out x long
        (λ i i_low. ap (slice_index new) (ap (λ t. i * n + t) same ∙ omega arith) ∙ written i (omega arith)))

    kept : (h x : ℕ) → h < n → h ≢ j → univariate_value (listed n (λ i. slice_index new (i * n + h))) x ≡ univariate_value (listed n (λ i. slice_index now (i * n + h))) x
    kept h x h_below other =
        value-listed_same n (λ i. slice_index new (i * n + h)) (λ i. slice_index now (i * n + h)) x
        (λ i i_low. others (i * n + h)
        (λ g g_low same. other (sym (mod-mul-add i n h h_below) ∙ ap (λ t. t % n) (same ∙ omega arith) ∙ mod-mul-add g n j low)))

-- the columns along one axis
pub along-axis : (m n c block groups : ℕ) (f : ℕ → ℕ) (basis old new : List ℕ) → c ≡ n → AreOneAt m n f n basis →
    ((q i j : ℕ) → q < groups → i < block → j < c → slice_index new (q * (c * block) + (j * block + i)) ≡
    sum_to c (λ h. slice_index basis (j * c + h) * slice_index old (q * (c * block) + (h * block + i))) % m) →
    (q i j : ℕ) → q < groups → i < block → j < n →
    value_along n block (λ k. slice_index new (q * (n * block) + k)) (f j) i % m ≡ slice_index old (q * (n * block) + (j * block + i)) % m
along-axis m n c block groups f basis old new same ones combined q i j q_low i_low j_low =
    value-of_basis m n f basis (λ h. slice_index old (q * (n * block) + (h * block + i))) (λ k. slice_index new (q * (n * block) + (k * block + i))) ones
    (λ k k_low.
    ap (λ t. t % m) (at_count k k_low) ∙ mod-mod (sum_to n (λ h. slice_index basis (k * n + h) * slice_index old (q * (n * block) + (h * block + i)))) m)
    j j_low
  where
    at_count : (k : ℕ) → k < n → slice_index new (q * (n * block) + (k * block + i)) ≡
        sum_to n (λ h. slice_index basis (k * n + h) * slice_index old (q * (n * block) + (h * block + i))) % m
    at_count k k_low =
        ap (λ c. slice_index new (q * (c * block) + (k * block + i))) (sym same) ∙ combined q i k q_low i_low (omega arith) ∙
        ap (λ c. sum_to c (λ h. slice_index basis (k * c + h) * slice_index old (q * (c * block) + (h * block + i))) % m) same

-- the number of whole groups
pub whole-groups : (q size len : ℕ) → 0 < size → suc q * size ≤ len → q < len / size
whole-groups q size len some fits = (le-div_iff_mul-le {k = size} {x = suc q} {y = len} some).1 fits

pub positive-product : (n block : ℕ) → 0 < n → 0 < block → 0 < n * block
positive-product n block points some = omega (arith, mul-add-lt 0 block 0 n points some)

-- what is the same modulo m has the same values on the grid
pub grid-same : (m : ℕ) (axes : List (List ℕ)) (f g v w : ℕ → ℕ) → ((i : ℕ) → i < grid_size axes → g i % m ≡ f i % m) → ((i : ℕ) → v i % m ≡ w i % m) →
    HasGridValues m axes f v → HasGridValues m axes g w
grid-same m [] f g v w same values has = same 0 (omega arith) ∙ has ∙ values 0
grid-same m (points ∷ axes) f g v w same values has = λ j low.
    grid-same m axes (value_along (length points) (grid_size axes) f (slice_index points j)) (value_along (length points) (grid_size axes) g (slice_index points j))
    (λ i. v (j * grid_size axes + i)) (λ i. w (j * grid_size axes + i))
    (λ i i_low. value-listed_cong m (length points) (λ k. g (k * grid_size axes + i)) (λ k. f (k * grid_size axes + i)) (slice_index points j)
    (λ k k_low. same (k * grid_size axes + i) (omega (arith, mul-add-lt k (grid_size axes) i (length points) k_low i_low))))
    (λ i. values (j * grid_size axes + i)) (has j low)

-- one axis more: where the columns along it have the blocks' coefficients as values
pub one-axis_more : (m len q : ℕ) (points : List ℕ) (axes : List (List ℕ)) (new old v : List ℕ) → suc q * (length points * grid_size axes) ≤ len →
    ((q : ℕ) → suc q * grid_size axes ≤ len →
    HasGridValues m axes (λ i. slice_index old (q * grid_size axes + i)) (λ i. slice_index v (q * grid_size axes + i))) →
    ((q i j : ℕ) → suc q * (length points * grid_size axes) ≤ len → i < grid_size axes → j < length points →
    value_along (length points) (grid_size axes) (λ k. slice_index new (q * (length points * grid_size axes) + k)) (slice_index points j) i % m ≡
    slice_index old (q * (length points * grid_size axes) + (j * grid_size axes + i)) % m) →
    HasGridValues m (points ∷ axes) (λ i. slice_index new (q * (length points * grid_size axes) + i)) (λ i. slice_index v (q * (length points * grid_size axes) + i))
one-axis_more m len q points axes new old v fits before along = λ j low.
    let size = grid_size axes in
    let n = length points in
    let place : (i : ℕ) → q * (n * size) + (j * size + i) ≡ (q * n + j) * size + i = λ i. omega arith in
    let rows : suc (q * n + j) ≤ n * suc q = omega (arith, mul-add-lt q n j (suc q) (omega arith) low) in
    let within : suc (q * n + j) * size ≤ len = omega (arith, ordered (suc (q * n + j)) (n * suc q) size rows) in
    grid-same m axes (λ i. slice_index old ((q * n + j) * size + i)) (value_along n size (λ k. slice_index new (q * (n * size) + k)) (slice_index points j))
    (λ i. slice_index v ((q * n + j) * size + i)) (λ i. slice_index v (q * (n * size) + (j * size + i)))
    (λ i i_low. along q i j fits i_low low ∙ ap (λ t. slice_index old t % m) (place i))
    (λ i. ap (λ t. slice_index v t % m) (sym (place i)))
    (before (q * n + j) within)
  where
    ordered : (a b c : ℕ) → a ≤ b → a * c ≤ b * c
    ordered a b zero le = omega arith
    ordered a b (suc c) le = omega (arith, ordered a b c le)

-- one polynomial has the values, modulo m
pub one-grid : (m : ℕ) (axes : List (List ℕ)) (f g v : ℕ → ℕ) → 0 < m → AreAxes m axes → HasGridValues m axes f v → HasGridValues m axes g v →
    (i : ℕ) → i < grid_size axes → f i % m ≡ g i % m
one-grid m [] f g v some are left right i low =
    let first : i ≡ 0 = omega arith in
    ap (λ i. f i % m) first ∙ left ∙ sym right ∙ ap (λ i. g i % m) (sym first)
one-grid m (points ∷ axes) f g v some are left right i low =
    let size = grid_size axes in
    let n = length points in
    let size_some : 0 < size = positive-size size n i low in
    let row : i / size < n = (div-lt_iff_lt-mul {k = size} {x = i} {y = n} size_some).1 low in
    let place : i / size * size + i % size ≡ i = omega (arith, div-add-mod i size) in
    let column = alike_of_values m (m - 1) n (slice_index points) (listed n (λ k. f (k * size + i % size))) (listed n (λ k. g (k * size + i % size))) (omega arith)
    (below-listed m n (λ k. f (k * size + i % size))) (below-listed m n (λ k. g (k * size + i % size))) are.0.apart
    (λ j j_low. one-grid m axes (value_along n size f (slice_index points j)) (value_along n size g (slice_index points j)) (λ i. v (j * size + i)) some are.1
    (left j j_low) (right j j_low) (i % size) (mod-lt i size_some))
    (i / size) in
    ap (λ i. f i % m) (sym place) ∙
    ap (λ t. t % m) (sym (at-listed n (λ k. f (k * size + i % size)) (i / size) row)) ∙ column ∙
    ap (λ t. t % m) (at-listed n (λ k. g (k * size + i % size)) (i / size) row) ∙
    ap (λ i. g i % m) place
  where
    positive-size : (size n i : ℕ) → i < n * size → 0 < size
    positive-size zero n i low = absurd (omega arith)
    positive-size (suc size) n i low = omega arith

-- the axes from one place on
pub points-at : (axes : List Axis) (k : ℕ) (axis : Axis) → k < length axes → axis ≡ get_or axes k axis →
    drop k (points_of axes) ≡ axis.values.items ∷ drop (suc k) (points_of axes)
points-at [] k axis low is = absurd (omega arith)
points-at (first ∷ axes) zero axis low is = ap (λ (a : Axis). a.values.items ∷ points_of axes) (sym is)
points-at (first ∷ axes) (suc k) axis low is = points-at axes k axis (omega arith) is

pub points-end : (axes : List Axis) → drop (length axes) (points_of axes) ≡ []
points-end [] = refl
points-end (axis ∷ axes) = points-end axes

pub none_yet : (m : ℕ) (axes : List Axis) (f : ℕ → ℕ) → HasGridValues m (drop (length axes) (points_of axes)) f f
none_yet m axes f = subst (λ (rest : List (List ℕ)). HasGridValues m rest f f) (sym (points-end axes)) refl

pub axes-drop : (m k : ℕ) (axes : List (List ℕ)) → AreAxes m axes → AreAxes m (drop k axes)
axes-drop m zero axes are = are
axes-drop m (suc k) [] are = are
axes-drop m (suc k) (points ∷ axes) are = axes-drop m k axes are.1

pub size-positive : (m : ℕ) (axes : List (List ℕ)) → AreAxes m axes → 0 < grid_size axes
size-positive m [] are = omega arith
size-positive m (points ∷ axes) are = positive-product (length points) (grid_size axes) are.0.some (size-positive m axes are.1)

pub size-drop : (m k : ℕ) (axes : List (List ℕ)) → AreAxes m axes → grid_size (drop k axes) ≤ grid_size axes
size-drop m zero axes are = omega arith
size-drop m (suc k) [] are = omega arith
size-drop m (suc k) (points ∷ axes) are =
    omega (arith, size-drop m k axes are.1, le-mul_of_pos_right {m = length points} (grid_size axes) are.0.some)

pub work-drop : (k : ℕ) (axes : List (List ℕ)) → grid_work (drop k axes) ≤ grid_work axes
work-drop zero axes = omega arith
work-drop (suc k) [] = omega arith
work-drop (suc k) (points ∷ axes) = omega (arith, work-drop k axes)

-- what holds of an axis and of those behind it
pub record AtAxis (m work size k : ℕ) (axes : List (List ℕ)) (points : List ℕ) : Type 0 where
  pub axis : IsAxis m points
  pub block : 0 < grid_size (drop (suc k) axes)
  pub fits : length points * grid_size (drop (suc k) axes) ≤ size
  pub room : length points * length points + 6 * length points + 4 ≤ work

pub at-axis : (m work size k : ℕ) (axes : List (List ℕ)) (points : List ℕ) → drop k axes ≡ points ∷ drop (suc k) axes → AreAxes m axes → grid_size axes ≤ size →
    grid_work axes ≤ work → AtAxis m work size k axes points
at-axis m work size k axes points is are fits room =
    let here : AreAxes m (points ∷ drop (suc k) axes) = subst (AreAxes m) is (axes-drop m k axes are) in
    record {
      axis = here.0;
      block = size-positive m (drop (suc k) axes) here.1;
      fits = omega (arith, size-drop m k axes are, ap grid_size is);
      room = omega (arith, work-drop k axes, ap grid_work is);
    }

-- once the columns along one axis more are coefficients
pub axis-done : (m len block : ℕ) (points : List ℕ) (rest : List (List ℕ)) (new old v : List ℕ) → block ≡ grid_size rest →
    ((q : ℕ) → suc q * block ≤ len → HasGridValues m rest (λ i. slice_index old (q * block + i)) (λ i. slice_index v (q * block + i))) →
    ((q i j : ℕ) → suc q * (length points * block) ≤ len → i < block → j < length points →
    value_along (length points) block (λ k. slice_index new (q * (length points * block) + k)) (slice_index points j) i % m ≡
    slice_index old (q * (length points * block) + (j * block + i)) % m) →
    (q : ℕ) → suc q * (length points * block) ≤ len →
    HasGridValues m (points ∷ rest) (λ i. slice_index new (q * (length points * block) + i)) (λ i. slice_index v (q * (length points * block) + i))
axis-done m len block points rest new old v is =
    subst
    (λ (block : ℕ). ((q : ℕ) → suc q * block ≤ len → HasGridValues m rest (λ i. slice_index old (q * block + i)) (λ i. slice_index v (q * block + i))) →
    ((q i j : ℕ) → suc q * (length points * block) ≤ len → i < block → j < length points →
    value_along (length points) block (λ k. slice_index new (q * (length points * block) + k)) (slice_index points j) i % m ≡
    slice_index old (q * (length points * block) + (j * block + i)) % m) →
    (q : ℕ) → suc q * (length points * block) ≤ len →
    HasGridValues m (points ∷ rest) (λ i. slice_index new (q * (length points * block) + i)) (λ i. slice_index v (q * (length points * block) + i)))
    (sym is)
    (λ before along q fits. one-axis_more m len q points rest new old v fits before along)

-- the same where the axes behind it are given by their place
pub axis-done_at : (m len k next block : ℕ) (axes : List (List ℕ)) (points new old v : List ℕ) → next ≡ suc k → drop k axes ≡ points ∷ drop (suc k) axes →
    block ≡ grid_size (drop next axes) →
    ((q : ℕ) → suc q * block ≤ len → HasGridValues m (drop next axes) (λ i. slice_index old (q * block + i)) (λ i. slice_index v (q * block + i))) →
    ((q i j : ℕ) → suc q * (length points * block) ≤ len → i < block → j < length points →
    value_along (length points) block (λ k. slice_index new (q * (length points * block) + k)) (slice_index points j) i % m ≡
    slice_index old (q * (length points * block) + (j * block + i)) % m) →
    (q : ℕ) → suc q * (length points * block) ≤ len →
    HasGridValues m (drop k axes) (λ i. slice_index new (q * (length points * block) + i)) (λ i. slice_index v (q * (length points * block) + i))
axis-done_at m len k next block axes points new old v next_is is block_is before along q fits =
    subst (λ (rest : List (List ℕ)). HasGridValues m rest (λ i. slice_index new (q * (length points * block) + i)) (λ i. slice_index v (q * (length points * block) + i)))
    (ap (λ i. points ∷ drop i axes) next_is ∙ sym is)
    (axis-done m len block points (drop next axes) new old v block_is before along q fits)

-- once all axes are done
pub all-done : (m len k block : ℕ) (axes : List (List ℕ)) (new v : List ℕ) → k ≡ 0 → block ≡ grid_size (drop k axes) →
    ((q : ℕ) → suc q * block ≤ len → HasGridValues m (drop k axes) (λ i. slice_index new (q * block + i)) (λ i. slice_index v (q * block + i))) →
    (q : ℕ) → suc q * grid_size axes ≤ len → HasGridValues m axes (λ i. slice_index new (q * grid_size axes + i)) (λ i. slice_index v (q * grid_size axes + i))
all-done m len k block axes new v first is values =
    let front : drop k axes ≡ axes = ap (λ i. drop i axes) first in
    subst (λ (size : ℕ). (q : ℕ) → suc q * size ≤ len → HasGridValues m axes (λ i. slice_index new (q * size + i)) (λ i. slice_index v (q * size + i)))
    (is ∙ ap grid_size front)
    (subst (λ (rest : List (List ℕ)). (q : ℕ) → suc q * block ≤ len → HasGridValues m rest (λ i. slice_index new (q * block + i)) (λ i. slice_index v (q * block + i))) front values)
