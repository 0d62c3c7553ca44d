-- What expanding the powers of one variable does to a polynomial: it is the polynomial moved in that variable.
use Rattle.std.proofs.Common.{◌≡◌, ℕ, zero, suc, ◌+◌, ◌-◌, ◌*◌, ◌%◌, ◌^◌, ◌<◌, ◌≤◌, Bool, true, false, if◌then◌else◌, List, [], ◌∷◌, ◌++◌, length, get_or, take, drop, refl, sym, ◌∙◌, ap, arith, subst, add-one, add-zero, zero-add, add_comm, append_assoc, ◌≢◌, inl, inr}
use Rattle.std.specs.Prelude.{set}
use Rattle.std.proofs.Math.Nat.{pow-suc, pow-zero, mod-mod, mod-eq_of_lt, add-mod-mod}
use Rattle.std.proofs.Math.ListN.{drop_of_length-le}
use Rattle.std.proofs.Math.Seq.{drop-cons}
use Rattle.std.proofs.lemmas.Nat.{mod_below}
use Rattle.std.proofs.lemmas.List.{take_more, map-append, length-map, length-set, take_all, take_more_set, drop-set-lt, get_or-set_other}
use Rattle.std.proofs.lemmas.Bool.{cases_lt}
use Rattle.prime_field.specs.Modulus.{value_of}
use Rattle.prime_field.specs.declared.Modulus.{Modulus}
use Rattle.prime_field.specs.declared.Modulus.TheVariants.{First, Second}
use Rattle.poly_maps.specs.Point.{IsPoint}
use Rattle.prime_field.proofs.Residues.{add-cong, mul-cong}
use Rattle.poly_maps.specs.Mono.{mono_value, is_same, HasEight}
use Rattle.poly_maps.specs.Polynomial.{coefficient, value_at, Supported, times, AreResidues, IsPolynomial}
use Rattle.poly_maps.specs.Moved.{point_sum, moved_mono, moved}
use Rattle.poly_maps.specs.Shifted.{negatives}
use Rattle.univariate.specs.Univariate.{univariate_value}
use Rattle.poly_maps.specs.Expansion.{residues, times_sum, power_row, spread, alone, IsPowerRow, AreMoved}
use Rattle.poly_maps.proofs.Terms.{coefficient-append, coefficient-residue, Supported-append}
use Rattle.poly_maps.proofs.Linear.{AreAlike}
use Rattle.poly_maps.proofs.Parts.{HasPlaces, same_values}
use Rattle.poly_maps.proofs.Moves.{Supported-moved, HasPlaces-lower, value-moved, moved-nothing, moved-moved, moved-alike, moved-congruent}

-- ---- rows

value-times_sum : (a b : ℕ) (row : List ℕ) (x : ℕ) → univariate_value (times_sum a b row) x ≡ b + (a + x) * univariate_value row x
value-times_sum a b [] x = omega arith
value-times_sum a b (r ∷ row) x = omega (arith, ap (λ v. x * v) (value-times_sum a r row x))

value-power_row : (a k x : ℕ) → univariate_value (power_row a k) x ≡ (a + x) ^ k
value-power_row a zero x = omega (arith, pow-zero (a + x))
value-power_row a (suc k) x =
    omega (arith, value-times_sum a 0 (power_row a k) x, ap (λ v. (a + x) * v) (value-power_row a k x), pow-suc (a + x) k)

pub length-times_sum : (a b : ℕ) (row : List ℕ) → length (times_sum a b row) ≡ suc (length row)
length-times_sum a b [] = refl
length-times_sum a b (r ∷ row) = ap suc (length-times_sum a r row)

pub length-power_row : (a k : ℕ) → length (power_row a k) ≡ suc k
length-power_row a zero = refl
length-power_row a (suc k) = length-times_sum a 0 (power_row a k) ∙ ap suc (length-power_row a k)

-- residues may be taken before, too
residues-times_sum : (m a b c : ℕ) (row : List ℕ) → b % m ≡ c % m → residues m (times_sum a b (residues m row)) ≡ residues m (times_sum a c row)
residues-times_sum m a b c [] same = λ i. same i ∷ []
residues-times_sum m a b c (r ∷ row) same =
    let first : (b + a * (r % m)) % m ≡ (c + a * r) % m =
    add-cong m b c (a * (r % m)) (a * r) same (mul-cong m a a (r % m) r refl (mod-mod r m)) in
    λ i. first i ∷ residues-times_sum m a (r % m) r row (mod-mod r m) i

pub residues-power_row : (m a k : ℕ) → residues m (times_sum a 0 (residues m (power_row a k))) ≡ residues m (power_row a (suc k))
residues-power_row m a k = residues-times_sum m a 0 0 (power_row a k) refl

-- ---- one term

Supported-spread : (n : ℕ) (f : ℕ → ℕ) (e : List ℕ) (i j : ℕ) (row : List ℕ) → length e ≡ n → Supported (HasPlaces n) (spread f e i j row)
Supported-spread n f e i j [] places = tt
Supported-spread n f e i j (r ∷ row) places = (length-set e i j ∙ places, Supported-spread n f e i (j + 1) row places)

-- a monomial with another exponent in the place i
mono_value-set : (e : List ℕ) (i j : ℕ) (y : List ℕ) → i < length e → mono_value (set e i j) y ≡ mono_value (set e i 0) y * get_or y i 0 ^ j
mono_value-set [] i j y low = absurd (omega arith)
mono_value-set (k ∷ e) zero j [] low = omega (arith, ap (λ v. v * mono_value e [] * 0 ^ j) (pow-zero 0))
mono_value-set (k ∷ e) zero j (b ∷ y) low = omega (arith, ap (λ v. v * mono_value e y * b ^ j) (pow-zero b))
mono_value-set (k ∷ e) (suc i) j [] low = omega (arith, ap (λ v. 0 ^ k * v) (mono_value-set e i j [] (omega arith)))
mono_value-set (k ∷ e) (suc i) j (b ∷ y) low = omega (arith, ap (λ v. b ^ k * v) (mono_value-set e i j y (omega arith)))

-- the value of spread terms
value-spread : (c : ℕ) (e : List ℕ) (i j : ℕ) (row y : List ℕ) → i < length e → value_at (spread (λ r. c * r) e i j row) y ≡ c * (mono_value (set e i 0) y * (get_or y i 0 ^ j * univariate_value row (get_or y i 0)))
value-spread c e i j [] y low = omega arith
value-spread c e i j (r ∷ row) y low =
    let x = get_or y i 0 in
    let rest = univariate_value row x in
    let base = mono_value (set e i 0) y in
    let power : x ^ (j + 1) ≡ x ^ j * x = ap (λ k. x ^ k) (add-one j) ∙ pow-suc x j in
    omega (arith, ap (λ v. c * r * v) (mono_value-set e i j y low), value-spread c e i (j + 1) row y low, ap (λ v. c * (base * (v * rest))) power)

-- the value of a monomial where one entry has a added
mono_value-alone : (e : List ℕ) (i a : ℕ) (y : List ℕ) → i < length e → mono_value e (point_sum (alone i a) y) ≡ mono_value (set e i 0) y * (a + get_or y i 0) ^ get_or e i 0
mono_value-alone [] i a y low = absurd (omega arith)
mono_value-alone (k ∷ e) zero a [] low =
    omega (arith, ap (λ v. v * mono_value e [] * (a + 0) ^ k) (pow-zero 0), ap (λ v. v ^ k * mono_value e []) (add-zero a))
mono_value-alone (k ∷ e) zero a (b ∷ y) low = omega (arith, ap (λ v. v * mono_value e y * (a + b) ^ k) (pow-zero b))
mono_value-alone (k ∷ e) (suc i) a [] low =
    ap (λ v. 0 ^ k * mono_value e v) (later i) ∙ omega (arith, ap (λ v. 0 ^ k * v) (mono_value-alone e i a [] (omega arith)))
  where
    later : (i : ℕ) → alone i a ≡ point_sum (alone i a) []
    later zero = refl
    later (suc i) = refl
mono_value-alone (k ∷ e) (suc i) a (b ∷ y) low =
    ap (λ v. v ^ k * mono_value e (point_sum (alone i a) y)) (zero-add b) ∙
    omega (arith, ap (λ v. b ^ k * v) (mono_value-alone e i a y (omega arith)))

-- the residues of a row instead of the row
spread-alike : (m c : ℕ) (e : List ℕ) (i j : ℕ) (row : List ℕ) → AreAlike m (spread (λ r. (c * r) % m) e i j (residues m row)) (spread (λ r. c * r) e i j row)
spread-alike m c e i j [] g = refl
spread-alike m c e i j (r ∷ row) g =
    add-cong m (if is_same (set e i j) g then (c * (r % m)) % m else 0) (if is_same (set e i j) g then c * r else 0)
    (coefficient g (spread (λ r. (c * r) % m) e i (j + 1) (residues m row))) (coefficient g (spread (λ r. c * r) e i (j + 1) row))
    (by (is_same (set e i j) g)) (spread-alike m c e i (j + 1) row g)
  where
    by : (b : Bool) → (if b then (c * (r % m)) % m else 0) % m ≡ (if b then c * r else 0) % m
    by true = mod-mod (c * (r % m)) m ∙ mul-cong m c c (r % m) r refl (mod-mod r m)
    by false = refl

-- the spread terms of one term are the term moved in the variable i
pub spread-moved : (m i a : ℕ) (t : List ℕ × ℕ) → i < length t.0 → AreAlike m (spread (λ r. (t.1 * r) % m) t.0 i 0 (residues m (power_row a (get_or t.0 i 0)))) (times t.1 (moved_mono t.0 (alone i a)))
spread-moved m i a t low g =
    let n = length t.0 in
    let row = power_row a (get_or t.0 i 0) in
    spread-alike m t.1 t.0 i 0 row g ∙
    ap (λ v. v % m)
    (same_values n (spread (λ r. t.1 * r) t.0 i 0 row) (moved (alone i a) (t ∷ []))
    (Supported-spread n (λ r. t.1 * r) t.0 i 0 row refl)
    (Supported-moved (HasPlaces n) (alone i a) (t ∷ []) (HasPlaces-lower n) (refl, tt))
    (λ y length_is. value-spread t.1 t.0 i 0 row y low ∙ values y ∙ sym (value-moved (alone i a) (t ∷ []) y)) g ∙
    coefficient-append g (times t.1 (moved_mono t.0 (alone i a))) [] ∙ omega arith)
  where
    values : (y : List ℕ) → t.1 * (mono_value (set t.0 i 0) y * (get_or y i 0 ^ 0 * univariate_value (power_row a (get_or t.0 i 0)) (get_or y i 0))) ≡ value_at (t ∷ []) (point_sum (alone i a) y)
    values y =
        let x = get_or y i 0 in
        let k = get_or t.0 i 0 in
        let base = mono_value (set t.0 i 0) y in
        omega (
          arith,
          ap (λ v. t.1 * (base * (v * univariate_value (power_row a k) x))) (pow-zero x),
          ap (λ v. t.1 * (base * v)) (value-power_row a k x),
          ap (λ v. t.1 * v) (mono_value-alone t.0 i a y low),
        )

-- ---- variable by variable

point_sum-alone : (s : List ℕ) (i : ℕ) → i < length s → point_sum (take i s) (alone i (get_or s i 0)) ≡ take (suc i) s
point_sum-alone [] i low = absurd (omega arith)
point_sum-alone (a ∷ s) zero low = refl
point_sum-alone (a ∷ s) (suc i) low =
    let first : a + 0 ≡ a = omega arith in
    λ j. first j ∷ point_sum-alone s i (omega arith) j

-- moved in the first variables, and then in one more
pub moved_further : (m n i : ℕ) (s : List ℕ) (p q : List (List ℕ × ℕ)) → Supported (HasPlaces n) p → i < length s → AreAlike m q (moved (take i s) p) → AreAlike m (moved (alone i (get_or s i 0)) q) (moved (take (suc i) s) p)
moved_further m n i s p q places low alike e =
    moved-alike m (alone i (get_or s i 0)) q (moved (take i s) p) alike e ∙
    ap (λ c. c % m) (moved-moved n (alone i (get_or s i 0)) (take i s) p places e) ∙
    ap (λ x. coefficient e (moved x p) % m) (point_sum-alone s i low)

-- moved by 0 in one variable
pub moved-zero : (m n i : ℕ) (p : List (List ℕ × ℕ)) → Supported (HasPlaces n) p → AreAlike m (moved (alone i 0) p) p
moved-zero m n i p places e =
    moved-congruent m (alone i 0) [] p (λ k. ap (λ v. v % m) (zeros i k)) e ∙ ap (λ c. c % m) (moved-nothing n p places e)
  where
    zeros : (i k : ℕ) → get_or (alone i 0) k 0 ≡ get_or [] k 0
    zeros zero zero = refl
    zeros zero (suc k) = refl
    zeros (suc i) zero = refl
    zeros (suc i) (suc k) = zeros i k

-- ---- multiplying a row in place

-- up to the place `at` the row has the product's entries, and `below` is the row's own entry before it
pub record IsMultiplied (m a below at : ℕ) (now old : List ℕ) : Type 0 where
  pub product : take at now ++ residues m (times_sum a below (drop at now)) ≡ residues m (times_sum a 0 old)
  pub low : below < m
  pub rest : (k : ℕ) → at ≤ k → k < length now → get_or now k 0 < m

pub IsMultiplied-start : (m a : ℕ) (row : List ℕ) → 0 < m → ((k : ℕ) → k < length row → get_or row k 0 < m) → IsMultiplied m a 0 0 row row
IsMultiplied-start m a row some low = record {
  product = refl;
  low = some;
  rest = λ k from to. low k to;
}

pub IsMultiplied-next : (m a below at v : ℕ) (now old : List ℕ) → IsMultiplied m a below at now old → at < length now → v ≡ (below + (a * get_or now at 0) % m) % m → IsMultiplied m a (get_or now at 0) (at + 1) (set now at v) old
IsMultiplied-next m a below at v now old kept within v_is =
    let own = get_or now at 0 in
    let written : take (at + 1) (set now at v) ≡ take at now ++ v ∷ [] = take_more_set now at v within in
    let left : drop (at + 1) (set now at v) ≡ drop (at + 1) now = drop-set-lt (at + 1) now at v (omega arith) in
    let ahead : drop at now ≡ own ∷ drop (at + 1) now = drop-cons now at 0 within ∙ ap (λ k. own ∷ drop k now) (sym (add-one at)) in
    let entry : v ≡ (below + a * own) % m = v_is ∙ add-mod-mod below (a * own) m in
    record {
      product =
          ap (λ x. take (at + 1) (set now at v) ++ residues m (times_sum a own x)) left ∙
          ap (λ x. x ++ residues m (times_sum a own (drop (at + 1) now))) written ∙
          append_assoc (take at now) (v ∷ []) (residues m (times_sum a own (drop (at + 1) now))) ∙
          ap (λ x. take at now ++ (x ∷ residues m (times_sum a own (drop (at + 1) now)))) entry ∙
          ap (λ x. take at now ++ residues m (times_sum a below x)) (sym ahead) ∙
          kept.product;
      low = kept.rest at (omega arith) within;
      rest = λ k from to.
          let other : k ≢ at = omega arith in
          subst (λ x. x < m) (sym (get_or-set_other now at k v 0 other)) (kept.rest k (omega arith) (omega (arith, length-set now at v)));
    }

pub IsMultiplied-end : (m a below at : ℕ) (now old : List ℕ) → IsMultiplied m a below at now old → length now ≤ at → now ++ below ∷ [] ≡ residues m (times_sum a 0 old)
IsMultiplied-end m a below at now old kept all =
    ap (λ x. x ++ below ∷ []) (sym (take_all at now all)) ∙
    ap (λ x. take at now ++ x ∷ []) (sym (mod-eq_of_lt kept.low)) ∙
    ap (λ x. take at now ++ residues m (times_sum a below x)) (sym (drop_of_length-le now all)) ∙
    kept.product

-- ---- rows of powers

residues-low : (m : ℕ) (xs : List ℕ) (k : ℕ) → 0 < m → k < length (residues m xs) → get_or (residues m xs) k 0 < m
residues-low m [] k some within = absurd (omega arith)
residues-low m (x ∷ xs) zero some within = mod_below x m some
residues-low m (x ∷ xs) (suc k) some within = residues-low m xs k some (omega arith)

pub power_row-low : (m a : ℕ) (row : List ℕ) → 0 < m → IsPowerRow m a row → (k : ℕ) → k < length row → get_or row k 0 < m
power_row-low m a row some is k within =
    subst (λ x. get_or x k 0 < m) (sym is.1) (residues-low m (power_row a (length row - 1)) k some (subst (λ x. k < length x) is.1 within))

pub power_row-next : (m a : ℕ) (row now : List ℕ) → IsPowerRow m a row → now ≡ residues m (times_sum a 0 row) → IsPowerRow m a now
power_row-next m a row now is product =
    let before = length row - 1 in
    let longer : length now ≡ suc (length row) = ap length product ∙ length-map (times_sum a 0 row) (λ v. v % m) ∙ length-times_sum a 0 row in
    let count : suc before ≡ length now - 1 = omega (arith, is.0) in (
      omega (arith, longer),
      product ∙ ap (λ x. residues m (times_sum a 0 x)) is.1 ∙ residues-power_row m a before ∙ ap (λ n. residues m (power_row a n)) count,
    )

pub power_row-reached : (m a k : ℕ) (row : List ℕ) → row ≡ residues m (power_row a k) → (length row ≡ suc k) × IsPowerRow m a row
power_row-reached m a k row is =
    let long : length row ≡ suc k = ap length is ∙ length-map (power_row a k) (λ v. v % m) ∙ length-power_row a k in
    let count : k ≡ length row - 1 = omega arith in
    (long, (omega arith, is ∙ ap (λ n. residues m (power_row a n)) count))

-- ---- the terms, one after the other

AreResidues-append : (m : ℕ) (p q : List (List ℕ × ℕ)) → AreResidues m p → AreResidues m q → AreResidues m (p ++ q)
AreResidues-append m [] q left right = right
AreResidues-append m (t ∷ p) q left right = (left.0, AreResidues-append m p q left.1 right)

AreResidues-spread : (m c : ℕ) (e : List ℕ) (i j : ℕ) (row : List ℕ) → 0 < m → AreResidues m (spread (λ r. (c * r) % m) e i j row)
AreResidues-spread m c e i j [] some = tt
AreResidues-spread m c e i j (r ∷ row) some = (mod_below (c * r) m some, AreResidues-spread m c e i (j + 1) row some)

Supported-at : (L : List ℕ → Type 0) (p : List (List ℕ × ℕ)) (k : ℕ) (d : List ℕ × ℕ) → Supported L p → k < length p → L (get_or p k d).0
Supported-at L [] k d all within = absurd (omega arith)
Supported-at L (t ∷ p) zero d all within = all.0
Supported-at L (t ∷ p) (suc k) d all within = Supported-at L p k d all.1 (omega arith)

-- no terms yet
pub AreMoved-none : (m i a : ℕ) (terms : List (List ℕ × ℕ)) (n : ℕ) → length terms ≤ n → AreMoved m i a (drop n terms) []
AreMoved-none m i a terms n all =
    subst (λ (p : List (List ℕ × ℕ)). AreMoved m i a p []) (sym (drop_of_length-le terms all)) (record {
      coefficients = λ e. refl;
      low = tt;
      places = tt;
    })

-- one term more, before the others
pub AreMoved-more : (m i a k : ℕ) (terms out row : List (List ℕ × ℕ)) (t : List ℕ × ℕ) → 0 < m → i < 8 → Supported HasEight terms → k < length terms → t ≡ get_or terms k t →
    row ≡ spread (λ r. (t.1 * r) % m) t.0 i 0 (residues m (power_row a (get_or t.0 i 0))) → AreMoved m i a (drop (suc k) terms) out → AreMoved m i a (drop k terms) (out ++ row)
AreMoved-more m i a k terms out row t some place eight within t_is row_is before =
    let rest : List (List ℕ × ℕ) = drop (suc k) terms in
    let ahead : drop k terms ≡ t ∷ rest = drop-cons terms k t within ∙ ap (λ u. u ∷ rest) (sym t_is) in
    let t_eight : HasEight t.0 = subst (λ (u : List ℕ × ℕ). HasEight u.0) (sym t_is) (Supported-at HasEight terms k t eight within) in
    let one = times t.1 (moved_mono t.0 (alone i a)) in
    subst (λ (p : List (List ℕ × ℕ)). AreMoved m i a p (out ++ row)) (sym ahead) (record {
      coefficients = λ e.
          ap (λ c. c % m) (coefficient-append e out row) ∙
          add-cong m (coefficient e out) (coefficient e (moved (alone i a) rest)) (coefficient e row) (coefficient e one)
          (before.coefficients e) (ap (λ p. coefficient e p % m) row_is ∙ spread-moved m i a t (omega arith) e) ∙
          ap (λ c. c % m) (add_comm (coefficient e (moved (alone i a) rest)) (coefficient e one) ∙ sym (coefficient-append e one (moved (alone i a) rest)));
      low = AreResidues-append m out row before.low (subst (AreResidues m) (sym row_is) (AreResidues-spread m t.1 t.0 i 0 (residues m (power_row a (get_or t.0 i 0))) some));
      places = Supported-append HasEight out row before.places
          (subst (Supported HasEight) (sym row_is) (Supported-spread 8 (λ r. (t.1 * r) % m) t.0 i 0 (residues m (power_row a (get_or t.0 i 0))) t_eight));
    })

-- ---- polynomials

-- the coefficients of a polynomial moved by 0 in one variable are its own
pub coefficient-unmoved : (m i : ℕ) (p : List (List ℕ × ℕ)) → 0 < m → IsPolynomial p → AreResidues m p → (e : List ℕ) → coefficient e p ≡ coefficient e (moved (alone i 0) p) % m
coefficient-unmoved m i p some is low e =
    sym (mod-eq_of_lt (coefficient-residue m e p some is.0 low)) ∙ sym (moved-zero m 8 i p is.1 e)

-- a polynomial that is the one moved in the first i variables, moved in one more
pub coefficient-further : (m i : ℕ) (s : List ℕ) (p q : List (List ℕ × ℕ)) → IsPolynomial p → i < length s → ((e : List ℕ) → coefficient e q ≡ coefficient e (moved (take i s) p) % m) →
    (e : List ℕ) → coefficient e (moved (alone i (get_or s i 0)) q) % m ≡ coefficient e (moved (take (i + 1) s) p) % m
coefficient-further m i s p q is low same e =
    moved_further m 8 i s p q is.1 low (λ f. ap (λ c. c % m) (same f) ∙ mod-mod (coefficient f (moved (take i s) p)) m) e ∙
    ap (λ k. coefficient e (moved (take k s) p) % m) (sym (add-one i))

-- ---- negatives

-- one entry more
pub negatives-more : (m i v : ℕ) (all entries : List ℕ) → i < length all → i < length entries → v ≡ (m - get_or entries i 0) % m → take i all ≡ negatives m (take i entries) → take (i + 1) (set all i v) ≡ negatives m (take (i + 1) entries)
negatives-more m i v all entries room low v_is same =
    take_more_set all i v room ∙
    (λ j. same j ++ v_is j ∷ []) ∙
    sym (map-append (λ a. (m - a) % m) (take i entries) (get_or entries i 0 ∷ [])) ∙
    ap (negatives m) (sym (take_more entries i 0 low))

pub negatives-low : (m : ℕ) (entries : List ℕ) → 0 < m → (k : ℕ) → k < length (negatives m entries) → get_or (negatives m entries) k 0 < m
negatives-low m [] some k within = absurd (omega arith)
negatives-low m (a ∷ entries) some zero within = mod_below (m - a) m some
negatives-low m (a ∷ entries) some (suc k) within = negatives-low m entries some k (omega arith)

-- the entries of a point are residues of both moduli, the missing ones too
pub point-low : (m : Modulus) (s : List ℕ) → IsPoint s → (k : ℕ) → get_or s k 0 < value_of m
point-low m s point k = elim (cases_lt k (length s)) [
  | inl low ↦ omega (arith, point.below k low, least m)
  | inr past ↦ subst (λ x. x < value_of m) (sym (beyond s k past)) (omega (arith, least m))
]
  where
    least : (m : Modulus) → 2305843009213693951 ≤ value_of m
    least First = omega arith
    least Second = omega arith

    beyond : (s : List ℕ) (k : ℕ) → length s ≤ k → get_or s k 0 ≡ 0
    beyond [] k past = refl
    beyond (a ∷ s) zero past = absurd (omega arith)
    beyond (a ∷ s) (suc k) past = beyond s k (omega arith)
