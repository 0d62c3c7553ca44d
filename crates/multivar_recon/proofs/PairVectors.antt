-- Pairs that agree with samples, and their lists of coefficients.
use Rattle.std.proofs.Common.{◌≡◌, ◌≢◌, ℕ, zero, suc, ◌+◌, ◌-◌, ◌*◌, ◌%◌, ◌<◌, ◌≤◌, ◌⊎◌, All, Contains, Some, None, List, [], ◌∷◌, length, get_or, slice_index, inl, inr, refl, sym, ◌∙◌, ap, subst, arith}
use Rattle.std.proofs.Math.Nat.{mod-mod, zero-mod, mod-eq_of_lt}
use Rattle.std.proofs.lemmas.Bool.{cases_lt}
use Rattle.std.proofs.lemmas.List.{get_or_default, get_or_past}
use Rattle.std.proofs.lemmas.Nat.{mod_below}
use Rattle.std.specs.declared.cmp.Ordering.TheVariants.{Less}
use Rattle.prime_field.proofs.Residues.{mul-cong}
use Rattle.poly_maps.specs.declared.bound.Bound.{Bound}
use Rattle.poly_maps.specs.declared.bound.Bounds.{Bounds}
use Rattle.poly_maps.specs.declared.pair.Pair.{Pair}
use Rattle.poly_maps.specs.Bound.{IsWithin, WithinBound}
use Rattle.poly_maps.specs.Forcing.{IsForcing}
use Rattle.poly_maps.specs.Mono.{mono_cmp, HasEight}
use Rattle.poly_maps.specs.Pair.{Agrees}
use Rattle.poly_maps.specs.Polynomial.{coefficient, value_at, leading, IsNormal, AreResidues, IsPolynomial, Supported}
use Rattle.poly_maps.proofs.Linear.{AreAlike, value-alike}
use Rattle.poly_maps.proofs.Moves.{Supported-coefficients}
use Rattle.poly_maps.proofs.Pinned.{first-coefficient, leading_some, leading_greatest}
use Rattle.poly_maps.proofs.Terms.{coefficient-residue}
use Rattle.poly_maps.proofs.Within.{IsBelow-places, IsBelow-from_places}
use Rattle.ray_grid.specs.Covering.{Covers, ListsMonomials}
use Rattle.multivar_recon.specs.Least.{Vanishes, VanishesFrom, leading_coefficient, IsAgreeing, AreWithin, IsLeastPair}
use Rattle.multivar_recon.specs.Vectors.{num_of, den_of, AgreesTo, EndsAt, IsLeastVector, IsForced, NoneAgrees}
use Rattle.multivar_recon.proofs.Sums.{value-zeros}
use Rattle.multivar_recon.proofs.Sampled.{ends_or_zero}
use Rattle.multivar_recon.proofs.Listed.{place_order, find, coefficient-none, coefficient-at, coefficient-unlisted, listed_alike, listed_within, Supported-numbers, within_at, vector_of, length-vector, vector-num, vector-den}

-- ---- samples one by one

pub Agrees-at : (m : ℕ) (xs : List (List ℕ)) (vs : List ℕ) (f : Pair) (i : ℕ) → Agrees m xs vs f → i < length xs →
    (get_or vs i 0 * value_at f.den (get_or xs i [])) % m ≡ value_at f.num (get_or xs i []) % m
Agrees-at m [] vs f i agrees low = absurd (omega arith)
Agrees-at m (x ∷ xs) [] f i agrees low = absurd agrees
Agrees-at m (x ∷ xs) (v ∷ vs) f zero agrees low = agrees.0
Agrees-at m (x ∷ xs) (v ∷ vs) f (suc i) agrees low = Agrees-at m xs vs f i agrees.1 (omega arith)

pub Agrees-from : (m : ℕ) (xs : List (List ℕ)) (vs : List ℕ) (f : Pair) → length vs ≡ length xs →
    ((i : ℕ) → i < length xs → (get_or vs i 0 * value_at f.den (get_or xs i [])) % m ≡ value_at f.num (get_or xs i []) % m) → Agrees m xs vs f
Agrees-from m [] [] f same each = tt
Agrees-from m [] (v ∷ vs) f same each = absurd (omega arith)
Agrees-from m (x ∷ xs) [] f same each = absurd (omega arith)
Agrees-from m (x ∷ xs) (v ∷ vs) f same each = (each 0 (omega arith), Agrees-from m xs vs f (omega arith) (λ i low. each (suc i) (omega arith)))

-- ---- the leading term

-- the greatest monomial with a coefficient leads
pub leads : (p : List (List ℕ × ℕ)) (e : List ℕ) → IsNormal p → coefficient e p ≢ 0 → ((f : List ℕ) → coefficient f p ≢ 0 → mono_cmp e f ≢ Less) → leading p ≡ Some e
leads [] e normal some greatest = absurd (some refl)
leads (t ∷ p) e normal some greatest = elim (leading_greatest (t ∷ p) t.0 e normal refl some) [
  | inl same ↦ ap Some (sym same)
  | inr less ↦ absurd (greatest t.0 (leading_some (t ∷ p) t.0 normal refl) less)
]

pub leading_coefficient-at : (p : List (List ℕ × ℕ)) (e : List ℕ) → IsNormal p → leading p ≡ Some e → leading_coefficient p ≡ coefficient e p
leading_coefficient-at [] e normal is = let no : None ≡ Some e = is in cc
leading_coefficient-at (t ∷ p) e normal is =
    let first : t.0 ≡ e = cc in
    sym (first-coefficient t p normal.1) ∙ ap (λ f. coefficient f (t ∷ p)) first

-- ---- a pair within the bounds as a list

module _ (m : ℕ) (b : Bounds) (variables : ℕ) (es fs xs : List (List ℕ)) (vs : List ℕ)
    (e_lists : ListsMonomials b.num variables es) (f_lists : ListsMonomials b.den variables fs)
    (e_past : (k : ℕ) → variables ≤ k → slice_index b.num.each k ≡ 0) (f_past : (k : ℕ) → variables ≤ k → slice_index b.den.each k ≡ 0) (large : 1 < m) where
  module _ (g : Pair) (within : AreWithin b g) (agrees : Agrees m xs vs g) where
    num_listed : Supported (λ f. Contains es f) g.num
    num_listed = listed_within b.num variables es g.num e_lists e_past within.num_eight within.num

    den_listed : Supported (λ f. Contains fs f) g.den
    den_listed = listed_within b.den variables fs g.den f_lists f_past within.den_eight within.den

    num_alike : AreAlike m (num_of es (vector_of m es fs g.num g.den)) g.num
    num_alike =
        listed_alike m es (slice_index (vector_of m es fs g.num g.den)) g.num e_lists.ascending num_listed (vector-num m es fs g.num g.den)

    den_alike : AreAlike m (den_of es fs (vector_of m es fs g.num g.den)) g.den
    den_alike =
        listed_alike m fs (λ k. slice_index (vector_of m es fs g.num g.den) (length es + k)) g.den f_lists.ascending den_listed (vector-den m es fs g.num g.den)

    vector_residue : (k : ℕ) → k < length es + length fs → get_or (vector_of m es fs g.num g.den) k 0 < m
    vector_residue k low = elim (cases_lt k (length es)) [
      | inl front ↦ subst (λ (a : ℕ). a < m) (sym (vector-num m es fs g.num g.den k front)) (mod_below (coefficient (get_or es k []) g.num) m (omega arith))
      | inr back ↦
          let place : length es + (k - length es) ≡ k = omega arith in
          let there : get_or (vector_of m es fs g.num g.den) k 0 ≡ coefficient (get_or fs (k - length es) []) g.den % m =
          ap (λ i. get_or (vector_of m es fs g.num g.den) i 0) (sym place) ∙ vector-den m es fs g.num g.den (k - length es) (omega arith) in
          subst (λ (a : ℕ). a < m) (sym there) (mod_below (coefficient (get_or fs (k - length es) []) g.den) m (omega arith))
    ]

    pub vector_agrees : AgreesTo m es fs xs vs (length xs) (vector_of m es fs g.num g.den)
    vector_agrees = record {
      width = length-vector m es fs g.num g.den;
      residues = vector_residue;
      each = λ i low.
          let x = get_or xs i [] in
          let v = get_or vs i 0 in
          mul-cong m v v (value_at (den_of es fs (vector_of m es fs g.num g.den)) x) (value_at g.den x) refl
          (value-alike m (den_of es fs (vector_of m es fs g.num g.den)) g.den x den_alike) ∙
          Agrees-at m xs vs g i agrees low ∙
          sym (value-alike m (num_of es (vector_of m es fs g.num g.den)) g.num x num_alike);
    }

    -- where its list has zeros alone from some place on, the denominator has no coefficients from there on
    den_none : ((k : ℕ) → k < length fs → get_or (vector_of m es fs g.num g.den) (length es + k) 0 ≡ 0) → Vanishes m g.den
    den_none zeros e = elim (find e fs) [
      | inl there ↦ ap (λ f. coefficient f g.den % m) (sym there.2) ∙ sym (vector-den m es fs g.num g.den there.0 there.1) ∙ zeros there.0 there.1
      | inr none ↦ ap (λ c. c % m) (coefficient-unlisted e fs g.den den_listed none) ∙ zero-mod m
    ]

    pub ends_or_vanishes : ((k : ℕ) × EndsAt (vector_of m es fs g.num g.den) (length es + length fs) k) ⊎ Vanishes m g.den
    ends_or_vanishes = elim (ends_or_zero (vector_of m es fs g.num g.den) 0 (length es + length fs)) [
      | inl zeros ↦ inr (den_none (λ k low. zeros (length es + k) (omega arith) (omega arith)))
      | inr found ↦ inl (found.0, found.2)
    ]

  -- ---- the least list is the least pair

  module _ (zs : List ℕ) (f : Pair) (samples : length vs ≡ length xs) (least : IsLeastVector m es fs xs vs zs)
      (num_poly : IsPolynomial f.num) (den_poly : IsPolynomial f.den) (num_low : AreResidues m f.num) (den_low : AreResidues m f.den)
      (num_is : (e : List ℕ) → coefficient e f.num ≡ coefficient e (num_of es zs) % m)
      (den_is : (e : List ℕ) → coefficient e f.den ≡ coefficient e (den_of es fs zs) % m) where
    lead_low : least.place - length es < length fs
    lead_low = omega (arith, least.ends.within, least.in_den)

    lead_place : length es + (least.place - length es) ≡ least.place
    lead_place = omega (arith, least.in_den)

    den_at : (k : ℕ) → k < length fs → coefficient (get_or fs k []) f.den ≡ get_or zs (length es + k) 0 % m
    den_at k low =
        den_is (get_or fs k []) ∙ ap (λ c. c % m) (coefficient-at fs (λ i. slice_index zs (length es + i)) k f_lists.ascending low)

    lead_one : coefficient (get_or fs (least.place - length es) []) f.den ≡ 1
    lead_one =
        den_at (least.place - length es) lead_low ∙ ap (λ i. get_or zs i 0 % m) lead_place ∙ ap (λ a. a % m) least.one ∙ mod-eq_of_lt large

    lead_greatest : (e : List ℕ) → coefficient e f.den ≢ 0 → mono_cmp (get_or fs (least.place - length es) []) e ≢ Less
    lead_greatest e some less = elim (find e fs) [
      | inl there ↦
          let later : least.place - length es < there.0 =
          place_order fs (least.place - length es) there.0 f_lists.ascending lead_low there.1 (ap (mono_cmp (get_or fs (least.place - length es) [])) there.2 ∙ less) in
          let gone : get_or zs (length es + there.0) 0 ≡ 0 = least.ends.later (length es + there.0) (omega (arith, later, lead_place)) (omega (arith, there.1)) in
          some (ap (λ g. coefficient g f.den) (sym there.2) ∙ den_at there.0 there.1 ∙ ap (λ a. a % m) gone ∙ zero-mod m)
      | inr none ↦
          some (den_is e ∙ ap (λ c. c % m) (coefficient-none e fs (λ k. slice_index zs (length es + k)) none) ∙ zero-mod m)
    ]

    lead_is : leading f.den ≡ Some (get_or fs (least.place - length es) [])
    lead_is = leads f.den (get_or fs (least.place - length es) []) den_poly.0 (λ none. omega (arith, lead_one)) lead_greatest

    den_some : f.den ≢ []
    den_some none = let gone : coefficient (get_or fs (least.place - length es) []) f.den ≡ 0 = ap (coefficient (get_or fs (least.place - length es) [])) none in omega (arith, lead_one)

    agrees_there : (i : ℕ) → i < length xs → (get_or vs i 0 * value_at f.den (get_or xs i [])) % m ≡ value_at f.num (get_or xs i []) % m
    agrees_there i low =
        let x = get_or xs i [] in
        let v = get_or vs i 0 in
        mul-cong m v v (value_at f.den x) (value_at (den_of es fs zs) x) refl
        (value-alike m f.den (den_of es fs zs) x (λ e. ap (λ c. c % m) (den_is e) ∙ mod-mod (coefficient e (den_of es fs zs)) m)) ∙
        least.agrees.each i low ∙
        sym (value-alike m f.num (num_of es zs) x (λ e. ap (λ c. c % m) (num_is e) ∙ mod-mod (coefficient e (num_of es zs)) m))

    no_lesser : (g : Pair) → AreWithin b g → Agrees m xs vs g → VanishesFrom m (get_or fs (least.place - length es) []) g.den → Vanishes m g.den
    no_lesser g within agrees from = elim (ends_or_vanishes g within agrees) [
      | inr vanishes ↦ vanishes
      | inl found ↦
          let k = found.0 - length es in
          let late : least.place ≤ found.0 = least.least (vector_of m es fs g.num g.den) found.0 (vector_agrees g within agrees) found.1 in
          let place : length es + (found.0 - length es) ≡ found.0 = omega (arith, late, least.in_den) in
          let low : found.0 - length es < length fs = omega (arith, found.1.within, late, least.in_den) in
          let not_less : mono_cmp (get_or fs (found.0 - length es) []) (get_or fs (least.place - length es) []) ≢ Less =
          λ less. omega (arith, place_order fs (found.0 - length es) (least.place - length es) f_lists.ascending low lead_low less, late) in
          let gone : get_or (vector_of m es fs g.num g.den) found.0 0 ≡ 0 =
          ap (λ i. get_or (vector_of m es fs g.num g.den) i 0) (sym place) ∙ vector-den m es fs g.num g.den (found.0 - length es) low ∙ from (get_or fs (found.0 - length es) []) not_less in
          absurd (found.1.some gone)
    ]

    pub least_pair : IsLeastPair m b xs vs f
    least_pair = record {
      agreeing = record {
        pair = record { num = num_poly; den = den_poly; num_residues = num_low; den_residues = den_low };
        within = record {
          some = den_some;
          num = Supported-coefficients (WithinBound b.num) m f.num (num_of es zs) num_poly.0 num_is
              (Supported-numbers (WithinBound b.num) es (slice_index zs) (λ k low. (within_at b.num variables es k e_lists low).within));
          den = Supported-coefficients (WithinBound b.den) m f.den (den_of es fs zs) den_poly.0 den_is
              (Supported-numbers (WithinBound b.den) fs (λ k. slice_index zs (length es + k)) (λ k low. (within_at b.den variables fs k f_lists low).within));
        };
        agrees = Agrees-from m xs vs f samples agrees_there;
      };
      monic = leading_coefficient-at f.den (get_or fs (least.place - length es) []) den_poly.0 lead_is ∙ lead_one;
      least = λ lead is g within agrees from.
          let same : get_or fs (least.place - length es) [] ≡ lead = cc lead_is in
          no_lesser g within agrees (subst (λ (e : List ℕ). VanishesFrom m e g.den) (sym same) from);
    }

  -- ---- no pair

  -- a pair that agrees has a list that isn't zeros
  pub no_pair : NoneAgrees m es fs xs vs → (f : Pair) → IsAgreeing m b xs vs f → ⊥
  no_pair none f is =
      let within : AreWithin b f = record { num_eight = is.pair.num.1; den_eight = is.pair.den.1; num = is.within.num; den = is.within.den } in
      elim (ends_or_vanishes f within is.agrees) [
        | inl found ↦ none (vector_of m es fs f.num f.den) found.0 (vector_agrees f within is.agrees) found.1
        | inr vanishes ↦ is.within.some (vanished f.den is.pair.den.0 is.pair.den_residues vanishes)
      ]
    where
      vanished : (p : List (List ℕ × ℕ)) → IsNormal p → AreResidues m p → Vanishes m p → p ≡ []
      vanished [] normal low none = refl
      vanished (t ∷ p) normal low none =
          absurd (normal.0 (sym (first-coefficient t p normal.1) ∙
          sym (mod-eq_of_lt (coefficient-residue m t.0 (t ∷ p) (omega arith) normal low)) ∙ none t.0))

  -- on a list that is forcing for a covering grid a numerator that vanishes is zero
  pub forced : (grid : Bound) → Covers grid b → IsForcing m grid xs → length vs ≡ length xs → IsForced m es fs xs vs
  forced grid covers forcing samples ys j agrees ends = elim (cases_lt j (length es)) [
    | inr late ↦ late
    | inl early ↦
        let num = num_of es ys in
        let eight : Supported HasEight num = Supported-numbers HasEight es (slice_index ys) (λ k low. (within_at b.num variables es k e_lists low).eight) in
        let within : IsWithin grid num = Supported-numbers (WithinBound grid) es (slice_index ys) (λ k low.
        let here = within_at b.num variables es k e_lists low in
        let places = IsBelow-places (get_or es k []) b.num.each here.within.1 in (
          omega (arith, here.within.0, covers.total),
          IsBelow-from_places (get_or es k []) grid.each (here.eight ∙ sym covers.places) (λ i i_low. omega (arith, places.1 i, covers.each i)),
        )) in
        let vanish : All (λ x. value_at num x % m ≡ 0) xs = λ i d low.
        subst (λ (x : List ℕ). value_at num x % m ≡ 0) (get_or_default xs i [] d low)
        (sym (agrees.each i low) ∙
        ap (λ t. (get_or vs i 0 * t) % m) (value-zeros fs (λ k. get_or ys (length es + k) 0) (get_or xs i []) (den_zero early)) ∙
        ap (λ t. t % m) (times_none (get_or vs i 0)) ∙ zero-mod m) in
        let none : get_or ys j 0 % m ≡ 0 =
        ap (λ c. c % m) (sym (coefficient-at es (slice_index ys) j e_lists.ascending early)) ∙ forcing num eight within vanish (get_or es j []) in
        absurd (ends.some (sym (mod-eq_of_lt (agrees.residues j ends.within)) ∙ none))
  ]
    where
      times_none : (v : ℕ) → v * 0 ≡ 0
      times_none v = omega arith

      den_zero : j < length es → (k : ℕ) → get_or ys (length es + k) 0 ≡ 0
      den_zero early k = elim (cases_lt (length es + k) (length es + length fs)) [
        | inl within ↦ ends.later (length es + k) (omega arith) within
        | inr past ↦ get_or_past ys (length es + k) 0 (omega (arith, agrees.width))
      ]
