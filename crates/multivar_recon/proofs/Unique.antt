-- Least pairs are unique, and agreeing pairs are cross equal.
use Rattle.std.proofs.Common.{◌≡◌, ◌≢◌, ℕ, suc, ◌+◌, ◌-◌, ◌*◌, ◌%◌, ◌<◌, Bool, true, false, if◌then◌else◌, Some, List, [], ◌∷◌, ◌++◌, length, get_or, inl, inr, refl, sym, ◌∙◌, ap, subst, arith}
use Rattle.std.proofs.Math.Nat.{mod-eq_of_lt, zero-mod}
use Rattle.std.proofs.lemmas.Bool.{cases_eq}
use Rattle.std.proofs.lemmas.List.{get_or_default}
use Rattle.std.specs.declared.cmp.Ordering.{Ordering}
use Rattle.std.specs.declared.cmp.Ordering.TheVariants.{Less, Equal, Greater}
use Rattle.prime_field.proofs.Residues.{add-cong, mul-cong}
use Rattle.poly_maps.specs.declared.bound.Bound.{Bound}
use Rattle.poly_maps.specs.declared.bound.Bounds.{Bounds}
use Rattle.poly_maps.specs.declared.pair.Pair.{Pair}
use Rattle.poly_maps.specs.Bound.{IsWithin, WithinBound}
use Rattle.poly_maps.specs.Forcing.{IsForcing}
use Rattle.poly_maps.specs.Mono.{mono_cmp, is_same, mono_product, HasEight}
use Rattle.poly_maps.specs.Pair.{Agrees, CrossEqual}
use Rattle.poly_maps.specs.Polynomial.{coefficient, value_at, leading, times, term_times, product_of, IsNormal, AreResidues, IsPolynomial, Supported}
use Rattle.poly_maps.proofs.MonoLemmas.{mono_total, mono_tied, mono_flip, is_same-true, is_same-itself, length-mono_product, degree-mono_product, get_or-mono_product}
use Rattle.poly_maps.proofs.Moves.{coefficient-times, value_at-times, Supported-times}
use Rattle.poly_maps.proofs.Pinned.{same_map, leading_some, leading_greatest, value-product_of}
use Rattle.poly_maps.proofs.Terms.{coefficient-append, value_at-append, coefficient-residue, Supported-append}
use Rattle.poly_maps.proofs.Within.{IsBelow-places, IsBelow-from_places}
use Rattle.ray_grid.specs.Covering.{Covers}
use Rattle.multivar_recon.specs.Least.{Vanishes, VanishesFrom, leading_coefficient, IsAgreeing, AreWithin, IsLeastPair}
use Rattle.multivar_recon.proofs.Sums.{moved_over, moved_back}
use Rattle.multivar_recon.proofs.PairVectors.{Agrees-at, Agrees-from, leading_coefficient-at}

-- ---- a - b, as a + (m - 1)*b

same_residue : (m a b : ℕ) → 1 < m → (a + (m - 1) * b) % m ≡ 0 → a % m ≡ b % m
same_residue m a b large none =
    let one : 1 * b ≡ b = omega arith in
    sym (sym (ap (λ t. t % m) one) ∙ moved_over m 1 (m - 1) a b (omega arith) none)

no_difference : (m a b : ℕ) → 1 < m → a % m ≡ b % m → (a + (m - 1) * b) % m ≡ 0
no_difference m a b large same =
    let one : 1 * b ≡ b = omega arith in
    moved_back m 1 (m - 1) a b (omega arith) (ap (λ t. t % m) one ∙ sym same)

less_by : ℕ → List (List ℕ × ℕ) → List (List ℕ × ℕ) → List (List ℕ × ℕ)
less_by m p q = p ++ times (m - 1) q

module _ (m : ℕ) (p q : List (List ℕ × ℕ)) where
  coefficient-less_by : (e : List ℕ) → coefficient e (less_by m p q) ≡ coefficient e p + (m - 1) * coefficient e q
  unfolding less_by
  coefficient-less_by e = coefficient-append e p (times (m - 1) q) ∙ ap (λ c. coefficient e p + c) (coefficient-times e (m - 1) q)

  value-less_by : (x : List ℕ) → value_at (less_by m p q) x ≡ value_at p x + (m - 1) * value_at q x
  unfolding less_by
  value-less_by x = value_at-append p (times (m - 1) q) x ∙ ap (λ v. value_at p x + v) (value_at-times (m - 1) q x)

  Supported-less_by : (L : List ℕ → Type 0) → Supported L p → Supported L q → Supported L (less_by m p q)
  unfolding less_by
  Supported-less_by L p_in q_in = Supported-append L p (times (m - 1) q) p_in (Supported-times L (m - 1) q q_in)

  -- where the difference vanishes on a forcing list, the coefficients are congruent
  pub forced_same : (b : Bound) (xs : List (List ℕ)) → 1 < m → IsForcing m b xs → Supported HasEight p → IsWithin b p → Supported HasEight q → IsWithin b q →
      ((i : ℕ) → i < length xs → value_at p (get_or xs i []) % m ≡ value_at q (get_or xs i []) % m) → (e : List ℕ) → coefficient e p % m ≡ coefficient e q % m
  forced_same b xs large forcing p_eight p_within q_eight q_within same e =
      same_residue m (coefficient e p) (coefficient e q) large
      (ap (λ c. c % m) (sym (coefficient-less_by e)) ∙
      forcing (less_by m p q) (Supported-less_by HasEight p_eight q_eight) (Supported-less_by (WithinBound b) p_within q_within)
      (λ i d low. subst (λ (x : List ℕ). value_at (less_by m p q) x % m ≡ 0) (get_or_default xs i [] d low)
      (ap (λ v. v % m) (value-less_by (get_or xs i [])) ∙ no_difference m (value_at p (get_or xs i [])) (value_at q (get_or xs i [])) large (same i low))) e)

-- polynomials of residues with congruent coefficients are the same
same_polynomial : (m : ℕ) (p q : List (List ℕ × ℕ)) → 1 < m → IsPolynomial p → AreResidues m p → IsPolynomial q → AreResidues m q →
    ((e : List ℕ) → coefficient e p % m ≡ coefficient e q % m) → p ≡ q
same_polynomial m p q large p_poly p_low q_poly q_low same =
    same_map p q p_poly.0 q_poly.0 (λ e.
    sym (mod-eq_of_lt (coefficient-residue m e p (omega arith) p_poly.0 p_low)) ∙ same e ∙
    mod-eq_of_lt (coefficient-residue m e q (omega arith) q_poly.0 q_low))

pub leading_there : (p : List (List ℕ × ℕ)) → p ≢ [] → (e : List ℕ) × (leading p ≡ Some e)
leading_there [] some = absurd (some refl)
leading_there (t ∷ p) some = (t.0, refl)

pub agreeing_within : (m : ℕ) (b : Bounds) (xs : List (List ℕ)) (vs : List ℕ) (f : Pair) → IsAgreeing m b xs vs f → AreWithin b f
agreeing_within m b xs vs f is = record { num_eight = is.pair.num.1; den_eight = is.pair.den.1; num = is.within.num; den = is.within.den }

pub Agrees-length : (m : ℕ) (xs : List (List ℕ)) (vs : List ℕ) (f : Pair) → Agrees m xs vs f → length vs ≡ length xs
Agrees-length m [] [] f agrees = refl
Agrees-length m [] (v ∷ vs) f agrees = absurd agrees
Agrees-length m (x ∷ xs) [] f agrees = absurd agrees
Agrees-length m (x ∷ xs) (v ∷ vs) f agrees = ap suc (Agrees-length m xs vs f agrees.1)

module _ (m : ℕ) (b : Bounds) (xs : List (List ℕ)) (vs : List ℕ) (large : 1 < m) where
  -- no agreeing pair leads with less than a least one
  pub least_leads : (f g : Pair) (lead other : List ℕ) → IsLeastPair m b xs vs f → IsAgreeing m b xs vs g → leading f.den ≡ Some lead → leading g.den ≡ Some other → mono_cmp other lead ≢ Less
  least_leads f g lead other least is f_leads g_leads less =
      let normal = is.pair.den.0 in
      let from : VanishesFrom m lead g.den = λ e not_less. elim (cases_eq (coefficient e g.den) 0) [
        | inl none ↦ ap (λ c. c % m) none ∙ zero-mod m
        | inr some ↦ elim (leading_greatest g.den other e normal g_leads some) [
          | inl same ↦ absurd (not_less (ap (λ h. mono_cmp h lead) same ∙ less))
          | inr below ↦ absurd (not_less (mono_total.trans e other lead below less))
        ]
      ] in
      let vanishes = least.least lead f_leads g (agreeing_within m b xs vs g is) is.agrees from in
      leading_some g.den other normal g_leads
      (sym (mod-eq_of_lt (coefficient-residue m other g.den (omega arith) normal is.pair.den_residues)) ∙ vanishes other)

  -- ---- one least pair

  -- at the leading monomial and above, a monic polynomial has coefficients 1 and 0
  monic_from : (p : List (List ℕ × ℕ)) (lead e : List ℕ) → IsNormal p → leading p ≡ Some lead → leading_coefficient p ≡ 1 → mono_cmp e lead ≢ Less → coefficient e p ≡ (if is_same lead e then 1 else 0)
  monic_from p lead e normal leads monic not_less = by (is_same lead e) refl
    where
      by : (s : Bool) → is_same lead e ≡ s → coefficient e p ≡ (if s then 1 else 0)
      by true same = ap (λ h. coefficient h p) (sym (is_same-true lead e same)) ∙ sym (leading_coefficient-at p lead normal leads) ∙ monic
      by false other = elim (cases_eq (coefficient e p) 0) [
        | inl none ↦ none
        | inr some ↦ elim (leading_greatest p lead e normal leads some) [
          | inl same ↦
              let itself : is_same lead e ≡ true = ap (is_same lead) same ∙ is_same-itself lead in
              cc
          | inr less ↦ absurd (not_less less)
        ]
      ]

  module _ (f g : Pair) (forcing : IsForcing m b.num xs) (f_least : IsLeastPair m b xs vs f) (g_least : IsLeastPair m b xs vs g) where
    f_is : IsAgreeing m b xs vs f
    f_is = f_least.agreeing

    g_is : IsAgreeing m b xs vs g
    g_is = g_least.agreeing

    difference : Pair
    difference = record { num = less_by m f.num g.num; den = less_by m f.den g.den }

    difference_within : AreWithin b (record { num = less_by m f.num g.num; den = less_by m f.den g.den })
    difference_within = record {
      num_eight = Supported-less_by m f.num g.num HasEight f_least.agreeing.pair.num.1 g_least.agreeing.pair.num.1;
      den_eight = Supported-less_by m f.den g.den HasEight f_least.agreeing.pair.den.1 g_least.agreeing.pair.den.1;
      num = Supported-less_by m f.num g.num (WithinBound b.num) f_least.agreeing.within.num g_least.agreeing.within.num;
      den = Supported-less_by m f.den g.den (WithinBound b.den) f_least.agreeing.within.den g_least.agreeing.within.den;
    }

    difference_at : (i : ℕ) → i < length xs →
        (get_or vs i 0 * value_at (less_by m f.den g.den) (get_or xs i [])) % m ≡ value_at (less_by m f.num g.num) (get_or xs i []) % m
    difference_at i low =
        let x = get_or xs i [] in
        let v = get_or vs i 0 in
        let spread : v * (value_at f.den x + (m - 1) * value_at g.den x) ≡ v * value_at f.den x + (m - 1) * (v * value_at g.den x) = omega arith in
        ap (λ d. (v * d) % m) (value-less_by m f.den g.den x) ∙
        ap (λ t. t % m) spread ∙
        add-cong m (v * value_at f.den x) (value_at f.num x) ((m - 1) * (v * value_at g.den x)) ((m - 1) * value_at g.num x)
        (Agrees-at m xs vs f i f_least.agreeing.agrees low)
        (mul-cong m (m - 1) (m - 1) (v * value_at g.den x) (value_at g.num x) refl (Agrees-at m xs vs g i g_least.agreeing.agrees low)) ∙
        ap (λ t. t % m) (sym (value-less_by m f.num g.num x))

    difference_agrees : Agrees m xs vs (record { num = less_by m f.num g.num; den = less_by m f.den g.den })
    difference_agrees =
        Agrees-from m xs vs (record { num = less_by m f.num g.num; den = less_by m f.den g.den })
        (Agrees-length m xs vs f f_least.agreeing.agrees) difference_at

    same_lead : (lead other : List ℕ) → leading f.den ≡ Some lead → leading g.den ≡ Some other → other ≡ lead
    same_lead lead other f_leads g_leads = by (mono_cmp other lead) refl
      where
        by : (o : Ordering) → mono_cmp other lead ≡ o → other ≡ lead
        by Less less = absurd (least_leads f g lead other f_least g_least.agreeing f_leads g_leads less)
        by Equal tied = mono_tied other lead tied
        by Greater above = absurd (least_leads g f other lead g_least f_least.agreeing g_leads f_leads (mono_flip other lead above))

    den_vanishes : Vanishes m (less_by m f.den g.den)
    den_vanishes =
        let f_lead = leading_there f.den f_least.agreeing.within.some in
        let g_lead = leading_there g.den g_least.agreeing.within.some in
        let g_leads : leading g.den ≡ Some f_lead.0 = g_lead.1 ∙ ap Some (same_lead f_lead.0 g_lead.0 f_lead.1 g_lead.1) in
        f_least.least f_lead.0 f_lead.1 (record { num = less_by m f.num g.num; den = less_by m f.den g.den }) difference_within difference_agrees
        (λ e not_less. ap (λ c. c % m) (coefficient-less_by m f.den g.den e) ∙
        no_difference m (coefficient e f.den) (coefficient e g.den) large
        (ap (λ c. c % m) (monic_from f.den f_lead.0 e f_least.agreeing.pair.den.0 f_lead.1 f_least.monic not_less ∙
        sym (monic_from g.den f_lead.0 e g_least.agreeing.pair.den.0 g_leads g_least.monic not_less))))

    same_den : f.den ≡ g.den
    same_den =
        same_polynomial m f.den g.den large f_least.agreeing.pair.den f_least.agreeing.pair.den_residues g_least.agreeing.pair.den g_least.agreeing.pair.den_residues
        (λ e. same_residue m (coefficient e f.den) (coefficient e g.den) large
        (ap (λ c. c % m) (sym (coefficient-less_by m f.den g.den e)) ∙ den_vanishes e))

    same_num : f.num ≡ g.num
    same_num =
        same_polynomial m f.num g.num large f_least.agreeing.pair.num f_least.agreeing.pair.num_residues g_least.agreeing.pair.num g_least.agreeing.pair.num_residues
        (forced_same m f.num g.num b.num xs large forcing f_least.agreeing.pair.num.1 f_least.agreeing.within.num g_least.agreeing.pair.num.1 g_least.agreeing.within.num
        (λ i low. sym (Agrees-at m xs vs f i f_least.agreeing.agrees low) ∙
        ap (λ d. (get_or vs i 0 * value_at d (get_or xs i [])) % m) same_den ∙
        Agrees-at m xs vs g i g_least.agreeing.agrees low))

    pub one_least : f ≡ g
    one_least =
        let num = same_num in
        let den = same_den in
        λ i. record { num = num i; den = den i }

  -- ---- cross equality

  both : (K L : List ℕ → Type 0) (p : List (List ℕ × ℕ)) → Supported K p → Supported L p → Supported (λ e. K e × L e) p
  both K L [] k l = tt
  both K L (t ∷ p) k l = ((k.0, l.0), both K L p k.1 l.1)

  Supported-term_times : (K L M : List ℕ → Type 0) → ((e f : List ℕ) → K e → L f → M (mono_product e f)) → (t : List ℕ × ℕ) (q : List (List ℕ × ℕ)) → K t.0 → Supported L q → Supported M (term_times t q)
  Supported-term_times K L M follows t [] here all = tt
  Supported-term_times K L M follows t (u ∷ q) here all = (follows t.0 u.0 here all.0, Supported-term_times K L M follows t q here all.1)

  Supported-product : (K L M : List ℕ → Type 0) → ((e f : List ℕ) → K e → L f → M (mono_product e f)) → (p q : List (List ℕ × ℕ)) → Supported K p → Supported L q → Supported M (product_of p q)
  Supported-product K L M follows [] q p_in q_in = tt
  Supported-product K L M follows (t ∷ p) q p_in q_in =
      Supported-append M (term_times t q) (product_of p q) (Supported-term_times K L M follows t q p_in.0 q_in) (Supported-product K L M follows p q p_in.1 q_in)

  product_eight : (p q : List (List ℕ × ℕ)) → Supported HasEight p → Supported HasEight q → Supported HasEight (product_of p q)
  product_eight = Supported-product HasEight HasEight HasEight (λ e f e_eight f_eight. length-mono_product e f (e_eight ∙ sym f_eight) ∙ e_eight)

  product_within : (grid : Bound) → Covers grid b → (p q : List (List ℕ × ℕ)) → Supported HasEight p → IsWithin b.num p → Supported HasEight q → IsWithin b.den q → IsWithin grid (product_of p q)
  product_within grid covers p q p_eight p_within q_eight q_within =
      Supported-product (λ e. HasEight e × WithinBound b.num e) (λ e. HasEight e × WithinBound b.den e) (WithinBound grid)
      (λ e f e_in f_in.
      let e_places = IsBelow-places e b.num.each e_in.1.1 in
      let f_places = IsBelow-places f b.den.each f_in.1.1 in (
        omega (arith, degree-mono_product e f, e_in.1.0, f_in.1.0, covers.total),
        IsBelow-from_places (mono_product e f) grid.each (length-mono_product e f (e_in.0 ∙ sym f_in.0) ∙ e_in.0 ∙ sym covers.places)
            (λ k low. omega (arith, get_or-mono_product e f k, e_places.1 k, f_places.1 k, covers.each k)),
      ))
      p q (both HasEight (WithinBound b.num) p p_eight p_within) (both HasEight (WithinBound b.den) q q_eight q_within)

  cross_values : (f g : Pair) (i : ℕ) → Agrees m xs vs f → Agrees m xs vs g → i < length xs →
      value_at (product_of f.num g.den) (get_or xs i []) % m ≡ value_at (product_of g.num f.den) (get_or xs i []) % m
  cross_values f g i f_agrees g_agrees low =
      let x = get_or xs i [] in
      let v = get_or vs i 0 in
      let turned : (v * value_at f.den x) * value_at g.den x ≡ (v * value_at g.den x) * value_at f.den x = omega arith in
      ap (λ t. t % m) (value-product_of f.num g.den x) ∙
      mul-cong m (value_at f.num x) (v * value_at f.den x) (value_at g.den x) (value_at g.den x) (sym (Agrees-at m xs vs f i f_agrees low)) refl ∙
      ap (λ t. t % m) turned ∙
      mul-cong m (v * value_at g.den x) (value_at g.num x) (value_at f.den x) (value_at f.den x) (Agrees-at m xs vs g i g_agrees low) refl ∙
      ap (λ t. t % m) (sym (value-product_of g.num f.den x))

  pub agreeing_cross : (grid : Bound) (f g : Pair) → Covers grid b → IsForcing m grid xs → AreWithin b f → AreWithin b g → Agrees m xs vs f → Agrees m xs vs g → CrossEqual m f g
  agreeing_cross grid f g covers forcing f_within g_within f_agrees g_agrees =
      forced_same m (product_of f.num g.den) (product_of g.num f.den) grid xs large forcing
      (product_eight f.num g.den f_within.num_eight g_within.den_eight)
      (product_within grid covers f.num g.den f_within.num_eight f_within.num g_within.den_eight g_within.den)
      (product_eight g.num f.den g_within.num_eight f_within.den_eight)
      (product_within grid covers g.num f.den g_within.num_eight g_within.num f_within.den_eight f_within.den)
      (λ i low. cross_values f g i f_agrees g_agrees low)
