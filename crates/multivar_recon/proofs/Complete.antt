-- Where rays are regular, all tests are passed.
use Rattle.std.proofs.Common.{◌≡◌, ◌≢◌, ℕ, suc, ◌+◌, ◌*◌, ◌%◌, ◌<◌, ◌≤◌, inl, inr, List, [], ◌∷◌, length, get_or, refl, sym, ◌∙◌, ap, subst, arith, one-mul}
use Rattle.std.proofs.Math.Nat.{mod-mod, zero-mod, mod-eq_of_lt}
use Rattle.std.proofs.lemmas.Bool.{cases_lt}
use Rattle.prime_field.specs.Residue.{IsUnit}
use Rattle.prime_field.proofs.Residues.{mul-cong}
use Rattle.prime_field.proofs.Units.{unit-cong, unit-mul, cancel_unit}
use Rattle.poly_maps.specs.declared.bound.Bound.{Bound}
use Rattle.poly_maps.specs.declared.bound.Bounds.{Bounds}
use Rattle.poly_maps.specs.declared.pair.Pair.{Pair}
use Rattle.poly_maps.specs.Bound.{WithinBound, IsWithin}
use Rattle.poly_maps.specs.Mono.{degree, HasEight}
use Rattle.poly_maps.specs.Moved.{graded, moved, point_sum}
use Rattle.poly_maps.specs.Polynomial.{coefficient, value_at, total_degree, times, IsPolynomial, AreResidues, Supported}
use Rattle.poly_maps.specs.Shifted.{negatives}
use Rattle.poly_maps.proofs.Linear.{AreAlike}
use Rattle.poly_maps.proofs.Moves.{coefficient-times, value_at-times, Supported-times, Supported-sub, Supported-moved, HasPlaces-lower, WithinBound-lower, Supported-coefficients, value-moved, moved-alike, moved_back}
use Rattle.poly_maps.proofs.Parts.{same_values}
use Rattle.poly_maps.proofs.ProductDegrees.{total_degree-moved}
use Rattle.poly_maps.proofs.Terms.{coefficient-residue}
use Rattle.ray_grid.proofs.Vanishing.{coefficient-outside}
use Rattle.multivar_recon.specs.Assembly.{headless, assembled, BeginWithOne, ArePinned, AreAssembled, AreInterpolated, AreScaled, HaveDegrees, PassTests}
use Rattle.multivar_recon.specs.Rays.{IsRegular}
use Rattle.multivar_recon.proofs.Along.{graded-high, along_begin}
use Rattle.multivar_recon.proofs.Assembling.{Supported-both, total_degree-each, part_of, value-headless_terms, Supported-part_of, parts-whole, assembled-eight, assembled-alike, coefficient-assembled_times}
use Rattle.multivar_recon.proofs.InOne.{constant_multiple}

-- ---- degrees

total_degree-most : (d : ℕ) (p : List (List ℕ × ℕ)) → Supported (λ e. degree e ≤ d) p → total_degree p ≤ d
total_degree-most d [] all = omega arith
total_degree-most d (t ∷ p) all = omega (arith, all.0, total_degree-most d p all.1)

-- ---- polynomials of residues of which one is modulo m a multiple of the other by a unit

module _ (m u : ℕ) (p q : List (List ℕ × ℕ)) (unit : IsUnit m u) (p_poly : IsPolynomial p) (p_low : AreResidues m p) (q_poly : IsPolynomial q) (q_low : AreResidues m q)
    (is : (e : List ℕ) → (u * coefficient e p) % m ≡ coefficient e q % m) where
  multiple_back : (e : List ℕ) → (unit.0 * coefficient e q) % m ≡ coefficient e p % m
  multiple_back e =
      let w = unit.0 in
      let c = coefficient e p in
      let turned : w * (u * c) ≡ (u * w) * c = omega arith in
      mul-cong m w w (coefficient e q) (u * c) refl (sym (is e)) ∙
      ap (λ t. t % m) turned ∙
      mul-cong m (u * w) 1 c c (unit.2 ∙ sym (mod-eq_of_lt (omega (arith, unit.1, above)))) refl ∙
      ap (λ t. t % m) (one-mul c)
    where
      above : 1 < m
      above = elim (cases_lt 1 m) [
        | inl more ↦ more
        | inr less ↦
            let one : m ≡ 1 = omega (arith, unit.1) in
            let none : (u * unit.0) % 1 ≡ 1 = ap (λ n. (u * unit.0) % n) (sym one) ∙ unit.2 in
            absurd (omega (arith, none))
      ]

  pub multiple-to : (L : List ℕ → Type 0) → Supported L q → Supported L p
  multiple-to L all =
      let w = unit.0 in
      Supported-coefficients L m p (times w q) p_poly.0
      (λ e. sym (ap (λ c. c % m) (coefficient-times e w q) ∙ multiple_back e ∙ mod-eq_of_lt (coefficient-residue m e p (omega (arith, unit.1)) p_poly.0 p_low)))
      (Supported-times L w q all)

  pub multiple-from : (L : List ℕ → Type 0) → Supported L p → Supported L q
  multiple-from L all =
      Supported-coefficients L m q (times u p) q_poly.0
      (λ e. sym (ap (λ c. c % m) (coefficient-times e u p) ∙ is e ∙ mod-eq_of_lt (coefficient-residue m e q (omega (arith, unit.1)) q_poly.0 q_low)))
      (Supported-times L u p all)

  pub multiple-some : q ≢ [] → p ≢ []
  multiple-some some none = some (empty q (multiple-from (λ e. ⊥) (subst (λ (r : List (List ℕ × ℕ)). Supported (λ e. ⊥) r) (sym none) tt)))
    where
      empty : (r : List (List ℕ × ℕ)) → Supported (λ e. ⊥) r → r ≡ []
      empty [] all = refl
      empty (t ∷ r) all = absurd all.0

  pub multiple-degree : total_degree p ≡ total_degree q
  multiple-degree =
      omega (
        arith,
        total_degree-most (total_degree q) p (multiple-to (λ e. degree e ≤ total_degree q) (total_degree-each (total_degree q) q (omega arith))),
        total_degree-most (total_degree p) q (multiple-from (λ e. degree e ≤ total_degree p) (total_degree-each (total_degree p) p (omega arith))),
      )

-- ---- one part of the pair: q is the regular one's, and on each ray it has u times the coefficients in the lists

module _ (m u : ℕ) (bound : Bound) (L : List ℕ → Type 0) (s : List ℕ) (gs : List (List ℕ)) (lists : ℕ → List ℕ) (parts : ℕ → List (List ℕ × ℕ)) (q : List (List ℕ × ℕ))
    (eight : (e : List ℕ) → L e → HasEight e) (start_low : (k : ℕ) → get_or s k 0 ≤ m) (begin : BeginWithOne gs) (pinned : ArePinned m L gs)
    (inside : (e : List ℕ) → HasEight e → WithinBound bound e → L (headless e)) (interpolated : AreInterpolated m L gs bound.total lists parts)
    (q_eight : Supported HasEight q) (q_within : IsWithin bound q)
    (scaled : (d k : ℕ) → d < length gs → value_at (graded k (moved s q)) (get_or gs d []) % m ≡ (u * get_or (lists d) k 0) % m) where
  moved_eight : Supported HasEight (moved s q)
  moved_eight = Supported-moved HasEight s q (HasPlaces-lower 8) q_eight

  moved_within : IsWithin bound (moved s q)
  moved_within = Supported-moved (WithinBound bound) s q (WithinBound-lower bound) q_within

  part_inside : (k : ℕ) → Supported L (part_of (moved s q) k)
  part_inside k =
      Supported-part_of (λ e. HasEight e × WithinBound bound e) L k (moved s q) (λ e here same. inside e here.0 here.1)
      (Supported-both HasEight (WithinBound bound) (moved s q) moved_eight moved_within)

  part_values : (k d : ℕ) → k ≤ bound.total → d < length gs → value_at (times u (parts k)) (get_or gs d []) % m ≡ value_at (part_of (moved s q) k) (get_or gs d []) % m
  part_values k d few low =
      let g = get_or gs d [] in
      let tail = begin d low in
      ap (λ v. v % m) (value_at-times u (parts k) g) ∙
      mul-cong m u u (value_at (parts k) g) (get_or (lists d) k 0) refl (interpolated.values k d few low) ∙
      sym (scaled d k low) ∙
      ap (λ x. value_at (graded k (moved s q)) x % m) tail.1 ∙
      ap (λ v. v % m) (sym (value-headless_terms (graded k (moved s q)) tail.0)) ∙
      ap (λ x. value_at (part_of (moved s q) k) x % m) (sym tail.1)

  part_is : (k : ℕ) → k ≤ bound.total → AreAlike m (times u (parts k)) (part_of (moved s q) k)
  part_is k few = pinned (times u (parts k)) (part_of (moved s q) k) (Supported-times L u (parts k) (interpolated.inside k few)) (part_inside k) (λ d low. part_values k d few low)

  -- so each part has its degree
  pub parts_degrees : IsUnit m u → HaveDegrees m bound.total parts
  parts_degrees unit k few e high =
      cancel_unit m (coefficient e (parts k)) 0 u unit
      (ap (λ c. c % m) (turned (coefficient e (parts k)) ∙ sym (coefficient-times e u (parts k))) ∙
      part_is k few e ∙
      ap (λ c. c % m) (coefficient-outside (λ f. degree f ≤ k) (part_of (moved s q) k) e low_part (λ low. omega arith) ∙ omega arith)) ∙
      zero-mod m
    where
      turned : (c : ℕ) → c * u ≡ u * c
      turned c = omega arith

      low : (f : List ℕ) → degree f ≡ k → degree (headless f) ≤ k
      low [] same = omega arith
      low (j ∷ f) same = omega (arith, same)

      low_part : Supported (λ f. degree f ≤ k) (part_of (moved s q) k)
      low_part = Supported-part_of HasEight (λ f. degree f ≤ k) k (moved s q) (λ f here same. low f same) moved_eight

  parts_eight : (k : ℕ) → k < suc bound.total → Supported HasEight (parts k)
  parts_eight k low = Supported-sub L HasEight (parts k) eight (interpolated.inside k (omega arith))

  whole_is : AreAlike m (times u (assembled (suc bound.total) parts)) (moved s q)
  whole_is e =
      let n = suc bound.total in
      ap (λ c. c % m) (coefficient-times e u (assembled n parts) ∙ sym (coefficient-assembled_times n u parts e)) ∙
      assembled-alike m n (λ k. times u (parts k)) (part_of (moved s q)) (λ k low. part_is k (omega arith)) e ∙
      ap (λ c. c % m) (parts-whole n (moved s q) e (Supported-sub (WithinBound bound) (λ f. degree f < n) (moved s q) (λ f here. omega (arith, here.0)) moved_within))

  -- u times what is assembled and moved back is q
  pub back_is : (e : List ℕ) → (u * coefficient e (moved (negatives m s) (assembled (suc bound.total) parts))) % m ≡ coefficient e q % m
  back_is e =
      let whole = assembled (suc bound.total) parts in
      let back = negatives m s in
      let whole_eight : Supported HasEight whole = assembled-eight (suc bound.total) parts parts_eight in
      ap (λ c. c % m) (sym (coefficient-times e u (moved back whole)) ∙
      same_values 8 (times u (moved back whole)) (moved back (times u whole))
      (Supported-times HasEight u (moved back whole) (Supported-moved HasEight back whole (HasPlaces-lower 8) whole_eight))
      (Supported-moved HasEight back (times u whole) (HasPlaces-lower 8) (Supported-times HasEight u whole whole_eight))
      (λ x places. moved_times back whole x) e) ∙
      moved-alike m back (times u whole) (moved s q) whole_is e ∙
      moved_back m 8 s q q_eight start_low e
    where
      moved_times : (z : List ℕ) (p : List (List ℕ × ℕ)) (x : List ℕ) → value_at (times u (moved z p)) x ≡ value_at (moved z (times u p)) x
      moved_times z p x =
          value_at-times u (moved z p) x ∙ ap (λ v. u * v) (value-moved z p x) ∙ sym (value-moved z (times u p) x ∙ value_at-times u p (point_sum z x))

-- ---- both parts

module _ (m : ℕ) (b : Bounds) (L : List ℕ → Type 0) (s : List ℕ) (gs : List (List ℕ)) (n : ℕ) (vs : List ℕ)
    (nums dens : ℕ → List ℕ) (degrees : ℕ → ℕ) (g : Pair)
    (large : 1 < m) (eight : (e : List ℕ) → L e → HasEight e) (start_low : (k : ℕ) → get_or s k 0 ≤ m) (begin : BeginWithOne gs) (some : 0 < length gs) (pinned : ArePinned m L gs)
    (num_inside : (e : List ℕ) → HasEight e → WithinBound b.num e → L (headless e)) (den_inside : (e : List ℕ) → HasEight e → WithinBound b.den e → L (headless e))
    (scaled : AreScaled m b.num.total b.den.total (length gs) n vs nums dens degrees) (regular : IsRegular m b s gs n vs g) where
  -- the value of the regular denominator where all rays start
  start_value : ℕ
  start_value = value_at g.den s

  start_is : (d : ℕ) (low : d < length gs) → get_or (regular.each d low).den 0 0 % m ≡ start_value % m
  unfolding start_value
  start_is d low = along_begin m s (get_or gs d []) g.den (regular.each d low).den (regular.each d low).den_along

  start_unit : IsUnit m start_value
  start_unit = unit-cong m (get_or (regular.each 0 some).den 0 0) start_value (start_is 0 some) (regular.each 0 some).start

  on_rays : (d : ℕ) (low : d < length gs) →
      ((k : ℕ) → get_or (regular.each d low).num k 0 % m ≡ (start_value * get_or (nums d) k 0) % m) × ((k : ℕ) → get_or (regular.each d low).den k 0 % m ≡ (start_value * get_or (dens d) k 0) % m)
  on_rays d low =
      let on = regular.each d low in
      let both = constant_multiple m n suc (λ i. get_or vs (d * n + i) 0) b.num.total b.den.total (nums d) (dens d) on.num on.den (degrees d)
      (scaled.least d low) on.least (scaled.one d low) (scaled.low d low) (scaled.top d low) in (
        λ k. both.0 k ∙ mul-cong m (get_or on.den 0 0) start_value (get_or (nums d) k 0) (get_or (nums d) k 0) (start_is d low) refl,
        λ k. both.1 k ∙ mul-cong m (get_or on.den 0 0) start_value (get_or (dens d) k 0) (get_or (dens d) k 0) (start_is d low) refl,
      )

  num_scaled : (d k : ℕ) → d < length gs → value_at (graded k (moved s g.num)) (get_or gs d []) % m ≡ (start_value * get_or (nums d) k 0) % m
  num_scaled d k low = sym ((regular.each d low).num_along k) ∙ (on_rays d low).0 k

  den_scaled : (d k : ℕ) → d < length gs → value_at (graded k (moved s g.den)) (get_or gs d []) % m ≡ (start_value * get_or (dens d) k 0) % m
  den_scaled d k low = sym ((regular.each d low).den_along k) ∙ (on_rays d low).1 k

  not_zero : (a : ℕ) → IsUnit m a → a % m ≢ 0
  not_zero a unit none =
      let product : (a * unit.0) % m ≡ 0 = mul-cong m a 0 unit.0 unit.0 (none ∙ sym (zero-mod m)) refl ∙ ap (λ v. v % m) (omega arith) ∙ zero-mod m in
      omega (arith, sym product ∙ unit.2)

  -- on each ray the scaled denominator has the degree of the pair's
  full_degree : (d : ℕ) → d < length gs → degrees d ≡ total_degree g.den
  full_degree d low =
      let on = regular.each d low in
      let top = total_degree g.den in
      let no_more : degrees d ≤ top = elim (cases_lt top (degrees d)) [
        | inl high ↦
            let none : get_or on.den (degrees d) 0 % m ≡ 0 =
            on.den_along (degrees d) ∙
            ap (λ v. v % m) (graded-high (degrees d) (moved s g.den) (get_or gs d []) (omega (arith, total_degree-moved s g.den, high))) ∙ zero-mod m in
            absurd (not_zero (start_value * get_or (dens d) (degrees d) 0) (unit-mul m start_value (get_or (dens d) (degrees d) 0) start_unit (scaled.top d low))
            (sym ((on_rays d low).1 (degrees d)) ∙ none))
        | inr less ↦ less
      ] in
      let no_less : top ≤ degrees d = elim (cases_lt (degrees d) top) [
        | inl high ↦
            let none : get_or on.den top 0 % m ≡ 0 =
            (on_rays d low).1 top ∙
            mul-cong m start_value start_value (get_or (dens d) top 0) 0 refl (scaled.low d low top high ∙ sym (zero-mod m)) ∙
            ap (λ v. v % m) (omega arith) ∙ zero-mod m in
            absurd (not_zero (get_or on.den top 0) on.top none)
        | inr less ↦ less
      ] in
      omega arith

  -- each part has its degree
  pub num_pass : (parts : ℕ → List (List ℕ × ℕ)) → AreInterpolated m L gs b.num.total nums parts → HaveDegrees m b.num.total parts
  num_pass parts values = parts_degrees m start_value b.num L s gs nums parts g.num eight start_low begin pinned num_inside values regular.pair.num.1 regular.within.num num_scaled start_unit

  pub den_pass : (parts : ℕ → List (List ℕ × ℕ)) → AreInterpolated m L gs b.den.total dens parts → HaveDegrees m b.den.total parts
  den_pass parts values = parts_degrees m start_value b.den L s gs dens parts g.den eight start_low begin pinned den_inside values regular.pair.den.1 regular.within.den den_scaled start_unit

  module _ (num_parts den_parts : ℕ → List (List ℕ × ℕ)) (f : Pair) (num_values : AreInterpolated m L gs b.num.total nums num_parts)
      (den_values : AreInterpolated m L gs b.den.total dens den_parts) (assembled_is : AreAssembled m s b.num.total b.den.total num_parts den_parts f) where
    num_multiple : (e : List ℕ) → (start_value * coefficient e f.num) % m ≡ coefficient e g.num % m
    num_multiple e =
        mul-cong m start_value start_value (coefficient e f.num) (coefficient e (moved (negatives m s) (assembled (suc b.num.total) num_parts))) refl
        (ap (λ c. c % m) (assembled_is.num e) ∙ mod-mod (coefficient e (moved (negatives m s) (assembled (suc b.num.total) num_parts))) m) ∙
        back_is m start_value b.num L s gs nums num_parts g.num eight start_low begin pinned num_inside num_values regular.pair.num.1 regular.within.num num_scaled e

    den_multiple : (e : List ℕ) → (start_value * coefficient e f.den) % m ≡ coefficient e g.den % m
    den_multiple e =
        mul-cong m start_value start_value (coefficient e f.den) (coefficient e (moved (negatives m s) (assembled (suc b.den.total) den_parts))) refl
        (ap (λ c. c % m) (assembled_is.den e) ∙ mod-mod (coefficient e (moved (negatives m s) (assembled (suc b.den.total) den_parts))) m) ∙
        back_is m start_value b.den L s gs dens den_parts g.den eight start_low begin pinned den_inside den_values regular.pair.den.1 regular.within.den den_scaled e

    same_degree : total_degree f.den ≡ total_degree g.den
    same_degree =
        multiple-degree m start_value f.den g.den start_unit assembled_is.pair.den assembled_is.pair.den_residues regular.pair.den regular.pair.den_residues den_multiple

    pub tests_pass : PassTests m b (length gs) degrees num_parts den_parts f
    tests_pass = record {
      num_degrees = num_pass num_parts num_values;
      den_degrees = den_pass den_parts den_values;
      within = record {
        some = multiple-some m start_value f.den g.den start_unit assembled_is.pair.den assembled_is.pair.den_residues regular.pair.den regular.pair.den_residues den_multiple regular.within.some;
        num = multiple-to m start_value f.num g.num start_unit assembled_is.pair.num assembled_is.pair.num_residues regular.pair.num regular.pair.num_residues num_multiple (WithinBound b.num) regular.within.num;
        den = multiple-to m start_value f.den g.den start_unit assembled_is.pair.den assembled_is.pair.den_residues regular.pair.den regular.pair.den_residues den_multiple (WithinBound b.den) regular.within.den;
      };
      full = λ d low. full_degree d low ∙ sym same_degree;
    }
