-- Rays whose scaled least pairs pass the tests are regular.
use Rattle.std.proofs.Common.{◌≡◌, ℕ, suc, ◌*◌, ◌%◌, ◌<◌, ◌≤◌, inl, inr, List, [], length, get_or, sym, ◌∙◌, ap, subst, arith}
use Rattle.std.proofs.Math.Nat.{mod-mod, zero-mod, mod-eq_of_lt}
use Rattle.std.proofs.lemmas.Bool.{cases_lt}
use Rattle.prime_field.specs.Residue.{IsUnit}
use Rattle.prime_field.proofs.Units.{unit-cong}
use Rattle.univariate.specs.Coefficients.{IsBelow as IsLowerThan}
use Rattle.poly_maps.specs.Mono.{degree, HasEight}
use Rattle.poly_maps.specs.Moved.{graded, moved}
use Rattle.poly_maps.specs.Polynomial.{coefficient, value_at, Supported}
use Rattle.poly_maps.specs.Shifted.{negatives}
use Rattle.poly_maps.specs.declared.bound.Bounds.{Bounds}
use Rattle.poly_maps.specs.declared.pair.Pair.{Pair}
use Rattle.poly_maps.proofs.Linear.{AreAlike, value-alike}
use Rattle.poly_maps.proofs.Moves.{Supported-sub, moved-alike, moved_forth}
use Rattle.poly_maps.proofs.Rays.{graded-alike}
use Rattle.multivar_recon.specs.Assembly.{assembled, BeginWithOne, AreInterpolated, HaveDegrees, AreMade, PassTests}
use Rattle.multivar_recon.specs.Rays.{IsAlong, IsRegular}
use Rattle.multivar_recon.proofs.Along.{low_terms, low_terms-degree, low_terms-supported, low_terms-alike}
use Rattle.multivar_recon.proofs.Assembling.{AreUpTo, Supported-both, total_degree-each, value-assembled, value-assembled_high, assembled-eight, assembled-alike}

pub one_unit : (m : ℕ) → 1 < m → IsUnit m 1
one_unit m large =
    let one : 1 * 1 ≡ 1 = omega arith in
    (1, large, ap (λ v. v % m) one ∙ mod-eq_of_lt large)

-- each part without the monomials of greater degree
abbrev pub low_parts : (ℕ → List (List ℕ × ℕ)) → ℕ → List (List ℕ × ℕ)
low_parts parts k = low_terms k (parts k)

-- q is assembled from the parts and moved back
module _ (m : ℕ) (L : List ℕ → Type 0) (s : List ℕ) (gs : List (List ℕ)) (highest : ℕ) (lists : ℕ → List ℕ) (parts : ℕ → List (List ℕ × ℕ)) (q : List (List ℕ × ℕ))
    (eight : (e : List ℕ) → L e → HasEight e) (start_low : (k : ℕ) → get_or s k 0 ≤ m) (begin : BeginWithOne gs)
    (interpolated : AreInterpolated m L gs highest lists parts) (degrees : HaveDegrees m highest parts)
    (is : (e : List ℕ) → coefficient e q ≡ coefficient e (moved (negatives m s) (assembled (suc highest) parts)) % m) where
  parts_eight : (k : ℕ) → k < suc highest → Supported HasEight (parts k)
  parts_eight k low = Supported-sub L HasEight (parts k) eight (interpolated.inside k (omega arith))

  low_alike : (k : ℕ) → k < suc highest → AreAlike m (parts k) (low_parts parts k)
  low_alike k low = low_terms-alike m k (parts k) (degrees k (omega arith))

  low_up_to : AreUpTo (suc highest) (low_parts parts)
  low_up_to k low =
      Supported-both HasEight (λ e. degree e ≤ k) (low_terms k (parts k))
      (low_terms-supported HasEight k (parts k) (parts_eight k low))
      (total_degree-each k (low_terms k (parts k)) (low_terms-degree k (parts k)))

  moved_is : AreAlike m (moved s q) (assembled (suc highest) (low_parts parts))
  moved_is e =
      let whole = assembled (suc highest) parts in
      moved-alike m s q (moved (negatives m s) whole) (λ f. ap (λ c. c % m) (is f) ∙ mod-mod (coefficient f (moved (negatives m s) whole)) m) e ∙
      moved_forth m 8 s whole (assembled-eight (suc highest) parts parts_eight) start_low e ∙
      assembled-alike m (suc highest) parts (low_parts parts) low_alike e

  -- along each ray it has the coefficients that the parts were made of
  pub assembled_along : (d : ℕ) → d < length gs → IsLowerThan m (suc highest) (lists d) → IsAlong m s (get_or gs d []) q (lists d)
  assembled_along d low below k =
      let g = get_or gs d [] in
      let tail = begin d low in
      let whole = assembled (suc highest) (low_parts parts) in
      sym (graded-alike m k (moved s q) whole g moved_is ∙
      elim (cases_lt k (suc highest)) [
        | inl within ↦
            ap (λ x. value_at (graded k whole) x % m) tail.1 ∙
            ap (λ v. v % m) (value-assembled k (suc highest) (low_parts parts) tail.0 within low_up_to) ∙
            sym (ap (λ x. value_at (low_parts parts k) x % m) tail.1) ∙
            sym (value-alike m (parts k) (low_parts parts k) g (low_alike k within)) ∙
            interpolated.values k d (omega arith) low
        | inr past ↦
            ap (λ v. v % m) (value-assembled_high k (suc highest) (low_parts parts) g past low_up_to) ∙ zero-mod m ∙ sym (below k past)
      ])

pub tests_regular : (m : ℕ) (b : Bounds) (L : List ℕ → Type 0) (s : List ℕ) (gs : List (List ℕ)) (n : ℕ) (vs : List ℕ)
    (nums dens : ℕ → List ℕ) (degrees : ℕ → ℕ) (num_parts den_parts : ℕ → List (List ℕ × ℕ)) (f : Pair) →
    1 < m → ((e : List ℕ) → L e → HasEight e) → ((k : ℕ) → get_or s k 0 ≤ m) → BeginWithOne gs →
    AreMade m b L s gs n vs nums dens degrees num_parts den_parts f → PassTests m b (length gs) degrees num_parts den_parts f → IsRegular m b s gs n vs f
tests_regular m b L s gs n vs nums dens degrees num_parts den_parts f large eight start_low begin made passed =
    record {
      pair = made.assembled.pair;
      within = passed.within;
      each = λ d low.
          let least = made.scaled.least d low in
          record {
            num = nums d;
            den = dens d;
            num_along = assembled_along m L s gs b.num.total nums num_parts f.num eight start_low begin made.num_values passed.num_degrees made.assembled.num d low least.agreeing.num_degree;
            den_along = assembled_along m L s gs b.den.total dens den_parts f.den eight start_low begin made.den_values passed.den_degrees made.assembled.den d low least.agreeing.den_degree;
            least = least;
            start = unit-cong m 1 (get_or (dens d) 0 0) (sym (made.scaled.one d low)) (one_unit m large);
            top = subst (λ k. IsUnit m (get_or (dens d) k 0)) (passed.full d low) (made.scaled.top d low);
          };
    }
