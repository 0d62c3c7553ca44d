-- Where the remainders begin, and the pair that is made of the last.
use Rattle.std.proofs.Common.{◌≡◌, ℕ, suc, ◌+◌, ◌*◌, ◌%◌, ◌<◌, ◌≤◌, List, ◌∷◌, ◌++◌, length, take, drop, slice_index, Option, Some, None, IfSome, refl, sym, ◌∙◌, ap, arith, inl, inr, mul-one}
use Rattle.std.proofs.Math.ListN.{replicate}
use Rattle.std.proofs.Math.Nat.{zero-mod, mod-mod, mod-eq_of_lt}
use Rattle.std.proofs.lemmas.Bool.{cases_lt}
use Rattle.std.proofs.lemmas.List.{take-append-le, drop-append-le, length-drop}
use Rattle.prime_field.specs.Residue.{IsUnit}
use Rattle.prime_field.proofs.Residues.{mul-cong}
use Rattle.univariate.specs.Univariate.{univariate_value, AllVanish, AreApart}
use Rattle.univariate.specs.Coefficients.{multiple, product_of, IsBelow, Alike}
use Rattle.univariate.proofs.Coefficients.{at-multiple, value-multiple}
use Rattle.univariate.proofs.Degrees.{below-more, below-alike, below-multiple, below-cancel, product-vanish, vanish-below}
use Rattle.univariate.proofs.Products.{product-multiple_left, product-multiple_right, product-alike_right}
use Rattle.newton_interp.specs.Interpolation.{IsProductOf, IsInterpolant}
use Rattle.newton_interp.proofs.Points.{from_points-zero, zeros-at, zeros-value, replicate-low, product-first}
use Rattle.thiele_interp.specs.Pairs.{AgreesAt, IsAgreeing, IsMultiple, IsLeastPair}
use Rattle.thiele_interp.specs.Remainders.{AreRemainders, BothAgree}
use Rattle.thiele_interp.proofs.Stopped.{Stopped, Stopped-multiple}
use Rattle.thiele_interp.proofs.Turns.{agrees-alike}

-- 1 is a unit
unit-one : (m x : ℕ) → 1 < m → x ≡ 1 → IsUnit m x
unit-one m x large one = (1, large, ap (λ t. (t * 1) % m) one ∙ mod-eq_of_lt large)

-- the product over the points and the polynomial of the samples, with the factors 0 and 1
pub first-remainders : (m n zeros ones : ℕ) (t v : ℕ → ℕ) (above rest earlier factor : List ℕ) → 1 < m → IsProductOf m n t above → IsInterpolant m n t v rest →
    earlier ≡ replicate zeros 0 → factor ≡ 1 ∷ replicate ones 0 → AreRemainders m n n 0 above rest earlier factor
first-remainders m n zeros ones t v above rest earlier factor large product interpolant earlier_is factor_is =
    let one = product-first m ones t large in
    record {
      degrees = omega arith;
      above_residues = product.residues;
      rest_residues = interpolant.residues;
      earlier_residues = λ k. rw earlier_is (replicate-low m zeros 0 k (omega arith));
      factor_residues = rw factor_is one.residues;
      above_below = product.degree;
      above_unit = unit-one m (slice_index above n) large product.leading;
      rest_below = interpolant.degree;
      earlier_below = λ k from. rw earlier_is (ap (λ x. x % m) (zeros-at zeros k) ∙ zero-mod m);
      factor_below = rw factor_is one.degree;
      factor_unit = rw factor_is (unit-one m 1 large refl);
    }

-- they agree
pub first-agree : (m n zeros ones : ℕ) (t v : ℕ → ℕ) (above rest earlier factor : List ℕ) → ((j : ℕ) → t j ≤ m) → IsProductOf m n t above → IsInterpolant m n t v rest →
    earlier ≡ replicate zeros 0 → factor ≡ 1 ∷ replicate ones 0 → BothAgree m n t v above rest earlier factor
first-agree m n zeros ones t v above rest earlier factor low product interpolant earlier_is factor_is = (
  λ i within. rw earlier_is
      (product.values (t i) ∙ from_points-zero m n t i low within ∙ sym (zero-mod m) ∙
      ap (λ x. x % m) (omega arith ∙ ap (λ x. v i * x) (sym (zeros-value zeros (t i))))),
  λ i within. rw factor_is
      (interpolant.values i within ∙
      ap (λ x. x % m) (sym (mul-one (v i)) ∙ ap (λ x. v i * x) (omega (arith, ap (λ x. t i * x) (zeros-value ones (t i)))))),
)

-- a multiple of both parts agrees too
agrees-multiple : (m n s : ℕ) (t v : ℕ → ℕ) (num den : List ℕ) → AgreesAt m n t v num den → AgreesAt m n t v (multiple s num) (multiple s den)
agrees-multiple m n s t v num den agrees i within =
    ap (λ x. x % m) (value-multiple s num (t i)) ∙
    mul-cong m s s (univariate_value num (t i)) (v i * univariate_value den (t i)) refl (agrees i within) ∙
    ap (λ x. x % m) (omega arith ∙ ap (λ x. v i * x) (sym (value-multiple s den (t i))))

-- what is a multiple of a pair is one of the pair times a unit
multiple-scaled : (m f s : ℕ) (p made other q : List ℕ) → (f * s) % m ≡ 1 → Alike m made (multiple s p) → Alike m other (product_of q p) → Alike m other (product_of (multiple f q) made)
multiple-scaled m f s p made other q unit made_alike other_alike k =
    let y = slice_index (product_of q p) k in
    other_alike k ∙
    ap (λ x. x % m) (sym (mul-one y)) ∙
    mul-cong m y y 1 (f * s) refl (ap (λ x. x % m) (sym unit) ∙ mod-mod (f * s) m) ∙
    ap (λ x. x % m) (omega (arith, ap (λ x. f * x) (product-multiple_right s q p k))) ∙
    mul-cong m f f (slice_index (product_of q (multiple s p)) k) (slice_index (product_of q made) k) refl
    (sym (product-alike_right m q made (multiple s p) made_alike k)) ∙
    ap (λ x. x % m) (sym (product-multiple_left f q made k))

-- a pair of which each agreeing pair is a multiple, scaled so that its denominator has leading coefficient 1, is the least
pub least-of_multiples : (m n : ℕ) (t v : ℕ → ℕ) (a b d s : ℕ) (rest factor num den : List ℕ) → 1 < m → IsBelow m (suc a) rest → IsBelow m (suc d) factor →
    AgreesAt m n t v rest factor → d ≤ b → (slice_index factor d * s) % m ≡ 1 → Alike m num (multiple s rest) → Alike m den (multiple s factor) →
    ((other_num other_den : List ℕ) → IsAgreeing m n t v a b other_num other_den → IsMultiple m rest factor other_num other_den) → IsLeastPair m n t v a b num den
least-of_multiples m n t v a b d s rest factor num den large rest_low factor_below agree within unit num_alike den_alike multiple_of =
    record {
      agreeing = record {
        num_degree = below-alike m (suc a) num (multiple s rest) num_alike (below-multiple m (suc a) s rest rest_low);
        den_degree = below-more m (suc d) (suc b) den (omega arith) den_below;
        some = λ vanish. absurd (omega (arith, sym (vanish d) ∙ den_last));
        agrees = agrees-alike m n t v (multiple s rest) (multiple s factor) num den (λ i. sym (num_alike i)) (λ i. sym (den_alike i))
            (agrees-multiple m n s t v rest factor agree);
      };
      least = λ other_num other_den agreeing bound below.
          elim (cases_lt d bound) [
            | inl high ↦ below-more m (suc d) bound den high den_below
            | inr low ↦ absurd (agreeing.some (nothing other_num other_den agreeing bound below low))
          ];
      multiple = λ other_num other_den agreeing. multiples other_num other_den agreeing;
    }
  where
    den_below : IsBelow m (suc d) den
    den_below = below-alike m (suc d) den (multiple s factor) den_alike (below-multiple m (suc d) s factor factor_below)

    den_last : slice_index den d % m ≡ 1
    den_last = den_alike d ∙ ap (λ x. x % m) (at-multiple s factor d ∙ omega arith) ∙ unit

    multiples : (other_num other_den : List ℕ) → IsAgreeing m n t v a b other_num other_den → IsMultiple m num den other_num other_den
    multiples other_num other_den agreeing =
        let found = multiple_of other_num other_den agreeing in (
          multiple (slice_index factor d) found.0,
          multiple-scaled m (slice_index factor d) s rest num other_num found.0 unit num_alike found.1,
          multiple-scaled m (slice_index factor d) s factor den other_den found.0 unit den_alike found.2,
        )

    nothing : (other_num other_den : List ℕ) → IsAgreeing m n t v a b other_num other_den → (bound : ℕ) → IsBelow m bound other_den → bound ≤ d → AllVanish m other_den
    nothing other_num other_den agreeing bound below low i =
        let found = multiples other_num other_den agreeing in
        let none : AllVanish m found.0 =
        vanish-below m found.0
        (below-cancel m 0 d found.0 den den_below (1, large, ap (λ x. x % m) (mul-one (slice_index den d)) ∙ den_last)
        (λ j from. sym (found.2 j) ∙ below j (omega arith))) in
        found.2 i ∙ product-vanish m found.0 den none i

-- so is the pair at which the remainders stop
pub least-scaled : (m k n : ℕ) (t v : ℕ → ℕ) (a b e d s : ℕ) (above rest earlier factor num den : List ℕ) → suc k ≡ m → 1 < m → AreApart m n t →
    Stopped m n t v a e d above rest earlier factor → a + b < n → d ≤ b → (slice_index factor d * s) % m ≡ 1 →
    Alike m num (multiple s rest) → Alike m den (multiple s factor) → IsLeastPair m n t v a b num den
least-scaled m k n t v a b e d s above rest earlier factor num den predecessor large apart stopped few within unit num_alike den_alike =
    least-of_multiples m n t v a b d s rest factor num den large stopped.rest_low stopped.remainders.factor_below stopped.agree.1 within unit num_alike den_alike
    (λ other_num other_den agreeing.
    Stopped-multiple m k n t v a b e d above rest earlier factor other_num other_den predecessor apart stopped few within agreeing)

-- a pair that stands in the front of the words
pub at_front : (P : List ℕ → List ℕ → Type 0) (o : Option (ℕ × ℕ)) (front others : List ℕ) → IfSome o (λ r. r.0 + r.1 ≤ length front) →
    IfSome o (λ r. P (take r.0 front) (take r.1 (drop r.0 front))) → IfSome o (λ r. P (take r.0 (front ++ others)) (take r.1 (drop r.0 (front ++ others))))
at_front P None front others room holds = holds
at_front P (Some r) front others room holds =
    rw (
      take-append-le r.0 front others (omega arith),
      drop-append-le r.0 front others (omega arith),
      take-append-le r.1 (drop r.0 front) others (omega (arith, length-drop r.0 front)),
    ) holds
