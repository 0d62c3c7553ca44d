-- Where Euclid's remainders stop at the first of degree a at most, it and its factor are the least agreeing pair.
use Rattle.std.proofs.Common.{◌≡◌, ℕ, zero, suc, ◌+◌, ◌-◌, ◌*◌, ◌%◌, ◌<◌, ◌≤◌, List, slice_index, refl, sym, ◌∙◌, ap, arith, inl, inr}
use Rattle.std.proofs.Math.Nat.{zero-mod}
use Rattle.std.proofs.lemmas.Bool.{cases_eq}
use Rattle.prime_field.specs.Residue.{IsUnit}
use Rattle.prime_field.proofs.Residues.{add-cong, mul-cong}
use Rattle.univariate.specs.Univariate.{univariate_value, AllVanish, AreApart}
use Rattle.univariate.specs.Coefficients.{sum_of, multiple, product_of, IsBelow, Alike}
use Rattle.univariate.proofs.Coefficients.{at-sum, at-multiple, value-sum, value-multiple, value-product, value-alike, same_of_difference, difference_of_same}
use Rattle.univariate.proofs.Counting.{zero-rest, alike_of_values}
use Rattle.univariate.proofs.Degrees.{below-more, below-sum, below-multiple, below-product, below-cancel, product-vanish, vanish-below}
use Rattle.univariate.proofs.Division.{IsDivided, divide}
use Rattle.thiele_interp.specs.Pairs.{AgreesAt, IsAgreeing, IsMultiple}
use Rattle.thiele_interp.specs.Remainders.{AreRemainders, BothAgree}

-- a product that is below a bound place by place
pub below-factors : (m e f n : ℕ) (p q : List ℕ) → e + f ≤ n + 1 → IsBelow m e p → IsBelow m f q → IsBelow m n (product_of p q)
below-factors m e f n p q low left right k from = below-product m e f p q left right k (omega arith)

-- of two agreeing pairs, each numerator times the other denominator is the same, where the degrees are below the
-- number of points
pub across : (m k n : ℕ) (t v : ℕ → ℕ) (num den other_num other_den : List ℕ) → suc k ≡ m → AreApart m n t →
    AgreesAt m n t v num den → AgreesAt m n t v other_num other_den →
    IsBelow m n (product_of other_den num) → IsBelow m n (product_of other_num den) →
    Alike m (product_of other_den num) (product_of other_num den)
across m k n t v num den other_num other_den predecessor apart agrees other_agrees left right =
    alike_of_values m k n t (product_of other_den num) (product_of other_num den) predecessor left right apart
    (λ i low.
    let x = t i in
    let c = univariate_value den x in
    let e = univariate_value other_den x in
    ap (λ s. s % m) (value-product other_den num x) ∙
    mul-cong m e e (univariate_value num x) (v i * c) refl (agrees i low) ∙
    ap (λ s. s % m) (omega arith) ∙
    mul-cong m (v i * e) (univariate_value other_num x) c c (sym (other_agrees i low)) refl ∙
    ap (λ s. s % m) (sym (value-product other_num den x)))

-- what stands where the remainders stop: `rest` is the first of degree a at most
pub record Stopped (m n : ℕ) (t v : ℕ → ℕ) (a e d : ℕ) (above rest earlier factor : List ℕ) : Type 0 where
  pub high : a < e
  pub remainders : AreRemainders m n e d above rest earlier factor
  pub rest_low : IsBelow m (suc a) rest
  pub agree : BothAgree m n t v above rest earlier factor

-- the numerator of an agreeing pair whose denominator is below c: it is below a + c - d
numerator_low : (m k n : ℕ) (t v : ℕ → ℕ) (a e d c : ℕ) (above rest earlier factor num den : List ℕ) → suc k ≡ m → AreApart m n t →
    Stopped m n t v a e d above rest earlier factor → AgreesAt m n t v num den → IsBelow m e num → c ≤ d → IsBelow m c den →
    IsBelow m (a + c - d) num
numerator_low m k n t v a e d c above rest earlier factor num den predecessor apart stopped agrees num_below low den_below =
    let r = stopped.remainders in
    let whole : e + d ≡ n = r.degrees in
    let high : a < e = stopped.high in
    let same : Alike m (product_of den rest) (product_of num factor) =
    across m k n t v rest factor num den predecessor apart stopped.agree.1 agrees
    (below-factors m c (suc a) n den rest (omega arith) den_below stopped.rest_low)
    (below-factors m e (suc d) n num factor (omega arith) num_below r.factor_below) in
    below-cancel m (a + c - d) d num factor r.factor_below r.factor_unit
    (λ i from. sym (same i) ∙ below-factors m c (suc a) (a + c) den rest (omega arith) den_below stopped.rest_low i (omega arith))

-- and its denominator is below one less
denominator_low : (m k n : ℕ) (t v : ℕ → ℕ) (a e d c : ℕ) (above rest earlier factor num den : List ℕ) → suc k ≡ m → AreApart m n t →
    Stopped m n t v a e d above rest earlier factor → AgreesAt m n t v num den → IsBelow m e num → suc c ≤ d → IsBelow m (suc c) den →
    IsBelow m c den
denominator_low m k n t v a e d c above rest earlier factor num den predecessor apart stopped agrees num_below low den_below =
    let r = stopped.remainders in
    let whole : e + d ≡ n = r.degrees in
    let high : a < e = stopped.high in
    let l = a + suc c - d in
    let num_low : IsBelow m l num = numerator_low m k n t v a e d (suc c) above rest earlier factor num den predecessor apart stopped agrees num_below low den_below in
    let same : Alike m (product_of den above) (product_of num earlier) =
    across m k n t v above earlier num den predecessor apart stopped.agree.0 agrees
    (below-factors m (suc c) (suc e) n den above (omega arith) den_below r.above_below)
    (below-factors m l d n num earlier (omega arith) num_low r.earlier_below) in
    below-cancel m c e den above r.above_below r.above_unit
    (λ i from. same i ∙
    elim (cases_eq l 0) [
      | inl none ↦ product-vanish m num earlier (λ j. num_low j (omega (arith, none))) i
      | inr some ↦ below-factors m l d (c + e) num earlier (omega arith) num_low r.earlier_below i from
    ])

-- an agreeing pair whose denominator has a degree below that of the factor is zero
pub lesser : (m k n : ℕ) (t v : ℕ → ℕ) (a e d c : ℕ) (above rest earlier factor num den : List ℕ) → suc k ≡ m → AreApart m n t →
    Stopped m n t v a e d above rest earlier factor → AgreesAt m n t v num den → IsBelow m e num → c ≤ d → IsBelow m c den →
    AllVanish m num × AllVanish m den
lesser m k n t v a e d zero above rest earlier factor num den predecessor apart stopped agrees num_below low den_below =
    let r = stopped.remainders in
    let whole : e + d ≡ n = r.degrees in
    let high : a < e = stopped.high in
    let none : AllVanish m (product_of den rest) = product-vanish m den rest (vanish-below m den den_below) in
    let same : Alike m (product_of den rest) (product_of num factor) =
    across m k n t v rest factor num den predecessor apart stopped.agree.1 agrees
    (λ i from. none i)
    (below-factors m e (suc d) n num factor (omega arith) num_below r.factor_below) in (
      vanish-below m num (below-cancel m 0 d num factor r.factor_below r.factor_unit (λ i from. sym (same i) ∙ none i)),
      vanish-below m den den_below,
    )
lesser m k n t v a e d (suc c) above rest earlier factor num den predecessor apart stopped agrees num_below low den_below =
    lesser m k n t v a e d c above rest earlier factor num den predecessor apart stopped agrees num_below (omega arith)
    (denominator_low m k n t v a e d c above rest earlier factor num den predecessor apart stopped agrees num_below low den_below)

-- where the factor's degree is above b no pair agrees
pub Stopped-none : (m k n : ℕ) (t v : ℕ → ℕ) (a b e d : ℕ) (above rest earlier factor num den : List ℕ) → suc k ≡ m → AreApart m n t →
    Stopped m n t v a e d above rest earlier factor → b < d → IsAgreeing m n t v a b num den → ⊥
Stopped-none m k n t v a b e d above rest earlier factor num den predecessor apart stopped high agreeing =
    let higher : a < e = stopped.high in
    agreeing.some
    (lesser m k n t v a e d (suc b) above rest earlier factor num den predecessor apart stopped agreeing.agrees
    (below-more m (suc a) e num (omega arith) agreeing.num_degree) high agreeing.den_degree).1

-- what is left of an agreeing pair once q times another is taken away agrees too
pub left_agrees : (m k n : ℕ) (t v : ℕ → ℕ) (rest factor num den q r : List ℕ) → suc k ≡ m → AgreesAt m n t v rest factor → AgreesAt m n t v num den →
    Alike m den (sum_of r (product_of q factor)) → AgreesAt m n t v (sum_of num (multiple k (product_of q rest))) r
left_agrees m k n t v rest factor num den q r predecessor agrees other_agrees whole i low =
    let x = t i in
    let qx = univariate_value q x in
    let fx = univariate_value factor x in
    let rx = univariate_value r x in
    let y = v i * (qx * fx) in
    let taken : univariate_value (sum_of num (multiple k (product_of q rest))) x ≡ univariate_value num x + k * (qx * univariate_value rest x) =
    value-sum num (multiple k (product_of q rest)) x ∙ ap (λ s. univariate_value num x + s) (value-multiple k (product_of q rest) x ∙ ap (λ s. k * s) (value-product q rest x)) in
    let split : univariate_value den x % m ≡ (rx + qx * fx) % m =
    value-alike m den (sum_of r (product_of q factor)) x whole ∙ ap (λ s. s % m) (value-sum r (product_of q factor) x ∙ ap (λ s. rx + s) (value-product q factor x)) in
    ap (λ s. s % m) taken ∙
    add-cong m (univariate_value num x) (v i * (rx + qx * fx)) (k * (qx * univariate_value rest x)) (k * y)
    (other_agrees i low ∙ mul-cong m (v i) (v i) (univariate_value den x) (rx + qx * fx) refl split)
    (mul-cong m k k (qx * univariate_value rest x) y refl
    (mul-cong m qx qx (univariate_value rest x) (v i * fx) refl (agrees i low) ∙ ap (λ s. s % m) (omega arith))) ∙
    ap (λ s. s % m) (omega arith) ∙
    add-cong m (v i * rx) (v i * rx) (y + k * y) 0 refl (difference_of_same m k y y predecessor refl ∙ sym (zero-mod m)) ∙
    ap (λ s. s % m) (omega arith)

-- nothing left of a difference: the two are alike
pub alike_by_nothing : (m k : ℕ) (p q : List ℕ) → suc k ≡ m → AllVanish m (sum_of p (multiple k q)) → Alike m p q
alike_by_nothing m k p q predecessor nothing i =
    same_of_difference m k (slice_index p i) (slice_index q i) predecessor
    (ap (λ s. s % m) (ap (λ s. slice_index p i + s) (sym (at-multiple k q i)) ∙ sym (at-sum p (multiple k q) i)) ∙ nothing i)

-- a remainder that vanishes leaves a product
pub alike_without : (m : ℕ) (p r q : List ℕ) → Alike m p (sum_of r q) → AllVanish m r → Alike m p q
alike_without m p r q whole nothing i =
    whole i ∙ ap (λ s. s % m) (at-sum r q i) ∙
    add-cong m (slice_index r i) 0 (slice_index q i) (slice_index q i) (nothing i ∙ sym (zero-mod m)) refl ∙
    ap (λ s. s % m) (omega arith)

-- the bound of a quotient
pub quotient_low : (m d b : ℕ) (factor den q r : List ℕ) → IsBelow m (suc d) factor → IsUnit m (slice_index factor d) → d ≤ b → IsBelow m (suc b) den → IsDivided m d factor den q r →
    IsBelow m (suc b - d) q
quotient_low m d b factor den q r factor_below unit few den_below divided =
    below-cancel m (suc b - d) d q factor factor_below unit
    (λ i from.
    zero-rest m (slice_index (product_of q factor) i) (slice_index r i)
    (ap (λ s. s % m) (omega (arith, at-sum r (product_of q factor) i)) ∙ sym (divided.whole i) ∙ den_below i (omega arith))
    (divided.small i (omega arith)))

-- each agreeing pair is a multiple of the pair at which the remainders stop
pub Stopped-multiple : (m k n : ℕ) (t v : ℕ → ℕ) (a b e d : ℕ) (above rest earlier factor num den : List ℕ) → suc k ≡ m → AreApart m n t →
    Stopped m n t v a e d above rest earlier factor → a + b < n → d ≤ b → IsAgreeing m n t v a b num den → IsMultiple m rest factor num den
Stopped-multiple m k n t v a b e d above rest earlier factor num den predecessor apart stopped few within agreeing =
    let r = stopped.remainders in
    let whole : e + d ≡ n = r.degrees in
    let high : a < e = stopped.high in
    let divided = divide m k d factor predecessor r.factor_below r.factor_unit den in
    let q = divided.0 in
    let left = sum_of num (multiple k (product_of q rest)) in
    let q_low : IsBelow m (suc b - d) q = quotient_low m d b factor den q divided.1 r.factor_below r.factor_unit within agreeing.den_degree divided.2 in
    let left_low : IsBelow m e left =
    below-sum m e num (multiple k (product_of q rest)) (below-more m (suc a) e num (omega arith) agreeing.num_degree)
    (below-multiple m e k (product_of q rest) (below-factors m (suc b - d) (suc a) e q rest (omega arith) q_low stopped.rest_low)) in
    let nothing : AllVanish m left × AllVanish m divided.1 =
    lesser m k n t v a e d d above rest earlier factor left divided.1 predecessor apart stopped
    (left_agrees m k n t v rest factor num den q divided.1 predecessor stopped.agree.1 agreeing.agrees divided.2.whole)
    left_low (omega arith) divided.2.small in (
      q,
      alike_by_nothing m k num (product_of q rest) predecessor nothing.0,
      alike_without m den divided.1 (product_of q factor) divided.2.whole nothing.1,
    )
