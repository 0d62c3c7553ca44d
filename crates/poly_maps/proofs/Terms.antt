-- Coefficients, values and the normal form of lists of terms.
use Rattle.std.proofs.Common.{◌≡◌, ◌≢◌, ℕ, zero, suc, ◌+◌, ◌<◌, ◌≤◌, Bool, true, false, if◌then◌else◌, Some, None, slice_get, List, [], ◌∷◌, ◌++◌, length, get_or, refl, ap, ◌∙◌, subst, arith}
use Rattle.std.specs.declared.cmp.Ordering.TheVariants.{Less}
use Rattle.poly_maps.specs.Mono.{degree, mono_cmp, is_same}
use Rattle.poly_maps.specs.Polynomial.{coefficient, value_at, AreLess, AreAbove, Descends, IsNormal, AreResidues, Supported, total_degree}
use Rattle.poly_maps.proofs.MonoLemmas.{mono_total, mono_degree, is_same-true, is_same-less, is_same-symm}

pub coefficient-append : (e : List ℕ) (p q : List (List ℕ × ℕ)) → coefficient e (p ++ q) ≡ coefficient e p + coefficient e q
coefficient-append e [] q = omega arith
coefficient-append e (t ∷ p) q = omega (arith, coefficient-append e p q)

pub value_at-append : (p q : List (List ℕ × ℕ)) (x : List ℕ) → value_at (p ++ q) x ≡ value_at p x + value_at q x
value_at-append [] q x = omega arith
value_at-append (t ∷ p) q x = omega (arith, value_at-append p q x)

-- monomials below e, or above it, aren't e
pub coefficient-less : (p : List (List ℕ × ℕ)) (e : List ℕ) → AreLess p e → coefficient e p ≡ 0
coefficient-less [] e less = refl
coefficient-less (t ∷ p) e less =
    ap (λ b. (if b then t.1 else 0) + coefficient e p) (is_same-less t.0 e less.0) ∙ omega (arith, coefficient-less p e less.1)

pub coefficient-above : (e : List ℕ) (p : List (List ℕ × ℕ)) → AreAbove e p → coefficient e p ≡ 0
coefficient-above e [] above = refl
coefficient-above e (t ∷ p) above =
    ap (λ b. (if b then t.1 else 0) + coefficient e p) (is_same-symm t.0 e ∙ is_same-less e t.0 above.0) ∙ omega (arith, coefficient-above e p above.1)

pub AreLess-trans : {A : Type 0} (p : List (List ℕ × A)) (e f : List ℕ) → AreLess p e → mono_cmp e f ≡ Less → AreLess p f
AreLess-trans [] e f less below = tt
AreLess-trans (t ∷ p) e f less below = (mono_total.trans t.0 e f less.0 below, AreLess-trans p e f less.1 below)

pub AreLess-append : {A : Type 0} (p q : List (List ℕ × A)) (e : List ℕ) → AreLess p e → AreLess q e → AreLess (p ++ q) e
AreLess-append [] q e less rest = rest
AreLess-append (t ∷ p) q e less rest = (less.0, AreLess-append p q e less.1 rest)

-- a coefficient of a normal polynomial of residues is a residue
pub coefficient-residue : (m : ℕ) (e : List ℕ) (p : List (List ℕ × ℕ)) → 0 < m → IsNormal p → AreResidues m p → coefficient e p < m
coefficient-residue m e [] some normal residues = some
coefficient-residue m e (t ∷ p) some normal residues =
    here (is_same t.0 e) refl (coefficient-residue m e p some normal.2 residues.1)
  where
    here : (b : Bool) → is_same t.0 e ≡ b → coefficient e p < m → (if is_same t.0 e then t.1 else 0) + coefficient e p < m
    here true same rest =
        let none : coefficient e p ≡ 0 = coefficient-less p e (subst (AreLess p) (is_same-true t.0 e same) normal.1) in
        let first : (if is_same t.0 e then t.1 else 0) ≡ t.1 = ap (λ b. if b then t.1 else 0) same in
        omega (arith, residues.0)
    here false other rest =
        let first : (if is_same t.0 e then t.1 else 0) ≡ 0 = ap (λ b. if b then t.1 else 0) other in
        omega arith

-- the first monomial of a normal polynomial has the greatest total degree
pub total_degree-less : (p : List (List ℕ × ℕ)) (e : List ℕ) → AreLess p e → total_degree p ≤ degree e
total_degree-less [] e less = omega arith
total_degree-less (t ∷ p) e less = omega (arith, mono_degree t.0 e less.0, total_degree-less p e less.1)

-- ---- a term put between others, or taken away

pub coefficient-inserted : (g : List ℕ) (front back : List (List ℕ × ℕ)) (t : List ℕ × ℕ) →
    coefficient g (front ++ t ∷ back) ≡ coefficient g (front ++ back) + (if is_same t.0 g then t.1 else 0)
coefficient-inserted g [] back t = omega arith
coefficient-inserted g (u ∷ front) back t = omega (arith, coefficient-inserted g front back t)

pub AreLess-removed : {A : Type 0} (front back : List (List ℕ × A)) (t : List ℕ × A) (e : List ℕ) → AreLess (front ++ t ∷ back) e → (mono_cmp t.0 e ≡ Less) × AreLess (front ++ back) e
AreLess-removed [] back t e less = (less.0, less.1)
AreLess-removed (u ∷ front) back t e less =
    let rest = AreLess-removed front back t e less.1 in (rest.0, (less.0, rest.1))

pub AreLess-inserted : {A : Type 0} (front back : List (List ℕ × A)) (t : List ℕ × A) (e : List ℕ) → AreLess (front ++ back) e → mono_cmp t.0 e ≡ Less → AreLess (front ++ t ∷ back) e
AreLess-inserted [] back t e less below = (below, less)
AreLess-inserted (u ∷ front) back t e less below = (less.0, AreLess-inserted front back t e less.1 below)

-- what is said of monomials alone holds of normal polynomials
pub IsNormal-descends : (p : List (List ℕ × ℕ)) → IsNormal p → Descends p
IsNormal-descends [] normal = tt
IsNormal-descends (t ∷ p) normal = (normal.1, IsNormal-descends p normal.2)

pub Descends-inserted : {A : Type 0} (front back : List (List ℕ × A)) (t : List ℕ × A) → Descends (front ++ back) → AreAbove t.0 front → AreLess back t.0 → Descends (front ++ t ∷ back)
Descends-inserted [] back t descends above less = (less, descends)
Descends-inserted (u ∷ front) back t descends above less =
    (AreLess-inserted front back t u.0 descends.0 above.0, Descends-inserted front back t descends.1 above.1 less)

pub IsNormal-inserted : (front back : List (List ℕ × ℕ)) (t : List ℕ × ℕ) → IsNormal (front ++ back) → AreAbove t.0 front → AreLess back t.0 → t.1 ≢ 0 → IsNormal (front ++ t ∷ back)
IsNormal-inserted [] back t normal above less some = (some, less, normal)
IsNormal-inserted (u ∷ front) back t normal above less some =
    (normal.0, AreLess-inserted front back t u.0 normal.1 above.0, IsNormal-inserted front back t normal.2 above.1 less some)

pub IsNormal-removed : (front back : List (List ℕ × ℕ)) (t : List ℕ × ℕ) → IsNormal (front ++ t ∷ back) → IsNormal (front ++ back) × AreAbove t.0 front × AreLess back t.0
IsNormal-removed [] back t normal = (normal.2, tt, normal.1)
IsNormal-removed (u ∷ front) back t normal =
    let rest = IsNormal-removed front back t normal.2 in
    let less = AreLess-removed front back t u.0 normal.1 in
    ((normal.0, less.1, rest.0), (less.0, rest.1), rest.2)

pub AreResidues-inserted : (m : ℕ) (front back : List (List ℕ × ℕ)) (t : List ℕ × ℕ) → AreResidues m (front ++ back) → t.1 < m → AreResidues m (front ++ t ∷ back)
AreResidues-inserted m [] back t residues low = (low, residues)
AreResidues-inserted m (u ∷ front) back t residues low = (residues.0, AreResidues-inserted m front back t residues.1 low)

pub AreResidues-removed : (m : ℕ) (front back : List (List ℕ × ℕ)) (t : List ℕ × ℕ) → AreResidues m (front ++ t ∷ back) → AreResidues m (front ++ back) × (t.1 < m)
AreResidues-removed m [] back t residues = (residues.1, residues.0)
AreResidues-removed m (u ∷ front) back t residues =
    let rest = AreResidues-removed m front back t residues.1 in ((residues.0, rest.0), rest.1)

pub Supported-inserted : {A : Type 0} (L : List ℕ → Type 0) (front back : List (List ℕ × A)) (t : List ℕ × A) → Supported L (front ++ back) → L t.0 → Supported L (front ++ t ∷ back)
Supported-inserted L [] back t within here = (here, within)
Supported-inserted L (u ∷ front) back t within here = (within.0, Supported-inserted L front back t within.1 here)

pub Supported-removed : {A : Type 0} (L : List ℕ → Type 0) (front back : List (List ℕ × A)) (t : List ℕ × A) → Supported L (front ++ t ∷ back) → Supported L (front ++ back) × L t.0
Supported-removed L [] back t within = (within.1, within.0)
Supported-removed L (u ∷ front) back t within =
    let rest = Supported-removed L front back t within.1 in ((within.0, rest.0), rest.1)

pub Supported-append : {A : Type 0} (L : List ℕ → Type 0) (p q : List (List ℕ × A)) → Supported L p → Supported L q → Supported L (p ++ q)
Supported-append L [] q within rest = rest
Supported-append L (t ∷ p) q within rest = (within.0, Supported-append L p q within.1 rest)

pub residue-at : (m : ℕ) (p : List (List ℕ × ℕ)) (k : ℕ) (d : List ℕ × ℕ) → AreResidues m p → k < length p → (get_or p k d).1 < m
residue-at m [] k d residues low = absurd (omega arith)
residue-at m (t ∷ p) zero d residues low = residues.0
residue-at m (t ∷ p) (suc k) d residues low = residue-at m p k d residues.1 (omega arith)

pub total_degree-first : (p : List (List ℕ × ℕ)) (t : List ℕ × ℕ) → IsNormal p → Some t ≡ slice_get p 0 → degree t.0 ≡ total_degree p
total_degree-first [] t normal is = let no : Some t ≡ None = is in cc
total_degree-first (u ∷ p) t normal is =
    let here : Some t ≡ Some u = is in
    let same : t ≡ u = cc in
    ap (λ v. degree v.0) same ∙ omega (arith, total_degree-less p u.0 normal.1)
