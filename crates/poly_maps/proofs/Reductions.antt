-- Polynomials over the rational numbers, and what they leave modulo m.
use Rattle.std.proofs.Common.{◌≡◌, ℕ, zero, suc, ◌+◌, Bool, true, false, if◌then◌else◌, Option, Some, None, List, [], ◌∷◌, refl, ap, ◌∙◌, subst, arith}
use Rattle.std.specs.declared.cmp.Ordering.TheVariants.{Less}
use Rattle.poly_maps.specs.Mono.{mono_cmp, is_same}
use Rattle.poly_maps.specs.Polynomial.{coefficient, AreLess, Descends, IsNormal}
use Rattle.poly_maps.specs.Fraction.{fraction_at}
use Rattle.poly_maps.specs.Reduced.{residue, residues, with_term}
use Rattle.poly_maps.specs.declared.fraction.Frac.{Frac}
use Rattle.poly_maps.proofs.MonoLemmas.{is_same-true}
use Rattle.poly_maps.proofs.Fractions.{fraction_at-less}

-- what a fraction leaves; where there is none, nothing
abbrev pub left_by : ℕ → Option Frac → ℕ
left_by m None = 0
left_by m (Some f) = residue m f

coefficient-with_term : (e f : List ℕ) (c : ℕ) (p : List (List ℕ × ℕ)) → coefficient e (with_term f c p) ≡ (if is_same f e then c else 0) + coefficient e p
coefficient-with_term e f zero p = by (is_same f e)
  where
    by : (b : Bool) → coefficient e p ≡ (if b then 0 else 0) + coefficient e p
    by true = omega arith
    by false = omega arith
coefficient-with_term e f (suc c) p = refl

-- the coefficients of what is left
pub coefficient-residues : (m : ℕ) (e : List ℕ) (p : List (List ℕ × Frac)) → Descends p → coefficient e (residues m p) ≡ left_by m (fraction_at e p)
coefficient-residues m e [] descends = refl
coefficient-residues m e (t ∷ p) descends =
    coefficient-with_term e t.0 (residue m t.1) (residues m p) ∙ by (is_same t.0 e) refl (coefficient-residues m e p descends.1)
  where
    by : (b : Bool) → is_same t.0 e ≡ b → coefficient e (residues m p) ≡ left_by m (fraction_at e p) →
        (if b then residue m t.1 else 0) + coefficient e (residues m p) ≡ left_by m (if b then Some t.1 else fraction_at e p)
    by true same rest =
        let none : fraction_at e p ≡ None = fraction_at-less p e (subst (AreLess p) (is_same-true t.0 e same) descends.0) in
        omega (arith, rest, ap (left_by m) none)
    by false other rest = omega (arith, rest)

AreLess-with_term : (e f : List ℕ) (c : ℕ) (p : List (List ℕ × ℕ)) → mono_cmp f e ≡ Less → AreLess p e → AreLess (with_term f c p) e
AreLess-with_term e f zero p below less = less
AreLess-with_term e f (suc c) p below less = (below, less)

AreLess-residues : (m : ℕ) (e : List ℕ) (p : List (List ℕ × Frac)) → AreLess p e → AreLess (residues m p) e
AreLess-residues m e [] less = tt
AreLess-residues m e (t ∷ p) less = AreLess-with_term e t.0 (residue m t.1) (residues m p) less.0 (AreLess-residues m e p less.1)

IsNormal-with_term : (f : List ℕ) (c : ℕ) (p : List (List ℕ × ℕ)) → AreLess p f → IsNormal p → IsNormal (with_term f c p)
IsNormal-with_term f zero p less normal = normal
IsNormal-with_term f (suc c) p less normal = (λ wrong. omega (arith, wrong), less, normal)

-- what is left is a polynomial without zeros
pub IsNormal-residues : (m : ℕ) (p : List (List ℕ × Frac)) → Descends p → IsNormal (residues m p)
IsNormal-residues m [] descends = tt
IsNormal-residues m (t ∷ p) descends =
    IsNormal-with_term t.0 (residue m t.1) (residues m p) (AreLess-residues m t.0 p descends.0) (IsNormal-residues m p descends.1)

-- a fraction behind the first term is the fraction at its monomial
pub fraction-behind : (t : List ℕ × Frac) (p : List (List ℕ × Frac)) (e : List ℕ) (f : Frac) → AreLess p t.0 → fraction_at e p ≡ Some f → fraction_at e (t ∷ p) ≡ Some f
fraction-behind t p e f less is = by (is_same t.0 e) refl
  where
    by : (b : Bool) → is_same t.0 e ≡ b → (if b then Some t.1 else fraction_at e p) ≡ Some f
    by true same =
        let none : fraction_at e p ≡ None = fraction_at-less p e (subst (AreLess p) (is_same-true t.0 e same) less) in cc
    by false other = is
