-- What the lifting of one polynomial keeps: each monomial is still ahead, or it is done.
use Rattle.std.proofs.Common.{◌≡◌, ℕ, ◌+◌, ◌*◌, ◌%◌, ◌<◌, ◌≤◌, ◌⊎◌, inl, inr, Bool, true, false, if◌then◌else◌, Option, Some, None, List, [], ◌∷◌, ℤ, pos, negsuc, unsigned_abs, refl, sym, ◌∙◌, ap, subst, arith}
use Rattle.std.proofs.Math.Nat.{zero-mod}
use Rattle.std.proofs.Common.{slice_get}
use Rattle.std.specs.declared.cmp.Ordering.{Ordering}
use Rattle.std.specs.declared.cmp.Ordering.TheVariants.{Less, Equal, Greater}
use Rattle.prime_field.specs.Modulus.{value_of}
use Rattle.prime_field.specs.Residue.{inverse}
use Rattle.prime_field.specs.declared.Modulus.{Modulus}
use Rattle.prime_field.specs.declared.Modulus.TheVariants.{First, Second}
use Rattle.poly_maps.specs.Mono.{mono_cmp, is_same}
use Rattle.poly_maps.specs.Polynomial.{coefficient, AreLess, AreResidues, Descends, IsNormal}
use Rattle.poly_maps.specs.Fraction.{IsFraction, IsRational, fraction_at}
use Rattle.poly_maps.specs.Reduced.{or_zero, residue, residues, HaveUnits}
use Rattle.poly_maps.specs.declared.fraction.Frac.{Frac}
use Rattle.poly_maps.proofs.MonoLemmas.{mono_total, mono_tied, mono_flip, is_same-true, is_same-itself}
use Rattle.poly_maps.proofs.Terms.{coefficient-less, coefficient-residue, AreLess-trans}
use Rattle.poly_maps.proofs.Pinned.{same_map, leading_some}
use Rattle.poly_maps.proofs.Fractions.{first-fraction}
use Rattle.poly_maps.proofs.Reductions.{left_by, coefficient-residues, IsNormal-residues, fraction-behind}
use Rattle.rational_lift.specs.Lifting.{AreInside, Recovers}
use Rattle.rational_lift.specs.Parts.{by_modulus, at_both, IsPartLifted, AtMost, IsTop, behind}
use Rattle.rational_lift.specs.declared.coeff.Coeff.{Coeff}
use Rattle.rational_lift.proofs.Lifts.{IsGood, recovered_by}
use Rattle.rational_lift.proofs.Ratios.{IsLiftable}

-- ---- terms behind a monomial

AtMost-less : (p : List (List ℕ × ℕ)) (e f : List ℕ) → IsNormal p → AtMost e p → mono_cmp e f ≡ Less → AreLess p f
AtMost-less [] e f normal low below = tt
AtMost-less (t ∷ p) e f normal (inl same) below =
    let first : mono_cmp t.0 f ≡ Less = ap (λ g. mono_cmp g f) same ∙ below in
    (first, AreLess-trans p t.0 f normal.1 first)
AtMost-less (t ∷ p) e f normal (inr less) below =
    let first : mono_cmp t.0 f ≡ Less = mono_total.trans t.0 e f less below in
    (first, AreLess-trans p t.0 f normal.1 first)

normal-behind : (e : List ℕ) (p : List (List ℕ × ℕ)) → IsNormal p → IsNormal (behind e p)
normal-behind e [] normal = tt
normal-behind e (t ∷ p) normal = by (is_same t.0 e)
  where
    by : (b : Bool) → IsNormal (if b then p else t ∷ p)
    by true = normal.2
    by false = normal

behind-gone : (e : List ℕ) (p : List (List ℕ × ℕ)) → IsNormal p → AtMost e p → coefficient e (behind e p) ≡ 0
behind-gone e [] normal low = refl
behind-gone e (t ∷ p) normal low = by (is_same t.0 e) refl low
  where
    by : (b : Bool) → is_same t.0 e ≡ b → (t.0 ≡ e) ⊎ (mono_cmp t.0 e ≡ Less) → coefficient e (if b then p else t ∷ p) ≡ 0
    by true same _ = coefficient-less p e (subst (AreLess p) (is_same-true t.0 e same) normal.1)
    by false other (inl same) =
        let is : is_same t.0 e ≡ true = ap (λ g. is_same g e) same ∙ is_same-itself e in
        let wrong : false ≡ true = sym other ∙ is in cc
    by false other (inr less) = coefficient-less (t ∷ p) e (less, AreLess-trans p t.0 e normal.1 less)

behind-others : (e g : List ℕ) (p : List (List ℕ × ℕ)) → is_same e g ≡ false → coefficient g (behind e p) ≡ coefficient g p
behind-others e g [] other = refl
behind-others e g (t ∷ p) other = by (is_same t.0 e) refl
  where
    by : (b : Bool) → is_same t.0 e ≡ b → coefficient g (if b then p else t ∷ p) ≡ coefficient g (t ∷ p)
    by true same =
        let none : is_same t.0 g ≡ false = ap (λ h. is_same h g) (is_same-true t.0 e same) ∙ other in
        sym (ap (λ b. (if b then t.1 else 0) + coefficient g p) none ∙ omega arith)
    by false differs = refl

-- ---- ahead, or done

pub record IsAhead (first second left right : List (List ℕ × ℕ)) (lifted : List (List ℕ × Frac)) (e : List ℕ) : Type 0 where
  pub one : coefficient e left ≡ coefficient e first
  pub two : coefficient e right ≡ coefficient e second
  pub absent : fraction_at e lifted ≡ None

pub record IsDone (c : Coeff) (first second left right : List (List ℕ × ℕ)) (lifted : List (List ℕ × Frac)) (e : List ℕ) : Type 0 where
  pub one : coefficient e left ≡ 0
  pub two : coefficient e right ≡ 0
  pub good : IsGood c (fraction_at e lifted)
  pub leaves : (m : Modulus) → left_by (value_of m) (fraction_at e lifted) ≡ at_both first second e m

pub record Going (c : Coeff) (first second left right : List (List ℕ × ℕ)) (lifted : List (List ℕ × Frac)) : Type 0 where
  pub one : IsNormal left
  pub two : IsNormal right
  pub each : (e : List ℕ) → IsAhead first second left right lifted e ⊎ IsDone c first second left right lifted e

pub going-start : (c : Coeff) (first second : List (List ℕ × ℕ)) → IsNormal first → IsNormal second → Going c first second first second []
going-start c first second one two = record { one = one; two = two; each = λ e. inl (record { one = refl; two = refl; absent = refl }) }

-- the greatest monomial is ahead
top_some : (left right : List (List ℕ × ℕ)) (e : List ℕ) → IsNormal left → IsNormal right → IsTop left right e → coefficient e left ≡ 0 → coefficient e right ≡ 0 → ⊥
top_some left right e one two top left_none right_none = elim top.some [
  | inl first ↦ leading_some left e one first left_none
  | inr first ↦ leading_some right e two first right_none
]

pub top_ahead : (c : Coeff) (first second left right : List (List ℕ × ℕ)) (lifted : List (List ℕ × Frac)) (e : List ℕ) → Going c first second left right lifted → IsTop left right e → IsAhead first second left right lifted e
top_ahead c first second left right lifted e going top = elim (going.each e) [
  | inl ahead ↦ ahead
  | inr done ↦ absurd (top_some left right e going.one going.two top done.one done.two)
]

-- a fraction that leaves its two coefficients isn't zero
zero-number : (z : ℤ) → unsigned_abs z ≡ 0 → z ≡ pos 0
zero-number (pos n) none = ap pos none
zero-number (negsuc n) none = absurd (omega (arith, none))

zero-residue : (m : ℕ) (f : Frac) → unsigned_abs f.num ≡ 0 → residue m f ≡ 0
zero-residue m f none =
    let is : f.num ≡ pos 0 = zero-number f.num none in
    ap (λ z. residue m (record { num = z; den = f.den })) is ∙ ap (λ t. t % m) (omega (arith, ap (λ t. t * or_zero (inverse m f.den)) (zero-mod m))) ∙ zero-mod m

pub top-fraction : (c : Coeff) (first second left right : List (List ℕ × ℕ)) (lifted : List (List ℕ × Frac)) (e : List ℕ) (f : Frac) → Going c first second left right lifted → IsTop left right e → IsLiftable c f →
    ((m : Modulus) → residue (value_of m) f ≡ at_both first second e m) → IsFraction f
top-fraction c first second left right lifted e f going top liftable leaves =
    let ahead = top_ahead c first second left right lifted e going top in
    record {
      some = λ none. top_some left right e going.one going.two top (ahead.one ∙ sym (leaves First) ∙ zero-residue (value_of First) f none) (ahead.two ∙ sym (leaves Second) ∙ zero-residue (value_of Second) f none);
      positive = liftable.lowest.positive;
      lowest = liftable.lowest.lowest;
    }

-- the monomials above it have fractions
pub top_earlier : (c : Coeff) (first second left right : List (List ℕ × ℕ)) (lifted : List (List ℕ × Frac)) (e : List ℕ) → 1 ≤ c.den → Going c first second left right lifted → IsTop left right e →
    (f : List ℕ) → mono_cmp e f ≡ Less → Recovers c (at_both first second f)
top_earlier c first second left right lifted e some going top f above = by (going.each f)
  where
    left_none : coefficient f left ≡ 0
    left_none = coefficient-less left f (AtMost-less left e f going.one top.left_low above)

    right_none : coefficient f right ≡ 0
    right_none = coefficient-less right f (AtMost-less right e f going.two top.right_low above)

    nothing : IsAhead first second left right lifted f → (m : Modulus) → 0 ≡ at_both first second f m
    nothing ahead First = sym left_none ∙ ahead.one
    nothing ahead Second = sym right_none ∙ ahead.two

    by : IsAhead first second left right lifted f ⊎ IsDone c first second left right lifted f → Recovers c (at_both first second f)
    by (inl ahead) = recovered_by c (at_both first second f) None some tt (nothing ahead)
    by (inr done) = recovered_by c (at_both first second f) (fraction_at f lifted) some done.good done.leaves

-- one monomial done
pub going-next : (c : Coeff) (first second left right : List (List ℕ × ℕ)) (lifted new : List (List ℕ × Frac)) (e : List ℕ) (f : Frac) → Going c first second left right lifted → IsTop left right e → IsFraction f → IsLiftable c f →
    ((m : Modulus) → residue (value_of m) f ≡ at_both first second e m) → ((g : List ℕ) → fraction_at g new ≡ (if is_same e g then Some f else fraction_at g lifted)) →
    Going c first second (behind e left) (behind e right) new
going-next c first second left right lifted new e f going top fraction liftable leaves is = record {
  one = normal-behind e left going.one;
  two = normal-behind e right going.two;
  each = λ g. by g (is_same e g) refl (going.each g);
}
  where
    here : (g : List ℕ) → is_same e g ≡ true → fraction_at g new ≡ Some f
    here g same = is g ∙ ap (λ b. if b then Some f else fraction_at g lifted) same

    there : (g : List ℕ) → is_same e g ≡ false → fraction_at g new ≡ fraction_at g lifted
    there g other = is g ∙ ap (λ b. if b then Some f else fraction_at g lifted) other

    by : (g : List ℕ) (b : Bool) → is_same e g ≡ b → IsAhead first second left right lifted g ⊎ IsDone c first second left right lifted g →
        IsAhead first second (behind e left) (behind e right) new g ⊎ IsDone c first second (behind e left) (behind e right) new g
    by g true same _ =
        let mono : e ≡ g = is_same-true e g same in
        inr (record {
          one = ap (λ h. coefficient h (behind e left)) (sym mono) ∙ behind-gone e left going.one top.left_low;
          two = ap (λ h. coefficient h (behind e right)) (sym mono) ∙ behind-gone e right going.two top.right_low;
          good = subst (IsGood c) (sym (here g same)) (fraction, liftable);
          leaves = λ m. ap (left_by (value_of m)) (here g same) ∙ leaves m ∙ ap (λ h. at_both first second h m) mono;
        })
    by g false other (inl ahead) = inl (record {
      one = behind-others e g left other ∙ ahead.one;
      two = behind-others e g right other ∙ ahead.two;
      absent = there g other ∙ ahead.absent;
    })
    by g false other (inr done) = inr (record {
      one = behind-others e g left other ∙ done.one;
      two = behind-others e g right other ∙ done.two;
      good = subst (IsGood c) (sym (there g other)) done.good;
      leaves = λ m. ap (left_by (value_of m)) (there g other) ∙ done.leaves m;
    })

-- ---- all done

good-inside : (c : Coeff) (o : Option Frac) (f : Frac) → o ≡ Some f → IsGood c o → IsLiftable c f
good-inside c o f is good = (subst (IsGood c) is good).1

all-inside : (c : Coeff) (p : List (List ℕ × Frac)) → Descends p → ((e : List ℕ) (f : Frac) → fraction_at e p ≡ Some f → IsLiftable c f) → AreInside c p
all-inside c [] descends at = tt
all-inside c (t ∷ p) descends at = ((at t.0 t.1 (first-fraction t p)).inside, all-inside c p descends.1 (λ e f is. at e f (fraction-behind t p e f descends.0 is)))

all-units : (c : Coeff) (m : Modulus) (p : List (List ℕ × Frac)) → Descends p → ((e : List ℕ) (f : Frac) → fraction_at e p ≡ Some f → IsLiftable c f) → HaveUnits (value_of m) p
all-units c m [] descends at = tt
all-units c m (t ∷ p) descends at = ((at t.0 t.1 (first-fraction t p)).units m, all-units c m p descends.1 (λ e f is. at e f (fraction-behind t p e f descends.0 is)))

pub going-end : (c : Coeff) (first second : List (List ℕ × ℕ)) (lifted : List (List ℕ × Frac)) → IsRational lifted → IsNormal first → IsNormal second → Going c first second [] [] lifted → IsPartLifted c first second lifted
going-end c first second lifted rational one two going = record {
  rational = rational;
  inside = all-inside c lifted rational.descends (λ e f is. good-inside c (fraction_at e lifted) f is (good e));
  units = λ m. all-units c m lifted rational.descends (λ e f is. good-inside c (fraction_at e lifted) f is (good e));
  residues = λ m. same_map (residues (value_of m) lifted) (by_modulus first second m) (IsNormal-residues (value_of m) lifted rational.descends) (normal m) (λ e.
      coefficient-residues (value_of m) e lifted rational.descends ∙ leaves e m);
}
  where
    normal : (m : Modulus) → IsNormal (by_modulus first second m)
    normal First = one
    normal Second = two

    good : (e : List ℕ) → IsGood c (fraction_at e lifted)
    good e = elim (going.each e) [
      | inl ahead ↦ subst (IsGood c) (sym ahead.absent) tt
      | inr done ↦ done.good
    ]

    nothing : (e : List ℕ) → IsAhead first second [] [] lifted e → (m : Modulus) → 0 ≡ at_both first second e m
    nothing e ahead First = ahead.one
    nothing e ahead Second = ahead.two

    leaves : (e : List ℕ) (m : Modulus) → left_by (value_of m) (fraction_at e lifted) ≡ at_both first second e m
    leaves e m = elim (going.each e) [
      | inl ahead ↦ ap (left_by (value_of m)) ahead.absent ∙ nothing e ahead m
      | inr done ↦ done.leaves m
    ]

-- the coefficients are residues
pub left-low : (first second : List (List ℕ × ℕ)) (e : List ℕ) → IsNormal first → IsNormal second → AreResidues (value_of First) first → AreResidues (value_of Second) second → (m : Modulus) → at_both first second e m < value_of m
left-low first second e one two low_one low_two First = coefficient-residue (value_of First) e first (omega arith) one low_one
left-low first second e one two low_one low_two Second = coefficient-residue (value_of Second) e second (omega arith) two low_two

-- the first monomial of the first list, unless it is less than the other's
pub top_first : (left right : List (List ℕ × ℕ)) (t u : List ℕ × ℕ) → Some t ≡ slice_get left 0 → Some u ≡ slice_get right 0 → (mono_cmp t.0 u.0 ≡ Less → ⊥) → IsTop left right t.0
top_first [] right t u first second not_less = let wrong : Some t ≡ None = first in cc
top_first (x ∷ left) [] t u first second not_less = let wrong : Some u ≡ None = second in cc
top_first (x ∷ left) (y ∷ right) t u first second not_less =
    let first_is : Some t ≡ Some x = first in
    let second_is : Some u ≡ Some y = second in
    let t_is : t ≡ x = cc in
    let u_is : u ≡ y = cc in
    record {
      some = inl (ap (λ v. Some v.0) (sym t_is));
      left_low = inl (ap (λ v. v.0) (sym t_is));
      right_low = subst (λ v. (v.0 ≡ t.0) ⊎ (mono_cmp v.0 t.0 ≡ Less)) u_is (by (mono_cmp t.0 u.0) refl);
    }
  where
    by : (o : Ordering) → mono_cmp t.0 u.0 ≡ o → (u.0 ≡ t.0) ⊎ (mono_cmp u.0 t.0 ≡ Less)
    by Less is = absurd (not_less is)
    by Equal is = inl (sym (mono_tied t.0 u.0 is))
    by Greater is = inr (mono_flip t.0 u.0 is)
