-- Degrees, products and the order of monomials.
use Rattle.std.proofs.Common.{◌≡◌, ℕ, zero, suc, ◌+◌, ◌*◌, ◌^◌, ◌<◌, ◌≤◌, Bool, true, false, List, [], ◌∷◌, length, get_or, refl, sym, ap, ◌∙◌, arith}
use Rattle.std.proofs.lemmas.Nat.{pow-add}
use Rattle.std.proofs.lemmas.Cmp.{nat_cmp_total, nat_list_cmp_total, on_total, then_total, tied_itself, nat_list_eq_equiv, ranked}
use Rattle.std.proofs.lemmas.Grind.{same_number_lists}
use Rattle.std.specs.declared.cmp.Ordering.{Ordering}
use Rattle.std.specs.declared.cmp.Ordering.TheVariants.{Less, Equal, Greater}
use Rattle.std.specs.Cmp.{IsTotalOrder}
use Rattle.std.specs.Cmp.Lexicographic.{same_text}
use Rattle.std.specs.FinMap.{slice_cmp-IsAntisymmetric, nat_cmp-IsAntisymmetric}
use Rattle.std.specs.Ordering.{ordering_then, ordering_reverse, nat_cmp, MatchOrdering}
use Rattle.std.specs.Cmp.Lexicographic.{slice_cmp}
use Rattle.poly_maps.specs.Mono.{degree, mono_cmp, is_same, mono_product, mono_value}

-- no exponent is above the total degree
pub get_or-degree : (e : List ℕ) (k : ℕ) → get_or e k 0 ≤ degree e
get_or-degree [] k = omega arith
get_or-degree (x ∷ e) zero = omega arith
get_or-degree (x ∷ e) (suc k) = omega (arith, get_or-degree e k)

pub length-mono_product : (e f : List ℕ) → length e ≡ length f → length (mono_product e f) ≡ length e
length-mono_product [] f same = sym same
length-mono_product (k ∷ e) [] same = refl
length-mono_product (k ∷ e) (l ∷ f) same =
    omega (arith, length-mono_product e f (omega arith))

pub get_or-mono_product : (e f : List ℕ) (k : ℕ) → get_or (mono_product e f) k 0 ≡ get_or e k 0 + get_or f k 0
get_or-mono_product [] f k = omega arith
get_or-mono_product (x ∷ e) [] k = omega arith
get_or-mono_product (x ∷ e) (y ∷ f) zero = refl
get_or-mono_product (x ∷ e) (y ∷ f) (suc k) = get_or-mono_product e f k

pub degree-mono_product : (e f : List ℕ) → degree (mono_product e f) ≡ degree e + degree f
degree-mono_product [] f = omega arith
degree-mono_product (x ∷ e) [] = omega arith
degree-mono_product (x ∷ e) (y ∷ f) = omega (arith, degree-mono_product e f)

-- the value of a product is the product of the values
pub mono_value-mono_product : (e f x : List ℕ) → mono_value (mono_product e f) x ≡ mono_value e x * mono_value f x
mono_value-mono_product [] f x = omega arith
mono_value-mono_product (k ∷ e) [] x = omega arith
mono_value-mono_product (k ∷ e) (l ∷ f) [] =
    omega (arith, pow-add 0 k l, ap (λ t. 0 ^ (k + l) * t) (mono_value-mono_product e f []), ap (λ t. t * (mono_value e [] * mono_value f [])) (pow-add 0 k l))
mono_value-mono_product (k ∷ e) (l ∷ f) (a ∷ x) =
    omega (arith, ap (λ t. a ^ (k + l) * t) (mono_value-mono_product e f x), ap (λ t. t * (mono_value e x * mono_value f x)) (pow-add a k l))

-- exponents that are sums place by place are the product's
pub mono_product_by_places : (product e f : List ℕ) → length e ≡ length f → length product ≡ length e →
    ((k : ℕ) → k < length e → get_or product k 0 ≡ get_or e k 0 + get_or f k 0) → product ≡ mono_product e f
mono_product_by_places product e f same long sums =
    same_number_lists product (mono_product e f) (long ∙ sym (length-mono_product e f same)) (λ k low.
    sums k (omega arith) ∙ sym (get_or-mono_product e f k))

-- the order of monomials is total, and none but equal monomials tie
pub mono_total : IsTotalOrder mono_cmp
mono_total = then_total (on_total degree nat_cmp_total) nat_list_cmp_total

pub mono_tied : (e f : List ℕ) → mono_cmp e f ≡ Equal → e ≡ f
mono_tied e f tied = slice_cmp-IsAntisymmetric nat_cmp-IsAntisymmetric e f (second (nat_cmp (degree e) (degree f)) tied)
  where
    second : (o : Ordering) → ordering_then o (slice_cmp nat_cmp e f) ≡ Equal → slice_cmp nat_cmp e f ≡ Equal
    second Less same = cc
    second Equal same = same
    second Greater same = cc

pub mono_itself : (e : List ℕ) → mono_cmp e e ≡ Equal
mono_itself e = tied_itself mono_total e

-- the order read the other way round
pub mono_flip : (e f : List ℕ) → mono_cmp e f ≡ Greater → mono_cmp f e ≡ Less
mono_flip e f above = mono_total.antisymm f e ∙ ap ordering_reverse above

pub mono_flip_less : (e f : List ℕ) → mono_cmp e f ≡ Less → mono_cmp f e ≡ Greater
mono_flip_less e f below = mono_total.antisymm f e ∙ ap ordering_reverse below

-- a lesser monomial's total degree is no greater
pub mono_degree : (e f : List ℕ) → mono_cmp e f ≡ Less → degree e ≤ degree f
mono_degree e f below = first _ (ranked (degree e) (degree f) _ refl) below
  where
    first : (o : Ordering) → MatchOrdering o (degree e < degree f) (degree e ≡ degree f) (degree f < degree e) → ordering_then o (slice_cmp nat_cmp e f) ≡ Less → degree e ≤ degree f
    first Less less same = omega arith
    first Equal tied same = omega arith
    first Greater above same = cc

-- the test of equality
pub is_same-true : (e f : List ℕ) → is_same e f ≡ true → e ≡ f
is_same-true e f same = same_text e f (sym same)

pub is_same-itself : (e : List ℕ) → is_same e e ≡ true
is_same-itself e = nat_list_eq_equiv.refl e

pub is_same-less : (e f : List ℕ) → mono_cmp e f ≡ Less → is_same e f ≡ false
is_same-less e f below = no (is_same e f) refl
  where
    no : (b : Bool) → is_same e f ≡ b → is_same e f ≡ false
    no true same =
        let tied : mono_cmp e f ≡ Equal = ap (mono_cmp e) (sym (is_same-true e f same)) ∙ mono_itself e in
        cc
    no false same = same

pub is_same-symm : (e f : List ℕ) → is_same e f ≡ is_same f e
is_same-symm e f = nat_list_eq_equiv.symm e f
