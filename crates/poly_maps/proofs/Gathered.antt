-- Sums over the first terms of a list, and over its terms in another order.
use Rattle.std.proofs.Common.{◌≡◌, ℕ, zero, suc, ◌+◌, ◌*◌, ◌%◌, ◌<◌, ◌≤◌, if◌then◌else◌, Bool, true, false, List, [], ◌∷◌, ◌++◌, length, get_or, take, All, refl, sym, ap, ◌∙◌, append_assoc, append-nil, arith}
use Rattle.prime_field.proofs.Residues.{add-cong}
use Rattle.std.proofs.Math.Nat.{mod-add-mod, mod-mod}
use Rattle.std.proofs.lemmas.Nat.{mod_below}
use Rattle.std.proofs.lemmas.List.{take_more}
use Rattle.std.proofs.lemmas.List.Sums.{sum_by-cons}
use Rattle.std.proofs.lemmas.List.Sorted.{sum_by-IsPermutation, All-permutation}
use Rattle.std.specs.Prelude.{IsPermutation}
use Rattle.std.specs.List.{sum_by}
use Rattle.poly_maps.specs.Mono.{degree, is_same, mono_product}
use Rattle.poly_maps.specs.Polynomial.{coefficient, AreResidues, term_times, product_of, reduced, total_degree}
use Rattle.poly_maps.proofs.Terms.{coefficient-append, residue-at}

-- ---- another order

coefficient-sum_by : (e : List ℕ) (p : List (List ℕ × ℕ)) → coefficient e p ≡ sum_by (λ t. if is_same t.0 e then t.1 else 0) p
coefficient-sum_by e [] = refl
coefficient-sum_by e (t ∷ p) =
    ap (λ n. (if is_same t.0 e then t.1 else 0) + n) (coefficient-sum_by e p) ∙ sym (sum_by-cons (λ t. if is_same t.0 e then t.1 else 0) t p)

pub coefficient-permutation : (e : List ℕ) (p q : List (List ℕ × ℕ)) → IsPermutation p q → coefficient e q ≡ coefficient e p
coefficient-permutation e p q same =
    coefficient-sum_by e q ∙ sum_by-IsPermutation (λ t. if is_same t.0 e then t.1 else 0) p q same ∙ sym (coefficient-sum_by e p)

AreResidues-from_all : (m : ℕ) (p : List (List ℕ × ℕ)) → All (λ t. t.1 < m) p → AreResidues m p
AreResidues-from_all m [] all = tt
AreResidues-from_all m (t ∷ p) all =
    (all 0 t (omega arith), AreResidues-from_all m p (λ k d low. all (suc k) d (omega arith)))

pub AreResidues-permutation : (m : ℕ) (p q : List (List ℕ × ℕ)) → IsPermutation p q → AreResidues m p → AreResidues m q
AreResidues-permutation m p q same residues =
    AreResidues-from_all m q (All-permutation (λ t. t.1 < m) p q same (λ k d low. residue-at m p k d residues low))

-- ---- one term more

pub coefficient-take_more : (e : List ℕ) (p : List (List ℕ × ℕ)) (k : ℕ) (t : List ℕ × ℕ) → k < length p → t ≡ get_or p k t →
    coefficient e (take (k + 1) p) ≡ coefficient e (take k p) + (if is_same t.0 e then t.1 else 0)
coefficient-take_more e p k t low is =
    ap (coefficient e) (take_more p k t low ∙ ap (λ u. take k p ++ u ∷ []) (sym is)) ∙ coefficient-append e (take k p) (t ∷ []) ∙ omega arith

-- a sum that is taken modulo m after each term
pub sum_more : (m total before more part : ℕ) → before ≡ part % m → total ≡ (before + more) % m → total ≡ (part + more) % m
sum_more m total before more part was is =
    is ∙ ap (λ n. (n + more) % m) was ∙ mod-add-mod part m more

-- ---- products term by term

pub term_times-append : (t : List ℕ × ℕ) (p q : List (List ℕ × ℕ)) → term_times t (p ++ q) ≡ term_times t p ++ term_times t q
term_times-append t [] q = refl
term_times-append t (u ∷ p) q = ap (λ r. (mono_product t.0 u.0, t.1 * u.1) ∷ r) (term_times-append t p q)

pub product_of-append : (p q r : List (List ℕ × ℕ)) → product_of (p ++ q) r ≡ product_of p r ++ product_of q r
product_of-append [] q r = refl
product_of-append (t ∷ p) q r = ap (λ s. term_times t r ++ s) (product_of-append p q r) ∙ sym (append_assoc (term_times t r) (product_of p r) (product_of q r))

pub reduced-append : (m : ℕ) (p q : List (List ℕ × ℕ)) → reduced m (p ++ q) ≡ reduced m p ++ reduced m q
reduced-append m [] q = refl
reduced-append m (t ∷ p) q = ap (λ r. (t.0, t.1 % m) ∷ r) (reduced-append m p q)

-- one product more
pub products_more : (m : ℕ) (t u : List ℕ × ℕ) (others first products : List (List ℕ × ℕ)) (k : ℕ) → k < length others → u ≡ get_or others k u →
    products ≡ first ++ reduced m (term_times t (take k others)) →
    products ++ (mono_product t.0 u.0, (t.1 * u.1) % m) ∷ [] ≡ first ++ reduced m (term_times t (take (k + 1) others))
products_more m t u others first products k low is so_far =
    let term : List (List ℕ × ℕ) = (mono_product t.0 u.0, (t.1 * u.1) % m) ∷ [] in
    let more : take (k + 1) others ≡ take k others ++ u ∷ [] = take_more others k u low ∙ ap (λ v. take k others ++ v ∷ []) (sym is) in
    let whole : reduced m (term_times t (take (k + 1) others)) ≡ reduced m (term_times t (take k others)) ++ term =
    ap (λ p. reduced m (term_times t p)) more ∙ ap (reduced m) (term_times-append t (take k others) (u ∷ [])) ∙ reduced-append m (term_times t (take k others)) (term_times t (u ∷ [])) in
    ap (λ p. p ++ term) so_far ∙ append_assoc first (reduced m (term_times t (take k others))) term ∙ ap (λ p. first ++ p) (sym whole)

-- the products of one term more
pub rows_more : (m : ℕ) (p others products : List (List ℕ × ℕ)) (t : List ℕ × ℕ) (k : ℕ) → k < length p → t ≡ get_or p k t →
    products ≡ reduced m (product_of (take k p) others) → products ++ reduced m (term_times t others) ≡ reduced m (product_of (take (k + 1) p) others)
rows_more m p others products t k low is so_far =
    let more : take (k + 1) p ≡ take k p ++ t ∷ [] = take_more p k t low ∙ ap (λ v. take k p ++ v ∷ []) (sym is) in
    let row : product_of (t ∷ []) others ≡ term_times t others = append-nil (term_times t others) in
    ap (λ q. q ++ reduced m (term_times t others)) so_far ∙ sym (reduced-append m (product_of (take k p) others) (term_times t others)) ∙
    ap (λ q. reduced m (product_of (take k p) others ++ q)) (sym row) ∙ ap (reduced m) (sym (product_of-append (take k p) (t ∷ []) others)) ∙ ap (λ q. reduced m (product_of q others)) (sym more)

pub AreResidues-reduced : (m : ℕ) (p : List (List ℕ × ℕ)) → 0 < m → AreResidues m (reduced m p)
AreResidues-reduced m [] some = tt
AreResidues-reduced m (t ∷ p) some = (mod_below t.1 m some, AreResidues-reduced m p some)

pub coefficient-reduced : (m : ℕ) (e : List ℕ) (p : List (List ℕ × ℕ)) → coefficient e (reduced m p) % m ≡ coefficient e p % m
coefficient-reduced m e [] = refl
coefficient-reduced m e (t ∷ p) =
    add-cong m (if is_same t.0 e then t.1 % m else 0) (if is_same t.0 e then t.1 else 0) (coefficient e (reduced m p)) (coefficient e p) (here (is_same t.0 e)) (coefficient-reduced m e p)
  where
    here : (b : Bool) → (if b then t.1 % m else 0) % m ≡ (if b then t.1 else 0) % m
    here true = mod-mod t.1 m
    here false = refl

-- a term's total degree is at most the greatest
pub degree-at : (p : List (List ℕ × ℕ)) (k : ℕ) (d : List ℕ × ℕ) → k < length p → degree (get_or p k d).0 ≤ total_degree p
degree-at [] k d low = absurd (omega arith)
degree-at (t ∷ p) zero d low = omega arith
degree-at (t ∷ p) (suc k) d low = omega (arith, degree-at p k d (omega arith))
