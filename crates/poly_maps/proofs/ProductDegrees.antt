-- Degrees of products and of moved polynomials: at every modulus they are at most what they are without one.
use Rattle.std.proofs.Common.{◌≡◌, ℕ, ◌+◌, ◌%◌, ◌≤◌, List, [], ◌∷◌, get_or, arith}
use Rattle.poly_maps.specs.Mono.{degree, mono_product}
use Rattle.poly_maps.specs.Polynomial.{coefficient, IsNormal, Supported, term_times, product_of, total_degree, degree_in}
use Rattle.poly_maps.specs.Moved.{moved}
use Rattle.poly_maps.proofs.MonoLemmas.{degree-mono_product, get_or-mono_product}
use Rattle.poly_maps.proofs.Terms.{Supported-append}
use Rattle.poly_maps.proofs.Moves.{degree-below, Supported-moved, Supported-coefficients}

-- ---- degrees at most a number, term by term

total_degree-to : (d : ℕ) (p : List (List ℕ × ℕ)) → total_degree p ≤ d → Supported (λ e. degree e ≤ d) p
total_degree-to d [] low = tt
total_degree-to d (t ∷ p) low = (omega arith, total_degree-to d p (omega arith))

total_degree-from : (d : ℕ) (p : List (List ℕ × ℕ)) → Supported (λ e. degree e ≤ d) p → total_degree p ≤ d
total_degree-from d [] low = omega arith
total_degree-from d (t ∷ p) low = omega (arith, low.0, total_degree-from d p low.1)

degree_in-to : (i d : ℕ) (p : List (List ℕ × ℕ)) → degree_in i p ≤ d → Supported (λ e. get_or e i 0 ≤ d) p
degree_in-to i d [] low = tt
degree_in-to i d (t ∷ p) low = (omega arith, degree_in-to i d p (omega arith))

degree_in-from : (i d : ℕ) (p : List (List ℕ × ℕ)) → Supported (λ e. get_or e i 0 ≤ d) p → degree_in i p ≤ d
degree_in-from i d [] low = omega arith
degree_in-from i d (t ∷ p) low = omega (arith, low.0, degree_in-from i d p low.1)

-- ---- products

-- the products of monomials in K with monomials in L are in M
module _ (K L M : List ℕ → Type 0) (closed : (e f : List ℕ) → K e → L f → M (mono_product e f)) where
  Supported-term_times : (t : List ℕ × ℕ) (q : List (List ℕ × ℕ)) → K t.0 → Supported L q → Supported M (term_times t q)
  Supported-term_times t [] here all = tt
  Supported-term_times t (u ∷ q) here all =
      (closed t.0 u.0 here all.0, Supported-term_times t q here all.1)

  Supported-product : (p q : List (List ℕ × ℕ)) → Supported K p → Supported L q → Supported M (product_of p q)
  Supported-product [] q left right = tt
  Supported-product (t ∷ p) q left right =
      Supported-append M (term_times t q) (product_of p q) (Supported-term_times t q left.0 right) (Supported-product p q left.1 right)

pub total_degree-product_most : (m : ℕ) (p q r : List (List ℕ × ℕ)) → IsNormal r → ((e : List ℕ) → coefficient e r ≡ coefficient e (product_of p q) % m) →
    total_degree r ≤ total_degree p + total_degree q
total_degree-product_most m p q r normal same =
    let a : ℕ = total_degree p in
    let b : ℕ = total_degree q in
    total_degree-from (a + b) r
    (Supported-coefficients (λ e. degree e ≤ a + b) m r (product_of p q) normal same
    (Supported-product (λ e. degree e ≤ a) (λ e. degree e ≤ b) (λ e. degree e ≤ a + b)
    (λ e f left right. omega (arith, degree-mono_product e f, left, right)) p q (total_degree-to a p (omega arith)) (total_degree-to b q (omega arith))))

pub degree_in-product_most : (m i : ℕ) (p q r : List (List ℕ × ℕ)) → IsNormal r → ((e : List ℕ) → coefficient e r ≡ coefficient e (product_of p q) % m) →
    degree_in i r ≤ degree_in i p + degree_in i q
degree_in-product_most m i p q r normal same =
    let a : ℕ = degree_in i p in
    let b : ℕ = degree_in i q in
    degree_in-from i (a + b) r
    (Supported-coefficients (λ e. get_or e i 0 ≤ a + b) m r (product_of p q) normal same
    (Supported-product (λ e. get_or e i 0 ≤ a) (λ e. get_or e i 0 ≤ b) (λ e. get_or e i 0 ≤ a + b)
    (λ e f left right. omega (arith, get_or-mono_product e f i, left, right)) p q (degree_in-to i a p (omega arith)) (degree_in-to i b q (omega arith))))

-- ---- moving

pub total_degree-moved : (s : List ℕ) (p : List (List ℕ × ℕ)) → total_degree (moved s p) ≤ total_degree p
total_degree-moved s p =
    let d : ℕ = total_degree p in
    total_degree-from d (moved s p)
    (Supported-moved (λ e. degree e ≤ d) s p (λ e f below low. omega (arith, degree-below e f below, low)) (total_degree-to d p (omega arith)))
