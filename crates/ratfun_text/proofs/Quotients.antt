-- A product whose divisors are put together: one inverse serves for all of them.
use Rattle.std.proofs.Common.{◌≡◌, ℕ, ◌+◌, ◌*◌, ◌%◌, ◌<◌, Bool, true, false, List, [], ◌∷◌, length, drop, get_or, Option, Some, None, refl, sym, ap, ◌∙◌, arith, one-mul, mul-one}
use Rattle.std.specs.Option.{option_map, option_and_then}
use Rattle.std.proofs.Math.Nat.{mod-eq_of_lt, mod-lt}
use Rattle.std.proofs.lemmas.Nat.{mul-mod_first, mul-mod_second}
use Rattle.prime_field.specs.Residue.{inverse}
use Rattle.prime_field.proofs.Residues.{mul-cong}
use Rattle.prime_field.proofs.Units.{inverse_is, inverse_none, inverse-product, inverse-no_unit, unit-cong, unit_of_product}
use Rattle.std.proofs.Math.Nat.{mod-mod}
use Rattle.ratfun_text.specs.declared.expr.Expr.{Expr}
use Rattle.ratfun_text.specs.Value.{product_from, factor, value, valued}
use Rattle.ratfun_text.proofs.Trees.{valued-drop, product_step}

pub inverse_one : (m : ℕ) → 1 < m → inverse m 1 ≡ Some 1
inverse_one m large = inverse_is m 1 1 large (mod-eq_of_lt large)

-- the inverse of a product is the product of the inverses
inverse-mul : (m a b : ℕ) (over_a over_b : Option ℕ) → inverse m a ≡ over_a → inverse m b ≡ over_b → inverse m ((a * b) % m) ≡ option_and_then (λ i. option_map (λ j. (i * j) % m) over_b) over_a
inverse-mul m a b None over_b none_a is_b =
    inverse_none m ((a * b) % m) (λ unit. inverse-no_unit m a none_a (unit_of_product m a b (unit-cong m ((a * b) % m) (a * b) (mod-mod (a * b) m) unit)))
inverse-mul m a b (Some i) None is_a none_b =
    inverse_none m ((a * b) % m) (λ unit. inverse-no_unit m b none_b (unit_of_product m b a (unit-cong m ((a * b) % m) (b * a) (mod-mod (a * b) m ∙ ap (λ t. t % m) (omega arith)) unit)))
inverse-mul m a b (Some i) (Some j) is_a is_b =
    let left = inverse-product m a i is_a in
    let right = inverse-product m b j is_b in
    let one : 1 % m ≡ 1 = mod-eq_of_lt (omega (arith, left.0, left.1)) in
    inverse_is m ((a * b) % m) ((i * j) % m) (mod-lt (i * j) (omega (arith, left.0)))
    (mul-mod_first (a * b) ((i * j) % m) m ∙ mul-mod_second (a * b) (i * j) m ∙ ap (λ t. t % m) (omega arith) ∙
    mul-cong m (a * i) 1 (b * j) 1 (left.1 ∙ sym one) (right.1 ∙ sym one) ∙ one)

-- the rest of a product behind a front with this product and divided by this one
abbrev pub going_on : ℕ → ℕ → ℕ → List (Bool × Option ℕ) → Option ℕ
going_on m above below rest = option_and_then (λ i. product_from m ((above * i) % m) rest) (inverse m below)

-- before the first part
pub going_on-start : (m start : ℕ) (rest : List (Bool × Option ℕ)) → 1 < m → start < m → going_on m start 1 rest ≡ product_from m start rest
going_on-start m start rest large low =
    ap (option_and_then (λ i. product_from m ((start * i) % m) rest)) (inverse_one m large) ∙ ap (λ n. product_from m (n % m) rest) (mul-one start) ∙ ap (λ n. product_from m n rest) (mod-eq_of_lt low)

-- a part without a value
pub going_on-none : (m above below : ℕ) (over : Bool) (rest : List (Bool × Option ℕ)) → going_on m above below ((over, None) ∷ rest) ≡ None
going_on-none m above below over rest = none (inverse m below)
  where
    none : (o : Option ℕ) → option_and_then (λ i. product_from m ((above * i) % m) ((over, None) ∷ rest)) o ≡ None
    none None = refl
    none (Some i) = refl

-- a part that multiplies
pub going_on-factor : (m above below v : ℕ) (rest : List (Bool × Option ℕ)) → going_on m above below ((false, Some v) ∷ rest) ≡ going_on m ((above * v) % m) below rest
going_on-factor m above below v rest = more (inverse m below)
  where
    more : (o : Option ℕ) → option_and_then (λ i. product_from m ((above * i) % m) ((false, Some v) ∷ rest)) o ≡ option_and_then (λ i. product_from m (((above * v) % m * i) % m) rest) o
    more None = refl
    more (Some i) = ap (λ n. product_from m n rest) (mul-mod_first (above * i) v m ∙ ap (λ t. t % m) (omega arith) ∙ sym (mul-mod_first (above * v) i m))

-- a part that divides
pub going_on-divisor : (m above below v : ℕ) (rest : List (Bool × Option ℕ)) → going_on m above below ((true, Some v) ∷ rest) ≡ going_on m above ((below * v) % m) rest
going_on-divisor m above below v rest =
    more (inverse m below) (inverse m v) ∙ sym (ap (option_and_then (λ i. product_from m ((above * i) % m) rest)) (inverse-mul m below v (inverse m below) (inverse m v) refl refl))
  where
    more : (o p : Option ℕ) → option_and_then (λ i. option_and_then (λ j. product_from m (((above * i) % m * j) % m) rest) p) o
        ≡ option_and_then (λ i. product_from m ((above * i) % m) rest) (option_and_then (λ i. option_map (λ j. (i * j) % m) p) o)
    more None p = refl
    more (Some i) None = refl
    more (Some i) (Some j) = ap (λ n. product_from m n rest) (mul-mod_first (above * i) j m ∙ ap (λ t. t % m) (omega arith) ∙ sym (mul-mod_second above (i * j) m))

-- behind the last part
pub going_on-end : (m above below : ℕ) → going_on m above below [] ≡ option_map (λ i. (above * i) % m) (inverse m below)
going_on-end m above below = same (inverse m below)
  where
    same : (o : Option ℕ) → option_and_then (λ i. product_from m ((above * i) % m) []) o ≡ option_map (λ i. (above * i) % m) o
    same None = refl
    same (Some i) = refl

-- the parts from a place on: the part there has a value
pub going_on-next : (m : ℕ) (args : List ℕ) (parts : List (Bool × Expr)) (i : ℕ) (part : Bool × Expr) (above below v : ℕ) → i < length parts → part ≡ get_or parts i part → value m args part.1 ≡ Some v
    → going_on m above below (valued m args (drop i parts)) ≡ going_on m above below ((part.0, Some v) ∷ valued m args (drop (i + 1) parts))
going_on-next m args parts i part above below v within is has =
    ap (going_on m above below) (valued-drop m args parts i part within is ∙ ap (λ o. (part.0, o) ∷ valued m args (drop (i + 1) parts)) has)

-- a product that begins with its first part
pub product_started : (m : ℕ) (args : List ℕ) (parts : List (Bool × Expr)) (part : Bool × Expr) (v : ℕ) → 0 < length parts → part ≡ get_or parts 0 part → part.0 ≡ false → value m args part.1 ≡ Some v → v < m
    → product_from m v (valued m args (drop 1 parts)) ≡ product_from m 1 (valued m args parts)
product_started m args parts part v some is first has low =
    sym (product_step m args parts 0 part 1 v some is has
    ∙ ap (λ b. option_and_then (λ n. product_from m ((1 * n) % m) (valued m args (drop 1 parts))) (factor m b v)) first
    ∙ ap (λ n. product_from m (n % m) (valued m args (drop 1 parts))) (one-mul v)
    ∙ ap (λ n. product_from m n (valued m args (drop 1 parts))) (mod-eq_of_lt low))
