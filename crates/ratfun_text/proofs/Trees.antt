-- Lemmas on the value of an expression and on the places that it uses.
use Rattle.std.proofs.Common.{◌≡◌, ℕ, suc, ◌<◌, ◌+◌, ◌*◌, ◌%◌, Bool, List, ◌∷◌, length, drop, get_or, Some, if◌then◌else◌, ◌-◌, add-one, drop-cons, sym, ap, ◌∙◌}
use Rattle.std.specs.Option.{option_and_then}
use Rattle.std.proofs.Math.Nat.{zero-add}
use Rattle.ratfun_text.specs.declared.expr.Expr.{Expr}
use Rattle.ratfun_text.specs.declared.expr.Expr.TheOpen.{Expr-F}
use Rattle.ratfun_text.specs.declared.expr.Expr.TheFolds.{fold-roll-Expr}
use Rattle.ratfun_text.specs.declared.expr.Expr.TheVariants as e
use Rattle.ratfun_text.specs.Value.{factor, sum_from, product_from, value, valued, greatest_step, greatest, greatest_of, placed}

pub greatest_negative : (part : Expr) → greatest (e.Neg part) ≡ greatest part
greatest_negative part = ap greatest (sym (e.rolls-Neg part)) ∙ fold-roll-Expr ℕ greatest_step (Expr-F.Neg part)

pub greatest_power : (base : Expr) (exponent : ℕ) → greatest (e.Pow base exponent) ≡ greatest base
greatest_power base exponent = ap greatest (sym (e.rolls-Pow base exponent)) ∙ fold-roll-Expr ℕ greatest_step (Expr-F.Pow base exponent)

pub greatest_number : (n : ℕ) → greatest (e.Number n) ≡ 0
greatest_number n = ap greatest (sym (e.rolls-Number n)) ∙ fold-roll-Expr ℕ greatest_step (Expr-F.Number n)

pub greatest_arg : (place : ℕ) → greatest (e.Arg place) ≡ place
greatest_arg place = ap greatest (sym (e.rolls-Arg place)) ∙ fold-roll-Expr ℕ greatest_step (Expr-F.Arg place)

pub greatest_sum : (parts : List (Bool × Expr)) → greatest (e.Sum parts) ≡ greatest_of (placed parts)
greatest_sum parts = ap greatest (sym (e.rolls-Sum parts)) ∙ fold-roll-Expr ℕ greatest_step (Expr-F.Sum parts)

pub greatest_product : (parts : List (Bool × Expr)) → greatest (e.Prod parts) ≡ greatest_of (placed parts)
greatest_product parts = ap greatest (sym (e.rolls-Prod parts)) ∙ fold-roll-Expr ℕ greatest_step (Expr-F.Prod parts)

-- the parts from a place on, with their values: first the part there
pub valued-drop : (m : ℕ) (args : List ℕ) (parts : List (Bool × Expr)) (i : ℕ) (part : Bool × Expr) → i < length parts → part ≡ get_or parts i part
    → valued m args (drop i parts) ≡ (part.0, value m args part.1) ∷ valued m args (drop (i + 1) parts)
valued-drop m args parts i part within is =
    let first : drop i parts ≡ get_or parts i part ∷ drop (suc i) parts = drop-cons parts i part within in
    ap (valued m args) (first ∙ ap (λ p. p ∷ drop (suc i) parts) (sym is) ∙ ap (λ k. part ∷ drop k parts) (sym (add-one i)))

pub product_step : (m : ℕ) (args : List ℕ) (parts : List (Bool × Expr)) (i : ℕ) (part : Bool × Expr) (total v : ℕ) → i < length parts → part ≡ get_or parts i part → value m args part.1 ≡ Some v
    → product_from m total (valued m args (drop i parts)) ≡ option_and_then (λ n. product_from m ((total * n) % m) (valued m args (drop (i + 1) parts))) (factor m part.0 v)
product_step m args parts i part total v within is has =
    let rest = valued m args (drop (i + 1) parts) in
    ap (product_from m total) (valued-drop m args parts i part within is) ∙ ap (λ o. option_and_then (λ n. product_from m ((total * n) % m) rest) (option_and_then (factor m part.0) o)) has

-- a sum that begins with its first part
pub sum_started : (m : ℕ) (args : List ℕ) (parts : List (Bool × Expr)) (part : Bool × Expr) (v : ℕ) → 0 < length parts → part ≡ get_or parts 0 part → value m args part.1 ≡ Some v
    → sum_from m ((if part.0 then m - v else v) % m) (valued m args (drop 1 parts)) ≡ sum_from m 0 (valued m args parts)
sum_started m args parts part v some is has =
    let rest = valued m args (drop 1 parts) in
    sym (ap (sum_from m 0) (valued-drop m args parts 0 part some is) ∙ ap (λ o. sum_from m 0 ((part.0, o) ∷ rest)) has ∙ ap (λ n. sum_from m (n % m) rest) (zero-add (if part.0 then m - v else v)))
