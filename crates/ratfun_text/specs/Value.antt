-- The value of an expression modulo m, and the arguments that it uses.
use Rattle.std.specs.Prelude.{ℕ, zero, suc, ◌+◌, ◌-◌, ◌*◌, ◌%◌, ◌^◌, max, Bool, if◌then◌else◌, List, [], ◌∷◌, map, slice_get, Option, Some, None, option_map, option_and_then}
use Rattle.prime_field.specs.Residue.{inverse}
use Rattle.ratfun_text.specs.declared.expr.Expr.{Expr}
use Rattle.ratfun_text.specs.declared.expr.Expr.TheOpen.{Expr-F}
use Rattle.ratfun_text.specs.declared.expr.Expr.TheFolds.{fold-Expr}

-- the argument at a place counted from 1
abbrev pub argument : List ℕ → ℕ → Option ℕ
argument args zero = None
argument args (suc place) = slice_get args place

-- the total with the parts' values added in their order, those with `true` taken off
abbrev pub sum_from : ℕ → ℕ → List (Bool × Option ℕ) → Option ℕ
sum_from m total [] = Some total
sum_from m total (part ∷ rest) = option_and_then (λ value. sum_from m ((total + (if part.0 then m - value else value)) % m) rest) part.1

-- what a product takes for a part with this value: the inverse where it divides
abbrev pub factor : ℕ → Bool → ℕ → Option ℕ
factor m over value = if over then inverse m value else Some value

-- the total times the parts' factors in their order
abbrev pub product_from : ℕ → ℕ → List (Bool × Option ℕ) → Option ℕ
product_from m total [] = Some total
product_from m total (part ∷ rest) = option_and_then (λ value. product_from m ((total * value) % m) rest) (option_and_then (factor m part.0) part.1)

-- the value of an expression whose parts stand for their values
abbrev pub value_step : ℕ → List ℕ → Expr-F (Option ℕ) → Option ℕ
value_step m args (Expr-F.Number n) = Some (n % m)
value_step m args (Expr-F.Arg place) = argument args place
value_step m args (Expr-F.Neg part) = option_map (λ value. (m - value) % m) part
value_step m args (Expr-F.Pow base exponent) = option_map (λ value. (value ^ exponent) % m) base
value_step m args (Expr-F.Sum parts) = sum_from m 0 parts
value_step m args (Expr-F.Prod parts) = product_from m 1 parts

-- the value of an expression, if it has one: a part without a value leaves the whole without one, and so does a divisor that is no unit
abbrev pub value : ℕ → List ℕ → Expr → Option ℕ
value m args = fold-Expr (Option ℕ) (value_step m args)

-- the parts with their values
abbrev pub valued : ℕ → List ℕ → List (Bool × Expr) → List (Bool × Option ℕ)
valued m args = map (λ part. (part.0, value m args part.1))

-- the greatest of the parts' numbers, 0 where there is no part
abbrev pub greatest_of : List (Bool × ℕ) → ℕ
greatest_of [] = 0
greatest_of (part ∷ rest) = max part.1 (greatest_of rest)

-- the greatest place that an expression uses, whose parts stand for theirs
abbrev pub greatest_step : Expr-F ℕ → ℕ
greatest_step (Expr-F.Number n) = 0
greatest_step (Expr-F.Arg place) = place
greatest_step (Expr-F.Neg part) = part
greatest_step (Expr-F.Pow base exponent) = base
greatest_step (Expr-F.Sum parts) = greatest_of parts
greatest_step (Expr-F.Prod parts) = greatest_of parts

-- the greatest place of an argument that an expression uses, 0 where it uses none
abbrev pub greatest : Expr → ℕ
greatest = fold-Expr ℕ greatest_step

-- the parts with the greatest places that they use
abbrev pub placed : List (Bool × Expr) → List (Bool × ℕ)
placed = map (λ part. (part.0, greatest part.1))
