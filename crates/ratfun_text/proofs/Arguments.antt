-- The tree of a text uses no argument past the last of the names.
use Rattle.std.proofs.Common.{ℕ, ◌+◌, ◌≤◌, ◌==◌, Bool, true, false, not, ◌&&◌, cond, List, [], ◌∷◌, ◌++◌, length, position, Option, Some, None, bytes_eq, subst, sym, arith}
use Rattle.std.specs.Option.{option_map, option_and_then, unwrap_or}
use Rattle.std.specs.Str.{byte}
use Rattle.std.specs.Str.Parse.{digits_value}
use Rattle.std.proofs.lemmas.Bool.Decides.{nat_tests}
use Rattle.std.proofs.Math.Nat.{le-max_left, le-max_right}
use Rattle.ratfun_text.specs.declared.expr.Expr.{Expr}
use Rattle.ratfun_text.specs.declared.names.Names.{Names}
use Rattle.ratfun_text.specs.declared.names.Names.TheVariants.{Listed, Numbered}
use Rattle.ratfun_text.specs.Bytes.{number_below, number_of, narrow}
use Rattle.ratfun_text.specs.Names.{argument_of, begins_with_zero, number_behind_z, last_argument}
use Rattle.ratfun_text.specs.Grammar.{ExprText, TermText, FactorText, PowerText, AtomText, IsTreeOf, sum_of, product_of, terms_of, factors_of, factor_tree, power_tree, atom_tree}
use Rattle.ratfun_text.specs.Grammar.ExprText.{OneTerm, Added}
use Rattle.ratfun_text.specs.Grammar.TermText.{OneFactor, Multiplied}
use Rattle.ratfun_text.specs.Grammar.FactorText.{Negative, Positive}
use Rattle.ratfun_text.specs.Grammar.PowerText.{Plain, Raised}
use Rattle.ratfun_text.specs.Grammar.AtomText.{ANumber, AName, Inner}
use Rattle.ratfun_text.specs.Value.{greatest, greatest_of, placed}
use Rattle.ratfun_text.proofs.Trees.{greatest_number, greatest_arg, greatest_negative, greatest_power, greatest_sum, greatest_product}

position_low : {X : Type 0} (p : X → Bool) (xs : List X) → unwrap_or (option_map (λ place. place + 1) (position p xs)) 0 ≤ length xs
position_low p xs = grind (arith, nat_tests)

narrow_low : (limit n : ℕ) → unwrap_or (narrow (limit + 1) n) 0 ≤ limit
narrow_low limit n = grind (arith, nat_tests)

below_low : (limit : ℕ) (n : Option ℕ) → unwrap_or (option_and_then (narrow (limit + 1)) n) 0 ≤ limit
below_low limit None = omega arith
below_low limit (Some n) = narrow_low limit n

either_low : (limit : ℕ) (b : Bool) (n : Option ℕ) → unwrap_or n 0 ≤ limit → unwrap_or (cond b n None) 0 ≤ limit
either_low limit true n h = h
either_low limit false n h = omega arith

behind_z_low : (name : List ℕ) → unwrap_or (number_behind_z name) 0 ≤ 262144
behind_z_low [] = omega arith
behind_z_low (first ∷ digits) = either_low 262144 (first == byte "z" && not (begins_with_zero digits)) (number_below 262145 digits) (below_low 262144 (number_of digits))

argument_low : (names : Names) (name : List ℕ) → unwrap_or (argument_of names name) 0 ≤ last_argument names
argument_low (Listed names) name = position_low (λ other. bytes_eq other name) names
argument_low Numbered name = behind_z_low name

module _ (n : ℕ) where
  abbrev Uses : List (Bool × Expr) → Type 0
  Uses parts = greatest_of (placed parts) ≤ n

  part_low : (part : Bool × Expr) (rest : List (Bool × Expr)) → Uses (part ∷ rest) → greatest part.1 ≤ n
  part_low part rest h = omega (arith, h, le-max_left (greatest part.1) (greatest_of (placed rest)))

  rest_low : (part : Bool × Expr) (rest : List (Bool × Expr)) → Uses (part ∷ rest) → Uses rest
  rest_low part rest h = omega (arith, h, le-max_right (greatest part.1) (greatest_of (placed rest)))

  uses_more : (parts : List (Bool × Expr)) (flag : Bool) (last : Expr) → Uses parts → greatest last ≤ n → Uses (parts ++ (flag, last) ∷ [])
  uses_more [] flag last h k = omega (arith, k)
  uses_more (part ∷ rest) flag last h k = omega (arith, uses_more rest flag last (rest_low part rest h) k, part_low part rest h)

  sum_low : (parts : List (Bool × Expr)) → Uses parts → greatest (sum_of parts) ≤ n
  sum_low [] h = omega (arith, greatest_sum [])
  sum_low (part ∷ []) h = part_low part [] h
  sum_low (part ∷ next ∷ rest) h = omega (arith, greatest_sum (part ∷ next ∷ rest), h)

  product_low : (parts : List (Bool × Expr)) → Uses parts → greatest (product_of parts) ≤ n
  product_low [] h = omega (arith, greatest_product [])
  product_low (part ∷ []) h = part_low part [] h
  product_low (part ∷ next ∷ rest) h = omega (arith, greatest_product (part ∷ next ∷ rest), h)

module _ (names : Names) where
  mutual
    terms_low : (e : ExprText) → Uses (last_argument names) (terms_of names e)
    terms_low (OneTerm term) = uses_more (last_argument names) [] false (product_of (factors_of names term)) (omega arith) (product_low (last_argument names) (factors_of names term) (factors_low term))
    terms_low (Added e minus term) =
        uses_more (last_argument names) (terms_of names e) minus (product_of (factors_of names term)) (terms_low e) (product_low (last_argument names) (factors_of names term) (factors_low term))

    factors_low : (term : TermText) → Uses (last_argument names) (factors_of names term)
    factors_low (OneFactor factor) = uses_more (last_argument names) [] false (factor_tree names factor) (omega arith) (factor_low factor)
    factors_low (Multiplied term over factor) = uses_more (last_argument names) (factors_of names term) over (factor_tree names factor) (factors_low term) (factor_low factor)

    factor_low : (factor : FactorText) → greatest (factor_tree names factor) ≤ last_argument names
    factor_low (Negative factor) = omega (arith, greatest_negative (factor_tree names factor), factor_low factor)
    factor_low (Positive power) = power_low power

    power_low : (power : PowerText) → greatest (power_tree names power) ≤ last_argument names
    power_low (Plain atom) = atom_low atom
    power_low (Raised atom digits) = omega (arith, greatest_power (atom_tree names atom) (digits_value 10 digits), atom_low atom)

    atom_low : (atom : AtomText) → greatest (atom_tree names atom) ≤ last_argument names
    atom_low (ANumber digits) = omega (arith, greatest_number (digits_value 10 digits))
    atom_low (AName bytes) = omega (arith, greatest_arg (unwrap_or (argument_of names bytes) 0), argument_low names bytes)
    atom_low (Inner e) = sum_low (last_argument names) (terms_of names e) (terms_low e)

-- a tree that a text stands for uses no argument past the last of the names
pub greatest_within : (names : Names) (text : List ℕ) (tree : Expr) → IsTreeOf names text tree → greatest tree ≤ last_argument names
greatest_within names text tree (e, spells, is) = subst (λ (t : Expr). greatest t ≤ last_argument names) (sym is) (sum_low (last_argument names) (terms_of names e) (terms_low names e))
