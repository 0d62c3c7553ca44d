-- Axes whose points are written out: the tests compute.
use Rattle.std.proofs.Common.{◌≡◌, ℕ, zero, suc, ◌<◌, ◌≤◌, Bool, true, false, if◌then◌else◌, nat_lt, List, [], ◌∷◌, length, slice_index, refl, sym, ap, subst, arith}
use Rattle.std.proofs.lemmas.Bool.Decides.{nat_tests}
use Rattle.prime_field.specs.declared.Modulus.{Modulus}
use Rattle.prime_field.specs.declared.Modulus.TheVariants.{First, Second}
use Rattle.prime_field.specs.Modulus.{value_of}
use Rattle.univariate.proofs.Small.{are_near, listed-apart}
use Rattle.newton_interp.specs.Grid.{IsAxis}
use Rattle.newton_interp.specs.GridPoints.{IsNamed}
use Rattle.newton_interp.specs.declared.grid.Axis.{Axis}

-- each entry is below 1000
abbrev pub are_small : List ℕ → Bool
are_small [] = true
are_small (a ∷ p) = if nat_lt a 1000 then are_small p else false

small-at : (p : List ℕ) → are_small p ≡ true → (k : ℕ) → slice_index p k < 1000
small-at [] test k = omega arith
small-at (a ∷ p) test k = by (nat_lt a 1000) refl test (λ rest. small-at p rest) k
  where
    by : (b : Bool) → nat_lt a 1000 ≡ b → (if b then are_small p else false) ≡ true → (are_small p ≡ true → (k : ℕ) → slice_index p k < 1000) → (k : ℕ) → slice_index (a ∷ p) k < 1000
    by true low test rest zero = grind (arith, nat_tests)
    by true low test rest (suc k) = rest test k
    by false low test rest k = cc

large : (m : Modulus) → 1000 < value_of m
large First = omega arith
large Second = omega arith

pub written-axis : (m : Modulus) (items p : List ℕ) → items ≡ p → 0 < length p → are_near p ≡ true → are_small p ≡ true → IsAxis (value_of m) items
written-axis m items p is some near small =
    subst (IsAxis (value_of m)) (sym is)
    (record { some = some; residues = λ k. omega (arith, large m, small-at p small k); apart = listed-apart m p near })

pub written-name : (axis : Axis) (variable : ℕ) (p : List ℕ) → axis.variable ≡ variable → axis.values.items ≡ p → 1 ≤ variable → variable ≤ 8 → 1 ≤ length p → length p ≤ 256 → IsNamed axis
written-name axis variable p named is first last some few =
    record {
      first = omega (arith, named);
      last = omega (arith, named);
      some = omega (arith, ap length is);
      few = omega (arith, ap length is);
    }
