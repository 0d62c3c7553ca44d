-- The names x and y.
use Rattle.std.proofs.Common.{◌≡◌, ℕ, zero, suc, List, [], ◌∷◌, Option, Some, None, slice_index, refl, sym, ap, ◌∙◌, arith, slice_get, IsTrue}
use Rattle.ratfun_text.specs.Bytes.{is_name}
use Rattle.ratfun_text.specs.Printed.{AreVariables}

abbrev both : List (List ℕ)
both = (120 ∷ []) ∷ (121 ∷ []) ∷ []

named : (k : ℕ) (name : List ℕ) → slice_get both k ≡ Some name → IsTrue (is_name name)
named zero name there = let is : 120 ∷ [] ≡ name = cc in ap is_name (sym is)
named (suc zero) name there = let is : 121 ∷ [] ≡ name = cc in ap is_name (sym is)
named (suc (suc k)) name there = cc

abbrev head_of : Option (List ℕ) → ℕ
head_of None = 0
head_of (Some name) = slice_index name 0

apart : (i j : ℕ) (name : List ℕ) → slice_get both i ≡ Some name → slice_get both j ≡ Some name → i ≡ j
apart zero zero name first second = refl
apart (suc zero) (suc zero) name first second = refl
apart zero (suc zero) name first second = let no : 120 ≡ 121 = ap head_of (first ∙ sym second) in absurd (omega (arith, no))
apart (suc zero) zero name first second = let no : 121 ≡ 120 = ap head_of (first ∙ sym second) in absurd (omega (arith, no))
apart (suc (suc i)) j name first second = cc
apart zero (suc (suc j)) name first second = cc
apart (suc zero) (suc (suc j)) name first second = cc

pub x_and_y : AreVariables ((120 ∷ []) ∷ (121 ∷ []) ∷ [])
x_and_y = record { some = omega arith; few = omega arith; named = named; distinct = apart }
