-- Two different letters are names.
use Rattle.std.proofs.Common.{◌≡◌, ◌≢◌, ℕ, zero, suc, ◌≤◌, true, ◌&&◌, List, [], ◌∷◌, length, Some, refl, sym, ap, ◌∙◌, arith, slice_get, IsTrue}
use Rattle.std.specs.Char.{is_ascii_alphabetic}
use Rattle.ratfun_text.specs.Bytes.{is_name}
use Rattle.ratfun_text.specs.Printed.{AreVariables, IsIn}

abbrev two : ℕ → ℕ → List (List ℕ)
two a b = (a ∷ []) ∷ (b ∷ []) ∷ []

names_are : (a b : ℕ) → is_ascii_alphabetic a ≡ true → is_ascii_alphabetic b ≡ true → (k : ℕ) (name : List ℕ) → slice_get (two a b) k ≡ Some name → IsTrue (is_name name)
names_are a b f g zero name h = let is : a ∷ [] ≡ name = cc in ap is_name (sym is) ∙ ap (λ x. x && true) f
names_are a b f g (suc zero) name h = let is : b ∷ [] ≡ name = cc in ap is_name (sym is) ∙ ap (λ x. x && true) g
names_are a b f g (suc (suc k)) name h = cc

apart : (a b : ℕ) → a ≢ b → (i j : ℕ) (name : List ℕ) → slice_get (two a b) i ≡ Some name → slice_get (two a b) j ≡ Some name → i ≡ j
apart a b d zero zero name h k = refl
apart a b d (suc zero) (suc zero) name h k = refl
apart a b d zero (suc zero) name h k = absurd (d (let same : Some (a ∷ []) ≡ Some (b ∷ []) = h ∙ sym k in cc))
apart a b d (suc zero) zero name h k = absurd (d (let same : Some (b ∷ []) ≡ Some (a ∷ []) = h ∙ sym k in cc))
apart a b d (suc (suc i)) j name h k = cc
apart a b d zero (suc (suc j)) name h k = cc
apart a b d (suc zero) (suc (suc j)) name h k = cc

pub two_letters : (a b : ℕ) → is_ascii_alphabetic a ≡ true → is_ascii_alphabetic b ≡ true → a ≢ b → AreVariables ((a ∷ []) ∷ (b ∷ []) ∷ [])
two_letters a b f g d = record { some = omega arith; few = omega arith; named = names_are a b f g; distinct = apart a b d }

-- a monomial in the first two variables
pub first_two : (names : List (List ℕ)) (i j : ℕ) → 2 ≤ length names → IsIn names (i ∷ j ∷ 0 ∷ 0 ∷ 0 ∷ 0 ∷ 0 ∷ 0 ∷ [])
first_two names i j two zero past = absurd (omega arith)
first_two names i j two (suc zero) past = absurd (omega arith)
first_two names i j two (suc (suc zero)) past = refl
first_two names i j two (suc (suc (suc zero))) past = refl
first_two names i j two (suc (suc (suc (suc zero)))) past = refl
first_two names i j two (suc (suc (suc (suc (suc zero))))) past = refl
first_two names i j two (suc (suc (suc (suc (suc (suc zero)))))) past = refl
first_two names i j two (suc (suc (suc (suc (suc (suc (suc zero))))))) past = refl
first_two names i j two (suc (suc (suc (suc (suc (suc (suc (suc k)))))))) past = refl
