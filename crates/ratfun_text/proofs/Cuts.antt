-- Where a text is cut at its first separator.
use Rattle.std.proofs.Common.{◌≡◌, ℕ, ◌==◌, true, false, cond, List, [], ◌∷◌, ◌++◌, refl, ap, ◌∙◌, eq-eqb}
use Rattle.ratfun_text.specs.Reading.{before, behind}

-- the byte stands nowhere in the text
abbrev pub Free : ℕ → List ℕ → Type 0
Free c [] = Unit {0}
Free c (b ∷ text) = ((b == c) ≡ false) × Free c text

pub Free-append : (c : ℕ) (a b : List ℕ) → Free c a → Free c b → Free c (a ++ b)
Free-append c [] b f g = g
Free-append c (x ∷ a) b f g = (f.0, Free-append c a b f.1 g)

pub before-front : (c : ℕ) (a b : List ℕ) → Free c a → before c (a ++ c ∷ b) ≡ a
before-front c [] b f = let same : (c == c) ≡ true = eq-eqb c c refl in ap (λ t. cond t [] (c ∷ before c b)) same
before-front c (x ∷ a) b f = ap (λ t. cond t [] (x ∷ before c (a ++ c ∷ b))) f.0 ∙ ap (λ t. x ∷ t) (before-front c a b f.1)

pub behind-front : (c : ℕ) (a b : List ℕ) → Free c a → behind c (a ++ c ∷ b) ≡ b
behind-front c [] b f = let same : (c == c) ≡ true = eq-eqb c c refl in ap (λ t. cond t b (behind c b)) same
behind-front c (x ∷ a) b f = ap (λ t. cond t (a ++ c ∷ b) (behind c (a ++ c ∷ b))) f.0 ∙ behind-front c a b f.1

pub before-all : (c : ℕ) (a : List ℕ) → Free c a → before c a ≡ a
before-all c [] f = refl
before-all c (x ∷ a) f = ap (λ t. cond t [] (x ∷ before c a)) f.0 ∙ ap (λ t. x ∷ t) (before-all c a f.1)

pub behind-all : (c : ℕ) (a : List ℕ) → Free c a → behind c a ≡ []
behind-all c [] f = refl
behind-all c (x ∷ a) f = ap (λ t. cond t a (behind c a)) f.0 ∙ behind-all c a f.1
