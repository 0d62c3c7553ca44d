-- Pairs that are cross equal agree with the same samples.
use Rattle.std.proofs.Common.{◌≡◌, ℕ, suc, ◌*◌, ◌%◌, All, List, [], ◌∷◌, refl, sym, ap, ◌∙◌, arith}
use Rattle.prime_field.specs.Residue.{IsUnit}
use Rattle.prime_field.proofs.Residues.{mul-cong}
use Rattle.prime_field.proofs.Units.{cancel_unit}
use Rattle.poly_maps.specs.declared.pair.Pair.{Pair}
use Rattle.poly_maps.specs.Pair.{Agrees, CrossEqual}
use Rattle.poly_maps.specs.Polynomial.{value_at, product_of}
use Rattle.poly_maps.proofs.Linear.{value-alike}
use Rattle.poly_maps.proofs.Pinned.{value-product_of}

module _ (m : ℕ) (f g : Pair) (cross : CrossEqual m f g) where
  cross_values : (x : List ℕ) → (value_at f.num x * value_at g.den x) % m ≡ (value_at g.num x * value_at f.den x) % m
  cross_values x =
      ap (λ v. v % m) (sym (value-product_of f.num g.den x)) ∙
      value-alike m (product_of f.num g.den) (product_of g.num f.den) x cross ∙
      ap (λ v. v % m) (value-product_of g.num f.den x)

  agrees_at : (x : List ℕ) (v : ℕ) → IsUnit m (value_at f.den x) → (v * value_at f.den x) % m ≡ value_at f.num x % m → (v * value_at g.den x) % m ≡ value_at g.num x % m
  agrees_at x v unit agrees =
      let turned : (v * value_at g.den x) * value_at f.den x ≡ (v * value_at f.den x) * value_at g.den x = omega arith in
      cancel_unit m (v * value_at g.den x) (value_at g.num x) (value_at f.den x) unit
      (ap (λ w. w % m) turned ∙
      mul-cong m (v * value_at f.den x) (value_at f.num x) (value_at g.den x) (value_at g.den x) agrees refl ∙
      cross_values x)

  pub agrees_too : (xs : List (List ℕ)) (vs : List ℕ) → All (λ x. IsUnit m (value_at f.den x)) xs → Agrees m xs vs f → Agrees m xs vs g
  agrees_too [] [] units agrees = tt
  agrees_too [] (v ∷ vs) units agrees = agrees
  agrees_too (x ∷ xs) [] units agrees = agrees
  agrees_too (x ∷ xs) (v ∷ vs) units agrees = (
    agrees_at x v (units 0 x (omega arith)) agrees.0,
    agrees_too xs vs (λ k d low. units (suc k) d (omega arith)) agrees.1,
  )
