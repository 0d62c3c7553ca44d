-- What stands at the places of a list.
use Rattle.std.proofs.Common.{◌≡◌, ℕ, zero, suc, ◌<◌, List, [], ◌∷◌, length, get_or, Some, refl, subst, arith}
use Rattle.std.specs.Prelude.{slice_get}
use Rattle.std.proofs.lemmas.Option.{get_or_from_slice_get, slice_get_read}

-- what was read there stands there
pub read_at : {X : Type 0} (all xs : List X) (place : ℕ) (x : X) → all ≡ xs → place < length all → x ≡ get_or all place x → slice_get xs place ≡ Some x
read_at {X} all xs place x same below is = subst (λ (ys : List X). slice_get ys place ≡ Some x) same (slice_get_read all (length all) place x refl below is)

pub index_at : {X : Type 0} (all xs : List X) (place : ℕ) (x d : X) → all ≡ xs → place < length all → x ≡ get_or all place x → get_or xs place d ≡ x
index_at all xs place x d same below is = get_or_from_slice_get xs place x d (read_at all xs place x same below is)

-- at each place of a list something stands
pub stands : {X : Type 0} (xs : List X) (n : ℕ) → n < length xs → (x : X) × (slice_get xs n ≡ Some x)
stands [] n below = absurd (omega arith)
stands (x ∷ xs) zero below = (x, refl)
stands (x ∷ xs) (suc n) below = stands xs n (omega arith)
