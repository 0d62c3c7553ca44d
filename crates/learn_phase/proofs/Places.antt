-- What stands at the places of a list.
use Rattle.std.proofs.Common.{◌≡◌, ℕ, zero, suc, ◌+◌, ◌<◌, List, [], ◌∷◌, ◌++◌, length, take, set, Some, refl, sym, ◌∙◌, ap, subst, arith}
use Rattle.std.specs.Prelude.{slice_get}
use Rattle.std.proofs.lemmas.List.{length-take-le, take_more_set}

-- the lists have as many entries, and at each place the same
pub same_lists : {X : Type 0} (xs ys : List X) → length xs ≡ length ys → ((k : ℕ) (x y : X) → slice_get xs k ≡ Some x → slice_get ys k ≡ Some y → x ≡ y) → xs ≡ ys
same_lists [] [] long same = refl
same_lists [] (y ∷ ys) long same = absurd (omega arith)
same_lists (x ∷ xs) [] long same = absurd (omega arith)
same_lists (x ∷ xs) (y ∷ ys) long same = ap (λ h. h ∷ xs) (same 0 x y refl refl) ∙ ap (λ t. y ∷ t) (same_lists xs ys (omega arith) (λ k a b at_x at_y. same (suc k) a b at_x at_y))

-- this holds of each entry and its place
unfoldable pub EachAt : {X : Type 0} → (ℕ → X → Type 0) → List X → Type 0
EachAt {X} P xs = (k : ℕ) (x : X) → slice_get xs k ≡ Some x → P k x

-- one more entry stands behind those of which it holds
pub with_last : {X : Type 0} (P : ℕ → X → Type 0) (xs : List X) (x : X) → EachAt P xs → P (length xs) x → EachAt P (xs ++ x ∷ [])
unfolding EachAt
with_last {X} P [] x each here zero y at = let same : x ≡ y = cc in subst (P 0) same here
with_last P [] x each here (suc k) y at = cc
with_last P (z ∷ xs) x each here zero y at = each zero y at
with_last P (z ∷ xs) x each here (suc k) y at = with_last (λ n. P (suc n)) xs x (λ n w is. each (suc n) w is) here k y at

-- one more entry is written behind those of which it holds
pub EachAt-more : {X : Type 0} (P : ℕ → X → Type 0) (xs : List X) (n : ℕ) (x : X) → n < length xs → EachAt P (take n xs) → P n x → EachAt P (take (n + 1) (set xs n x))
EachAt-more P xs n x below so_far here =
    let long : length (take n xs) ≡ n = length-take-le n xs (omega arith) in
    subst (EachAt P) (sym (take_more_set xs n x below)) (with_last P (take n xs) x so_far (subst (λ (k : ℕ). P k x) (sym long) here))
