-- What a table of names finds.
use Rattle.std.proofs.Common.{◌≡◌, ◌<◌, ◌≤◌, ℕ, Bool, true, false, cond, refl, sym, ap, ◌∙◌, List, [], ◌∷◌, ◌++◌, length, Some, None, nat_lt, bytes_eq, arith, is_some}
use Rattle.std.specs.List.{position, position_or_len, list_any}
use Rattle.std.specs.Cmp.Lexicographic.{nat_list_eq_equiv}
use Rattle.std.proofs.lemmas.Bool.Decides.{nat_tests}
use Rattle.std.proofs.lemmas.List.Folds.{list_any_at, list_any_none}
use Rattle.std.proofs.lemmas.List.Sums.{passes_at_first, fails_before_first}
use Rattle.indexmap.specs.IndexSet.{insert_key}

-- a name may be compared with the others from either side
pub position-flipped : (name : List ℕ) (names : List (List ℕ)) → position (bytes_eq name) names ≡ position (λ other. bytes_eq other name) names
position-flipped name names = λ j. position (λ other. nat_list_eq_equiv.symm name other j) names

pub any-flipped : (name : List ℕ) (names : List (List ℕ)) → list_any (bytes_eq name) names ≡ list_any (λ other. bytes_eq other name) names
any-flipped name names = λ j. list_any (λ other. nat_list_eq_equiv.symm name other j) names

-- a new name goes behind the others
pub inserted-new : (name : List ℕ) (names : List (List ℕ)) → list_any (λ other. bytes_eq other name) names ≡ false → insert_key bytes_eq names name ≡ names ++ name ∷ []
inserted-new name names new = ap (λ b. cond b names (names ++ name ∷ [])) (any-flipped name names ∙ new)

-- whether a place is there is whether an element passes
pub is_some-position : (p : List ℕ → Bool) (names : List (List ℕ)) → is_some (position p names) ≡ list_any p names
is_some-position p names = from _ refl
  where
    from : (b : Bool) → nat_lt (position_or_len p names) (length names) ≡ b → is_some (position p names) ≡ list_any p names
    from true test =
        let below : position_or_len p names < length names = grind (arith, nat_tests) in
        ap (λ b. is_some (cond b (Some (position_or_len p names)) None)) test ∙ sym (list_any_at p names (position_or_len p names) [] below (passes_at_first p names [] below))
    from false test =
        let above : length names ≤ position_or_len p names = grind (arith, nat_tests) in
        ap (λ b. is_some (cond b (Some (position_or_len p names)) None)) test ∙ sym (list_any_none p names (λ k d within. fails_before_first p names k d (omega arith)))
