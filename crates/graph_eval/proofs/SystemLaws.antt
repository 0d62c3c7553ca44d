-- Dense systems: the rows that stand in a list.
use Rattle.std.proofs.Common.{◌≡◌, ◌≢◌, ℕ, zero, suc, ◌+◌, ◌-◌, ◌*◌, ◌<◌, ◌≤◌, List, [], ◌∷◌, ◌++◌, All, length, take, drop, get_or, sym, ◌∙◌, ap, subst, add-one, add-zero, arith}
use Rattle.std.proofs.lemmas.Nat.{mul-add-lt}
use Rattle.std.proofs.lemmas.List.{drop-drop, length-take, length-drop}
use Rattle.std.proofs.lemmas.List.Elements.{All-get_or, All-take, All-drop}
use Rattle.prime_field.specs.Residue.{IsPrime}
use Rattle.elim_core.specs.Kept.{Belongs, HasSolution, IsAbsorbed, modulus_of, unknowns_of}
use Rattle.elim_core.specs.declared.Elim.{Elim}
use Rattle.elim_core.specs.declared.Rank.{Rank}
use Rattle.elim_core.specs.declared.Rank.TheVariants.{Contradiction}
use Rattle.elim_core.specs.Solution.{IsSolution}
use Rattle.elim_core.specs.Solved.{IsKept}
use Rattle.elim_core.proofs.KeptRows.{kept_more, none_left}
use Rattle.elim_core.proofs.SameSolutions.{solution_before}
use Rattle.graph_eval.specs.Systems.{rows_in}

-- one row more
pub rows_in-suc : (n unknowns : ℕ) (list : List ℕ) → rows_in (suc n) unknowns list ≡ rows_in n unknowns list ++ take (unknowns + 1) (drop (n * (unknowns + 1)) list) ∷ []
rows_in-suc zero unknowns list =
    let none : 0 ≡ 0 * (unknowns + 1) = omega arith in
    ap (λ k. take (unknowns + 1) (drop k list) ∷ []) none
rows_in-suc (suc n) unknowns list =
    let further : unknowns + 1 + n * (unknowns + 1) ≡ suc n * (unknowns + 1) = omega arith in
    ap (λ rows. take (unknowns + 1) list ∷ rows) (rows_in-suc n unknowns (drop (unknowns + 1) list))
    ∙ ap (λ l. take (unknowns + 1) list ∷ (rows_in n unknowns (drop (unknowns + 1) list) ++ take (unknowns + 1) l ∷ [])) (drop-drop (n * (unknowns + 1)) (unknowns + 1) list ∙ ap (λ k. drop k list) further)

pub rows_in-more : (n unknowns : ℕ) (list : List ℕ) → rows_in (n + 1) unknowns list ≡ rows_in n unknowns list ++ take (unknowns + 1) (drop (n * (unknowns + 1)) list) ∷ []
rows_in-more n unknowns list = ap (λ k. rows_in k unknowns list) (add-one n) ∙ rows_in-suc n unknowns list

-- what solves the rows of a list solves the first of them
pub solution_first : (m u : ℕ) (list zs : List ℕ) (n more : ℕ) → IsSolution m u (rows_in (n + more) u list) zs → IsSolution m u (rows_in n u list) zs
solution_first m u list zs n zero s = subst (λ (k : ℕ). IsSolution m u (rows_in k u list) zs) (add-zero n) s
solution_first m u list zs n (suc more) s =
    let one_more : n + suc more ≡ suc (n + more) = omega arith in
    let whole : IsSolution m u (rows_in (suc (n + more)) u list) zs = subst (λ (k : ℕ). IsSolution m u (rows_in k u list) zs) one_more s in
    solution_first m u list zs n more
    (solution_before m u (rows_in (n + more) u list) (take (u + 1) (drop ((n + more) * (u + 1)) list)) zs (subst (λ (rows : List (List ℕ)). IsSolution m u rows zs) (rows_in-suc (n + more) u list) whole)).0

-- the place of a row in the list
pub row_within : (n count u : ℕ) → n < count → n * (u + 1) + (u + 1) ≤ count * (u + 1)
row_within n count u below = omega (arith, mul-add-lt n (u + 1) u count below (omega arith))

pub row_piece : (list : List ℕ) (n count u width : ℕ) → n < count → length list ≡ count * (u + 1) → width ≡ u + 1 → length (take width (drop (n * (u + 1)) list)) ≡ u + 1
row_piece list n count u width below long width_is = omega (arith, row_within n count u below, length-take width (drop (n * (u + 1)) list), length-drop (n * (u + 1)) list)

pub row_residues : (m : ℕ) (list : List ℕ) (n count u width k : ℕ) → n < count → length list ≡ count * (u + 1) → width ≡ u + 1 → k < u + 1 → All (λ x. x < m) list → get_or (take width (drop (n * (u + 1)) list)) k 0 < m
row_residues m list n count u width k below long width_is k_low low =
    All-get_or (λ x. x < m) (take width (drop (n * (u + 1)) list)) k 0 (omega (arith, row_piece list n count u width below long width_is))
    (All-take (λ x. x < m) width (drop (n * (u + 1)) list) (All-drop (λ x. x < m) (n * (u + 1)) list low))

-- a row of the list that was absorbed behind the first n
module _ (old now : Elim) (old_words words : List ℕ) (m u n : ℕ) (list row : List ℕ) (rank : Rank) (kept : IsKept old old_words m u (rows_in n u list)) (is : IsAbsorbed old old_words now words row rank) (row_is : row ≡ take (u + 1) (drop (n * (u + 1)) list)) where
  more-is : rows_in n u list ++ row ∷ [] ≡ rows_in (n + 1) u list
  more-is = ap (λ r. rows_in n u list ++ r ∷ []) row_is ∙ sym (rows_in-more n u list)

  -- one row more is kept
  pub list_more : Belongs now words → (unknowns_of now ≡ unknowns_of old) × (modulus_of now ≡ modulus_of old) → rank ≢ Contradiction → IsKept now words m u (rows_in (n + 1) u list)
  list_more belongs kind some =
      subst (λ (rows : List (List ℕ)). IsKept now words m u rows) more-is (kept_more old now old_words words m u (rows_in n u list) row rank kept is belongs kind some)

  -- a row that leaves no solution
  pub list_none : (count : ℕ) → n < count → rank ≡ Contradiction → IsPrime m → HasSolution m u (rows_in count u list) → ⊥
  list_none count below none prime has =
      let split : n + 1 + (count - (n + 1)) ≡ count = omega arith in
      let first : IsSolution m u (rows_in (n + 1) u list) has.zs = solution_first m u list has.zs (n + 1) (count - (n + 1)) (subst (λ (k : ℕ). IsSolution m u (rows_in k u list) has.zs) (sym split) has.solves) in
      let both = solution_before m u (rows_in n u list) row has.zs (subst (λ (rows : List (List ℕ)). IsSolution m u rows has.zs) (sym more-is) first) in
      none_left old now old_words words m u (rows_in n u list) row rank kept is none prime has.zs both.0 both.1
