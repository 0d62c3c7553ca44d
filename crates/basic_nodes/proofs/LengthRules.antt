-- What a length rule that holds says of the lengths.
use Rattle.std.proofs.Common.{◌≡◌, ℕ, zero, suc, ◌<◌, ◌≤◌, Bool, true, false, List, [], ◌∷◌, Some, None, length, get_or, eqb, inl, inr, refl, arith}
use Rattle.std.proofs.lemmas.Bool.{eqb-true, false≢true}
use Rattle.std.proofs.lemmas.Bool.Decides.{nat_tests, leb_tells}
use Rattle.std.proofs.lemmas.List.Elements.{All-get_or}
use Rattle.std.proofs.lemmas.List.Sums.{AllPass-from_list_all}
use Rattle.basic_nodes.specs.Lengths.{ruled, are_within, are_equal}

-- the rule holds, the length is the node's own, and it is within the limit
pub ruled_some : (holds : Bool) (own n : ℕ) → ruled holds own ≡ Some n → (holds ≡ true) × (own ≡ n) × (n ≤ 262144)
ruled_some false own n some = absurd (cc)
ruled_some true own n some =
    elim (leb_tells own 262144) [
      | inl within ↦ let own_is : own ≡ n = own_of (rw within.0 at some) in (refl, own_is, omega (arith, within.1, own_is))
      | inr above ↦ absurd (nothing (rw above.0 at some))
    ]
  where
    own_of : Some own ≡ Some n → own ≡ n
    own_of same = cc

    nothing : None ≡ Some n → ⊥
    nothing same = cc

-- each position is within the list beside it
pub are_within_at : (positions lengths : List ℕ) → are_within positions lengths ≡ true → (k : ℕ) → k < length positions →
    get_or positions k 0 ≤ get_or lengths k 0
are_within_at [] lengths within k below = absurd (omega arith)
are_within_at (p ∷ positions) [] within k below = absurd (cc)
are_within_at (p ∷ positions) (n ∷ lengths) within zero below = grind (arith, nat_tests)
are_within_at (p ∷ positions) (n ∷ lengths) within (suc k) below =
    elim (leb_tells p n) [
      | inl fits ↦ are_within_at positions lengths (rw fits.0 at within) k (omega arith)
      | inr past ↦ absurd (false≢true (rw past.0 at within))
    ]

-- each length is the first one
pub are_equal_at : (lengths : List ℕ) → are_equal lengths ≡ true → (k : ℕ) → k < length lengths →
    get_or lengths k 0 ≡ get_or lengths 0 0
are_equal_at lengths equal k below =
    eqb-true _ _ (All-get_or (λ n. eqb n (get_or lengths 0 0) ≡ true) lengths k 0 below
    (AllPass-from_list_all (λ n. eqb n (get_or lengths 0 0)) lengths equal))
