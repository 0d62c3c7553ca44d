-- Lists that their entries pin, and lists that their members pin.
use Rattle.std.proofs.Common.{◌≡◌, ℕ, suc, ◌-◌, ◌≤◌, ◌↔◌, All, AllPairs, Contains, List, [], ◌∷◌, length, get_or, inl, inr, refl, sym, ap, ◌∙◌, arith}
use Rattle.std.proofs.lemmas.Bool.{cases_lt}
use Rattle.std.proofs.lemmas.Grind.{same_number_lists}
use Rattle.std.proofs.lemmas.List.{get_or_past}
use Rattle.std.specs.declared.cmp.Ordering.TheVariants.{Less, Equal}
use Rattle.poly_maps.specs.Mono.{mono_cmp}
use Rattle.univariate.specs.Univariate.{IsTrimmed}
use Rattle.poly_maps.proofs.MonoLemmas.{mono_total, mono_itself}
use Rattle.poly_maps.proofs.Enumerated.{Each, In, Ascends, Each-in, Contains-in, In-contains}

-- ---- no zero at the end

-- a list without a zero at the end, whose entries from n on are 0, has no more than n
pub length-trimmed : (r : List ℕ) (n : ℕ) → IsTrimmed r → ((k : ℕ) → n ≤ k → get_or r k 0 ≡ 0) → length r ≤ n
length-trimmed r n trimmed none = elim (cases_lt n (length r)) [
  | inl long ↦ absurd (trimmed (omega arith) (none (length r - 1) (omega arith)))
  | inr short ↦ short
]

pub same_trimmed : (r s : List ℕ) → IsTrimmed r → IsTrimmed s → ((k : ℕ) → get_or r k 0 ≡ get_or s k 0) → r ≡ s
same_trimmed r s r_trimmed s_trimmed same =
    let shorter : length r ≤ length s = length-trimmed r (length s) r_trimmed (λ k past. same k ∙ get_or_past s k 0 past) in
    let longer : length s ≤ length r = length-trimmed s (length r) s_trimmed (λ k past. sym (same k) ∙ get_or_past r k 0 past) in
    same_number_lists r s (omega arith) (λ k low. same k)

-- ---- ascending monomials

Each-all : (P : List ℕ → Type 0) (es : List (List ℕ)) → All P es → Each P es
Each-all P [] all = tt
Each-all P (e ∷ es) all =
    (all 0 e (omega arith), Each-all P es (λ k d low. all (suc k) d (omega arith)))

Ascends-pairs : (es : List (List ℕ)) → AllPairs (λ e f. mono_cmp e f ≡ Less) es → Ascends mono_cmp es
Ascends-pairs [] pairs = tt
Ascends-pairs (e ∷ es) pairs = (
  Each-all (λ f. mono_cmp e f ≡ Less) es (λ k d low. pairs 0 (suc k) d (omega arith) (omega arith)),
  Ascends-pairs es (λ i j d before low. pairs (suc i) (suc j) d (omega arith) (omega arith)),
)

-- no monomial is below itself
no_less : (e : List ℕ) → mono_cmp e e ≡ Less → ⊥
no_less e below = let tied : mono_cmp e e ≡ Equal = mono_itself e in cc

-- what is in a list behind its first member, and in another that begins with the same, is behind the first there too
behind : (e f g : List ℕ) (es fs : List (List ℕ)) → e ≡ f → Ascends mono_cmp (e ∷ es) → In g es → In g (f ∷ fs) → In g fs
behind e f g es fs first up here (inl same) =
    absurd (no_less e (ap (mono_cmp e) (first ∙ same) ∙ Each-in (λ h. mono_cmp e h ≡ Less) es g up.0 here))
behind e f g es fs first up here (inr later) = later

-- the first members are the same
first_same : (e f : List ℕ) (es fs : List (List ℕ)) → Ascends mono_cmp (e ∷ es) → Ascends mono_cmp (f ∷ fs) → In e (f ∷ fs) → In f (e ∷ es) → e ≡ f
first_same e f es fs e_up f_up (inl same) there = sym same
first_same e f es fs e_up f_up (inr later) (inl same) = same
first_same e f es fs e_up f_up (inr later) (inr later') =
    absurd (no_less e (mono_total.trans e f e
    (Each-in (λ h. mono_cmp e h ≡ Less) es f e_up.0 later')
    (Each-in (λ h. mono_cmp f h ≡ Less) fs e f_up.0 later)))

same_ascending : (es fs : List (List ℕ)) → Ascends mono_cmp es → Ascends mono_cmp fs → ((e : List ℕ) → In e es → In e fs) → ((e : List ℕ) → In e fs → In e es) → es ≡ fs
same_ascending [] [] e_up f_up to from = refl
same_ascending [] (f ∷ fs) e_up f_up to from = absurd (from f (inl refl))
same_ascending (e ∷ es) [] e_up f_up to from = absurd (to e (inl refl))
same_ascending (e ∷ es) (f ∷ fs) e_up f_up to from =
    let first : e ≡ f = first_same e f es fs e_up f_up (to e (inl refl)) (from f (inl refl)) in
    let rest : es ≡ fs =
    same_ascending es fs e_up.1 f_up.1
    (λ g here. behind e f g es fs first e_up here (to g (inr here)))
    (λ g here. behind f e g fs es (sym first) f_up here (from g (inr here))) in
    λ i. first i ∷ rest i

pub same_members : (es fs : List (List ℕ)) → AllPairs (λ e f. mono_cmp e f ≡ Less) es → AllPairs (λ e f. mono_cmp e f ≡ Less) fs →
    ((e : List ℕ) → Contains es e ↔ Contains fs e) → es ≡ fs
same_members es fs e_pairs f_pairs same =
    same_ascending es fs (Ascends-pairs es e_pairs) (Ascends-pairs fs f_pairs)
    (λ e here. In-contains fs e ((same e).0 (Contains-in es e here)))
    (λ e here. In-contains es e ((same e).1 (Contains-in fs e here)))
