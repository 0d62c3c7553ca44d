-- One factor more of a variable.
use Rattle.std.proofs.Common.{◌≡◌, ◌≢◌, ℕ, zero, suc, ◌+◌, ◌-◌, ◌*◌, ◌^◌, ◌%◌, ◌<◌, ◌≤◌, List, [], ◌∷◌, ◌++◌, length, get_or, inl, inr, refl, sym, ap, ◌∙◌, subst, arith}
use Rattle.std.proofs.Math.ListN.{set, replicate}
use Rattle.std.proofs.Math.Nat.{pow-suc}
use Rattle.std.proofs.lemmas.Bool.{cases_lt}
use Rattle.std.proofs.lemmas.Nat.{mul-mod_first}
use Rattle.poly_maps.specs.Mono.{mono_value}
use Rattle.std.proofs.Common.{drop, take, slice_index_or}
use Rattle.std.proofs.Math.Seq.{get_or-append_right}
use Rattle.std.proofs.lemmas.List.{get_or-drop, get_or-replicate, get_or-take, get_or_append_left, length-take-le}
use Rattle.std.proofs.lemmas.Option.{slice_get-get_or}
use Rattle.prime_field.specs.declared.Modulus.{Modulus}
use Rattle.prime_field.specs.declared.Modulus.TheVariants.{First, Second}
use Rattle.prime_field.specs.Modulus.{value_of}
use Rattle.poly_maps.specs.Point.{IsPoint, padded}
use Rattle.poly_maps.specs.Steps.{raised, AreSteps, IsRaised}
use Rattle.poly_maps.specs.declared.monomial_plan.Step.{Step}
use Rattle.poly_maps.specs.declared.monomial_plan.Step.TheVariants.{Powers, Times}
use Rattle.poly_maps.proofs.PointLemmas.{padded_is}

-- one factor less, and then one more
pub raised-lowered : (e : List ℕ) (i : ℕ) → get_or e i 0 ≢ 0 → raised (set e i (get_or e i 0 - 1)) i ≡ e
raised-lowered [] i some = refl
raised-lowered (k ∷ e) zero some =
    let whole : suc (k - 1) ≡ k = omega (arith, some) in
    ap (λ n. n ∷ e) whole
raised-lowered (k ∷ e) (suc i) some = ap (λ f. k ∷ f) (raised-lowered e i some)

-- the value of a monomial with one factor more
pub mono_value-raised : (e x : List ℕ) (i : ℕ) → i < length e → mono_value (raised e i) x ≡ mono_value e x * get_or x i 0
mono_value-raised [] x i low = elim low [ ]
mono_value-raised (k ∷ e) [] zero low =
    let none : 0 ^ suc k ≡ 0 * 0 ^ k = pow-suc 0 k ∙ omega arith in
    ap (λ p. p * mono_value e []) none ∙ omega arith
mono_value-raised (k ∷ e) (a ∷ x) zero low =
    ap (λ p. p * mono_value e x) (pow-suc a k) ∙ omega arith
mono_value-raised (k ∷ e) [] (suc i) low =
    ap (λ v. 0 ^ k * v) (mono_value-raised e [] i (omega (arith, low))) ∙ omega arith
mono_value-raised (k ∷ e) (a ∷ x) (suc i) low =
    ap (λ v. a ^ k * v) (mono_value-raised e x i (omega (arith, low))) ∙ omega arith

-- ---- a point's entries in eight places are residues

above_entries : (m : Modulus) → 2305843009213693951 ≤ value_of m
above_entries First = omega arith
above_entries Second = omega arith

pub padded-below : (m : Modulus) (x : List ℕ) → IsPoint x → (i : ℕ) → i < 8 → get_or (padded x) i 0 < value_of m
padded-below m x point i low =
    subst (λ xs. get_or xs i 0 < value_of m) (sym (padded_is x point.few)) (elim (cases_lt i (length x)) [
      | inl within ↦
          let here : get_or (x ++ drop (length x) (replicate 8 0)) i 0 ≡ get_or x i 0 = get_or_append_left x _ 0 i within in
          omega (arith, here, point.below i within, above_entries m)
      | inr past ↦
          let place : length x + (i - length x) ≡ i = omega arith in
          let here : get_or (x ++ drop (length x) (replicate 8 0)) i 0 ≡ 0 = get_or-append_right x _ i 0 past ∙ get_or-drop (length x) (replicate 8 0) (i - length x) 0 ∙
          ap (λ j. get_or (replicate 8 0) j 0) place ∙ get_or-replicate 8 i 0 0 low in
          omega (arith, here, above_entries m)
    ])

-- ---- a step of a plan

-- the monomial at place k is an earlier one of the whole list with one more factor
pub record IsTaken (monos : List (List ℕ)) (k place variable : ℕ) : Type 0 where
  pub before : place < k
  pub last : k < length monos
  pub eight : variable < 8
  pub within : variable < length (slice_index_or monos place [])
  pub is : raised (slice_index_or monos place []) variable ≡ slice_index_or monos k []

raised_taken : (monos : List (List ℕ)) (k place variable : ℕ) → k < length monos → IsRaised (take k monos) (slice_index_or monos k []) place variable → IsTaken monos k place variable
raised_taken monos k place variable low step =
    let before : place < k = omega (arith, step.there, length-take-le k monos (omega arith)) in
    let same : get_or (take k monos) place [] ≡ get_or monos place [] = get_or-take k monos place [] before in
    record {
      before = before;
      last = low;
      eight = step.eight;
      within = subst (λ e. variable < length e) same step.within;
      is = subst (λ e. raised e variable ≡ slice_index_or monos k []) same step.is;
    }

-- the same of the lists that a loop over the plan's steps reads
pub step_taken : (monos now : List (List ℕ)) (steps told : List Step) (k place variable : ℕ) → AreSteps monos steps → monos ≡ now → told ≡ steps → k < length told →
    get_or told k Powers ≡ Times place variable → IsTaken now k place variable
step_taken monos now steps told k place variable are same whole low is =
    let within : k < length steps = subst (λ ss. k < length ss) whole low in
    let here = are.each k (get_or steps k Powers) (slice_get-get_or steps k Powers within) in
    let step : get_or steps k Powers ≡ Times place variable = ap (λ ss. get_or ss k Powers) (sym whole) ∙ is in
    subst (λ ms. IsTaken ms k place variable) same (raised_taken monos k place variable (omega (arith, within, are.many)) (rw step at here))

-- the value of a monomial from that of an earlier one
pub value_taken : (m : ℕ) (e f x : List ℕ) (i value product : ℕ) → i < length e → raised e i ≡ f → value ≡ mono_value e x % m → product ≡ (value * get_or x i 0) % m →
    product ≡ mono_value f x % m
value_taken m e f x i value product low is was made =
    made ∙ ap (λ v. (v * get_or x i 0) % m) was ∙ mul-mod_first (mono_value e x) (get_or x i 0) m ∙ ap (λ n. n % m) (sym (mono_value-raised e x i low)) ∙ ap (λ g. mono_value g x % m) is
