-- What is lifted is in the grid's variables, and small.
use Rattle.std.proofs.Common.{◌≡◌, ◌≢◌, ℕ, ◌*◌, ◌^◌, ◌<◌, ◌≤◌, ◌⊎◌, inl, inr, refl, Some, List, [], ◌∷◌, length, slice_index, None, sym, subst, ap, ◌∙◌, arith, lit≤}
use Rattle.std.proofs.Math.Nat.{mul-le-mul}
use Rattle.std.proofs.lemmas.Bool.{cases_eq}
use Rattle.std.proofs.lemmas.Int.{fits_signed_from_abs}
use Rattle.std.specs.Int.{w128}
use Rattle.prime_field.specs.declared.Modulus.{Modulus}
use Rattle.prime_field.specs.declared.Modulus.TheVariants.{First, Second}
use Rattle.poly_maps.specs.Bound.{WithinBound}
use Rattle.poly_maps.specs.Polynomial.{leading, Supported}
use Rattle.poly_maps.specs.declared.bound.Bounds.{Bounds}
use Rattle.poly_maps.specs.declared.fraction.Frac.{Frac}
use Rattle.poly_maps.specs.declared.pair.Pair.{Pair}
use Rattle.poly_maps.proofs.Moves.{supported-coefficient}
use Rattle.poly_maps.proofs.Within.{IsBelow-places}
use Rattle.ratfun_text.specs.Printed.{AreSized, IsIn}
use Rattle.ray_grid.specs.Grid.{IsGrid, bound_of}
use Rattle.ray_grid.specs.declared.grid.Grid.{Grid}
use Rattle.ray_grid.specs.Covering.{Covers}
use Rattle.rational_lift.specs.Joined.{both}
use Rattle.rational_lift.specs.Parts.{by_modulus}
use Rattle.rational_lift.specs.Lifting.{at_part, AreInside, IsRecovered, Lift, Lifted, Unlike, NoRational}
use Rattle.rational_lift.specs.declared.coeff.Coeff.{Coeff}
use Rattle.rational_lift.specs.declared.coeff.Part.{Part}
use Rattle.rational_lift.specs.declared.coeff.Part.TheVariants.{Numerator, Denominator}
use Rattle.rational_lift.proofs.Lifts.{recovered_by}
use Rattle.multivar_recon.specs.declared.by_rays.Method.{Method}
use Rattle.multivar_recon.specs.declared.by_rays.Method.TheVariants.{Rays, Fit}
use Rattle.output_result.specs.Methods.{HasRegularRays, IsMethod, IsReport}
use Rattle.output_result.specs.Outputs.{Output, IsLeastAt}
use Rattle.output_result.specs.Printing.{IsMonoIn, IsShown}
use Rattle.output_result.specs.Texts.{Report, methods_text, report_text}
use Rattle.output_result.specs.Results.{Result as Says, NoPair, Lifts, AreLifted, IsLift, OutputResult}
use Rattle.output_result.proofs.Quotients.{lift_within}

-- a monomial of either part
abbrev pub IsEither : Bounds → List ℕ → Type 0
IsEither b e = WithinBound b.num e ⊎ WithinBound b.den e

module _ (g : Grid) (b : Bounds) (names : List (List ℕ)) (grid : IsGrid g) (covers : Covers (bound_of g) b) (count : length names ≡ g.variables) where
  under : (e : List ℕ) → IsEither b e → (k : ℕ) → slice_index e k ≤ slice_index g.each k
  under e (inl within) k = omega (arith, (IsBelow-places e b.num.each within.1).1 k, covers.each k)
  under e (inr within) k = omega (arith, (IsBelow-places e b.den.each within.1).1 k, covers.each k)

  mono_in : (e : List ℕ) → IsEither b e → IsMonoIn names e
  mono_in e within = record {
    inside = λ i past. omega (arith, under e within i, grid.others i (omega (arith, count, past)));
    low = λ i. let few : 128 < 2 ^ 16 = lit≤ tt in omega (arith, under e within i, grid.each i, grid.low);
  }

  all_in : (p : List (List ℕ × Frac)) → Supported (IsEither b) p → Supported (IsIn names) p
  all_in [] within = tt
  all_in (t ∷ p) within = ((mono_in t.0 within.0).inside, all_in p within.1)

  sized : (c : Coeff) (p : List (List ℕ × Frac)) → c.num < 2 ^ 127 → c.den < 2 ^ 128 → AreInside c p → Supported (IsEither b) p → AreSized p
  sized c [] num den inside within = tt
  sized c (t ∷ p) num den inside within = (
    record {
      exponents = (mono_in t.0 within.0).low;
      num = fits_signed_from_abs w128 t.1.num (omega (arith, inside.0.num, num));
      den = omega (arith, inside.0.den, den);
    },
    sized c p num den inside.1 within.1,
  )

as_num : (b : Bounds) (p : List (List ℕ × Frac)) → Supported (WithinBound b.num) p → Supported (IsEither b) p
as_num b [] within = tt
as_num b (t ∷ p) within = (inl within.0, as_num b p within.1)

as_den : (b : Bounds) (p : List (List ℕ × Frac)) → Supported (WithinBound b.den) p → Supported (IsEither b) p
as_den b [] within = tt
as_den b (t ∷ p) within = (inr within.0, as_den b p within.1)

-- the bounds on coefficients are small
small_num : (n d : ℕ) → 1 ≤ d → 2 * (n * d) < both → n < 2 ^ 127
small_num n d some narrow =
    let wide : both < 2 ^ 127 = lit≤ tt in
    omega (arith, mul-le-mul {n₁ = n} {m₁ = 1} {n₂ = n} {m₂ = d} (omega arith) some)

small_den : (n d : ℕ) → 1 ≤ n → 2 * (n * d) < both → d < 2 ^ 128
small_den n d some narrow =
    let wide : both < 2 ^ 128 = lit≤ tt in
    omega (arith, mul-le-mul {n₁ = 1} {m₁ = d} {n₂ = n} {m₂ = d} some (omega arith))

led : (L : List ℕ → Type 0) (p : List (List ℕ × ℕ)) (e : List ℕ) → Supported L p → leading p ≡ Some e → L e
led L [] e all leads = cc
led L (t ∷ p) e all leads =
    let same : t.0 ≡ e = cc in
    subst L same all.0

module _ (c : Coeff) (g : Grid) (o : Output) (grid : IsGrid g) (covers : Covers (bound_of g) o.bounds) (some_num : 1 ≤ c.num) (some_den : 1 ≤ c.den) (narrow : 2 * (c.num * c.den) < both) where
  -- a monomial at which no fraction is found has a coefficient
  told_within : (part : Part) (e : List ℕ) (pairs : Modulus → Pair) → (IsRecovered c pairs part e → ⊥) → ((m : Modulus) → Supported (WithinBound o.bounds.num) (pairs m).num) →
      ((m : Modulus) → Supported (WithinBound o.bounds.den) (pairs m).den) → IsEither o.bounds e
  told_within part e pairs none num den = elim (cases_eq (at_part part e (pairs First)) 0) [
    | inl first ↦ elim (cases_eq (at_part part e (pairs Second)) 0) [
      | inl second ↦ absurd (none (recovered_by c (λ m. at_part part e (pairs m)) None some_den tt (zeros first second)))
      | inr there ↦ at part Second there
    ]
    | inr there ↦ at part First there
  ]
    where
      zeros : at_part part e (pairs First) ≡ 0 → at_part part e (pairs Second) ≡ 0 → (m : Modulus) → 0 ≡ at_part part e (pairs m)
      zeros first second First = sym first
      zeros first second Second = sym second

      at : (part : Part) (m : Modulus) → at_part part e (pairs m) ≢ 0 → IsEither o.bounds e
      at Numerator m there = inl (supported-coefficient (WithinBound o.bounds.num) (pairs m).num e (num m) there)
      at Denominator m there = inr (supported-coefficient (WithinBound o.bounds.den) (pairs m).den e (den m) there)

  pub lift_shown : (lift : Lift) (names : List (List ℕ)) → length names ≡ g.variables → IsLift c o lift → IsShown names (Lifts lift)
  lift_shown (Lifted F) names count is =
      let within = lift_within c o F narrow is in
      let num = as_num o.bounds F.num within.num in
      let den = as_den o.bounds F.den within.den in
      let few = small_num c.num c.den some_den narrow in
      let few_den = small_den c.num c.den some_num narrow in
      record {
        map = is.lifts.map;
        inside = record { num = all_in g o.bounds names grid covers count F.num num; den = all_in g o.bounds names grid covers count F.den den };
        sizes = record {
          num = sized g o.bounds names grid covers count c F.num few few_den is.lifts.inside.num num;
          den = sized g o.bounds names grid covers count c F.den few few_den is.lifts.inside.den den;
        };
      }
  lift_shown (Unlike first second) names count is = (
    mono_in g o.bounds names grid covers count first (inr (led (WithinBound o.bounds.den) (is.pairs First).den first (is.least First).agreeing.within.den is.lifts.first_lead)),
    mono_in g o.bounds names grid covers count second (inr (led (WithinBound o.bounds.den) (is.pairs Second).den second (is.least Second).agreeing.within.den is.lifts.second_lead)),
  )
  lift_shown (NoRational part e joint) names count is =
      let wide : both < 2 ^ 128 = lit≤ tt in (
        mono_in g o.bounds names grid covers count e (told_within part e is.pairs is.lifts.none (λ m. (is.least m).agreeing.within.num) (λ m. (is.least m).agreeing.within.den)),
        omega (arith, is.lifts.joins.low),
      )

  pub result_shown : (result : Says) (names : List (List ℕ)) (pairs : Modulus → Pair) → length names ≡ g.variables → ((m : Modulus) → IsLeastAt o m (pairs m)) → AreLifted c pairs result → IsShown names result
  result_shown (NoPair m) names pairs count least lifted = absurd lifted
  result_shown (Lifts lift) names pairs count least lifted = lift_shown lift names count (record { pairs = pairs; least = least; lifts = lifted })

pub output_shown : (c : Coeff) (g : Grid) (o : Output) (names : List (List ℕ)) (result : Says) → IsGrid g → Covers (bound_of g) o.bounds → 1 ≤ c.num → 1 ≤ c.den → 2 * (c.num * c.den) < both → length names ≡ g.variables
    → OutputResult c o result → IsShown names result
output_shown c g o names (NoPair m) grid covers num den narrow count is = tt
output_shown c g o names (Lifts lift) grid covers num den narrow count is = lift_shown c g o grid covers num den narrow lift names count is

pub both_least : (o : Output) (f g : Pair) → IsLeastAt o First f → IsLeastAt o Second g → (m : Modulus) → IsLeastAt o m (by_modulus f g m)
both_least o f g first second First = first
both_least o f g first second Second = second

-- what two least pairs are lifted to is the result
pub result_lifted : (c : Coeff) (o : Output) (result : Says) (pairs : Modulus → Pair) → ((m : Modulus) → IsLeastAt o m (pairs m)) → AreLifted c pairs result → OutputResult c o result
result_lifted c o (NoPair m) pairs least lifted = absurd lifted
result_lifted c o (Lifts lift) pairs least lifted = record { pairs = pairs; least = least; lifts = lifted }

-- a method that is told rightly
pub method_is : (regular : Type 0) (method : Method) → (method ≡ Rays → regular) → (method ≡ Fit → regular → ⊥) → IsMethod regular method
method_is regular Rays rays fit = rays refl
method_is regular Fit rays fit = fit refl

-- the report of two least pairs
pub report_told : (c : Coeff) (grid : Grid) (attempts : Modulus → ℕ) (o : Output) (result : Says) (pairs : Modulus → Pair) (first second : Method) → AreLifted c pairs result
    → IsMethod (HasRegularRays grid (attempts First) o First) first → IsMethod (HasRegularRays grid (attempts Second) o Second) second → IsReport grid attempts o result (Some (by_modulus first second))
report_told c grid attempts o (NoPair m) pairs first second lifted one other = absurd lifted
report_told c grid attempts o (Lifts lift) pairs first second lifted one other = each
  where
    each : (m : Modulus) → IsMethod (HasRegularRays grid (attempts m) o m) (by_modulus first second m)
    each First = one
    each Second = other

-- there is one report
method_once : (regular : Type 0) (a b : Method) → IsMethod regular a → IsMethod regular b → a ≡ b
method_once regular Rays Rays first second = refl
method_once regular Rays Fit first second = absurd (second first)
method_once regular Fit Rays first second = absurd (first second)
method_once regular Fit Fit first second = refl

pub report_once : (grid : Grid) (attempts : Modulus → ℕ) (o : Output) (result : Says) (r s : Report) → IsReport grid attempts o result r → IsReport grid attempts o result s → report_text r result ≡ report_text s result
report_once grid attempts o (NoPair m) r s first second = ap (λ (x : Report). report_text x (NoPair m)) (first ∙ sym second)
report_once grid attempts o (Lifts lift) None s first second = absurd first
report_once grid attempts o (Lifts lift) (Some a) None first second = absurd second
report_once grid attempts o (Lifts lift) (Some a) (Some b) first second =
    let each : (m : Modulus) → a m ≡ b m = λ m. method_once (HasRegularRays grid (attempts m) o m) (a m) (b m) (first m) (second m) in
    ap (λ (x : Modulus → Method). methods_text x) (λ i m. each m i)
