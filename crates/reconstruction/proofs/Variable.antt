-- The first variable as a quotient: over points of one entry, with the entries as samples, it is an output that reduces well.
use Rattle.std.proofs.Common.{◌≡◌, ◌≢◌, ℕ, zero, suc, inl, inr, cond, ◌+◌, ◌*◌, ◌%◌, ◌<◌, ◌≤◌, List, [], ◌∷◌, length, map, All, Some, pos, refl, sym, ◌∙◌, ap, subst, arith, mul-one, one-mul, zero-add, ◌^◌}
use Rattle.std.specs.Prelude.{slice_index}
use Rattle.std.specs.declared.cmp.Ordering.TheVariants.{Equal, Less}
use Rattle.std.proofs.lemmas.Bool.{cases_Bool, cases_eq}
use Rattle.std.proofs.Math.Nat.{mod-mod, mod-eq_of_lt, zero-mod, pow-suc, pow-zero}
use Rattle.std.specs.List.{AllByRecursion}
use Rattle.std.proofs.lemmas.List.Elements.{All-from_recursion}
use Rattle.prime_field.specs.Modulus.{value_of}
use Rattle.prime_field.specs.Residue.{IsUnit, inverse}
use Rattle.prime_field.specs.declared.Modulus.{Modulus}
use Rattle.prime_field.proofs.Units.{inverse_is}
use Rattle.poly_maps.specs.Bound.{WithinBound}
use Rattle.poly_maps.specs.Fraction.{IsRational}
use Rattle.poly_maps.specs.Mono.{HasEight, degree, is_same, mono_cmp}
use Rattle.poly_maps.proofs.MonoLemmas.{is_same-true, mono_degree, mono_itself}
use Rattle.poly_maps.specs.Pair.{Agrees}
use Rattle.poly_maps.specs.Polynomial.{coefficient, value_at, Supported}
use Rattle.poly_maps.specs.Quotient.{RationalPair}
use Rattle.poly_maps.specs.Reduced.{or_zero, own_value, own_values, residue, residues, residue_pair, with_term}
use Rattle.poly_maps.specs.declared.bound.Bounds.{Bounds}
use Rattle.poly_maps.specs.declared.fraction.Frac.{Frac}
use Rattle.poly_maps.specs.declared.pair.Pair.{Pair}
use Rattle.poly_maps.proofs.Fractions.{whole_fraction}
use Rattle.multivar_recon.specs.Least.{IsLeastPair, Vanishes, VanishesFrom}
use Rattle.rational_lift.specs.declared.coeff.Coeff.{Coeff}
use Rattle.output_result.specs.Outputs.{Output, IsQuotient, ReducesWell}

abbrev pub one_frac : Frac
one_frac = record { num = pos 1; den = 1 }

abbrev pub linear : List ℕ
linear = 1 ∷ 0 ∷ 0 ∷ 0 ∷ 0 ∷ 0 ∷ 0 ∷ 0 ∷ []

abbrev pub constant : List ℕ
constant = 0 ∷ 0 ∷ 0 ∷ 0 ∷ 0 ∷ 0 ∷ 0 ∷ 0 ∷ []

-- the first variable over 1
abbrev pub variable : RationalPair
variable = record { num = (linear, one_frac) ∷ []; den = (constant, one_frac) ∷ [] }

-- what it leaves
abbrev pub variable_pair : Pair
variable_pair = record { num = (linear, 1) ∷ []; den = (constant, 1) ∷ [] }

unit_one : (m : ℕ) → 1 < m → IsUnit m 1
unit_one m large = (1, large, mod-eq_of_lt large)

residue_one : (m : ℕ) → 1 < m → residue m one_frac ≡ 1
residue_one m large =
    let found : inverse m 1 ≡ Some 1 = inverse_is m 1 1 large (mod-eq_of_lt large) in
    ap (λ i. (1 % m * or_zero i) % m) found ∙ ap (λ r. (r * 1) % m) (mod-eq_of_lt large) ∙ mod-eq_of_lt large

pub pair_left : (m : ℕ) → 1 < m → residue_pair m variable ≡ variable_pair
pair_left m large =
    ap (λ r. record { num = with_term linear r []; den = with_term constant (residue m one_frac) [] }) (residue_one m large)
    ∙ ap (λ r. record { num = (linear, 1) ∷ []; den = with_term constant r [] }) (residue_one m large)

-- the product of the entries that a point hasn't, to the power 0
rest_one : 0 ^ 0 * (0 ^ 0 * (0 ^ 0 * (0 ^ 0 * (0 ^ 0 * (0 ^ 0 * (0 ^ 0 * 1)))))) ≡ 1
rest_one = refl

num_value : (a : ℕ) → value_at ((linear, 1) ∷ []) (a ∷ []) ≡ a
num_value a = let one : a ^ 1 ≡ a = pow-suc a 0 ∙ ap (λ t. t * a) (pow-zero a) ∙ one-mul a in ap (λ t. 1 * (t * 1) + 0) one ∙ omega arith

den_value : (a : ℕ) → value_at ((constant, 1) ∷ []) (a ∷ []) ≡ 1
den_value a = ap (λ t. 1 * (t * 1) + 0) (pow-zero a)

-- at points of one entry the entries are the values
abbrev pub AreSingle : List (List ℕ) → Type 0
AreSingle [] = Unit {0}
AreSingle (x ∷ xs) = (length x ≡ 1) × AreSingle xs

abbrev pub firsts : List (List ℕ) → List ℕ
firsts xs = map (λ x. slice_index x 0) xs

single : (x : List ℕ) → length x ≡ 1 → x ≡ slice_index x 0 ∷ []
single [] one = cc
single (a ∷ []) one = refl
single (a ∷ b ∷ x) one = cc

num_at : (x : List ℕ) → length x ≡ 1 → value_at ((linear, 1) ∷ []) x ≡ slice_index x 0
num_at x one = ap (value_at ((linear, 1) ∷ [])) (single x one) ∙ num_value (slice_index x 0)

den_at : (x : List ℕ) → length x ≡ 1 → value_at ((constant, 1) ∷ []) x ≡ 1
den_at x one = ap (value_at ((constant, 1) ∷ [])) (single x one) ∙ den_value (slice_index x 0)

pub agrees : (m : ℕ) (xs : List (List ℕ)) → AreSingle xs → Agrees m xs (firsts xs) variable_pair
agrees m [] all = tt
agrees m (x ∷ xs) all = (
  ap (λ t. (slice_index x 0 * t) % m) (den_at x all.0) ∙ ap (λ t. t % m) (mul-one (slice_index x 0)) ∙ ap (λ t. t % m) (sym (num_at x all.0)),
  agrees m xs all.1,
)

-- own values are congruent to the entries
own_first : (m : ℕ) (x : List ℕ) → 1 < m → length x ≡ 1 → own_value m variable x ≡ slice_index x 0 % m
own_first m x large one =
    let pair = pair_left m large in
    let num : value_at (residues m variable.num) x ≡ slice_index x 0 = ap (λ (f : Pair). value_at f.num x) pair ∙ num_at x one in
    let den : value_at (residues m variable.den) x % m ≡ 1 = ap (λ (f : Pair). value_at f.den x % m) pair ∙ ap (λ t. t % m) (den_at x one) ∙ mod-eq_of_lt large in
    let found : inverse m 1 ≡ Some 1 = inverse_is m 1 1 large (mod-eq_of_lt large) in
    ap (λ t. (t * or_zero (inverse m (value_at (residues m variable.den) x % m))) % m) num
    ∙ ap (λ t. (slice_index x 0 * or_zero (inverse m t)) % m) den
    ∙ ap (λ i. (slice_index x 0 * or_zero i) % m) found
    ∙ ap (λ t. t % m) (mul-one (slice_index x 0))

own_agrees : (m : ℕ) (xs : List (List ℕ)) → 1 < m → AreSingle xs → Agrees m xs (own_values m variable xs) variable_pair
own_agrees m [] large all = tt
own_agrees m (x ∷ xs) large all = (
  ap (λ t. (t * value_at ((constant, 1) ∷ []) x) % m) (own_first m x large all.0)
      ∙ ap (λ t. (slice_index x 0 % m * t) % m) (den_at x all.0)
      ∙ ap (λ t. t % m) (mul-one (slice_index x 0 % m))
      ∙ mod-mod (slice_index x 0) m
      ∙ ap (λ t. t % m) (sym (num_at x all.0)),
  own_agrees m xs large all.1,
)

abbrev zeros : ℕ → List ℕ
zeros zero = []
zeros (suc n) = 0 ∷ zeros n

-- a monomial of degree 0 has no exponents but 0
all_zero : (e : List ℕ) → degree e ≡ 0 → e ≡ zeros (length e)
all_zero [] none = refl
all_zero (k ∷ e) none = ap (λ n. n ∷ e) (omega (arith, none)) ∙ ap (λ f. 0 ∷ f) (all_zero e (omega (arith, none)))

-- no monomial of eight exponents is less than the constant one
not_less : (e : List ℕ) → length e ≡ 8 → mono_cmp e constant ≢ Less
not_less e eight less =
    let low : degree e ≤ 0 = mono_degree e constant less in
    let same : e ≡ constant = all_zero e (omega (arith, low)) ∙ ap zeros eight in
    let clash : Equal ≡ Less = sym (mono_itself constant) ∙ ap (λ f. mono_cmp f constant) (sym same) ∙ less in
    cc

-- a monomial of fewer or more exponents has no coefficient
absent : (e : List ℕ) (p : List (List ℕ × ℕ)) → Supported HasEight p → length e ≢ 8 → coefficient e p ≡ 0
absent e [] eight other = refl
absent e (t ∷ p) eight other =
    elim (cases_Bool (is_same t.0 e)) [
      | inl same ↦ absurd (other (ap length (sym (is_same-true t.0 e same)) ∙ eight.0))
      | inr unlike ↦ ap (λ b. cond b t.1 0 + coefficient e p) unlike ∙ zero-add (coefficient e p) ∙ absent e p eight.1 other
    ]

-- so a polynomial that vanishes from there vanishes
vanishes : (m : ℕ) (p : List (List ℕ × ℕ)) → Supported HasEight p → VanishesFrom m constant p → Vanishes m p
vanishes m p eight from e =
    elim (cases_eq (length e) 8) [
      | inl same ↦ from e (not_less e same)
      | inr other ↦ ap (λ t. t % m) (absent e p eight other) ∙ zero-mod m
    ]

pub least : (m : ℕ) (b : Bounds) (xs : List (List ℕ)) (vs : List ℕ) → 1 < m → WithinBound b.num linear → WithinBound b.den constant → Agrees m xs vs variable_pair → IsLeastPair m b xs vs variable_pair
least m b xs vs large num den agrees = record {
  agreeing = record {
    pair = record { num = (((λ e. cc), tt, tt), (refl, tt)); den = (((λ e. cc), tt, tt), (refl, tt)); num_residues = (large, tt); den_residues = (large, tt) };
    within = record { some = λ e. cc; num = (num, tt); den = (den, tt) };
    agrees = agrees;
  };
  monic = refl;
  least = λ lead leads g within other from.
      let same : constant ≡ lead = some_same constant lead leads in
      vanishes m g.den within.den_eight (subst (λ (l : List ℕ). VanishesFrom m l g.den) (sym same) from);
}
  where
    some_same : (a b : List ℕ) → Some a ≡ Some b → a ≡ b
    some_same a b e = cc

-- where at no point the value of the denominator is 0
nowhere : (m : ℕ) (xs : List (List ℕ)) → 1 < m → AreSingle xs → All (λ x. value_at (residue_pair m variable).den x % m ≢ 0) xs
nowhere m xs large all = All-from_recursion (λ x. value_at (residue_pair m variable).den x % m ≢ 0) xs (each xs all)
  where
    one : (x : List ℕ) → length x ≡ 1 → value_at (residue_pair m variable).den x % m ≡ 1
    one x is = ap (λ (f : Pair). value_at f.den x % m) (pair_left m large) ∙ ap (λ t. t % m) (den_at x is) ∙ mod-eq_of_lt large

    each : (ys : List (List ℕ)) → AreSingle ys → AllByRecursion (λ x. value_at (residue_pair m variable).den x % m ≢ 0) ys
    each [] is = tt
    each (y ∷ ys) is = ((λ z. let clash : 1 ≡ 0 = sym (one y is.0) ∙ z in cc), each ys is.1)

pub reduces_well : (m : ℕ) (b : Bounds) (xs : List (List ℕ)) → 1 < m → AreSingle xs → WithinBound b.num linear → WithinBound b.den constant → ReducesWell m b xs variable
reduces_well m b xs large all num den = record {
  units = record { num = (unit_one m large, tt); den = (unit_one m large, tt) };
  nowhere_zero = nowhere m xs large all;
  least = subst (λ (f : Pair). IsLeastPair m b xs (own_values m variable xs) f) (sym (pair_left m large)) (least m b xs (own_values m variable xs) large num den (own_agrees m xs large all));
}

-- the output whose samples are the entries is the variable
pub is_variable : (c : Coeff) (o : Output) → ((m : Modulus) → 1 < value_of m) → 1 ≤ c.num → 1 ≤ c.den → WithinBound o.bounds.num linear → WithinBound o.bounds.den constant
    → ((m : Modulus) → AreSingle (o.samples m).points) → ((m : Modulus) → (o.samples m).values ≡ firsts (o.samples m).points) → IsQuotient c o variable
is_variable c o large nums dens num den points values = record {
  map = record { num = rational linear refl; den = rational constant refl; leads = (refl, refl) };
  within = record { num = (num, tt); den = (den, tt) };
  inside = record { num = (record { num = nums; den = dens }, tt); den = (record { num = nums; den = dens }, tt) };
  agrees = λ m. subst (λ (f : Pair). Agrees (value_of m) (o.samples m).points (o.samples m).values f) (sym (pair_left (value_of m) (large m)))
      (subst (λ vs. Agrees (value_of m) (o.samples m).points vs variable_pair) (sym (values m)) (agrees (value_of m) (o.samples m).points (points m)));
}
  where
    rational : (e : List ℕ) → HasEight e → IsRational ((e, one_frac) ∷ [])
    rational e eight = record { fractions = (whole_fraction (pos 1) (λ z. cc), tt); descends = (tt, tt); eight = (eight, tt) }
