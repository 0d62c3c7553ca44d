use Rattle.std.proofs.Common.{◌≡◌, ℕ, ◌<◌, ◌%◌, List, [], inl, inr, length, get_or, slice_set, sym, ap, ◌∙◌, subst, arith, mod-lt}
use Rattle.std.proofs.lemmas.Bool.{cases_lt}
use Rattle.std.proofs.lemmas.List.{get_or_default, get_or-set_other, get_or-set_same}
use Rattle.prime_field.specs.Modulus.{value_of}
use Rattle.prime_field.proofs.Moduli.{value_of-large}
use Rattle.poly_maps.specs.Mono.{mono_value}
use Rattle.poly_maps.proofs.PowerLemmas.{mono_value-padded}
use Rattle.poly_maps.proofs.StepLemmas.{padded-below, step_taken, value_taken}
use Rattle.poly_maps.proofs.monomial_plan.MonomialPlan.write_values.Goals as goal
use Rattle.poly_maps.proofs.monomial_plan.MonomialPlan.write_values.Goals.{in-Powers, in-Times}

pub value_by_powers-requires : goal.value_by_powers-requires
value_by_powers-requires c = record {
  residues = subst (λ xs. (i : ℕ) → i < 8 → get_or xs i 0 < value_of c.args.m) (sym c.all_entries-entries.ensures.value) (padded-below c.args.m c.args.point.now c.all_entries-entries.ensures.point);
}

pub offset_bounds-out-place : goal.offset_bounds-out-place
offset_bounds-out-place c =
    let step = step_taken c.self.inside.monos.items c.args.self.now c.self.inside.steps.items c.deref-step-items.result.now c.loop-k.k c.in-Times.place c.in-Times.variable c.self.invariant c.self.view_is c.deref-step-items.ensures.value c.loop-k-test.true c.in-Times.is in
    omega (arith, step.before)

pub bounds-out-place : goal.bounds-out-place
bounds-out-place c =
    let step = step_taken c.self.inside.monos.items c.args.self.now c.self.inside.steps.items c.deref-step-items.result.now c.loop-k.k c.in-Times.place c.in-Times.variable c.self.invariant c.self.view_is c.deref-step-items.ensures.value c.loop-k-test.true c.in-Times.is in
    omega (arith, step.before, step.last, c.requires.room, c.loop-k.auto.out)

pub offset_bounds-entries-variable : goal.offset_bounds-entries-variable
offset_bounds-entries-variable c =
    let step = step_taken c.self.inside.monos.items c.args.self.now c.self.inside.steps.items c.deref-step-items.result.now c.loop-k.k c.in-Times.place c.in-Times.variable c.self.invariant c.self.view_is c.deref-step-items.ensures.value c.loop-k-test.true c.in-Times.is in
    omega (arith, step.eight)

pub bounds-entries-variable : goal.bounds-entries-variable
bounds-entries-variable c =
    let step = step_taken c.self.inside.monos.items c.args.self.now c.self.inside.steps.items c.deref-step-items.result.now c.loop-k.k c.in-Times.place c.in-Times.variable c.self.invariant c.self.view_is c.deref-step-items.ensures.value c.loop-k-test.true c.in-Times.is in
    step.eight

pub mul-requires-clause-left : goal.mul-requires-clause-left
mul-requires-clause-left c =
    let step = step_taken c.self.inside.monos.items c.args.self.now c.self.inside.steps.items c.deref-step-items.result.now c.loop-k.k c.in-Times.place c.in-Times.variable c.self.invariant c.self.view_is c.deref-step-items.ensures.value c.loop-k-test.true c.in-Times.is in
    subst (λ n. n < value_of c.args.m) (sym (c.loop-k.invariant c.in-Times.place step.before)) (mod-lt (mono_value (get_or c.args.self.now c.in-Times.place []) c.all_entries-entries.result.now) (omega (arith, value_of-large c.args.m)))

pub mul-requires-clause-right : goal.mul-requires-clause-right
mul-requires-clause-right c =
    let step = step_taken c.self.inside.monos.items c.args.self.now c.self.inside.steps.items c.deref-step-items.result.now c.loop-k.k c.in-Times.place c.in-Times.variable c.self.invariant c.self.view_is c.deref-step-items.ensures.value c.loop-k-test.true c.in-Times.is in
    subst (λ xs. get_or xs c.in-Times.variable 0 < value_of c.args.m) (sym c.all_entries-entries.ensures.value) (padded-below c.args.m c.args.point.now c.all_entries-entries.ensures.point c.in-Times.variable step.eight)

pub loop-k-preserved : goal.loop-k-preserved
loop-k-preserved c j low =
    let m = value_of c.args.m in
    let k = c.loop-k.k in
    let entries = c.all_entries-entries.result.now in
    let many : k < length c.self.inside.monos.items = omega (arith, c.loop-k-test.true, c.self.invariant.many, ap (λ ss. length ss) c.deref-step-items.ensures.value) in
    let here : c.match-step.out ≡ mono_value (get_or c.args.self.now k []) entries % m =
    elim c.match-step.branch [
      | in-Powers w ↦ w.out-is ∙ w.value_by_powers.ensures.value ∙ ap (λ e. mono_value e entries % m)
          (w.index.ensures ∙ get_or_default c.self.inside.monos.items k w.index.result.now [] many ∙ ap (λ (ms : List (List ℕ)). get_or ms k []) c.self.view_is)
      | in-Times w ↦
          let step = step_taken c.self.inside.monos.items c.args.self.now c.self.inside.steps.items c.deref-step-items.result.now c.loop-k.k w.in-Times.place w.in-Times.variable c.self.invariant c.self.view_is c.deref-step-items.ensures.value c.loop-k-test.true w.in-Times.is in
          w.out-is ∙ value_taken m (get_or c.args.self.now w.in-Times.place []) (get_or c.args.self.now k []) entries w.in-Times.variable (get_or c.loop-k.out w.in-Times.place 0) w.mul.result
          step.within step.is (c.loop-k.invariant w.in-Times.place step.before) w.mul.ensures.product
    ]
    in
    elim (cases_lt j k) [
      | inl before ↦ get_or-set_other c.loop-k.out k j c.match-step.out 0 (λ same. omega (arith, same)) ∙ c.loop-k.invariant j before
      | inr last ↦
          let same : k ≡ j = omega arith in
          subst (λ i. get_or (slice_set c.loop-k.out k c.match-step.out) i 0 ≡ mono_value (get_or c.args.self.now i []) entries % m) same
          (get_or-set_same c.loop-k.out k c.match-step.out 0 (omega (arith, many, ap (λ (ms : List (List ℕ)). length ms) c.self.view_is, c.requires.room, c.loop-k.auto.out)) ∙ here)
    ]

pub returns : goal.returns
returns c = record {
  values = λ k low. c.loop-k.invariant k (omega (arith, low, ap (λ (ms : List (List ℕ)). length ms) c.self.view_is, c.self.invariant.many, ap (λ ss. length ss) c.deref-step-items.ensures.value)) ∙ ap (λ v. v % value_of c.args.m)
      (ap (mono_value (get_or c.args.self.now k [])) c.all_entries-entries.ensures.value ∙ mono_value-padded (get_or c.args.self.now k []) c.args.point.now c.all_entries-entries.ensures.point.few);
}
