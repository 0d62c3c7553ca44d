-- Steps and axes, built from the front.
use Rattle.std.proofs.Common.{◌≡◌, ℕ, zero, suc, ◌+◌, ◌-◌, ◌<◌, ◌≤◌, List, [], ◌∷◌, ◌++◌, length, get_or, slice_index, take, drop, refl, sym, ◌∙◌, ap, subst, arith, inl, inr}
use Rattle.std.proofs.lemmas.Bool.{cases_eq}
use Rattle.std.proofs.lemmas.List.{length-take, length_push, get_or_push, get_or_append_left, take_more}
use Rattle.newton_interp.specs.declared.grid.Axis.{Axis}
use Rattle.multivar_recon.specs.Frame.{AreSteps, AreDirectionAxes}

-- one step more
pub steps_more : (first count v : ℕ) (steps : List ℕ) → AreSteps first count steps → v ≡ first + count → AreSteps first (count + 1) (steps ++ v ∷ [])
steps_more first count v steps are is =
    record {
      many = omega (arith, length_push steps v, are.many);
      each = λ k low. elim (cases_eq k count) [
        | inl last ↦ get_or_push steps v 0 k (omega (arith, are.many, last)) ∙ omega (arith, is, last)
        | inr other ↦ get_or_append_left steps (v ∷ []) 0 k (omega (arith, are.many, other, low)) ∙ are.each k (omega (arith, other, low))
      ];
    }

-- one axis more
pub axes_more : (variable slope degree : ℕ) (slopes each : List ℕ) (axes : List Axis) (axis : Axis) → AreDirectionAxes variable slopes each axes →
    axis.variable ≡ variable + length each → AreSteps slope (degree + 1) axis.values.items →
    AreDirectionAxes variable (slopes ++ slope ∷ []) (each ++ degree ∷ []) (axes ++ axis ∷ [])
axes_more variable slope degree [] [] [] axis are named steps = (named ∙ omega arith, steps, tt)
axes_more variable slope degree (g ∷ slopes) (e ∷ each) (a ∷ axes) axis are named steps =
    (are.0, are.1, axes_more (suc variable) slope degree slopes each axes axis are.2 (named ∙ omega arith) steps)
axes_more variable slope degree [] [] (a ∷ axes) axis are named steps = absurd are
axes_more variable slope degree [] (e ∷ each) axes axis are named steps = absurd are
axes_more variable slope degree (g ∷ slopes) [] axes axis are named steps = absurd are
axes_more variable slope degree (g ∷ slopes) (e ∷ each) [] axis are named steps = absurd are

pub axes_next : (k : ℕ) (slopes each : List ℕ) (axes new : List Axis) (axis : Axis) → k < length slopes → k < length each → length slopes ≡ length each →
    new ≡ axes ++ axis ∷ [] → AreDirectionAxes 2 (take k slopes) (take k each) axes → axis.variable ≡ k + 2 →
    AreSteps (get_or slopes k 0) (get_or each k 0 + 1) axis.values.items → AreDirectionAxes 2 (take (k + 1) slopes) (take (k + 1) each) new
axes_next k slopes each axes new axis low e_low same is before named steps =
    let made = axes_more 2 (get_or slopes k 0) (get_or each k 0) (take k slopes) (take k each) axes axis before (named ∙ omega (arith, length-take k each)) steps in
    subst (λ (x : List Axis). AreDirectionAxes 2 (take (k + 1) slopes) (take (k + 1) each) x) (sym is)
    (subst (λ (x : List ℕ). AreDirectionAxes 2 (take (k + 1) slopes) x (axes ++ axis ∷ [])) (sym (take_more each k 0 e_low))
    (subst (λ (x : List ℕ). AreDirectionAxes 2 x (take k each ++ get_or each k 0 ∷ []) (axes ++ axis ∷ [])) (sym (take_more slopes k 0 low)) made))
