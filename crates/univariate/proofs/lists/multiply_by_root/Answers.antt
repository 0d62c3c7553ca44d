use Rattle.std.proofs.Common.{◌≡◌, ◌≢◌, ℕ, zero, suc, ◌<◌, ◌+◌, ◌-◌, ◌*◌, ◌%◌, length, slice_index, refl, sym, ◌∙◌, ap, arith, inl, inr, List, [], ◌∷◌, get_or-set_other, get_or-set_same}
use Rattle.std.proofs.lemmas.Bool.{cases_eq}
use Rattle.std.proofs.Math.ListN.{set}
use Rattle.std.proofs.Math.Nat.{mod-mod}
use Rattle.prime_field.specs.Modulus.{value_of}
use Rattle.prime_field.proofs.Residues.{add-cong, mul-cong}
use Rattle.univariate.specs.Coefficients.{product_of, Alike}
use Rattle.univariate.proofs.Places.{at-linear, at-linear_first, residues-set, reduced_sum}
use Rattle.univariate.proofs.lists.multiply_by_root.Goals as goal

pub loop-i-preserved : goal.loop-i-preserved
loop-i-preserved c =
    let m = value_of c.args.m in
    let j = c.loop-i.i - 1 in
    let place = j + 1 in
    let within : place < length c.loop-i.coefficients = omega arith in
    let made = c.fused.result in
    let entry : made % m ≡ (slice_index c.args.coefficients.now j + c.neg-opposite.result * slice_index c.args.coefficients.now place) % m =
    reduced_sum m made (slice_index c.loop-i.coefficients j) c.neg-opposite.result (slice_index c.loop-i.coefficients place) c.fused.ensures.sum ∙
    ap (λ t. (t + c.neg-opposite.result * slice_index c.loop-i.coefficients place) % m) (c.loop-i.invariant.rest j (omega arith)) ∙
    ap (λ t. (slice_index c.args.coefficients.now j + c.neg-opposite.result * t) % m) (c.loop-i.invariant.rest place (omega arith)) in
    record {
      residues = residues-set m c.loop-i.coefficients place made c.loop-i.invariant.residues c.fused.ensures.residue;
      rest = λ k low. let other : k ≢ place = omega arith in rw get_or-set_other (c.loop-i.invariant.rest k (omega arith));
      done = λ k from.
          elim (cases_eq k j) [
            | inl same ↦
                let next : place ≡ suc k = omega arith in
                rw (← next, get_or-set_same) (entry ∙ ap (λ i. (slice_index c.args.coefficients.now i + c.neg-opposite.result * slice_index c.args.coefficients.now place) % m) (sym same))
            | inr other ↦
                let apart : suc k ≢ place = omega arith in
                rw get_or-set_other (c.loop-i.invariant.done k (omega arith))
          ];
    }

multiplied : (m root opposite first : ℕ) (p made : List ℕ) → 0 < length made → opposite ≡ (m - root) % m → first ≡ (opposite * slice_index p 0) % m →
    ((k : ℕ) → slice_index made (suc k) % m ≡ (slice_index p k + opposite * slice_index p (suc k)) % m) → Alike m (set made 0 first) (product_of ((m - root) ∷ 1 ∷ []) p)
multiplied m root opposite first p made some is first_is done zero =
    rw get_or-set_same
    (ap (λ t. t % m) first_is ∙ mod-mod (opposite * slice_index p 0) m ∙
    mul-cong m opposite (m - root) (slice_index p 0) (slice_index p 0) (ap (λ t. t % m) is ∙ mod-mod (m - root) m) refl ∙
    ap (λ t. t % m) (sym (at-linear_first (m - root) p)))
multiplied m root opposite first p made some is first_is done (suc k) =
    let other : suc k ≢ 0 = omega arith in
    rw get_or-set_other
    (done k ∙
    add-cong m (slice_index p k) (slice_index p k) (opposite * slice_index p (suc k)) ((m - root) * slice_index p (suc k)) refl
    (mul-cong m opposite (m - root) (slice_index p (suc k)) (slice_index p (suc k)) (ap (λ t. t % m) is ∙ mod-mod (m - root) m) refl) ∙
    ap (λ t. t % m) (sym (at-linear (m - root) p k)))

pub returns-clause-product : goal.returns-clause-product
returns-clause-product c =
    let m = value_of c.args.m in
    multiplied m c.args.root c.neg-opposite.result c.mul.result c.args.coefficients.now c.loop-i.coefficients (omega arith) c.neg-opposite.ensures.negative
    (c.mul.ensures.product ∙ ap (λ t. (c.neg-opposite.result * t) % m) (c.loop-i.invariant.rest 0 (omega arith)))
    (λ k. c.loop-i.invariant.done k (omega arith))

pub returns-clause-residues : goal.returns-clause-residues
returns-clause-residues c = residues-set _ c.loop-i.coefficients 0 c.mul.result c.loop-i.invariant.residues c.mul.ensures.residue
