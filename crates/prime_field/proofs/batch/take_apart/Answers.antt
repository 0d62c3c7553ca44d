use Rattle.std.proofs.Common.{◌≡◌, ◌*◌, ◌-◌, ◌%◌, ◌≢◌, ◌<◌, ℕ, suc, inl, inr, slice_index, length, ap, subst, ◌∙◌, arith, get_or-set_other, get_or-set_same}
use Rattle.std.proofs.lemmas.Bool.{cases_eq}
use Rattle.prime_field.specs.Modulus.{value_of}
use Rattle.prime_field.specs.Product.{product_to}
use Rattle.prime_field.proofs.BatchLemmas.{last_inverse, rest_inverse}
use Rattle.prime_field.proofs.batch.take_apart.Goals as goal

pub loop-i-preserved : goal.loop-i-preserved
loop-i-preserved c =
    let j = c.loop-i.i - 1 in
    let m = value_of c.args.modulus in
    let f = slice_index c.args.xs.now in
    let before = product_to j f in
    let within : j < length c.loop-i.xs = omega arith in
    let last : c.loop-i.i ≡ suc j = omega arith in
    let all : (before * f j * c.loop-i.inverse) % m ≡ 1 =
    subst (λ (n : ℕ). (product_to n f * c.loop-i.inverse) % m ≡ 1) last c.loop-i.invariant.rest in
    let entry : slice_index c.loop-i.xs j ≡ f j = c.loop-i.invariant.kept j (omega arith) in
    let made : c.mul.result ≡ (c.loop-i.inverse * (before % m)) % m =
    c.mul.ensures.product ∙ ap (λ t. (c.loop-i.inverse * t) % m) (c.requires.before j (omega arith)) in
    record {
      residue = c.mul-inverse.ensures.residue;
      rest =
          ap (λ t. (before * t) % m) (c.mul-inverse.ensures.product ∙ ap (λ t. (c.loop-i.inverse * t) % m) entry) ∙
          rest_inverse m before (f j) c.loop-i.inverse all;
      kept = λ k below.
          let other : k ≢ j = omega arith in rw get_or-set_other (c.loop-i.invariant.kept k (omega arith));
      residues = λ k from low.
          elim (cases_eq k j) [
            | inl same ↦ rw (same, get_or-set_same) c.mul.ensures.residue
            | inr other ↦ rw get_or-set_other (c.loop-i.invariant.residues k (omega arith) low)
          ];
      products = λ k from low.
          elim (cases_eq k j) [
            | inl same ↦ rw (same, get_or-set_same, made) (last_inverse m before (f j) c.loop-i.inverse all)
            | inr other ↦ rw get_or-set_other (c.loop-i.invariant.products k (omega arith) low)
          ];
    }
