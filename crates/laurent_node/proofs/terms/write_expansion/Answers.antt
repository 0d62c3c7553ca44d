use Rattle.std.proofs.Common.{◌≡◌, ◌≤◌, ◌<◌, ◌+◌, ◌-◌, ◌*◌, ◌%◌, ◌∷◌, length, take, slice_index, ap, ◌∙◌, arith, inl, inr, get_or-set_other, get_or-set_same}
use Rattle.std.proofs.lemmas.Bool.{cases_eq}
use Rattle.std.proofs.lemmas.List.{length-take-le, take-set-le}
use Rattle.std.proofs.lemmas.Nat.{mul-mod_first}
use Rattle.prime_field.specs.Modulus.{value_of}
use Rattle.univariate.specs.Coefficients.{product_of}
use Rattle.laurent_node.specs.Expansion.{numerator_at}
use Rattle.laurent_node.proofs.terms.write_expansion.Goals as goal

pub loop-i-preserved : goal.loop-i-preserved
loop-i-preserved c =
    let m = value_of c.args.m in
    let i = c.loop-i.i in
    let out = c.loop-i.out in
    let within : i < length out = omega arith in
    let front : i ≤ length out = omega arith in
    let given = numerator_at c.args.num.now (c.args.first + i) in
    let known = slice_index (0 ∷ product_of c.args.tail.now (take i out)) i % m in
    let known_is : c.earlier-known.result ≡ known =
    c.earlier-known.ensures.sum ∙ ap (λ k. slice_index (0 ∷ product_of c.args.tail.now (take i out)) k % m) (length-take-le i out front) in
    let made : c.mul.result ≡ ((given + (m - known)) * c.args.inverse) % m =
    c.mul.ensures.product ∙ ap (λ t. (t * c.args.inverse) % m) c.sub.ensures.difference ∙
    ap (λ t. (((t + (m - c.earlier-known.result)) % m) * c.args.inverse) % m) c.numerator.ensures ∙
    ap (λ t. (((given + (m - t)) % m) * c.args.inverse) % m) known_is ∙
    mul-mod_first (given + (m - known)) c.args.inverse m in
    record {
      residues = λ k low.
          elim (cases_eq k i) [
            | inl same ↦ rw (same, get_or-set_same) c.mul.ensures.residue
            | inr other ↦ rw get_or-set_other (c.loop-i.invariant.residues k (omega arith))
          ];
      terms = λ k low.
          let below : k ≤ i = omega arith in
          rw take-set-le
          (elim (cases_eq k i) [
            | inl same ↦ rw (same, get_or-set_same) made
            | inr other ↦ rw get_or-set_other (c.loop-i.invariant.terms k (omega arith))
          ]);
    }
