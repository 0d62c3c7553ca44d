use Rattle.std.proofs.Common.{◌≡◌, ◌<◌, ◌+◌, ◌-◌, ◌*◌, ◌%◌, length, drop, slice_index, refl, sym, ◌∙◌, ap, arith}
use Rattle.std.proofs.lemmas.List.{at_drop_more}
use Rattle.std.proofs.Math.Nat.{mod-mod}
use Rattle.prime_field.specs.Modulus.{value_of}
use Rattle.prime_field.proofs.Residues.{add-cong, mul-cong}
use Rattle.univariate.specs.Univariate.{univariate_value}
use Rattle.univariate.proofs.lists.value.Goals as goal

pub loop-i-preserved : goal.loop-i-preserved
loop-i-preserved c =
    let m = value_of c.args.m in
    let x = c.args.x in
    let p = c.args.coefficients.now in
    let j = c.loop-i.i - 1 in
    let within : j < length p = omega arith in
    let next : j + 1 ≡ c.loop-i.i = omega arith in
    let rest = univariate_value (drop c.loop-i.i p) x in
    record {
      residue = c.fused-sum.ensures.residue;
      value =
          c.fused-sum.ensures.sum ∙
          add-cong m (slice_index p j) (slice_index p j) (x * c.loop-i.sum) (x * rest) refl
          (mul-cong m x x c.loop-i.sum rest refl (ap (λ t. t % m) c.loop-i.invariant.value ∙ mod-mod rest m)) ∙
          ap (λ i. (slice_index p j + x * univariate_value (drop i p) x) % m) (sym next) ∙
          ap (λ t. t % m) (sym (at_drop_more (λ q. univariate_value q x) p j 0 within));
    }
