use Rattle.std.proofs.Common.{◌≡◌, unsigned_abs, subst, arith}
use Rattle.std.specs.Int.{IsGcd}
use Rattle.std.proofs.lemmas.Int.{to_z-of_z}
use Rattle.std.proofs.lemmas.Bool.Decides.{nat_tests}
use Rattle.std.proofs.lemmas.Nat.Gcd.{same_from_IsGcd}
use Rattle.poly_maps.proofs.fraction.are_lowest.Goals as goal

pub returns-then-den-gt0 : goal.returns-then-den-gt0
returns-then-den-gt0 c =
    let gcd : IsGcd (unsigned_abs c.args.num) c.args.den c.common_divisor.result =
    subst (λ n. IsGcd n c.args.den c.common_divisor.result) (simp (to_z-of_z, c.ranges.num) at c.unsigned_abs.ensures.value) c.common_divisor.ensures in (
      λ one.
          record {
            positive = omega (arith, c.if-den-gt0.true);
            lowest = subst (λ g. IsGcd (unsigned_abs c.args.num) c.args.den g) (grind (arith, nat_tests, one)) gcd;
          },
      λ lowest.
          let one : c.common_divisor.result ≡ 1 = same_from_IsGcd _ _ _ _ gcd lowest.lowest in grind (arith, nat_tests, one),
    )
