use Rattle.std.proofs.Common.{ℕ, ◌-◌, ◌<◌}
use Rattle.prime_field.specs.Modulus.{value_of}
use Rattle.univariate.specs.Coefficients.{HasLength}
use Rattle.thiele_interp.specs.Remainders.{AreRemainders, BothAgree}
use Rattle.thiele_interp.proofs.euclid.descend.Given as goal

abbrev pub invariant-loop-length : goal.invariant-loop-length
invariant-loop-length l = record {
  high : l.least < l.degree;
  trimmed : HasLength l.length l.rest;
  remainders : AreRemainders (value_of l.m) l.count l.degree (l.count - l.degree) l.above l.rest l.earlier l.factor;
  agree : (n : ℕ) (t v : ℕ → ℕ) → BothAgree (value_of l.m) n t v l.fn.above l.fn.rest l.fn.earlier l.fn.factor →
      BothAgree (value_of l.m) n t v l.above l.rest l.earlier l.factor;
}

abbrev pub decreases-loop-length : goal.decreases-loop-length
decreases-loop-length l = l.degree
