use Rattle.std.proofs.Common.{ℕ, ◌+◌, ◌*◌, ◌%◌, ◌<◌, length, slice_index}
use Rattle.prime_field.specs.Modulus.{value_of}
use Rattle.prime_field.specs.Residue.{IsUnit}
use Rattle.newton_interp.specs.Stage.{IsStage, Wants, AreWords}
use Rattle.newton_interp.proofs.form.add_pairs.Given as goal

abbrev pub invariant-loop-pair : goal.invariant-loop-pair
invariant-loop-pair l = record {
  residue : l.factor < value_of l.m;
  unit : IsUnit (value_of l.m) l.factor;
  words : AreWords (value_of l.m) l.spread l.missing l.product l.out;
  stage : IsStage (value_of l.m) (length l.points) (length l.points % 2 + 2 * l.pair) (slice_index l.points) (slice_index l.spread) l.product l.out;
  wants : (v : ℕ → ℕ) → Wants (value_of l.m) (length l.points) (length l.points % 2) (slice_index l.points) v (slice_index l.initial.missing) l.initial.out →
      Wants (value_of l.m) (length l.points) (length l.points % 2 + 2 * l.pair) (slice_index l.points) (λ i. l.factor * v i) (slice_index l.missing) l.out;
}
