use Rattle.std.proofs.Common.{ℕ, List}
use Rattle.prime_field.specs.Modulus.{value_of}
use Rattle.prime_field.specs.declared.Modulus.{Modulus}
use Rattle.prime_field.specs.declared.Modulus.TheVariants.{First, Second}
use Rattle.poly_maps.specs.Forcing.{IsForcing}
use Rattle.poly_maps.specs.declared.bound.Bounds.{Bounds}
use Rattle.ray_grid.specs.Attempt.{attempt_points}
use Rattle.ray_grid.specs.Grid.{bound_of}
use Rattle.ray_grid.specs.declared.grid.Grid.{Grid}
use Rattle.output_result.specs.Findings.{output_of}
use Rattle.output_result.proofs.laws.attempts_pin.Goals as goal

at : (b : Bounds) (g : Grid) (r1 r2 : ℕ) (values1 values2 : List ℕ) → ((m : Modulus) (r : ℕ) → IsForcing (value_of m) (bound_of g) (attempt_points g r)) →
    (m : Modulus) → IsForcing (value_of m) (bound_of g) ((output_of b g r1 values1 r2 values2).samples m).points
at b g r1 r2 values1 values2 forcing First = forcing First r1
at b g r1 r2 values1 values2 forcing Second = forcing Second r2

pub returns : goal.returns
returns c b g r1 r2 values1 values2 grid covers = record {
  covers = covers;
  forcing = at b g r1 r2 values1 values2 (λ m r. c.attempts_are_forcing.ensures m g r grid);
}
