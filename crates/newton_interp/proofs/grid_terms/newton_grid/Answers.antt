use Rattle.std.proofs.Common.{◌≡◌, ℕ, ◌%◌, ◌<◌, List, length, slice_index, ◌∙◌, subst}
use Rattle.std.specs.Prelude.{IfOk}
use Rattle.prime_field.specs.Modulus.{value_of}
use Rattle.poly_maps.specs.Polynomial.{value_at}
use Rattle.newton_interp.specs.GridPoints.{grid_point}
use Rattle.newton_interp.proofs.grid_terms.newton_grid.Goals as goal

pub returns-clause-values : goal.returns-clause-values
returns-clause-values c =
    subst (λ (vs : List ℕ). IfOk c.interpolated.result (λ p. (i : ℕ) → i < length vs → value_at p (grid_point c.args.axes.now i) % value_of c.args.m ≡ slice_index vs i))
    (c.deref_mut.ensures.value ∙ c.in_ok-buffer.ensures.items) c.interpolated.ensures.values
