use Rattle.std.proofs.Common.{◌≡◌, ℕ, ◌+◌, ◌%◌, take, get_or, vec_len}
use Rattle.prime_field.specs.Modulus.{value_of}
use Rattle.poly_maps.specs.Polynomial.{value_at}
use Rattle.poly_maps.specs.Moved.{graded}
use Rattle.poly_maps.proofs.ray.values_by_degree.Given as goal

abbrev pub invariant-loop-term : goal.invariant-loop-term
invariant-loop-term l =
    (vec_len l.values ≡ l.highest + 1) ×
    ((k : ℕ) → get_or l.values.items k 0 ≡ value_at (graded k (take l.term-index l.terms)) l.g % value_of l.m)
