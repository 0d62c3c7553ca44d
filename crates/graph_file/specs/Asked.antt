-- What is kept of the lines of the job.
use Rattle.std.specs.Prelude.{ℕ, ◌≤◌, max, [], map, None, slice_index}
use Rattle.std.specs.List.{range_with_len}
use Rattle.poly_maps.specs.declared.bound.Bound.{Bound}
use Rattle.poly_maps.specs.declared.bound.Bounds.{Bounds}
use Rattle.graph_file.specs.declared.asked.Asked.{Asked}
use Rattle.graph_file.specs.declared.line.Which.{Which}
use Rattle.graph_file.specs.Bounding.{all_with, each_of, no_bound, special_with, total_of}

-- nothing was said
abbrev pub nothing : Asked
nothing = record { points = []; all = None; special = []; coeff = None; widest = no_bound }

-- the greater degrees, of a bound and of a numerator and its denominator together
abbrev pub widened : Bound → Bounds → Bound
widened widest bounds = record { total = max widest.total (total_of bounds); each = map (λ i. max (slice_index widest.each i) (each_of i bounds)) (range_with_len 0 8) }

-- with bounds for these outputs
abbrev pub with_bounds : Asked → Which → Bounds → Asked
with_bounds asked outputs bounds = record { points = asked.points; all = all_with outputs bounds asked.all; special = special_with outputs bounds asked.special; coeff = asked.coeff; widest = widened asked.widest bounds }

-- numerator and denominator have degrees of at most 64
pub record AreLow (bounds : Bounds) : Type 0 where
  pub num_total : bounds.num.total ≤ 64
  pub den_total : bounds.den.total ≤ 64
  pub num_each : (i : ℕ) → slice_index bounds.num.each i ≤ 64
  pub den_each : (i : ℕ) → slice_index bounds.den.each i ≤ 64
