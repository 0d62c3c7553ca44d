use Rattle.std.proofs.Common.{◌≡◌, ℕ, ◌+◌, ◌*◌, ◌/◌, ◌<◌, true, List, length, slice_index, sym, subst, arith}
use Rattle.prime_field.specs.Modulus.{value_of}
use Rattle.poly_maps.specs.declared.pair.Pair.{Pair}
use Rattle.ray_grid.proofs.Forcing.{slopes-low}
use Rattle.multivar_recon.specs.Rays.{IsMonicMultiple, RegularRays}
use Rattle.multivar_recon.specs.Tables.{IsAccepted}
use Rattle.multivar_recon.specs.Least.{IsLeastPair}
use Rattle.ray_grid.specs.Attempt.{attempt_points}
use Rattle.multivar_recon.proofs.Attempts.{attempt_least, directions_some, high_den, high_num, num_rows, den_rows, regular_full, regular_starts, regular_within, tables_regular, width_is}
use Rattle.multivar_recon.proofs.DirectionAxes.{directions_absent, directions_axes, directions_named}
use Rattle.multivar_recon.proofs.TableEnds.{ok_some}
use Rattle.multivar_recon.proofs.by_rays.rays.Goals as goal

pub scaled_pairs-requires-clause-some : goal.scaled_pairs-requires-clause-some
scaled_pairs-requires-clause-some c =
    let g = c.args.grid.now in
    subst (λ (k : ℕ). 0 < k) (sym (width_is g c.args.r (length c.args.values.now) c.requires.samples)) (directions_some g c.args.r)

pub returns-in_default-clause-none : goal.returns-in_default-clause-none
returns-in_default-clause-none c = λ prime regular.
    let g = c.args.grid.now in
    (rw c.in_default.is at c.in_ok-tables.ensures.none) prime
    (λ d low. regular_starts c.args.m c.args.bounds.now g c.args.r c.args.values.now c.requires.grid c.requires.covers regular d
    (subst (λ (k : ℕ). d < k) (width_is g c.args.r (length c.args.values.now) c.requires.samples) low))

pub table_part-requires-clause-named : goal.table_part-requires-clause-named
table_part-requires-clause-named c =
    directions_named c.args.m c.args.grid.now c.args.r c.in_ok-frame.frame.axes.items c.requires.grid c.requires.covers.places c.in_ok-frame.ensures.axes

pub table_part-requires-clause-axes : goal.table_part-requires-clause-axes
table_part-requires-clause-axes c =
    let g = c.args.grid.now in
    directions_axes c.args.m g c.args.r c.in_ok-frame.frame.axes.items c.requires.grid c.requires.covers.places c.in_ok-frame.ensures.axes (slopes-low c.args.r g.variables)

pub table_part-requires-clause-first : goal.table_part-requires-clause-first
table_part-requires-clause-first c =
    directions_absent c.args.m c.args.grid.now c.args.r c.in_ok-frame.frame.axes.items c.requires.grid c.requires.covers.places c.in_ok-frame.ensures.axes

pub table_part-requires-clause-rows : goal.table_part-requires-clause-rows
table_part-requires-clause-rows c =
    let g = c.args.grid.now in
    let t = c.in-Some.tables in
    num_rows c.args.m c.args.bounds.now g c.args.r c.args.values.now c.requires.grid c.requires.covers c.in_ok-frame.frame.axes.items (length c.args.values.now / (g.total + 3))
    t.nums.items t.dens.items t.degrees.items c.in_ok-frame.ensures.axes (width_is g c.args.r (length c.args.values.now) c.requires.samples) (rw c.in-Some.is at c.in_ok-tables.ensures.tables)

pub returns-in_default-2-clause-none : goal.returns-in_default-2-clause-none
returns-in_default-2-clause-none c = λ prime regular.
    let g = c.args.grid.now in
    let t = c.in-Some.tables in
    high_num c.args.m c.args.bounds.now g c.args.r c.args.values.now c.requires.grid c.requires.covers c.in_ok-frame.frame.axes.items (length c.args.values.now / (g.total + 3))
    t.nums.items t.dens.items t.degrees.items c.in_ok-frame.ensures.axes (width_is g c.args.r (length c.args.values.now) c.requires.samples) (rw c.in-Some.is at c.in_ok-tables.ensures.tables)
    (rw c.in_default-2.is at c.in_ok-num.ensures.none) regular

pub table_part-requires-2-clause-named : goal.table_part-requires-2-clause-named
table_part-requires-2-clause-named c =
    directions_named c.args.m c.args.grid.now c.args.r c.in_ok-frame.frame.axes.items c.requires.grid c.requires.covers.places c.in_ok-frame.ensures.axes

pub table_part-requires-2-clause-axes : goal.table_part-requires-2-clause-axes
table_part-requires-2-clause-axes c =
    let g = c.args.grid.now in
    directions_axes c.args.m g c.args.r c.in_ok-frame.frame.axes.items c.requires.grid c.requires.covers.places c.in_ok-frame.ensures.axes (slopes-low c.args.r g.variables)

pub table_part-requires-2-clause-first : goal.table_part-requires-2-clause-first
table_part-requires-2-clause-first c =
    directions_absent c.args.m c.args.grid.now c.args.r c.in_ok-frame.frame.axes.items c.requires.grid c.requires.covers.places c.in_ok-frame.ensures.axes

pub table_part-requires-2-clause-rows : goal.table_part-requires-2-clause-rows
table_part-requires-2-clause-rows c =
    let g = c.args.grid.now in
    let t = c.in-Some.tables in
    den_rows c.args.m c.args.bounds.now g c.args.r c.args.values.now c.requires.grid c.requires.covers c.in_ok-frame.frame.axes.items (length c.args.values.now / (g.total + 3))
    t.nums.items t.dens.items t.degrees.items c.in_ok-frame.ensures.axes (width_is g c.args.r (length c.args.values.now) c.requires.samples) (rw c.in-Some.is at c.in_ok-tables.ensures.tables)

pub returns-in_default-3-clause-none : goal.returns-in_default-3-clause-none
returns-in_default-3-clause-none c = λ prime regular.
    let g = c.args.grid.now in
    let t = c.in-Some.tables in
    high_den c.args.m c.args.bounds.now g c.args.r c.args.values.now c.requires.grid c.requires.covers c.in_ok-frame.frame.axes.items (length c.args.values.now / (g.total + 3))
    t.nums.items t.dens.items t.degrees.items c.in_ok-frame.ensures.axes (width_is g c.args.r (length c.args.values.now) c.requires.samples) (rw c.in-Some.is at c.in_ok-tables.ensures.tables)
    (rw c.in_default-3.is at c.in_ok-den.ensures.none) regular

pub returns-then-not-is_accepted-clause-none : goal.returns-then-not-is_accepted-clause-none
returns-then-not-is_accepted-clause-none c = λ prime regular.
    let g = c.args.grid.now in
    let t = c.in-Some.tables in
    let axes = c.in_ok-frame.frame.axes.items in
    let width = length c.args.values.now / (g.total + 3) in
    let width_same = width_is g c.args.r (length c.args.values.now) c.requires.samples in
    let tables = rw c.in-Some.is at c.in_ok-tables.ensures.tables in
    let f : Pair = record { num = c.in-Some-2.num; den = c.in-Some-3.den } in
    let num_part = rw c.in-Some-2.is at c.in_ok-num.ensures.part in
    let den_part = rw c.in-Some-3.is at c.in_ok-den.ensures.part in
    let accepted : IsAccepted c.args.bounds.now t.degrees.items f =
    record {
      within = regular_within c.args.m c.args.bounds.now g c.args.r c.args.values.now c.requires.grid c.requires.covers axes width t.nums.items t.dens.items t.degrees.items c.in_ok-frame.ensures.axes
          width_same tables c.in_ok-frame.frame.start f c.in_ok-frame.ensures.start num_part den_part regular;
      full = regular_full c.args.m c.args.bounds.now g c.args.r c.args.values.now c.requires.grid c.requires.covers axes width t.nums.items t.dens.items t.degrees.items c.in_ok-frame.ensures.axes
          width_same tables c.in_ok-frame.frame.start f c.in_ok-frame.ensures.start num_part den_part regular;
    } in
    let is : c.is_accepted.result ≡ true = c.is_accepted.ensures.1 (subst (λ (ds : List ℕ). IsAccepted c.args.bounds.now ds f) (sym c.deref.ensures.value) accepted) in
    cc

pub returns-clause-regular : goal.returns-clause-regular
returns-clause-regular c =
    let g = c.args.grid.now in
    let t = c.in-Some.tables in
    let axes = c.in_ok-frame.frame.axes.items in
    let width = length c.args.values.now / (g.total + 3) in
    let width_same = width_is g c.args.r (length c.args.values.now) c.requires.samples in
    let tables = rw c.in-Some.is at c.in_ok-tables.ensures.tables in
    let f : Pair = record { num = c.in-Some-2.num; den = c.in-Some-3.den } in
    let num_part = rw c.in-Some-2.is at c.in_ok-num.ensures.part in
    let den_part = rw c.in-Some-3.is at c.in_ok-den.ensures.part in
    let is : c.is_accepted.result ≡ true = cc in
    let accepted : IsAccepted c.args.bounds.now t.degrees.items f =
    subst (λ (ds : List ℕ). IsAccepted c.args.bounds.now ds f) c.deref.ensures.value (c.is_accepted.ensures.0 is) in
    let regular = tables_regular c.args.m c.args.bounds.now g c.args.r c.args.values.now c.requires.grid c.requires.covers axes width t.nums.items t.dens.items t.degrees.items c.in_ok-frame.ensures.axes
    width_same tables c.in_ok-frame.frame.start f c.in_ok-frame.ensures.start num_part den_part accepted.within accepted.full in
    ok_some c.monic.result (λ h. (k : ℕ) × IsMonicMultiple (value_of c.args.m) k f h) (λ h. RegularRays (value_of c.args.m) c.args.bounds.now g c.args.r c.args.values.now)
    (λ h found. (f, regular)) c.monic.ensures.multiple

pub returns-clause-least : goal.returns-clause-least
returns-clause-least c =
    let g = c.args.grid.now in
    let t = c.in-Some.tables in
    let axes = c.in_ok-frame.frame.axes.items in
    let width = length c.args.values.now / (g.total + 3) in
    let width_same = width_is g c.args.r (length c.args.values.now) c.requires.samples in
    let tables = rw c.in-Some.is at c.in_ok-tables.ensures.tables in
    let f : Pair = record { num = c.in-Some-2.num; den = c.in-Some-3.den } in
    let num_part = rw c.in-Some-2.is at c.in_ok-num.ensures.part in
    let den_part = rw c.in-Some-3.is at c.in_ok-den.ensures.part in
    let is : c.is_accepted.result ≡ true = cc in
    let accepted : IsAccepted c.args.bounds.now t.degrees.items f =
    subst (λ (ds : List ℕ). IsAccepted c.args.bounds.now ds f) c.deref.ensures.value (c.is_accepted.ensures.0 is) in
    let regular = tables_regular c.args.m c.args.bounds.now g c.args.r c.args.values.now c.requires.grid c.requires.covers axes width t.nums.items t.dens.items t.degrees.items c.in_ok-frame.ensures.axes
    width_same tables c.in_ok-frame.frame.start f c.in_ok-frame.ensures.start num_part den_part accepted.within accepted.full in
    ok_some c.monic.result (λ h. (k : ℕ) × IsMonicMultiple (value_of c.args.m) k f h)
    (λ h. IsLeastPair (value_of c.args.m) c.args.bounds.now (attempt_points g c.args.r) c.args.values.now h)
    (λ h found. attempt_least c.args.m c.args.bounds.now g c.args.r c.args.values.now c.requires.grid c.requires.covers f h found.0 c.requires.samples regular found.1) c.monic.ensures.multiple
