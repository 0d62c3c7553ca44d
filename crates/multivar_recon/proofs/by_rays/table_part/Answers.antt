use Rattle.std.proofs.Common.{◌≡◌, ℕ, suc, ◌+◌, ◌-◌, ◌++◌, length, take, drop, ◌∙◌, ap, arith}
use Rattle.prime_field.specs.Modulus.{value_of}
use Rattle.multivar_recon.specs.Tables.{AreRowsInterpolated}
use Rattle.multivar_recon.proofs.Sampled.{take-front}
use Rattle.multivar_recon.proofs.TableEnds.{rows_are, part_some, part_none}
use Rattle.multivar_recon.proofs.by_rays.table_part.Goals as goal

pub returns-clause-part : goal.returns-clause-part
returns-clause-part c =
    let axes = c.args.frame.now.axes.items in
    let new = c.interpolate_grid.new.buffer in
    let rows = c.deref-4.result.now in
    let long : c.args.table.len ≡ length new = omega (arith, ap length c.deref_mut.ensures.value, c.interpolate_grid.auto.buffer, c.args.table.ok.0) in
    let interpolated : AreRowsInterpolated (value_of c.args.m) axes c.args.table.items rows =
    rows_are (value_of c.args.m) axes c.deref-2.result.now c.args.table.items c.deref_mut.result.now new rows c.deref-2.ensures.value c.deref_mut.ensures.value
    (c.deref-4.ensures.value ∙ take-front new (drop (length new) c.args.table.items) c.args.table.len long) c.interpolate_grid.ensures.values in
    part_some (value_of c.args.m) c.args.highest (c.args.highest + 1) (c.args.highest + 1 - 1) axes c.deref-3.result.now c.args.frame.now.start c.args.table.items rows c.in_ok-part.part
    c.deref-3.ensures.value (omega arith) (omega arith) interpolated
    c.in_ok-part.ensures.coefficients c.in_ok-part.ensures.polynomial c.in_ok-part.ensures.residues c.in_ok-part.ensures.degrees

pub returns-clause-none : goal.returns-clause-none
returns-clause-none c =
    let axes = c.args.frame.now.axes.items in
    let new = c.interpolate_grid.new.buffer in
    let rows = c.deref-4.result.now in
    let long : c.args.table.len ≡ length new = omega (arith, ap length c.deref_mut.ensures.value, c.interpolate_grid.auto.buffer, c.args.table.ok.0) in
    let interpolated : AreRowsInterpolated (value_of c.args.m) axes c.args.table.items rows =
    rows_are (value_of c.args.m) axes c.deref-2.result.now c.args.table.items c.deref_mut.result.now new rows c.deref-2.ensures.value c.deref_mut.ensures.value
    (c.deref-4.ensures.value ∙ take-front new (drop (length new) c.args.table.items) c.args.table.len long) c.interpolate_grid.ensures.values in
    part_none (value_of c.args.m) c.args.highest (c.args.highest + 1 - 1) axes c.deref-3.result.now c.args.table.items rows c.in_ok-part.part
    c.deref-3.ensures.value (omega arith) interpolated c.in_ok-part.ensures.none
