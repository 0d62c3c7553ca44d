use Rattle.std.proofs.Common.{◌≡◌, ◌+◌, ◌*◌, ◌/◌, length, ◌∙◌, ap, arith}
use Rattle.std.specs.List.{slice_range}
use Rattle.std.proofs.Math.Nat.{mul-div_cancel_left}
use Rattle.prime_field.specs.Modulus.{value_of}
use Rattle.poly_maps.specs.Polynomial.{coefficient}
use Rattle.newton_interp.specs.Grid.{points_of, grid_size}
use Rattle.multivar_recon.specs.Assembly.{assembled}
use Rattle.multivar_recon.specs.Tables.{row_terms}
use Rattle.multivar_recon.proofs.RowParts.{row_is, rows_more, row_low, rows_degrees, moved_terms_back}
use Rattle.multivar_recon.proofs.assembly.assemble.Goals as goal

pub returns-then-not-branch-clause-none : goal.returns-then-not-branch-clause-none
returns-then-not-branch-clause-none c degrees =
    let axes = c.args.axes.now in
    let table = c.args.table.now in
    let size = grid_size (points_of axes) in
    let k = c.loop-k.k in
    let width = length table / c.args.rows in
    let same : width ≡ size = ap (λ n. n / c.args.rows) c.requires.room ∙ mul-div_cancel_left size (omega arith) in
    let row = slice_range table (k * width) (k * width + width) in
    let is = row_is table c.args.rows size k width same c.requires.room (omega arith) in
    c.in_ok-push_part.ensures.high c.if-not-branch.true (row_low axes table row k is.0 is.1 (value_of c.args.m) c.args.rows c.requires.named (omega arith) c.requires.residues degrees)

pub loop-k-preserved : goal.loop-k-preserved
loop-k-preserved c =
    let axes = c.args.axes.now in
    let table = c.args.table.now in
    let size = grid_size (points_of axes) in
    let k = c.loop-k.k in
    let width = length table / c.args.rows in
    let same : width ≡ size = ap (λ n. n / c.args.rows) c.requires.room ∙ mul-div_cancel_left size (omega arith) in
    let row = slice_range table (k * width) (k * width + width) in
    let is = row_is table c.args.rows size k width same c.requires.room (omega arith) in
    rows_more axes table row k is.0 is.1 (value_of c.args.m) c.loop-k.terms.items c.push_part.new.terms.items c.requires.residues
    (c.in_ok-push_part.ensures.pushed c.if-not-branch.false) (c.in_ok-push_part.ensures.low c.if-not-branch.false) c.loop-k.invariant

pub returns-clause-coefficients : goal.returns-clause-coefficients
returns-clause-coefficients c =
    let parts = row_terms c.args.axes.now c.args.table.now in
    let all : c.loop-k.k ≡ c.args.rows = omega arith in
    moved_terms_back (value_of c.args.m) c.args.start.now c.loop-k.terms.items (assembled c.args.rows parts) c.in_ok-from_terms.field-0 c.in_ok-polynomial.polynomial
    (λ e. c.loop-k.invariant.0 e ∙ ap (λ n. coefficient e (assembled n parts)) all)
    c.in_ok-from_terms.ensures.sum c.in_ok-polynomial.ensures.coefficients

pub returns-clause-degrees : goal.returns-clause-degrees
returns-clause-degrees c = rows_degrees (value_of c.args.m) c.args.rows c.loop-k.k c.args.axes.now c.args.table.now c.loop-k.terms.items (omega arith) c.requires.some c.loop-k.invariant
