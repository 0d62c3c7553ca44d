-- The rays of an attempt: what the tables of their least pairs say of these being regular.
use Rattle.std.proofs.Common.{◌≡◌, ℕ, zero, suc, ◌+◌, ◌*◌, ◌/◌, ◌%◌, ◌<◌, ◌≤◌, All, List, [], ◌∷◌, length, get_or, map, slice_index, refl, sym, ◌∙◌, ap, subst, arith, inl, inr}
use Rattle.std.proofs.lemmas.Bool.{cases_lt}
use Rattle.std.proofs.lemmas.List.{length-map, get_or_past}
use Rattle.std.proofs.lemmas.Nat.{div-mul-add}
use Rattle.prime_field.specs.declared.Modulus.{Modulus}
use Rattle.prime_field.specs.Modulus.{value_of}
use Rattle.prime_field.proofs.Moduli.{value_of-large}
use Rattle.univariate.specs.Coefficients.{AreResidues as AreResidueWords}
use Rattle.poly_maps.specs.declared.bound.Bounds.{Bounds}
use Rattle.poly_maps.specs.declared.pair.Pair.{Pair}
use Rattle.poly_maps.specs.Moved.{point_sum}
use Rattle.poly_maps.specs.Pair.{WithinBounds}
use Rattle.poly_maps.specs.Polynomial.{total_degree}
use Rattle.newton_interp.specs.Grid.{AreAxes, points_of, grid_size}
use Rattle.newton_interp.specs.GridPoints.{AreNamed}
use Rattle.newton_interp.specs.declared.grid.Axis.{Axis}
use Rattle.ray_grid.specs.declared.grid.Grid.{Grid}
use Rattle.ray_grid.specs.Attempt.{shift, slopes, lists_below, attempt_points}
use Rattle.ray_grid.specs.Covering.{Covers}
use Rattle.ray_grid.specs.Grid.{IsGrid, bound_of, later_degrees, point_count}
use Rattle.ray_grid.proofs.Forcing.{slopes-low, attempt_forcing}
use Rattle.ray_grid.proofs.RayLemmas.{length-attempt}
use Rattle.multivar_recon.specs.Assembly.{IsDirectional, AreAssembled, AreInterpolated, AreMade, AreScaled, HaveDegrees, PassTests}
use Rattle.multivar_recon.specs.Frame.{AreDirectionAxes}
use Rattle.multivar_recon.specs.Least.{IsLeastPair}
use Rattle.multivar_recon.specs.Rays.{directions, IsMonicMultiple, IsRegular, RegularRays}
use Rattle.multivar_recon.specs.Tables.{column, row_terms, AreRayTables, AreRowsInterpolated, HasStart, IsHighTable, IsTablePart}
use Rattle.multivar_recon.proofs.Complete.{num_pass, den_pass, tests_pass}
use Rattle.multivar_recon.proofs.Directional.{attempt_rays, den_directional, directional_eight, directions_begin_with_one, directions_pinned, forcing_for_den, length-lists_below, num_directional, shift_most}
use Rattle.multivar_recon.proofs.DirectionAxes.{directions_axes, directions_named, directions_size}
use Rattle.multivar_recon.proofs.Regular.{regular_least}
use Rattle.multivar_recon.proofs.Sound.{tests_regular}
use Rattle.multivar_recon.proofs.TableParts.{table_parts}

lists_some : (each : List ℕ) → 0 < length (lists_below each)
lists_some [] = omega arith
lists_some (e ∷ each) = omega (arith, length-lists_below e each, lists_some each)

pub directions_some : (g : Grid) (r : ℕ) → 0 < length (directions g r)
directions_some g r =
    omega (arith, length-map (lists_below (later_degrees g)) (λ j. 1 ∷ point_sum (slopes r g.variables) j), lists_some (later_degrees g))

-- as many samples as points are so many on each ray
pub samples_on_rays : (g : Grid) (r count : ℕ) → count ≡ point_count g → count ≡ length (directions g r) * (g.total + 3)
samples_on_rays g r count is = is ∙ sym (length-attempt g r) ∙ (attempt_rays g r).count

pub width_is : (g : Grid) (r count : ℕ) → count ≡ point_count g → count / (g.total + 3) ≡ length (directions g r)
width_is g r count is =
    let n : ℕ = g.total + 3 in
    let whole : count ≡ length (directions g r) * n + 0 = samples_on_rays g r count is ∙ omega arith in
    ap (λ k. k / n) whole ∙ div-mul-add (length (directions g r)) n 0 (omega arith)

pub residues_everywhere : (m : ℕ) (p : List ℕ) → 0 < m → All (λ v. v < m) p → AreResidueWords m p
residues_everywhere m p some all k =
    elim (cases_lt k (length p)) [
      | inl low ↦ all k 0 low
      | inr past ↦ subst (λ (x : ℕ). x < m) (sym (get_or_past p k 0 past)) some
    ]

-- ---- the conditions at an attempt

module _ (m : Modulus) (b : Bounds) (g : Grid) (r : ℕ) (vs : List ℕ) (is : IsGrid g) (covers : Covers (bound_of g) b) where
  pub regular_starts : RegularRays (value_of m) b g r vs → (d : ℕ) → d < length (directions g r) →
      HasStart (value_of m) (g.total + 3) (λ i. slice_index vs (d * (g.total + 3) + i)) b.num.total b.den.total
  regular_starts (f, regular) d low =
      let on = regular.each d low in
      record { num = on.num; den = on.den; least = on.least; start = on.start }

  module _ (nums dens : ℕ → List ℕ) (degrees : ℕ → ℕ)
      (scaled : AreScaled (value_of m) b.num.total b.den.total (length (directions g r)) (g.total + 3) vs nums dens degrees) where
    pub attempt_num_pass : (parts : ℕ → List (List ℕ × ℕ)) → AreInterpolated (value_of m) (IsDirectional g) (directions g r) b.num.total nums parts →
        RegularRays (value_of m) b g r vs → HaveDegrees (value_of m) b.num.total parts
    attempt_num_pass parts values (f, regular) =
        num_pass (value_of m) b (IsDirectional g) (shift r g.variables) (directions g r) (g.total + 3) vs nums dens degrees f (value_of-large m) (directional_eight g)
        (shift_most m g r) (directions_begin_with_one g r) (directions_some g r) (directions_pinned m g r is) (num_directional g b covers) (den_directional g b covers) scaled regular parts values

    pub attempt_den_pass : (parts : ℕ → List (List ℕ × ℕ)) → AreInterpolated (value_of m) (IsDirectional g) (directions g r) b.den.total dens parts →
        RegularRays (value_of m) b g r vs → HaveDegrees (value_of m) b.den.total parts
    attempt_den_pass parts values (f, regular) =
        den_pass (value_of m) b (IsDirectional g) (shift r g.variables) (directions g r) (g.total + 3) vs nums dens degrees f (value_of-large m) (directional_eight g)
        (shift_most m g r) (directions_begin_with_one g r) (directions_some g r) (directions_pinned m g r is) (num_directional g b covers) (den_directional g b covers) scaled regular parts values

  module _ (nums dens : ℕ → List ℕ) (degrees : ℕ → ℕ) (num_parts den_parts : ℕ → List (List ℕ × ℕ)) (f : Pair)
      (made : AreMade (value_of m) b (IsDirectional g) (shift r g.variables) (directions g r) (g.total + 3) vs nums dens degrees num_parts den_parts f) where
    -- what meets the conditions is regular
    pub attempt_regular : PassTests (value_of m) b (length (directions g r)) degrees num_parts den_parts f →
        IsRegular (value_of m) b (shift r g.variables) (directions g r) (g.total + 3) vs f
    attempt_regular tests =
        tests_regular (value_of m) b (IsDirectional g) (shift r g.variables) (directions g r) (g.total + 3) vs nums dens degrees num_parts den_parts f (value_of-large m) (directional_eight g)
        (shift_most m g r) (directions_begin_with_one g r) made tests

    -- where rays are regular, the conditions are met
    pub attempt_pass : RegularRays (value_of m) b g r vs → PassTests (value_of m) b (length (directions g r)) degrees num_parts den_parts f
    attempt_pass (h, regular) =
        tests_pass (value_of m) b (IsDirectional g) (shift r g.variables) (directions g r) (g.total + 3) vs nums dens degrees h (value_of-large m) (directional_eight g)
        (shift_most m g r) (directions_begin_with_one g r) (directions_some g r) (directions_pinned m g r is) (num_directional g b covers) (den_directional g b covers) made.scaled regular
        num_parts den_parts f made.num_values made.den_values made.assembled

  pub attempt_least : (f h : Pair) (c : ℕ) → length vs ≡ point_count g → IsRegular (value_of m) b (shift r g.variables) (directions g r) (g.total + 3) vs f →
      IsMonicMultiple (value_of m) c f h → IsLeastPair (value_of m) b (attempt_points g r) vs h
  attempt_least f h c samples regular times_is =
      regular_least (value_of m) b (shift r g.variables) (directions g r) (g.total + 3) (attempt_points g r) vs f (attempt_rays g r) regular c h (value_of-large m) (directions_some g r)
      (samples ∙ sym (length-attempt g r)) times_is (forcing_for_den (value_of m) (bound_of g) b (attempt_points g r) covers (attempt_forcing m g r is))

  -- ---- the tables of an attempt

  module _ (axes : List Axis) (width : ℕ) (nums dens degrees : List ℕ) (are : AreDirectionAxes 2 (slopes r g.variables) (later_degrees g) axes)
      (width_same : width ≡ length (directions g r)) (tables : AreRayTables (value_of m) b.num.total b.den.total width width (g.total + 3) vs nums dens degrees) where
    size_same : width ≡ grid_size (points_of axes)
    size_same = width_same ∙ sym (directions_size m g r axes is covers.places are)

    pub num_rows : length nums ≡ suc b.num.total * grid_size (points_of axes)
    num_rows = tables.num_room ∙ ap (λ w. suc b.num.total * w) size_same

    pub den_rows : length dens ≡ suc b.den.total * grid_size (points_of axes)
    den_rows = tables.den_room ∙ ap (λ w. suc b.den.total * w) size_same

    tables_scaled : AreScaled (value_of m) b.num.total b.den.total (length (directions g r)) (g.total + 3) vs
        (column (suc b.num.total) (grid_size (points_of axes)) nums) (column (suc b.den.total) (grid_size (points_of axes)) dens) (slice_index degrees)
    tables_scaled =
        subst (λ (k : ℕ). AreScaled (value_of m) b.num.total b.den.total k (g.total + 3) vs
        (column (suc b.num.total) (grid_size (points_of axes)) nums) (column (suc b.den.total) (grid_size (points_of axes)) dens) (slice_index degrees)) width_same
        (subst (λ (w : ℕ). AreScaled (value_of m) b.num.total b.den.total width (g.total + 3) vs (column (suc b.num.total) w nums) (column (suc b.den.total) w dens) (slice_index degrees)) size_same
        tables.scaled)

    num_values : (rows : List ℕ) → AreRowsInterpolated (value_of m) axes nums rows →
        AreInterpolated (value_of m) (IsDirectional g) (directions g r) b.num.total (column (suc b.num.total) (grid_size (points_of axes)) nums) (row_terms axes rows)
    num_values rows interpolated = table_parts m g r axes is covers.places are b.num.total nums rows num_rows interpolated

    den_values : (rows : List ℕ) → AreRowsInterpolated (value_of m) axes dens rows →
        AreInterpolated (value_of m) (IsDirectional g) (directions g r) b.den.total (column (suc b.den.total) (grid_size (points_of axes)) dens) (row_terms axes rows)
    den_values rows interpolated = table_parts m g r axes is covers.places are b.den.total dens rows den_rows interpolated

    pub high_num : IsHighTable (value_of m) b.num.total axes nums → RegularRays (value_of m) b g r vs → ⊥
    high_num table regular =
        table.high (attempt_num_pass (column (suc b.num.total) (grid_size (points_of axes)) nums) (column (suc b.den.total) (grid_size (points_of axes)) dens) (slice_index degrees) tables_scaled
        (row_terms axes table.rows) (num_values table.rows table.interpolated) regular)

    pub high_den : IsHighTable (value_of m) b.den.total axes dens → RegularRays (value_of m) b g r vs → ⊥
    high_den table regular =
        table.high (attempt_den_pass (column (suc b.num.total) (grid_size (points_of axes)) nums) (column (suc b.den.total) (grid_size (points_of axes)) dens) (slice_index degrees) tables_scaled
        (row_terms axes table.rows) (den_values table.rows table.interpolated) regular)

    module _ (start : List ℕ) (f : Pair) (start_is : start ≡ shift r g.variables) (num_is : IsTablePart (value_of m) b.num.total axes start nums f.num)
        (den_is : IsTablePart (value_of m) b.den.total axes start dens f.den) where
      num_part : IsTablePart (value_of m) b.num.total axes (shift r g.variables) nums f.num
      num_part = subst (λ (s : List ℕ). IsTablePart (value_of m) b.num.total axes s nums f.num) start_is num_is

      den_part : IsTablePart (value_of m) b.den.total axes (shift r g.variables) dens f.den
      den_part = subst (λ (s : List ℕ). IsTablePart (value_of m) b.den.total axes s dens f.den) start_is den_is

      tables_made : AreMade (value_of m) b (IsDirectional g) (shift r g.variables) (directions g r) (g.total + 3) vs
          (column (suc b.num.total) (grid_size (points_of axes)) nums) (column (suc b.den.total) (grid_size (points_of axes)) dens) (slice_index degrees)
          (row_terms axes num_part.rows) (row_terms axes den_part.rows) f
      tables_made = record {
        scaled = tables_scaled;
        num_values = num_values num_part.rows num_part.interpolated;
        den_values = den_values den_part.rows den_part.interpolated;
        assembled = record {
          pair = record { num = num_part.polynomial; den = den_part.polynomial; num_residues = num_part.residues; den_residues = den_part.residues };
          num = num_part.coefficients;
          den = den_part.coefficients;
        };
      }

      tested : RegularRays (value_of m) b g r vs → PassTests (value_of m) b (length (directions g r)) (slice_index degrees) (row_terms axes num_part.rows) (row_terms axes den_part.rows) f
      tested regular =
          attempt_pass (column (suc b.num.total) (grid_size (points_of axes)) nums) (column (suc b.den.total) (grid_size (points_of axes)) dens) (slice_index degrees)
          (row_terms axes num_part.rows) (row_terms axes den_part.rows) f tables_made regular

      pub regular_within : RegularRays (value_of m) b g r vs → WithinBounds b f
      regular_within regular = (tested regular).within

      pub regular_full : RegularRays (value_of m) b g r vs → (d : ℕ) → d < length degrees → slice_index degrees d ≡ total_degree f.den
      regular_full regular d low = (tested regular).full d (omega (arith, low, tables.degree_count, width_same))

      pub tables_regular : WithinBounds b f → ((d : ℕ) → d < length degrees → slice_index degrees d ≡ total_degree f.den) →
          IsRegular (value_of m) b (shift r g.variables) (directions g r) (g.total + 3) vs f
      tables_regular within full =
          attempt_regular (column (suc b.num.total) (grid_size (points_of axes)) nums) (column (suc b.den.total) (grid_size (points_of axes)) dens) (slice_index degrees)
          (row_terms axes num_part.rows) (row_terms axes den_part.rows) f tables_made
          (record { num_degrees = num_part.degrees; den_degrees = den_part.degrees; within = within; full = λ d low. full d (omega (arith, low, tables.degree_count, width_same)) })
