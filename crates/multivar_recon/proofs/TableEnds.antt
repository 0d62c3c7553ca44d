-- What stands in a table once its rows are interpolated, and what follows of optional answers.
use Rattle.std.proofs.Common.{◌≡◌, ℕ, suc, ◌+◌, ◌*◌, ◌%◌, ◌≤◌, Option, Some, None, Ok, Err, IfSome, IfNone, IfOk, List, length, slice_index, sym, subst}
use Rattle.std.specs.Prelude.{Result}
use Rattle.poly_maps.specs.Moved.{moved}
use Rattle.poly_maps.specs.Polynomial.{coefficient, AreResidues, IsPolynomial}
use Rattle.poly_maps.specs.Shifted.{negatives}
use Rattle.newton_interp.specs.Grid.{HasGridValues, points_of, grid_size}
use Rattle.newton_interp.specs.declared.grid.Axis.{Axis}
use Rattle.multivar_recon.specs.Assembly.{assembled, HaveDegrees}
use Rattle.multivar_recon.specs.Tables.{row_terms, AreRowsInterpolated, IsHighTable, IsTablePart}

pub rows_are : (m : ℕ) (axes lent : List Axis) (table old new rows : List ℕ) → lent ≡ axes → old ≡ table → rows ≡ new → AreRowsInterpolated m lent old new → AreRowsInterpolated m axes table rows
rows_are m axes lent table old new rows axes_are old_is rows_is interpolated =
    subst (λ (r : List ℕ). AreRowsInterpolated m axes table r) (sym rows_is)
    (subst (λ (o : List ℕ). AreRowsInterpolated m axes o new) old_is (subst (λ (a : List Axis). AreRowsInterpolated m a old new) axes_are interpolated))

pub part_some : (m highest n k : ℕ) (axes lent : List Axis) (s table rows : List ℕ) (found : Option (List (List ℕ × ℕ))) → lent ≡ axes → n ≡ suc highest → k ≡ highest →
    AreRowsInterpolated m axes table rows →
    IfSome found (λ p. (e : List ℕ) → coefficient e p ≡ coefficient e (moved (negatives m s) (assembled n (row_terms lent rows))) % m) →
    IfSome found IsPolynomial → IfSome found (AreResidues m) → IfSome found (λ p. HaveDegrees m k (row_terms lent rows)) → IfSome found (IsTablePart m highest axes s table)
part_some m highest n k axes lent s table rows None axes_are n_is k_is interpolated coefficients polynomial residues degrees = tt
part_some m highest n k axes lent s table rows (Some p) axes_are n_is k_is interpolated coefficients polynomial residues degrees =
    record {
      rows = rows;
      interpolated = interpolated;
      degrees =
          subst (λ (j : ℕ). HaveDegrees m j (row_terms axes rows)) k_is (subst (λ (a : List Axis). HaveDegrees m k (row_terms a rows)) axes_are degrees);
      polynomial = polynomial;
      residues = residues;
      coefficients =
          subst (λ (j : ℕ). (e : List ℕ) → coefficient e p ≡ coefficient e (moved (negatives m s) (assembled j (row_terms axes rows))) % m) n_is
          (subst (λ (a : List Axis). (e : List ℕ) → coefficient e p ≡ coefficient e (moved (negatives m s) (assembled n (row_terms a rows))) % m) axes_are coefficients);
    }

pub part_none : (m highest k : ℕ) (axes lent : List Axis) (table rows : List ℕ) (found : Option (List (List ℕ × ℕ))) → lent ≡ axes → k ≡ highest →
    AreRowsInterpolated m axes table rows → IfNone found (HaveDegrees m k (row_terms lent rows) → ⊥) → IfNone found (IsHighTable m highest axes table)
part_none m highest k axes lent table rows (Some p) axes_are k_is interpolated high = tt
part_none m highest k axes lent table rows None axes_are k_is interpolated high =
    record {
      rows = rows;
      interpolated = interpolated;
      high = subst (λ (j : ℕ). HaveDegrees m j (row_terms axes rows) → ⊥) k_is (subst (λ (a : List Axis). HaveDegrees m k (row_terms a rows) → ⊥) axes_are high);
    }

-- ---- optional answers

pub ok_some : {X E : Type 0} (r : Result (Option X) E) (P Q : X → Type 0) → ((x : X) → P x → Q x) → IfOk r (λ o. IfSome o P) → IfOk r (λ o. IfSome o Q)
ok_some (Ok None) P Q follows holds = tt
ok_some (Ok (Some x)) P Q follows holds = follows x holds
ok_some (Err e) P Q follows holds = tt

pub ok_none : {X E : Type 0} (r : Result (Option X) E) (P Q : Type 0) → (P → Q) → IfOk r (λ o. IfNone o P) → IfOk r (λ o. IfNone o Q)
ok_none (Ok None) P Q follows holds = follows holds
ok_none (Ok (Some x)) P Q follows holds = tt
ok_none (Err e) P Q follows holds = tt
