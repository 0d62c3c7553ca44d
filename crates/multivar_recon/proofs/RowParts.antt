-- Rows of coefficients, pushed term by term as parts of a polynomial.
use Rattle.std.proofs.Common.{◌≡◌, ℕ, zero, suc, ◌+◌, ◌-◌, ◌*◌, ◌/◌, ◌%◌, ◌<◌, ◌≤◌, Bool, true, false, if◌then◌else◌, inl, inr, List, [], ◌∷◌, ◌++◌, length, drop, slice_index, refl, sym, ◌∙◌, ap, subst, arith}
use Rattle.std.specs.List.{slice_range}
use Rattle.std.proofs.Math.Nat.{mod-mod, mod-eq_of_lt, zero-mod, mul-le-mul_right}
use Rattle.std.proofs.lemmas.List.{length-take, length-drop, get_or-take, get_or-drop}
use Rattle.std.proofs.lemmas.Bool.{cases_eq}
use Rattle.poly_maps.specs.Mono.{degree, is_same}
use Rattle.poly_maps.specs.Moved.{moved}
use Rattle.poly_maps.specs.Polynomial.{coefficient, AreResidues}
use Rattle.poly_maps.specs.Shifted.{negatives}
use Rattle.poly_maps.proofs.MonoLemmas.{is_same-true}
use Rattle.poly_maps.proofs.Moves.{moved-alike}
use Rattle.poly_maps.proofs.Terms.{coefficient-append}
use Rattle.newton_interp.specs.Grid.{points_of, grid_size}
use Rattle.newton_interp.specs.GridPoints.{IsAbsent, AreNamed, exponents_at, terms_below}
use Rattle.newton_interp.specs.declared.grid.Axis.{Axis}
use Rattle.newton_interp.proofs.Columns.{at-other}
use Rattle.newton_interp.proofs.Points.{zeros-at}
use Rattle.multivar_recon.specs.Assembly.{at_degree, assembled, filled, HaveDegrees}
use Rattle.multivar_recon.specs.Parts.{AddsPart, IsLowRow}
use Rattle.multivar_recon.specs.Tables.{row_terms}
use Rattle.multivar_recon.proofs.TableParts.{place_coefficient}

-- the first variable has the exponent 0 where no axis has it
pub first_exponent : (axes : List Axis) (i : ℕ) → AreNamed axes → IsAbsent 1 axes → slice_index (exponents_at axes i) 0 ≡ 0
first_exponent [] i named absent = zeros-at 8 0
first_exponent (axis ∷ axes) i named absent =
    at-other (exponents_at axes (i % grid_size (points_of axes))) (axis.variable - 1) (i / grid_size (points_of axes)) 0
    (λ same. absent.0 (omega (arith, same, named.0.first))) ∙
    first_exponent axes (i % grid_size (points_of axes)) named.2 absent.1

-- ---- one coefficient more

at_degree-append : (k : ℕ) (p q : List (List ℕ × ℕ)) → at_degree k (p ++ q) ≡ at_degree k p ++ at_degree k q
at_degree-append k [] q = refl
at_degree-append k (t ∷ p) q = ap (λ r. (filled k t.0, t.1) ∷ r) (at_degree-append k p q)

coefficient-next : (axes : List Axis) (k : ℕ) (c : ℕ → ℕ) (n : ℕ) (e : List ℕ) → coefficient e (at_degree k (terms_below axes c (n + 1))) ≡
    coefficient e (at_degree k (terms_below axes c n)) + (if is_same (filled k (exponents_at axes n)) e then c n else 0)
coefficient-next axes k c n e =
    let next : n + 1 ≡ suc n = omega arith in
    ap (λ i. coefficient e (at_degree k (terms_below axes c i))) next ∙
    ap (coefficient e) (at_degree-append k (terms_below axes c n) ((exponents_at axes n, c n) ∷ [])) ∙
    coefficient-append e (at_degree k (terms_below axes c n)) (at_degree k ((exponents_at axes n, c n) ∷ [])) ∙
    omega arith

pub adds_nothing : (axes : List Axis) (k : ℕ) (c : ℕ → ℕ) (old : List (List ℕ × ℕ)) → AddsPart axes k c 0 old old
adds_nothing axes k c old = record { sum = λ e. omega arith; residues = λ m low residues. residues }

pub adds_zero : (axes : List Axis) (k : ℕ) (c : ℕ → ℕ) (n : ℕ) (old new : List (List ℕ × ℕ)) → c n ≡ 0 → AddsPart axes k c n old new → AddsPart axes k c (n + 1) old new
adds_zero axes k c n old new none before = record {
  sum = λ e. omega (arith, before.sum e, coefficient-next axes k c n e, nothing (is_same (filled k (exponents_at axes n)) e));
  residues = λ m low residues. before.residues m (λ i within. low i (omega arith)) residues;
}
  where
    nothing : (b : Bool) → (if b then c n else 0) ≡ 0
    nothing true = none
    nothing false = refl

residues-more : (m : ℕ) (p : List (List ℕ × ℕ)) (t : List ℕ × ℕ) → AreResidues m p → t.1 < m → AreResidues m (p ++ t ∷ [])
residues-more m [] t low last = (last, tt)
residues-more m (u ∷ p) t low last = (low.0, residues-more m p t low.1 last)

pub adds_term : (axes : List Axis) (k : ℕ) (c : ℕ → ℕ) (n : ℕ) (old new made : List (List ℕ × ℕ)) → made ≡ new ++ (filled k (exponents_at axes n), c n) ∷ [] →
    AddsPart axes k c n old new → AddsPart axes k c (n + 1) old made
adds_term axes k c n old new made is before = record {
  sum = λ e.
      omega (
        arith,
        ap (coefficient e) is,
        coefficient-append e new ((filled k (exponents_at axes n), c n) ∷ []),
        before.sum e,
        coefficient-next axes k c n e,
      );
  residues = λ m low residues.
      subst (AreResidues m) (sym is)
      (residues-more m new (filled k (exponents_at axes n), c n) (before.residues m (λ i within. low i (omega arith)) residues) (low n (omega arith)));
}

pub low_next : (axes : List Axis) (k : ℕ) (c : ℕ → ℕ) (n : ℕ) → (k < degree (exponents_at axes n) → c n ≡ 0) → IsLowRow axes k c n → IsLowRow axes k c (n + 1)
low_next axes k c n here before i within high = elim (cases_eq i n) [
  | inl last ↦
      let high_here : k < degree (exponents_at axes n) = subst (λ j. k < degree (exponents_at axes j)) last high in
      ap c last ∙ here high_here
  | inr other ↦ before i (omega arith) high
]

-- ---- rows and the degrees of parts

pub terms_below-same : (axes : List Axis) (c d : ℕ → ℕ) (n : ℕ) → ((i : ℕ) → i < n → c i ≡ d i) → terms_below axes c n ≡ terms_below axes d n
terms_below-same axes c d zero same = refl
terms_below-same axes c d (suc n) same =
    let rest = terms_below-same axes c d n (λ i low. same i (omega arith)) in
    let last : c n ≡ d n = same n (omega arith) in
    (λ k. rest k ++ (exponents_at axes n, last k) ∷ [])

-- what a low row sums up to has no greater degree
pub low_coefficient : (axes : List Axis) (k : ℕ) (c : ℕ → ℕ) (n : ℕ) → IsLowRow axes k c n → (e : List ℕ) → k < degree e → coefficient e (terms_below axes c n) ≡ 0
low_coefficient axes k c zero low e high = refl
low_coefficient axes k c (suc n) low e high =
    coefficient-append e (terms_below axes c n) ((exponents_at axes n, c n) ∷ []) ∙
    omega (
      arith,
      low_coefficient axes k c n (λ i within. low i (omega arith)) e high,
      last (is_same (exponents_at axes n) e) refl,
    )
  where
    last : (b : Bool) → is_same (exponents_at axes n) e ≡ b → (if is_same (exponents_at axes n) e then c n else 0) ≡ 0
    last true same =
        let high_here : k < degree (exponents_at axes n) = subst (λ f. k < degree f) (sym (is_same-true (exponents_at axes n) e same)) high in
        ap (λ b. if b then c n else 0) same ∙ low n (omega arith) high_here
    last false other = ap (λ b. if b then c n else 0) other

-- and a row of residues without greater degrees modulo m is low
pub low_of_degrees : (m : ℕ) (axes : List Axis) (k : ℕ) (c : ℕ → ℕ) (n : ℕ) → AreNamed axes → n ≤ grid_size (points_of axes) → ((i : ℕ) → i < n → c i < m) →
    ((e : List ℕ) → k < degree e → coefficient e (terms_below axes c n) % m ≡ 0) → IsLowRow axes k c n
low_of_degrees m axes k c n named few residues none i within high =
    sym (mod-eq_of_lt (residues i within)) ∙ ap (λ v. v % m) (sym (place_coefficient axes c n i named few within)) ∙ none (exponents_at axes i) high

-- ---- what is assembled and moved back

pub moved_terms_back : (m : ℕ) (s : List ℕ) (terms whole sum polynomial : List (List ℕ × ℕ)) → ((e : List ℕ) → coefficient e terms ≡ coefficient e whole) →
    ((e : List ℕ) → coefficient e sum ≡ coefficient e terms % m) → ((e : List ℕ) → coefficient e polynomial ≡ coefficient e (moved (negatives m s) sum) % m) →
    (e : List ℕ) → coefficient e polynomial ≡ coefficient e (moved (negatives m s) whole) % m
moved_terms_back m s terms whole sum polynomial same sum_is back e =
    back e ∙
    moved-alike m (negatives m s) sum whole (λ f. ap (λ c. c % m) (sum_is f) ∙ mod-mod (coefficient f terms) m ∙ ap (λ c. c % m) (same f)) e

-- ---- the rows of a table, one after the other

-- row k of a table of rows of w words
pub row_is : (table : List ℕ) (rows size k w : ℕ) → w ≡ size → length table ≡ rows * size → k < rows →
    (length (slice_range table (k * w) (k * w + w)) ≡ size) × ((i : ℕ) → i < size → slice_index (slice_range table (k * w) (k * w + w)) i ≡ slice_index table (k * size + i))
row_is table rows size k w same room low =
    let enough : suc k * size ≤ rows * size = mul-le-mul_right size (omega arith) in
    let begin : k * w ≡ k * size = ap (λ v. k * v) same in
    let count : k * w + w - k * w ≡ size = omega (arith, same) in (
      length-take (k * w + w - k * w) (drop (k * w) table) ∙ omega (arith, length-drop (k * w) table, begin, enough, room, count),
      λ i within.
          get_or-take (k * w + w - k * w) (drop (k * w) table) i 0 (omega (arith, count, within)) ∙
          get_or-drop (k * w) table i 0 ∙
          ap (λ v. slice_index table (v + i)) begin,
    )

-- the terms are those of the first k rows, each made homogeneous of its number, and these rows are low
abbrev pub HasRows : ℕ → List Axis → List ℕ → ℕ → List (List ℕ × ℕ) → Type 0
HasRows m axes table k terms =
    ((e : List ℕ) → coefficient e terms ≡ coefficient e (assembled k (row_terms axes table))) × AreResidues m terms ×
    ((j : ℕ) → j < k → IsLowRow axes j (λ i. slice_index table (j * grid_size (points_of axes) + i)) (grid_size (points_of axes)))

module _ (axes : List Axis) (table row : List ℕ) (k : ℕ) (count : length row ≡ grid_size (points_of axes))
    (same : (i : ℕ) → i < grid_size (points_of axes) → slice_index row i ≡ slice_index table (k * grid_size (points_of axes) + i)) where
  row_terms_are : terms_below axes (slice_index row) (length row) ≡ row_terms axes table k
  row_terms_are =
      let size = grid_size (points_of axes) in
      ap (terms_below axes (slice_index row)) count ∙ terms_below-same axes (slice_index row) (λ i. slice_index table (k * size + i)) size same

  pub rows_more : (m : ℕ) (old new : List (List ℕ × ℕ)) → ((i : ℕ) → slice_index table i < m) → AddsPart axes k (slice_index row) (length row) old new →
      IsLowRow axes k (slice_index row) (length row) → HasRows m axes table k old → HasRows m axes table (k + 1) new
  rows_more m old new residues adds low before =
      let size = grid_size (points_of axes) in
      let next : suc k ≡ k + 1 = omega arith in (
        λ e.
            adds.sum e ∙
            (λ i. before.0 e i + coefficient e (at_degree k (row_terms_are i))) ∙
            sym (coefficient-append e (assembled k (row_terms axes table)) (at_degree k (row_terms axes table k))) ∙
            ap (λ n. coefficient e (assembled n (row_terms axes table))) next,
        adds.residues m (λ i within. subst (λ v. v < m) (sym (same i (omega (arith, count, within)))) (residues (k * size + i))) before.1,
        λ j within. elim (cases_eq j k) [
          | inl here ↦
              subst (λ l. IsLowRow axes l (λ i. slice_index table (l * size + i)) size) (sym here)
              (λ i i_low high. sym (same i i_low) ∙ low i (omega (arith, count, i_low)) high)
          | inr other ↦ before.2 j (omega arith)
        ],
      )

  pub row_low : (m rows : ℕ) → AreNamed axes → k < rows → ((i : ℕ) → slice_index table i < m) → HaveDegrees m (rows - 1) (row_terms axes table) → IsLowRow axes k (slice_index row) (length row)
  row_low m rows named within residues degrees i i_low high =
      let size = grid_size (points_of axes) in
      let here : i < size = omega (arith, count, i_low) in
      same i here ∙
      low_of_degrees m axes k (λ j. slice_index table (k * size + j)) size named (omega arith) (λ j j_low. residues (k * size + j)) (degrees k (omega arith)) i here high

-- low rows have parts of their degrees
pub rows_degrees : (m rows k : ℕ) (axes : List Axis) (table : List ℕ) (terms : List (List ℕ × ℕ)) → rows ≤ k → 1 ≤ rows → HasRows m axes table k terms → HaveDegrees m (rows - 1) (row_terms axes table)
rows_degrees m rows k axes table terms all some has j low e high =
    let size = grid_size (points_of axes) in
    ap (λ v. v % m) (low_coefficient axes j (λ i. slice_index table (j * size + i)) size (has.2 j (omega arith)) e high) ∙ zero-mod m
