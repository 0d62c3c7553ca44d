-- Tables of coefficients on rays, column by column.
use Rattle.std.proofs.Common.{◌≡◌, ◌≢◌, ℕ, zero, suc, ◌+◌, ◌-◌, ◌*◌, ◌/◌, ◌%◌, ◌<◌, ◌≤◌, List, [], ◌∷◌, ◌++◌, length, get_or, slice_index, take, drop, refl, sym, ◌∙◌, ap, subst, arith, inl, inr, mul-one, one-mul, Option, Some, None, IfNone}
use Rattle.std.proofs.Math.ListN.{set, replicate}
use Rattle.std.proofs.Math.Nat.{mod-mod, mod-eq_of_lt, zero-mod}
use Rattle.std.proofs.lemmas.Bool.{cases_eq, cases_lt}
use Rattle.std.proofs.lemmas.List.{length-replicate, length-take, length-drop, length_push, get_or_push, get_or_append_left, get_or-take, get_or-drop, get_or-set_same, get_or-set_other, get_or_past}
use Rattle.std.proofs.lemmas.Nat.{div-mul-add, mod-mul-add}
use Rattle.prime_field.specs.Residue.{IsUnit}
use Rattle.prime_field.proofs.Residues.{mul-cong}
use Rattle.prime_field.proofs.Units.{unit-cong, unit_of_product}
use Rattle.univariate.specs.Univariate.{univariate_value, IsTrimmed}
use Rattle.univariate.specs.Coefficients.{multiple, product_of, Alike, AreResidues, IsBelow}
use Rattle.univariate.proofs.Coefficients.{at-beyond, at-sum, at-multiple}
use Rattle.univariate.proofs.Degrees.{below-length}
use Rattle.univariate.proofs.Places.{residues-set}
use Rattle.newton_interp.specs.Grid.{listed}
use Rattle.newton_interp.proofs.Columns.{at-listed}
use Rattle.newton_interp.proofs.Points.{zeros-at}
use Rattle.thiele_interp.specs.Pairs.{AgreesAt, IsAgreeing, IsLeastPair, IsReducedPair}
use Rattle.multivar_recon.specs.Assembly.{AreScaled}
use Rattle.multivar_recon.specs.Frame.{AreSteps}
use Rattle.multivar_recon.specs.Tables.{column, AreRayTables, HasStart, IsColumnWritten, IsEmptyFrom, IsScaledPair}
use Rattle.multivar_recon.proofs.InOne.{scaled_least}

-- ---- places of a table

-- a place tells its row and its column
place_apart : (k j width d e : ℕ) → d < width → e < width → k * width + d ≡ j * width + e → (k ≡ j) × (d ≡ e)
place_apart k j width d e low other same = (
  sym (div-mul-add k width d low) ∙ ap (λ x. x / width) same ∙ div-mul-add j width e other,
  sym (mod-mul-add k width d low) ∙ ap (λ x. x % width) same ∙ mod-mul-add j width e other,
)

-- one number more in a column
pub column_more : (numbers old now : List ℕ) (d width k v : ℕ) → d < width → k < length numbers → k * width + d < length now → v ≡ get_or numbers k 0 →
    IsColumnWritten (take k numbers) d width old now → IsColumnWritten (take (k + 1) numbers) d width old (set now (k * width + d) v)
column_more numbers old now d width k v low some room is before =
    record {
      written = λ j j_low. elim (cases_eq j k) [
        | inl here ↦
            ap (λ i. get_or (set now (k * width + d) v) (i * width + d) 0) here ∙
            get_or-set_same now (k * width + d) v 0 room ∙ is ∙ ap (λ i. get_or numbers i 0) (sym here) ∙
            sym (get_or-take (k + 1) numbers j 0 (omega (arith, here)))
        | inr other ↦
            get_or-set_other now (k * width + d) (j * width + d) v 0 (λ same. other (place_apart j k width d d low low same).0) ∙
            before.written j (omega (arith, length-take (k + 1) numbers, length-take k numbers, j_low, other)) ∙
            get_or-take k numbers j 0 (omega (arith, length-take (k + 1) numbers, j_low, other)) ∙
            sym (get_or-take (k + 1) numbers j 0 (omega (arith, length-take (k + 1) numbers, j_low)))
      ];
      behind = λ j from.
          get_or-set_other now (k * width + d) (j * width + d) v 0 (λ same. absurd (omega (arith, (place_apart j k width d d low low same).0, length-take (k + 1) numbers, from, some))) ∙
          before.behind j (omega (arith, length-take (k + 1) numbers, length-take k numbers, from, some));
      others = λ j e e_low other.
          get_or-set_other now (k * width + d) (j * width + e) v 0 (λ same. other (place_apart j k width e d e_low low same).1) ∙ before.others j e e_low other;
    }

-- ---- a pair, scaled

-- the same at the first n points is a least pair of the same samples
pub least_same : (m n : ℕ) (t v t' v' : ℕ → ℕ) (a b : ℕ) (num den : List ℕ) → ((i : ℕ) → i < n → t i ≡ t' i) → ((i : ℕ) → i < n → v i ≡ v' i) →
    IsLeastPair m n t v a b num den → IsLeastPair m n t' v' a b num den
least_same m n t v t' v' a b num den t_same v_same is =
    record {
      agreeing = moved t v t' v' t_same v_same num den is.agreeing;
      least = λ other_num other_den agreeing. is.least other_num other_den (back other_num other_den agreeing);
      multiple = λ other_num other_den agreeing. is.multiple other_num other_den (back other_num other_den agreeing);
    }
  where
    moved : (t v t' v' : ℕ → ℕ) → ((i : ℕ) → i < n → t i ≡ t' i) → ((i : ℕ) → i < n → v i ≡ v' i) → (num den : List ℕ) →
        IsAgreeing m n t v a b num den → IsAgreeing m n t' v' a b num den
    moved t v t' v' t_same v_same num den agreeing =
        record {
          num_degree = agreeing.num_degree;
          den_degree = agreeing.den_degree;
          some = agreeing.some;
          agrees = λ i low.
              ap (λ x. univariate_value num x % m) (sym (t_same i low)) ∙ agreeing.agrees i low ∙
              (λ j. (v_same i low j * univariate_value den (t_same i low j)) % m);
        }

    back : (num den : List ℕ) → IsAgreeing m n t' v' a b num den → IsAgreeing m n t v a b num den
    back = moved t' v' t v (λ i low. sym (t_same i low)) (λ i low. sym (v_same i low))

-- residues without zeros at the end, of a degree that is at most e
trimmed-few : (m e : ℕ) (p : List ℕ) → AreResidues m p → IsTrimmed p → IsBelow m e p → length p ≤ e
trimmed-few m e p low last below =
    elim (cases_lt e (length p)) [
      | inl many ↦ absurd (last (omega arith) (sym (mod-eq_of_lt (low (length p - 1))) ∙ below (length p - 1) (omega arith)))
      | inr few ↦ few
    ]

-- a reduced least pair times the inverse of its denominator at 0
pub scaled_is : (m n : ℕ) (v : ℕ → ℕ) (a b c : ℕ) (num den made_num made_den : List ℕ) → 1 < m → c < m → (slice_index den 0 * c) % m ≡ 1 →
    IsLeastPair m n suc v a b num den → IsReducedPair m num den → length made_num ≡ length num → length made_den ≡ length den →
    Alike m made_num (multiple c num) → Alike m made_den (multiple c den) → AreResidues m made_num → AreResidues m made_den →
    IsScaledPair m n v a b made_num made_den
scaled_is m n v a b c num den made_num made_den large low inverse least reduced num_count den_count num_is den_is num_low den_low =
    let u = slice_index den 0 in
    let turned : c * u ≡ u * c = omega arith in
    let unit : IsUnit m c = (u, reduced.den_residues 0, ap (λ x. x % m) turned ∙ inverse) in
    let one : 1 % m ≡ 1 = mod-eq_of_lt large in
    record {
      least = scaled_least m n suc v a b num den made_num made_den u c (inverse ∙ sym one) num_is den_is least;
      one = den_is 0 ∙ ap (λ x. x % m) (at-multiple c den 0 ∙ turned) ∙ inverse ∙ sym one;
      some = omega (arith, reduced.den_some);
      last = unit-cong m c (slice_index made_den (length made_den - 1))
          (sym (ap (λ k. slice_index made_den k % m) (ap (λ l. l - 1) den_count) ∙ den_is (length den - 1) ∙ ap (λ x. x % m) (at-multiple c den (length den - 1)) ∙
          ap (λ x. (c * x) % m) reduced.den_last ∙ ap (λ x. x % m) (mul-one c)))
          unit;
      num_few = omega (arith, num_count, trimmed-few m (suc a) num reduced.num_residues reduced.num_last least.agreeing.num_degree);
      den_few = omega (arith, den_count, trimmed-few m (suc b) den reduced.den_residues (λ some none. absurd (omega (arith, none, reduced.den_last))) least.agreeing.den_degree);
      num_residues = num_low;
      den_residues = den_low;
    }

-- a part of the words, scaled with them
pub part_scaled : (m c from count all : ℕ) (old new : List ℕ) → from + count ≤ all → all ≤ length old → length new ≡ length old → Alike m (take all new) (multiple c (take all old)) →
    Alike m (take count (drop from new)) (multiple c (take count (drop from old)))
part_scaled m c from count all old new fits room long is k =
    elim (cases_lt k count) [
      | inl low ↦
          ap (λ x. x % m) (get_or-take count (drop from new) k 0 low ∙ get_or-drop from new k 0 ∙ sym (get_or-take all new (from + k) 0 (omega (arith, fits, low)))) ∙
          is (from + k) ∙
          ap (λ x. x % m) (at-multiple c (take all old) (from + k) ∙
          ap (λ x. c * x) (get_or-take all old (from + k) 0 (omega (arith, fits, low)) ∙ sym (get_or-take count (drop from old) k 0 low ∙ get_or-drop from old k 0)) ∙
          sym (at-multiple c (take count (drop from old)) k))
      | inr high ↦
          ap (λ x. x % m) (get_or_past (take count (drop from new)) k 0 (omega (arith, length-take count (drop from new), high)) ∙
          sym (at-multiple c (take count (drop from old)) k ∙ ap (λ x. c * x) (get_or_past (take count (drop from old)) k 0 (omega (arith, length-take count (drop from old), high))) ∙ omega arith))
    ]

pub part_residues : (m from count all : ℕ) (p : List ℕ) → 0 < m → from + count ≤ all → AreResidues m (take all p) → AreResidues m (take count (drop from p))
part_residues m from count all p some fits low k =
    elim (cases_lt k count) [
      | inl within ↦
          subst (λ (x : ℕ). x < m) (get_or-take all p (from + k) 0 (omega (arith, fits, within)) ∙ sym (get_or-take count (drop from p) k 0 within ∙ get_or-drop from p k 0)) (low (from + k))
      | inr past ↦ subst (λ (x : ℕ). x < m) (sym (get_or_past (take count (drop from p)) k 0 (omega (arith, length-take count (drop from p), past)))) some
    ]

-- ---- one ray more

listed-same : (n : ℕ) (f g : ℕ → ℕ) → ((k : ℕ) → k < n → f k ≡ g k) → listed n f ≡ listed n g
listed-same zero f g same = refl
listed-same (suc n) f g same = λ i. same 0 (omega arith) i ∷ listed-same n (λ k. f (suc k)) (λ k. g (suc k)) (λ k low. same (suc k) (omega arith)) i

-- columns that weren't written are the old ones
column-kept : (rows width d e : ℕ) (numbers old new : List ℕ) → e < width → e ≢ d → IsColumnWritten numbers d width old new → column rows width new e ≡ column rows width old e
column-kept rows width d e numbers old new low other is =
    listed-same rows (λ k. slice_index new (k * width + e)) (λ k. slice_index old (k * width + e)) (λ k k_low. is.others k e low other)

-- the column that was written has the numbers and zeros behind
column-written : (rows width d : ℕ) (numbers old new : List ℕ) → length numbers ≤ rows → IsColumnWritten numbers d width old new →
    ((k : ℕ) → slice_index old (k * width + d) ≡ 0) → (k : ℕ) → slice_index (column rows width new d) k ≡ slice_index numbers k
column-written rows width d numbers old new few is empty k =
    elim (cases_lt k rows) [
      | inl low ↦ at-listed rows (λ k. slice_index new (k * width + d)) k low ∙
          elim (cases_lt k (length numbers)) [
            | inl within ↦ is.written k within
            | inr past ↦ is.behind k past ∙ empty k ∙ sym (at-beyond numbers k past)
          ]
      | inr high ↦ at-beyond (column rows width new d) k (omega (arith, length-listed rows (λ k. slice_index new (k * width + d)), high)) ∙ sym (at-beyond numbers k (omega (arith, few, high)))
    ]
  where
    length-listed : (n : ℕ) (f : ℕ → ℕ) → length (listed n f) ≡ n
    length-listed zero f = refl
    length-listed (suc n) f = ap suc (length-listed n (λ k. f (suc k)))

empty-kept : (count width d : ℕ) (numbers old new : List ℕ) → d ≡ count → IsEmptyFrom count width old → IsColumnWritten numbers d width old new → IsEmptyFrom (suc count) width new
empty-kept count width d numbers old new here empty is k e from low = is.others k e low (λ same. omega (arith, same, here, from)) ∙ empty k e (omega (arith, from)) low

pub record AreBegun (m a b count width n : ℕ) (vs nums dens degrees : List ℕ) : Type 0 where
  pub tables : AreRayTables m a b count width n vs nums dens degrees
  pub num_rest : IsEmptyFrom count width nums
  pub den_rest : IsEmptyFrom count width dens

-- the columns of a scaled pair stand in the tables
pub ray_more : (m a b d width n : ℕ) (v : ℕ → ℕ) (vs nums dens degrees num den new_nums new_dens : List ℕ) → d < width → ((i : ℕ) → i < n → v i ≡ slice_index vs (d * n + i)) →
    AreBegun m a b d width n vs nums dens degrees → IsScaledPair m n v a b num den →
    IsColumnWritten num d width nums new_nums → IsColumnWritten den d width dens new_dens → length new_nums ≡ length nums → length new_dens ≡ length dens →
    AreResidues m new_nums → AreResidues m new_dens → AreBegun m a b (d + 1) width n vs new_nums new_dens (degrees ++ (length den - 1) ∷ [])
ray_more m a b d width n v vs nums dens degrees num den new_nums new_dens low samples before pair num_written den_written num_long den_long num_low den_low =
    record {
      tables = record {
        scaled = record { least = least; one = one; low = below; top = top };
        num_room = num_long ∙ before.tables.num_room;
        den_room = den_long ∙ before.tables.den_room;
        degree_count = length_push degrees (length den - 1) ∙ ap (λ k. k + 1) before.tables.degree_count;
        num_residues = num_low;
        den_residues = den_low;
      };
      num_rest = subst (λ (k : ℕ). IsEmptyFrom k width new_nums) next (empty-kept d width d num nums new_nums refl before.num_rest num_written);
      den_rest = subst (λ (k : ℕ). IsEmptyFrom k width new_dens) next (empty-kept d width d den dens new_dens refl before.den_rest den_written);
    }
  where
    next : suc d ≡ d + 1
    next = omega arith

    num_at : (k : ℕ) → slice_index (column (suc a) width new_nums d) k ≡ slice_index num k
    num_at = column-written (suc a) width d num nums new_nums pair.num_few num_written (λ k. before.num_rest k d (omega arith) low)

    den_at : (k : ℕ) → slice_index (column (suc b) width new_dens d) k ≡ slice_index den k
    den_at = column-written (suc b) width d den dens new_dens pair.den_few den_written (λ k. before.den_rest k d (omega arith) low)

    degree_at : slice_index (degrees ++ (length den - 1) ∷ []) d ≡ length den - 1
    degree_at = get_or_push degrees (length den - 1) 0 d before.tables.degree_count

    degree_before : (e : ℕ) → e < d → slice_index (degrees ++ (length den - 1) ∷ []) e ≡ slice_index degrees e
    degree_before e e_low = get_or_append_left degrees ((length den - 1) ∷ []) 0 e (omega (arith, before.tables.degree_count, e_low))

    alike_one : (p q : List ℕ) → ((k : ℕ) → slice_index q k ≡ slice_index p k) → Alike m q (multiple 1 p)
    alike_one p q same k = ap (λ x. x % m) (same k ∙ sym (at-multiple 1 p k ∙ one-mul (slice_index p k)))

    num_kept : (e : ℕ) → e < d → column (suc a) width nums e ≡ column (suc a) width new_nums e
    num_kept e e_low = sym (column-kept (suc a) width d e num nums new_nums (omega (arith, e_low, low)) (λ same. omega (arith, same, e_low)) num_written)

    den_kept : (e : ℕ) → e < d → column (suc b) width dens e ≡ column (suc b) width new_dens e
    den_kept e e_low = sym (column-kept (suc b) width d e den dens new_dens (omega (arith, e_low, low)) (λ same. omega (arith, same, e_low)) den_written)

    least : (e : ℕ) → e < d + 1 → IsLeastPair m n suc (λ i. slice_index vs (e * n + i)) a b (column (suc a) width new_nums e) (column (suc b) width new_dens e)
    least e e_low = elim (cases_lt e d) [
      | inl earlier ↦
          subst (λ (p : List ℕ). IsLeastPair m n suc (λ i. slice_index vs (e * n + i)) a b p (column (suc b) width new_dens e)) (num_kept e earlier)
          (subst (λ (p : List ℕ). IsLeastPair m n suc (λ i. slice_index vs (e * n + i)) a b (column (suc a) width nums e) p) (den_kept e earlier) (before.tables.scaled.least e earlier))
      | inr last ↦
          let here : d ≡ e = omega (arith, last, e_low) in
          subst (λ (f : ℕ). IsLeastPair m n suc (λ i. slice_index vs (f * n + i)) a b (column (suc a) width new_nums f) (column (suc b) width new_dens f)) here
          (scaled_least m n suc (λ i. slice_index vs (d * n + i)) a b num den (column (suc a) width new_nums d) (column (suc b) width new_dens d) 1 1 (ap (λ x. x % m) (omega arith))
          (alike_one num (column (suc a) width new_nums d) num_at) (alike_one den (column (suc b) width new_dens d) den_at)
          (least_same m n suc v suc (λ i. slice_index vs (d * n + i)) a b num den (λ i i_low. refl) samples pair.least))
    ]

    one : (e : ℕ) → e < d + 1 → slice_index (column (suc b) width new_dens e) 0 % m ≡ 1 % m
    one e e_low = elim (cases_lt e d) [
      | inl earlier ↦ subst (λ (p : List ℕ). slice_index p 0 % m ≡ 1 % m) (den_kept e earlier) (before.tables.scaled.one e earlier)
      | inr last ↦
          let here : d ≡ e = omega (arith, last, e_low) in
          subst (λ (f : ℕ). slice_index (column (suc b) width new_dens f) 0 % m ≡ 1 % m) here (ap (λ x. x % m) (den_at 0) ∙ pair.one)
    ]

    below : (e : ℕ) → e < d + 1 → IsBelow m (suc (slice_index (degrees ++ (length den - 1) ∷ []) e)) (column (suc b) width new_dens e)
    below e e_low = elim (cases_lt e d) [
      | inl earlier ↦
          subst (λ (p : List ℕ). IsBelow m (suc (slice_index (degrees ++ (length den - 1) ∷ []) e)) p) (den_kept e earlier)
          (subst (λ (k : ℕ). IsBelow m (suc k) (column (suc b) width dens e)) (sym (degree_before e earlier)) (before.tables.scaled.low e earlier))
      | inr last ↦
          let here : d ≡ e = omega (arith, last, e_low) in
          subst (λ (f : ℕ). IsBelow m (suc (slice_index (degrees ++ (length den - 1) ∷ []) f)) (column (suc b) width new_dens f)) here
          (λ k from. ap (λ x. x % m) (den_at k ∙ at-beyond den k (omega (arith, degree_at, from, pair.some))) ∙ zero-mod m)
    ]

    top : (e : ℕ) → e < d + 1 → IsUnit m (slice_index (column (suc b) width new_dens e) (slice_index (degrees ++ (length den - 1) ∷ []) e))
    top e e_low = elim (cases_lt e d) [
      | inl earlier ↦
          subst (λ (p : List ℕ). IsUnit m (slice_index p (slice_index (degrees ++ (length den - 1) ∷ []) e))) (den_kept e earlier)
          (subst (λ (k : ℕ). IsUnit m (slice_index (column (suc b) width dens e) k)) (sym (degree_before e earlier)) (before.tables.scaled.top e earlier))
      | inr last ↦
          let here : d ≡ e = omega (arith, last, e_low) in
          subst (λ (f : ℕ). IsUnit m (slice_index (column (suc b) width new_dens f) (slice_index (degrees ++ (length den - 1) ∷ []) f))) here
          (subst (λ (x : ℕ). IsUnit m x) (sym (den_at (slice_index (degrees ++ (length den - 1) ∷ []) d) ∙ ap (slice_index den) degree_at)) pair.last)
    ]

-- ---- no pair

product-first : (q p : List ℕ) → slice_index (product_of q p) 0 ≡ slice_index q 0 * slice_index p 0
product-first [] p = omega arith
product-first (a ∷ q) p = at-sum (multiple a p) (0 ∷ product_of q p) 0 ∙ omega (arith, at-multiple a p 0)

-- where the pair that was found is no unit at 0, no least pair is
pub no_start : (m n : ℕ) (v : ℕ → ℕ) (a b : ℕ) (num den : List ℕ) → IsLeastPair m n suc v a b num den → (IsUnit m (slice_index den 0) → ⊥) → HasStart m n v a b → ⊥
no_start m n v a b num den least none has =
    let found = least.multiple has.num has.den has.least.agreeing in
    let q = found.0 in
    let turned : slice_index den 0 * slice_index q 0 ≡ slice_index q 0 * slice_index den 0 = omega arith in
    none (unit_of_product m (slice_index den 0) (slice_index q 0)
    (unit-cong m (slice_index has.den 0) (slice_index den 0 * slice_index q 0) (found.2 0 ∙ ap (λ x. x % m) (product-first q den ∙ sym turned)) has.start))

-- ---- what stands in the words

pub none_holds : {X : Type 0} (o : Option X) (P : Type 0) → P → IfNone o P
none_holds None P holds = holds
none_holds (Some x) P holds = tt

pub den_first : (num den : ℕ) (work : List ℕ) → 0 < length (take den (drop num work)) → slice_index (take den (drop num work)) 0 ≡ slice_index work num
den_first num den work some =
    let place : num + 0 ≡ num = omega arith in
    get_or-take den (drop num work) 0 0 (omega (arith, some, length-take den (drop num work))) ∙ get_or-drop num work 0 0 ∙ ap (λ k. get_or work k 0) place

pub joined_low : (m num den : ℕ) (work : List ℕ) → 0 < m → AreResidues m (take num work) → AreResidues m (take den (drop num work)) → AreResidues m (take (num + den) work)
joined_low m num den work some num_low den_low k =
    elim (cases_lt k num) [
      | inl front ↦ subst (λ (x : ℕ). x < m) (get_or-take num work k 0 front ∙ sym (get_or-take (num + den) work k 0 (omega arith))) (num_low k)
      | inr behind ↦ elim (cases_lt k (num + den)) [
        | inl within ↦
            let place : num + (k - num) ≡ k = omega arith in
            subst (λ (x : ℕ). x < m)
            (get_or-take den (drop num work) (k - num) 0 (omega arith) ∙ get_or-drop num work (k - num) 0 ∙ ap (λ i. get_or work i 0) place ∙ sym (get_or-take (num + den) work k 0 within))
            (den_low (k - num))
        | inr past ↦ subst (λ (x : ℕ). x < m) (sym (get_or_past (take (num + den) work) k 0 (omega (arith, length-take (num + den) work, past)))) some
      ]
    ]

-- ---- tables at the beginning and at the end

pub begun_first : (m a b width n : ℕ) (vs : List ℕ) → 0 < m → AreBegun m a b 0 width n vs (replicate (suc a * width) 0) (replicate (suc b * width) 0) []
begun_first m a b width n vs some =
    record {
      tables = record {
        scaled = record { least = λ d low. absurd (omega arith); one = λ d low. absurd (omega arith); low = λ d low. absurd (omega arith); top = λ d low. absurd (omega arith) };
        num_room = length-replicate (suc a * width) 0;
        den_room = length-replicate (suc b * width) 0;
        degree_count = refl;
        num_residues = λ k. omega (arith, zeros-at (suc a * width) k);
        den_residues = λ k. omega (arith, zeros-at (suc b * width) k);
      };
      num_rest = λ k d from low. zeros-at (suc a * width) (k * width + d);
      den_rest = λ k d from low. zeros-at (suc b * width) (k * width + d);
    }

slice-at : (values : List ℕ) (d n i : ℕ) → i < n → slice_index values (d * n + i) ≡ get_or (take (d * n + n - d * n) (drop (d * n) values)) i 0
slice-at values d n i low = sym (get_or-take (d * n + n - d * n) (drop (d * n) values) i 0 (omega (arith, low)) ∙ get_or-drop (d * n) values i 0)

pub start_on_slice : (m n n' : ℕ) (values : List ℕ) (d a b : ℕ) → n' ≡ n → HasStart m n (λ i. slice_index values (d * n + i)) a b →
    HasStart m n' (slice_index (take (d * n + n - d * n) (drop (d * n) values))) a b
start_on_slice m n n' values d a b same has =
    subst (λ (k : ℕ). HasStart m k (slice_index (take (d * n + n - d * n) (drop (d * n) values))) a b) (sym same)
    (record {
      num = has.num;
      den = has.den;
      least = least_same m n suc (λ i. slice_index values (d * n + i)) suc (slice_index (take (d * n + n - d * n) (drop (d * n) values))) a b has.num has.den (λ i low. refl) (slice-at values d n) has.least;
      start = has.start;
    })

-- one turn: a pair in the words is written to the tables
pub ray_step : (m a b d width n n' : ℕ) (vs nums dens degrees work first second old_nums old_dens new_nums new_dens pushed : List ℕ) (num den : ℕ) →
    d < width → n' ≡ n → AreBegun m a b d width n vs nums dens degrees →
    IsScaledPair m n' (slice_index (take (d * n + n - d * n) (drop (d * n) vs))) a b (take num work) (take den (drop num work)) → num + den ≤ length work →
    first ≡ work → second ≡ work → old_nums ≡ nums → old_dens ≡ dens →
    IsColumnWritten (take num first) d width old_nums new_nums → IsColumnWritten (take (num + den - num) (drop num second)) d width old_dens new_dens →
    length new_nums ≡ length old_nums → length new_dens ≡ length old_dens →
    (AreResidues m (take num first) → AreResidues m old_nums → AreResidues m new_nums) →
    (AreResidues m (take (num + den - num) (drop num second)) → AreResidues m old_dens → AreResidues m new_dens) →
    pushed ≡ degrees ++ (den - 1) ∷ [] → AreBegun m a b (d + 1) width n vs new_nums new_dens pushed
ray_step m a b d width n n' vs nums dens degrees work first second old_nums old_dens new_nums new_dens pushed num den low count before pair room first_is second_is nums_are dens_are
    num_written den_written num_long den_long num_low den_low pushed_is =
    let rest : num + den - num ≡ den = omega arith in
    let num_list : take num first ≡ take num work = ap (take num) first_is in
    let den_list : take (num + den - num) (drop num second) ≡ take den (drop num work) = (λ i. take (rest i) (drop num (second_is i))) in
    let long : length (take den (drop num work)) ≡ den = omega (arith, length-take den (drop num work), length-drop num work, room) in
    let here : IsScaledPair m n (slice_index (take (d * n + n - d * n) (drop (d * n) vs))) a b (take num work) (take den (drop num work)) =
    subst (λ (k : ℕ). IsScaledPair m k (slice_index (take (d * n + n - d * n) (drop (d * n) vs))) a b (take num work) (take den (drop num work))) count pair in
    let made : AreBegun m a b (d + 1) width n vs new_nums new_dens (degrees ++ (length (take den (drop num work)) - 1) ∷ []) =
    ray_more m a b d width n (slice_index (take (d * n + n - d * n) (drop (d * n) vs))) vs nums dens degrees (take num work) (take den (drop num work)) new_nums new_dens low
    (λ i i_low. sym (slice-at vs d n i i_low)) before here
    (subst (λ (p : List ℕ). IsColumnWritten p d width nums new_nums) num_list (subst (λ (p : List ℕ). IsColumnWritten (take num first) d width p new_nums) nums_are num_written))
    (subst (λ (p : List ℕ). IsColumnWritten p d width dens new_dens) den_list (subst (λ (p : List ℕ). IsColumnWritten (take (num + den - num) (drop num second)) d width p new_dens) dens_are den_written))
    (num_long ∙ ap length nums_are) (den_long ∙ ap length dens_are)
    (num_low (subst (AreResidues m) (sym num_list) here.num_residues) (subst (AreResidues m) (sym nums_are) before.tables.num_residues))
    (den_low (subst (AreResidues m) (sym den_list) here.den_residues) (subst (AreResidues m) (sym dens_are) before.tables.den_residues)) in
    subst (λ (p : List ℕ). AreBegun m a b (d + 1) width n vs new_nums new_dens p) (ap (λ k. degrees ++ (k - 1) ∷ []) long ∙ sym pushed_is) made
