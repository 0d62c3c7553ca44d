-- What holds of the bounds that good lines give.
use Rattle.std.proofs.Common.{◌≡◌, ◌-◌, ◌≢◌, ◌<◌, ◌≤◌, ◌+◌, ◌*◌, ℕ, zero, suc, Bool, true, false, ◌&&◌, ◌||◌, ◌==◌, cond, refl, sym, ap, subst, ◌∙◌, List, [], ◌∷◌, ◌++◌, length, take, map, get_or, add-one, min, max, Option, Some, None, arith, nat_le, nat_lt, is_some}
use mathlib.Core.Logic.{⊎_elim}
use Rattle.std.specs.Prelude.{slice_index, unwrap_or}
use Rattle.std.specs.List.{slice_get, list_any, range_with_len}
use Rattle.std.proofs.lemmas.Bool.Decides.{nat_tests}
use Rattle.std.proofs.Math.Seq.{take-suc}
use Rattle.std.proofs.lemmas.List.{map-append}
use Rattle.poly_maps.specs.declared.bound.Bound.{Bound}
use Rattle.poly_maps.specs.declared.bound.Bounds.{Bounds}
use Rattle.rational_lift.specs.Joined.{both}
use Rattle.rational_lift.specs.declared.coeff.Coeff.{Coeff}
use Rattle.ray_grid.specs.Grid.{IsGrid, bound_of, point_count}
use Rattle.ray_grid.specs.Covering.{Covers, HasFew}
use Rattle.graph_file.specs.declared.graph.Graph.{Graph}
use Rattle.graph_file.specs.declared.job.Need.{Need}
use Rattle.graph_file.specs.declared.job.Need.TheVariants as needed
use Rattle.graph_file.specs.declared.job.Special.{Special}
use Rattle.graph_file.specs.declared.line.Degrees.{Degrees}
use Rattle.graph_file.specs.declared.line.Last.{Last}
use Rattle.graph_file.specs.declared.line.Line.{Line}
use Rattle.graph_file.specs.declared.line.Line.TheVariants as line
use Rattle.graph_file.specs.declared.line.Which.{Which}
use Rattle.graph_file.specs.declared.line.Which.TheVariants as which
use Rattle.ratfun_text.specs.Names.{names_of as variables_of}
use Rattle.ratfun_text.specs.declared.names.Names.{Names}
use Rattle.graph_file.specs.declared.asked.Asked.{Asked}
use Rattle.graph_file.specs.declared.reader.Reader.{Reader}
use Rattle.graph_file.specs.Asked.{AreLow, widened, with_bounds}
use Rattle.graph_file.specs.Bounded.{AreBounds, AreGiven, HasBounds, IsBound, IsCoeff, inputs_of, main_variables}
use Rattle.graph_file.specs.Bounding.{all_in, all_with, bound_said, bounds_among, bounds_given, bounds_said, coeff_in, coeff_or, degree_in, each_of, greatest_of, grid_with, special_in, special_with, total_of, widest}
use Rattle.graph_file.specs.Facts.{has_output, is_job_line, points_in, variables_in}
use Rattle.graph_file.specs.Faults.{are_bounds, are_numbers, has_few, is_coeff, is_given, is_low, is_position, is_small, is_which, grid_in}
use Rattle.graph_file.specs.File.{is_complete}
use Rattle.graph_file.specs.Formed.{IsFormed}
use Rattle.graph_file.specs.Read.{AreGoodLines, IsRead}
use Rattle.graph_file.specs.Reader.{AreVariables, has_input, is_asked, is_ended, last_of, stands_behind}
use Rattle.graph_file.specs.Sound.{IsPosition}
use Rattle.graph_file.proofs.Passes.{Passes, both as each_of_two, ended_of, not_false, passes, stands-bounds, stands-coeff, stands-node, stands-output, stands-point, stands-row, stands_of, unasked-behind, variables-passed}
use Rattle.graph_file.proofs.SoundLemmas.{at_push}

-- what holds of each of eight numbers, and of nothing behind them
eight_hold : (f : ℕ → ℕ) (P : ℕ → ℕ → Type 0) → ((i : ℕ) → P i (f i)) → ((i : ℕ) → P i 0) → (i : ℕ) → P i (slice_index (map f (range_with_len 0 8)) i)
eight_hold f P each past zero = each 0
eight_hold f P each past (suc zero) = each 1
eight_hold f P each past (suc (suc zero)) = each 2
eight_hold f P each past (suc (suc (suc zero))) = each 3
eight_hold f P each past (suc (suc (suc (suc zero)))) = each 4
eight_hold f P each past (suc (suc (suc (suc (suc zero))))) = each 5
eight_hold f P each past (suc (suc (suc (suc (suc (suc zero)))))) = each 6
eight_hold f P each past (suc (suc (suc (suc (suc (suc (suc zero))))))) = each 7
eight_hold f P each past (suc (suc (suc (suc (suc (suc (suc (suc i)))))))) = past (suc (suc (suc (suc (suc (suc (suc (suc i))))))))

-- a bound that is said
degree_low : (variables : ℕ) (degrees : Degrees) (i : ℕ) → degree_in variables degrees i ≤ degrees.total
degree_low variables degrees i = from (nat_lt i variables)
  where
    from : (b : Bool) → cond b (min degrees.total (unwrap_or (slice_get degrees.each i) degrees.total)) 0 ≤ degrees.total
    from true = omega arith
    from false = omega arith

degree_past : (variables : ℕ) (degrees : Degrees) (i : ℕ) → variables ≤ i → degree_in variables degrees i ≡ 0
degree_past variables degrees i past =
    let over : nat_lt i variables ≡ false = grind (arith, nat_tests) in
    ap (λ b. cond b (min degrees.total (unwrap_or (slice_get degrees.each i) degrees.total)) 0) over

pub bound-is : (variables : ℕ) (degrees : Degrees) → degrees.total ≤ 64 → IsBound variables (bound_said variables degrees)
bound-is variables degrees low = record {
  places = refl;
  low = low;
  each = eight_hold (degree_in variables degrees) (λ i n. n ≤ degrees.total) (degree_low variables degrees) (λ i. omega arith);
  others = eight_hold (degree_in variables degrees) (λ i n. variables ≤ i → n ≡ 0) (degree_past variables degrees) (λ i past. refl);
}

pub low-said : (variables : ℕ) (num den : Degrees) → num.total ≤ 64 → den.total ≤ 64 → AreLow (bounds_said variables num den)
low-said variables num den num_low den_low =
    let one : IsBound variables (bound_said variables num) = bound-is variables num num_low in
    let two : IsBound variables (bound_said variables den) = bound-is variables den den_low in
    record {
      num_total = num_low;
      den_total = den_low;
      num_each = λ i. let below : slice_index (bound_said variables num).each i ≤ num.total = one.each i in omega (arith, below, num_low);
      den_each = λ i. let below : slice_index (bound_said variables den).each i ≤ den.total = two.each i in omega (arith, below, den_low);
    }

-- bounds, each of which is one
EachIs : ℕ → List Bounds → Type 0
EachIs variables [] = Unit {0}
EachIs variables (bounds ∷ later) = AreBounds variables bounds × EachIs variables later

each_special : (variables : ℕ) (special : List Special) → ((k : ℕ) (own : Special) → slice_get special k ≡ Some own → AreBounds variables own.bounds) → EachIs variables (map (λ (own : Special). own.bounds) special)
unfolding EachIs
each_special variables [] each = tt
each_special variables (own ∷ later) each = (each 0 own refl, each_special variables later (λ k other at. each (suc k) other at))

each_given : (variables : ℕ) (all : Option Bounds) (special : List Special) → ((bounds : Bounds) → all ≡ Some bounds → AreBounds variables bounds) → ((k : ℕ) (own : Special) → slice_get special k ≡ Some own → AreBounds variables own.bounds) → EachIs variables (bounds_given all special)
unfolding EachIs
each_given variables None special every own = each_special variables special own
each_given variables (Some bounds) special every own = (every bounds refl, each_special variables special own)

-- the greatest sums
each_low : (variables : ℕ) (bounds : Bounds) (i : ℕ) → AreBounds variables bounds → each_of i bounds ≤ total_of bounds
each_low variables bounds i is = let one : slice_index bounds.num.each i ≤ bounds.num.total = is.num.each i in let two : slice_index bounds.den.each i ≤ bounds.den.total = is.den.each i in omega (arith, one, two)

greatest_total : (variables : ℕ) (all : List Bounds) → EachIs variables all → greatest_of (map total_of all) ≤ 128
unfolding EachIs
greatest_total variables [] each = omega arith
greatest_total variables (bounds ∷ later) each =
    let rest : greatest_of (map total_of later) ≤ 128 = greatest_total variables later each.1 in
    let one : bounds.num.total ≤ 64 = each.0.num.low in
    let two : bounds.den.total ≤ 64 = each.0.den.low in
    omega (arith, rest, one, two)

greatest_each : (variables : ℕ) (all : List Bounds) → EachIs variables all → (i : ℕ) → greatest_of (map (each_of i) all) ≤ greatest_of (map total_of all)
unfolding EachIs
greatest_each variables [] each i = omega arith
greatest_each variables (bounds ∷ later) each i =
    let rest : greatest_of (map (each_of i) later) ≤ greatest_of (map total_of later) = greatest_each variables later each.1 i in
    let here : each_of i bounds ≤ total_of bounds = each_low variables bounds i each.0 in
    both_less (each_of i bounds) (total_of bounds) (greatest_of (map (each_of i) later)) (greatest_of (map total_of later)) here rest
  where
    both_less : (a b c d : ℕ) → a ≤ b → c ≤ d → max a c ≤ max b d
    both_less a b c d one two = omega (arith, one, two)

greatest_past : (variables : ℕ) (all : List Bounds) → EachIs variables all → (i : ℕ) → variables ≤ i → greatest_of (map (each_of i) all) ≡ 0
unfolding EachIs
greatest_past variables [] each i past = refl
greatest_past variables (bounds ∷ later) each i past =
    let rest : greatest_of (map (each_of i) later) ≡ 0 = greatest_past variables later each.1 i past in
    let one : slice_index bounds.num.each i ≡ 0 = each.0.num.others i past in
    let two : slice_index bounds.den.each i ≡ 0 = each.0.den.others i past in
    zeros (slice_index bounds.num.each i) (slice_index bounds.den.each i) (greatest_of (map (each_of i) later)) one two rest
  where
    zeros : (a b c : ℕ) → a ≡ 0 → b ≡ 0 → c ≡ 0 → max (a + b) c ≡ 0
    zeros a b c one two three = omega (arith, one, two, three)

pub grid-is : (variables : ℕ) (all : Option Bounds) (special : List Special) → 1 ≤ variables → variables ≤ 8 → ((bounds : Bounds) → all ≡ Some bounds → AreBounds variables bounds) → ((k : ℕ) (own : Special) → slice_get special k ≡ Some own → AreBounds variables own.bounds) → IsGrid (grid_with variables (widest (bounds_given all special)))
grid-is variables all special some few every own =
    let each : EachIs variables (bounds_given all special) = each_given variables all special every own in
    record {
      some = some;
      few = few;
      low = greatest_total variables (bounds_given all special) each;
      each = eight_hold (λ i. greatest_of (map (each_of i) (bounds_given all special))) (λ i n. n ≤ greatest_of (map total_of (bounds_given all special))) (greatest_each variables (bounds_given all special) each) (λ i. omega arith);
      others = eight_hold (λ i. greatest_of (map (each_of i) (bounds_given all special))) (λ i n. variables ≤ i → n ≡ 0) (greatest_past variables (bounds_given all special) each) (λ i past. refl);
    }

-- bounds with those of one more line
none_some : {A : Type 0} (o : Option A) → is_some o ≡ false → o ≡ None
none_some None e = refl
none_some (Some a) e = cc

every_with : (variables : ℕ) (outputs : Which) (given : Bounds) (all : Option Bounds) → AreBounds variables given → ((bounds : Bounds) → all ≡ Some bounds → AreBounds variables bounds) → (bounds : Bounds) → all_with outputs given all ≡ Some bounds → AreBounds variables bounds
every_with variables which.All given all are every bounds is = let same : given ≡ bounds = cc in subst (AreBounds variables) same are
every_with variables (which.Output output) given all are every bounds is = every bounds is

own_with : (variables : ℕ) (outputs : Which) (given : Bounds) (special : List Special) → AreBounds variables given → ((k : ℕ) (own : Special) → slice_get special k ≡ Some own → AreBounds variables own.bounds) → (k : ℕ) (own : Special) → slice_get (special_with outputs given special) k ≡ Some own → AreBounds variables own.bounds
own_with variables which.All given special are each k own at = each k own at
own_with variables (which.Output output) given special are each k own at = ⊎_elim
    (λ (before : slice_get special k ≡ Some own). each k own before)
    (λ (here : (k ≡ length special) × ((record { output = output; bounds = given }) ≡ own)). subst (λ (s : Special). AreBounds variables s.bounds) here.1 are)
    (at_push special (record { output = output; bounds = given }) k own at)

position_is : (n : ℕ) → is_position n ≡ true → IsPosition n
position_is n test =
    let parts : (nat_le 1 n ≡ true) × (nat_le n 262144 ≡ true) = each_of_two (nat_le 1 n) (nat_le n 262144) test in
    let low : nat_le 1 n ≡ true = parts.0 in
    let high : nat_le n 262144 ≡ true = parts.1 in
    record { first = grind (arith, nat_tests, low); last = grind (arith, nat_tests, high) }

outputs_with : (outputs : Which) (given : Bounds) (special : List Special) → is_which outputs ≡ true → ((k : ℕ) (own : Special) → slice_get special k ≡ Some own → IsPosition own.output) → (k : ℕ) (own : Special) → slice_get (special_with outputs given special) k ≡ Some own → IsPosition own.output
outputs_with which.All given special test each k own at = each k own at
outputs_with (which.Output output) given special test each k own at = ⊎_elim
    (λ (before : slice_get special k ≡ Some own). each k own before)
    (λ (here : (k ≡ length special) × ((record { output = output; bounds = given }) ≡ own)). subst (λ (s : Special). IsPosition s.output) here.1 (position_is output test))
    (at_push special (record { output = output; bounds = given }) k own at)

not_own : (special : List Special) (output : ℕ) → list_any (λ (own : Special). own.output == output) special ≡ false → (k : ℕ) (own : Special) → slice_get special k ≡ Some own → own.output ≡ output → ⊥
not_own [] output none k own at same = cc
not_own (first ∷ later) output none zero own at same =
    let is : first ≡ own = cc in
    let like : (first.output == output) ≡ true = let equal : first.output ≡ output = ap (λ (s : Special). s.output) is ∙ same in grind (arith, nat_tests) in
    from (first.output == output) none like
  where
    from : (b : Bool) → (b || list_any (λ (own : Special). own.output == output) later) ≡ false → b ≡ true → ⊥
    from true e is = cc
    from false e is = cc
not_own (first ∷ later) output none (suc k) own at same = not_own later output (from (first.output == output) none) k own at same
  where
    from : (b : Bool) → (b || list_any (λ (own : Special). own.output == output) later) ≡ false → list_any (λ (own : Special). own.output == output) later ≡ false
    from true e = cc
    from false e = e

distinct_with : (outputs : Which) (given : Bounds) (all : Option Bounds) (special : List Special) → is_given all special outputs ≡ false → ((i j : ℕ) (first second : Special) → slice_get special i ≡ Some first → slice_get special j ≡ Some second → first.output ≡ second.output → i ≡ j) → (i j : ℕ) (first second : Special) → slice_get (special_with outputs given special) i ≡ Some first → slice_get (special_with outputs given special) j ≡ Some second → first.output ≡ second.output → i ≡ j
distinct_with which.All given all special fresh distinct i j first second at_first at_second same = distinct i j first second at_first at_second same
distinct_with (which.Output output) given all special fresh distinct i j first second at_first at_second same =
    let new : Special = record { output = output; bounds = given } in
    ⊎_elim
    (λ (one : slice_get special i ≡ Some first). ⊎_elim
    (λ (two : slice_get special j ≡ Some second). distinct i j first second one two same)
    (λ (two : (j ≡ length special) × (new ≡ second)). absurd (not_own special output fresh i first one (same ∙ sym (ap (λ (s : Special). s.output) two.1))))
    (at_push special new j second at_second))
    (λ (one : (i ≡ length special) × (new ≡ first)). ⊎_elim
    (λ (two : slice_get special j ≡ Some second). absurd (not_own special output fresh j second two (sym same ∙ sym (ap (λ (s : Special). s.output) one.1))))
    (λ (two : (j ≡ length special) × (new ≡ second)). one.0 ∙ sym two.0)
    (at_push special new j second at_second))
    (at_push special new i first at_first)

-- the greatest degrees with those of one more line
greatest_end : (ns : List ℕ) (n : ℕ) → greatest_of (ns ++ n ∷ []) ≡ max (greatest_of ns) n
greatest_end [] n = omega arith
greatest_end (m ∷ ns) n = let rest : greatest_of (ns ++ n ∷ []) ≡ max (greatest_of ns) n = greatest_end ns n in ap (max m) rest ∙ three m (greatest_of ns) n
  where
    three : (a b c : ℕ) → max a (max b c) ≡ max (max a b) c
    three a b c = omega arith

greatest_more : (f : Bounds → ℕ) (outputs : Which) (given : Bounds) (all : Option Bounds) (special : List Special) → is_given all special outputs ≡ false → max (greatest_of (map f (bounds_given all special))) (f given) ≡ greatest_of (map f (bounds_given (all_with outputs given all) (special_with outputs given special)))
greatest_more f which.All given None special fresh = omega arith
greatest_more f which.All given (Some before) special fresh = cc
greatest_more f (which.Output output) given None special fresh =
    let own : Special = record { output = output; bounds = given } in
    sym (greatest_end (map f (map (λ (s : Special). s.bounds) special)) (f given))
    ∙ ap greatest_of (sym (map-append f (map (λ (s : Special). s.bounds) special) (given ∷ [])) ∙ ap (map f) (sym (map-append (λ (s : Special). s.bounds) special (own ∷ []))))
greatest_more f (which.Output output) given (Some before) special fresh =
    let own : Special = record { output = output; bounds = given } in
    sym (greatest_end (f before ∷ map f (map (λ (s : Special). s.bounds) special)) (f given))
    ∙ ap (λ ns. greatest_of (f before ∷ ns)) (sym (map-append f (map (λ (s : Special). s.bounds) special) (given ∷ [])) ∙ ap (map f) (sym (map-append (λ (s : Special). s.bounds) special (own ∷ []))))

same_eight : (f g : ℕ → ℕ) → ((i : ℕ) → f i ≡ g i) → map f (range_with_len 0 8) ≡ map g (range_with_len 0 8)
same_eight f g same = over (range_with_len 0 8)
  where
    over : (is : List ℕ) → map f is ≡ map g is
    over [] = refl
    over (i ∷ is) = ap (λ n. n ∷ map f is) (same i) ∙ ap (λ l. g i ∷ l) (over is)

-- the entry of a bound at a place
entry_at : (f : ℕ → ℕ) (g : ℕ → ℕ → ℕ) → map (λ i. g (slice_index (map f (range_with_len 0 8)) i) i) (range_with_len 0 8) ≡ map (λ i. g (f i) i) (range_with_len 0 8)
entry_at f g = refl

pub widest-more : (outputs : Which) (given : Bounds) (all : Option Bounds) (special : List Special) → is_given all special outputs ≡ false → widened (widest (bounds_given all special)) given ≡ widest (bounds_given (all_with outputs given all) (special_with outputs given special))
widest-more outputs given all special fresh =
    let make : ℕ → List ℕ → Bound = λ t e. record { total = t; each = e } in
    let totals : ℕ = max (greatest_of (map total_of (bounds_given all special))) (total_of given) in
    ap (make totals) (entry_at (λ i. greatest_of (map (each_of i) (bounds_given all special))) (λ n i. max n (each_of i given))
    ∙ same_eight (λ i. max (greatest_of (map (each_of i) (bounds_given all special))) (each_of i given)) (λ i. greatest_of (map (each_of i) (bounds_given (all_with outputs given all) (special_with outputs given special)))) (λ i. greatest_more (each_of i) outputs given all special fresh))
    ∙ ap (λ t. make t (widest (bounds_given (all_with outputs given all) (special_with outputs given special))).each) (greatest_more total_of outputs given all special fresh)

-- what holds behind good lines
pub record Holds (lines : List Line) : Type 0 where
  pub inputs : has_input (last_of lines) ≡ true → (1 ≤ length (variables_in lines)) × (length (variables_in lines) ≤ 8)
  pub none : is_asked (last_of lines) ≡ false → (all_in lines ≡ None) × ((special_in lines ≡ []) × (coeff_in lines ≡ None))
  pub given : has_output lines ≡ true → AreGiven (length (variables_in lines)) (all_in lines) (special_in lines)
  pub coefficients : (coeff : Coeff) → coeff_in lines ≡ Some coeff → IsCoeff coeff

input_ended : (stood : Last) → is_ended stood ≡ true → has_input stood ≡ true
input_ended stood e = Rattle.graph_file.proofs.SoundLemmas.input_with_output stood e

stands_at : (before : List Line) (next : Line) → Passes before next → stands_behind (last_of before) next ≡ true
stands_at before next pass = sym (stands_of before next) ∙ pass.stands

not_yet : (before : List Line) (next : Line) → is_job_line next ≡ false → Passes before next → is_asked (last_of before) ≡ false
not_yet before next other pass = unasked-behind (last_of before) next other (stands_at before next pass)

nothing_given : (variables : ℕ) (all : Option Bounds) (special : List Special) → 1 ≤ variables → variables ≤ 8 → all ≡ None → special ≡ [] → AreGiven variables all special
nothing_given variables all special some few no_all no_special =
    subst (λ (a : Option Bounds). AreGiven variables a special) (sym no_all) (subst (λ (s : List Special). AreGiven variables None s) (sym no_special) (record {
      every = λ bounds is. cc;
      outputs = λ k own at. cc;
      own = λ k own at. cc;
      distinct = λ i j first second at_first at_second same. cc;
      grid = grid-is variables None [] some few (λ bounds is. cc) (λ k own at. cc);
      few = points;
    }))
  where
    points : point_count (grid_with variables (widest (bounds_given None []))) ≤ 65536
    points = small variables some few
      where
        small : (v : ℕ) → 1 ≤ v → v ≤ 8 → point_count (grid_with v (widest (bounds_given None []))) ≤ 65536
        small zero some few = absurd (omega arith)
        small (suc zero) some few = omega arith
        small (suc (suc zero)) some few = omega arith
        small (suc (suc (suc zero))) some few = omega arith
        small (suc (suc (suc (suc zero)))) some few = omega arith
        small (suc (suc (suc (suc (suc zero))))) some few = omega arith
        small (suc (suc (suc (suc (suc (suc zero)))))) some few = omega arith
        small (suc (suc (suc (suc (suc (suc (suc zero))))))) some few = omega arith
        small (suc (suc (suc (suc (suc (suc (suc (suc zero)))))))) some few = omega arith
        small (suc (suc (suc (suc (suc (suc (suc (suc (suc v))))))))) some few = absurd (omega arith)

record BoundsPassed (before : List Line) (outputs : Which) (num den : Degrees) : Type 0 where
  named : is_which outputs ≡ true
  num_low : num.total ≤ 64
  den_low : den.total ≤ 64
  few : HasFew (bounds_said (length (variables_in before)) num den) (length (variables_in before))
  small : point_count (grid_in (line.Bounds outputs num den ∷ before)) ≤ 65536

low_is : (degrees : Degrees) → is_low degrees ≡ true → degrees.total ≤ 64
low_is degrees test = let within : nat_le degrees.total 64 ≡ true = test in grind (arith, nat_tests, within)

pub record NumbersPassed (outputs : Which) (num den : Degrees) : Type 0 where
  pub named : is_which outputs ≡ true
  pub num_low : num.total ≤ 64
  pub den_low : den.total ≤ 64

pub numbers-passed : (outputs : Which) (num den : Degrees) → are_numbers outputs num den ≡ true → NumbersPassed outputs num den
numbers-passed outputs num den test =
    let (two, den_low) = each_of_two _ (is_low den) test in
    let (named, num_low) = each_of_two (is_which outputs) (is_low num) two in
    record { named = named; num_low = low_is num num_low; den_low = low_is den den_low }

bounds_passed : (before : List Line) (outputs : Which) (num den : Degrees) → Passes before (line.Bounds outputs num den) → BoundsPassed before outputs num den
bounds_passed before outputs num den pass =
    let all : are_bounds before outputs num den ≡ true = not_false _ pass.limits in
    let (most, small) = each_of_two _ (is_small (grid_in (line.Bounds outputs num den ∷ before))) all in
    let (numbers, few) = each_of_two (are_numbers outputs num den) (has_few (length (variables_in before)) (bounds_said (length (variables_in before)) num den)) most in
    let passed : NumbersPassed outputs num den = numbers-passed outputs num den numbers in
    record { named = passed.named; num_low = passed.num_low; den_low = passed.den_low; few = below _ 1024 few; small = below _ 65536 small }
  where
    below : (n most : ℕ) → nat_le n most ≡ true → n ≤ most
    below n most test = grind (arith, nat_tests, test)

pub bounds-are : (variables : ℕ) (num den : Degrees) → num.total ≤ 64 → den.total ≤ 64 → HasFew (bounds_said variables num den) variables → AreBounds variables (bounds_said variables num den)
bounds-are variables num den num_low den_low few = record { num = bound-is variables num num_low; den = bound-is variables den den_low; few = few }

coeff_is : (num den : ℕ) → is_coeff num den ≡ true → IsCoeff (record { num = num; den = den })
coeff_is num den test =
    let (two, low) = each_of_two _ (nat_lt (2 * (num * den)) both) test in
    let (one, other) = each_of_two (nat_le 1 num) (nat_le 1 den) two in
    record { num = below 1 num one; den = below 1 den other; low = under (2 * (num * den)) both low }
  where
    below : (n most : ℕ) → nat_le n most ≡ true → n ≤ most
    below n most test = grind (arith, nat_tests, test)

    under : (n most : ℕ) → nat_lt n most ≡ true → n < most
    under n most test = grind (arith, nat_tests, test)

pub coeff-or-is : (said : Option Coeff) → ((coeff : Coeff) → said ≡ Some coeff → IsCoeff coeff) → IsCoeff (coeff_or said)
coeff-or-is None each = record { num = omega arith; den = omega arith; low = omega arith }
coeff-or-is (Some coeff) each = each coeff refl

-- one more line
module _ (before : List Line) (so_far : Holds before) where
  begins : (next : Line) → is_job_line next ≡ false → Passes before next → (all_in before ≡ None) × ((special_in before ≡ []) × (coeff_in before ≡ None))
  begins next other pass = so_far.none (not_yet before next other pass)

  kept_inputs : (next : Line) → Passes before next → has_input (last_of before) ≡ true → (1 ≤ length (variables_in before)) × (length (variables_in before) ≤ 8)
  kept_inputs next pass e = so_far.inputs e

  job_given : is_ended (last_of before) ≡ true → AreGiven (length (variables_in before)) (all_in before) (special_in before)
  job_given e = so_far.given (ended_of before ∙ e)

  holds_next : (next : Line) (most : ℕ) → IsFormed most next → Passes before next → Holds (next ∷ before)
  holds_next (line.Flow version) most formed pass = record {
    inputs = λ e. cc;
    none = λ e. begins (line.Flow version) refl pass;
    given = λ e. cc;
    coefficients = so_far.coefficients;
  }
  holds_next (line.Graph name) most formed pass = record {
    inputs = λ e. cc;
    none = λ e. begins (line.Graph name) refl pass;
    given = λ e. cc;
    coefficients = so_far.coefficients;
  }
  holds_next (line.Input names) most formed pass =
      let variables : AreVariables names = variables-passed before names pass formed.0 formed.1 in
      record {
        inputs = λ e. (variables.some, variables.few);
        none = λ e. begins (line.Input names) refl pass;
        given = λ e. cc;
        coefficients = so_far.coefficients;
      }
  holds_next (line.Node name statement) most formed pass = record {
    inputs = λ e. so_far.inputs (stands-node (last_of before) name statement (stands_at before (line.Node name statement) pass));
    none = λ e. begins (line.Node name statement) refl pass;
    given = λ e. cc;
    coefficients = so_far.coefficients;
  }
  holds_next (line.Row columns) most formed pass = record {
    inputs = λ e. so_far.inputs (Rattle.graph_file.proofs.SoundLemmas.input_with_rows (last_of before) (stands-row (last_of before) columns (stands_at before (line.Row columns) pass)));
    none = λ e. begins (line.Row columns) refl pass;
    given = λ e. cc;
    coefficients = so_far.coefficients;
  }
  holds_next (line.Output list) most formed pass =
      let inputs : (1 ≤ length (variables_in before)) × (length (variables_in before) ≤ 8) = so_far.inputs (stands-output (last_of before) list (stands_at before (line.Output list) pass)) in
      let none : (all_in before ≡ None) × ((special_in before ≡ []) × (coeff_in before ≡ None)) = begins (line.Output list) refl pass in
      record {
        inputs = λ e. inputs;
        none = λ e. none;
        given = λ e. nothing_given (length (variables_in before)) (all_in before) (special_in before) inputs.0 inputs.1 none.0 none.1.0;
        coefficients = so_far.coefficients;
      }
  holds_next (line.Point entries) most formed pass =
      let ended : is_ended (last_of before) ≡ true = stands-point (last_of before) entries (stands_at before (line.Point entries) pass) in
      record {
        inputs = λ e. so_far.inputs (input_ended (last_of before) ended);
        none = λ e. cc;
        given = λ e. job_given ended;
        coefficients = so_far.coefficients;
      }
  holds_next (line.Bounds outputs num den) most formed pass =
      let ended : is_ended (last_of before) ≡ true = stands-bounds (last_of before) outputs num den (stands_at before (line.Bounds outputs num den) pass) in
      let inputs : (1 ≤ length (variables_in before)) × (length (variables_in before) ≤ 8) = so_far.inputs (input_ended (last_of before) ended) in
      let v : ℕ = length (variables_in before) in
      let given : AreGiven v (all_in before) (special_in before) = job_given ended in
      let passed : BoundsPassed before outputs num den = bounds_passed before outputs num den pass in
      let are : AreBounds v (bounds_said v num den) = bounds-are v num den passed.num_low passed.den_low passed.few in
      let every : (bounds : Bounds) → all_with outputs (bounds_said v num den) (all_in before) ≡ Some bounds → AreBounds v bounds = every_with v outputs (bounds_said v num den) (all_in before) are given.every in
      let own : (k : ℕ) (own : Special) → slice_get (special_with outputs (bounds_said v num den) (special_in before)) k ≡ Some own → AreBounds v own.bounds = own_with v outputs (bounds_said v num den) (special_in before) are given.own in
      record {
        inputs = λ e. inputs;
        none = λ e. cc;
        given = λ e. record {
          every = every;
          outputs = outputs_with outputs (bounds_said v num den) (special_in before) passed.named given.outputs;
          own = own;
          distinct = distinct_with outputs (bounds_said v num den) (all_in before) (special_in before) pass.is_new given.distinct;
          grid = grid-is v (all_with outputs (bounds_said v num den) (all_in before)) (special_with outputs (bounds_said v num den) (special_in before)) inputs.0 inputs.1 every own;
          few = passed.small;
        };
        coefficients = so_far.coefficients;
      }
  holds_next (line.Coeff num den) most formed pass =
      let ended : is_ended (last_of before) ≡ true = stands-coeff (last_of before) num den (stands_at before (line.Coeff num den) pass) in
      record {
        inputs = λ e. so_far.inputs (input_ended (last_of before) ended);
        none = λ e. cc;
        given = λ e. job_given ended;
        coefficients = λ coeff is. let same : (record { num = num; den = den }) ≡ coeff = cc in subst IsCoeff same (coeff_is num den (not_false _ pass.limits));
      }

pub holds : (lines : List Line) → AreGoodLines lines → Holds lines
holds [] good = record {
  inputs = λ e. cc;
  none = λ e. (refl, (refl, refl));
  given = λ e. cc;
  coefficients = λ coeff is. cc;
}
holds (next ∷ before) good = holds_next before (holds before good.1.2) next good.0 good.1.0 (passes before next good.1.1.0)

-- the bounds of a file
pub output_stands : (need : Need) (all : List Line) → is_complete need all ≡ true → has_output all ≡ true
output_stands needed.Points all e = e
output_stands needed.Learning all e = e
output_stands needed.Functions all e = (each_of_two (has_output all) _ e).0

all_stands : (need : Need) (all : List Line) → is_complete need all ≡ true → need ≡ needed.Functions → all_in all ≢ None
all_stands needed.Points all e is none = cc
all_stands needed.Learning all e is none = cc
all_stands needed.Functions all e is none = let never : is_some {T = Bounds} None ≡ true = ap is_some (sym none) ∙ (each_of_two (has_output all) _ e).1 in cc

pub said-bounds : (need : Need) (all : List Line) (graphs : List Graph) (graph : Graph) → AreGoodLines all → is_complete need all ≡ true → slice_get graphs (length graphs - 1) ≡ Some graph → graph.inputs ≡ variables_in all → HasBounds graphs (all_in all) (special_in all) (coeff_or (coeff_in all)) need
said-bounds need all graphs graph good complete main inputs =
    let so_far : Holds all = holds all good in
    let count : main_variables graphs ≡ length (variables_in all) = ap inputs_of main ∙ ap length inputs in
    record {
      given = subst (λ (v : ℕ). AreGiven v (all_in all) (special_in all)) (sym count) (so_far.given (output_stands need all complete));
      coefficients = coeff-or-is (coeff_in all) so_far.coefficients;
      there = all_stands need all complete;
    }

-- the bounds of an output are among those that were given
chosen_most : (f : Bounds → ℕ) (b : Bool) (here later every : Bounds) (rest : ℕ) → f later ≤ max (f every) rest → f (cond b here later) ≤ max (f every) (max (f here) rest)
chosen_most f true here later every rest below = omega arith
chosen_most f false here later every rest below = omega (arith, below)

among_most : (f : Bounds → ℕ) (special : List Special) (every : Bounds) (output : ℕ) → f (bounds_among special every output) ≤ greatest_of (map f (every ∷ map (λ (own : Special). own.bounds) special))
among_most f [] every output = omega arith
among_most f (own ∷ later) every output = chosen_most f (own.output == output) own.bounds (bounds_among later every output) every (greatest_of (map f (map (λ (s : Special). s.bounds) later))) (among_most f later every output)

chosen_are : (variables : ℕ) (b : Bool) (here later : Bounds) → AreBounds variables here → AreBounds variables later → AreBounds variables (cond b here later)
chosen_are variables true here later one two = one
chosen_are variables false here later one two = two

among_are : (variables : ℕ) (special : List Special) (every : Bounds) (output : ℕ) → AreBounds variables every → ((k : ℕ) (own : Special) → slice_get special k ≡ Some own → AreBounds variables own.bounds) → AreBounds variables (bounds_among special every output)
among_are variables [] every output are each = are
among_are variables (own ∷ later) every output are each = chosen_are variables (own.output == output) own.bounds (bounds_among later every output) (each 0 own refl) (among_are variables later every output are (λ k other at. each (suc k) other at))

pub at-are : (variables : ℕ) (all : Option Bounds) (special : List Special) (every : Bounds) (output : ℕ) → AreGiven variables all special → all ≡ Some every → AreBounds variables (bounds_among special every output)
at-are variables all special every output given is = among_are variables special every output (given.every every is) given.own

past_eight : (n : ℕ) (l : List ℕ) → length l ≡ n → (i : ℕ) → n ≤ i → slice_index l i ≡ 0
past_eight n [] e zero past = refl
past_eight n [] e (suc i) past = refl
past_eight n (x ∷ l) e zero past = absurd (omega (arith, e, past))
past_eight n (x ∷ l) e (suc i) past = past_eight (length l) l refl i (omega (arith, e, past))

pub at-covered : (variables : ℕ) (all : Option Bounds) (special : List Special) (every : Bounds) (output : ℕ) → AreGiven variables all special → all ≡ Some every → Covers (bound_of (grid_with variables (widest (bounds_given all special)))) (bounds_among special every output)
at-covered variables all special every output given is = subst (λ (a : Option Bounds). Covers (bound_of (grid_with variables (widest (bounds_given a special)))) at) (sym is) (record {
  places = refl;
  total = among_most total_of special every output;
  each = each;
})
  where
    at : Bounds
    at = bounds_among special every output

    are : AreBounds variables at
    are = at-are variables all special every output given is

    most : ℕ → ℕ
    most i = greatest_of (map (each_of i) (bounds_given (Some every) special))

    each : (i : ℕ) → slice_index at.num.each i + slice_index at.den.each i ≤ slice_index (widest (bounds_given (Some every) special)).each i
    each i = ⊎_elim
        (λ (inside : i < 8). here i inside)
        (λ (past : 8 ≤ i).
        let one : slice_index at.num.each i ≡ 0 = past_eight 8 at.num.each are.num.places i past in
        let two : slice_index at.den.each i ≡ 0 = past_eight 8 at.den.each are.den.places i past in
        omega (arith, one, two))
        (Rattle.std.proofs.lemmas.Bool.cases_lt i 8)
      where
        here : (i : ℕ) → i < 8 → slice_index at.num.each i + slice_index at.den.each i ≤ slice_index (widest (bounds_given (Some every) special)).each i
        here zero inside = among_most (each_of 0) special every output
        here (suc zero) inside = among_most (each_of 1) special every output
        here (suc (suc zero)) inside = among_most (each_of 2) special every output
        here (suc (suc (suc zero))) inside = among_most (each_of 3) special every output
        here (suc (suc (suc (suc zero)))) inside = among_most (each_of 4) special every output
        here (suc (suc (suc (suc (suc zero))))) inside = among_most (each_of 5) special every output
        here (suc (suc (suc (suc (suc (suc zero)))))) inside = among_most (each_of 6) special every output
        here (suc (suc (suc (suc (suc (suc (suc zero))))))) inside = among_most (each_of 7) special every output
        here (suc (suc (suc (suc (suc (suc (suc (suc i)))))))) inside = absurd (omega arith)

-- the greatest degrees, found one after the other
pub widest-own : (all : Option Bounds) (special : List Special) (own : Special) → widened (widest (bounds_given all special)) own.bounds ≡ widest (bounds_given all (special ++ own ∷ []))
widest-own all special own =
    let make : ℕ → List ℕ → Bound = λ t e. record { total = t; each = e } in
    ap (make (max (greatest_of (map total_of (bounds_given all special))) (total_of own.bounds))) (same_eight (λ i. max (greatest_of (map (each_of i) (bounds_given all special))) (each_of i own.bounds)) (λ i. greatest_of (map (each_of i) (bounds_given all (special ++ own ∷ [])))) (λ i. more (each_of i) all))
    ∙ ap (λ t. make t (widest (bounds_given all (special ++ own ∷ []))).each) (more total_of all)
  where
    pushed : (f : Bounds → ℕ) → map f (map (λ (s : Special). s.bounds) special) ++ f own.bounds ∷ [] ≡ map f (map (λ (s : Special). s.bounds) (special ++ own ∷ []))
    pushed f = sym (map-append f (map (λ (s : Special). s.bounds) special) (own.bounds ∷ [])) ∙ ap (map f) (sym (map-append (λ (s : Special). s.bounds) special (own ∷ [])))

    more : (f : Bounds → ℕ) (all : Option Bounds) → max (greatest_of (map f (bounds_given all special))) (f own.bounds) ≡ greatest_of (map f (bounds_given all (special ++ own ∷ [])))
    more f None = sym (greatest_end (map f (map (λ (s : Special). s.bounds) special)) (f own.bounds)) ∙ ap greatest_of (pushed f)
    more f (Some every) = sym (greatest_end (f every ∷ map f (map (λ (s : Special). s.bounds) special)) (f own.bounds)) ∙ ap (λ ns. greatest_of (f every ∷ ns)) (pushed f)

-- what is kept of a `bounds` line
pub record KeptBounds (earlier : List Line) (outputs : Which) (num den : Degrees) (new : Asked) : Type 0 where
  pub points_are : new.points ≡ points_in earlier
  pub all_is : new.all ≡ all_in (line.Bounds outputs num den ∷ earlier)
  pub special_are : new.special ≡ special_in (line.Bounds outputs num den ∷ earlier)
  pub coeff_is : new.coeff ≡ coeff_in earlier
  pub widest_is : new.widest ≡ widest (bounds_given (all_in (line.Bounds outputs num den ∷ earlier)) (special_in (line.Bounds outputs num den ∷ earlier)))

pub kept-bounds : (earlier : List Line) (reader : Reader) (outputs : Which) (num den : Degrees) (count : ℕ) (bounds : Bounds) (new : Asked) → IsRead earlier reader → new ≡ with_bounds reader.asked outputs bounds → bounds ≡ bounds_said count num den → count ≡ length (variables_of reader.variables) → is_given reader.asked.all reader.asked.special outputs ≡ false → KeptBounds earlier outputs num den new
kept-bounds earlier reader outputs num den count bounds new read added said counted fresh =
    let v : ℕ = length (variables_in earlier) in
    let variables : count ≡ v = counted ∙ ap (λ (n : Names). length (variables_of n)) read.variables_are in
    let is : bounds ≡ bounds_said v num den = said ∙ ap (λ n. bounds_said n num den) variables in
    let new_fresh : is_given (all_in earlier) (special_in earlier) outputs ≡ false = ap (λ a. is_given a (special_in earlier) outputs) (sym read.all_is) ∙ ap (λ s. is_given reader.asked.all s outputs) (sym read.special_are) ∙ fresh in
    record {
      points_are = ap (λ (a : Asked). a.points) added ∙ read.points_are;
      all_is = ap (λ (a : Asked). a.all) added ∙ ap (λ b. all_with outputs b reader.asked.all) is ∙ ap (all_with outputs (bounds_said v num den)) read.all_is;
      special_are = ap (λ (a : Asked). a.special) added ∙ ap (λ b. special_with outputs b reader.asked.special) is ∙ ap (special_with outputs (bounds_said v num den)) read.special_are;
      coeff_is = ap (λ (a : Asked). a.coeff) added ∙ read.coeff_is;
      widest_is = ap (λ (a : Asked). a.widest) added ∙ ap (widened reader.asked.widest) is ∙ ap (λ w. widened w (bounds_said v num den)) read.widest_is ∙ widest-more outputs (bounds_said v num den) (all_in earlier) (special_in earlier) new_fresh;
    }

-- what the tests of a `bounds` line that is passed show
pub passed-num : (before : List Line) (outputs : Which) (num den : Degrees) → Passes before (line.Bounds outputs num den) → num.total ≤ 64
passed-num before outputs num den pass = (bounds_passed before outputs num den pass).num_low

pub passed-den : (before : List Line) (outputs : Which) (num den : Degrees) → Passes before (line.Bounds outputs num den) → den.total ≤ 64
passed-den before outputs num den pass = (bounds_passed before outputs num den pass).den_low

pub given-same : (earlier : List Line) (reader : Reader) (outputs : Which) → IsRead earlier reader → is_given reader.asked.all reader.asked.special outputs ≡ is_given (all_in earlier) (special_in earlier) outputs
given-same earlier reader outputs read = ap (λ a. is_given a reader.asked.special outputs) read.all_is ∙ ap (λ s. is_given (all_in earlier) s outputs) read.special_are

-- the grid of the lines with a `bounds` line
few_is : (variables : ℕ) (bounds : Bounds) → has_few variables bounds ≡ true → HasFew bounds variables
few_is variables bounds test = grind (arith, nat_tests, test)

pub next-low : (variables : ℕ) (outputs : Which) (num den : Degrees) → are_numbers outputs num den ≡ true → AreLow (bounds_said variables num den)
next-low variables outputs num den numbers = let passed : NumbersPassed outputs num den = numbers-passed outputs num den numbers in low-said variables num den passed.num_low passed.den_low

variables_same : (reader : Reader) (earlier : List Line) → IsRead earlier reader → length (variables_of reader.variables) ≡ length (variables_in earlier)
variables_same reader earlier read = ap (λ (n : Names). length (variables_of n)) read.variables_are

pub next-few : (reader : Reader) (earlier : List Line) (num den : Degrees) → IsRead earlier reader → has_few (length (variables_of reader.variables)) (bounds_said (length (variables_of reader.variables)) num den) ≡ true → has_few (length (variables_in earlier)) (bounds_said (length (variables_in earlier)) num den) ≡ true
next-few reader earlier num den read few = subst (λ (n : ℕ). has_few n (bounds_said n num den) ≡ true) (variables_same reader earlier read) few

pub next-grid : (reader : Reader) (earlier : List Line) (outputs : Which) (num den : Degrees) → IsRead earlier reader → is_given reader.asked.all reader.asked.special outputs ≡ false → (w : Bound) → w ≡ widened reader.asked.widest (bounds_said (length (variables_of reader.variables)) num den) → grid_with (length (variables_of reader.variables)) w ≡ grid_in (line.Bounds outputs num den ∷ earlier)
next-grid reader earlier outputs num den read fresh w is =
    let bounds : Bounds = bounds_said (length (variables_of reader.variables)) num den in
    let kept : KeptBounds earlier outputs num den (with_bounds reader.asked outputs bounds) = kept-bounds earlier reader outputs num den (length (variables_of reader.variables)) bounds (with_bounds reader.asked outputs bounds) read refl refl refl fresh in
    ap (λ b. grid_with (length (variables_of reader.variables)) b) (is ∙ kept.widest_is)
    ∙ ap (λ n. grid_with n (widest (bounds_given (all_in (line.Bounds outputs num den ∷ earlier)) (special_in (line.Bounds outputs num den ∷ earlier))))) (variables_same reader earlier read)

pub next-is-grid : (reader : Reader) (earlier : List Line) (outputs : Which) (num den : Degrees) → IsRead earlier reader → AreGoodLines earlier → is_ended reader.stood ≡ true → is_given reader.asked.all reader.asked.special outputs ≡ false → are_numbers outputs num den ≡ true → (w : Bound) → w ≡ widened reader.asked.widest (bounds_said (length (variables_of reader.variables)) num den) → has_few (length (variables_of reader.variables)) (bounds_said (length (variables_of reader.variables)) num den) ≡ true → IsGrid (grid_with (length (variables_of reader.variables)) w)
next-is-grid reader earlier outputs num den read good ended fresh numbers w is few =
    let v : ℕ = length (variables_in earlier) in
    let so_far : Holds earlier = holds earlier good in
    let stood : is_ended (last_of earlier) ≡ true = subst (λ (s : Last). is_ended s ≡ true) read.last_is ended in
    let inputs : (1 ≤ v) × (v ≤ 8) = so_far.inputs (input_ended (last_of earlier) stood) in
    let given : AreGiven v (all_in earlier) (special_in earlier) = so_far.given (ended_of earlier ∙ stood) in
    let passed : NumbersPassed outputs num den = numbers-passed outputs num den numbers in
    let are : AreBounds v (bounds_said v num den) = bounds-are v num den passed.num_low passed.den_low (few_is v (bounds_said v num den) (next-few reader earlier num den read few)) in
    subst IsGrid (sym (next-grid reader earlier outputs num den read fresh w is))
    (grid-is v (all_with outputs (bounds_said v num den) (all_in earlier)) (special_with outputs (bounds_said v num den) (special_in earlier)) inputs.0 inputs.1
    (every_with v outputs (bounds_said v num den) (all_in earlier) are given.every)
    (own_with v outputs (bounds_said v num den) (special_in earlier) are given.own))

-- the tests of a `bounds` line, one after the other
pub tested-bounds : (earlier : List Line) (outputs : Which) (num den : Degrees) → are_numbers outputs num den ≡ true → has_few (length (variables_in earlier)) (bounds_said (length (variables_in earlier)) num den) ≡ true → is_small (grid_in (line.Bounds outputs num den ∷ earlier)) ≡ are_bounds earlier outputs num den
tested-bounds earlier outputs num den numbers few = ap (λ b. b && is_small (grid_in (line.Bounds outputs num den ∷ earlier))) (sym (ap (λ b. b && has_few (length (variables_in earlier)) (bounds_said (length (variables_in earlier)) num den)) numbers ∙ few))

-- the greatest degrees of the bounds up to one more place
pub widest-next : (all : Option Bounds) (special : List Special) (i : ℕ) (before after : Bound) (d : Special) → i < length special → before ≡ widest (bounds_given all (take i special)) → after ≡ widened before (get_or special i d).bounds → after ≡ widest (bounds_given all (take (i + 1) special))
widest-next all special i before after d inside is next =
    let taken : take (i + 1) special ≡ take i special ++ get_or special i d ∷ [] = rw add-one (take-suc special i d inside) in
    next ∙ ap (λ w. widened w (get_or special i d).bounds) is ∙ widest-own all (take i special) (get_or special i d)
    ∙ ap (λ s. widest (bounds_given all s)) (sym taken)

-- degrees of at most 64
pub low-of : (variables : ℕ) (bounds : Bounds) → AreBounds variables bounds → AreLow bounds
low-of variables bounds are = record {
  num_total = are.num.low;
  den_total = are.den.low;
  num_each = λ i. let below : slice_index bounds.num.each i ≤ bounds.num.total = are.num.each i in let low : bounds.num.total ≤ 64 = are.num.low in omega (arith, below, low);
  den_each = λ i. let below : slice_index bounds.den.each i ≤ bounds.den.total = are.den.each i in let low : bounds.den.total ≤ 64 = are.den.low in omega (arith, below, low);
}
