-- The quotient that was found is the one that is sought.
use Rattle.std.proofs.Common.{◌≡◌, ℕ, List, ◌+◌, ◌-◌, ◌*◌, ◌^◌, ◌<◌, ◌≤◌, ◌++◌, All, Result, Ok, Err, length, take, drop, slice_index, get_or, refl, sym, ◌∙◌, ap, subst, arith, rules, SFits, w32, to_z, of_z, length-take, length-drop, length-append}
use Rattle.std.proofs.lemmas.List.Elements.{All-from_get_or}
use Rattle.prime_field.specs.Modulus.{value_of}
use Rattle.univariate.specs.Coefficients.{AreResidues}
use Rattle.univariate.specs.Univariate.{AreApart}
use Rattle.thiele_interp.specs.Pairs.{IsLeastPair, IsReducedPair}
use Rattle.std.proofs.lemmas.Int.{to_z-of_z}
use Rattle.laurent_node.specs.Expansion.{IsExpansion, place}
use Rattle.graph_eval.specs.Expanded.{points_of, run_from}
use Rattle.graph_eval.proofs.Columns.{run-apart, run-residues, take-run, value_of-wide}
use Rattle.graph_eval.proofs.Quotients.{expanded_from, has_pole, least_of, moved_pair, no_quotient, orders-room, quotient}
use Rattle.graph_eval.proofs.expansion.write_expansion.Goals as goal

pub least_pair_over-requires-clause-points : goal.least_pair_over-requires-clause-points
least_pair_over-requires-clause-points c =
    let m = value_of c.args.m in
    let window = c.args.window in
    let values = c.args.values.now in
    let count = window.num + window.den + 3 in
    let points : List ℕ = take (length values) c.all_points-all.result in
    let points_are : points ≡ points_of window =
    ap (take (length values)) c.all_points-all.ensures ∙ ap (λ n. take n (run_from (2 ^ 40 + 1) 131)) c.requires.values ∙ take-run (2 ^ 40 + 1) count 131 (omega (arith, c.requires.window.num, c.requires.window.den)) in
    subst (AreResidues m) (sym points_are) (run-residues m (2 ^ 40 + 1) count (omega (arith, value_of-wide c.args.m, c.requires.window.num, c.requires.window.den)) (omega (arith, value_of-wide c.args.m)))

pub least_pair_over-requires-clause-apart : goal.least_pair_over-requires-clause-apart
least_pair_over-requires-clause-apart c =
    let m = value_of c.args.m in
    let window = c.args.window in
    let values = c.args.values.now in
    let count = window.num + window.den + 3 in
    let points : List ℕ = take (length values) c.all_points-all.result in
    let points_are : points ≡ points_of window =
    ap (take (length values)) c.all_points-all.ensures ∙ ap (λ n. take n (run_from (2 ^ 40 + 1) 131)) c.requires.values ∙ take-run (2 ^ 40 + 1) count 131 (omega (arith, c.requires.window.num, c.requires.window.den)) in
    subst (λ (ps : List ℕ). AreApart m (length ps) (slice_index ps)) (sym points_are) (run-apart c.args.m (2 ^ 40 + 1) count (omega (arith, c.requires.window.num, c.requires.window.den)))

pub expand-requires-clause-room : goal.expand-requires-clause-room
expand-requires-clause-room c =
    let window = c.args.window in
    let low : SFits w32 window.lo = search rules in
    let high : SFits w32 window.hi = search rules in
    let start : place (to_z w32 (of_z w32 window.lo)) ≡ place window.lo = ap place (to_z-of_z w32 window.lo low) in
    let end : place (to_z w32 (of_z w32 window.hi)) ≡ place window.hi = ap place (to_z-of_z w32 window.hi high) in
    ap (λ n. length c.args.out.now + n) start ∙ ap (λ n. n + place window.lo) c.requires.room ∙ orders-room window c.requires.window ∙ ap (λ n. n + 1) (sym end)

pub returns-in_default-clause-err : goal.returns-in_default-clause-err
returns-in_default-clause-err c =
    let m = value_of c.args.m in
    let window = c.args.window in
    let values = c.args.values.now in
    let count = window.num + window.den + 3 in
    let points : List ℕ = take (length values) c.all_points-all.result in
    let points_are : points ≡ points_of window =
    ap (take (length values)) c.all_points-all.ensures ∙ ap (λ n. take n (run_from (2 ^ 40 + 1) 131)) c.requires.values ∙ take-run (2 ^ 40 + 1) count 131 (omega (arith, c.requires.window.num, c.requires.window.den)) in
    λ prime. no_quotient m window values points points_are (c.in_default.ensures.none prime)

pub returns-in-Ok-clause-ok : goal.returns-in-Ok-clause-ok
returns-in-Ok-clause-ok c =
    let m = value_of c.args.m in
    let window = c.args.window in
    let values = c.args.values.now in
    let count = window.num + window.den + 3 in
    let points : List ℕ = take (length values) c.all_points-all.result in
    let points_are : points ≡ points_of window =
    ap (take (length values)) c.all_points-all.ensures ∙ ap (λ n. take n (run_from (2 ^ 40 + 1) 131)) c.requires.values ∙ take-run (2 ^ 40 + 1) count 131 (omega (arith, c.requires.window.num, c.requires.window.den)) in
    let work = c.least_pair_over.new.work in
    let num = c.split_at.result.0.now in
    let den = c.split_at-2.result.0.now in
    let num_is : num ≡ take c.in-Some.above work = c.split_at.ensures.front in
    let den_is : den ≡ take c.in-Some.below (drop c.in-Some.above work) = c.split_at-2.ensures.front ∙ ap (take c.in-Some.below) c.split_at.ensures.back in
    let reduced = moved_pair (IsReducedPair m) num den _ _ num_is den_is c.in-Some.ensures.reduced in
    let least = moved_pair (IsLeastPair m (length points) (slice_index points) (slice_index values) window.num window.den) num den _ _ num_is den_is c.in-Some.ensures.least in
    let found = quotient m window values num den points points_are least reduced in
    let fits : SFits w32 window.lo = search rules in
    let start : place (to_z w32 (of_z w32 window.lo)) ≡ place window.lo = ap place (to_z-of_z w32 window.lo fits) in
    λ prime. expanded_from m window values num den points points_are found c.expand.new.out prime (c.expand.auto.out ∙ c.requires.room)
    (λ e least. subst (λ (n : ℕ). IsExpansion m num den e n c.expand.new.out) start (c.in-Ok.ensures.ok e least))

pub returns-in-Ok-clause-residues : goal.returns-in-Ok-clause-residues
returns-in-Ok-clause-residues c =
    let m = value_of c.args.m in
    let window = c.args.window in
    let values = c.args.values.now in
    let count = window.num + window.den + 3 in
    let points : List ℕ = take (length values) c.all_points-all.result in
    let points_are : points ≡ points_of window =
    ap (take (length values)) c.all_points-all.ensures ∙ ap (λ n. take n (run_from (2 ^ 40 + 1) 131)) c.requires.values ∙ take-run (2 ^ 40 + 1) count 131 (omega (arith, c.requires.window.num, c.requires.window.den)) in
    let work = c.least_pair_over.new.work in
    let num = c.split_at.result.0.now in
    let den = c.split_at-2.result.0.now in
    let num_is : num ≡ take c.in-Some.above work = c.split_at.ensures.front in
    let den_is : den ≡ take c.in-Some.below (drop c.in-Some.above work) = c.split_at-2.ensures.front ∙ ap (take c.in-Some.below) c.split_at.ensures.back in
    let reduced = moved_pair (IsReducedPair m) num den _ _ num_is den_is c.in-Some.ensures.reduced in
    let least = moved_pair (IsLeastPair m (length points) (slice_index points) (slice_index values) window.num window.den) num den _ _ num_is den_is c.in-Some.ensures.least in
    let found = quotient m window values num den points points_are least reduced in
    let exponent = least_of m num den reduced in
    All-from_get_or (λ x. x < m) c.expand.new.out 0 (λ i below. (c.in-Ok.ensures.ok exponent.0 exponent.1).residues i)

pub returns-in-Err-clause-err : goal.returns-in-Err-clause-err
returns-in-Err-clause-err c =
    let m = value_of c.args.m in
    let window = c.args.window in
    let values = c.args.values.now in
    let count = window.num + window.den + 3 in
    let points : List ℕ = take (length values) c.all_points-all.result in
    let points_are : points ≡ points_of window =
    ap (take (length values)) c.all_points-all.ensures ∙ ap (λ n. take n (run_from (2 ^ 40 + 1) 131)) c.requires.values ∙ take-run (2 ^ 40 + 1) count 131 (omega (arith, c.requires.window.num, c.requires.window.den)) in
    let work = c.least_pair_over.new.work in
    let num = c.split_at.result.0.now in
    let den = c.split_at-2.result.0.now in
    let num_is : num ≡ take c.in-Some.above work = c.split_at.ensures.front in
    let den_is : den ≡ take c.in-Some.below (drop c.in-Some.above work) = c.split_at-2.ensures.front ∙ ap (take c.in-Some.below) c.split_at.ensures.back in
    let reduced = moved_pair (IsReducedPair m) num den _ _ num_is den_is c.in-Some.ensures.reduced in
    let least = moved_pair (IsLeastPair m (length points) (slice_index points) (slice_index values) window.num window.den) num den _ _ num_is den_is c.in-Some.ensures.least in
    let found = quotient m window values num den points points_are least reduced in
    let fits : SFits w32 window.lo = search rules in
    let start : place (to_z w32 (of_z w32 window.lo)) ≡ place window.lo = ap place (to_z-of_z w32 window.lo fits) in
    λ prime. has_pole m window values num den points points_are found (length c.args.out.now) c.requires.room
    (λ e least numbers long expansion. c.in-Err.ensures.pole prime e least numbers long (subst (λ (n : ℕ). IsExpansion m num den e n numbers) (sym start) expansion))
