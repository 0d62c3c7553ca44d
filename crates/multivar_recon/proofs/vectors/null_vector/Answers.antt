use Rattle.std.proofs.Common.{◌≡◌, ◌<◌, List, ℕ, length, get_or, drop, take, sym, subst, arith}
use Rattle.std.proofs.lemmas.List.{get_or-take, length-drop, length-take}
use Rattle.prime_field.specs.Modulus.{value_of}
use Rattle.prime_field.proofs.Moduli.{value_of-large}
use Rattle.elim_core.specs.Kept.{kept_rows, modulus_of, unknowns_of}
use Rattle.multivar_recon.specs.Vectors.{IsLeastVector}
use Rattle.multivar_recon.proofs.Sampled.{settled_none, no_independent, none_forced, least_vector, take-front}
use Rattle.multivar_recon.proofs.vectors.null_vector.Goals as goal

pub returns-then-free-eq0-clause-none : goal.returns-then-free-eq0-clause-none
returns-then-free-eq0-clause-none c prime forced =
    let elim_now = c.in-Some.elim in
    let words = c.absorb_samples.new.words in
    settled_none (value_of c.args.m) (take c.args.count c.args.plan.now) (drop c.args.count c.args.plan.now) c.args.points.now c.args.values.now
    (length c.args.points.now) elim_now words (rw c.in-Some.is at c.in_ok-kept.ensures.sampled)
    (omega arith) (omega (arith, value_of-large c.args.m))
    (no_independent (modulus_of elim_now) (unknowns_of elim_now) (kept_rows elim_now words) c.independents-free.new.out c.independents-free.result
    c.if-free-eq0.true c.independents-free.ensures.listed)

pub returns-then-least-count-clause-none : goal.returns-then-least-count-clause-none
returns-then-least-count-clause-none c prime forced =
    let es = take c.args.count c.args.plan.now in
    let elim_now = c.in-Some.elim in
    let sampled = rw c.in-Some.is at c.in_ok-kept.ensures.sampled in
    let set = take c.independents-free.result c.independents-free.new.out in
    let unknowns : unknowns_of elim_now ≡ length c.args.plan.now =
    omega (arith, sampled.same_unknowns, length-take c.args.count c.args.plan.now, length-drop c.args.count c.args.plan.now) in
    let some : 0 < length set =
    omega (arith, unknowns, length-take c.independents-free.result c.independents-free.new.out, c.independents-free.auto.out, c.as_mut_slice-set.ensures.len, c.in_ok-set.ensures.len) in
    none_forced (value_of c.args.m) es (drop c.args.count c.args.plan.now) c.args.points.now c.args.values.now
    elim_now c.absorb_samples.new.words sampled
    set c.solution.new.out (get_or c.independents-free.new.out 0 0) (omega (arith, value_of-large c.args.m))
    c.independents-free.ensures.ascending c.independents-free.ensures.numbers c.independents-free.ensures.listed
    some (sym (get_or-take c.independents-free.result c.independents-free.new.out 0 0 (omega arith)))
    c.solution.ensures.solves c.solution.ensures.chosen (omega (arith, length-take c.args.count c.args.plan.now)) forced

pub returns-clause-least : goal.returns-clause-least
returns-clause-least c =
    let es = take c.args.count c.args.plan.now in
    let fs = drop c.args.count c.args.plan.now in
    let elim_now = c.in-Some.elim in
    let sampled = rw c.in-Some.is at c.in_ok-kept.ensures.sampled in
    let set = take c.independents-free.result c.independents-free.new.out in
    let unknowns : unknowns_of elim_now ≡ length c.args.plan.now =
    omega (arith, sampled.same_unknowns, length-take c.args.count c.args.plan.now, length-drop c.args.count c.args.plan.now) in
    let some : 0 < length set =
    omega (arith, unknowns, length-take c.independents-free.result c.independents-free.new.out, c.independents-free.auto.out, c.as_mut_slice-set.ensures.len, c.in_ok-set.ensures.len) in
    let here = least_vector (value_of c.args.m) es fs c.args.points.now c.args.values.now
    elim_now c.absorb_samples.new.words sampled
    set c.solution.new.out (get_or c.independents-free.new.out 0 0) (omega (arith, value_of-large c.args.m))
    c.independents-free.ensures.ascending c.independents-free.ensures.numbers c.independents-free.ensures.listed
    some (sym (get_or-take c.independents-free.result c.independents-free.new.out 0 0 (omega arith)))
    c.solution.ensures.solves c.solution.ensures.chosen (omega (arith, length-take c.args.count c.args.plan.now)) in
    subst (λ (zs : List ℕ). IsLeastVector (value_of c.args.m) es fs c.args.points.now c.args.values.now zs)
    (sym (take-front c.solution.new.out (drop (length c.solution.new.out) c.in_ok-numbers.numbers.items) c.in_ok-numbers.numbers.len (omega arith))) here
