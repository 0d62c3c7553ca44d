use Rattle.std.proofs.Common.{◌≡◌, ◌%◌, ◌++◌, ◌≤◌, List, ℕ, length, take, drop, sym, ◌∙◌, ap, subst, arith}
use Rattle.std.proofs.lemmas.List.{length-append}
use Rattle.prime_field.specs.Modulus.{value_of}
use Rattle.prime_field.specs.Residue.{IsPrime}
use Rattle.prime_field.proofs.Moduli.{value_of-large}
use Rattle.poly_maps.specs.Polynomial.{coefficient}
use Rattle.ray_grid.specs.Covering.{ListsMonomials, monomial_count}
use Rattle.multivar_recon.specs.Vectors.{num_of, den_of, IsLeastVector, IsForced, NoneAgrees}
use Rattle.ray_grid.proofs.Counted.{listed_few}
use Rattle.multivar_recon.proofs.Listed.{front_of, back_of}
use Rattle.multivar_recon.proofs.PairVectors.{least_pair, no_pair, forced}
use Rattle.multivar_recon.proofs.pairs.fit_points.Goals as goal

pub null_vector-requires-clause-few : goal.null_vector-requires-clause-few
null_vector-requires-clause-few c =
    let es = c.in_ok-nums.nums.items in
    let fs = c.in_ok-dens.dens.items in
    let whole : c.in_ok-plan.plan ≡ es ++ fs =
    c.in_ok-plan.ensures ∙ c.in_ok-extend_from_slice.ensures.items ∙ ap (λ xs. xs ++ c.deref-2.result.now) (c.in_ok-monos.ensures.items ∙ c.deref.ensures.value) ∙ ap (λ xs. es ++ xs) c.deref-2.ensures.value in
    let e_lists : ListsMonomials c.args.bounds.now.num c.args.variables es = record { ascending = c.in_ok-nums.ensures.ascending; members = c.in_ok-nums.ensures.members } in
    let f_lists : ListsMonomials c.args.bounds.now.den c.args.variables fs = record { ascending = c.in_ok-dens.ensures.ascending; members = c.in_ok-dens.ensures.members } in
    let b = c.args.bounds.now in
    let e_count : length es ≤ monomial_count b.num c.args.variables = listed_few b.num c.args.variables es c.requires.eight e_lists in
    let f_count : length fs ≤ monomial_count b.den c.args.variables = listed_few b.den c.args.variables fs c.requires.eight f_lists in
    omega (arith, ap length whole, length-append es fs, e_count, f_count, c.requires.few)

pub returns-in-Some-clause-least : goal.returns-in-Some-clause-least
returns-in-Some-clause-least c =
    let m = value_of c.args.m in
    let b = c.args.bounds.now in
    let xs = c.args.points.now in
    let vs = c.args.values.now in
    let es = c.in_ok-nums.nums.items in
    let fs = c.in_ok-dens.dens.items in
    let all = c.in_ok-plan.plan in
    let n = c.len.result in
    let f = c.in_ok-pair_of-in-Some.field-0 in
    let zs = c.in-Some.numbers.items in
    let whole : c.in_ok-plan.plan ≡ es ++ fs =
    c.in_ok-plan.ensures ∙ c.in_ok-extend_from_slice.ensures.items ∙ ap (λ xs. xs ++ c.deref-2.result.now) (c.in_ok-monos.ensures.items ∙ c.deref.ensures.value) ∙ ap (λ xs. es ++ xs) c.deref-2.ensures.value in
    let count : n ≡ length es = c.len.ensures ∙ sym c.deref.ensures.len ∙ ap length c.deref.ensures.value in
    let least_there : IsLeastVector m (take n all) (drop n all) xs vs zs = rw c.in-Some.is at c.in_ok-numbers.ensures.least in
    let least : IsLeastVector m es fs xs vs zs =
    subst (λ (a : List (List ℕ)). IsLeastVector m a fs xs vs zs) (front_of es fs all n whole count)
    (subst (λ (d : List (List ℕ)). IsLeastVector m (take n all) d xs vs zs) (back_of es fs all n whole count) least_there) in
    let modulo = c.in_ok-pair_of-in-Some.ensures.modulo in
    least_pair m b c.args.variables es fs xs vs
    (record { ascending = c.in_ok-nums.ensures.ascending; members = c.in_ok-nums.ensures.members })
    (record { ascending = c.in_ok-dens.ensures.ascending; members = c.in_ok-dens.ensures.members })
    c.requires.num_past c.requires.den_past (value_of-large c.args.m)
    zs f c.requires.samples least modulo.num modulo.den modulo.num_residues modulo.den_residues
    (λ e. c.in_ok-pair_of-in-Some.ensures.num e ∙
    ap (λ a. coefficient e (num_of a c.deref-in-Some-3.result.now) % m) c.deref-in-Some.ensures.value ∙
    ap (λ ys. coefficient e (num_of es ys) % m) c.deref-in-Some-3.ensures.value)
    (λ e. c.in_ok-pair_of-in-Some.ensures.den e ∙
    ap (λ a. coefficient e (den_of a c.deref-in-Some-2.result.now c.deref-in-Some-3.result.now) % m) c.deref-in-Some.ensures.value ∙
    ap (λ d. coefficient e (den_of es d c.deref-in-Some-3.result.now) % m) c.deref-in-Some-2.ensures.value ∙
    ap (λ ys. coefficient e (den_of es fs ys) % m) c.deref-in-Some-3.ensures.value)

pub returns-clause-none : goal.returns-clause-none
returns-clause-none c grid covers forcing prime f is =
    let m = value_of c.args.m in
    let b = c.args.bounds.now in
    let xs = c.args.points.now in
    let vs = c.args.values.now in
    let es = c.in_ok-nums.nums.items in
    let fs = c.in_ok-dens.dens.items in
    let all = c.in_ok-plan.plan in
    let n = c.len.result in
    let whole : c.in_ok-plan.plan ≡ es ++ fs =
    c.in_ok-plan.ensures ∙ c.in_ok-extend_from_slice.ensures.items ∙ ap (λ xs. xs ++ c.deref-2.result.now) (c.in_ok-monos.ensures.items ∙ c.deref.ensures.value) ∙ ap (λ xs. es ++ xs) c.deref-2.ensures.value in
    let count : n ≡ length es = c.len.ensures ∙ sym c.deref.ensures.len ∙ ap length c.deref.ensures.value in
    let none_there : IsPrime m → IsForced m (take n all) (drop n all) xs vs → NoneAgrees m (take n all) (drop n all) xs vs = rw c.in-None.is at c.in_ok-numbers.ensures.none in
    let none : IsPrime m → IsForced m es fs xs vs → NoneAgrees m es fs xs vs =
    subst (λ (a : List (List ℕ)). IsPrime m → IsForced m a fs xs vs → NoneAgrees m a fs xs vs) (front_of es fs all n whole count)
    (subst (λ (d : List (List ℕ)). IsPrime m → IsForced m (take n all) d xs vs → NoneAgrees m (take n all) d xs vs) (back_of es fs all n whole count) none_there) in
    let e_lists : ListsMonomials b.num c.args.variables es = record { ascending = c.in_ok-nums.ensures.ascending; members = c.in_ok-nums.ensures.members } in
    let f_lists : ListsMonomials b.den c.args.variables fs = record { ascending = c.in_ok-dens.ensures.ascending; members = c.in_ok-dens.ensures.members } in
    let large = value_of-large c.args.m in
    no_pair m b c.args.variables es fs xs vs e_lists f_lists c.requires.num_past c.requires.den_past large
    (none prime (forced m b c.args.variables es fs xs vs e_lists f_lists c.requires.num_past c.requires.den_past large grid covers forcing c.requires.samples)) f is
