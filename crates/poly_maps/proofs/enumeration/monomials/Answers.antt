use Rattle.std.proofs.Common.{◌≡◌, ◌+◌, AllPairs, Contains, ap, sym, ◌∙◌, subst, arith}
use Rattle.std.specs.declared.cmp.Ordering.TheVariants.{Less}
use Rattle.poly_maps.specs.Mono.{mono_cmp}
use Rattle.poly_maps.proofs.Enumerated.{up_to, up_to_more, up_to-each, up_to-in, up_to-ascends, Each-in, IsOfDegreeBelow, AllPairs-ascends, Contains-in, In-contains, limited}
use Rattle.poly_maps.proofs.enumeration.monomials.Goals as goal

pub loop-degree-preserved : goal.loop-degree-preserved
loop-degree-preserved c =
    up_to_more c.limits-each.result c.loop-degree.degree c.loop-degree.found.items c.push_of_degree.new.found.items c.loop-degree.invariant c.in_ok-push_of_degree.ensures

pub returns-clause-ascending : goal.returns-clause-ascending
returns-clause-ascending c =
    subst (AllPairs (λ e f. mono_cmp e f ≡ Less)) (sym c.loop-degree.invariant) (AllPairs-ascends mono_cmp (up_to c.limits-each.result c.loop-degree.degree) (up_to-ascends c.limits-each.result c.loop-degree.degree))

pub returns-clause-members : goal.returns-clause-members
returns-clause-members c = λ e.
    let each = c.limits-each.result in
    let n = c.args.bound.now.total + 1 in
    let last : c.loop-degree.degree ≡ n = omega arith in
    let all = c.loop-degree.invariant ∙ ap (up_to each) last in
    let are = limited c.args.bound.now each c.args.variables e (omega arith) c.limits-each.ensures.eight c.requires.few c.limits-each.ensures.limits in (
      λ there. are.0 (Each-in (IsOfDegreeBelow each n) (up_to each n) e (up_to-each each n) (In-contains (up_to each n) e (subst (λ es. Contains es e) all there))),
      λ is. subst (λ es. Contains es e) (sym all) (Contains-in (up_to each n) e (up_to-in each e n (are.1 is))),
    )
