use Rattle.std.proofs.Common.{◌≡◌, ◌<◌, ◌+◌, ◌*◌, ◌%◌, ℕ, List, length, get_or, ap, sym, subst, ◌∙◌, arith}
use Rattle.std.proofs.Math.ListN.{set}
use Rattle.std.proofs.lemmas.List.{get_or_default}
use Rattle.std.proofs.lemmas.Nat.{mod_below}
use Rattle.prime_field.specs.Modulus.{value_of}
use Rattle.prime_field.proofs.Moduli.{value_of-large}
use Rattle.poly_maps.specs.Mono.{degree, mono_value}
use Rattle.poly_maps.specs.Polynomial.{value_at}
use Rattle.poly_maps.specs.Moved.{graded}
use Rattle.poly_maps.proofs.Terms.{residue-at}
use Rattle.poly_maps.proofs.Rays.{graded-set, degree-fits}
use Rattle.poly_maps.proofs.ray.values_by_degree.Goals as goal

pub index-requires : goal.index-requires
index-requires c =
    let fits = degree-fits c.args.terms.now c.loop-term.term-index c.term-item.result c.args.highest c.loop-term-test.true c.term-item.is c.requires.highest in
    omega (arith, fits, c.total-degree.ensures, c.loop-term.invariant.0)

pub mul-requires-clause-left : goal.mul-requires-clause-left
mul-requires-clause-left c =
    subst (λ (t : List ℕ × ℕ). t.1 < value_of c.args.m) (sym c.term-item.is)
    (residue-at (value_of c.args.m) c.args.terms.now c.loop-term.term-index c.term-item.result c.requires.residues c.loop-term-test.true)

pub add-requires-clause-left : goal.add-requires-clause-left
add-requires-clause-left c =
    let fits = degree-fits c.args.terms.now c.loop-term.term-index c.term-item.result c.args.highest c.loop-term-test.true c.term-item.is c.requires.highest in
    let read : c.index.result.now ≡ get_or c.loop-term.values.items c.total-degree.result 0 =
    c.index.ensures ∙ get_or_default c.loop-term.values.items c.total-degree.result c.index.result.now 0 (omega (arith, fits, c.total-degree.ensures, c.loop-term.invariant.0, c.loop-term.values.ok.0)) in
    subst (λ x. x < value_of c.args.m) (sym (read ∙ c.loop-term.invariant.1 c.total-degree.result))
    (mod_below (value_at (graded c.total-degree.result _) c.args.g.now) (value_of c.args.m) (omega (arith, value_of-large c.args.m)))

pub index_mut-requires : goal.index_mut-requires
index_mut-requires c =
    let fits = degree-fits c.args.terms.now c.loop-term.term-index c.term-item.result c.args.highest c.loop-term-test.true c.term-item.is c.requires.highest in
    omega (arith, fits, c.total-degree.ensures, c.loop-term.invariant.0)

pub loop-term-preserved : goal.loop-term-preserved
loop-term-preserved c =
    let m : ℕ = value_of c.args.m in
    let t : List ℕ × ℕ = c.term-item.result in
    let values : List ℕ = c.loop-term.values.items in
    let fits = degree-fits c.args.terms.now c.loop-term.term-index t c.args.highest c.loop-term-test.true c.term-item.is c.requires.highest in
    let room : degree t.0 < length values = omega (arith, fits, c.loop-term.invariant.0, c.loop-term.values.ok.0) in
    let at : c.total-degree.result ≡ degree t.0 = c.total-degree.ensures in
    let read : c.index.result.now ≡ get_or values (degree t.0) 0 =
    c.index.ensures ∙ ap (λ k. get_or values k c.index.result.now) at ∙ get_or_default values (degree t.0) c.index.result.now 0 room in
    let value : c.value.result ≡ mono_value t.0 c.args.g.now % m =
    c.value.ensures.value ∙ ap (λ v. v % value_of c.of-powers.result.modulus) (c.of-powers.ensures.values t.0) ∙
    ap (λ n. mono_value t.0 c.args.g.now % value_of n) c.of-powers.ensures.modulus in
    let sum : c.add.result ≡ (get_or values (degree t.0) 0 + (t.1 * c.value.result) % m) % m =
    c.add.ensures.sum ∙ ap (λ v. (v + c.mul.result) % m) read ∙ ap (λ v. (get_or values (degree t.0) 0 + v) % m) c.mul.ensures.product in (
      c.loop-term.invariant.0,
      λ k.
          ap (λ j. get_or (set values j c.add.result) k 0) at ∙
          graded-set m c.loop-term.term-index c.args.terms.now t c.args.g.now values c.add.result c.value.result c.loop-term-test.true c.term-item.is room value sum c.loop-term.invariant.1 k,
    )
