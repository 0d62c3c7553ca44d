use Rattle.std.proofs.Common.{◌≡◌, ◌<◌, ◌-◌, ◌*◌, ◌%◌, ◌++◌, List, ℕ, suc, drop, get_or, ap, ◌∙◌, sym, subst, arith}
use Rattle.prime_field.specs.Modulus.{value_of}
use Rattle.prime_field.proofs.Moduli.{value_of-large}
use Rattle.poly_maps.specs.Expansion.{residues, power_row, spread, AreMoved}
use Rattle.poly_maps.proofs.Terms.{residue-at}
use Rattle.poly_maps.proofs.Expanding.{power_row-low, power_row-reached, AreMoved-more}
use Rattle.poly_maps.proofs.shift.moved_terms.Goals as goal

pub push_spread-requires-clause-residue : goal.push_spread-requires-clause-residue
push_spread-requires-clause-residue c =
    subst (λ (t : List ℕ × ℕ). t.1 < value_of c.args.m) (sym c.index-terms-n.is)
    (residue-at (value_of c.args.m) c.args.terms.now (c.loop-n.n - 1) c.index-terms-n.result c.requires.residues (omega arith))

pub push_spread-requires-clause-residues : goal.push_spread-requires-clause-residues
push_spread-requires-clause-residues c =
    let reached = power_row-reached (value_of c.args.m) c.args.a c.exponent.result c.raise.new.row.items c.in_ok-raise.ensures in
    rw c.deref.ensures.value (power_row-low (value_of c.args.m) c.args.a c.raise.new.row.items (omega (arith, value_of-large c.args.m)) reached.1)

pub push_spread-requires-clause-few : goal.push_spread-requires-clause-few
push_spread-requires-clause-few c =
    let reached = power_row-reached (value_of c.args.m) c.args.a c.exponent.result c.raise.new.row.items c.in_ok-raise.ensures in
    rw c.deref.ensures.value (omega (arith, reached.0))

pub loop-n-preserved : goal.loop-n-preserved
loop-n-preserved c =
    let k : ℕ = c.loop-n.n - 1 in
    let t : List ℕ × ℕ = c.index-terms-n.result in
    let next : c.loop-n.n ≡ suc k = omega arith in
    let reached = power_row-reached (value_of c.args.m) c.args.a c.exponent.result c.raise.new.row.items c.in_ok-raise.ensures in
    let row : List (List ℕ × ℕ) = spread (λ r. (t.1 * r) % value_of c.args.m) t.0 c.args.i 0 c.raise.new.row.items in
    let row_is : row ≡ spread (λ r. (t.1 * r) % value_of c.args.m) t.0 c.args.i 0 (residues (value_of c.args.m) (power_row c.args.a (get_or t.0 c.args.i 0))) =
    ap (λ x. spread (λ r. (t.1 * r) % value_of c.args.m) t.0 c.args.i 0 x)
    (c.in_ok-raise.ensures ∙ ap (λ e. residues (value_of c.args.m) (power_row c.args.a e)) c.exponent.ensures) in
    let out_is : c.push_spread.new.out.items ≡ c.loop-n.out.items ++ row =
    c.in_ok-push_spread.ensures ∙ ap (λ x. c.loop-n.out.items ++ spread (λ r. (t.1 * r) % value_of c.args.m) t.0 c.args.i 0 x) c.deref.ensures.value in (
      reached.1,
      subst (AreMoved (value_of c.args.m) c.args.i c.args.a (drop k c.args.terms.now)) (sym out_is)
          (AreMoved-more (value_of c.args.m) c.args.i c.args.a k c.args.terms.now c.loop-n.out.items row t (omega (arith, value_of-large c.args.m)) c.requires.place c.requires.eight (omega arith)
          c.index-terms-n.is row_is
          (subst (λ n. AreMoved (value_of c.args.m) c.args.i c.args.a (drop n c.args.terms.now) c.loop-n.out.items) next c.loop-n.invariant.1)),
    )
