use Rattle.std.proofs.Common.{◌≡◌, ℕ, ◌<◌, List, length, get_or, sym, subst}
use Rattle.prime_field.specs.Modulus.{value_of}
use Rattle.poly_maps.specs.Polynomial.{AreResidues}
use Rattle.poly_maps.proofs.Terms.{residue-at}
use Rattle.multivar_recon.proofs.Monics.{times_more, residues_push}
use Rattle.multivar_recon.proofs.monic.multiple.Goals as goal

pub mul-requires-clause-left : goal.mul-requires-clause-left
mul-requires-clause-left c =
    let residues = subst (AreResidues (value_of c.args.m)) (sym c.terms-term-items.ensures.same) c.requires.residues in
    subst (λ (t : List ℕ × ℕ). t.1 < value_of c.args.m) (sym c.term-item.is)
    (residue-at (value_of c.args.m) c.terms-term-items.result.now c.loop-term.term-index c.term-item.result residues c.loop-term-test.true)

pub loop-term-preserved : goal.loop-term-preserved
loop-term-preserved c =
    let m = value_of c.args.m in
    let t : List ℕ × ℕ = c.term-item.result in
    let is = subst (λ (p : List (List ℕ × ℕ)). t ≡ get_or p c.loop-term.term-index t) c.terms-term-items.ensures.same c.term-item.is in
    let low = subst (λ (p : List (List ℕ × ℕ)). c.loop-term.term-index < length p) c.terms-term-items.ensures.same c.loop-term-test.true in
    record {
      coefficients = times_more m c.args.factor c.loop-term.term-index c.mul.result c.args.poly.now c.loop-term.terms.items c.push.new.self.items t low is c.mul.ensures.product
          c.in_ok-push.ensures.items c.loop-term.invariant.coefficients;
      residues = subst (AreResidues m) (sym c.in_ok-push.ensures.items) (residues_push m c.loop-term.terms.items (t.0, c.mul.result) c.loop-term.invariant.residues c.mul.ensures.residue);
    }
