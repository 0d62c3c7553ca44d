use Rattle.std.proofs.Common.{◌≡◌, ℕ, ◌∷◌, ◌++◌, [], List, get_or, slice_index, take, sym, ◌∙◌, ap, subst, arith}
use Rattle.std.proofs.lemmas.List.{length-take}
use Rattle.prime_field.specs.Modulus.{value_of}
use Rattle.poly_maps.specs.Polynomial.{AreResidues}
use Rattle.multivar_recon.specs.Vectors.{with_numbers}
use Rattle.multivar_recon.proofs.Listed.{numbers_more, AreResidues-numbers}
use Rattle.multivar_recon.proofs.pairs.gather.Goals as goal

pub loop-k-preserved : goal.loop-k-preserved
loop-k-preserved c =
    let monos = c.args.monos.now in
    let z = slice_index c.args.numbers.now in
    let k = c.loop-k.k in
    let term : List ℕ × ℕ = (c.index-monos-k.result, get_or c.args.numbers.now k 0) in
    let pushed : c.push.new.self.items ≡ c.loop-k.terms.items ++ term ∷ [] = c.in_ok-push.ensures.items in
    let there : c.index-monos-k.result ≡ get_or monos k c.index-monos-k.result = c.index-monos-k.is in
    pushed ∙ ap (λ ts. ts ++ term ∷ []) c.loop-k.invariant ∙
    ap (λ e. with_numbers (take k monos) z ++ (e, get_or c.args.numbers.now k 0) ∷ []) there ∙
    sym (numbers_more monos z k c.index-monos-k.result (omega arith))

pub from_terms-requires : goal.from_terms-requires
from_terms-requires c =
    subst (AreResidues (value_of c.args.m)) (sym c.loop-k.invariant)
    (AreResidues-numbers (value_of c.args.m) (take c.loop-k.k c.args.monos.now) (slice_index c.args.numbers.now)
    (λ k low. c.requires.residues k (omega (arith, length-take c.loop-k.k c.args.monos.now, low))))
