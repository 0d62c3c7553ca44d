use Rattle.std.proofs.Common.{◌≡◌, ◌≢◌, ℕ, ◌*◌, ◌%◌, List, [], sym, ◌∙◌, ap, subst}
use Rattle.prime_field.specs.Modulus.{value_of}
use Rattle.prime_field.proofs.Moduli.{value_of-large}
use Rattle.multivar_recon.specs.Least.{leading_coefficient}
use Rattle.multivar_recon.proofs.Monics.{first_leads, monic_is}
use Rattle.multivar_recon.proofs.monic.monic.Goals as goal

pub returns-clause-multiple : goal.returns-clause-multiple
returns-clause-multiple c =
    let m = value_of c.args.m in
    let t : List ℕ × ℕ = c.index-terms-0.result in
    let some : c.terms.result.now ≢ [] = subst (λ (p : List (List ℕ × ℕ)). p ≢ []) (sym c.terms.ensures.same) c.requires.some in
    let leading = first_leads c.terms.result.now t some in (
      c.in-Some.inverse,
      monic_is m c.in-Some.inverse c.args.pair.now (record { num = c.in_ok-num.num; den = c.in_ok-den.den }) (value_of-large c.args.m) c.requires.modulo c.requires.some
          (ap (λ v. (v * c.in-Some.inverse) % m) (sym (leading ∙ ap leading_coefficient c.terms.ensures.same)) ∙ c.in-Some.ensures.inverse)
          (record {
            num = c.in_ok-num.ensures.polynomial;
            den = c.in_ok-den.ensures.polynomial;
            num_residues = c.in_ok-num.ensures.residues;
            den_residues = c.in_ok-den.ensures.residues;
          })
          c.in_ok-num.ensures.coefficients c.in_ok-den.ensures.coefficients,
    )
