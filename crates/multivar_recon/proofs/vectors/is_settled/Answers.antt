use Rattle.std.proofs.Common.{◌≢◌}
use Rattle.std.proofs.lemmas.Bool.{eqb-true}
use Rattle.elim_core.specs.Kept.{kept_rows, modulus_of, unknowns_of}
use Rattle.elim_core.specs.declared.Rank.TheVariants.{Contradiction}
use Rattle.elim_core.proofs.Choices.{on_true}
use Rattle.multivar_recon.specs.Vectors.{IsSettled}
use Rattle.multivar_recon.proofs.Sampled.{no_independent}
use Rattle.multivar_recon.proofs.vectors.is_settled.Goals as goal

pub returns-in-New-clause-settled : goal.returns-in-New-clause-settled
returns-in-New-clause-settled c =
    let kept = c.args.kept.now in
    on_true _ (c.args.rank ≢ Contradiction → IsSettled (modulus_of kept) (unknowns_of kept) (kept_rows kept c.args.words.now))
    (λ none other. no_independent (modulus_of kept) (unknowns_of kept) (kept_rows kept c.args.words.now) c.independents.new.out c.independents.result
    (eqb-true c.independents.result 0 none) c.independents.ensures.listed)
