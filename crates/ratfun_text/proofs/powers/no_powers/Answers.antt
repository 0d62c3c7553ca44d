use Rattle.std.proofs.lemmas.List.Elements.{All-replicate}
use Rattle.ratfun_text.specs.Powers.{IsPower}
use Rattle.ratfun_text.proofs.powers.no_powers.Goals as goal

pub returns : goal.returns
returns c = λ m args. All-replicate (IsPower m args) 64 (record { place = 0; exponent = 0; value = 0 }) tt
