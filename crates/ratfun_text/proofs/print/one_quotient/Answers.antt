use Rattle.ratfun_text.proofs.Polynomials.{same_quotient}
use Rattle.ratfun_text.proofs.print.one_quotient.Goals as goal

pub returns : goal.returns
returns c = same_quotient
