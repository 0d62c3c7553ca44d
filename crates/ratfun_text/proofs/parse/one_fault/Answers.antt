use Rattle.ratfun_text.proofs.Unique.{one_fault}
use Rattle.ratfun_text.proofs.parse.one_fault.Goals as goal

pub returns : goal.returns
returns c = one_fault
