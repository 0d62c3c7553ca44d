use Rattle.rational_lift.specs.Lifting.{Lifted}
use Rattle.output_result.specs.Results.{Lifts}
use Rattle.output_result.proofs.Quotients.{quotient_lifts}
use Rattle.output_result.proofs.Single.{one_result}
use Rattle.output_result.proofs.laws.quotient_is_found.Goals as goal

pub returns-clause-only : goal.returns-clause-only
returns-clause-only c coeff grid o F found prime narrow pinned is well result =
    one_result coeff grid o found (Lifts (Lifted F)) narrow pinned result (quotient_lifts coeff o F prime is well)

pub returns-clause-is : goal.returns-clause-is
returns-clause-is c = quotient_lifts
