use Rattle.thiele_interp.proofs.Closing.{closes-once}
use Rattle.thiele_interp.proofs.laws.one_closing_level.Goals as goal

pub returns : goal.returns
returns c = closes-once
