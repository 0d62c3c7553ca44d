-- No separator stands in front.
use Rattle.std.proofs.Common.{◌≡◌, ◌++◌, take, drop}
use Rattle.ratfun_text.specs.Reading.{before, behind}
use Rattle.ratfun_text.proofs.reading.cut.Given as goal

abbrev pub invariant-loop-at : goal.invariant-loop-at
invariant-loop-at l = (take l.at l.text ++ before l.separator (drop l.at l.text) ≡ before l.separator l.text) × (behind l.separator (drop l.at l.text) ≡ behind l.separator l.text)
