-- The bytes so far all go on with the token.
use Rattle.std.proofs.Common.{◌≡◌, ◌-◌, ◌≤◌, true, length, take}
use Rattle.std.specs.List.{list_all}
use Rattle.ratfun_text.specs.Tokens.{goes_on}
use Rattle.ratfun_text.proofs.tokens.run.Given as goal

abbrev pub invariant-loop-count : goal.invariant-loop-count
invariant-loop-count l = (l.count ≤ length l.rest) × (list_all (goes_on l.first) (take l.count l.rest) ≡ true)

abbrev pub decreases-loop-count : goal.decreases-loop-count
decreases-loop-count l = length l.rest - l.count
