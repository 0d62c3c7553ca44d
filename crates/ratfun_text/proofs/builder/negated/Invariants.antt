-- So many signs stand in front of the tree by now.
use Rattle.std.proofs.Common.{◌≡◌}
use Rattle.ratfun_text.specs.Parts.{negated}
use Rattle.ratfun_text.proofs.builder.negated.Given as goal

abbrev pub invariant-loop-sign : goal.invariant-loop-sign
invariant-loop-sign l = l.tree ≡ negated l._sign l.initial.tree
