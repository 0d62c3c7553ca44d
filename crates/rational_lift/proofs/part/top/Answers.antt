use Rattle.std.proofs.Common.{◌∙◌}
use Rattle.rational_lift.proofs.Going.{top_first}
use Rattle.rational_lift.proofs.part.top.Goals as goal

pub returns-in_default : goal.returns-in_default
returns-in_default c =
    record {
      some = top_first c.args.left.now c.args.right.now _ _ c.in-Some-Some.ensures.value c.in-Some-Some.ensures'.value (λ less. c.in_default.not-Less (c.cmp.ensures ∙ less));
      none = tt;
    }
