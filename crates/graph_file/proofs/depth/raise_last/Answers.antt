use Rattle.std.proofs.Common.{◌∙◌, ◌++◌, ◌∷◌, [], sym, ap}
use Rattle.graph_file.specs.Facts.{last_raised}
use Rattle.graph_file.proofs.DepthLemmas.{raised-last}
use Rattle.graph_file.proofs.depth.raise_last.Goals as goal

pub returns : goal.returns
returns c =
    c.in_ok-push.ensures.items
    ∙ ap (λ n. c.pop-last.new.self.items ++ n ∷ []) c.max.ensures
    ∙ sym (raised-last c.args.depth c.pop-last.new.self.items c.in-Some.last)
    ∙ ap (last_raised c.args.depth) (sym c.in-Some.ensures.items)
