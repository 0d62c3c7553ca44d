use Rattle.std.proofs.Common.{rules, tests, ◌∙◌, sym}
use Rattle.std.proofs.lemmas.Iterator.{YieldsList-from_slice}
use Rattle.std.proofs.lemmas.Iterator.Search.{all_from_yields_List}
use Rattle.std.proofs.lemmas.List.Folds.{list_all-map}
use Rattle.graph_file.specs.Faults.{is_known}
use Rattle.graph_file.proofs.faults.are_parts_known.Goals as goal

pub returns : goal.returns
returns c =
    all_from_yields_List (λ part. is_known c.args.nodes.now part.0) _ _ _ c.all.ensures.ran (YieldsList-from_slice c.args.parts.now c.iter.ensures.rest) (λ x b q k. search (rules, tests))
    ∙ sym (list_all-map (is_known c.args.nodes.now) (λ part. part.0) c.args.parts.now)
