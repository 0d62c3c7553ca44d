use Rattle.std.proofs.Common.{◌==◌, ◌+◌, ap, ◌∙◌, ◌∷◌, take, sym}
use Rattle.std.specs.List.{slice_split}
use Rattle.graph_file.proofs.CutLemmas.{slice_split-no_place, slice_split-place, size_behind-place, take-drop}
use Rattle.graph_file.proofs.lines.cut.Goals as goal

pub returns-in-None-clause-pieces : goal.returns-in-None-clause-pieces
returns-in-None-clause-pieces c = slice_split-no_place (λ byte. byte == c.args.at) c.args.bytes.now (sym c.place_of.ensures ∙ c.in-None.is)

pub returns-in-Some-clause-pieces : goal.returns-in-Some-clause-pieces
returns-in-Some-clause-pieces c =
    slice_split-place (λ byte. byte == c.args.at) c.args.bytes.now c.in-Some.place (sym c.place_of.ensures ∙ c.in-Some.is)
    ∙ ap (λ rest. take c.in-Some.place c.args.bytes.now ∷ slice_split (λ byte. byte == c.args.at) rest) (sym (take-drop (c.in-Some.place + 1) c.args.bytes.now))

pub returns-in-Some-clause-shorter : goal.returns-in-Some-clause-shorter
returns-in-Some-clause-shorter c = size_behind-place (λ byte. byte == c.args.at) c.args.bytes.now c.in-Some.place (sym c.place_of.ensures ∙ c.in-Some.is)
