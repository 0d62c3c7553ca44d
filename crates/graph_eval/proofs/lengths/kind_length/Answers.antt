-- A sound node meets what its rule asks.
use Rattle.std.proofs.Common.{◌≤◌, length, sym, ◌∙◌, subst}
use Rattle.std.proofs.lemmas.List.Elements.{All-same}
use Rattle.basic_nodes.specs.Lengths.{IsShape}
use Rattle.graph_file.specs.Sound.{IsEarlier}
use Rattle.graph_eval.proofs.ShapeLaws.{all_within, shape_sound, sources_sound}
use Rattle.graph_eval.proofs.lengths.kind_length.Goals as goal

pub named_lengths-requires : goal.named_lengths-requires
named_lengths-requires c =
    All-same (IsEarlier (length c.args.earlier.now)) _ _ (c.as_slice.ensures ∙ c.in_ok-sources.ensures) (sources_sound c.args.inputs (length c.args.earlier.now) c.args.kind.now c.requires.sound)

pub length_of-requires-clause-shape : goal.length_of-requires-clause-shape
length_of-requires-clause-shape c = subst IsShape (sym c.in_ok-shape.ensures) (shape_sound c.args.inputs (length c.args.earlier.now) c.args.sizes.now c.args.set.now c.args.kind.now c.requires.sizes c.requires.sound c.requires.set)

pub length_of-requires-clause-within : goal.length_of-requires-clause-within
length_of-requires-clause-within c =
    All-same (λ n. n ≤ 262144) _ _ (c.as_slice-2.ensures.value ∙ c.in_ok-lengths.ensures) (all_within c.args.inputs c.args.earlier.now c.as_slice.result.now c.requires.few c.requires.within)
