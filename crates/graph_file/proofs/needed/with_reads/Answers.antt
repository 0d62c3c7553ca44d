use Rattle.std.proofs.Common.{◌∙◌}
use Rattle.graph_file.proofs.MarkLemmas.{reads-within, AreMarkedFrom-next, flag_set}
use Rattle.graph_file.proofs.needed.with_reads.Goals as goal

pub with_marks-flags-requires : goal.with_marks-flags-requires
with_marks-flags-requires c =
    reads-within c.args.nodes.now c.args.place _ c.as_slice.result.now c.args.flags.items c.requires.within c.requires.earlier (c.as_slice.ensures ∙ c.in_ok-sources.ensures) c.requires.flags.counted

pub returns : goal.returns
returns c =
    AreMarkedFrom-next c.args.nodes.now c.args.output c.args.place _ c.as_slice.result.now c.args.flags.items c.with_marks-flags.result.items c.requires.within c.requires.earlier (c.as_slice.ensures ∙ c.in_ok-sources.ensures)
    (flag_set c.args.nodes.now c.args.flags.items c.args.place _ c.index.result.now c.requires.within c.requires.flags.counted c.index.ensures c.if-not-index.false) c.requires.flags c.with_marks-flags.ensures
