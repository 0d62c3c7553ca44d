use Rattle.std.proofs.Common.{◌∙◌, sym}
use Rattle.graph_file.proofs.TakeLemmas.{stands-kept}
use Rattle.graph_file.proofs.faults.fault.Goals as goal

pub is_limit-requires-clause-stands : goal.is_limit-requires-clause-stands
is_limit-requires-clause-stands c = stands-kept c.requires.earlier c.args.reader.now c.args.line.now c.requires.read (sym (c.is_syntax.ensures c.requires.earlier c.requires.read) ∙ c.if-is_syntax.false)
