use Rattle.std.proofs.Common.{◌∙◌, sym}
use Rattle.graph_file.proofs.TakeLemmas.{formed-of, read-fault, read-kept, read-refused}
use Rattle.graph_file.proofs.reader.Reader.read_line.Goals as goal

pub returns-in-Some-fault : goal.returns-in-Some-fault
returns-in-Some-fault c = λ earlier read. read-fault earlier c.args.self.now c.args.line.now c.in-Some.said c.in-Some-fault.kind (sym c.in-Some.is ∙ c.in_ok-said.ensures.said) (sym (c.in_ok-fault.ensures earlier read) ∙ c.in-Some-fault.is)

pub take_in-requires-clause-formed : goal.take_in-requires-clause-formed
take_in-requires-clause-formed c = formed-of c.in_ok-said.said c.in-Some.said _ c.in-Some.is c.in_ok-said.ensures.formed

pub returns-in-Err : goal.returns-in-Err
returns-in-Err c = λ earlier read. read-refused earlier c.args.self.now c.args.self.now c.args.line.now c.in-Some.said c.in-Err.kind read (sym c.in-Some.is ∙ c.in_ok-said.ensures.said) (sym (c.in_ok-fault.ensures earlier read) ∙ c.in_default-fault.is) c.in-Err.ensures.parsed

pub returns : goal.returns
returns c = λ earlier read. read-kept earlier c.args.self.now c.take_in.new.self c.args.line.now c.in-Some.said c.in-Ok.exprs read (sym c.in-Some.is ∙ c.in_ok-said.ensures.said) (sym (c.in_ok-fault.ensures earlier read) ∙ c.in_default-fault.is) c.in-Ok.ensures.parsed (c.in_ok-take_in.ensures earlier read)
