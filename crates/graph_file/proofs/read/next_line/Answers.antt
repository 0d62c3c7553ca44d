use Rattle.std.proofs.Common.{◌∙◌, sym, subst, Err}
use Rattle.graph_file.specs.Read.{IsNext}
use Rattle.graph_file.specs.declared.error.FileError.{FileError}
use Rattle.graph_file.proofs.FileLemmas.{next-idle, next-line, next-refused}
use Rattle.graph_file.proofs.read.next_line.Goals as goal

pub returns-then-is_idle_at : goal.returns-then-is_idle_at
returns-then-is_idle_at c = λ all at read. next-idle all c.args.place c.args.line.now c.args.reader.now at (sym c.is_idle_at.ensures ∙ c.if-is_idle_at.true) read

pub returns-in-Ok : goal.returns-in-Ok
returns-in-Ok c = λ all at read. next-line all c.args.place c.args.line.now c.read_line.new.self at (sym c.is_idle_at.ensures ∙ c.if-is_idle_at.false) (c.in-Ok.ensures _ read)

pub returns-in-Err : goal.returns-in-Err
returns-in-Err c = λ all at read. subst (λ (e : FileError). IsNext all c.args.place c.read_line.new.self (Err e)) (sym c.told.ensures) (next-refused all c.args.place c.args.line.now c.read_line.new.self c.in-Err.kind at (sym c.is_idle_at.ensures ∙ c.if-is_idle_at.false) (c.in-Err.ensures _ read))
