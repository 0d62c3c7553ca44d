-- The pieces are the file.
use Rattle.std.proofs.Common.{◌≡◌, ◌++◌, List, ℕ, ap, subst, ◌∙◌, drop, arith}
use Rattle.flow_program.specs.Demo.{demo_bytes}
use Rattle.flow_program.proofs.DemoLaws.{behind_three, file_written}
use Rattle.flow_program.proofs.demo.demo_file.Goals as goal

pub returns : goal.returns
returns c =
    subst (λ size. c.push_last_lines.new.text.items ≡ demo_bytes size) c.from-size.ensures
    (file_written c.from-size.result c.in_ok-entries.entries.items c.in_ok-file.file.items c.extend_from_slice.new.self.items c.push_numbered.new.text.items c.push.new.self.items c.push_all_rows.new.text.items c.push_last_lines.new.text.items
    (omega (arith, c.from-size.ensures, c.requires.some)) c.in_ok-entries.ensures c.in_ok-file.ensures.items (c.in_ok-extend_from_slice.ensures.items ∙ ap (λ (s : List ℕ). c.in_ok-file.file.items ++ s) (behind_three c.deref.result.now ∙ ap (λ (s : List ℕ). drop 3 s) c.deref.ensures.value))
    c.in_ok-push_numbered.ensures c.in_ok-push.ensures.items c.in_ok-push_all_rows.ensures c.in_ok-push_last_lines.ensures)
