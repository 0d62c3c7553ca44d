-- A text that was found is there.
use Rattle.std.proofs.Common.{◌≡◌, Some, ap, sym, ◌∙◌}
use Rattle.std.specs.Prelude.{option_map}
use Rattle.clap.specs.Words.{first_of, found_of, rows_of}
use Rattle.clap.proofs.WalkLemmas.{first_value-rows}
use Rattle.flow_program.proofs.LineLaws.{text_given}
use Rattle.flow_program.proofs.line.text_in.Goals as goal

pub unwrap-requires : goal.unwrap-requires
unwrap-requires c =
    let found = found_of c.args.matches.now in
    text_given c.get_str.result (first_of c.args.id.now (rows_of found)) (c.get_str.ensures ∙ first_value-rows found c.args.id.now) c.requires

pub returns : goal.returns
returns c = sym (first_value-rows (found_of c.args.matches.now) c.args.id.now) ∙ sym c.get_str.ensures ∙ ap (option_map (λ s. s.now)) c.unwrap.ensures
