-- An option of one word that was found is read as it stands.
use Rattle.std.proofs.Common.{◌≡◌, Some, ◌∙◌}
use Rattle.clap.specs.Words.{found_of, one_of, rows_of}
use Rattle.clap.proofs.WalkLemmas.{one_text-rows}
use Rattle.flow_program.proofs.LineLaws.{flag_given}
use Rattle.flow_program.proofs.line.flag_in.Goals as goal

pub returns : goal.returns
returns c =
    let found = found_of c.args.matches.now in
    let same = one_text-rows found c.args.id.now in
    flag_given (one_of c.args.id.now (rows_of found)) c.get_flag.result c.requires (λ is. c.get_flag.ensures.value (same ∙ is)) (λ is. c.get_flag.ensures.other (same ∙ is))
