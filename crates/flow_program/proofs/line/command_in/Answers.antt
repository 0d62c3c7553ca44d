-- The number of workers was found.
use Rattle.std.proofs.Common.{◌≡◌}
use Rattle.clap.specs.Words.{found_of, rows_of}
use Rattle.flow_program.proofs.LineLaws.{wished_count}
use Rattle.flow_program.proofs.line.command_in.Goals as goal

pub count_in-workers-requires : goal.count_in-workers-requires
count_in-workers-requires c = wished_count c.args.verb (rows_of (found_of c.args.matches.now)) c.requires
