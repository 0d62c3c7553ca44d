-- The run of the example is made of the laws below it.
use Rattle.flow_program.proofs.ExampleRun.{Laws, answers, exhibited}
use Rattle.flow_program.proofs.example.worked_example.Goals as goal

pub returns : goal.returns
returns c =
    let laws : Laws = record {
      bounds = c.said_bounds.ensures;
      entries = c.attempts_have_points.ensures.entries;
      quotient_is_found = c.quotient_is_found.ensures.is;
      quotients = c.functions_are_printed.ensures.quotients;
    } in record { exhibits = exhibited laws; text = answers laws }
