-- What is to be done with a file that is read.
use Rattle.std.specs.Prelude.{Bool, if◌then◌else◌}
use Rattle.prime_field.specs.declared.Modulus.{Modulus}
use Rattle.prime_field.specs.declared.Modulus.TheVariants.{First, Second}
use Rattle.graph_file.specs.declared.job.Need.{Need}
use Rattle.graph_file.specs.declared.job.Need.TheVariants as need
use Rattle.flow_program.specs.declared.task.Task.{Task}
use Rattle.flow_program.specs.declared.task.Task.TheVariants as task
use Rattle.flow_program.specs.Words.{Request, Sample, Learn, Reconstruct, Demo}

-- the modulus that is asked for
abbrev pub modulus_of : Bool → Modulus
modulus_of second = if second then Second else First

-- what is to be done with the bytes that a request works on
abbrev pub task_of : Request → Task
task_of (Sample file _ second) = task.Sample (modulus_of second)
task_of (Learn file) = task.Learn
task_of (Reconstruct file _ report) = task.Reconstruct report
task_of (Demo n _) = task.Demo n

-- what a file is read for
abbrev pub need_of : Task → Need
need_of (task.Sample modulus) = need.Points
need_of task.Learn = need.Learning
need_of (task.Reconstruct report) = need.Functions
need_of (task.Demo n) = need.Functions
