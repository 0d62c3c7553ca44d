-- The number with which a run ends.
use Rattle.std.specs.Prelude.{ℕ, ⊤}
use Rattle.flow_program.specs.declared.status.Status.{Status}
use Rattle.flow_program.specs.declared.status.Status.TheVariants.{Done, Unfound, BadWords, BadFile, NotLearned, Exhausted, ReadFault, WriteFault, NoMemory}

abbrev pub code_of : Status → ℕ
code_of Done = 0
code_of Unfound = 1
code_of BadWords = 2
code_of BadFile = 3
code_of NotLearned = 4
code_of Exhausted = 5
code_of ReadFault = 6
code_of WriteFault = 7
code_of NoMemory = 8

-- a run whose file is a job may end so
abbrev pub IsJobStatus : Status → Type 0
IsJobStatus Done = ⊤
IsJobStatus Unfound = ⊤
IsJobStatus NotLearned = ⊤
IsJobStatus Exhausted = ⊤
IsJobStatus status = ⊥

-- a run that read its file may end so
abbrev pub IsFileStatus : Status → Type 0
IsFileStatus Done = ⊤
IsFileStatus Unfound = ⊤
IsFileStatus BadFile = ⊤
IsFileStatus NotLearned = ⊤
IsFileStatus Exhausted = ⊤
IsFileStatus status = ⊥
