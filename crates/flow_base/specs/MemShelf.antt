-- What callers see of a shelf in memory.
pub mod Told
use Rattle.std.specs.Prelude.{◌≡◌, ℕ, ◌+◌, ◌<◌, ◌≤◌, List, length, drop, min, Option, Some, None, String, Vec, string_bytes, option_map, ◌⊎◌}
use Rattle.std.specs.declared.alloc.Global.{Global}
use Rattle.std.specs.Option.{option_map_or}
use Rattle.flow_base.specs.declared.fault_counts.FaultCounts.{FaultCounts}
use Rattle.flow_base.specs.declared.mem_shelf.OpenFile.{OpenFile}
use Rattle.flow_base.specs.FaultCounts.{HasEntry}
use Rattle.flow_base.specs.Files.{bytes_at}

-- the open file is one of the files, was read no further than its end, and has an entry for its faults
pub record IsPlaced (files : List (String Global × Vec ℕ Global)) (counts : FaultCounts) (reading : OpenFile) : Type 0 where
  pub file : reading.file < length files
  pub at : reading.at ≤ length (bytes_at files reading.file)
  pub entered : HasEntry counts (string_bytes reading.name)
