-- What a shelf in memory tells.
use Rattle.std.specs.Prelude.{◌≡◌, ℕ, List, drop, min, length, Some, string_bytes, option_map}
use Rattle.std.specs.Option.{option_map_or}
use Rattle.flow_base.specs.declared.mem_shelf.MemShelf.{MemShelf}
use Rattle.flow_base.specs.Counts.{counted}
use Rattle.flow_base.specs.FailingCalls.{IsToFail}
use Rattle.flow_base.specs.FaultCounts.{faults_of}
use Rattle.flow_base.specs.Files.{bytes_under, bytes_at}
use Rattle.flow_base.specs.Shelf.{ShelfView}

abbrev pub mem_shelf_view : MemShelf → ShelfView
mem_shelf_view shelf = record {
  files = λ name. Some (bytes_under shelf.files.items name);
  name = option_map (λ reading. string_bytes reading.name) shelf.reading;
  rest = option_map (λ reading. drop reading.at (bytes_at shelf.files.items reading.file)) shelf.reading;
  taken = option_map_or (λ reading. reading.taken) shelf.reading 0;
  faults = faults_of shelf.counts;
}

-- a read gives at most so many bytes
abbrev pub most_of : MemShelf → ℕ
most_of shelf = shelf.most

-- the numbers of the opens and reads that fail
abbrev pub failing_of : MemShelf → List ℕ
failing_of shelf = shelf.calls.failing.items

-- how many opens and reads there were
abbrev pub calls_of : MemShelf → ℕ
calls_of shelf = shelf.calls.calls

-- the next open or read fails by its number
abbrev pub IsNextToFail : MemShelf → Type 0
IsNextToFail shelf = IsToFail (failing_of shelf) (calls_of shelf)

-- one more open or read was counted, and the same ones fail
pub record CountsCall (old new : MemShelf) : Type 0 where
  pub calls : calls_of new ≡ counted (calls_of old) 1
  pub failing : failing_of new ≡ failing_of old
  pub most : most_of new ≡ most_of old

-- no open or read was counted, and the same ones fail
pub record CountsNone (old new : MemShelf) : Type 0 where
  pub calls : calls_of new ≡ calls_of old
  pub failing : failing_of new ≡ failing_of old
  pub most : most_of new ≡ most_of old

-- how many bytes a read into a buffer of this length gives
abbrev pub given_of : MemShelf → ℕ → List ℕ → ℕ
given_of shelf room rest = min (most_of shelf) (min room (length rest))
