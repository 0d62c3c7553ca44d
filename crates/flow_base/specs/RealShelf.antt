-- What callers see of the real shelf: it tells no bytes.
use Rattle.std.specs.Prelude.{None, string_bytes, option_map}
use Rattle.std.specs.Option.{option_map_or}
use Rattle.flow_base.specs.declared.real_shelf.RealShelf.{RealShelf}
use Rattle.flow_base.specs.FaultCounts.{faults_of}
use Rattle.flow_base.specs.Shelf.{ShelfView}

abbrev pub real_shelf_view : RealShelf → ShelfView
real_shelf_view shelf = record {
  files = λ name. None;
  name = option_map (λ reading. string_bytes reading.name) shelf.reading;
  rest = None;
  taken = option_map_or (λ reading. reading.taken) shelf.reading 0;
  faults = faults_of shelf.counts;
}
