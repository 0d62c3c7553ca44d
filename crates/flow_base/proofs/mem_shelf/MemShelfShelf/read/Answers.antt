-- The open file is one of the files.
use Rattle.flow_base.proofs.mem_shelf.MemShelfShelf.read.Goals as goal

pub bytes_of-bytes-requires : goal.bytes_of-bytes-requires
bytes_of-bytes-requires c = rw c.as_slice.ensures.value (c.args.self.now.placed c.in-Some.reading c.in-Some.is).file
