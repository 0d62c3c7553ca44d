use Rattle.std.proofs.Common.{◌%◌, arith}
use Rattle.sparse_solver.proofs.Folded.{next_low}
use Rattle.sparse_solver.proofs.packed.add_to_few.Goals as goal

pub fold-requires : goal.fold-requires
fold-requires g c =
    next_low g.F.Field.modulus (c.args.count % 4) c.args.sum c.args.value c.args.residue c.requires.value c.requires.residue (omega arith) c.requires.few
