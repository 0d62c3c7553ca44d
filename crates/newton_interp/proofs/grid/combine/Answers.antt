use Rattle.std.proofs.Common.{arith}
use Rattle.prime_field.specs.Modulus.{value_of}
use Rattle.prime_field.proofs.Moduli.{value_of-large}
use Rattle.newton_interp.proofs.Columns.{residues_of_places}
use Rattle.newton_interp.proofs.grid.combine.Goals as goal

pub returns-clause-residues : goal.returns-clause-residues
returns-clause-residues c =
    let large = value_of-large c.args.m in
    residues_of_places (value_of c.args.m) c.loop-i.combined (omega arith) (λ k low. c.loop-i.invariant.low k (omega arith))
