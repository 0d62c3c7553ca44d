use Rattle.std.proofs.Common.{◌+◌, ◌*◌, length, get_or, refl, arith}
use Rattle.std.proofs.lemmas.Nat.{mul-add-lt}
use Rattle.univariate.proofs.Places.{residues-set}
use Rattle.multivar_recon.proofs.Tables.{column_more}
use Rattle.multivar_recon.proofs.ray_tables.write_column.Goals as goal

pub loop-k-preserved : goal.loop-k-preserved
loop-k-preserved c =
    let numbers = c.args.numbers.now in
    let k = c.loop-k.k in
    let place = k * c.args.width + c.args.column in
    record {
      written = column_more numbers c.args.table.now c.loop-k.table c.args.column c.args.width k (get_or numbers k 0) c.requires.column c.loop-k-test.true
          (omega (arith, mul-add-lt k c.args.width c.args.column (length numbers) c.loop-k-test.true c.requires.column)) refl c.loop-k.invariant.written;
      residues = λ m numbers_low old_low. residues-set m c.loop-k.table place (get_or numbers k 0) (c.loop-k.invariant.residues m numbers_low old_low) (numbers_low k);
    }
