use Rattle.std.proofs.Common.{◌≡◌, length, refl, arith}
use Rattle.std.proofs.lemmas.Nat.{mul-add-lt}
use Rattle.prime_field.specs.Modulus.{value_of}
use Rattle.newton_interp.proofs.Columns.{column-place, group-place, combined-next}
use Rattle.newton_interp.proofs.grid.combine_columns.Goals as goal

pub overflow_mul-start : goal.overflow_mul-start
overflow_mul-start c =
    omega (arith, group-place c.loop-number.number c.args.groups (length c.args.column.now) c.args.block (length c.args.buffer.now) c.requires.some c.requires.block (omega arith) c.requires.fits)

pub overflow_add-start : goal.overflow_add-start
overflow_add-start c =
    omega (arith, group-place c.loop-number.number c.args.groups (length c.args.column.now) c.args.block (length c.args.buffer.now) c.requires.some c.requires.block (omega arith) c.requires.fits)

pub read_column-requires : goal.read_column-requires
read_column-requires c = record {
  within = λ i low. omega (arith, column-place c.loop-number.number c.args.groups (length c.args.column.now) c.args.block (length c.args.buffer.now) i c.requires.block (omega arith) c.requires.fits (omega arith));
}

pub write_column-requires-clause-within : goal.write_column-requires-clause-within
write_column-requires-clause-within c = λ i low.
    omega (arith, column-place c.loop-number.number c.args.groups (length c.args.column.now) c.args.block (length c.args.buffer.now) i c.requires.block (omega arith) c.requires.fits (omega arith))

pub loop-number-init : goal.loop-number-init
loop-number-init c = record {
  residues = c.requires.buffer;
  combined = record {
    done = λ q i j low. absurd (omega arith);
    rest = λ q i j from i_low j_low. refl;
  };
}

pub loop-number-preserved : goal.loop-number-preserved
loop-number-preserved c =
    let m = value_of c.args.m in
    let count : length c.read_column.new.column ≡ length c.args.column.now = omega arith in
    let combined_count : length c.combine.new.combined ≡ length c.read_column.new.column = omega arith in
    record {
      residues = c.write_column.ensures.low m c.combine.ensures.residues c.loop-number.invariant.residues;
      combined = combined-next m (length c.args.column.now) (length c.read_column.new.column) c.args.block c.loop-number.number c.args.basis.now c.args.buffer.now c.loop-number.buffer c.write_column.new.buffer
          c.read_column.new.column c.combine.new.combined c.requires.block count
          (λ h low. c.read_column.ensures h (omega arith))
          (λ j low. c.combine.ensures.combined j low)
          (λ j low. c.write_column.ensures.column j (omega arith))
          (λ k apart. c.write_column.ensures.others k (λ j low. apart j (omega arith)))
          c.loop-number.invariant.combined;
    }

pub returns-clause-combined : goal.returns-clause-combined
returns-clause-combined c = λ q i j q_low i_low j_low.
    c.loop-number.invariant.combined.done q i j (omega (arith, mul-add-lt q c.args.block i c.args.groups q_low i_low)) i_low j_low
