use Rattle.std.proofs.Common.{◌≡◌, ℕ, ◌+◌, ◌*◌, ◌<◌, ◌++◌, List, length, take, drop, sym, ◌∙◌, ap, subst, arith}
use Rattle.prime_field.specs.Modulus.{value_of}
use Rattle.multivar_recon.specs.Tables.{AreRayTables}
use Rattle.multivar_recon.proofs.Sampled.{take-front}
use Rattle.multivar_recon.proofs.Tables.{AreBegun, start_on_slice, ray_step}
use Rattle.multivar_recon.proofs.ray_tables.scaled_pairs.Goals as goal

pub returns-in_default-clause-none : goal.returns-in_default-clause-none
returns-in_default-clause-none c = λ prime starts.
    c.in_default.ensures.none prime
    (start_on_slice (value_of c.args.m) c.args.count (length c.deref.result.now) c.args.values.now c.loop-d.d c.args.a c.args.b (ap length c.deref.ensures.value ∙ c.in_ok-points.ensures.many)
    (starts c.loop-d.d c.loop-d-test.true))

pub loop-d-preserved : goal.loop-d-preserved
loop-d-preserved c =
    let m = value_of c.args.m in
    let work = c.scaled_pair.new.work in
    let nums = c.write_column.new.table in
    let dens = c.write_column-in-loop-d.new.table in
    let work_long : c.loop-d.work.len ≡ length work = omega (arith, ap length c.deref_mut.ensures.value, c.scaled_pair.auto.work, c.loop-d.work.ok.0) in
    let nums_long : c.loop-d.nums.len ≡ length nums = omega (arith, ap length c.deref_mut-in-loop-d.ensures.value, c.write_column.auto.table, c.loop-d.nums.ok.0) in
    let dens_long : c.loop-d.dens.len ≡ length dens = omega (arith, ap length c.deref_mut-in-loop-d-2.ensures.value, c.write_column-in-loop-d.auto.table, c.loop-d.dens.ok.0) in
    let work_is : take c.loop-d.work.len (work ++ drop (length work) c.loop-d.work.items) ≡ work = take-front work (drop (length work) c.loop-d.work.items) c.loop-d.work.len work_long in
    let nums_are : take c.loop-d.nums.len (nums ++ drop (length nums) c.loop-d.nums.items) ≡ nums = take-front nums (drop (length nums) c.loop-d.nums.items) c.loop-d.nums.len nums_long in
    let dens_are : take c.loop-d.dens.len (dens ++ drop (length dens) c.loop-d.dens.items) ≡ dens = take-front dens (drop (length dens) c.loop-d.dens.items) c.loop-d.dens.len dens_long in
    let made : AreBegun m c.args.a c.args.b (c.loop-d.d + 1) c.args.width c.args.count c.args.values.now nums dens c.push.new.self.items =
    ray_step m c.args.a c.args.b c.loop-d.d c.args.width c.args.count (length c.deref.result.now) c.args.values.now c.loop-d.nums.items c.loop-d.dens.items c.loop-d.degrees.items work
    c.deref-in-loop-d.result.now c.deref-in-loop-d-2.result.now c.deref_mut-in-loop-d.result.now c.deref_mut-in-loop-d-2.result.now nums dens c.push.new.self.items c.in-Some.num c.in-Some.den
    c.loop-d-test.true (ap length c.deref.ensures.value ∙ c.in_ok-points.ensures.many) c.loop-d.invariant.begun c.in-Some.ensures.scaled c.in-Some.ensures.room
    (c.deref-in-loop-d.ensures.value ∙ work_is) (c.deref-in-loop-d-2.ensures.value ∙ work_is) c.deref_mut-in-loop-d.ensures.value c.deref_mut-in-loop-d-2.ensures.value
    c.write_column.ensures.written c.write_column-in-loop-d.ensures.written c.write_column.auto.table c.write_column-in-loop-d.auto.table
    (c.write_column.ensures.residues m) (c.write_column-in-loop-d.ensures.residues m) c.in_ok-push.ensures.items in
    record {
      begun =
          subst (λ (p : List ℕ). AreBegun m c.args.a c.args.b (c.loop-d.d + 1) c.args.width c.args.count c.args.values.now p (take c.loop-d.dens.len (dens ++ drop (length dens) c.loop-d.dens.items)) c.push.new.self.items)
          (sym nums_are)
          (subst (λ (p : List ℕ). AreBegun m c.args.a c.args.b (c.loop-d.d + 1) c.args.width c.args.count c.args.values.now nums p c.push.new.self.items) (sym dens_are) made);
      work = ap length work_is ∙ omega (arith, work_long, c.loop-d.work.ok.0, c.loop-d.invariant.work);
    }

pub returns-clause-tables : goal.returns-clause-tables
returns-clause-tables c =
    let all : c.loop-d.d ≡ c.args.width = omega arith in
    subst (λ (k : ℕ). AreRayTables (value_of c.args.m) c.args.a c.args.b k c.args.width c.args.count c.args.values.now c.loop-d.nums.items c.loop-d.dens.items c.loop-d.degrees.items) all
    c.loop-d.invariant.begun.tables
