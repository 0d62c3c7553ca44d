use Rattle.std.proofs.Common.{◌≡◌, ℕ, List, [], get_or, length, drop, take, ◌∙◌, subst, arith}
use Rattle.std.proofs.lemmas.List.{get_or_default}
use Rattle.prime_field.specs.Modulus.{value_of}
use Rattle.multivar_recon.specs.Vectors.{IsSampled, IsSampleRow}
use Rattle.multivar_recon.proofs.Sampled.{sampled_more, none_agrees}
use Rattle.multivar_recon.proofs.vectors.absorb_samples.Goals as goal

pub returns-then-is_settled-clause-none : goal.returns-then-is_settled-clause-none
returns-then-is_settled-clause-none c prime =
    let m = value_of c.args.m in
    let es = take c.args.count c.args.plan.now in
    let fs = drop c.args.count c.args.plan.now in
    let points = c.args.points.now in
    let values = c.args.values.now in
    let i = c.loop-i.i in
    let there : c.index-points-i.result ≡ get_or points i [] = c.index-points-i.is ∙ get_or_default points i c.index-points-i.result [] (omega arith) in
    let row = subst (λ (x : List ℕ). IsSampleRow m es fs x (get_or values i 0) c.write_row.new.row) there c.write_row.ensures in
    none_agrees m es fs points values i c.loop-i.elim c.absorb-rank.new.self c.loop-i.words c.absorb-rank.new.words c.write_row.new.row c.absorb-rank.result
    c.loop-i.invariant row (c.requires.residues i 0 (omega arith)) c.absorb-rank.ensures.absorbed
    c.absorb-rank.ensures.belongs c.absorb-rank.ensures.kind.0 c.absorb-rank.ensures.kind.1 (omega arith) c.if-is_settled.ensures.settled prime

pub loop-i-preserved : goal.loop-i-preserved
loop-i-preserved c =
    let m = value_of c.args.m in
    let es = take c.args.count c.args.plan.now in
    let fs = drop c.args.count c.args.plan.now in
    let points = c.args.points.now in
    let values = c.args.values.now in
    let i = c.loop-i.i in
    let there : c.index-points-i.result ≡ get_or points i [] = c.index-points-i.is ∙ get_or_default points i c.index-points-i.result [] (omega arith) in
    let row = subst (λ (x : List ℕ). IsSampleRow m es fs x (get_or values i 0) c.write_row.new.row) there c.write_row.ensures in
    sampled_more m es fs points values i c.loop-i.elim c.absorb-rank.new.self c.loop-i.words c.absorb-rank.new.words c.write_row.new.row c.absorb-rank.result
    c.loop-i.invariant row (c.requires.residues i 0 (omega arith)) c.absorb-rank.ensures.absorbed
    c.if-is_settled.ensures.open c.absorb-rank.ensures.belongs c.absorb-rank.ensures.kind.0 c.absorb-rank.ensures.kind.1

pub returns-clause-sampled : goal.returns-clause-sampled
returns-clause-sampled c =
    let all : c.loop-i.i ≡ length c.args.points.now = omega arith in
    subst (λ (n : ℕ). IsSampled (value_of c.args.m) (take c.args.count c.args.plan.now) (drop c.args.count c.args.plan.now) c.args.points.now c.args.values.now n c.loop-i.elim c.loop-i.words)
    all c.loop-i.invariant
