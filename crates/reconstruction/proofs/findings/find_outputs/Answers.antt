-- Each output is found over its columns.
use Rattle.std.proofs.Common.{◌≡◌, ℕ, arith, subst}
use Rattle.graph_file.specs.Says.{form}
use Rattle.reconstruction.specs.Found.{AreFound}
use Rattle.reconstruction.proofs.Assembled.{found_more}
use Rattle.reconstruction.proofs.findings.find_outputs.Goals as goal

pub find_output-requires-clause-first : goal.find_output-requires-clause-first
find_output-requires-clause-first c = c.requires.first c.loop-k.k (omega (arith, c.loop-k-test.true))

pub find_output-requires-clause-second : goal.find_output-requires-clause-second
find_output-requires-clause-second c = c.requires.second c.loop-k.k (omega (arith, c.loop-k-test.true))

pub loop-k-preserved : goal.loop-k-preserved
loop-k-preserved c = λ names count.
    found_more (form c.args.job.now) c.args.first.now c.args.second.now names c.loop-k.tolds.items c.push.new.self.items c.in_ok-told.told c.loop-k.k
    (c.loop-k.invariant names count) c.in_ok-push.ensures.items c.in_ok-told.ensures.result c.in_ok-told.ensures.methods (c.in_ok-told.ensures.shown names count)

pub returns : goal.returns
returns c = λ names count.
    let all : c.loop-k.k ≡ c.args.outputs = omega (arith, c.loop-k.auto.k-end, c.loop-k-test.false) in
    subst (λ (n : ℕ). AreFound (form c.args.job.now) c.args.first.now c.args.second.now names c.loop-k.tolds.items n) all (c.loop-k.invariant names count)
