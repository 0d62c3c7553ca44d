-- Each factor adds its two entries.
use Rattle.std.proofs.Common.{ℕ, ◌+◌, ◌-◌, List, [], ◌∷◌, ◌++◌, arith}
use Rattle.std.specs.List.{flat_map, range_with_len}
use Rattle.flow_program.specs.Demo.{entries, separated}
use Rattle.flow_program.proofs.DemoLaws.{all_done, step_on}
use Rattle.flow_program.proofs.demo.push_entries.Goals as goal

pub loop-factor-preserved : goal.loop-factor-preserved
loop-factor-preserved c =
    let text : ℕ → List ℕ = λ factor. separated (entries c.args.k factor) in
    step_on text c.loop-factor.factor 65 c.loop-factor.text.items c.push_pair.new.text.items (c.args.text.now.items ++ flat_map text (range_with_len 1 64))
    (omega (arith, c.loop-factor-test.true)) c.in_ok-push_pair.ensures c.loop-factor.invariant

pub returns : goal.returns
returns c =
    let text : ℕ → List ℕ = λ factor. separated (entries c.args.k factor) in
    all_done text c.loop-factor.factor 65 c.loop-factor.text.items (c.args.text.now.items ++ flat_map text (range_with_len 1 64)) (omega (arith, c.loop-factor-test.false)) c.loop-factor.invariant
