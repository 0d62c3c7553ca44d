-- The graph is sound by its job.
use Rattle.std.proofs.Common.{◌≡◌, ◌∙◌, ◌<◌, ◌≤◌, Some, arith, length, sym, ap}
use Rattle.std.specs.List.{slice_get}
use Rattle.graph_file.specs.Sound.{IsGraph}
use Rattle.graph_file.specs.declared.graph.Graph.{Graph}
use Rattle.graph_eval.proofs.Places.{read_at}
use Rattle.learn_phase.proofs.solvers.variables_of.Goals as goal

-- the graph that is read is the job's, and is sound
sound_at : (c : goal.After-len) → (length c.index-as_slice-graph.result.inputs ≤ 8) × ((1 ≤ length c.index-as_slice-graph.result.inputs) × (slice_get c.args.job.now.graphs c.args.graph ≡ Some c.index-as_slice-graph.result))
sound_at c =
    let within : c.args.graph < length c.as_slice.result.now = omega (arith, ap length c.as_slice.ensures, c.requires) in
    let at : slice_get c.args.job.now.graphs c.args.graph ≡ Some c.index-as_slice-graph.result = read_at c.as_slice.result.now c.args.job.now.graphs c.args.graph c.index-as_slice-graph.result c.as_slice.ensures within c.index-as_slice-graph.is in
    let sound : IsGraph c.index-as_slice-graph.result = c.args.job.now.sound.graph c.args.graph c.index-as_slice-graph.result at in
    (sound.few, (sound.some, at))

count_is : (c : goal.After-len) → c.len.result ≡ length c.index-as_slice-graph.result.inputs
count_is c = c.len.ensures ∙ ap (λ (g : Graph). length g.inputs) (sym c.index-as_slice-graph.is)

pub returns-clause-few : goal.returns-clause-few
returns-clause-few c = let few : length c.index-as_slice-graph.result.inputs ≤ 8 = (sound_at c).0 in omega (arith, few, count_is c)

pub returns-clause-some : goal.returns-clause-some
returns-clause-some c = let some : 1 ≤ length c.index-as_slice-graph.result.inputs = (sound_at c).1.0 in omega (arith, some, count_is c)

pub overflow_cast-result : goal.overflow_cast-result
overflow_cast-result c = let few : length c.index-as_slice-graph.result.inputs ≤ 8 = (sound_at c).0 in omega (arith, few, count_is c)

pub returns-clause-counted : goal.returns-clause-counted
returns-clause-counted c = λ this is.
    let told : Some c.index-as_slice-graph.result ≡ Some this = sym (sound_at c).1.1 ∙ is in
    let same : c.index-as_slice-graph.result ≡ this = cc in
    count_is c ∙ ap (λ (g : Graph). length g.inputs) same
