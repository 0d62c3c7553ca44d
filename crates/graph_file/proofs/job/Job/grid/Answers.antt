use Rattle.std.proofs.Common.{◌∙◌, List, sym, ap}
use Rattle.std.specs.List.{slice_get}
use Rattle.graph_file.specs.Bounded.{main_variables}
use Rattle.graph_file.specs.declared.job.Special.{Special}
use Rattle.graph_file.proofs.BoundLemmas.{low-of}
use Rattle.graph_file.proofs.job.Job.grid.Goals as goal

pub widest-widest-requires-clause-every : goal.widest-widest-requires-clause-every
widest-widest-requires-clause-every c = λ bounds is. low-of (main_variables c.args.self.now.graphs) bounds (c.args.self.now.bounded.given.every bounds is)

pub widest-widest-requires-clause-own : goal.widest-widest-requires-clause-own
widest-widest-requires-clause-own c = λ k own at. low-of (main_variables c.args.self.now.graphs) own.bounds (c.args.self.now.bounded.given.own k own (ap (λ (l : List Special). slice_get l k) (sym c.as_slice.ensures) ∙ at))
