use Rattle.std.proofs.Common.{◌∙◌, sym, ap, subst}
use Rattle.ray_grid.specs.Grid.{bound_of}
use Rattle.ray_grid.specs.Covering.{Covers}
use Rattle.graph_file.specs.Bounded.{AreBounds, main_variables}
use Rattle.graph_file.specs.Bounding.{bounds_among, bounds_given, grid_with, widest}
use Rattle.graph_file.proofs.BoundLemmas.{at-are, at-covered}
use Rattle.graph_file.proofs.job.Job.bounds_of.Goals as goal

pub returns-clause-bounds : goal.returns-clause-bounds
returns-clause-bounds c =
    subst (AreBounds (main_variables c.args.self.now.graphs)) (sym (c.bounds_among.ensures ∙ ap (λ l. bounds_among l c.in-Some.every c.args.output) c.as_slice.ensures))
    (at-are (main_variables c.args.self.now.graphs) c.args.self.now.all c.args.self.now.special c.in-Some.every c.args.output c.args.self.now.bounded.given c.in-Some.is)

pub returns-clause-covered : goal.returns-clause-covered
returns-clause-covered c =
    subst (Covers (bound_of (grid_with (main_variables c.args.self.now.graphs) (widest (bounds_given c.args.self.now.all c.args.self.now.special))))) (sym (c.bounds_among.ensures ∙ ap (λ l. bounds_among l c.in-Some.every c.args.output) c.as_slice.ensures))
    (at-covered (main_variables c.args.self.now.graphs) c.args.self.now.all c.args.self.now.special c.in-Some.every c.args.output c.args.self.now.bounded.given c.in-Some.is)
