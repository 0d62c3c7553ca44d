-- The points of a job.
use Rattle.std.proofs.Common.{◌≡◌, All, List, ℕ, get_or, slice_get, sym, ap, ◌∙◌}
use Rattle.std.proofs.lemmas.Option.{slice_get-get_or}
use Rattle.graph_file.specs.Sound.{IsJob}
use Rattle.graph_file.specs.declared.graph.Graph.{Graph}
use Rattle.graph_eval.specs.Evaluated.{HasInputs}
use Rattle.graph_eval.specs.GraphValue.{main_number}
use Rattle.graph_eval.proofs.Fitting.{point_inputs}

-- each has an entry for each variable of the main graph
pub all_inputs : (graphs : List Graph) (points all : List (List ℕ)) → IsJob graphs points → all ≡ points → All (HasInputs (slice_get graphs (main_number graphs))) all
all_inputs graphs points all sound same k d low = point_inputs graphs points k (get_or all k d) sound (ap (λ ps. slice_get ps k) (sym same) ∙ slice_get-get_or all k d low)
