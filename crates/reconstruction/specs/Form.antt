-- What a file asks of its main graph's outputs as functions.
use Rattle.std.specs.Prelude.{ℕ, ◌+◌, ◌*◌, ◌≤◌, List, [], Option, Some, None, slice_get}
use Rattle.prime_field.specs.Modulus.{value_of}
use Rattle.graph_file.specs.declared.graph.Graph.{Graph}
use Rattle.graph_file.specs.declared.job.Need.TheVariants.{Functions as ForFunctions}
use Rattle.graph_file.specs.File.{IsGoodFile}
use Rattle.graph_file.specs.Says.{FileForm, Says, bounds_at, grid_of}
use Rattle.graph_eval.specs.declared.learned.GraphLearned.{GraphLearned}
use Rattle.graph_eval.specs.GraphValue.{GraphValue, main_number}
use Rattle.graph_eval.specs.Learned.{outputs_of, sets_of}
use Rattle.ray_grid.specs.Attempt.{attempt_points}
use Rattle.ray_grid.specs.Grid.{point_count}
use Rattle.reconstruction.specs.Functions.{Functions}

-- the names of a graph's variables, where there is one
abbrev pub variables_of : Option Graph → List (List ℕ)
variables_of None = []
variables_of (Some graph) = graph.inputs

-- what the file says of its outputs as functions, where this was learned of its graphs; outputs are counted from 1 in the file
abbrev pub functions_of : FileForm → List GraphLearned → Functions
functions_of form learned = record {
  names = variables_of (slice_get form.graphs (main_number form.graphs));
  outputs = outputs_of learned;
  bounds = λ k. bounds_at form (k + 1);
  coeff = form.coeff;
  grid = grid_of form;
  attempts = attempt_points (grid_of form);
  meaning = λ m. GraphValue (value_of m) form.graphs (sets_of learned) (main_number form.graphs);
}

-- a file that is read for functions says this, nothing is wrong with it, and there are at most 1048576 residues at the points
-- of an attempt
pub record IsAsked (bytes : List ℕ) (form : FileForm) (learned : List GraphLearned) : Type 0 where
  pub good : IsGoodFile ForFunctions bytes
  pub says : Says ForFunctions bytes form
  pub room : point_count (grid_of form) * outputs_of learned ≤ 1048576
