-- What graphs have at points, and rows.
use Rattle.std.proofs.Common.{◌≡◌, ℕ, List, [], ◌∷◌, length, Option, Some, None, refl, ◌∙◌, ap}
use Rattle.graph_file.specs.declared.graph.Graph.{Graph}
use Rattle.graph_eval.specs.declared.outcome.Outcome as code
use Rattle.graph_eval.specs.declared.outcome.Outcome.TheVariants as answer
use Rattle.graph_eval.specs.Evaluated.{FitsOutcome, outcome_of}
use Rattle.graph_eval.specs.GraphValue.{Meaning, Outcome}
use Rattle.parallel_sampler.specs.Rows.{AreOutcomes, FitsRow}

-- a meaning that has one outcome at most has one table at most
pub outcomes_once : (meaning : Meaning) → ((point : List ℕ) (o p : Outcome) → meaning point o → meaning point p → o ≡ p) → (points : List (List ℕ)) (os ps : List Outcome) → AreOutcomes meaning points os → AreOutcomes meaning points ps → os ≡ ps
outcomes_once meaning once [] [] [] first second = refl
outcomes_once meaning once [] [] (p ∷ ps) first second = absurd second
outcomes_once meaning once [] (o ∷ os) ps first second = absurd first
outcomes_once meaning once (point ∷ points) [] ps first second = absurd first
outcomes_once meaning once (point ∷ points) (o ∷ os) [] first second = absurd second
outcomes_once meaning once (point ∷ points) (o ∷ os) (p ∷ ps) first second =
    ap (λ x. x ∷ os) (once point o p first.0 second.0) ∙ ap (λ xs. p ∷ xs) (outcomes_once meaning once points os ps first.1 second.1)

-- what fits the answer of one point fits its row
pub fits_row : (m : ℕ) (graph : Option Graph) (outputs : ℕ) (values : List ℕ) (outcome : code.Outcome) → length values ≡ outputs → FitsOutcome m graph values outcome → FitsRow m graph outputs (outcome_of values outcome)
fits_row m None outputs values outcome many fits = absurd fits
fits_row m (Some graph) outputs values answer.Defined many fits = (many, fits)
fits_row m (Some graph) outputs values (answer.Singular singular) many fits = fits
