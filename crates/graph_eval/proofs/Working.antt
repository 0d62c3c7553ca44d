-- What a worker has before a point and behind it.
use Rattle.std.proofs.Common.{◌≡◌, ℕ, ◌<◌, ◌≤◌, List, [], ◌++◌, All, length, Option, Some, None, ◌∙◌, ap, subst, arith}
use Rattle.std.specs.Prelude.{slice_get}
use Rattle.std.proofs.lemmas.List.Elements.{All-from_get_or, All-same}
use Rattle.word_region.specs.Board.{Board}
use Rattle.prime_field.specs.declared.Modulus.{Modulus}
use Rattle.prime_field.specs.declared.Modulus.TheVariants.{First, Second}
use Rattle.prime_field.specs.Modulus.{value_of}
use Rattle.poly_maps.specs.Point.{IsPoint}
use Rattle.graph_file.specs.declared.graph.Graph.{Graph}
use Rattle.graph_eval.specs.declared.learned.GraphLearned.{GraphLearned}
use Rattle.graph_eval.specs.declared.outcome.Outcome.TheVariants as answer
use Rattle.graph_eval.specs.declared.outcome.Singular.{Singular}
use Rattle.graph_eval.specs.Evaluated.{FitsOutcome, HasInputs, IsNeededAt}
use Rattle.graph_eval.specs.declared.memos.MemoFrame.{MemoFrame}
use Rattle.graph_eval.specs.Memos.{AreKept}
use Rattle.graph_eval.specs.Needs.{words_for}
use Rattle.graph_eval.specs.Stacked.{IsReady}

-- a point's entries are residues of each modulus
value_least : (m : Modulus) → 2305843009213693951 ≤ value_of m
value_least First = omega arith
value_least Second = omega arith

pub point_low : (m : Modulus) (point : List ℕ) → IsPoint point → All (λ x. x < value_of m) point
point_low m point is = All-from_get_or (λ x. x < value_of m) point 0 (λ i below. omega (arith, is.below i below, value_least m))

-- with the point's entries on an empty stack, the main graph is ready
pub point_ready : (m : Modulus) (graphs : List Graph) (learned : List GraphLearned) (number : ℕ) (old new : Board) (entries point : List ℕ) → old.size ≡ words_for graphs learned number → old.words ≡ [] → new ≡ record old { words = old.words ++ entries } → entries ≡ point → IsPoint point → HasInputs (slice_get graphs number) point
    → IsReady (value_of m) graphs learned number 0 new
point_ready m graphs learned number old new entries point size empty pushed entries_are is inputs =
    let words : new.words ≡ point = ap (λ (b : Board). b.words) pushed ∙ ap (λ ws. ws ++ entries) empty ∙ entries_are in
    let same = ap (λ (b : Board). b.size) pushed in
    record {
      inputs = λ graph here. let long : length new.words ≡ length graph.inputs = ap length words ∙ subst (λ o. HasInputs o point) here inputs in omega arith;
      room = omega arith;
      low = All-same (λ x. x < value_of m) _ _ words (point_low m point is);
    }

-- what memos keep doesn't rest on how it is told
pub kept_same : (graphs : List Graph) (sets : List (List (List ℕ))) (frames : List MemoFrame) (moduli others : List (Option Modulus)) (kept more : List ℕ) → moduli ≡ others → kept ≡ more → AreKept graphs sets frames moduli kept → AreKept graphs sets frames others more
kept_same graphs sets frames moduli others kept more same words_same are = subst (λ (ms : List (Option Modulus)). AreKept graphs sets frames ms more) same (subst (AreKept graphs sets frames moduli) words_same are)

-- what is told fits the main graph
pub fits_defined : (m : ℕ) (main : Option Graph) (point values : List ℕ) → HasInputs main point → All (λ x. x < m) values → FitsOutcome m main values answer.Defined
fits_defined m None point values inputs low = inputs
fits_defined m (Some graph) point values inputs low = low

pub fits_singular : (m : ℕ) (main : Option Graph) (values : List ℕ) (singular : Singular) → IsNeededAt main singular.node → FitsOutcome m main values (answer.Singular singular)
fits_singular m None values singular needed = needed
fits_singular m (Some graph) values singular needed = needed
