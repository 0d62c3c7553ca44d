-- Answers that are all there, and one that isn't.
use Rattle.std.proofs.Common.{◌≡◌, ◌<◌, ℕ, zero, suc, List, [], ◌∷◌, length, map, Option, None, Some, refl, sym, ap, arith}
use Rattle.std.specs.List.{Contains}
use Rattle.std.specs.Option.{option_map}
use Rattle.std.specs.Prelude.{slice_index_or}
use Rattle.std.proofs.lemmas.Option.{none-some}
use Rattle.graph_file.specs.Line.{all_of}

-- where each answer is there, all are
pub all_there : {A : Type 0} (answers : List A) → all_of (map Some answers) ≡ Some answers
all_there [] = refl
all_there (answer ∷ answers) = ap (option_map (λ later. answer ∷ later)) (all_there answers)

-- with an answer that isn't there, nothing is
none_at : {A : Type 0} (answers : List (Option A)) (k : ℕ) → k < length answers → slice_index_or answers k None ≡ None → all_of answers ≡ None
none_at [] k below is = absurd (omega arith)
none_at (None ∷ answers) k below is = refl
none_at (Some answer ∷ answers) zero below is = absurd (none-some answer (sym is))
none_at (Some answer ∷ answers) (suc k) below is = ap (option_map (λ later. answer ∷ later)) (none_at answers k (omega arith) is)

pub one_missing : {A : Type 0} (answers : List (Option A)) → Contains answers None → all_of answers ≡ None
one_missing answers (k, below, is) = none_at answers k below is
