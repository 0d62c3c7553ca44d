-- What a memo answers.
use Rattle.std.proofs.Common.{◌≡◌, ℕ, ◌+◌, List, ◌++◌, length, Option, Some, sym, ◌∙◌, subst}
use Rattle.std.specs.Prelude.{slice_get}
use Rattle.prime_field.specs.declared.Modulus.{Modulus}
use Rattle.prime_field.specs.Modulus.{value_of}
use Rattle.word_region.proofs.Frames.{length-words_at}
use Rattle.graph_file.specs.declared.graph.Graph.{Graph}
use Rattle.graph_eval.specs.declared.learned.GraphLearned.{GraphLearned}
use Rattle.graph_eval.specs.declared.memos.MemoFrame.{MemoFrame}
use Rattle.graph_eval.specs.GraphValue.{GraphValue, Value}
use Rattle.graph_eval.specs.Learned.{sets_of}
use Rattle.graph_eval.specs.Memos.{AreKept, FitsFrame, kept_input, kept_output}
use Rattle.graph_eval.specs.Stacked.{IsCalled}

-- one memo stands in a slot
pub one_frame : (frames : List MemoFrame) (slot : ℕ) (one other : MemoFrame) → slice_get frames slot ≡ Some one → slice_get frames slot ≡ Some other → one ≡ other
one_frame frames slot one other is other_is = let both : Some one ≡ Some other = sym is ∙ other_is in cc

-- what it keeps for the inputs that are asked is what the graph gives on them
pub hit_called : (m : Modulus) (graphs : List Graph) (learned : List GraphLearned) (frames : List MemoFrame) (moduli : List (Option Modulus)) (kept : List ℕ) (slot : ℕ) (frame : MemoFrame) (old chain new : List ℕ) → AreKept graphs (sets_of learned) frames moduli kept → slice_get frames slot ≡ Some frame → FitsFrame graphs learned frame
    → slice_get moduli slot ≡ Some (Some m) → kept_input kept frame ≡ chain → new ≡ old ++ kept_output kept frame → IsCalled (value_of m) graphs learned frame.graph chain old new
hit_called m graphs learned frames moduli kept slot frame old chain new are is fits by same words =
    let holds = are.each slot frame m is by in
    let there = are.stand.within slot frame is in
    let long : length (kept_output kept frame) ≡ frame.outputs = length-words_at (record { size = 0; used = kept }) (record { at = frame.at + frame.inputs; len = frame.outputs }) there in
    record {
      values = kept_output kept frame;
      words = words;
      value = λ prime. subst (λ (xs : List ℕ). GraphValue (value_of m) graphs (sets_of learned) frame.graph xs (Value (kept_output kept frame))) same (holds.value prime);
      low = holds.low;
      long = λ entry entry_is. long ∙ fits.outputs entry entry_is;
    }
