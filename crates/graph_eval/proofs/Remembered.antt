-- What a memo keeps once it is written, and what the others keep.
use Rattle.std.proofs.Common.{◌≡◌, ℕ, zero, suc, ◌+◌, ◌<◌, ◌≤◌, ◌⊎◌, inl, inr, List, [], ◌∷◌, All, length, replicate, set, Option, Some, None, refl, sym, ◌∙◌, ap, subst, length-set, arith}
use Rattle.std.specs.Prelude.{slice_get, slice_range}
use Rattle.std.proofs.lemmas.Bool.{cases_eq, cases_lt}
use Rattle.std.proofs.lemmas.List.{length-replicate}
use Rattle.std.proofs.lemmas.List.Elements.{All-same}
use Rattle.prime_field.specs.declared.Modulus.{Modulus}
use Rattle.prime_field.specs.Modulus.{value_of}
use Rattle.prime_field.specs.Residue.{IsPrime}
use Rattle.word_region.specs.Words.{written_at}
use Rattle.word_region.proofs.Frames.{words_at-with_frame, words_at-with_frame-apart}
use Rattle.word_region.proofs.Written.{length-written_at}
use Rattle.graph_file.specs.declared.graph.Graph.{Graph}
use Rattle.graph_eval.specs.declared.memos.MemoFrame.{MemoFrame}
use Rattle.graph_eval.specs.GraphValue.{GraphValue, Value}
use Rattle.graph_eval.specs.Memos.{AreKept, FramesStand, Holds, frame_end, kept_input, kept_output}

-- what was written to a place stands there, and what is apart from it is as it was
written_there : (kept ws : List ℕ) (at len : ℕ) → at + len ≤ length kept → length ws ≡ len → slice_range (written_at at ws kept) at (at + len) ≡ ws
written_there kept ws at len live long = words_at-with_frame (record { size = 0; used = kept }) (record { at = at; len = len }) ws live long

written_apart : (kept ws : List ℕ) (at len place own : ℕ) → at + len ≤ length kept → place + own ≤ length kept → (at + len ≤ place) ⊎ (place + own ≤ at) → length ws ≡ len → slice_range (written_at at ws kept) place (place + own) ≡ slice_range kept place (place + own)
written_apart kept ws at len place own live there apart long = words_at-with_frame-apart (record { size = 0; used = kept }) (record { at = at; len = len }) (record { at = place; len = own }) ws live there apart long

module _ {X : Type 0} where
  set_same : (xs : List X) (i : ℕ) (w : X) → i < length xs → slice_get (set xs i w) i ≡ Some w
  set_same [] i w below = absurd (omega arith)
  set_same (x ∷ xs) zero w below = refl
  set_same (x ∷ xs) (suc i) w below = set_same xs i w (omega arith)

  set_other : (xs : List X) (i j : ℕ) (w : X) → (j ≡ i → ⊥) → slice_get (set xs i w) j ≡ slice_get xs j
  set_other [] i j w other = refl
  set_other (x ∷ xs) zero zero w other = absurd (other refl)
  set_other (x ∷ xs) zero (suc j) w other = refl
  set_other (x ∷ xs) (suc i) zero w other = refl
  set_other (x ∷ xs) (suc i) (suc j) w other = set_other xs i j w (λ same. other (ap suc same))

-- a memo's inputs and output, once both are written
module _ (kept ins outs : List ℕ) (frame : MemoFrame) (there : frame_end frame ≤ length kept) (many : length ins ≡ frame.inputs) (long : length outs ≡ frame.outputs) where
  first : List ℕ
  first = written_at frame.at ins kept

  pub both : List ℕ
  both = written_at (frame.at + frame.inputs) outs (written_at frame.at ins kept)

  pub both_is : both ≡ written_at (frame.at + frame.inputs) outs (written_at frame.at ins kept)
  unfolding both
  both_is = refl

  same_length : length (written_at frame.at ins kept) ≡ length kept
  same_length = length-written_at frame.at ins kept

  pub length-both : length both ≡ length kept
  unfolding both
  length-both = length-written_at (frame.at + frame.inputs) outs (written_at frame.at ins kept) ∙ same_length

  pub input_written : kept_input both frame ≡ ins
  unfolding both
  input_written =
      let same = same_length in
      written_apart (written_at frame.at ins kept) outs (frame.at + frame.inputs) frame.outputs frame.at frame.inputs (omega arith) (omega arith) (inr (omega arith)) long
      ∙ written_there kept ins frame.at frame.inputs (omega arith) many

  pub output_written : kept_output both frame ≡ outs
  unfolding both
  output_written = let same = same_length in written_there (written_at frame.at ins kept) outs (frame.at + frame.inputs) frame.outputs (omega arith) long

  -- what another memo keeps is as it was
  module _ (other : MemoFrame) (within : frame_end other ≤ length kept) (apart : (frame_end frame ≤ other.at) ⊎ (frame_end other ≤ frame.at)) where
    run_kept : (place own : ℕ) → place + own ≤ length kept → (frame_end frame ≤ place) ⊎ (place + own ≤ frame.at) → slice_range both place (place + own) ≡ slice_range kept place (place + own)
    unfolding both
    run_kept place own here (inl behind) =
        let same = same_length in
        written_apart (written_at frame.at ins kept) outs (frame.at + frame.inputs) frame.outputs place own (omega arith) (omega arith) (inl (omega arith)) long
        ∙ written_apart kept ins frame.at frame.inputs place own (omega arith) here (inl (omega arith)) many
    run_kept place own here (inr before) =
        let same = same_length in
        written_apart (written_at frame.at ins kept) outs (frame.at + frame.inputs) frame.outputs place own (omega arith) (omega arith) (inr (omega arith)) long
        ∙ written_apart kept ins frame.at frame.inputs place own (omega arith) here (inr before) many

    pub input_kept : kept_input both other ≡ kept_input kept other
    input_kept = run_kept other.at other.inputs (omega arith) (when apart)
      where
        when : (frame_end frame ≤ other.at) ⊎ (frame_end other ≤ frame.at) → (frame_end frame ≤ other.at) ⊎ (other.at + other.inputs ≤ frame.at)
        when (inl behind) = inl behind
        when (inr before) = inr (omega arith)

    pub output_kept : kept_output both other ≡ kept_output kept other
    output_kept = run_kept (other.at + other.inputs) other.outputs (omega arith) (when apart)
      where
        when : (frame_end frame ≤ other.at) ⊎ (frame_end other ≤ frame.at) → (frame_end frame ≤ other.at + other.inputs) ⊎ (other.at + other.inputs + other.outputs ≤ frame.at)
        when (inl behind) = inl (omega arith)
        when (inr before) = inr (omega arith)

-- two memos are apart
frames_apart : (frames : List MemoFrame) (count i j : ℕ) (one other : MemoFrame) → FramesStand frames count → slice_get frames i ≡ Some one → slice_get frames j ≡ Some other → (j ≡ i → ⊥) → (frame_end one ≤ other.at) ⊎ (frame_end other ≤ one.at)
frames_apart frames count i j one other stand is other_is apart =
    elim (cases_lt i j) [
      | inl before ↦ inl (stand.apart i j one other before is other_is)
      | inr not_before ↦
          let different : j ≡ i → ⊥ = apart in
          let behind : j < i = omega (arith, different) in
          inr (stand.apart j i other one behind other_is is)
    ]

-- once a memo is written, it keeps what was written, and the others keep what they kept
pub remembered : (graphs : List Graph) (sets : List (List (List ℕ))) (frames : List MemoFrame) (moduli : List (Option Modulus)) (kept ins outs : List ℕ) (slot : ℕ) (frame : MemoFrame) (m : Modulus) → AreKept graphs sets frames moduli kept → slice_get frames slot ≡ Some frame → slot < length moduli
    → length ins ≡ frame.inputs → length outs ≡ frame.outputs → (IsPrime (value_of m) → GraphValue (value_of m) graphs sets frame.graph ins (Value outs)) → All (λ x. x < value_of m) outs
    → AreKept graphs sets frames (set moduli slot (Some m)) (written_at (frame.at + frame.inputs) outs (written_at frame.at ins kept))
unfolding both
remembered graphs sets frames moduli kept ins outs slot frame m are is below many long value low =
    let there = are.stand.within slot frame is in
    let after : List ℕ = written_at (frame.at + frame.inputs) outs (written_at frame.at ins kept) in
    let same_count : length kept ≡ length after = sym (length-both kept ins outs frame there many long) in
    record {
      stand = subst (FramesStand frames) same_count are.stand;
      many = length-set moduli slot (Some m) ∙ are.many;
      each = λ i other by other_is by_is. elim (cases_eq i slot) [
        | inl e ↦
            let frames_same : Some frame ≡ Some other = sym is ∙ ap (slice_get frames) (sym e) ∙ other_is in
            let frame_is : frame ≡ other = cc in
            let moduli_same : Some (Some m) ≡ Some (Some by) = sym (set_same moduli slot (Some m) below) ∙ ap (slice_get (set moduli slot (Some m))) (sym e) ∙ by_is in
            let modulus_is : m ≡ by = cc in
            let inputs_are = input_written kept ins outs frame there many long in
            let outputs_are = output_written kept ins outs frame there many long in
            subst (λ (f : MemoFrame). Holds graphs sets after f by) frame_is (subst (Holds graphs sets after frame) modulus_is (record {
              value = λ prime. subst (λ (vs : List ℕ). GraphValue (value_of m) graphs sets frame.graph (kept_input after frame) (Value vs)) (sym outputs_are)
                  (subst (λ (xs : List ℕ). GraphValue (value_of m) graphs sets frame.graph xs (Value outs)) (sym inputs_are) (value prime));
              low = All-same (λ x. x < value_of m) _ _ outputs_are low;
            }))
        | inr different ↦
            let apart = frames_apart frames (length kept) slot i frame other are.stand is other_is different in
            let within = are.stand.within i other other_is in
            let before = are.each i other by other_is (sym (set_other moduli slot i (Some m) different) ∙ by_is) in
            let inputs_are = input_kept kept ins outs frame there many long other within apart in
            let outputs_are = output_kept kept ins outs frame there many long other within apart in
            record {
              value = λ prime. subst (λ (vs : List ℕ). GraphValue (value_of by) graphs sets other.graph (kept_input after other) (Value vs)) (sym outputs_are)
                  (subst (λ (xs : List ℕ). GraphValue (value_of by) graphs sets other.graph xs (Value (kept_output kept other))) (sym inputs_are) (before.value prime));
              low = All-same (λ x. x < value_of by) _ _ outputs_are before.low;
            }
      ];
    }

-- where there is no memo, none keeps anything
pub no_memos : (graphs : List Graph) (sets : List (List (List ℕ))) (kept : List ℕ) → AreKept graphs sets [] [] kept
no_memos graphs sets kept = record {
  stand = record { within = λ i frame is. cc; apart = λ i j first second before is. cc };
  many = refl;
  each = λ i frame m is. cc;
}

-- memos that keep nothing yet
none_at : (n i : ℕ) (m : Modulus) → slice_get (replicate n None) i ≡ Some (Some m) → ⊥
none_at zero i m is = cc
none_at (suc n) zero m is = let never : None ≡ Some m = cc in cc
none_at (suc n) (suc i) m is = none_at n i m is

pub none_kept : (graphs : List Graph) (sets : List (List (List ℕ))) (frames : List MemoFrame) (moduli : List (Option Modulus)) (kept : List ℕ) → FramesStand frames (length kept) → moduli ≡ replicate (length frames) None → AreKept graphs sets frames moduli kept
none_kept graphs sets frames moduli kept stand none = record {
  stand = stand;
  many = ap length none ∙ length-replicate {A = Option Modulus} (length frames) None;
  each = λ i frame m is by. absurd (none_at (length frames) i m (ap (λ (ms : List (Option Modulus)). slice_get ms i) (sym none) ∙ by));
}
