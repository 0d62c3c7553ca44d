use Rattle.std.proofs.Common.{◌≡◌, ◌≢◌, ◌*◌, ◌+◌, ◌<◌, ℕ, List, inl, inr, length, get_or, set, refl, sym, ◌∙◌, ap, length-set, arith}
use Rattle.std.proofs.lemmas.Bool.{cases_eq}
use Rattle.std.proofs.lemmas.List.{get_or-set_same, get_or-set_other}
use Rattle.elim_core.proofs.Columns.{same_place}
use Rattle.elim_core.proofs.Taken.{slot_before}
use Rattle.sparse_solver.proofs.vectors.write_column.Goals as goal

-- one more entry of a column is written
module _ (vector want : List ℕ) (n column : ℕ) (old out : List ℕ) (at v : ℕ) (room : length out ≡ length want * (n + 1)) (column_low : column < n + 1) (low : at < length want) where
  there : at * (n + 1) + column < length out
  there = omega (arith, room, slot_before at (length want) n column low column_low)

  written_more : v ≡ get_or vector (get_or want at 0) 0 → ((t : ℕ) → t < at → get_or out (t * (n + 1) + column) 0 ≡ get_or vector (get_or want t 0) 0) →
      (t : ℕ) → t < at + 1 → get_or (set out (at * (n + 1) + column) v) (t * (n + 1) + column) 0 ≡ get_or vector (get_or want t 0) 0
  written_more v_is so_far t t_low =
      elim (cases_eq t at) [
        | inl same ↦
            ap (λ x. get_or (set out (at * (n + 1) + column) v) (x * (n + 1) + column) 0) same ∙
            get_or-set_same out (at * (n + 1) + column) v 0 there ∙ v_is ∙ ap (λ x. get_or vector (get_or want x 0) 0) (sym same)
        | inr other ↦
            let apart : t * (n + 1) + column ≢ at * (n + 1) + column = λ same. other ((same_place n t column at column column_low column_low same).0) in
            get_or-set_other out (at * (n + 1) + column) (t * (n + 1) + column) v 0 apart ∙ so_far t (omega (arith, other))
      ]

  others_more : ((t k : ℕ) → k < n + 1 → k ≢ column → get_or out (t * (n + 1) + k) 0 ≡ get_or old (t * (n + 1) + k) 0) →
      (t k : ℕ) → k < n + 1 → k ≢ column → get_or (set out (at * (n + 1) + column) v) (t * (n + 1) + k) 0 ≡ get_or old (t * (n + 1) + k) 0
  others_more so_far t k k_low other =
      let apart : t * (n + 1) + k ≢ at * (n + 1) + column = λ same. other ((same_place n t k at column k_low column_low same).1) in
      get_or-set_other out (at * (n + 1) + column) (t * (n + 1) + k) v 0 apart ∙ so_far t k k_low other

pub loop-t-preserved : goal.loop-t-preserved
loop-t-preserved c =
    let room : length c.loop-t.out ≡ length c.args.want.now * (c.args.count + 1) = c.loop-t.invariant.room ∙ c.requires.room in
    record {
      room = length-set c.loop-t.out _ _ ∙ c.loop-t.invariant.room;
      written = written_more c.args.vector.now c.args.want.now c.args.count c.args.column c.args.out.now c.loop-t.out c.loop-t.t _ room c.requires.column c.loop-t-test.true refl c.loop-t.invariant.written;
      others = others_more c.args.vector.now c.args.want.now c.args.count c.args.column c.args.out.now c.loop-t.out c.loop-t.t _ room c.requires.column c.loop-t-test.true c.loop-t.invariant.others;
    }
