-- All that the seats of a board drew is a schedule.
use Rattle.std.proofs.Common.{◌≡◌, ℕ, zero, suc, ◌+◌, ◌<◌, List, [], ◌∷◌, length, sym, refl, ap, ◌∙◌, subst, arith, lt_of_not-le, zero-add}
use mathlib.Core.Logic.{dite}
use mathlib.Core.Option.{some, some-injective, some-ne-none}
use native.Mathlib.Decide.{ℕ_discrete, dec_le}
use lib.ListN.{get_elem?}
use Rattle.parallel_sampler.specs.Board.{times, draws_of, IsOrderly, Turn, IsSchedule}
use Rattle.parallel_sampler.specs.declared.board.view.View.{View}
use Rattle.parallel_sampler.proofs.Sums.{at_below, sum_has, sum_has_both, sum_finds, up_full}
use Rattle.parallel_sampler.proofs.Counts.{up_draws}

-- the turn is the draw of x
abbrev IsDraw : List View → ℕ → Turn → Type 0
IsDraw views x turn = (turn.number ≡ x) × (v : View) × (get_elem? views turn.seat ≡ some v) × (0 < times turn.number v.drawn)

fronted : (views : List View) (k : ℕ) (turn : Turn) (turns : List Turn) → IsDraw views k turn → ((i : ℕ) (t : Turn) → get_elem? turns i ≡ some t → IsDraw views (k + 1 + i) t)
    → (i : ℕ) (t : Turn) → get_elem? (turn ∷ turns) i ≡ some t → IsDraw views (k + i) t
fronted views k turn turns first rest zero t e = subst (λ m. IsDraw views m t) (omega arith) (subst (λ u. IsDraw views k u) (some-injective turn t e) first)
fronted views k turn turns first rest (suc i) t e = subst (λ m. IsDraw views m t) (omega arith) (rest i t e)

module _ (quota word : ℕ) (views : List View) (o : IsOrderly quota word views) where
  drawer : (x : ℕ) → x < word → (turn : Turn) × IsDraw views x turn
  drawer x lt = let one = up_full (λ y. draws_of y views) o.distinct word (up_draws word views o.below ∙ o.counted) x lt in
      let found = sum_finds (λ (v : View). times x v.drawn) views (omega (arith, one)) in (record { seat = found.0; number = x }, (refl, found.1, found.2, found.3))

  turns_from : (n k : ℕ) → k + n ≡ word → (turns : List Turn) × (length turns ≡ n) × ((i : ℕ) (t : Turn) → get_elem? turns i ≡ some t → IsDraw views (k + i) t)
  turns_from zero k e = ([], refl, λ i t there. absurd (some-ne-none t (sym there)))
  turns_from (suc n) k e = let first = drawer k (omega arith) in let rest = turns_from n (k + 1) (omega arith) in
      (first.0 ∷ rest.0, ap suc rest.1, fronted views k first.0 rest.0 first.1 rest.2)

  -- a number that a seat drew was drawn by no other
  same_seat : (x i j : ℕ) (v w : View) → get_elem? views i ≡ some v → get_elem? views j ≡ some w → 0 < times x v.drawn → 0 < times x w.drawn → i ≡ j
  same_seat x i j v w d e here there = dite (ℕ_discrete i j) (λ same. same)
      (λ apart. absurd (omega (arith, o.distinct x, sum_has_both (λ (u : View). times x u.drawn) views i j v w apart d e)))

  pub schedule : (turns : List Turn) × IsSchedule word views turns
  schedule = let made = turns_from word 0 (omega arith) in
      let at_turn : (k : ℕ) (t : Turn) → get_elem? made.0 k ≡ some t → IsDraw views k t = λ k t e. subst (λ m. IsDraw views m t) (zero-add k) (made.2 k t e) in (
        made.0,
        record {
          long = made.1;
          in_turn = λ k turn e. (at_turn k turn e).0;
          drawn = λ k turn e. let at = at_turn k turn e in (at.1, at.2, omega (arith, at.3, o.distinct turn.number, sum_has (λ (u : View). times turn.number u.drawn) views turn.seat at.1 at.2));
          all = λ id x v there has.
              let lt : x < word = dite (dec_le word x) (λ le. absurd (omega (arith, has, o.below x le, sum_has (λ (u : View). times x u.drawn) views id v there))) (λ less. lt_of_not-le less) in
              let turn = at_below made.0 x (omega (arith, lt, made.1)) in let at = at_turn x turn.0 turn.1 in
              let seat = same_seat x turn.0.seat id at.1 v at.2 there (subst (λ n. 0 < times n at.1.drawn) at.0 at.3) has in
              turn.1 ∙ ap some (λ i. record { seat = seat i; number = at.0 i });
        },
      )
