-- Each step on a board keeps its rule.
use Rattle.std.proofs.Common.{◌≡◌, ℕ, ◌+◌, ◌%◌, ◌^◌, ◌≤◌, false, true≢false, List, [], ◌∷◌, ◌++◌, length, set, slice_index, slice_set, sum_by, sym, refl, ap, ◌∙◌, subst, ⊎_elim, arith, length-append, mod-eq_of_lt, le_trans}
use Rattle.std.proofs.lemmas.List.Sums.{sum_by-append, sum_by_push}
use mathlib.Core.Logic.{dite}
use mathlib.Core.Option.{none, some, some-injective}
use native.Mathlib.Decide.{ℕ_discrete}
use lib.ListN.{get_elem?}
use Rattle.atomic_table.specs.Table.{Me, step, Act, keeps, Valid, homes_after, carried_after, Allows, Splits, Joins, Final, Seen}
use Rattle.atomic_table.proofs.Lists.{at_set, at_snoc}
use Rattle.parallel_sampler.specs.Board.{times, HasEachBelow, fresh, spent, lessened, drew, joined, draws_of, IsOrderly, IsKept, DrawsNumber}
use Rattle.parallel_sampler.specs.declared.board.view.View.{View}
use Rattle.parallel_sampler.proofs.Sums.{sum_set, sum_has}
use Rattle.parallel_sampler.proofs.Counts.{hit, hit_same, hit_other, times_push, each_below}

-- what the rule says of one view among all, and what is true of all views after a step of its seat
module _ (quota word : ℕ) (views : List View) (o : IsOrderly quota word views) (id : ℕ) (v : View) (seen : get_elem? views id ≡ some v) where
  unseen : (x : ℕ) → word ≤ x → times x v.drawn ≡ 0
  unseen x le = omega (arith, o.below x le, sum_has (λ (u : View). times x u.drawn) views id v seen)

  once : (x : ℕ) → times x v.drawn ≤ 1
  once x = le_trans (sum_has (λ (u : View). times x u.drawn) views id v seen) (o.distinct x)

  short : word + v.left ≤ quota
  short = omega (arith, o.dealt, sum_has (λ (u : View). u.left) views id v seen)

  drawn_more : v.spent ≡ false → 1 ≤ v.left → IsOrderly quota (word + 1) (set views id (drew v word))
  drawn_more live more =
      let draws : (x : ℕ) → draws_of x (set views id (drew v word)) ≡ draws_of x views + hit x word = λ x. omega (arith, sum_set (λ (u : View). times x u.drawn) views id v (drew v word) seen, times_push x v.drawn word) in
      record {
        counted = omega (arith, sum_set (λ (u : View). length u.drawn) views id v (drew v word) seen, length-append v.drawn (word ∷ []), o.counted);
        distinct = λ x. dite (ℕ_discrete word x) (λ same. omega (arith, draws x, hit_same x word same, o.below x (omega arith))) (λ apart. omega (arith, draws x, hit_other x word apart, o.distinct x));
        below = λ x le. omega (arith, draws x, hit_other x word (λ same. omega arith), o.below x (omega arith));
        dealt = omega (arith, sum_set (λ (u : View). u.left) views id v (drew v word) seen, o.dealt);
        quotas = λ k u e unspent. ⊎_elim (λ t. ap (λ (y : View). y.quota) (sym t.1) ∙ o.quotas id v seen live) (λ t. o.quotas k u t.1 unspent) (at_set views id k (drew v word) u e);
      }

  split_more : (give : ℕ) → v.spent ≡ false → give ≤ v.left → IsOrderly quota word (set views id (lessened v give) ++ fresh v.quota give ∷ [])
  split_more give live le =
      let left : List View = set views id (lessened v give) in let right : View = fresh v.quota give in
      let draws : (x : ℕ) → draws_of x (left ++ right ∷ []) ≡ draws_of x views = λ x. let f : View → ℕ = λ u. times x u.drawn in omega (arith, sum_by_push f left right, sum_set f views id v (lessened v give) seen) in
      record {
        counted = omega (arith, sum_by_push (λ (u : View). length u.drawn) left right, sum_set (λ (u : View). length u.drawn) views id v (lessened v give) seen, o.counted);
        distinct = λ x. omega (arith, draws x, o.distinct x);
        below = λ x above. omega (arith, draws x, o.below x above);
        dealt = omega (arith, sum_by_push (λ (u : View). u.left) left right, sum_set (λ (u : View). u.left) views id v (lessened v give) seen, o.dealt);
        quotas = λ k u e unspent. ⊎_elim (λ old. ⊎_elim (λ t. ap (λ (y : View). y.quota) (sym t.1) ∙ o.quotas id v seen live) (λ t. o.quotas k u t.1 unspent) (at_set views id k (lessened v give) u old))
            (λ new. ap (λ (y : View). y.quota) (sym new) ∙ o.quotas id v seen live) (at_snoc left right u k e);
      }

  join_more : (other : ℕ) (w : View) → v.spent ≡ false → get_elem? (set views id (joined v w)) other ≡ some w → IsOrderly quota word (set (set views id (joined v w)) other spent)
  join_more other w live there =
      let both : List View = set views id (joined v w) in
      let moved : (f : View → ℕ) → f spent ≡ 0 → f (joined v w) ≡ f v + f w → sum_by f (set both other spent) ≡ sum_by f views = λ f none sum. omega (arith, sum_set f views id v (joined v w) seen, sum_set f both other w spent there) in
      let draws : (x : ℕ) → draws_of x (set both other spent) ≡ draws_of x views = λ x. moved (λ u. times x u.drawn) refl (sum_by-append (λ z. hit x z) v.drawn w.drawn) in
      record {
        counted = omega (arith, moved (λ u. length u.drawn) refl (length-append v.drawn w.drawn), o.counted);
        distinct = λ x. omega (arith, draws x, o.distinct x);
        below = λ x above. omega (arith, draws x, o.below x above);
        dealt = omega (arith, moved (λ u. u.left) refl refl, o.dealt);
        quotas = λ k u e unspent. ⊎_elim (λ t. absurd (true≢false (ap (λ (y : View). y.spent) t.1 ∙ unspent)))
            (λ rest. ⊎_elim (λ t. ap (λ (y : View). y.quota) (sym t.1) ∙ o.quotas id v seen live) (λ t. o.quotas k u t.1 unspent) (at_set views id k (joined v w) u rest.1)) (at_set both other k spent u e);
      }

  closed : v.spent ≡ false → v.left + length v.drawn ≡ v.quota → HasEachBelow word v.drawn
  closed live all = each_below word v.drawn
      (omega (arith, all, o.quotas id v seen live, o.dealt, o.counted, sum_has (λ (u : View). u.left) views id v seen, sum_has (λ (u : View). length u.drawn) views id v seen)) once unseen

module _ {S : Type 0} where
  pub draws : (quota slots id : ℕ) (me : Me S View) → me.0.spent ≡ false → 1 ≤ me.0.left → me.0.quota ≤ 2 ^ 32 → Allows {S = S} {V = View} (IsKept quota) slots id me 0 (λ n. (n + 1) % 2 ^ 64) (DrawsNumber (step slots 0 1 0 none) me)
  draws quota slots id me live more bound s kept long seen fits =
      let word = kept.0 in let o = kept.2 in let same = o.quotas id me.0 seen live in let room = short quota word s.views o id me.0 seen in
      let P : List ℕ → Type 0 = λ ws. (w : View) × (a : Act S) × Valid s.homes me.1 a
      × IsKept quota (record { words = slice_set ws 0 ((slice_index ws 0 + 1) % 2 ^ 64); homes = homes_after s.homes me.1 a; views = slice_set s.views id w })
      × DrawsNumber (step slots 0 1 0 none) me (slice_index ws 0) (w, carried_after me.1 a) in
      subst P (sym kept.1) (
        drew me.0 word,
        keeps,
        tt,
        (word + 1, ap (λ n. n ∷ []) (mod-eq_of_lt (omega arith)), drawn_more quota word s.views o id me.0 seen live more),
        (omega arith, unseen quota word s.views o id me.0 seen word (omega arith), refl),
      )

  pub splits : (quota id : ℕ) (v : View) (give : ℕ) → v.spent ≡ false → give ≤ v.left → Splits {S = S} {V = View} (IsKept quota) id v (lessened v give) (fresh v.quota give)
  splits quota id v give live le s kept seen = (kept.0, kept.1, split_more quota kept.0 s.views kept.2 id v seen give live le)

  pub joins : (quota id : ℕ) (v : View) (other : ℕ) (w : View) → v.spent ≡ false → Joins {S = S} {V = View} (IsKept quota) id v other w (joined v w) spent
  joins quota id v other w live s kept seen apart there = (kept.0, kept.1, join_more quota kept.0 s.views kept.2 id v seen other w live there)

  pub closes : (quota id : ℕ) (v : View) (words : List ℕ) (slots : List S) (count : ℕ) → v.spent ≡ false → v.left + length v.drawn ≡ v.quota → Final {S = S} {V = View} (Seen (IsKept quota) id v) words slots → get_elem? words 0 ≡ some count → HasEachBelow count v.drawn
  closes quota id v words slots count live all end e = let s = end.0 in let kept = end.1.0 in
      let same : kept.0 ≡ count = some-injective kept.0 count (subst (λ ws. get_elem? ws 0 ≡ some count) (sym end.2 ∙ kept.1) e) in
      subst (λ n. HasEachBelow n v.drawn) same (closed quota kept.0 s.views kept.2 id v end.1.1 live all)
