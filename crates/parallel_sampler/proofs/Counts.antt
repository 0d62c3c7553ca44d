-- How often numbers stand in lists: distinct numbers below n, of which there are n, are all numbers below n.
use Rattle.std.proofs.Common.{◌≡◌, ℕ, zero, suc, ◌+◌, ◌<◌, ◌≤◌, ◌≢◌, cond, nat_eq, List, [], ◌∷◌, ◌++◌, length, sum_by, refl, ap, ◌∙◌, ⊎_elim, arith, eq-or-lt_of_le, lt_of_not-le, eq-eqb, ne_eqb}
use Rattle.std.proofs.lemmas.List.Sums.{sum_by-cons, sum_by_push}
use mathlib.Core.Logic.{dite}
use native.Mathlib.Decide.{dec_le}
use Rattle.parallel_sampler.specs.Board.{times, HasEachBelow, draws_of}
use Rattle.parallel_sampler.specs.declared.board.view.View.{View}
use Rattle.parallel_sampler.proofs.Sums.{up, up_add, up_same, up_none, up_full}

-- 1 where the numbers are the same, else 0
abbrev pub hit : ℕ → ℕ → ℕ
hit x y = cond (nat_eq y x) 1 0

pub hit_same : (x y : ℕ) → y ≡ x → hit x y ≡ 1
hit_same x y e = ap (λ b. cond b 1 0) (eq-eqb y x e)

pub hit_other : (x y : ℕ) → y ≢ x → hit x y ≡ 0
hit_other x y n = ap (λ b. cond b 1 0) (ne_eqb y x n)

pub times-cons : (x y : ℕ) (ys : List ℕ) → times x (y ∷ ys) ≡ hit x y + times x ys
times-cons x y ys = sum_by-cons (λ z. hit x z) y ys

pub times_push : (x : ℕ) (ys : List ℕ) (y : ℕ) → times x (ys ++ y ∷ []) ≡ times x ys + hit x y
times_push x ys y = sum_by_push (λ z. hit x z) ys y

up_hit : (n y : ℕ) → y < n → up n (λ x. hit x y) ≡ 1
up_hit zero y lt = absurd (omega arith)
up_hit (suc n) y lt = ⊎_elim (λ (same : y ≡ n). omega (arith, hit_same n y same, up_none (λ x. hit x y) n (λ x less. hit_other x y (λ e. omega arith))))
    (λ less. omega (arith, hit_other n y (λ e. omega arith), up_hit n y less)) (eq-or-lt_of_le (omega arith))

pub up_times : (n : ℕ) (xs : List ℕ) → ((x : ℕ) → n ≤ x → times x xs ≡ 0) → up n (λ x. times x xs) ≡ length xs
up_times n [] below = up_none (λ x. times x []) n (λ x lt. refl)
up_times n (y ∷ ys) below = let lt : y < n = dite (dec_le n y) (λ le. absurd (omega (arith, below y le, times-cons y y ys, hit_same y y refl))) (λ less. lt_of_not-le less) in
    omega (
      arith,
      up_same (λ x. times x (y ∷ ys)) (λ x. hit x y + times x ys) (λ x. times-cons x y ys) n,
      up_add (λ x. hit x y) (λ x. times x ys) n,
      up_hit n y lt,
      up_times n ys (λ x le. omega (arith, below x le, times-cons x y ys)),
    )

pub each_below : (n : ℕ) (xs : List ℕ) → length xs ≡ n → ((x : ℕ) → times x xs ≤ 1) → ((x : ℕ) → n ≤ x → times x xs ≡ 0) → HasEachBelow n xs
each_below n xs long distinct below = (up_full (λ x. times x xs) distinct n (up_times n xs below ∙ long), below)

pub draws-cons : (x : ℕ) (v : View) (views : List View) → draws_of x (v ∷ views) ≡ times x v.drawn + draws_of x views
draws-cons x v views = sum_by-cons (λ (u : View). times x u.drawn) v views

-- the draws of all numbers below n, where no others were drawn, are all draws
pub up_draws : (n : ℕ) (views : List View) → ((x : ℕ) → n ≤ x → draws_of x views ≡ 0) → up n (λ x. draws_of x views) ≡ sum_by (λ (v : View). length v.drawn) views
up_draws n [] below = up_none (λ x. draws_of x []) n (λ x lt. refl)
up_draws n (v ∷ views) below =
    omega (
      arith,
      up_same (λ x. draws_of x (v ∷ views)) (λ x. times x v.drawn + draws_of x views) (λ x. draws-cons x v views) n,
      up_add (λ x. times x v.drawn) (λ x. draws_of x views) n,
      up_times n v.drawn (λ x le. omega (arith, below x le, draws-cons x v views)),
      up_draws n views (λ x le. omega (arith, below x le, draws-cons x v views)),
      sum_by-cons (λ (u : View). length u.drawn) v views,
    )
