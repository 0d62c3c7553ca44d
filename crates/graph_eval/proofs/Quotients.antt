-- Of the quotient that was found, and of what is told of its expansion.
use Rattle.std.proofs.Common.{◌≡◌, ℕ, ℤ, ◌+◌, ◌-◌, ◌*◌, ◌<◌, ◌≤◌, List, [], ◌∷◌, ◌++◌, All, Result, Ok, Err, length, drop, take, slice_index, refl, sym, ◌∙◌, ap, subst, arith, inl, inr, append-nil, append_assoc, length-append, SFits, w32, to_z, of_z}
use Rattle.std.specs.Prelude.{◌≤ℤ◌, pos, negsuc, OnOk, slice_index_or, slice_range}
use Rattle.std.proofs.lemmas.Bool.{cases_eq}
use Rattle.std.proofs.lemmas.List.{drop-append-le, take-append-le}
use Rattle.std.proofs.lemmas.Int.{to_z-of_z}
use lib.Dec.{leb→le}
use lib.Seq.{drop_at, take_all}
use Rattle.std.proofs.lemmas.List.Elements.{All-append, All-nil, All-push, All-same}
use Rattle.std.proofs.Math.Seq.{get_or-append_seam}
use Rattle.std.proofs.Math.ListN.{get_or-append}
use Rattle.basic_nodes.specs.Plain.{chained}
use Rattle.basic_nodes.proofs.Pieces.{chained-more, chained_residues}
use Rattle.prime_field.specs.Residue.{IsPrime, IsUnit}
use Rattle.prime_field.proofs.Units.{units_of_prime}
use Rattle.thiele_interp.specs.Pairs.{IsAgreeing, IsLeastPair, IsReducedPair}
use Rattle.laurent_node.specs.Expansion.{IsExpansion, IsLeastExponent, place}
use Rattle.graph_eval.specs.declared.expansion.Window.{Window}
use Rattle.graph_eval.specs.Expanded.{AreExpansionsAdded, AreNotExpanded, FailsToExpand, HasNoQuotient, HasPole, IsExpandedFrom, IsExpansionAdded, IsQuotient, IsWindow, orders_of, points_of, strided, window_of}
use Rattle.graph_eval.specs.declared.outcome.Cause.{Cause}
use Rattle.graph_eval.proofs.Columns.{least_exponent, strided_grown}

-- a denominator whose last coefficient is 1 isn't zero
pub some_denominator : (m : ℕ) (num den : List ℕ) → IsReducedPair m num den → ((k : ℕ) → slice_index den k ≡ 0) → ⊥
some_denominator m num den reduced zero = omega (arith, reduced.den_last, zero (length den - 1))

pub least_of : (m : ℕ) (num den : List ℕ) → IsReducedPair m num den → (e : ℕ) × IsLeastExponent e den
least_of m num den reduced = least_exponent den (length den - 1) (λ none. omega (arith, none, reduced.den_last))

pub moved_pair : (P : List ℕ → List ℕ → Type 0) (a b c d : List ℕ) → a ≡ c → b ≡ d → P c d → P a b
moved_pair P a b c d first second holds = subst (λ (x : List ℕ). P x b) (sym first) (subst (P c) (sym second) holds)

-- where no quotient was found
module _ (m : ℕ) (window : Window) (values points : List ℕ) (points_are : points ≡ points_of window) where
  pub no_quotient : ((a b : List ℕ) → IsAgreeing m (length points) (slice_index points) (slice_index values) window.num window.den a b → ⊥) → HasNoQuotient m window values
  no_quotient none = subst (λ (ps : List ℕ). (a b : List ℕ) → IsAgreeing m (length ps) (slice_index ps) (slice_index values) window.num window.den a b → ⊥) points_are none

-- where one was
module _ (m : ℕ) (window : Window) (values num den points : List ℕ) (points_are : points ≡ points_of window) where
  pub quotient : IsLeastPair m (length points) (slice_index points) (slice_index values) window.num window.den num den → IsReducedPair m num den → IsQuotient m window values num den
  quotient least reduced = record {
    least = subst (λ (ps : List ℕ). IsLeastPair m (length ps) (slice_index ps) (slice_index values) window.num window.den num den) points_are least;
    reduced = reduced;
  }

  module _ (found : IsQuotient m window values num den) where
    pub expanded_from : (out : List ℕ) → IsPrime m → length out ≡ orders_of window → ((e : ℕ) → IsLeastExponent e den → IsExpansion m num den e (place window.lo) out) → IsExpandedFrom m window values out
    expanded_from out prime many expands =
        let least = least_of m num den found.reduced in
        record {
          num = num;
          den = den;
          quotient = found;
          least = least.0;
          exponent = least.1;
          unit = units_of_prime m (slice_index den least.0) prime (found.reduced.den_residues least.0) least.1.0;
          many = many;
          expansion = expands least.0 least.1;
        }

    pub has_pole : (count : ℕ) → count ≡ orders_of window → ((e : ℕ) → IsLeastExponent e den → (c : List ℕ) → length c ≡ count → IsExpansion m num den e (place window.lo) c → ⊥) → HasPole m window values
    has_pole count many fails =
        let least = least_of m num den found.reduced in
        record {
          num = num;
          den = den;
          quotient = found;
          least = least.0;
          exponent = least.1;
          none = λ c long. fails least.0 least.1 c (long ∙ sym many);
        }

-- an expansion that was written behind words
pub pushed_ok : (m : ℕ) (window : Window) (values old out new : List ℕ) (answer : Result (Unit {0}) Cause) → new ≡ old ++ out → length out ≡ orders_of window
    → OnOk answer (IsPrime m → IsExpandedFrom m window values out) → OnOk answer (All (λ x. x < m) out) → OnOk answer (IsExpansionAdded m window values old new)
pushed_ok m window values old out new (Err cause) words long expanded low = tt
pushed_ok m window values old out new (Ok done) words long expanded low = record { coefficients = out; words = words; expanded = expanded; low = low; long = long }

-- the expansions of columns one after the other, behind words that hold the columns
module _ (m : ℕ) (window : Window) (old : List ℕ) (base width : ℕ) (within : base ≤ length old) (enough : length (points_of window) * width ≤ length (drop base old)) where
  pub expansions_none : AreExpansionsAdded m window (drop base old) width 0 old old
  expansions_none = record {
    lists = [];
    many = refl;
    words = sym (append-nil old);
    each = λ prime k below. absurd (omega arith);
    low = All-nil (All (λ x. x < m));
    long = omega arith;
  }

  module _ (count : ℕ) (words : List ℕ) (so_far : AreExpansionsAdded m window (drop base old) width count old words) (below : count < width) where
    above : drop base words ≡ drop base old ++ chained so_far.lists
    above = ap (drop base) so_far.words ∙ drop-append-le base old (chained so_far.lists) within

    column_same : strided (drop base words) width count (length (points_of window)) ≡ strided (drop base old) width count (length (points_of window))
    column_same = ap (λ ws. strided ws width count (length (points_of window))) above ∙ strided_grown (drop base old) (chained so_far.lists) width count (length (points_of window)) below enough

    pub expansions_base : base ≤ length words
    expansions_base = omega (arith, ap length so_far.words, length-append old (chained so_far.lists))

    pub expansions_there : length (points_of window) * width ≤ length (drop base words)
    expansions_there = omega (arith, ap length above, length-append (drop base old) (chained so_far.lists))

    pub expansions_residues : All (λ x. x < m) (drop base old) → All (λ x. x < m) (drop base words)
    expansions_residues low = All-same (λ x. x < m) _ _ above (All-append (λ x. x < m) (drop base old) (chained so_far.lists) low (chained_residues m so_far.lists so_far.low))

    pub expansions_more : (new : List ℕ) → IsExpansionAdded m window (strided (drop base words) width count (length (points_of window))) words new → AreExpansionsAdded m window (drop base old) width (count + 1) old new
    expansions_more new added =
        let lists : List (List ℕ) = so_far.lists in
        let own : List ℕ = added.coefficients in
        record {
          lists = lists ++ own ∷ [];
          many = length-append lists (own ∷ []) ∙ ap (λ n. n + 1) so_far.many;
          words = added.words ∙ ap (λ ws. ws ++ own) so_far.words ∙ append_assoc old (chained lists) own ∙ ap (λ xs. old ++ xs) (sym (chained-more lists own));
          each = λ prime k within_all. elim (cases_eq k (length lists)) [
            | inl e ↦
                let given : IsExpandedFrom m window (strided (drop base old) width (length lists) (length (points_of window))) (slice_index_or (lists ++ own ∷ []) (length lists) []) =
                subst (IsExpandedFrom m window (strided (drop base old) width (length lists) (length (points_of window)))) (sym (get_or-append_seam lists own [] []))
                (subst (λ (j : ℕ). IsExpandedFrom m window (strided (drop base old) width j (length (points_of window))) own) (sym so_far.many)
                (subst (λ (values : List ℕ). IsExpandedFrom m window values own) column_same (added.expanded prime))) in
                subst (λ (j : ℕ). IsExpandedFrom m window (strided (drop base old) width j (length (points_of window))) (slice_index_or (lists ++ own ∷ []) j [])) (sym e) given
            | inr ne ↦
                let earlier : k < length lists = omega (arith, length-append lists (own ∷ [])) in
                subst (IsExpandedFrom m window (strided (drop base old) width k (length (points_of window)))) (sym (get_or-append lists (own ∷ []) [] k earlier)) (so_far.each prime k earlier)
          ];
          low = All-push (All (λ x. x < m)) lists own so_far.low added.low;
          long =
              let all = ap length (chained-more lists own) ∙ length-append (chained lists) own in
              let product : (count + 1) * orders_of window ≡ count * orders_of window + orders_of window = grind arith in
              omega (arith, so_far.long, added.long);
        }

    pub expansions_fail : (cause : Cause) → (IsPrime m → FailsToExpand m window (strided (drop base words) width count (length (points_of window))) cause) → IsPrime m → AreNotExpanded m window (drop base old) width cause
    expansions_fail cause fails prime = record {
      lists = so_far.lists;
      each = so_far.each prime;
      before = omega (arith, so_far.many);
      fails = subst (λ (j : ℕ). FailsToExpand m window (strided (drop base old) width j (length (points_of window))) cause) (sym so_far.many)
          (subst (λ (values : List ℕ). FailsToExpand m window values cause) column_same (fails prime));
    }

  -- all of them, moved down over the columns
  pub expansions_done : (words new : List ℕ) (top end : ℕ) → AreExpansionsAdded m window (drop base old) width width old words → top ≡ length old → end ≡ length words → new ≡ take base words ++ slice_range words top end
      → AreExpansionsAdded m window (drop base old) width width (take base old) new
  expansions_done words new top end added top_is end_is moved =
      let all = chained added.lists in
      let long = ap length added.words ∙ length-append old all in
      let behind : slice_range words top end ≡ all =
      ap (λ ws. take (end - top) (drop top ws)) added.words ∙ ap (take (end - top)) (drop_at old all top (sym top_is)) ∙ take_all (end - top) all (omega arith) in
      let front : take base words ≡ take base old = ap (take base) added.words ∙ take-append-le base old all within in
      record {
        lists = added.lists;
        many = added.many;
        words = moved ∙ ap (λ ws. take base words ++ ws) behind ∙ ap (λ ws. ws ++ all) front;
        each = added.each;
        low = added.low;
        long = added.long;
      }

-- no order is past a later one
place_le : (lo hi : ℤ) → lo ≤ℤ hi → place lo ≤ place hi
place_le (pos a) (pos b) order = let h : a ≤ b = leb→le a b order.le in omega arith
place_le (pos a) (negsuc b) order = absurd order.le
place_le (negsuc a) (pos b) order = omega arith
place_le (negsuc a) (negsuc b) order = let h : b ≤ a = leb→le b a order.le in omega arith

-- how far the orders go
pub orders-room : (window : Window) → IsWindow window → orders_of window + place window.lo ≡ place window.hi + 1
orders-room window is = let order = place_le window.lo window.hi is.ordered in omega arith

-- orders are small
lowest_fits : (lo hi : ℤ) → negsuc 63 ≤ℤ lo → lo ≤ℤ hi → hi ≤ℤ pos 64 → SFits w32 lo
lowest_fits (negsuc a) hi low order high = let h : a ≤ 63 = leb→le a 63 low.le in record { sfits = omega arith }
lowest_fits (pos a) (pos b) low order high = let h : a ≤ b = leb→le a b order.le in let k : b ≤ 64 = leb→le b 64 high.le in record { sfits = omega arith }
lowest_fits (pos a) (negsuc b) low order high = absurd order.le

highest_fits : (lo hi : ℤ) → negsuc 63 ≤ℤ lo → lo ≤ℤ hi → hi ≤ℤ pos 64 → SFits w32 hi
highest_fits lo (pos b) low order high = let k : b ≤ 64 = leb→le b 64 high.le in record { sfits = omega arith }
highest_fits (negsuc a) (negsuc b) low order high = let h : b ≤ a = leb→le b a order.le in let k : a ≤ 63 = leb→le a 63 low.le in record { sfits = omega arith }
highest_fits (pos a) (negsuc b) low order high = absurd order.le

-- so that a window is the same by the orders as the program has them
pub window_told : (lo hi : ℤ) (num den : ℕ) → negsuc 63 ≤ℤ lo → lo ≤ℤ hi → hi ≤ℤ pos 64 → window_of (to_z w32 (of_z w32 lo)) (to_z w32 (of_z w32 hi)) num den ≡ window_of lo hi num den
window_told lo hi num den low order high =
    ap (λ n. window_of n (to_z w32 (of_z w32 hi)) num den) (to_z-of_z w32 lo (lowest_fits lo hi low order high))
    ∙ ap (λ n. window_of lo n num den) (to_z-of_z w32 hi (highest_fits lo hi low order high))
