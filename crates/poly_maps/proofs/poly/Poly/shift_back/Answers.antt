use Rattle.std.proofs.Common.{ℕ, List, ◌≡◌, ◌<◌, ◌≤◌, ◌%◌, ◌∙◌, IfOk, length, take, get_or, sym, ap, subst, arith}
use Rattle.std.proofs.lemmas.Result.{IfOk-weaker}
use Rattle.prime_field.specs.Modulus.{value_of}
use Rattle.prime_field.proofs.Moduli.{value_of-large}
use Rattle.poly_maps.specs.Polynomial.{coefficient, value_at, AreResidues, IsPolynomial}
use Rattle.poly_maps.specs.Bound.{IsWithin}
use Rattle.poly_maps.specs.declared.bound.Bound.{Bound}
use Rattle.poly_maps.specs.Moved.{moved, point_sum}
use Rattle.poly_maps.specs.Shifted.{negatives, IsMoved}
use Rattle.poly_maps.proofs.Moves.{IsMoved-value, IsMoved-within, IsMoved-undone, negatives-cancel}
use Rattle.poly_maps.proofs.Expanding.{negatives-low, point-low}
use Rattle.poly_maps.proofs.poly.Poly.shift_back.Goals as goal

pub moved_by-requires-clause-point : goal.moved_by-requires-clause-point
moved_by-requires-clause-point c =
    subst (λ (x : List ℕ). (k : ℕ) → k < length x → get_or x k 0 < value_of c.args.m) (sym c.negated-negatives.ensures)
    (negatives-low (value_of c.args.m) c.entries-entries.result.now (omega (arith, value_of-large c.args.m)))

-- what comes back is the polynomial moved by the negatives
back_moved : (c : goal.After-moved_by) → IfOk c.moved_by.result (IsMoved (value_of c.args.m) (negatives (value_of c.args.m) c.args.s.now) c.args.self.now)
back_moved c =
    let places : take (length c.entries-entries.result.now) c.negated-negatives.result ≡ negatives (value_of c.args.m) c.args.s.now =
    c.negated-negatives.ensures ∙ ap (negatives (value_of c.args.m)) c.entries-entries.ensures.value in
    subst (λ (s : List ℕ). IfOk c.moved_by.result (IsMoved (value_of c.args.m) s c.args.self.now)) places
    (subst (λ (p : List (List ℕ × ℕ)). IfOk c.moved_by.result (IsMoved (value_of c.args.m) (take (length c.entries-entries.result.now) c.negated-negatives.result) p)) c.terms.ensures.same c.moved_by.ensures)

pub returns-clause-coefficients : goal.returns-clause-coefficients
returns-clause-coefficients c =
    IfOk-weaker c.moved_by.result (IsMoved (value_of c.args.m) (negatives (value_of c.args.m) c.args.s.now) c.args.self.now)
    (λ p. (e : List ℕ) → coefficient e p ≡ coefficient e (moved (negatives (value_of c.args.m) c.args.s.now) c.args.self.now) % value_of c.args.m)
    (λ p is. is.coefficients) (back_moved c)

pub returns-clause-residues : goal.returns-clause-residues
returns-clause-residues c =
    IfOk-weaker c.moved_by.result (IsMoved (value_of c.args.m) (negatives (value_of c.args.m) c.args.s.now) c.args.self.now)
    (AreResidues (value_of c.args.m)) (λ p is. is.low) (back_moved c)

pub returns-clause-polynomial : goal.returns-clause-polynomial
returns-clause-polynomial c =
    IfOk-weaker c.moved_by.result (IsMoved (value_of c.args.m) (negatives (value_of c.args.m) c.args.s.now) c.args.self.now)
    IsPolynomial (λ p is. is.polynomial) (back_moved c)

pub returns-clause-value : goal.returns-clause-value
returns-clause-value c =
    IfOk-weaker c.moved_by.result (IsMoved (value_of c.args.m) (negatives (value_of c.args.m) c.args.s.now) c.args.self.now)
    (λ p. (y : List ℕ) → value_at p y % value_of c.args.m ≡ value_at c.args.self.now (point_sum y (negatives (value_of c.args.m) c.args.s.now)) % value_of c.args.m)
    (λ p is. IsMoved-value (value_of c.args.m) (negatives (value_of c.args.m) c.args.s.now) c.args.self.now p is) (back_moved c)

pub returns-clause-degrees : goal.returns-clause-degrees
returns-clause-degrees c =
    IfOk-weaker c.moved_by.result (IsMoved (value_of c.args.m) (negatives (value_of c.args.m) c.args.s.now) c.args.self.now)
    (λ p. (b : Bound) → IsWithin b c.args.self.now → IsWithin b p)
    (λ p is. IsMoved-within (value_of c.args.m) (negatives (value_of c.args.m) c.args.s.now) c.args.self.now p is) (back_moved c)

pub returns-clause-back : goal.returns-clause-back
returns-clause-back c =
    let m : ℕ = value_of c.args.m in
    let low : (k : ℕ) → get_or c.args.s.now k 0 ≤ m = λ k. omega (arith, point-low c.args.m c.args.s.now c.entries-entries.ensures.point k) in
    IfOk-weaker c.moved_by.result (IsMoved m (negatives m c.args.s.now) c.args.self.now)
    (λ p. (e : List ℕ) → coefficient e (moved c.args.s.now p) % m ≡ coefficient e c.args.self.now)
    (λ p is.
    IsMoved-undone m (negatives m c.args.s.now) c.args.self.now p is c.args.s.now (omega (arith, value_of-large c.args.m)) c.terms.ensures.polynomial c.requires
    (negatives-cancel m c.args.s.now low)) (back_moved c)
