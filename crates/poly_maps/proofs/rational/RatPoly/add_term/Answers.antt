use Rattle.std.proofs.Common.{List, ℕ, sym, subst}
use Rattle.poly_maps.specs.declared.fraction.Frac.{Frac}
use Rattle.poly_maps.proofs.Fractions.{IsPut, put, there-some}
use Rattle.poly_maps.proofs.rational.RatPoly.add_term.Goals as goal

-- the terms after the insertion
after : (c : goal.In_ok-insert) → IsPut c.args.self.now c.insert.new.self.items c.args.mono c.args.f
after c =
    let belongs = rw c.deref.ensures.value at c.in-Err.ensures in
    let done = put c.self.inside.terms.items c.args.mono c.args.f c.in-Err.place c.self.invariant c.exponents-exponents.ensures.eight c.requires.fraction belongs.belongs in
    subst (λ (old : List (List ℕ × Frac)). IsPut old c.insert.new.self.items c.args.mono c.args.f) c.self.view_is
    (subst (λ (new : List (List ℕ × Frac)). IsPut c.self.inside.terms.items new c.args.mono c.args.f) (sym c.in_ok-insert.ensures.items) done)

-- the monomial isn't there
never : (c : goal.In_default) → ⊥
never c =
    let there = rw (c.deref.ensures.value, c.self.view_is) at c.in_default.ensures in
    there-some c.args.self.now c.args.mono c.in_default.field-0 there.there c.requires.absent

pub invariant_of-self : goal.invariant_of-self
invariant_of-self c = (after c).rational

pub returns-in_ok-insert-clause-ok : goal.returns-in_ok-insert-clause-ok
returns-in_ok-insert-clause-ok c = (after c).fractions

pub returns-in_ok-insert-clause-last : goal.returns-in_ok-insert-clause-last
returns-in_ok-insert-clause-last c = (after c).last

pub returns-in_ok-insert-clause-rational : goal.returns-in_ok-insert-clause-rational
returns-in_ok-insert-clause-rational c = (after c).rational

pub returns-in_default-clause-ok : goal.returns-in_default-clause-ok
returns-in_default-clause-ok c = absurd (never c)

pub returns-in_default-clause-last : goal.returns-in_default-clause-last
returns-in_default-clause-last c = absurd (never c)
