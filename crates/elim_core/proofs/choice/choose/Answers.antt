use Rattle.std.proofs.Common.{◌≡◌, ◌+◌, ℕ, length, inl, inr, ◌∙◌, subst, arith}
use Rattle.std.proofs.lemmas.Bool.{both_ways}
use Rattle.prime_field.specs.Modulus.{value_of}
use Rattle.prime_field.specs.Residue.{IsPrime}
use Rattle.elim_core.specs.Rows.{IsUntold}
use Rattle.elim_core.specs.Layout.{entry}
use Rattle.elim_core.specs.Solver.{has_number}
use Rattle.prime_field.proofs.Moduli.{value_of-large}
use Rattle.elim_core.proofs.Choices.{undecided, no_empty, used_cases, on_true, on_false}
use Rattle.elim_core.proofs.CutBacks.{LayeredSoFar, Layered-start, Layered-more}
use Rattle.elim_core.proofs.choice.choose.Goals as goal

pub loop-i-init : goal.loop-i-init
loop-i-init c =
    Layered-start _ _ _ _ _ _ _ c.requires.laid_out c.requires.cleared (c.zero_all.ensures.room ∙ c.requires.layers_room)
    (λ k low. c.zero_all.ensures.zeros k (omega (arith, c.requires.layers_room)))

pub returns-then-not-fix-clause-undefined : goal.returns-then-not-fix-clause-undefined
returns-then-not-fix-clause-undefined c prime multiples constants tells =
    undecided _ _ _ _ _ _ _ _ (value_of-large c.args.modulus) c.requires.ascending c.requires.unknowns c.loop-i.invariant.zeros
    multiples constants tells (omega arith) 0 (omega arith) (c.if-not-fix.ensures.refused prime)

pub loop-i-preserved : goal.loop-i-preserved
loop-i-preserved c =
    Layered-more _ _ _ _ _ _ _ _ _ _ _ _ _ _ c.loop-i.invariant (c.mark_empty.ensures.room ∙ c.loop-i.invariant.room)
    (λ k low none. c.mark_empty.ensures.empty k (omega (arith, c.loop-i.invariant.zeros.laid_out.ends_room)) none)
    (λ k low some. c.mark_empty.ensures.used k (omega (arith, c.loop-i.invariant.zeros.laid_out.ends_room)) some)
    c.if-not-fix.ensures.laid_out c.if-not-fix.ensures.keeps_used c.if-not-fix.ensures.fixed c.if-not-fix.ensures.cleared

pub returns-clause-zeros : goal.returns-clause-zeros
returns-clause-zeros c =
    let whole : c.loop-i.i ≡ length c.args.set.now = omega arith in
    let s = subst (λ (x : ℕ). LayeredSoFar (value_of c.args.modulus) c.args.unknowns c.args.rows.now c.args.ends.now c.loop-i.rows c.loop-i.ends c.loop-i.row c.loop-i.layers c.args.set.now x) whole c.loop-i.invariant in
    on_true _ _ (λ is. s.zeros)

pub returns-clause-layered : goal.returns-clause-layered
returns-clause-layered c =
    let whole : c.loop-i.i ≡ length c.args.set.now = omega arith in
    let s = subst (λ (x : ℕ). LayeredSoFar (value_of c.args.modulus) c.args.unknowns c.args.rows.now c.args.ends.now c.loop-i.rows c.loop-i.ends c.loop-i.row c.loop-i.layers c.args.set.now x) whole c.loop-i.invariant in
    on_true _ _ (λ is. s.layered)

pub returns-clause-undefined : goal.returns-clause-undefined
returns-clause-undefined c =
    let whole : c.loop-i.i ≡ length c.args.set.now = omega arith in
    on_false c.are_used.result (IsPrime (value_of c.args.modulus) → IsUntold (value_of c.args.modulus) c.args.unknowns (entry c.args.unknowns c.args.rows.now c.args.ends.now) (λ k. has_number c.args.set.now (k + 1))) (λ is prime multiples constants tells.
    elim (used_cases c.loop-i.ends c.args.unknowns) [
      | inl used ↦
          both_ways _ is (c.are_used.ensures.1 (λ k low. used k (omega (arith, c.loop-i.invariant.zeros.laid_out.ends_room))))
      | inr found ↦
          no_empty _ _ _ _ _ _ _ _ (value_of-large c.args.modulus) c.requires.ascending c.requires.unknowns c.loop-i.invariant.zeros
          multiples constants tells found.0 found.1 whole found.2
    ])
