-- Each row is kept behind those before it, until one leaves no solution.
use Rattle.std.proofs.Common.{◌≡◌, ℕ, ◌+◌, ◌*◌, ◌-◌, ◌<◌, take, drop, get_or, sym, ◌∙◌, ap, subst, arith}
use Rattle.prime_field.specs.Modulus.{value_of}
use Rattle.prime_field.proofs.Moduli.{value_of-large}
use Rattle.elim_core.specs.Solved.{IsKept}
use Rattle.elim_core.proofs.KeptRows.{kept_start}
use Rattle.graph_eval.specs.Systems.{rows_in}
use Rattle.graph_eval.proofs.SystemLaws.{list_more, list_none, row_piece, row_residues}
use Rattle.graph_eval.proofs.systems.absorb_rows.Goals as goal

pub loop-place-init : goal.loop-place-init
loop-place-init c = kept_start _ _ (value_of c.args.m) c.args.unknowns (value_of-large c.args.m) c.start-elimination.ensures.belongs c.start-elimination.ensures.kind c.start-elimination.ensures.free

pub absorb-requires-clause-belongs : goal.absorb-requires-clause-belongs
absorb-requires-clause-belongs c = c.loop-place.invariant.belongs

pub absorb-requires-clause-room : goal.absorb-requires-clause-room
absorb-requires-clause-room c =
    row_piece c.args.list.now c.loop-place.place c.args.rows c.args.unknowns _ c.loop-place-test.true c.requires.entries (omega arith) ∙ ap (λ n. n + 1) (sym c.loop-place.invariant.same_unknowns)

pub absorb-requires-clause-residues : goal.absorb-requires-clause-residues
absorb-requires-clause-residues c = λ k low.
    subst (λ (m : ℕ). get_or (take (c.loop-place.place * (c.args.unknowns + 1) + c.args.unknowns + 1 - c.loop-place.place * (c.args.unknowns + 1)) (drop (c.loop-place.place * (c.args.unknowns + 1)) c.args.list.now)) k 0 < m) (sym c.loop-place.invariant.same_modulus)
    (row_residues (value_of c.args.m) c.args.list.now c.loop-place.place c.args.rows c.args.unknowns (c.loop-place.place * (c.args.unknowns + 1) + c.args.unknowns + 1 - c.loop-place.place * (c.args.unknowns + 1)) k c.loop-place-test.true c.requires.entries (omega arith) (omega (arith, c.loop-place.invariant.same_unknowns)) c.requires.residues)

pub returns-in-Contradiction-clause-unsolvable : goal.returns-in-Contradiction-clause-unsolvable
returns-in-Contradiction-clause-unsolvable c =
    list_none c.loop-place.elimination c.absorb.new.self c.loop-place.words c.absorb.new.words (value_of c.args.m) c.args.unknowns c.loop-place.place c.args.list.now _ c.absorb.result c.loop-place.invariant c.absorb.ensures.absorbed
    (ap (λ n. take n (drop (c.loop-place.place * (c.args.unknowns + 1)) c.args.list.now)) (omega arith)) c.args.rows c.loop-place-test.true c.in-Contradiction.is

pub loop-place-preserved : goal.loop-place-preserved
loop-place-preserved c =
    list_more c.loop-place.elimination c.absorb.new.self c.loop-place.words c.absorb.new.words (value_of c.args.m) c.args.unknowns c.loop-place.place c.args.list.now _ c.absorb.result c.loop-place.invariant c.absorb.ensures.absorbed
    (ap (λ n. take n (drop (c.loop-place.place * (c.args.unknowns + 1)) c.args.list.now)) (omega arith)) c.absorb.ensures.belongs c.absorb.ensures.kind c.in_default.not-Contradiction

pub returns-clause-kept : goal.returns-clause-kept
returns-clause-kept c =
    let whole : c.loop-place.place ≡ c.args.rows = omega (arith, c.loop-place-test.false, c.loop-place.auto.place-end) in
    subst (λ (n : ℕ). IsKept c.loop-place.elimination c.loop-place.words (value_of c.args.m) c.args.unknowns (rows_in n c.args.unknowns c.args.list.now)) whole c.loop-place.invariant
