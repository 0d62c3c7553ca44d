use Rattle.std.proofs.Common.{◌≡◌, ℕ, ◌+◌, ◌-◌, get_or, subst, arith}
use Rattle.prime_field.specs.Modulus.{value_of}
use Rattle.prime_field.proofs.Moduli.{value_of-large}
use Rattle.elim_core.specs.Layout.{entry}
use Rattle.elim_core.proofs.Choices.{undecided, found_choice, only_choice}
use Rattle.elim_core.proofs.CutBacks.{zeros_below, below_keeps, Cut-more, step_found}
use Rattle.elim_core.proofs.SolvedLists.{SolvedSoFar, Solved-start, Solved-more, solved_low, solved_list}
use Rattle.elim_core.proofs.solver.write_list.Goals as goal

pub loop-i-init : goal.loop-i-init
loop-i-init c = record {
  cut = record {
    laid_out = c.if-not-choose.ensures.laid_out;
    keeps_used = c.if-not-choose.ensures.keeps_used;
    layered = c.if-not-choose.ensures.layered;
    filled = λ k low within. c.if-not-choose.ensures.used k low;
    cleared = c.if-not-choose.ensures.cleared;
  };
  solved = Solved-start _ _ _ _ _ _ _ c.write_constants.ensures.written;
}

pub fix-requires-clause-laid_out : goal.fix-requires-clause-laid_out
fix-requires-clause-laid_out c = (zeros_below _ _ _ _ _ _ _ _ _ _ _ c.loop-i.invariant.cut (omega arith) c.cut_back.ensures).laid_out

pub returns-then-not-fix-clause-keeps_used : goal.returns-then-not-fix-clause-keeps_used
returns-then-not-fix-clause-keeps_used c =
    below_keeps _ _ _ _ _ _ _ _ _ _ _ c.loop-i.invariant.cut (omega arith) c.cut_back.ensures _ _ c.fix.new.row
    c.if-not-fix.ensures.laid_out c.if-not-fix.ensures.keeps_used

pub returns-then-not-fix-clause-undefined : goal.returns-then-not-fix-clause-undefined
returns-then-not-fix-clause-undefined c prime multiples constants tells =
    undecided _ _ _ _ _ _ _ _ (value_of-large c.args.modulus) c.requires.ascending c.requires.unknowns
    (zeros_below _ _ _ _ _ _ _ _ _ _ _ c.loop-i.invariant.cut (omega arith) c.cut_back.ensures)
    multiples constants tells (omega arith) 1 (omega arith) (c.if-not-fix.ensures.refused prime)

pub write_column-requires-clause-numbers : goal.write_column-requires-clause-numbers
write_column-requires-clause-numbers c t k t_low above low =
    solved_low _ _ _ _ _ _ _ _ (omega (arith, value_of-large c.args.modulus)) c.requires.want c.back_substitute.ensures.residues
    c.loop-i.invariant.solved t k t_low (omega arith) low

pub loop-i-preserved : goal.loop-i-preserved
loop-i-preserved c =
    let one_less : c.loop-i.i ≡ c.loop-i.i - 1 + 1 = omega arith in
    let w : ℕ → ℕ = λ k. get_or c.back_substitute-in-loop-i.new.values k 0 in
    let below = zeros_below _ _ _ _ _ _ _ _ _ _ _ c.loop-i.invariant.cut (omega arith) c.cut_back.ensures in
    record {
      cut = Cut-more _ _ _ _ _ _ _ _ _ _ _ c.loop-i.invariant.cut (omega arith) c.cut_back.ensures _ _ _
          c.if-not-fix.ensures.laid_out c.if-not-fix.ensures.keeps_used c.if-not-fix.ensures.cleared;
      solved = Solved-more _ _ _ _ _ _ w _ _ (value_of-large c.args.modulus) c.requires.ascending c.requires.unknowns (omega arith)
          (found_choice _ _ _ _ _ _ _ c.requires.unknowns c.if-not-choose.ensures.zeros _ c.back_substitute.ensures.residues c.back_substitute.ensures.met)
          (step_found _ _ _ _ _ _ _ _ _ _ below c.if-not-fix.ensures.fixed w c.back_substitute-in-loop-i.ensures.residues c.back_substitute-in-loop-i.ensures.met)
          (subst (λ (x : ℕ). SolvedSoFar (value_of c.args.modulus) c.args.unknowns (entry c.args.unknowns c.args.rows.now c.args.ends.now) c.args.set.now c.args.want.now (λ k. get_or c.back_substitute.new.values k 0) c.loop-i.out x)
          one_less c.loop-i.invariant.solved)
          _ c.requires.want c.write_column.ensures.written c.write_column.ensures.others;
    }

pub returns-clause-solved : goal.returns-clause-solved
returns-clause-solved c =
    let whole : c.loop-i.i ≡ 0 = omega arith in
    let p : ℕ → ℕ = λ k. get_or c.back_substitute.new.values k 0 in
    solved_list _ _ _ _ _ p _ (value_of-large c.args.modulus) c.requires.ascending c.requires.unknowns
    (found_choice _ _ _ _ _ _ _ c.requires.unknowns c.if-not-choose.ensures.zeros p c.back_substitute.ensures.residues c.back_substitute.ensures.met)
    (only_choice _ _ _ _ _ _ _ c.requires.unknowns c.if-not-choose.ensures.zeros c.if-not-choose.ensures.used p c.back_substitute.ensures.residues c.back_substitute.ensures.met)
    (subst (λ (x : ℕ). SolvedSoFar (value_of c.args.modulus) c.args.unknowns (entry c.args.unknowns c.args.rows.now c.args.ends.now) c.args.set.now c.args.want.now p c.loop-i.out x)
    whole c.loop-i.invariant.solved)
